-- A column that is written in two calls: its head, which is the header and the dictionary, and then its entries.
use Rattle.std.proofs.Common.{ℕ, ◌≡◌, ◌++◌, List, length, map, Option, Result, Err, Bool, sym, ap, subst, ◌∙◌, append_assoc}
use Rattle.std.specs.Prelude.{flat_map}
use Rattle.std.proofs.lemmas.List.{length-map}
use Rattle.std.proofs.lemmas.List.Folds.{flat_map-map}
use Rattle.lasso_parts.specs.Texts.{Text}
use Rattle.lasso_codes.specs.Columns.{column_of, entries_of, entry_at, entry_bytes, head_of, header}
use Rattle.lasso_codes.specs.Distinct.{with_feed}
use Rattle.lasso_codes.specs.Streams.{Writes, WritesAll}
use Rattle.lasso_codes.specs.declared.error.RunError.{RunError}
use Rattle.lasso_codes.proofs.Written.{writes_front, writes_front_fails}

module _ (binary : Bool) (list : List Text) (numbers : List ℕ) where
  -- the head and the entries are the column
  pub head_whole : column_of binary list (map entry_at numbers) ≡ head_of binary list (length numbers) ++ entries_of binary numbers
  head_whole =
      let texts = flat_map with_feed list in
      ap (λ bs. header binary (length list) (length (map entry_at numbers)) ++ (texts ++ bs)) (flat_map-map (entry_bytes binary) entry_at numbers)
      ∙ ap (λ n. header binary (length list) n ++ (texts ++ entries_of binary numbers)) (length-map numbers entry_at)
      ∙ sym (append_assoc (header binary (length list) (length numbers)) texts (entries_of binary numbers))

  pub head_then : (before mid after : Option (List ℕ)) (result : Result (Unit {0}) RunError) → Writes before mid (λ part. part ≡ head_of binary list (length numbers)) → Writes mid after (WritesAll (entries_of binary numbers) result) → Writes before after (WritesAll (column_of binary list (map entry_at numbers)) result)
  head_then before mid after result head entries =
      subst (λ bs. Writes before after (WritesAll bs result)) (sym head_whole) (writes_front before mid after (head_of binary list (length numbers)) (entries_of binary numbers) result head entries)

  pub head_fails : (before after : Option (List ℕ)) (error : RunError) → Writes before after (WritesAll (head_of binary list (length numbers)) (Err error)) → Writes before after (WritesAll (column_of binary list (map entry_at numbers)) (Err error))
  head_fails before after error head =
      subst (λ bs. Writes before after (WritesAll bs (Err error))) (sym head_whole) (writes_front_fails before after (head_of binary list (length numbers)) (entries_of binary numbers) error head)
