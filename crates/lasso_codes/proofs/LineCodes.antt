-- The codes of lines, by the codes of their texts.
--
-- A line is in a list of lines where its text is in the list of their texts. So an entry that is rewritten for one list
-- is the same as for the other.
use Rattle.std.proofs.Common.{ℕ, zero, suc, ◌≡◌, ◌+◌, Bool, List, [], ◌∷◌, Option, Some, None, Ok, refl, sym, ap, ◌∙◌}
use Rattle.std.specs.Prelude.{All, IfSome, option_map, slice_get}
use Rattle.std.proofs.lemmas.List.Elements.{All-head, All-tail}
use Rattle.std.proofs.lemmas.Option.{slice_get-map}
use Rattle.hex.specs.Hex.{IsBytes}
use Rattle.lasso_parts.specs.Texts.{Text}
use Rattle.lasso_input.specs.Texts.{text_of}
use Rattle.lasso_codes.specs.Limits.{line_texts}
use Rattle.lasso_codes.specs.Merge.{code_or_past, recoded}
use Rattle.lasso_codes.specs.Reading.{cut_entry, items_from, on_item}
use Rattle.lasso_codes.specs.declared.entries.Entry.{Entry}
use Rattle.lasso_codes.specs.declared.entries.Entry.TheVariants.{Missing, Bad, Null, Code}
use Rattle.lasso_codes.proofs.LineTexts.{position_of_text}

bytes_at : (lines : List Text) (n : ℕ) → All IsBytes lines → IfSome (slice_get lines n) IsBytes
bytes_at [] n all = tt
bytes_at (line ∷ lines) zero all = All-head IsBytes line lines all
bytes_at (line ∷ lines) (suc n) all = bytes_at lines n (All-tail IsBytes line lines all)

module _ (list lines : List Text) (list_bytes : All IsBytes list) (lines_bytes : All IsBytes lines) where
  same_code : (o : Option Text) (number : ℕ) → IfSome o IsBytes → code_or_past list o number ≡ code_or_past (line_texts list) (option_map text_of o) number
  same_code None number bytes = refl
  same_code (Some line) number bytes = ap (λ code. Ok code) (sym (position_of_text list line list_bytes bytes))

  -- an entry, rewritten
  recoded_same : (entry : Entry) (number : ℕ) → recoded list lines entry number ≡ recoded (line_texts list) (line_texts lines) entry number
  recoded_same Missing number = refl
  recoded_same Bad number = refl
  recoded_same Null number = refl
  recoded_same (Code code) number =
      same_code (slice_get lines code) number (bytes_at lines code lines_bytes) ∙ ap (λ o. code_or_past (line_texts list) o number) (sym (slice_get-map text_of lines code))

  -- all entries of a column, rewritten
  pub recoded_items : (n : ℕ) (binary : Bool) (number : ℕ) (bytes : List ℕ) → items_from (recoded list lines) n binary number bytes ≡ items_from (recoded (line_texts list) (line_texts lines)) n binary number bytes
  recoded_items zero binary number bytes = refl
  recoded_items (suc n) binary number bytes =
      let cut = cut_entry binary bytes in
      ap (λ made. on_item made (items_from (recoded list lines) n binary (number + 1) cut.1)) (recoded_same cut.0 number)
      ∙ ap (λ others. on_item (recoded (line_texts list) (line_texts lines) cut.0 number) others) (recoded_items n binary (number + 1) cut.1)
