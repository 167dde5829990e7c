-- Entries that are written in parts, one after another.
--
-- The entries of some numbers are those of the first n, followed by those of the others. So each part that is
-- written leaves the entries of the numbers after it. If a part is not written whole, what was written of it is
-- a beginning of all entries.
use Rattle.std.proofs.Common.{ℕ, ◌≡◌, ◌+◌, ◌*◌, ◌≤◌, List, [], ◌++◌, length, take, drop, min, Err, Bool, sym, ap, subst, ◌∙◌, append_assoc, arith}
use Rattle.std.proofs.lemmas.Grind.{flat_map-append}
use Rattle.std.proofs.lemmas.List.{append-nil, take-append-drop, take_all, take_min, drop_min}
use Rattle.std.proofs.Math.Seq.{take-add}
use Rattle.std.specs.Fork.{slice_chunk}
use Rattle.lasso_codes.specs.Columns.{entries_of, entry_at, entry_bytes}
use Rattle.lasso_codes.specs.Streams.{WritesAll}
use Rattle.lasso_codes.specs.declared.error.RunError.{RunError}
use Rattle.lasso_codes.proofs.Blocks.{block_ends}
use Rattle.lasso_codes.proofs.Written.{HasLeft, front_fails}

entries_join : (binary : Bool) (front back : List ℕ) → entries_of binary (front ++ back) ≡ entries_of binary front ++ entries_of binary back
entries_join binary front back = flat_map-append (λ n. entry_bytes binary (entry_at n)) front back

entries_split : (binary : Bool) (n : ℕ) (numbers : List ℕ) → entries_of binary numbers ≡ entries_of binary (take n numbers) ++ entries_of binary (drop n numbers)
entries_split binary n numbers = ap (λ ns. entries_of binary ns) (sym (take-append-drop n numbers)) ∙ entries_join binary (take n numbers) (drop n numbers)

-- ---- the numbers that are left, and the first n of them

module _ (binary : Bool) (whole : List ℕ) (rest : List ℕ) (n : ℕ) (part more : List ℕ) (so_far : HasLeft whole (entries_of binary rest) part) where
  -- they are written
  pub rest_then : more ≡ entries_of binary (take n rest) → HasLeft whole (entries_of binary (drop n rest)) (part ++ more)
  rest_then is =
      append_assoc part more (entries_of binary (drop n rest))
      ∙ ap (λ bs. part ++ bs) (ap (λ bs. bs ++ entries_of binary (drop n rest)) is ∙ sym (entries_split binary n rest))
      ∙ so_far

  -- a part of them is written
  pub rest_fails : (error : RunError) → WritesAll (entries_of binary (take n rest)) (Err error) more → WritesAll whole (Err error) (part ++ more)
  rest_fails error written =
      block_ends part (entries_of binary rest) whole more (Err error) so_far
      (subst (λ bs. WritesAll bs (Err error) more) (sym (entries_split binary n rest))
      (front_fails more (entries_of binary (take n rest)) (entries_of binary (drop n rest)) error written))

-- none are left
pub rest_ends : (binary : Bool) (whole rest part : List ℕ) → rest ≡ [] → HasLeft whole (entries_of binary rest) part → part ≡ whole
rest_ends binary whole rest part none so_far =
    sym (append-nil part) ∙ subst (λ ns. HasLeft whole (entries_of binary ns) part) none so_far

-- ---- the parts before an index

module _ (binary : Bool) (numbers : List ℕ) (size index : ℕ) (part more : List ℕ) (so_far : part ≡ entries_of binary (take (index * size) numbers)) where
  next_size : index * size + size ≡ (index + 1) * size
  next_size = omega arith

  -- the part at the index is written
  pub part_then : more ≡ entries_of binary (slice_chunk numbers size index) → part ++ more ≡ entries_of binary (take ((index + 1) * size) numbers)
  part_then is =
      ap (λ bs. bs ++ more) so_far
      ∙ ap (λ bs. entries_of binary (take (index * size) numbers) ++ bs) is
      ∙ sym (entries_join binary (take (index * size) numbers) (slice_chunk numbers size index))
      ∙ ap (λ ns. entries_of binary ns) (sym (take-add (index * size) size numbers))
      ∙ ap (λ n. entries_of binary (take n numbers)) next_size

  -- a beginning of it is written
  pub part_fails : (error : RunError) → WritesAll (entries_of binary (slice_chunk numbers size index)) (Err error) more → WritesAll (entries_of binary numbers) (Err error) (part ++ more)
  part_fails error written =
      let left : HasLeft (entries_of binary numbers) (entries_of binary (drop (index * size) numbers)) part =
      ap (λ bs. bs ++ entries_of binary (drop (index * size) numbers)) so_far ∙ sym (entries_split binary (index * size) numbers) in
      rest_fails binary (entries_of binary numbers) (drop (index * size) numbers) size part more left error written

-- all parts are written
pub parts_end : (binary : Bool) (numbers part : List ℕ) (reach : ℕ) → length numbers ≤ reach → part ≡ entries_of binary (take reach numbers) → part ≡ entries_of binary numbers
parts_end binary numbers part reach long so_far = so_far ∙ ap (λ ns. entries_of binary ns) (take_all reach numbers long)

-- ---- the numbers of a part

pub chunk_is : (numbers rest part : List ℕ) (index size start count : ℕ) → rest ≡ drop start numbers → part ≡ take count rest → start ≡ min (index * size) (length numbers) → count ≡ min size (length rest) → part ≡ slice_chunk numbers size index
chunk_is numbers rest part index size start count rest_is part_is start_is count_is =
    part_is ∙ ap (λ n. take n rest) count_is ∙ take_min size rest
    ∙ ap (λ ns. take size ns) (rest_is ∙ ap (λ n. drop n numbers) start_is ∙ drop_min (index * size) numbers)
