-- Bytes that are put into a block, which is written when it has no room for more.
--
-- The written bytes, followed by those of the block, are always the bytes of the first items. One more item
-- goes to the end of the block. Writing the block moves its bytes to the written ones. So what was written
-- when a write fails is a beginning of all bytes.
use Rattle.std.proofs.Common.{ℕ, ◌≡◌, ◌+◌, List, [], ◌∷◌, ◌++◌, take, drop, Result, Err, refl, sym, ap, subst, ◌∙◌, append_assoc}
use Rattle.std.specs.Prelude.{flat_map}
use Rattle.std.proofs.lemmas.Grind.{flat_map-append}
use Rattle.std.proofs.lemmas.List.{take-append-drop}
use Rattle.lasso_codes.specs.Streams.{WritesAll}
use Rattle.lasso_codes.specs.declared.error.RunError.{RunError}
use Rattle.lasso_codes.proofs.Flat.{flat_then}
use Rattle.lasso_codes.proofs.Written.{front_then}

module _ {X : Type 0} (bytes : X → List ℕ) (xs : List X) (i : ℕ) (part held : List ℕ) (so_far : part ++ held ≡ flat_map bytes (take i xs)) where
  -- one item more
  pub block_then : (x : X) → take (i + 1) xs ≡ take i xs ++ x ∷ [] → (more kept after : List ℕ) → more ++ kept ≡ held → after ≡ kept ++ bytes x → (part ++ more) ++ after ≡ flat_map bytes (take (i + 1) xs)
  block_then x next more kept after moved put =
      ap (λ bs. (part ++ more) ++ bs) put ∙ sym (append_assoc (part ++ more) kept (bytes x)) ∙ ap (λ bs. bs ++ bytes x) (append_assoc part more kept ∙ ap (λ bs. part ++ bs) moved)
      ∙ flat_then bytes xs i x next (part ++ held) (bytes x) so_far refl

  -- a part of the block is written
  pub block_fails : (more : List ℕ) (error : RunError) → WritesAll held (Err error) more → WritesAll (flat_map bytes xs) (Err error) (part ++ more)
  block_fails more error written =
      let others = flat_map bytes (drop i xs) in
      let all : flat_map bytes xs ≡ (part ++ held) ++ others = ap (flat_map bytes) (sym (take-append-drop i xs)) ∙ flat_map-append bytes (take i xs) (drop i xs) ∙ ap (λ bs. bs ++ others) (sym so_far) in
      let grown : part ++ held ≡ (part ++ more) ++ written.1.0 = ap (λ bs. part ++ bs) written.1.1 ∙ sym (append_assoc part more written.1.0) in
      (written.0, (written.1.0 ++ others, all ∙ ap (λ bs. bs ++ others) grown ∙ append_assoc (part ++ more) written.1.0 others))

-- the last block is written
pub block_ends : (part held whole more : List ℕ) (result : Result (Unit {0}) RunError) → part ++ held ≡ whole → WritesAll held result more → WritesAll whole result (part ++ more)
block_ends part held whole more result is written = subst (λ bs. WritesAll bs result (part ++ more)) is (front_then part more part held result refl written)
