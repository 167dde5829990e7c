-- Texts are hashed one after another.
use denote.Ref.{Bor}
use Rattle.std.proofs.Common.{◌≡◌, ℕ, ◌+◌, ◌<◌, List, length, get_or, set, sym, ap, ◌∙◌, inl, inr, arith}
use Rattle.std.proofs.lemmas.Bool.{cases_lt}
use Rattle.std.proofs.lemmas.List.{get_or-set_same, get_or-set_other, get_or_default}
use Rattle.lasso_parts.specs.Texts.{Text}
use Rattle.lasso_single.specs.Hashes.{AreHashes}

-- the text at the next place was hashed
pub hashed_next : (hash_of : Text → ℕ) (texts : List (Bor Text)) (place : ℕ) (e : Bor Text) (hashes : List ℕ) (hash : ℕ) → place < length hashes → place < length texts → hash ≡ hash_of (get_or texts place e).now →
    AreHashes hash_of texts place hashes → AreHashes hash_of texts (place + 1) (set hashes place hash)
hashed_next hash_of texts place e hashes hash inside there own before i d small = elim (cases_lt i place) [
  | inl b ↦ get_or-set_other hashes place i hash 0 (λ same. absurd (omega (arith, same, b))) ∙ before i d b
  | inr a ↦
      let same : i ≡ place = omega (arith, small, a) in
      ap (λ k. get_or (set hashes place hash) k 0) same ∙ get_or-set_same hashes place hash 0 inside ∙ own ∙ ap (λ (t : Bor Text). hash_of t.now) (get_or_default texts place e d there ∙ ap (λ k. get_or texts k d) (sym same))
]
