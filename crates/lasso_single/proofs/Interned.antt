-- What interning a text comes to, by case: the text is present; no key is left for it; the limit has no room for it; or it
-- goes last.
use Rattle.std.proofs.Common.{◌≡◌, ◌∙◌, ℕ, ◌+◌, List, [], ◌∷◌, ◌++◌, length, inl, cond, is_some, Option, Some, None, IsSome, Ok, Err, refl, sym, ap, arith}
use Rattle.std.specs.Prelude.{unwrap_or}
use Rattle.lasso_parts.specs.Account.{store}
use Rattle.lasso_parts.specs.Held.{Held}
use Rattle.lasso_parts.specs.Texts.{Text, position_of}
use Rattle.lasso_parts.specs.declared.util.LassoErrorKind.TheVariants.{MemoryLimitReached, KeySpaceExhaustion}
use Rattle.lasso_single.specs.Intern.{InternsIn, interned, interned_position, found_or_new, keyed_or_refused, stored_or_refused}
use Rattle.lasso_single.specs.Interner.{InternerView, KeepsOrigin, bytes_added}

nothing : {A : Type 0} (place : Option A) → (IsSome place → ⊥) → place ≡ None
nothing None none = refl
nothing (Some x) none = absurd (none refl)

module _ {K : Type 0} (key_at : ℕ → Option K) (old : InternerView) (text : Text) where
  abbrev held : Held
  held = record { texts = old.texts; account = old.account }

  pub present : (n : ℕ) (k : K) → position_of old.texts text ≡ Some n → key_at n ≡ Some k → InternsIn key_at old text (Ok k) old
  present n k found keyed =
      let place : interned_position old.texts text ≡ n = ap (λ (p : Option ℕ). unwrap_or p (length old.texts)) found in
      let none : bytes_added old.texts text ≡ 0 = ap (λ (p : Option ℕ). cond (is_some p) 0 (length text)) found in
      ((ap (found_or_new key_at old.first held text) found, ap key_at place ∙ keyed), omega (arith, none), (refl, refl, refl))

  module _ (absent : position_of old.texts text ≡ None) where
    pub without_key : key_at (length old.texts) ≡ None → InternsIn key_at old text (Err KeySpaceExhaustion) old
    without_key none = ((refl, refl, inl (ap (found_or_new key_at old.first held text) absent ∙ ap (keyed_or_refused old.first held text) none)), refl, (refl, refl, refl))

    module _ (k : K) (keyed : key_at (length old.texts) ≡ Some k) where
      pub past_limit : (IsSome (store old.first old.account (length text)) → ⊥) → InternsIn key_at old text (Err MemoryLimitReached) old
      past_limit refused =
          ((refl, refl, inl (ap (found_or_new key_at old.first held text) absent ∙ ap (keyed_or_refused old.first held text) keyed ∙ ap (stored_or_refused held text) (nothing (store old.first old.account (length text)) refused))), refl, (refl, refl, refl))

      pub gone_in : (new : InternerView) → new.texts ≡ old.texts ++ text ∷ [] → store old.first old.account (length text) ≡ Some new.account → new.copied ≡ old.copied + length text → KeepsOrigin old new → InternsIn key_at old text (Ok k) new
      gone_in new texts stored copied origin =
          let place : interned_position old.texts text ≡ length old.texts = ap (λ (p : Option ℕ). unwrap_or p (length old.texts)) absent in
          let added : bytes_added old.texts text ≡ length text = ap (λ (p : Option ℕ). cond (is_some p) 0 (length text)) absent in
          let last : interned key_at old.first held text ≡ Ok (record { texts = old.texts ++ text ∷ []; account = new.account }) =
          ap (found_or_new key_at old.first held text) absent ∙ ap (keyed_or_refused old.first held text) keyed ∙ ap (stored_or_refused held text) stored in
          ((last ∙ ap (λ (ts : List Text). Ok (record { texts = ts; account = new.account })) (sym texts), ap key_at place ∙ keyed), omega (arith, copied, added), origin)
