-- The clauses of the calls that intern several texts, a field each, and the law that together they say just what `InternsEach` says.
use Rattle.std.specs.Prelude.{ℕ, ◌≡◌, ◌+◌, ◌↔◌, List, Option, Some}
use Rattle.lasso_parts.specs.Texts.{Text}
use Rattle.lasso_single.specs.Copies.{bytes_of}
use Rattle.lasso_single.specs.Filling.{InternsEach, account_with_all, added_texts, with_all_new}
use Rattle.lasso_single.specs.Interner.{InternerView, KeepsOrigin}
use Rattle.lasso_single.specs.KeyLists.{AreKeys}

-- the clauses: `done` are the texts
pub record FillingFacts (K : Type 0) (key_at : ℕ → Option K) (old : InternerView) (done : List Text) (new : InternerView) : Type 0 where
  pub keys : (keys : List K) × AreKeys key_at new.texts done keys
  pub texts : new.texts ≡ with_all_new old.texts done
  pub account : account_with_all old (added_texts old new) ≡ Some new.account
  pub copied : new.copied ≡ old.copied + bytes_of (added_texts old new)
  pub origin : KeepsOrigin old new

-- they hold exactly if `InternsEach` does
abbrev pub FillingFactsSayAll : {K : Type 0} → (ℕ → Option K) → Type 0
FillingFactsSayAll {K} key_at =
    (old new : InternerView) (texts : List Text)
    → FillingFacts K key_at old texts new ↔ InternsEach key_at old texts new
