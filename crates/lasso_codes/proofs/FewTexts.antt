-- The number of texts in the interner of a column.
--
-- A new text has the key of its position, which is below 4294967295. So there are at most that many texts.
use Rattle.std.proofs.Common.{ℕ, ◌≡◌, ◌≤◌, cond, List, [], ◌∷◌, ◌++◌, length, is_some, Option, Some, None, Result, Ok, Err, MatchResult, sym, subst, arith}
use Rattle.std.specs.Prelude.{unwrap_or}
use Rattle.std.proofs.lemmas.List.{length_push}
use Rattle.lasso_parts.specs.Kept.{kept_made}
use Rattle.lasso_parts.specs.Texts.{Text, position_of}
use Rattle.lasso_parts.specs.declared.util.LassoError.{LassoError}
use Rattle.lasso_single.specs.Filling.{extend}
use Rattle.lasso_single.specs.Intern.{InternsIn}
use Rattle.lasso_single.specs.Interner.{InternerView}
use Rattle.lasso_single.proofs.Filled.{accepted}
use Rattle.lasso_columns.proofs.Interned.{list_interned}
use Rattle.lasso_single.specs.Coding.{spur_at}

few_with : (list : List Text) (text : Text) (o : Option ℕ) (key : ℕ) → spur_at (unwrap_or o (length list)) ≡ Some key → length list ≤ 4294967295 → length (cond (is_some o) list (list ++ text ∷ [])) ≤ 4294967295
few_with list text (Some n) key at few = few
few_with list text None key at few =
    let made = kept_made 4294967295 (omega arith) (length list) key at in
    omega (arith, length_push list text, made.1.0, made.1.1, made.2)

few_more : (old mid new : InternerView) (text : Text) (texts : List Text) (one : Result ℕ LassoError) → InternsIn spur_at old text one mid → MatchResult one (λ _. extend spur_at mid texts accepted new) (λ error. (accepted ≡ Err error) × (new ≡ mid)) → length old.texts ≤ 4294967295 → (length mid.texts ≤ 4294967295 → extend spur_at mid texts accepted new → length new.texts ≤ 4294967295) → length new.texts ≤ 4294967295
few_more old mid new text texts (Ok key) interns rest few then =
    let list = list_interned spur_at old mid text key interns in
    then (subst (λ (ts : List Text). length ts ≤ 4294967295) (sym list) (few_with old.texts text (position_of old.texts text) key interns.0.1 few)) rest
few_more old mid new text texts (Err error) interns rest few then = let e = rest.0 in absurd (cc)

-- this number of texts has codes
pub few_texts : (old new : InternerView) (texts : List Text) → extend spur_at old texts accepted new → length old.texts ≤ 4294967295 → length new.texts ≤ 4294967295
few_texts old new [] all few = subst (λ (i : InternerView). length i.texts ≤ 4294967295) (sym all.1) few
few_texts old new (text ∷ texts) all few = few_more old all.1 new text texts all.0 all.2 all.3 few (λ mid rest. few_texts all.1 new texts rest mid)
