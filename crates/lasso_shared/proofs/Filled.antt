-- Interning one text more by a call of a pass, after a list of texts was interned by its calls.
--
-- The definition goes through the list from its first text, and a loop adds texts at the end. So each text of the list is stepped
-- over, and the one more comes after the last.
use Rattle.std.proofs.Common.{◌≡◌, ℕ, List, [], ◌∷◌, ◌++◌, map, Option, Ok, Err, refl, sym, ap, ◌∙◌, subst}
use Rattle.std.proofs.lemmas.List.{map_push}
use Rattle.lasso_parts.specs.Texts.{Text}
use Rattle.lasso_parts.specs.declared.util.LassoErrorKind.{LassoErrorKind}
use Rattle.lasso_log.specs.History.{History, Totals, IsLegal}
use Rattle.lasso_log.specs.Replies.{Copied, Intern, Interned}
use Rattle.lasso_log.specs.Calls.{IsCall}
use Rattle.lasso_shared.specs.Filling.{InternsEach, FillingEndsRefused, IsPlainFilling}
use Rattle.lasso_log.specs.Notes.{history}
use Rattle.lasso_log.specs.Views.{InternerId, PassView, IsSamePass, seen}

-- between two states of a pass, texts were interned by its calls
pub record FilledSo {K : Type 0} (key_at : ℕ → Option K) (of : InternerId) (texts : List Text) (old new : PassView) : Type 0 where
  pub mine : new.of ≡ of
  pub same : IsSamePass new old
  pub each : InternsEach key_at of.opening (seen old) (seen new) old.number texts
  pub legal : IsLegal key_at of.opening (seen new)

interns_push : {K : Type 0} (key_at : ℕ → Option K) (o : Totals) (before mid after : History) (p : ℕ) (texts : List Text) (text : Text) (k : K) → InternsEach key_at o before mid p texts → IsCall key_at o mid after p (Intern Copied text) (Interned (Ok k)) → InternsEach key_at o before after p (texts ++ text ∷ [])
interns_push key_at o before mid after p [] text k each call =
    (k, after, subst (λ (h : History). IsCall key_at o h after p (Intern Copied text) (Interned (Ok k))) each call, refl)
interns_push key_at o before mid after p (t ∷ ts) text k each call =
    (each.0, each.1, each.2, interns_push key_at o each.1 mid after p ts text k each.3 call)

-- the text that an item lends was interned too
pub filled_turn : {K T : Type 0} (key_at : ℕ → Option K) (of : InternerId) (lends : T → Text) (items : List T) (item : T) (text : Text) (k : K) (first old new : PassView) → FilledSo key_at of (map lends items) first old → text ≡ lends item → IsSamePass new old → IsCall key_at of.opening (seen old) (seen new) old.number (Intern Copied text) (Interned (Ok k)) → IsLegal key_at of.opening (seen new) → FilledSo key_at of (map lends (items ++ item ∷ [])) first new
filled_turn key_at of lends items item text k first old new so_far lent same call legal =
    let by_first : IsCall key_at of.opening (seen old) (seen new) first.number (Intern Copied (lends item)) (Interned (Ok k)) =
    subst (λ (p : ℕ). IsCall key_at of.opening (seen old) (seen new) p (Intern Copied (lends item)) (Interned (Ok k))) so_far.same.0
    (subst (λ (t : Text). IsCall key_at of.opening (seen old) (seen new) old.number (Intern Copied t) (Interned (Ok k))) lent call) in record {
      mine = same.1 ∙ so_far.mine;
      same = (same.0 ∙ so_far.same.0, same.1 ∙ so_far.same.1);
      each = subst (λ (texts : List Text). InternsEach key_at of.opening (seen first) (seen new) first.number texts) (sym (map_push lends items item)) (interns_push key_at of.opening (seen first) (seen old) (seen new) first.number (map lends items) (lends item) k so_far.each by_first);
      legal = legal;
    }

-- it was refused
pub refused_turn : {K T : Type 0} (key_at : ℕ → Option K) (of : InternerId) (lends : T → Text) (items : List T) (item : T) (text : Text) (error : LassoErrorKind) (first old new : PassView) → FilledSo key_at of (map lends items) first old → text ≡ lends item → IsCall {K = K} key_at of.opening (seen old) (seen new) old.number (Intern Copied text) (Interned (Err error)) → FillingEndsRefused key_at of.opening (seen first) (seen new) first.number (map lends (items ++ item ∷ [])) error
refused_turn {K} key_at of lends items item text error first old new so_far lent call =
    let by_first : IsCall {K = K} key_at of.opening (seen old) (seen new) first.number (Intern Copied (lends item)) (Interned (Err error)) =
    subst (λ (p : ℕ). IsCall {K = K} key_at of.opening (seen old) (seen new) p (Intern Copied (lends item)) (Interned (Err error))) so_far.same.0
    (subst (λ (t : Text). IsCall {K = K} key_at of.opening (seen old) (seen new) old.number (Intern Copied t) (Interned (Err error))) lent call) in
    (map lends items, lends item, seen old, map_push lends items item, so_far.each, by_first)

-- a pass that had seen nothing makes a plain filling
pub filling_all : {K : Type 0} (key_at : ℕ → Option K) (o : Totals) (texts : List Text) (old new : PassView) → old.notes ≡ [] → InternsEach key_at o (seen old) (seen new) old.number texts → IsLegal key_at o (seen new) → IsPlainFilling key_at o texts (Ok tt)
filling_all key_at o texts old new none each legal = record {
  pass = old.number;
  seen = seen new;
  calls = subst (λ (h : History). InternsEach key_at o h (seen new) old.number texts) (ap history none) each;
  legal = legal;
}

pub filling_refused : {K : Type 0} (key_at : ℕ → Option K) (o : Totals) (texts : List Text) (error : LassoErrorKind) (old new : PassView) → old.notes ≡ [] → FillingEndsRefused key_at o (seen old) (seen new) old.number texts error → IsLegal key_at o (seen new) → IsPlainFilling key_at o texts (Err error)
filling_refused key_at o texts error old new none ended legal = record {
  pass = old.number;
  seen = seen new;
  calls = subst (λ (h : History). FillingEndsRefused key_at o h (seen new) old.number texts error) (ap history none) ended;
  legal = legal;
}
