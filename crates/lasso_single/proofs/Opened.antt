-- Keywords that are put into an interner, one after another, in the order of a distinct list.
--
-- The keyword at position i is none of those before it. So it goes last as it is, where it has a key, and the account stays as it was. Where
-- each position of the list has a key, a call is refused by nothing but memory.
use denote.Ref.{Bor}
use Rattle.std.proofs.Common.{map, get_or, ◌≡◌, ℕ, ◌+◌, ◌<◌, ◌⊎◌, inl, inr, List, [], ◌∷◌, ◌++◌, length, take, slice_get, Option, Some, None, IsSome, Result, Ok, Err, refl, sym, subst, ap, ◌∙◌, arith}
use Rattle.std.proofs.lemmas.List.{length-take-le, length-map, get_or-map}
use Rattle.std.proofs.lemmas.Option.{slice_get_within, slice_get-get_or}
use Rattle.lasso_parts.specs.Held.{Held}
use Rattle.lasso_parts.specs.Texts.{Text, position_of, IsDistinct, Fits}
use Rattle.lasso_parts.specs.declared.util.LassoError.{LassoError}
use Rattle.lasso_parts.specs.declared.util.LassoErrorKind.TheVariants.{FailedAllocation}
use Rattle.lasso_parts.proofs.IndexLaws.{absent_before}
use Rattle.lasso_parts.proofs.TextLemmas.{take_more_at}
use Rattle.lasso_single.specs.Intern.{InternsStaticIn, with_text, kept_or_refused, found_or_kept}
use Rattle.lasso_single.specs.Interner.{InternerView, KeepsOrigin}

-- the keywords before position i were put into an interner that had no text
pub record OpenedTo (start : InternerView) (keywords : List Text) (i : ℕ) (now : InternerView) : Type 0 where
  pub texts : now.texts ≡ take i keywords
  pub account : now.account ≡ start.account
  pub copied : now.copied ≡ start.copied
  pub origin : KeepsOrigin start now

pub opened_none : (start : InternerView) (keywords : List Text) → start.texts ≡ [] → OpenedTo start keywords 0 start
opened_none start keywords empty = record { texts = empty; account = refl; copied = refl; origin = (refl, refl, refl) }

new_case : {K : Type 0} (key_at : ℕ → Option K) (held : Held) (text : Text) (p : Option ℕ) (r : Result Held LassoError) → p ≡ None → found_or_kept key_at held text p ≡ r → kept_or_refused held text (key_at (length held.texts)) ≡ r
new_case key_at held text p r e h = subst (λ (q : Option ℕ). found_or_kept key_at held text q ≡ r) e h

kept_ok : {K : Type 0} (held : Held) (text : Text) (o : Option K) (left : Held) → kept_or_refused held text o ≡ Ok left → with_text held text held.account ≡ left
kept_ok held text None left h = cc
kept_ok held text (Some k) left h = cc

kept_err : {K : Type 0} (held : Held) (text : Text) (o : Option K) (error : LassoError) → IsSome o → kept_or_refused held text o ≡ Err error → ⊥
kept_err held text None error some h = cc
kept_err held text (Some k) error some h = cc

-- the keyword at a position is not in the list yet
absent : (start : InternerView) (keywords : List Text) (i : ℕ) (keyword : Text) (now : InternerView) → IsDistinct keywords → slice_get keywords i ≡ Some keyword → OpenedTo start keywords i now → position_of now.texts keyword ≡ None
absent start keywords i keyword now distinct at so_far =
    subst (λ (ts : List Text). position_of ts keyword ≡ None) (sym so_far.texts) (absent_before keywords i keyword distinct at)

-- one keyword more went last
pub opened_more : (K : Type 0) (key_at : ℕ → Option K) (start : InternerView) (keywords : List Text) (i : ℕ) (keyword : Text) (old : InternerView) (k : K) (new : InternerView) → IsDistinct keywords → slice_get keywords i ≡ Some keyword → OpenedTo start keywords i old → InternsStaticIn key_at old keyword (Ok k) new → OpenedTo start keywords (i + 1) new
opened_more K key_at start keywords i keyword old k new distinct at so_far interns =
    let held : Held = record { texts = old.texts; account = old.account } in
    let after : Held = record { texts = new.texts; account = new.account } in
    let gone : position_of old.texts keyword ≡ None = absent start keywords i keyword old distinct at so_far in
    let left : with_text held keyword old.account ≡ after = kept_ok held keyword (key_at (length old.texts)) after (new_case key_at held keyword (position_of old.texts keyword) (Ok after) gone interns.0.0) in
    record {
      texts = sym (ap (λ (x : Held). x.texts) left) ∙ ap (λ (ts : List Text). ts ++ keyword ∷ []) so_far.texts ∙ sym (take_more_at keywords i keyword at);
      account = sym (ap (λ (x : Held). x.account) left) ∙ so_far.account;
      copied = interns.1 ∙ so_far.copied;
      origin = (interns.2.0 ∙ so_far.origin.0, interns.2.1 ∙ so_far.origin.1, interns.2.2 ∙ so_far.origin.2);
    }

-- a keyword that has a key is refused only when out of memory
pub opened_refused : (K : Type 0) (key_at : ℕ → Option K) (start : InternerView) (keywords : List Text) (i : ℕ) (keyword : Text) (old : InternerView) (error : LassoError) (new : InternerView) → IsDistinct keywords → Fits key_at (length keywords) → slice_get keywords i ≡ Some keyword → OpenedTo start keywords i old → InternsStaticIn {K = K} key_at old keyword (Err error) new → error ≡ FailedAllocation
opened_refused K key_at start keywords i keyword old error new distinct fits at so_far interns =
    let held : Held = record { texts = old.texts; account = old.account } in
    let gone : position_of old.texts keyword ≡ None = absent start keywords i keyword old distinct at so_far in
    let inside : i < length keywords = slice_get_within keywords i keyword at in
    let count : length old.texts ≡ i = ap length so_far.texts ∙ length-take-le i keywords (omega arith) in
    let has_key : IsSome (key_at (length old.texts)) = subst (λ (n : ℕ). IsSome (key_at n)) (sym count) (fits i inside) in
    elim interns.0.2 [
      | inl e ↦ absurd (kept_err held keyword (key_at (length old.texts)) error has_key (new_case key_at held keyword (position_of old.texts keyword) (Err error) gone e))
      | inr memory ↦ memory.0
    ]

-- ---- keywords that are lent

-- the keyword at an index
keyword_at : (keywords : List (Bor Text)) (i : ℕ) (d : Bor Text) → i < length keywords → slice_get (map (λ t. t.now) keywords) i ≡ Some (get_or keywords i d).now
keyword_at keywords i d inside =
    let all = map (λ (t : Bor Text). t.now) keywords in
    slice_get-get_or all i [] (omega (arith, length-map keywords (λ t. t.now))) ∙ ap (λ (t : Text). Some t) (get_or-map (λ t. t.now) keywords i d [] inside)

pub opened_turn : (K : Type 0) (key_at : ℕ → Option K) (start : InternerView) (keywords : List (Bor Text)) (i : ℕ) (d : Bor Text) (old : InternerView) (k : K) (new : InternerView) → IsDistinct (map (λ t. t.now) keywords) → i < length keywords → OpenedTo start (map (λ t. t.now) keywords) i old → InternsStaticIn key_at old (get_or keywords i d).now (Ok k) new → OpenedTo start (map (λ t. t.now) keywords) (i + 1) new
opened_turn K key_at start keywords i d old k new distinct inside so_far interns =
    opened_more K key_at start (map (λ t. t.now) keywords) i (get_or keywords i d).now old k new distinct (keyword_at keywords i d inside) so_far interns

pub opened_stopped : (K : Type 0) (key_at : ℕ → Option K) (start : InternerView) (keywords : List (Bor Text)) (i : ℕ) (d : Bor Text) (old : InternerView) (error : LassoError) (new : InternerView) → IsDistinct (map (λ t. t.now) keywords) → Fits key_at (length keywords) → i < length keywords → OpenedTo start (map (λ t. t.now) keywords) i old → InternsStaticIn {K = K} key_at old (get_or keywords i d).now (Err error) new → error ≡ FailedAllocation
opened_stopped K key_at start keywords i d old error new distinct fits inside so_far interns =
    let fits_all : Fits key_at (length (map (λ (t : Bor Text). t.now) keywords)) = subst (λ (n : ℕ). Fits key_at n) (sym (length-map keywords (λ t. t.now))) fits in
    opened_refused K key_at start (map (λ t. t.now) keywords) i (get_or keywords i d).now old error new distinct fits_all (keyword_at keywords i d inside) so_far interns
