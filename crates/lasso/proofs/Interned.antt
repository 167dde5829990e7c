-- What code over the interfaces knows of a text that it interned.
--
-- Once a text is in the list, it is at its position there: where it was found, or else last. So its key is
-- that of its position, the key resolves to it, and a second call finds it again and changes nothing.
use Rattle.std.proofs.Common.{ℕ, ◌≡◌, List, Option, Some, None, Ok, Err, IfSome, refl, ap, subst}
use Rattle.std.specs.Prelude.{slice_get, option_and_then}
use Rattle.lasso_parts.proofs.TextLemmas.{position_here, position_last}
use Rattle.lasso_parts.specs.Texts.{Text, position_of, key_of}
use Rattle.lasso_parts.specs.declared.util.LassoError.{LassoError}
use Rattle.lasso_single.specs.Intern.{interned_position}
use Rattle.lasso.specs.Interning.{with_last, InternsAmong}

-- a text that was interned is at its position
pub position_with_last : (texts : List Text) (text : Text) (o : Option ℕ) → position_of texts text ≡ o → position_of (with_last texts text) text ≡ Some (interned_position texts text)
position_with_last texts text None e = rw (e) (position_last texts text e)
position_with_last texts text (Some i) e = rw (e) e

-- the list of a text that was interned has it already
pub with_last_again : (texts : List Text) (text : Text) → with_last (with_last texts text) text ≡ with_last texts text
with_last_again texts text = let there = position_with_last texts text (position_of texts text) refl in rw (there) refl

module _ {K : Type 0} (key_at : ℕ → Option K) (number : K → ℕ) (made : (n : ℕ) (k : K) → key_at n ≡ Some k → number k ≡ n) where
  resolves_at : (texts : List Text) (text : Text) (k : K) (o : Option ℕ) → position_of texts text ≡ o → option_and_then key_at o ≡ Some k → slice_get texts (number k) ≡ Some text
  resolves_at texts text k None e h = cc
  resolves_at texts text k (Some i) e h = rw (made i k h) (position_here texts text i e)

  -- the key of a text resolves to it
  pub key_resolves : (texts : List Text) (text : Text) (k : K) → key_of key_at texts text ≡ Some k → slice_get texts (number k) ≡ Some text
  key_resolves texts text k h = resolves_at texts text k (position_of texts text) refl h

module _ {K : Type 0} (key_at : ℕ → Option K) where
  -- the key that an intern returns is the text's key in the list that it leaves
  pub key_interned : (texts after : List Text) (text : Text) (k : K) → InternsAmong key_at texts text (Ok k) (Some after) → key_of key_at after text ≡ Some k
  key_interned texts after text k h =
      let left : after ≡ with_last texts text = cc in
      let there = position_with_last texts text (position_of texts text) refl in
      rw (left, there) h.0

  -- a text that was interned is not refused again
  pub never_refused : (texts after : List Text) (new : Option (List Text)) (text : Text) (k : K) (error : LassoError) → InternsAmong key_at texts text (Ok k) (Some after) → InternsAmong key_at after text (Err error) new → ⊥
  never_refused texts after new text k error h j =
      let left : after ≡ with_last texts text = cc in
      let there : position_of after text ≡ Some (interned_position texts text) = rw (left) (position_with_last texts text (position_of texts text) refl) in
      cc

  -- interning a text twice gives its key twice, and leaves the list with it
  pub twice : (texts after new : List Text) (text : Text) (first again : K) → InternsAmong key_at texts text (Ok first) (Some after) → InternsAmong key_at after text (Ok again) (Some new) → (new ≡ with_last texts text) × (again ≡ first) × (key_of key_at new text ≡ Some first)
  twice texts after new text first again h j =
      let left : after ≡ with_last texts text = cc in
      let there : position_of (with_last texts text) text ≡ Some (interned_position texts text) = position_with_last texts text (position_of texts text) refl in
      let same : with_last (with_last texts text) text ≡ with_last texts text = with_last_again texts text in
      let last : new ≡ with_last texts text = cc in
      let key : key_of key_at new text ≡ Some first = rw (last, there) h.0 in
      (last, cc, key)

  -- the same where a list is known before the first call
  pub never_refused_again : (old mid new : Option (List Text)) (text : Text) (k : K) (error : LassoError) → IfSome old (λ texts. InternsAmong key_at texts text (Ok k) mid) → IfSome mid (λ texts. InternsAmong key_at texts text (Err error) new) → old ≡ None
  never_refused_again None mid new text k error h j = refl
  never_refused_again (Some texts) None new text k error h j = absurd (cc)
  never_refused_again (Some texts) (Some after) new text k error h j = absurd (never_refused texts after new text k error h j)

  pub interned_twice : (old mid new : Option (List Text)) (text : Text) (first again : K) → IfSome old (λ texts. InternsAmong key_at texts text (Ok first) mid) → IfSome mid (λ texts. InternsAmong key_at texts text (Ok again) new) → IfSome old (λ texts. (new ≡ Some (with_last texts text)) × (again ≡ first) × (key_of key_at (with_last texts text) text ≡ Some first))
  interned_twice None mid new text first again h j = tt
  interned_twice (Some texts) None new text first again h j = absurd (cc)
  interned_twice (Some texts) (Some after) None text first again h j = absurd (cc)
  interned_twice (Some texts) (Some after) (Some new) text first again h j =
      let known = twice texts after new text first again h j in
      (ap (λ (ts : List Text). Some ts) known.0, known.1, subst (λ (ts : List Text). key_of key_at ts text ≡ Some first) known.0 known.2)

  -- the key that an intern returned is the text's key in the list that is frozen then
  pub key_in_frozen : (old mid frozen : Option (List Text)) (text : Text) (k : K) → IfSome old (λ texts. InternsAmong key_at texts text (Ok k) mid) → IfSome mid (λ texts. frozen ≡ Some texts) → IfSome old (λ texts. (frozen ≡ Some (with_last texts text)) × (key_of key_at (with_last texts text) text ≡ Some k))
  key_in_frozen None mid frozen text k h j = tt
  key_in_frozen (Some texts) None frozen text k h j = absurd (cc)
  key_in_frozen (Some texts) (Some after) frozen text k h j =
      let left : after ≡ with_last texts text = cc in
      (cc, subst (λ (ts : List Text). key_of key_at ts text ≡ Some k) left (key_interned texts after text k h))

-- what holds of a present value, where there is none
pub if_none : {A : Type 0} (P : A → Type 0) (o : Option A) → o ≡ None → IfSome o P
if_none P None e = tt
if_none P (Some x) e = absurd (cc)

-- what holds of the present value
pub if_some_at : {A : Type 0} (P : A → Type 0) (o : Option A) (x : A) → o ≡ Some x → IfSome o P → P x
if_some_at P None x e h = absurd (cc)
if_some_at P (Some y) x e h = let same : y ≡ x = cc in subst P same h

pub if_some_map : {A : Type 0} (P Q : A → Type 0) (o : Option A) → ((x : A) → P x → Q x) → IfSome o P → IfSome o Q
if_some_map P Q None f h = tt
if_some_map P Q (Some x) f h = f x h
