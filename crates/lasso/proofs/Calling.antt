-- What callers of an interner cite of the text that they interned, and of those from before.
--
-- Interning a text leaves the list as it is, or puts the text last. So each text from before keeps its
-- position, and the text itself is at the position of the key that was returned. Two keys of one list with
-- the same number then resolve to the same text, and the same text was given one key.
use Rattle.std.proofs.Common.{ℕ, ◌≡◌, ◌↔◌, ◌≤◌, ◌++◌, ◌∷◌, [], suc, List, length, map, Bool, true, false, Option, Some, None, Result, Ok, Err, IfSome, IfOk, is_some, cond, max, refl, sym, ap, subst, ◌∙◌, arith}
use Rattle.std.specs.Prelude.{slice_get}
use Rattle.std.proofs.lemmas.Option.{slice_get_within}
use Rattle.serde_json.specs.Data.{Data, string, items_depth, depth}
use Rattle.serde_json.specs.View.{items_of}
use Rattle.lasso_parts.proofs.IndexLaws.{slice_get-append_left}
use Rattle.lasso_parts.specs.Json.{json_array}
use Rattle.lasso_parts.specs.Texts.{Text, position_of, key_of}
use Rattle.lasso_parts.specs.declared.util.LassoError.{LassoError}
use Rattle.lasso_single.specs.Intern.{InternsIn}
use Rattle.lasso_single.specs.Interner.{InternerView}
use Rattle.lasso_single.proofs.KeyLists.{list_left, key_left}
use Rattle.lasso.specs.Interning.{with_last, InternsAmong}
use Rattle.lasso.proofs.Interned.{key_resolves, key_interned, twice}

position_kept_of : (there : Bool) (texts : List Text) (text : Text) (n : ℕ) (kept : Text) → slice_get texts n ≡ Some kept → slice_get (cond there texts (texts ++ text ∷ [])) n ≡ Some kept
position_kept_of true texts text n kept at = at
position_kept_of false texts text n kept at = slice_get-append_left texts (text ∷ []) n (slice_get_within texts n kept at) ∙ at

-- a text keeps its position when another is interned
pub position_kept : (texts : List Text) (text : Text) (n : ℕ) (kept : Text) → slice_get texts n ≡ Some kept → slice_get (with_last texts text) n ≡ Some kept
position_kept texts text n kept at = position_kept_of (is_some (position_of texts text)) texts text n kept at

module _ {K : Type 0} (key_at : ℕ → Option K) where
  -- an intern call of a `Rodeo` leaves the list with the text
  pub list_interned : (old new : InternerView) (text : Text) (k : K) → InternsIn key_at old text (Ok k) new → new.texts ≡ with_last old.texts text
  list_interned old new text k h = list_left key_at old new text k h

  -- so its key is the text's in that list
  pub key_answered : (old new : InternerView) (text : Text) (k : K) → InternsIn key_at old text (Ok k) new → key_of key_at new.texts text ≡ Some k
  key_answered old new text k h = key_left key_at old new text k h

  -- and each text from before keeps its position, whatever the call returns
  pub texts_stay : (old new : InternerView) (text : Text) (reply : Result K LassoError) → InternsIn key_at old text reply new → (n : ℕ) (kept : Text) → slice_get old.texts n ≡ Some kept → slice_get new.texts n ≡ Some kept
  texts_stay old new text (Ok k) h n kept at =
      subst (λ (ts : List Text). slice_get ts n ≡ Some kept) (sym (list_interned old new text k h)) (position_kept old.texts text n kept at)
  texts_stay old new text (Err error) h n kept at = subst (λ (ts : List Text). slice_get ts n ≡ Some kept) (sym h.0.0) at

module _ {K : Type 0} (key_at : ℕ → Option K) (number : K → ℕ) (made : (n : ℕ) (k : K) → key_at n ≡ Some k → number k ≡ n) where
  -- the key that an intern call of a `Rodeo` returns, if it returns one, resolves to the text
  pub answer_resolves : (old new : InternerView) (text : Text) (reply : Result K LassoError) → InternsIn key_at old text reply new → IfOk reply (λ k. slice_get new.texts (number k) ≡ Some text)
  answer_resolves old new text (Ok k) h =
      key_resolves key_at number made new.texts text k (key_answered key_at old new text k h)
  answer_resolves old new text (Err error) h = tt

  alike : (texts after new : List Text) (a b : Text) (k l : K) → InternsAmong key_at texts a (Ok k) (Some after) → InternsAmong key_at after b (Ok l) (Some new) → (number k ≡ number l) ↔ (a ≡ b)
  alike texts after new a b k l h j =
      let left : new ≡ with_last after b = cc in
      let first : slice_get after (number k) ≡ Some a = key_resolves key_at number made after a k (key_interned key_at texts after a k h) in
      let stays : slice_get new (number k) ≡ Some a = subst (λ (ts : List Text). slice_get ts (number k) ≡ Some a) (sym left) (position_kept after b (number k) a first) in
      let second : slice_get new (number l) ≡ Some b = key_resolves key_at number made new b l (key_interned key_at after new b l j) in (
        (λ same. let both : slice_get new (number l) ≡ Some a = subst (λ (n : ℕ). slice_get new n ≡ Some a) same stays in cc),
        (λ same. let again : InternsAmong key_at after a (Ok l) (Some new) = subst (λ (t : Text). InternsAmong key_at after t (Ok l) (Some new)) (sym same) j in ap number (sym (twice key_at texts after new a k l h again).1)),
      )

  -- the keys of two interned texts have one number exactly where the texts are equal
  pub keys_tell_texts : (old mid new : Option (List Text)) (a b : Text) (k l : K) → IfSome old (λ texts. InternsAmong key_at texts a (Ok k) mid) → IfSome mid (λ texts. InternsAmong key_at texts b (Ok l) new) → IfSome old (λ _. (number k ≡ number l) ↔ (a ≡ b))
  keys_tell_texts None mid new a b k l h j = tt
  keys_tell_texts (Some texts) None new a b k l h j = absurd (cc)
  keys_tell_texts (Some texts) (Some after) None a b k l h j = absurd (cc)
  keys_tell_texts (Some texts) (Some after) (Some new) a b k l h j = alike texts after new a b k l h j

flat_items : (texts : List Text) → items_depth (items_of (map string texts)) ≡ 0
flat_items [] = refl
flat_items (t ∷ texts) = ap (max 0) (flat_items texts)

-- the array of a list of texts is as flat as an array can be, so its JSON text is read back
pub flat_array : (texts : List Text) → depth (json_array texts) ≡ 1
flat_array texts = ap suc (flat_items texts)

-- a value that is the array of a list of texts is read back from a text that the value is read back from
pub array_read_back : (texts : List Text) (d : Data) (read : Option Data) → d ≡ json_array texts → (depth d ≤ 127 → read ≡ Some d) → read ≡ Some (json_array texts)
array_read_back texts d read same back =
    let flat : depth d ≡ 1 = ap depth same ∙ flat_array texts in
    back (omega (arith, flat)) ∙ ap (λ (x : Data). Some x) same
