-- Words and their keys.
--
-- A text keeps its position in a list that grows, so keys stand for their words in every longer list. What
-- explains a refused word explains it in every later history.
use denote.Ref.{Bor}
use Rattle.std.proofs.Common.{zero, suc, take, drop, get_or, ℕ, ◌≡◌, ◌+◌, ◌<◌, List, [], ◌∷◌, ◌++◌, length, map, Option, Some, Result, Ok, Err, MatchResult, inl, inr, append_assoc, sym, ap, subst, ◌∙◌, arith}
use Rattle.std.specs.Prelude.{Vec, slice_get}
use Rattle.std.proofs.Math.Seq.{drop-cons}
use Rattle.std.proofs.lemmas.List.{map_push, map-append, take-append-drop, take_more, get_or-map, length-map}
use Rattle.std.proofs.lemmas.Option.{slice_get_within}
use mathlib.Core.List.{IsPrefix}
use Rattle.lasso.specs.Texts.{Text}
use Rattle.lasso.specs.LassoErrorKind.{LassoErrorKind}
use Rattle.lasso.specs.Calls.{IsCall}
use Rattle.lasso.specs.History.{History, Totals, totals}
use Rattle.lasso.specs.Notes.{NoteView, history}
use Rattle.lasso.specs.Replies.{Copied, Intern, Interned}
use Rattle.lasso.specs.Views.{InternerId, list_of}
use Rattle.lasso.proofs.CallingShared.{call_keeps_texts, seen_texts_stay}
use Rattle.lasso.proofs.Histories.{history_append}
use Rattle.lasso_guide.specs.WordKeys.{AreKeysOf, IsRefusalOf, Resolve}

module _ {K : Type 0} (number : K → ℕ) where
  -- what stands for each word stands for it where each text keeps its position
  pub resolve_later : (list later : List Text) → ((n : ℕ) (text : Text) → slice_get list n ≡ Some text → slice_get later n ≡ Some text) → (keys : List K) (words : List Text) → Resolve number list keys words → Resolve number later keys words
  resolve_later list later stays [] words stand = stand
  resolve_later list later stays (k ∷ keys) [] stand = cc
  resolve_later list later stays (k ∷ keys) (word ∷ words) stand =
      let here : slice_get later (number k) ≡ Some word = stays (number k) word (cc) in
      let others : Resolve number later keys words = resolve_later list later stays keys words (cc) in
      cc

  -- a key more, and its word
  pub resolve_push : (list : List Text) (keys : List K) (words : List Text) (k : K) (word : Text) → Resolve number list keys words → slice_get list (number k) ≡ Some word → Resolve number list (keys ++ k ∷ []) (words ++ word ∷ [])
  resolve_push list keys words k word stand here = rw (map_push (λ (key : K). slice_get list (number key)) keys k, map_push Some words word) cc

  -- what a pass has seen later
  pub resolve_seen : (of : InternerId) (before later : List NoteView) (keys : List K) (words : List Text) → IsPrefix before later → Resolve number (list_of of before) keys words → Resolve number (list_of of later) keys words
  resolve_seen of before later keys words past stand = resolve_later (list_of of before) (list_of of later) (seen_texts_stay of before later past) keys words stand

  -- the keys of two lists of words
  pub resolve_join : (list : List Text) (keys more : List K) (front back : List Text) → Resolve number list keys front → Resolve number list more back → Resolve number list (keys ++ more) (front ++ back)
  resolve_join list keys more front back stand stand' = rw (map-append (λ (key : K). slice_get list (number key)) keys more, map-append Some front back) cc

module _ {K : Type 0} (number : K → ℕ) (key_at : ℕ → Option K) where
  -- a call with a word is refused, after keys for the words before it
  pub refused_here : (opening : Totals) (before after : History) (pass : ℕ) (done : List Text) (word : Text) (rest words : List Text) (keys : List K) (error : LassoErrorKind) → words ≡ done ++ word ∷ rest → Resolve number (totals opening before).texts keys done → IsCall key_at opening before after pass (Intern Copied word) (Interned (Err error)) → IsRefusalOf number key_at opening after words error
  refused_here opening before after pass done word rest words keys error split stand call =
      let why = call.explained in
      let kept = call_keeps_texts key_at opening before after pass (Intern Copied word) (Interned (Err error)) call in
      inr (record {
        before = done;
        word = word;
        after = rest;
        words_are = split;
        keys = keys;
        stand = resolve_later number (totals opening before).texts (totals opening after).texts kept keys done stand;
        front = before ++ why.0;
        back = why.1;
        past_is = append_assoc before why.0 why.1 ∙ ap (λ past. before ++ past) why.2 ∙ call.begins;
        refused = why.4;
      })

  -- what explains a refusal explains it later too
  refused_later : (of : InternerId) (known later : List NoteView) (words : List Text) (error : LassoErrorKind) → IsPrefix known later → IsRefusalOf number key_at of.opening (history known) words error → IsRefusalOf number key_at of.opening (history later) words error
  refused_later of known later words error past (inl e) = inl e
  refused_later of known later words error past (inr w) =
      let whole : w.front ++ (w.back ++ history past.0) ≡ history later =
      sym (append_assoc w.front w.back (history past.0)) ∙ ap (λ h. h ++ history past.0) w.past_is ∙ sym (history_append known past.0) ∙ ap history past.1 in
      inr (record {
        before = w.before;
        word = w.word;
        after = w.after;
        words_are = w.words_are;
        keys = w.keys;
        stand = resolve_seen number of known later w.keys w.before past w.stand;
        front = w.front;
        back = w.back ++ history past.0;
        past_is = whole;
        refused = w.refused;
      })

  -- so with a share of the words
  pub share_seen : {A : Type 0} (of : InternerId) (known later : List NoteView) (words : List Text) (outcome : Result (Vec K A) LassoErrorKind) → IsPrefix known later → AreKeysOf number key_at of.opening (history known) words outcome → AreKeysOf number key_at of.opening (history later) words outcome
  share_seen of known later words (Ok keys) past are = resolve_seen number of known later keys.items words past are
  share_seen of known later words (Err error) past are = refused_later of known later words error past are

  -- words after those of a refusal, and words with keys before them
  pub refused_first : (opening : Totals) (past : History) (front back : List Text) (error : LassoErrorKind) → IsRefusalOf number key_at opening past front error → IsRefusalOf number key_at opening past (front ++ back) error
  refused_first opening past front back error (inl e) = inl e
  refused_first opening past front back error (inr w) =
      inr (record {
        before = w.before;
        word = w.word;
        after = w.after ++ back;
        words_are = ap (λ (ws : List Text). ws ++ back) w.words_are ∙ append_assoc w.before (w.word ∷ w.after) back;
        keys = w.keys;
        stand = w.stand;
        front = w.front;
        back = w.back;
        past_is = w.past_is;
        refused = w.refused;
      })

  pub refused_second : (opening : Totals) (past : History) (front back : List Text) (keys : List K) (error : LassoErrorKind) → Resolve number (totals opening past).texts keys front → IsRefusalOf number key_at opening past back error → IsRefusalOf number key_at opening past (front ++ back) error
  refused_second opening past front back keys error stand (inl e) = inl e
  refused_second opening past front back keys error stand (inr w) =
      inr (record {
        before = front ++ w.before;
        word = w.word;
        after = w.after;
        words_are = ap (λ (ws : List Text). front ++ ws) w.words_are ∙ sym (append_assoc front w.before (w.word ∷ w.after));
        keys = keys ++ w.keys;
        stand = resolve_join number (totals opening past).texts keys w.keys front w.before stand w.stand;
        front = w.front;
        back = w.back;
        past_is = w.past_is;
        refused = w.refused;
      })

-- what holds of the value of an `Ok`, and of the error of an `Err`
pub ok_at : {T E : Type 0} (P : T → Type 0) (Q : E → Type 0) (r : Result T E) (x : T) → MatchResult r P Q → r ≡ Ok x → P x
ok_at P Q (Ok y) x holds is = let one : y ≡ x = cc in subst P one holds
ok_at P Q (Err e) x holds is = absurd (cc)

pub err_at : {T E : Type 0} (P : T → Type 0) (Q : E → Type 0) (r : Result T E) (e : E) → MatchResult r P Q → r ≡ Err e → Q e
err_at P Q (Ok y) e holds is = absurd (cc)
err_at P Q (Err f) e holds is = let one : f ≡ e = cc in subst Q one holds

-- the words up to an index, the one there, and those after it
pub words_split : (words : List (Bor Text)) (i : ℕ) (d : Bor Text) → i < length words → map (λ w. w.now) words ≡ take i (map (λ w. w.now) words) ++ (get_or words i d).now ∷ drop (suc i) (map (λ w. w.now) words)
words_split words i d small =
    let all = map (λ (w : Bor Text). w.now) words in
    let inside : i < length all = omega (arith, length-map words (λ w. w.now)) in
    sym (take-append-drop i all) ∙ ap (λ (ts : List Text). take i all ++ ts) (drop-cons all i [] inside) ∙ ap (λ (t : Text). take i all ++ t ∷ drop (suc i) all) (get_or-map (λ w. w.now) words i d [] small)

-- the words up to an index, and the one there
pub words_more : (words : List (Bor Text)) (i : ℕ) (d : Bor Text) → i < length words → take (i + 1) (map (λ w. w.now) words) ≡ take i (map (λ w. w.now) words) ++ (get_or words i d).now ∷ []
words_more words i d small =
    let all = map (λ (w : Bor Text). w.now) words in
    let inside : i < length all = omega (arith, length-map words (λ w. w.now)) in
    take_more all i [] inside ∙ ap (λ (t : Text). take i all ++ t ∷ []) (get_or-map (λ w. w.now) words i d [] small)

-- the words of two halves
pub halves : (words front back : List (Bor Text)) (n : ℕ) → front ≡ take n words → back ≡ drop n words → map (λ w. w.now) front ++ map (λ w. w.now) back ≡ map (λ w. w.now) words
halves words front back n first second =
    let now = λ (w : Bor Text). w.now in
    ap (λ (ws : List (Bor Text)). map now ws ++ map now back) first ∙ ap (λ (ws : List (Bor Text)). map now (take n words) ++ map now ws) second
    ∙ sym (map-append now (take n words) (drop n words)) ∙ ap (map now) (take-append-drop n words)

module _ {K : Type 0} (number : K → ℕ) where
  -- each key stands for a text of the list
  pub resolve_within : (list : List Text) (keys : List K) (words : List Text) → Resolve number list keys words → (i : ℕ) (d : K) → i < length keys → number (get_or keys i d) < length list
  resolve_within list [] words stand i d small = absurd (omega (arith, small))
  resolve_within list (k ∷ keys) [] stand i d small = absurd (cc)
  resolve_within list (k ∷ keys) (word ∷ words) stand zero d small = slice_get_within list (number k) word (cc)
  resolve_within list (k ∷ keys) (word ∷ words) stand (suc i) d small =
      let others : Resolve number list keys words = cc in
      resolve_within list keys words others i d (omega (arith, small))
