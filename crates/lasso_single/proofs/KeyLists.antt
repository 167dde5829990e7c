-- Texts that were interned, one after another, and whose keys were put after those from before.
--
-- A text that was interned has its key in the list that is left. The texts from before keep their positions,
-- so their keys stay, and one key more goes after them. One key was added for each text that was interned: so
-- their number tells which these are.
use denote.Ref.{Bor}
use Rattle.std.proofs.Common.{ℕ, suc, map, drop, get_or, ◌≡◌, ◌+◌, ◌-◌, ◌<◌, List, [], ◌∷◌, ◌++◌, length, take, Bool, true, false, cond, Option, Some, None, Ok, Err, IsSomeAnd, is_some, refl, sym, ap, subst, ◌∙◌, arith, length-append, append_assoc}
use Rattle.std.specs.Prelude.{slice_get, option_and_then, unwrap_or}
use Rattle.std.specs.Str.{bytes_eq}
use Rattle.std.proofs.Math.Seq.{drop-cons, take-append_seam}
use Rattle.std.proofs.lemmas.Bool.Decides.{nat_tests}
use Rattle.std.proofs.lemmas.List.{append-nil, map_push, take_more, take-append-drop, get_or-map, length-map, length_push}
use Rattle.std.proofs.lemmas.List.Folds.{position_or_len_push}
use Rattle.lasso_parts.proofs.TextLemmas.{position_last}
use Rattle.lasso_parts.specs.Account.{Account, store}
use Rattle.lasso_parts.specs.Held.{Held}
use Rattle.lasso_parts.specs.Texts.{Text, position_of, key_of}
use Rattle.lasso_parts.specs.declared.util.LassoError.{LassoError}
use Rattle.lasso_single.specs.Filling.{extend}
use Rattle.lasso_single.specs.Intern.{InternsIn, with_text, stored_or_refused, keyed_or_refused, found_or_new}
use Rattle.lasso_single.specs.Interner.{InternerView}
use Rattle.lasso_single.specs.KeyLists.{AreKeys, AddsKeys, IsNextRefused, keyed_texts}
use Rattle.lasso_single.proofs.Filled.{accepted, extend_push}

-- ---- what a call leaves of the list

stored_list : (held left : Held) (text : Text) (s : Option Account) → stored_or_refused held text s ≡ Ok left → left.texts ≡ held.texts ++ text ∷ []
stored_list held left text None h = cc
stored_list held left text (Some a) h = let same : with_text held text a ≡ left = cc in ap (λ (x : Held). x.texts) (sym same)

keyed_list : {K : Type 0} (first : ℕ) (held left : Held) (text : Text) (o : Option K) → keyed_or_refused first held text o ≡ Ok left → left.texts ≡ held.texts ++ text ∷ []
keyed_list first held left text None h = cc
keyed_list first held left text (Some k) h = stored_list held left text (store first held.account (length text)) h

found_list : {K : Type 0} (key_at : ℕ → Option K) (first : ℕ) (held left : Held) (text : Text) (o : Option ℕ) → found_or_new key_at first held text o ≡ Ok left → left.texts ≡ cond (is_some o) held.texts (held.texts ++ text ∷ [])
found_list key_at first held left text None h = keyed_list first held left text (key_at (length held.texts)) h
found_list key_at first held left text (Some n) h = let same : held ≡ left = cc in ap (λ (x : Held). x.texts) (sym same)

-- the list with the text, which goes last if it is absent
abbrev left_list : List Text → Text → List Text
left_list texts text = cond (is_some (position_of texts text)) texts (texts ++ text ∷ [])

pub list_left : {K : Type 0} (key_at : ℕ → Option K) (old new : InternerView) (text : Text) (k : K) → InternsIn key_at old text (Ok k) new → new.texts ≡ left_list old.texts text
list_left key_at old new text k h =
    let held : Held = record { texts = old.texts; account = old.account } in
    let left : Held = record { texts = new.texts; account = new.account } in
    found_list key_at old.first held left text (position_of old.texts text) h.0.0

key_left_of : {K : Type 0} (key_at : ℕ → Option K) (texts : List Text) (text : Text) (k : K) (o : Option ℕ) → position_of texts text ≡ o → key_at (unwrap_or o (length texts)) ≡ Some k → key_of key_at (cond (is_some o) texts (texts ++ text ∷ [])) text ≡ Some k
key_left_of key_at texts text k None e h = ap (λ (o : Option ℕ). option_and_then key_at o) (position_last texts text e) ∙ h
key_left_of key_at texts text k (Some n) e h = ap (λ (o : Option ℕ). option_and_then key_at o) e ∙ h

-- the key that a call returns is the text's in the list that it leaves
pub key_left : {K : Type 0} (key_at : ℕ → Option K) (old new : InternerView) (text : Text) (k : K) → InternsIn key_at old text (Ok k) new → key_of key_at new.texts text ≡ Some k
key_left key_at old new text k h =
    subst (λ (ts : List Text). key_of key_at ts text ≡ Some k) (sym (list_left key_at old new text k h)) (key_left_of key_at old.texts text k (position_of old.texts text) refl h.0.1)

-- ---- keys stay

-- a text that is found stays where it is found
position_stays : (list : List Text) (last text : Text) (n : ℕ) → position_of list text ≡ Some n → position_of (list ++ last ∷ []) text ≡ Some n
position_stays list last text n e = grind (arith, nat_tests, position_or_len_push (λ t. bytes_eq t text) list last, length_push list last)

key_stays_of : {K : Type 0} (key_at : ℕ → Option K) (list : List Text) (last text : Text) (k : K) (o : Option ℕ) → position_of list text ≡ o → option_and_then key_at o ≡ Some k → key_of key_at (list ++ last ∷ []) text ≡ Some k
key_stays_of key_at list last text k None e h = cc
key_stays_of key_at list last text k (Some n) e h = ap (λ (o : Option ℕ). option_and_then key_at o) (position_stays list last text n e) ∙ h

-- what exists for each element exists where there is more
map_some_more : {X Y : Type 0} (f g : X → Option Y) → ((x : X) (y : Y) → f x ≡ Some y → g x ≡ Some y) → (xs : List X) (ys : List Y) → map f xs ≡ map Some ys → map g xs ≡ map Some ys
map_some_more f g more [] ys e = e
map_some_more f g more (x ∷ xs) [] e = cc
map_some_more f g more (x ∷ xs) (y ∷ ys) e =
    let here : g x ≡ Some y = more x y (cc) in
    let others : map g xs ≡ map Some ys = map_some_more f g more xs ys (cc) in
    cc

map_some_push : {X Y : Type 0} (f : X → Option Y) (xs : List X) (ys : List Y) (x : X) (y : Y) → map f xs ≡ map Some ys → f x ≡ Some y → map f (xs ++ x ∷ []) ≡ map Some (ys ++ y ∷ [])
map_some_push f xs ys x y e here = rw (map_push f xs x, map_push Some ys y) cc

map_some_length : {X Y : Type 0} (f : X → Option Y) (xs : List X) (ys : List Y) → map f xs ≡ map Some ys → length xs ≡ length ys
map_some_length f xs ys e = sym (length-map xs f) ∙ ap length e ∙ length-map ys Some

pub keys_stay : {K : Type 0} (key_at : ℕ → Option K) (list : List Text) (last : Text) (there : Bool) (texts : List Text) (keys : List K) → AreKeys key_at list texts keys → AreKeys key_at (cond there list (list ++ last ∷ [])) texts keys
keys_stay key_at list last true texts keys are = are
keys_stay key_at list last false texts keys are =
    map_some_more (key_of key_at list) (key_of key_at (list ++ last ∷ [])) (λ t k e. key_stays_of key_at list last t k (position_of list t) refl e) texts keys are

-- ---- one text after another

-- these texts were interned in order, and their keys were put after those from before
pub record Keyed (K : Type 0) (key_at : ℕ → Option K) (old : InternerView) (texts : List Text) (before : List K) (new : InternerView) (after : List K) : Type 0 where
  pub list : extend key_at old texts accepted new
  pub keys : AddsKeys key_at new.texts texts before after

pub keyed_same : (K : Type 0) (key_at : ℕ → Option K) (old : InternerView) (before after : List K) → after ≡ before → Keyed K key_at old [] before old after
keyed_same K key_at old before after same = record { list = (refl, refl); keys = ([], same ∙ sym (append-nil before), refl) }

-- one text more
pub keyed_push : (K : Type 0) (key_at : ℕ → Option K) (old mid new : InternerView) (texts : List Text) (text : Text) (k : K) (before keys after : List K) → Keyed K key_at old texts before mid keys → InternsIn key_at mid text (Ok k) new → after ≡ keys ++ k ∷ [] → Keyed K key_at old (texts ++ text ∷ []) before new after
keyed_push K key_at old mid new texts text k before keys after so_far interns is =
    let added : List K = so_far.keys.0 in
    let kept : AreKeys key_at new.texts texts added = subst (λ (ts : List Text). AreKeys key_at ts texts added) (sym (list_left key_at mid new text k interns)) (keys_stay key_at mid.texts text (is_some (position_of mid.texts text)) texts added so_far.keys.2) in
    record {
      list = extend_push key_at old mid new texts text (Ok k) accepted so_far.list interns refl;
      keys = (added ++ k ∷ [], is ∙ ap (λ (ks : List K). ks ++ k ∷ []) so_far.keys.1 ∙ append_assoc before added (k ∷ []), map_some_push (key_of key_at new.texts) texts added text k kept (key_left key_at mid new text k interns));
    }

-- the keys tell how many texts were interned
keyed_length : (K : Type 0) (key_at : ℕ → Option K) (old new : InternerView) (texts : List Text) (before after : List K) → Keyed K key_at old texts before new after → length after ≡ length before + length texts
keyed_length K key_at old new texts before after so_far =
    let added : List K = so_far.keys.0 in
    omega (arith, ap length so_far.keys.1, length-append before added, map_some_length (key_of key_at new.texts) texts added so_far.keys.2)

-- ---- what the keys tell of a list of texts, some of which were interned

module _ (K : Type 0) (key_at : ℕ → Option K) (all done rest : List Text) (split : all ≡ done ++ rest) (old new : InternerView) (before after : List K) (so_far : Keyed K key_at old done before new after) where
  keyed_are : keyed_texts before after all ≡ done
  keyed_are =
      let long : length after - length before ≡ length done = omega (arith, keyed_length K key_at old new done before after so_far) in
      ap (λ n. take n all) long ∙ ap (take (length done)) split ∙ take-append_seam done rest

  pub told_list : extend key_at old (keyed_texts before after all) accepted new
  told_list = subst (λ (ts : List Text). extend key_at old ts accepted new) (sym keyed_are) so_far.list

  pub told_keys : AddsKeys key_at new.texts (keyed_texts before after all) before after
  told_keys = subst (λ (ts : List Text). AddsKeys key_at new.texts ts before after) (sym keyed_are) so_far.keys

at_seam : (done : List Text) (text : Text) (rest : List Text) → slice_get (done ++ text ∷ rest) (length done) ≡ Some text
at_seam [] text rest = refl
at_seam (t ∷ done) text rest = at_seam done text rest

-- ---- a refusal

abbrev view_of : List Text → Account → ℕ → ℕ → ℕ → Bool → InternerView
view_of texts account first copied most is_cleared = record { texts = texts; account = account; first = first; copied = copied; most = most; is_cleared = is_cleared }

pub same_fields : (texts texts' : List Text) (account account' : Account) (first first' copied copied' most most' : ℕ) (is_cleared is_cleared' : Bool) → texts' ≡ texts → account' ≡ account → first' ≡ first → copied' ≡ copied → most' ≡ most → is_cleared' ≡ is_cleared → view_of texts' account' first' copied' most' is_cleared' ≡ view_of texts account first copied most is_cleared
same_fields texts texts' account account' first first' copied copied' most most' is_cleared is_cleared' t a f c m g = rw (t, a, f, c, m, g) refl

-- a refused call changes nothing
pub unchanged : (K : Type 0) (key_at : ℕ → Option K) (old new : InternerView) (text : Text) (error : LassoError) → InternsIn {K = K} key_at old text (Err error) new → new ≡ old
unchanged K key_at old new text error h =
    same_fields old.texts new.texts old.account new.account old.first new.first old.copied new.copied old.most new.most old.is_cleared new.is_cleared h.0.0 h.0.1 h.2.0 h.1 h.2.2 h.2.1

-- nothing was changed since
pub keyed_still : (K : Type 0) (key_at : ℕ → Option K) (old mid new : InternerView) (texts : List Text) (before after : List K) → Keyed K key_at old texts before mid after → new ≡ mid → Keyed K key_at old texts before new after
keyed_still K key_at old mid new texts before after so_far same = subst (λ (i : InternerView). Keyed K key_at old texts before i after) (sym same) so_far

-- the text after those that have keys was refused
pub told_refused : (K : Type 0) (key_at : ℕ → Option K) (all done : List Text) (text : Text) (rest : List Text) → all ≡ done ++ text ∷ rest → (old mid new : InternerView) (before after : List K) → Keyed K key_at old done before mid after → (error : LassoError) → InternsIn {K = K} key_at mid text (Err error) new → IsNextRefused key_at new before after all error
told_refused K key_at all done text rest split old mid new before after so_far error interns =
    let same : new ≡ mid = unchanged K key_at mid new text error interns in
    let long : length after - length before ≡ length done = omega (arith, keyed_length K key_at old mid done before after so_far) in
    let here : slice_get all (length after - length before) ≡ Some text = ap (λ n. slice_get all n) long ∙ ap (λ (ts : List Text). slice_get ts (length done)) split ∙ at_seam done text rest in
    let refused : InternsIn {K = K} key_at new text (Err error) new = subst (λ (i : InternerView). InternsIn {K = K} key_at i text (Err error) new) (sym same) interns in
    subst (λ (o : Option Text). IsSomeAnd o (λ t. InternsIn {K = K} key_at new t (Err error) new)) (sym here) refused

-- ---- a slice of texts

-- the texts up to an index and the one there
pub texts_more : (texts : List (Bor Text)) (i : ℕ) (d : Bor Text) → i < length texts → take (i + 1) (map (λ t. t.now) texts) ≡ take i (map (λ t. t.now) texts) ++ (get_or texts i d).now ∷ []
texts_more texts i d small =
    let all = map (λ (t : Bor Text). t.now) texts in
    let inside : i < length all = omega (arith, length-map texts (λ t. t.now)) in
    take_more all i [] inside ∙ ap (λ (t : Text). take i all ++ t ∷ []) (get_or-map (λ t. t.now) texts i d [] small)

pub texts_split : (texts : List (Bor Text)) (i : ℕ) (d : Bor Text) → i < length texts → map (λ t. t.now) texts ≡ take i (map (λ t. t.now) texts) ++ (get_or texts i d).now ∷ drop (suc i) (map (λ t. t.now) texts)
texts_split texts i d small =
    let all = map (λ (t : Bor Text). t.now) texts in
    let inside : i < length all = omega (arith, length-map texts (λ t. t.now)) in
    sym (take-append-drop i all) ∙ ap (λ (ts : List Text). take i all ++ ts) (drop-cons all i [] inside) ∙ ap (λ (t : Text). take i all ++ t ∷ drop (suc i) all) (get_or-map (λ t. t.now) texts i d [] small)
