-- Texts that are encoded in parts.
--
-- Interning a present text changes nothing. So interning the distinct texts of a list, in the order of their
-- first occurrences, leaves what interning all its texts leaves. If it stops at a text, interning all texts
-- stops at the first occurrence of that text.
use Rattle.std.proofs.Common.{ℕ, zero, suc, ◌≡◌, ◌+◌, ◌-◌, ◌<◌, ◌≤◌, List, [], ◌∷◌, ◌++◌, map, take, length, Bool, true, false, cond, is_some, is_err, Option, Some, None, Bor, Result, Ok, Err, MatchResult, OnOk, IsSomeAnd, refl, sym, ap, subst, ◌∙◌, arith, append_assoc, get_or, drop, min, ◌⊎◌, inl, inr}
use Rattle.std.specs.Prelude.{slice_get, All}
use Rattle.std.proofs.lemmas.List.{append-nil, take-map, drop-map, take_all, length-map, length-take, length_push, take-append-drop}
use Rattle.std.proofs.Math.Seq.{take-add}
use Rattle.std.proofs.lemmas.List.Elements.{All-push}
use Rattle.std.proofs.lemmas.Option.{slice_get_within, get_or_from_slice_get}
use Rattle.lasso_parts.proofs.TextLemmas.{position_here, position_last}
use Rattle.lasso_parts.specs.Texts.{Text, position_of}
use Rattle.lasso_parts.specs.declared.util.LassoError.{LassoError}
use Rattle.lasso_single.specs.Filling.{extend}
use Rattle.lasso_single.specs.Intern.{InternsIn, interned_position}
use Rattle.lasso_single.specs.Interner.{InternerView}
use Rattle.lasso_single.proofs.Filled.{accepted}
use Rattle.lasso_columns.proofs.Interned.{list_interned}
use Rattle.lasso_columns.proofs.Interned.{position_with_last}
use Rattle.lasso_single.proofs.Coded.{position_stays, map_some_both, codes_longer}
use Rattle.lasso_single.specs.Codes.{AreCodes, AddsCodes}
use Rattle.lasso_single.specs.Coding.{spur_at, encoded_texts}
use Rattle.lasso_columns.specs.Parts.{new_texts, IsEncoded}
use Rattle.lasso_single.proofs.Encoded.{Encoded, encoded_length, next_at}

-- ---- an interner that has a text

-- the text is present, at a position that has a key
abbrev pub Found : InternerView → Text → Type 0
Found now text = (n : ℕ) × (key : ℕ) × (position_of now.texts text ≡ Some n) × (spur_at n ≡ Some key)

-- so interning it changes nothing
pub interns_found : (now : InternerView) (text : Text) (found : Found now text) → InternsIn spur_at now text (Ok found.1) now
interns_found now text found = let here = found.2 in let key = found.3 in rw (here) ((refl, key), omega arith, (refl, refl, refl))

found_push : (there : Bool) (list : List Text) (last text : Text) (n : ℕ) → position_of list text ≡ Some n → position_of (cond there list (list ++ last ∷ [])) text ≡ Some n
found_push true list last text n e = e
found_push false list last text n e = position_stays list last text n e

-- it stays present when another text is interned
pub found_stays : (old new : InternerView) (other : Text) (key : ℕ) → InternsIn spur_at old other (Ok key) new → (text : Text) → Found old text → Found new text
found_stays old new other key interns text found =
    (found.0, found.1, rw (list_interned spur_at old new other key interns) (found_push (is_some (position_of old.texts other)) old.texts other text found.0 found.2), found.3)

-- and an interned text is present
pub found_interned : (old new : InternerView) (text : Text) (key : ℕ) → InternsIn spur_at old text (Ok key) new → Found new text
found_interned old new text key interns =
    (interned_position old.texts text, key, rw (list_interned spur_at old new text key interns) (position_with_last old.texts text (position_of old.texts text) refl), interns.0.1)

pub all_at : {X : Type 0} (P : X → Type 0) (xs : List X) (n : ℕ) (x : X) → All P xs → slice_get xs n ≡ Some x → P x
all_at P xs n x all e = subst P (get_or_from_slice_get xs n x x e) (all n x (slice_get_within xs n x e))

pub there_at : (o : Option ℕ) → is_some o ≡ true → (n : ℕ) × (o ≡ Some n)
there_at None e = absurd (cc)
there_at (Some n) e = (n, refl)

not_there : (o : Option ℕ) → is_some o ≡ false → o ≡ None
not_there None e = refl
not_there (Some n) e = cc

-- the first of some texts that were all interned, and the others
first_of : (mid new : InternerView) (texts : List Text) (one : Result ℕ LassoError) → MatchResult one (λ _. extend spur_at mid texts accepted new) (λ error. (accepted ≡ Err error) × (new ≡ mid)) → (k : ℕ) × (one ≡ Ok k) × extend spur_at mid texts accepted new
first_of mid new texts (Ok k) h = (k, refl, h)
first_of mid new texts (Err error) h = let e = h.0 in cc

abbrev pub First : InternerView → Text → List Text → InternerView → Type 0
First old text texts new = (key : ℕ) × (mid : InternerView) × InternsIn spur_at old text (Ok key) mid × extend spur_at mid texts accepted new

pub first : (old new : InternerView) (text : Text) (texts : List Text) → extend spur_at old (text ∷ texts) accepted new → First old text texts new
first old new text texts h =
    let one = first_of h.1 new texts h.0 h.3 in
    (one.0, h.1, subst (λ (r : Result ℕ LassoError). InternsIn spur_at old text r h.1) one.1 h.2, one.2)

-- ---- the list that interning leaves

list_more : (list : List Text) (text : Text) (texts : List Text) (there : Bool) → is_some (position_of list text) ≡ there → cond there list (list ++ text ∷ []) ++ new_texts (cond there list (list ++ text ∷ [])) texts ≡ list ++ new_texts list (text ∷ texts)
list_more list text texts true e = ap (λ b. list ++ cond b (new_texts list texts) (text ∷ new_texts (list ++ text ∷ []) texts)) (sym e)
list_more list text texts false e =
    append_assoc list (text ∷ []) (new_texts (list ++ text ∷ []) texts) ∙ ap (λ b. list ++ cond b (new_texts list texts) (text ∷ new_texts (list ++ text ∷ []) texts)) (sym e)

pub list_extended : (old new : InternerView) (texts : List Text) → extend spur_at old texts accepted new → new.texts ≡ old.texts ++ new_texts old.texts texts
list_extended old new [] h = rw (h.1) (sym (append-nil old.texts))
list_extended old new (text ∷ texts) h =
    let f = first old new text texts h in
    list_extended f.1 new texts f.3 ∙ ap (λ (ts : List Text). ts ++ new_texts ts texts) (list_interned spur_at old f.1 text f.0 f.2)
    ∙ list_more old.texts text texts (is_some (position_of old.texts text)) refl

-- ---- interning the distinct texts leaves what interning all leaves

extend_more : (old new : InternerView) (list : List Text) (text : Text) (texts : List Text) (there : Bool) → is_some (position_of list text) ≡ there → All (Found old) list → ((now : InternerView) (ts : List Text) → All (Found now) ts → extend spur_at now (new_texts ts texts) accepted new → extend spur_at now texts accepted new) → extend spur_at old (cond there (new_texts list texts) (text ∷ new_texts (list ++ text ∷ []) texts)) accepted new → extend spur_at old (text ∷ texts) accepted new
extend_more old new list text texts true e found others h =
    let at = there_at (position_of list text) e in
    let here : Found old text = all_at (Found old) list at.0 text found (position_here list text at.0 at.1) in
    (Ok here.1, old, interns_found old text here, others old list found h)
extend_more old new list text texts false e found others h =
    let f = first old new text (new_texts (list ++ text ∷ []) texts) h in
    let more : All (Found f.1) (list ++ text ∷ []) =
    All-push (Found f.1) list text (λ k d small. found_stays old f.1 text f.0 f.2 (get_or list k d) (found k d small)) (found_interned old f.1 text f.0 f.2) in
    (Ok f.0, f.1, f.2, others f.1 (list ++ text ∷ []) more f.3)

pub extend_all : (old new : InternerView) (list texts : List Text) → All (Found old) list → extend spur_at old (new_texts list texts) accepted new → extend spur_at old texts accepted new
extend_all old new list [] found h = h
extend_all old new list (text ∷ texts) found h =
    extend_more old new list text texts (is_some (position_of list text)) refl found (λ now ts each left. extend_all now new ts texts each left) h

-- ---- where it stops

-- the first n codes are below the bound, and the next one, if there is one, is not
abbrev pub Stops : ℕ → List ℕ → ℕ → Type 0
Stops bound [] n = n ≡ 0
Stops bound (c ∷ cs) zero = bound ≤ c
Stops bound (c ∷ cs) (suc n) = (c < bound) × Stops bound cs n

pub past_end : {X : Type 0} (xs : List X) (n : ℕ) → slice_get xs n ≡ None → length xs ≤ n
past_end [] n e = omega arith
past_end (x ∷ xs) zero e = cc
past_end (x ∷ xs) (suc n) e = let rest : length xs ≤ n = past_end xs n e in omega (arith, rest)

pub position_longer : (list more : List Text) (text : Text) (n : ℕ) → position_of list text ≡ Some n → position_of (list ++ more) text ≡ Some n
position_longer list [] text n e = subst (λ (ts : List Text). position_of ts text ≡ Some n) (sym (append-nil list)) e
position_longer list (last ∷ more) text n e =
    subst (λ (ts : List Text). position_of ts text ≡ Some n) (append_assoc list (last ∷ []) more) (position_longer (list ++ last ∷ []) more text n (position_stays list last text n e))

position_first : (list more : List Text) (text : Text) → position_of list text ≡ None → position_of (list ++ text ∷ more) text ≡ Some (length list)
position_first list more text e =
    subst (λ (ts : List Text). position_of ts text ≡ Some (length list)) (append_assoc list (text ∷ []) more) (position_longer (list ++ text ∷ []) more text (length list) (position_last list text e))

-- the first m distinct texts are those of the first n texts, and the next distinct text is the next text
abbrev pub IsStop : List Text → List Text → ℕ → ℕ → Type 0
IsStop list texts m n =
    (take m (new_texts list texts) ≡ new_texts list (take n texts)) × ((text : Text) → slice_get (new_texts list texts) m ≡ Some text → slice_get texts n ≡ Some text)

code_there : (list more : List Text) (text : Text) (code : ℕ) → is_some (position_of list text) ≡ true → position_of (list ++ more) text ≡ Some code → code < length list
code_there list more text code e is =
    let at = there_at (position_of list text) e in
    let same : at.0 ≡ code = let longer = position_longer list more text at.0 at.1 in cc in
    let inside = slice_get_within list at.0 text (position_here list text at.0 at.1) in
    omega (arith, inside, same)

code_first : (list more : List Text) (text : Text) (code : ℕ) → is_some (position_of list text) ≡ false → position_of (list ++ text ∷ more) text ≡ Some code → code ≡ length list
code_first list more text code e is = let first = position_first list more text (not_there (position_of list text) e) in cc

stop_here : (list : List Text) (text : Text) (texts : List Text) (code : ℕ) (m : ℕ) (there : Bool) → is_some (position_of list text) ≡ there → position_of (list ++ cond there (new_texts list texts) (text ∷ new_texts (list ++ text ∷ []) texts)) text ≡ Some code → length list + m ≤ code → (take m (cond there (new_texts list texts) (text ∷ new_texts (list ++ text ∷ []) texts)) ≡ []) × ((t : Text) → slice_get (cond there (new_texts list texts) (text ∷ new_texts (list ++ text ∷ []) texts)) m ≡ Some t → Some text ≡ Some t)
stop_here list text texts code m true e is far = absurd (omega (arith, code_there list (new_texts list texts) text code e is, far))
stop_here list text texts code zero false e is far = (refl, λ t at. at)
stop_here list text texts code (suc m) false e is far = absurd (omega (arith, code_first list (new_texts (list ++ text ∷ []) texts) text code e is, far))

stop_later : (list : List Text) (text : Text) (texts : List Text) (code : ℕ) (codes : List ℕ) (m n : ℕ) (there : Bool) → is_some (position_of list text) ≡ there → ((ts : List Text) (k : ℕ) → AreCodes (ts ++ new_texts ts texts) texts codes → Stops (length ts + k) codes n → IsStop ts texts k n) → position_of (list ++ cond there (new_texts list texts) (text ∷ new_texts (list ++ text ∷ []) texts)) text ≡ Some code → AreCodes (list ++ cond there (new_texts list texts) (text ∷ new_texts (list ++ text ∷ []) texts)) texts codes → code < length list + m → Stops (length list + m) codes n → (take m (cond there (new_texts list texts) (text ∷ new_texts (list ++ text ∷ []) texts)) ≡ cond there (new_texts list (take n texts)) (text ∷ new_texts (list ++ text ∷ []) (take n texts))) × ((t : Text) → slice_get (cond there (new_texts list texts) (text ∷ new_texts (list ++ text ∷ []) texts)) m ≡ Some t → slice_get texts n ≡ Some t)
stop_later list text texts code codes m n true e others is are near stops = others list m are stops
stop_later list text texts code codes zero n false e others is are near stops =
    absurd (omega (arith, code_first list (new_texts (list ++ text ∷ []) texts) text code e is, near))
stop_later list text texts code codes (suc m) n false e others is are near stops =
    let longer = list ++ text ∷ [] in
    let are' : AreCodes (longer ++ new_texts longer texts) texts codes = subst (λ (ts : List Text). AreCodes ts texts codes) (sym (append_assoc list (text ∷ []) (new_texts longer texts))) are in
    let far : length list + suc m ≡ length longer + m = omega (arith, length_push list text) in
    let rest = others longer m are' (subst (λ (b : ℕ). Stops b codes n) far stops) in
    (ap (λ (ts : List Text). text ∷ ts) rest.0, rest.1)

pub stop_is : (list texts : List Text) (codes : List ℕ) (m n : ℕ) → AreCodes (list ++ new_texts list texts) texts codes → Stops (length list + m) codes n → IsStop list texts m n
stop_is list [] [] zero n are stops = (rw (stops) refl, λ t e. absurd (cc))
stop_is list [] [] (suc m) n are stops = (rw (stops) refl, λ t e. absurd (cc))
stop_is list [] (c ∷ codes) m n are stops = absurd (cc)
stop_is list (text ∷ texts) [] m n are stops = absurd (cc)
stop_is list (text ∷ texts) (c ∷ codes) m zero are stops = stop_here list text texts c m (is_some (position_of list text)) refl (cc) stops
stop_is list (text ∷ texts) (c ∷ codes) m (suc n) are stops =
    stop_later list text texts c codes m n (is_some (position_of list text)) refl (λ ts k are' stops'. stop_is ts texts codes k n are' stops') (cc) (cc) stops.0 stops.1

-- ---- a part

-- what encoding the texts with an interner without texts leaves
pub part_is : (made new : InternerView) (texts : List Text) (before after : List ℕ) → made.texts ≡ [] → before ≡ [] → Encoded made texts before new after → IsEncoded texts new.texts after
part_is made new texts before after none empty whole =
    let left : new.texts ≡ new_texts [] texts = list_extended made new texts whole.list ∙ ap (λ (ts : List Text). ts ++ new_texts ts texts) none in
    let are : after ≡ whole.codes.0 = whole.codes.1 ∙ ap (λ (cs : List ℕ). cs ++ whole.codes.0) empty in
    (left, subst (λ (cs : List ℕ). AreCodes new.texts texts cs) (sym are) whole.codes.2)

-- ---- a list whose texts are interned in another

take_taken : {X : Type 0} (n : ℕ) (xs : List X) → take (length (take n xs)) xs ≡ take n xs
take_taken zero xs = refl
take_taken (suc n) [] = refl
take_taken (suc n) (x ∷ xs) = ap (λ ys. x ∷ ys) (take_taken n xs)

-- the first n texts were interned, and these are their codes
pub record ListEncoded (old new : InternerView) (from : List Text) (n : ℕ) (added : List ℕ) : Type 0 where
  pub long : length added ≡ min n (length from)
  pub list : extend spur_at old (take (length added) from) accepted new
  pub codes : AreCodes new.texts (take (length added) from) added

pub list_encoded : (old new : InternerView) (from : List Text) (n : ℕ) (before after : List ℕ) → before ≡ [] → Encoded old (take n from) before new after → ListEncoded old new from n after
list_encoded old new from n before after none so_far =
    let long : length after ≡ length (take n from) = omega (arith, encoded_length old new (take n from) before after so_far, ap length none) in
    let same : take n from ≡ take (length after) from = sym (take_taken n from) ∙ ap (λ k. take k from) (sym long) in
    let are : after ≡ so_far.codes.0 = so_far.codes.1 ∙ ap (λ (cs : List ℕ). cs ++ so_far.codes.0) none in
    record {
      long = long ∙ length-take n from;
      list = subst (λ (ts : List Text). extend spur_at old ts accepted new) same so_far.list;
      codes = subst (λ (ts : List Text). AreCodes new.texts ts after) same (subst (λ (cs : List ℕ). AreCodes new.texts (take n from) cs) (sym are) so_far.codes.2);
    }

pub list_next : (old new : InternerView) (from : List Text) (n : ℕ) (codes : List ℕ) → ListEncoded old new from n codes → (text : Text) → slice_get from n ≡ Some text → (P : Text → Type 0) → P text → IsSomeAnd (slice_get from (length codes)) P
list_next old new from n codes b text at P holds =
    let here : length codes ≡ n = omega (arith, b.long, slice_get_within from n text at) in
    subst (λ o. IsSomeAnd o P) (sym (ap (λ k. slice_get from k) here ∙ at)) holds

-- since the codes have room, the second of two cases holds
pub not_full : (P : Type 0) (room long : ℕ) → (room ≤ long) ⊎ P → long < room → P
not_full P room long (inl full) some = absurd (omega (arith, full, some))
not_full P room long (inr holds) some = holds

-- ---- parts one after another

pub on_not_err : {T E : Type 0} (P : Type 0) (r : Result T E) → OnOk r P → is_err r ≡ false → P
on_not_err P (Ok x) holds fine = holds
on_not_err P (Err e) holds fine = absurd (cc)

pub extend_append : (old mid new : InternerView) (front back : List Text) → extend spur_at old front accepted mid → extend spur_at mid back accepted new → extend spur_at old (front ++ back) accepted new
extend_append old mid new [] back h h' = subst (λ (i : InternerView). extend spur_at i back accepted new) h.1 h'
extend_append old mid new (text ∷ front) back h h' =
    let f = first old mid text front h in
    (Ok f.0, f.1, f.2, extend_append f.1 mid new front back f.3 h')

-- the texts of a part were encoded after those of the parts before it
pub encoded_join : (old mid new : InternerView) (front back : List Text) (before middle after : List ℕ) → Encoded old front before mid middle → extend spur_at mid back accepted new → AddsCodes new.texts back middle after → Encoded old (front ++ back) before new after
encoded_join old mid new front back before middle after so_far list codes = record {
  list = extend_append old mid new front back so_far.list list;
  codes =
      let stay : AreCodes new.texts front so_far.codes.0 =
      subst (λ (ts : List Text). AreCodes ts front so_far.codes.0) (sym (list_extended mid new back list)) (codes_longer mid.texts (new_texts mid.texts back) front so_far.codes.0 so_far.codes.2) in (
        so_far.codes.0 ++ codes.0,
        codes.1 ∙ ap (λ (cs : List ℕ). cs ++ codes.0) so_far.codes.1 ∙ append_assoc before so_far.codes.0 codes.0,
        map_some_both (position_of new.texts) front back so_far.codes.0 codes.0 stay codes.2,
      );
}

-- a part whose first texts were encoded, and then its other texts
pub part_of_two : (made mid new : InternerView) (texts front back : List (Bor Text)) (n : ℕ) (before middle after : List ℕ) → front ≡ take n texts → back ≡ drop n texts → made.texts ≡ [] → before ≡ [] → length middle ≡ length before + length front → length after ≡ length middle + length back → extend spur_at made (encoded_texts before middle (map (λ (t : Bor Text). t.now) front)) accepted mid → AddsCodes mid.texts (encoded_texts before middle (map (λ (t : Bor Text). t.now) front)) before middle → extend spur_at mid (encoded_texts middle after (map (λ (t : Bor Text). t.now) back)) accepted new → AddsCodes new.texts (encoded_texts middle after (map (λ (t : Bor Text). t.now) back)) middle after → IsEncoded (map (λ (t : Bor Text). t.now) texts) new.texts after
part_of_two made mid new texts front back n before middle after front_is back_is none empty long longer list codes list' codes' =
    let now = λ (t : Bor Text). t.now in
    let all : encoded_texts before middle (map now front) ≡ map now front = take_all (length middle - length before) (map now front) (omega (arith, long, length-map front now)) in
    let all' : encoded_texts middle after (map now back) ≡ map now back = take_all (length after - length middle) (map now back) (omega (arith, longer, length-map back now)) in
    let first : Encoded made (map now front) before mid middle =
    record {
      list = subst (λ (ts : List Text). extend spur_at made ts accepted mid) all list;
      codes = subst (λ (ts : List Text). AddsCodes mid.texts ts before middle) all codes;
    } in
    let both : Encoded made (map now front ++ map now back) before new after =
    encoded_join made mid new (map now front) (map now back) before middle after first (subst (λ (ts : List Text). extend spur_at mid ts accepted new) all' list') (subst (λ (ts : List Text). AddsCodes new.texts ts middle after) all' codes') in
    let joined : map now front ++ map now back ≡ map now texts =
    ap (λ ts. map now ts ++ map now back) front_is ∙ ap (λ ts. map now (take n texts) ++ map now ts) back_is
    ∙ ap (λ (ts : List Text). ts ++ map now (drop n texts)) (sym (take-map now n texts)) ∙ ap (λ (ts : List Text). take n (map now texts) ++ ts) (sym (drop-map now n texts))
    ∙ take-append-drop n (map now texts) in
    part_is made new (map now texts) before after none empty (subst (λ (ts : List Text). Encoded made ts before new after) joined both)

drop_at : {X : Type 0} (xs : List X) (k : ℕ) (x : X) → slice_get xs k ≡ Some x → drop k xs ≡ x ∷ drop (suc k) xs
drop_at [] k x e = absurd (cc)
drop_at (y ∷ xs) zero x e = let same : y ≡ x = cc in ap (λ z. z ∷ xs) same
drop_at (y ∷ xs) (suc k) x e = drop_at xs k x e

-- the texts before a part, the part, and the texts after it
module _ (texts part : List (Bor Text)) (start count : ℕ) (is : part ≡ take count (drop start texts)) where
  abbrev pub all_texts : List Text
  all_texts = map (λ (t : Bor Text). t.now) texts

  abbrev pub texts_here : List Text
  texts_here = map (λ (t : Bor Text). t.now) part

  abbrev pub texts_after : List Text
  texts_after = drop count (drop start all_texts)

  here_is : texts_here ≡ take count (drop start all_texts)
  here_is =
      ap (map (λ (t : Bor Text). t.now)) is ∙ sym (take-map (λ (t : Bor Text). t.now) count (drop start texts)) ∙ ap (take count) (sym (drop-map (λ (t : Bor Text). t.now) start texts))

  pub texts_are : all_texts ≡ take start all_texts ++ (texts_here ++ texts_after)
  texts_are =
      sym (take-append-drop start all_texts)
      ∙ ap (λ (ts : List Text). take start all_texts ++ ts) (sym (take-append-drop count (drop start all_texts)) ∙ ap (λ (ts : List Text). ts ++ texts_after) (sym here_is))

  -- all texts, split after the first k texts of the part
  pub texts_split_at : (k : ℕ) → all_texts ≡ (take start all_texts ++ take k texts_here) ++ (drop k texts_here ++ texts_after)
  texts_split_at k =
      texts_are
      ∙ ap (λ (ts : List Text). take start all_texts ++ (ts ++ texts_after)) (sym (take-append-drop k texts_here))
      ∙ ap (λ (ts : List Text). take start all_texts ++ ts) (append_assoc (take k texts_here) (drop k texts_here) texts_after)
      ∙ sym (append_assoc (take start all_texts) (take k texts_here) (drop k texts_here ++ texts_after))

  pub texts_more_here : take (start + count) all_texts ≡ take start all_texts ++ texts_here
  texts_more_here = take-add start count all_texts ∙ ap (λ (ts : List Text). take start all_texts ++ ts) (sym here_is)

  next_of : (old new : InternerView) (before after : List ℕ) (k : ℕ) → Encoded old (take start all_texts ++ take k texts_here) before new after → (P : Text → Type 0) (o : Option Text) → slice_get texts_here k ≡ o → IsSomeAnd o P → IsSomeAnd (slice_get all_texts (length after - length before)) P
  next_of old new before after k so_far P None e holds = absurd (holds)
  next_of old new before after k so_far P (Some text) e holds =
      let split = texts_split_at k ∙ ap (λ (ts : List Text). (take start all_texts ++ take k texts_here) ++ (ts ++ texts_after)) (drop_at texts_here k text e) in
      next_at all_texts (take start all_texts ++ take k texts_here) text (drop (suc k) texts_here ++ texts_after) split old new before after so_far P holds

  -- the text of the part that was refused is the next of all texts
  pub next_here : (old new : InternerView) (before after : List ℕ) (k : ℕ) → Encoded old (take start all_texts ++ take k texts_here) before new after → (P : Text → Type 0) → IsSomeAnd (slice_get texts_here k) P → IsSomeAnd (slice_get all_texts (length after - length before)) P
  next_here old new before after k so_far P holds = next_of old new before after k so_far P (slice_get texts_here k) refl holds

pub slice_is : {X : Type 0} (xs : List X) (start count : ℕ) → take (start + count - start) (drop start xs) ≡ take count (drop start xs)
slice_is xs start count = let same : start + count - start ≡ count = omega arith in ap (λ n. take n (drop start xs)) same
