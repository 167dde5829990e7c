-- Blocks that were encoded beside a list, and are put into it.
--
-- Interning the added texts of a block, in their order, leaves what interning all its texts leaves. Each entry
-- that is a code of the list stays, and each other one is that of an added text, which the table rewrites. If
-- an added text is refused, the first entry that the table lacks is that of the line with its first occurrence.
use Rattle.std.proofs.Common.{ℕ, zero, suc, ◌≡◌, ◌+◌, ◌-◌, ◌<◌, ◌≤◌, ◌==◌, Bool, true, false, not, cond, List, [], ◌∷◌, ◌++◌, map, take, drop, length, Option, Some, None, Result, Ok, Err, OnOk, IfErr, IsSome, IfSome, IsSomeAnd, inr, refl, sym, ap, subst, ◌∙◌, arith, get_or, min, append_assoc, append-nil, length-append}
use Rattle.std.specs.Prelude.{All, Vec, slice_get, nat_lt, ◌||◌, if◌then◌else◌}
use Rattle.std.specs.Str.{IsUtf8}
use Rattle.std.proofs.lemmas.Bool.Decides.{nat_tests}
use Rattle.std.proofs.lemmas.List.{take-append-drop, length-take, length-take-le, get_or-take}
use Rattle.std.proofs.Math.ListN.{drop_of_length-le}
use Rattle.std.proofs.lemmas.Option.{slice_get_within, slice_get-get_or, get_or_from_slice_get}
use Rattle.lasso_parts.specs.Texts.{Text, position_of, IsDistinct, Fits}
use Rattle.lasso_parts.proofs.IndexLaws.{position_of_at}
use Rattle.lasso_parts.proofs.TextLemmas.{position_here}
use Rattle.lasso_parts.specs.declared.util.LassoError.{LassoError}
use Rattle.lasso_parts.specs.declared.util.LassoErrorKind.TheVariants.{FailedAllocation}
use Rattle.lasso_single.specs.Filling.{extend}
use Rattle.lasso_single.specs.Interner.{InternerView}
use Rattle.lasso_single.proofs.Filled.{accepted}
use Rattle.lasso_single.specs.Codes.{AreCodes}
use Rattle.lasso_single.specs.Coding.{spur_at, IsRefused, IsAdmitted}
use Rattle.lasso_single.proofs.Coded.{map_some_at}
use Rattle.lasso_single.proofs.Encoded.{key_kept, position_of_key}
use Rattle.lasso_columns.specs.Parts.{new_texts}
use Rattle.lasso_columns.specs.Rows.{is_null, texts_of, IsEntryAs, AreEntries, EncodesRows, IsRefusedRow, StopsAtRow}
use Rattle.lasso_columns.specs.Blocks.{IsBlock, AreTextLines, placed, AddsPlaced, block_end}
use Rattle.lasso_columns.specs.Merging.{MayLackMemoryWithRoom}
use Rattle.lasso_columns.specs.declared.faults.LineError.{LineError}
use Rattle.lasso_columns.specs.declared.faults.LineError.TheVariants.{Refused, NotText}
use Rattle.lasso_columns.proofs.RowLists.{position_past, position_nowhere}
use Rattle.lasso_columns.proofs.PartLists.{Found, Stops, IsStop, stop_is, extend_all, position_longer, past_end}

-- ---- an interner that has a list

key_there : (n : ℕ) (o : Option ℕ) → spur_at n ≡ o → IsSome o → (key : ℕ) × (spur_at n ≡ Some key)
key_there n None e some = absurd (let no : false ≡ true = some in cc)
key_there n (Some key) e some = (key, e)

-- positions in a list that has keys for all are less than the entry of a null
pub few_of : (m : ℕ) → Fits spur_at m → (n : ℕ) → n < m → n < 4294967295
few_of m fits n small =
    let key = key_there n (spur_at n) refl (fits n small) in
    let kept = key_kept n key.0 key.1 in
    let is = position_of_key n key.0 key.1 in
    omega (arith, kept.0, kept.1, is)

-- the first texts of a list are present
pub found_first : (now : InternerView) (base : ℕ) → IsDistinct now.texts → Fits spur_at (length now.texts) → base ≤ length now.texts → All (Found now) (take base now.texts)
found_first now base distinct fits small i d inside =
    let long : length (take base now.texts) ≡ base = length-take-le base now.texts small in
    let below : i < length now.texts = omega (arith, inside, long, small) in
    let text = get_or (take base now.texts) i d in
    let same : text ≡ get_or now.texts i d = get_or-take base now.texts i d (omega (arith, inside, long)) in
    let at : slice_get now.texts i ≡ Some text = slice_get-get_or now.texts i d below ∙ ap (λ t. Some t) (sym same) in
    let key = key_there i (spur_at i) refl (fits i below) in
    (i, key.0, position_of_at now.texts text i distinct at, key.1)

-- ---- where entries stop

-- whether the entry is that of a null, or below the bound
abbrev known : ℕ → ℕ → Bool
known bound entry = (entry == 4294967295) || nat_lt entry bound

-- the first k entries are known, and the next one, if there is one, is not
abbrev EntryStops : ℕ → List ℕ → ℕ → Type 0
EntryStops bound [] k = k ≡ 0
EntryStops bound (e ∷ es) zero = known bound e ≡ false
EntryStops bound (e ∷ es) (suc k) = (known bound e ≡ true) × EntryStops bound es k

-- the same of the texts among the lines, by their codes
record TextStops (null : Option Text) (list lines : List Text) (bound k : ℕ) : Type 0 where
  codes : List ℕ
  n : ℕ
  are : AreCodes list (texts_of null lines) codes
  stops : Stops bound codes n
  texts_are : texts_of null (take k lines) ≡ take n (texts_of null lines)
  next : (t : Text) → slice_get (texts_of null lines) n ≡ Some t → (slice_get lines k ≡ Some t) × (is_null null t ≡ false)

texts_cons : (null : Option Text) (l : Text) (ls : List Text) (b : Bool) → is_null null l ≡ b → texts_of null (l ∷ ls) ≡ cond b (texts_of null ls) (l ∷ texts_of null ls)
texts_cons null l ls true e = ap (λ b. cond (not b) (l ∷ texts_of null ls) (texts_of null ls)) e
texts_cons null l ls false e = ap (λ b. cond (not b) (l ∷ texts_of null ls) (texts_of null ls)) e

-- the codes of the texts among lines with these entries
are_null : (null : Option Text) (list : List Text) (l : Text) (ls : List Text) (codes : List ℕ) → is_null null l ≡ true → AreCodes list (texts_of null ls) codes → AreCodes list (texts_of null (l ∷ ls)) codes
are_null null list l ls codes is are = subst (λ (ts : List Text). AreCodes list ts codes) (sym (texts_cons null l ls true is)) are

are_text : (null : Option Text) (list : List Text) (l : Text) (ls : List Text) (e : ℕ) (codes : List ℕ) → is_null null l ≡ false → position_of list l ≡ Some e → AreCodes list (texts_of null ls) codes → AreCodes list (texts_of null (l ∷ ls)) (e ∷ codes)
are_text null list l ls e codes is here are =
    let all : map (position_of list) (l ∷ texts_of null ls) ≡ map Some (e ∷ codes) = cc in
    subst (λ (ts : List Text). AreCodes list ts (e ∷ codes)) (sym (texts_cons null l ls false is)) all

codes_by : (null : Option Text) (list : List Text) (l : Text) (ls : List Text) (e : ℕ) (b : Bool) → is_null null l ≡ b → IsEntryAs b list l e → ((codes : List ℕ) × AreCodes list (texts_of null ls) codes) → (codes : List ℕ) × AreCodes list (texts_of null (l ∷ ls)) codes
codes_by null list l ls e true is here others = (others.0, are_null null list l ls others.0 is others.1)
codes_by null list l ls e false is here others = (e ∷ others.0, are_text null list l ls e others.0 is here.0 others.1)

codes_of : (null : Option Text) (list lines : List Text) (entries : List ℕ) → AreEntries null list lines entries → (codes : List ℕ) × AreCodes list (texts_of null lines) codes
codes_of null list [] [] are = ([], refl)
codes_of null list [] (n ∷ ns) are = absurd are
codes_of null list (l ∷ ls) [] are = absurd are
codes_of null list (l ∷ ls) (e ∷ es) are = codes_by null list l ls e (is_null null l) refl are.0 (codes_of null list ls es are.1)

null_known : (bound e : ℕ) → e ≡ 4294967295 → known bound e ≡ true
null_known bound e is = ap (known bound) is

unknown_far : (bound e : ℕ) → known bound e ≡ false → bound ≤ e
unknown_far bound e is = grind (arith, nat_tests)

known_near : (bound e : ℕ) → e < 4294967295 → known bound e ≡ true → e < bound
known_near bound e small is = grind (arith, nat_tests)

stops_first : (null : Option Text) (list : List Text) (l : Text) (ls : List Text) (e : ℕ) (bound : ℕ) (b : Bool) → is_null null l ≡ b → IsEntryAs b list l e → known bound e ≡ false → ((codes : List ℕ) × AreCodes list (texts_of null ls) codes) → TextStops null list (l ∷ ls) bound 0
stops_first null list l ls e bound true is here far others = absurd (let near = null_known bound e here in cc)
stops_first null list l ls e bound false is here far others =
    let texts : texts_of null (l ∷ ls) ≡ l ∷ texts_of null ls = texts_cons null l ls false is in
    record {
      codes = e ∷ others.0;
      n = 0;
      are = are_text null list l ls e others.0 is here.0 others.1;
      stops = unknown_far bound e far;
      texts_are = refl;
      next = λ t at. let same : l ≡ t = let first : slice_get (l ∷ texts_of null ls) 0 ≡ Some t = subst (λ (ts : List Text). slice_get ts 0 ≡ Some t) texts at in cc in (ap (λ x. Some x) same, ap (is_null null) (sym same) ∙ is);
    }

stops_next : (null : Option Text) (list : List Text) (l : Text) (ls : List Text) (e : ℕ) (bound k : ℕ) (b : Bool) → is_null null l ≡ b → IsEntryAs b list l e → known bound e ≡ true → TextStops null list ls bound k → TextStops null list (l ∷ ls) bound (suc k)
stops_next null list l ls e bound k true is here near others =
    let texts : texts_of null (l ∷ ls) ≡ texts_of null ls = texts_cons null l ls true is in
    record {
      codes = others.codes;
      n = others.n;
      are = subst (λ (ts : List Text). AreCodes list ts others.codes) (sym texts) others.are;
      stops = others.stops;
      texts_are = texts_cons null l (take k ls) true is ∙ others.texts_are ∙ ap (take others.n) (sym texts);
      next = λ t at. others.next t (subst (λ (ts : List Text). slice_get ts others.n ≡ Some t) texts at);
    }
stops_next null list l ls e bound k false is here near others =
    let texts : texts_of null (l ∷ ls) ≡ l ∷ texts_of null ls = texts_cons null l ls false is in
    record {
      codes = e ∷ others.codes;
      n = suc others.n;
      are = are_text null list l ls e others.codes is here.0 others.are;
      stops = (known_near bound e here.1 near, others.stops);
      texts_are = texts_cons null l (take k ls) false is ∙ ap (λ (ts : List Text). l ∷ ts) others.texts_are ∙ ap (take (suc others.n)) (sym texts);
      next = λ t at. others.next t (subst (λ (ts : List Text). slice_get ts (suc others.n) ≡ Some t) texts at);
    }

stops_of : (null : Option Text) (list lines : List Text) (entries : List ℕ) (bound k : ℕ) → AreEntries null list lines entries → EntryStops bound entries k → TextStops null list lines bound k
stops_of null list [] [] bound k are stops = record {
  codes = [];
  n = 0;
  are = refl;
  stops = refl;
  texts_are = ap (λ k. texts_of null (take k [])) stops;
  next = λ t at. absurd (cc);
}
stops_of null list [] (n ∷ ns) bound k are stops = absurd are
stops_of null list (l ∷ ls) [] bound k are stops = absurd are
stops_of null list (l ∷ ls) (e ∷ es) bound zero are stops = stops_first null list l ls e bound (is_null null l) refl are.0 stops (codes_of null list ls es are.1)
stops_of null list (l ∷ ls) (e ∷ es) bound (suc k) are stops = stops_next null list l ls e bound k (is_null null l) refl are.0 stops.0 (stops_of null list ls es bound k are.1 stops.1)

-- all entries are below a bound that the list does not pass
entry_known : (b : Bool) (list : List Text) (l : Text) (e bound : ℕ) → IsEntryAs b list l e → length list ≤ bound → known bound e ≡ true
entry_known true list l e bound is short = null_known bound e is
entry_known false list l e bound is short =
    let inside : e < length list = slice_get_within list e l (position_here list l e is.0) in
    grind (arith, nat_tests)

entries_end : (null : Option Text) (list lines : List Text) (entries : List ℕ) (bound k : ℕ) → AreEntries null list lines entries → length list ≤ bound → EntryStops bound entries k → k ≡ length lines
entries_end null list [] [] bound k are short stops = stops
entries_end null list [] (n ∷ ns) bound k are short stops = absurd are
entries_end null list (l ∷ ls) [] bound k are short stops = absurd are
entries_end null list (l ∷ ls) (e ∷ es) bound zero are short stops = absurd (let near = entry_known (is_null null l) list l e bound are.0 short in cc)
entries_end null list (l ∷ ls) (e ∷ es) bound (suc k) are short stops =
    let rest : k ≡ length ls = entries_end null list ls es bound k are.1 short stops.1 in omega (arith, rest)

-- ---- what the table makes of entries

-- an entry of each kind: of a null, of the list, of an added text
placed_by : (base : ℕ) (table : List ℕ) (e : ℕ) (b c : Bool) → (e == 4294967295) ≡ b → nat_lt e base ≡ c → placed base table e ≡ cond b (Some e) (cond c (Some e) (slice_get table (e - base)))
placed_by base table e true c is near = ap (λ b. if b || nat_lt e base then Some e else slice_get table (e - base)) is
placed_by base table e false c is near = ap (λ b. if b || nat_lt e base then Some e else slice_get table (e - base)) is ∙ by_near c near
  where
    by_near : (c : Bool) → nat_lt e base ≡ c → (if nat_lt e base then Some e else slice_get table (e - base)) ≡ cond c (Some e) (slice_get table (e - base))
    by_near true near = ap (λ c. if c then Some e else slice_get table (e - base)) near
    by_near false near = ap (λ c. if c then Some e else slice_get table (e - base)) near

placed_known_by : (base : ℕ) (table : List ℕ) (e r : ℕ) (b c : Bool) → (e == 4294967295) ≡ b → nat_lt e base ≡ c → placed base table e ≡ Some r → known (base + length table) e ≡ true
placed_known_by base table e r true c is near at = ap (λ b. b || nat_lt e (base + length table)) is
placed_known_by base table e r false true is near at = grind (arith, nat_tests)
placed_known_by base table e r false false is near at =
    let there : slice_get table (e - base) ≡ Some r = sym (placed_by base table e false false is near) ∙ at in
    let inside : e - base < length table = slice_get_within table (e - base) r there in
    grind (arith, nat_tests)

placed_known : (base : ℕ) (table : List ℕ) (e r : ℕ) → placed base table e ≡ Some r → known (base + length table) e ≡ true
placed_known base table e r at = placed_known_by base table e r (e == 4294967295) (nat_lt e base) refl refl at

placed_unknown_by : (base : ℕ) (table : List ℕ) (e : ℕ) (b c : Bool) → (e == 4294967295) ≡ b → nat_lt e base ≡ c → placed base table e ≡ None → known (base + length table) e ≡ false
placed_unknown_by base table e true c is near at = absurd (let put = placed_by base table e true c is near in cc)
placed_unknown_by base table e false true is near at = absurd (let put = placed_by base table e false true is near in cc)
placed_unknown_by base table e false false is near at =
    let nowhere : slice_get table (e - base) ≡ None = sym (placed_by base table e false false is near) ∙ at in
    let past : length table ≤ e - base = past_end table (e - base) nowhere in
    grind (arith, nat_tests)

placed_unknown : (base : ℕ) (table : List ℕ) (e : ℕ) → placed base table e ≡ None → known (base + length table) e ≡ false
placed_unknown base table e at = placed_unknown_by base table e (e == 4294967295) (nat_lt e base) refl refl at

-- where the table ends
placed_stops : (base : ℕ) (table part put : List ℕ) → map (placed base table) (take (length put) part) ≡ map Some put → IfSome (slice_get part (length put)) (λ entry. placed base table entry ≡ None) → EntryStops (base + length table) part (length put)
placed_stops base table [] [] are next = refl
placed_stops base table [] (r ∷ put) are next = absurd (cc)
placed_stops base table (e ∷ part) [] are next = placed_unknown base table e next
placed_stops base table (e ∷ part) (r ∷ put) are next =
    let here : placed base table e ≡ Some r = cc in
    (placed_known base table e r here, placed_stops base table part put (cc) next)

-- entries of a list are not rewritten
entry_kept : (b : Bool) (list : List Text) (l : Text) (e base : ℕ) (table : List ℕ) → IsEntryAs b list l e → base ≡ length list → placed base table e ≡ Some e
entry_kept b list l e base table is long =
    let near : known base e ≡ true = entry_known b list l e base is (omega (arith, long)) in
    ap (λ b. if b then Some e else slice_get table (e - base)) near

entries_kept : (null : Option Text) (list lines : List Text) (entries : List ℕ) (base : ℕ) (table : List ℕ) → AreEntries null list lines entries → base ≡ length list → map (placed base table) entries ≡ map Some entries
entries_kept null list [] [] base table are long = refl
entries_kept null list [] (n ∷ ns) base table are long = absurd are
entries_kept null list (l ∷ ls) [] base table are long = absurd are
entries_kept null list (l ∷ ls) (e ∷ es) base table are long =
    let here : placed base table e ≡ Some e = entry_kept (is_null null l) list l e base table are.0 long in
    let others : map (placed base table) es ≡ map Some es = entries_kept null list ls es base table are.1 long in
    cc

none_of : (texts : List Text) → (length texts == 0) ≡ true → texts ≡ []
none_of [] e = refl
none_of (t ∷ ts) e = absurd (let none : length (t ∷ ts) ≡ 0 = grind (arith, nat_tests) in omega (arith, none))

-- nor those of a block without added texts
pub block_stays : (null : Option Text) (list lines added : List Text) (part : List ℕ) (is_complete : Bool) (base : ℕ) (table : List ℕ) → IsBlock null list lines added part is_complete → base ≡ length list → (length added == 0) ≡ true → map (placed base table) part ≡ map Some part
block_stays null list lines added part is_complete base table block long none =
    let all : list ++ added ≡ list = ap (λ (ts : List Text). list ++ ts) (none_of added none) ∙ append-nil list in
    entries_kept null list block.done part base table (subst (λ (ts : List Text). AreEntries null ts block.done part) all block.entries_are) long

slice_get_take : {X : Type 0} (xs : List X) (m n : ℕ) → n < m → slice_get (take m xs) n ≡ slice_get xs n
slice_get_take xs zero n small = absurd (omega (arith, small))
slice_get_take [] (suc m) n small = refl
slice_get_take (x ∷ xs) (suc m) zero small = refl
slice_get_take (x ∷ xs) (suc m) (suc n) small = slice_get_take xs m n (omega (arith, small))

slice_get_behind : {X : Type 0} (xs ys : List X) (k n : ℕ) → k ≡ length xs + n → slice_get (xs ++ ys) k ≡ slice_get ys n
slice_get_behind [] ys k n is = let same : k ≡ n = omega (arith, is) in ap (slice_get ys) same
slice_get_behind (x ∷ xs) ys zero n is = absurd (omega (arith, is))
slice_get_behind (x ∷ xs) ys (suc k) n is = slice_get_behind xs ys k n (omega (arith, is))

-- a text that is found in two lists at a position of the first one
place_in_first : (list added : List Text) (l : Text) (e : ℕ) (o p : Option ℕ) → position_of list l ≡ o → position_of added l ≡ p → position_of (list ++ added) l ≡ Some e → e < length list → position_of list l ≡ Some e
place_in_first list added l e (Some n) p is is' at small = let longer : position_of (list ++ added) l ≡ Some n = position_longer list added l n is in cc
place_in_first list added l e None (Some n) is is' at small =
    let past : position_of (list ++ added) l ≡ Some (length list + n) = position_past list added l n is is' in
    let same : e ≡ length list + n = cc in
    absurd (omega (arith, same, small))
place_in_first list added l e None None is is' at small = let none : position_of (list ++ added) l ≡ None = position_nowhere list added l is is' in absurd (cc)

-- the entries in the longer list
module _ (null : Option Text) (list added now more : List Text) (table : List ℕ) (base : ℕ) (long : base ≡ length list) (grown : now ≡ list ++ more) (merges : AreCodes now (take (length table) added) table) (few : (n : ℕ) → n < length now → n < 4294967295) where
  placed_text : (l : Text) (e r : ℕ) (c : Bool) → nat_lt e base ≡ c → position_of (list ++ added) l ≡ Some e → e < 4294967295 → placed base table e ≡ Some r → position_of now l ≡ Some r
  placed_text l e r true near at small put =
      let other : (e == 4294967295) ≡ false = grind (arith, nat_tests) in
      let same : e ≡ r = let is : placed base table e ≡ Some e = placed_by base table e false true other near in cc in
      let low : e < base = grind (arith, nat_tests) in
      let first : position_of list l ≡ Some e = place_in_first list added l e (position_of list l) (position_of added l) refl refl at (omega (arith, low, long)) in
      subst (λ (ts : List Text). position_of ts l ≡ Some r) (sym grown) (position_longer list more l r (first ∙ ap (λ n. Some n) same))
  placed_text l e r false far at small put =
      let other : (e == 4294967295) ≡ false = grind (arith, nat_tests) in
      let put' : slice_get table (e - base) ≡ Some r = sym (placed_by base table e false false other far) ∙ put in
      let inside : e - base < length table = slice_get_within table (e - base) r put' in
      let high : base ≤ e = grind (arith, nat_tests) in
      let there : slice_get (list ++ added) e ≡ Some l = position_here (list ++ added) l e at in
      let behind : slice_get added (e - base) ≡ Some l = sym (slice_get_behind list added e (e - base) (omega (arith, high, long))) ∙ there in
      map_some_at (position_of now) (take (length table) added) table (e - base) l r merges (slice_get_take added (length table) (e - base) inside ∙ behind) put'

  entry_placed : (b : Bool) (l : Text) (e r : ℕ) → IsEntryAs b (list ++ added) l e → placed base table e ≡ Some r → IsEntryAs b now l r
  entry_placed true l e r is put =
      let same : Some 4294967295 ≡ Some r = sym (ap (placed base table) is) ∙ put in
      cc
  entry_placed false l e r is put =
      let at : position_of now l ≡ Some r = placed_text l e r (nat_lt e base) refl is.0 is.1 put in
      (at, few r (slice_get_within now r l (position_here now l r at)))

  entries_placed : (lines : List Text) (part put : List ℕ) → AreEntries null (list ++ added) lines part → map (placed base table) (take (length put) part) ≡ map Some put → AreEntries null now (take (length put) lines) put
  entries_placed [] [] [] are is = tt
  entries_placed [] [] (r ∷ rs) are is = absurd (cc)
  entries_placed [] (e ∷ es) put are is = absurd are
  entries_placed (l ∷ ls) [] put are is = absurd are
  entries_placed (l ∷ ls) (e ∷ es) [] are is = tt
  entries_placed (l ∷ ls) (e ∷ es) (r ∷ rs) are is =
      let here : placed base table e ≡ Some r = cc in
      (entry_placed (is_null null l) l e r are.0 here, entries_placed ls es rs are.1 (cc))

-- ---- a block whose added texts were interned

-- the lines that follow those of a block: none, or the first is not UTF-8
abbrev IsRest : Bool → List Text → Type 0
IsRest true rest = rest ≡ []
IsRest false rest = (line : Text) × (more : List Text) × (rest ≡ line ∷ more) × ¬ (IsUtf8 line)

block_rest : (is_complete : Bool) (done lines : List Text) → AreTextLines is_complete done lines → (rest : List Text) × (lines ≡ done ++ rest) × IsRest is_complete rest
block_rest true done lines are = ([], are.1 ∙ sym (append-nil done), refl)
block_rest false done lines are = (are.1.0 ∷ are.1.1, are.1.2, (are.1.0, are.1.1, refl, are.1.3))

block_texts : (is_complete : Bool) (done lines : List Text) → AreTextLines is_complete done lines → All IsUtf8 done
block_texts true done lines are = are.0
block_texts false done lines are = are.0

all_take : (P : Text → Type 0) (xs : List Text) (n : ℕ) → All P xs → All P (take n xs)
all_take P xs n all i d inside =
    let far : i < min n (length xs) = omega (arith, inside, length-take n xs) in
    subst P (sym (get_or-take n xs i d (omega (arith, far)))) (all i d (omega (arith, far)))

-- what putting a block leaves: the first lines of it were encoded, and `left` of its texts and the rest are not
pub record BlockPut (null : Option Text) (old now : InternerView) (lines added : List Text) (before after : List ℕ) (interned : ℕ) (is_complete : Bool) : Type 0 where
  left : List Text
  rest : List Text
  rest_is : IsRest is_complete rest
  rows : EncodesRows null old lines (left ++ rest) before now after
  whole : interned ≡ length added → left ≡ []
  refused : (text : Text) → slice_get added interned ≡ Some text → (more : List Text) × (left ≡ text ∷ more) × (is_null null text ≡ false) × IsUtf8 text

all_at : (P : Text → Type 0) (xs : List Text) (n : ℕ) (x : Text) → All P xs → slice_get xs n ≡ Some x → P x
all_at P xs n x all e = subst P (get_or_from_slice_get xs n x x e) (all n x (slice_get_within xs n x e))

drop_at : (xs : List Text) (k : ℕ) (x : Text) → slice_get xs k ≡ Some x → drop k xs ≡ x ∷ drop (suc k) xs
drop_at [] k x e = absurd (cc)
drop_at (y ∷ xs) zero x e = let same : y ≡ x = cc in ap (λ z. z ∷ xs) same
drop_at (y ∷ xs) (suc k) x e = drop_at xs k x e

module _ (null : Option Text) (old now : InternerView) (list lines added : List Text) (base : ℕ) (part table before after : List ℕ) (is_complete : Bool) (block : IsBlock null list lines added part is_complete) (long : base ≡ length list) (more : List Text) (grown : now.texts ≡ list ++ more) (found : All (Found old) list) (interned : extend spur_at old (take (length table) added) accepted now) (merges : AreCodes now.texts (take (length table) added) table) (few : (n : ℕ) → n < length now.texts → n < 4294967295) (put : AddsPlaced base table part before after) where
  abbrev count : ℕ
  count = length put.0

  entry_stops : EntryStops (base + length table) part count
  entry_stops = placed_stops base table part put.0 put.2 put.3

  stop : TextStops null (list ++ added) block.done (base + length table) count
  stop = stops_of null (list ++ added) block.done part (base + length table) count block.entries_are entry_stops

  stop_text : IsStop list (texts_of null block.done) (length table) stop.n
  stop_text =
      stop_is list (texts_of null block.done) stop.codes (length table) stop.n
      (subst (λ (ts : List Text). AreCodes (list ++ ts) (texts_of null block.done) stop.codes) block.added_are stop.are)
      (subst (λ b. Stops (b + length table) stop.codes stop.n) long stop.stops)

  first_added : take (length table) added ≡ new_texts list (texts_of null (take count block.done))
  first_added = ap (take (length table)) block.added_are ∙ stop_text.0 ∙ ap (new_texts list) (sym stop.texts_are)

  texts : All IsUtf8 block.done
  texts = block_texts is_complete block.done lines block.lines_are

  -- the first lines were encoded
  pub block_put : BlockPut null old now lines added before after (length table) is_complete
  block_put =
      let rest = block_rest is_complete block.done lines block.lines_are in
      record {
        left = drop count block.done;
        rest = rest.0;
        rest_is = rest.2;
        rows =
            record {
              done = take count block.done;
              split = rest.1 ∙ ap (λ (ls : List Text). ls ++ rest.0) (sym (take-append-drop count block.done)) ∙ append_assoc (take count block.done) (drop count block.done) rest.0;
              texts = all_take IsUtf8 block.done count texts;
              list =
                  extend_all old now list (texts_of null (take count block.done)) found
                  (subst (λ (ts : List Text). extend spur_at old ts accepted now) first_added interned);
              entries = (put.0, put.1, entries_placed null list added now.texts more table base long grown merges few block.done part put.0 block.entries_are put.2);
            };
        whole = λ all.
            let end : count ≡ length block.done = entries_end null (list ++ added) block.done part (base + length table) count block.entries_are (omega (arith, all, long, length-append list added)) entry_stops in
            drop_of_length-le block.done (omega (arith, end));
        refused = λ text at.
            let next = stop.next text (stop_text.1 text (ap (λ (ts : List Text). slice_get ts (length table)) (sym block.added_are) ∙ at)) in
            (drop (suc count) block.done, drop_at block.done count text next.0, next.1, all_at IsUtf8 block.done count text texts next.0);
      }

-- ---- how a block ends

module _ {A : Type 0} (null : Option Text) (old now : InternerView) (lines added : List Text) (before : List ℕ) (after : Vec ℕ A) (table : List ℕ) where
  pub put_rows : (is_complete : Bool) (outcome : Result (Unit {0}) LassoError) (number : ℕ) (result : Result (Unit {0}) LineError) → BlockPut null old now lines added before after.items (length table) is_complete → result ≡ block_end outcome is_complete number → OnOk outcome (length table ≡ length added) → OnOk result (EncodesRows null old lines [] before now after.items)
  put_rows true (Ok x) number result put is whole =
      let all : put.left ++ put.rest ≡ [] = ap (λ (ls : List Text). ls ++ put.rest) (put.whole whole) ∙ put.rest_is in
      subst (λ (r : Result (Unit {0}) LineError). OnOk r (EncodesRows null old lines [] before now after.items)) (sym is)
      (subst (λ (ls : List Text). EncodesRows null old lines ls before now after.items) all put.rows)
  put_rows false (Ok x) number result put is whole = subst (λ (r : Result (Unit {0}) LineError). OnOk r (EncodesRows null old lines [] before now after.items)) (sym is) tt
  put_rows b (Err error) number result put is whole = subst (λ (r : Result (Unit {0}) LineError). OnOk r (EncodesRows null old lines [] before now after.items)) (sym is) tt

  stops_at : (text : Text) (o : Option Text) (P : Text → Type 0) → slice_get added (length table) ≡ o → IsSomeAnd o P → (text : Text) × (slice_get added (length table) ≡ Some text) × P text
  stops_at text None P e holds = absurd holds
  stops_at text (Some t) P e holds = (t, e, holds)

  pub put_stops_at : (is_complete : Bool) (outcome : Result (Unit {0}) LassoError) (number : ℕ) (result : Result (Unit {0}) LineError) → BlockPut null old now lines added before after.items (length table) is_complete → result ≡ block_end outcome is_complete number → OnOk outcome (length table ≡ length added) → IfErr outcome (λ error. IsSomeAnd (slice_get added (length table)) (λ text. IsRefused now text error)) → IfErr outcome (MayLackMemoryWithRoom now table added) → number ≡ length after.items - length before + 1 → IfErr result (StopsAtRow null old lines before now after)
  put_stops_at true (Ok x) number result put is whole refused lacks at = subst (λ (r : Result (Unit {0}) LineError). IfErr r (StopsAtRow null old lines before now after)) (sym is) tt
  put_stops_at false (Ok x) number result put is whole refused lacks at =
      let rest = put.rest_is in
      let all : put.left ++ put.rest ≡ rest.0 ∷ rest.1 = ap (λ (ls : List Text). ls ++ put.rest) (put.whole whole) ∙ rest.2 in
      let rows : EncodesRows null old lines (rest.0 ∷ rest.1) before now after.items = subst (λ (ls : List Text). EncodesRows null old lines ls before now after.items) all put.rows in
      let stops : StopsAtRow null old lines before now after (NotText number) = (rest.0, rest.1, rows, (at, rest.3)) in
      subst (λ (r : Result (Unit {0}) LineError). IfErr r (StopsAtRow null old lines before now after)) (sym is) stops
  put_stops_at b (Err error) number result put is whole refused lacks at =
      let why = stops_at [] (slice_get added (length table)) (λ text. IsRefused now text error) refl refused in
      let text = why.0 in
      let lack : error ≡ FailedAllocation → IsAdmitted now text = some_at (slice_get added (length table)) text (λ text. error ≡ FailedAllocation → IsAdmitted now text) why.1 lacks in
      let next = put.refused text why.1 in
      let all : put.left ++ put.rest ≡ text ∷ (next.0 ++ put.rest) = ap (λ (ls : List Text). ls ++ put.rest) next.1 in
      let rows : EncodesRows null old lines (text ∷ (next.0 ++ put.rest)) before now after.items = subst (λ (ls : List Text). EncodesRows null old lines ls before now after.items) all put.rows in
      let row : IsRefusedRow (is_null null text) now after text error = subst (λ b. IsRefusedRow b now after text error) (sym next.2) (why.2, λ failed. inr (lack failed)) in
      let stops : StopsAtRow null old lines before now after (Refused number error) = (text, next.0 ++ put.rest, rows, (at, next.3, row)) in
      subst (λ (r : Result (Unit {0}) LineError). IfErr r (StopsAtRow null old lines before now after)) (sym is) stops
    where
      some_at : (o : Option Text) (t : Text) (P : Text → Type 0) → o ≡ Some t → IsSomeAnd o P → P t
      some_at None t P e holds = absurd holds
      some_at (Some x) t P e holds = let same : x ≡ t = cc in subst P same holds
