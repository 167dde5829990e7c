-- Counts that grow by those of other texts.
--
-- The count of each text grows by the number of times that it is among the texts. If two lists are counted
-- one after the other, the growths add up. After an interner has grown, a zero is appended for each new text,
-- which changes the count of none. Then the counts of a part are added one after another: the counts of the
-- first n texts of the part's list have grown, and the others have not.
use Rattle.std.proofs.Common.{ℕ, zero, suc, ◌≡◌, ◌+◌, ◌-◌, ◌<◌, ◌≤◌, List, [], ◌∷◌, ◌++◌, length, take, get_or, set, sum, map, Bor, Bool, true, false, cond, Option, Some, None, Result, Ok, Err, is_some, is_err, refl, sym, ap, subst, ◌∙◌, arith, append_assoc, add-zero, length-append}
use Rattle.std.specs.Prelude.{option_and_then, slice_get, replicate, nat_lt, if◌then◌else◌}
use Rattle.std.proofs.lemmas.Bool.Decides.{nat_tests}
use Rattle.std.proofs.lemmas.Option.{slice_get_within}
use Rattle.std.specs.Str.{bytes_eq}
use Rattle.std.proofs.lemmas.List.{append-nil, length_push, length-set, get_or_append_left, take_more, take_all, length-take}
use Rattle.std.proofs.lemmas.List.Sums.{sum_by_push, sum_by-append, sum_by-set, sum_by_more_le, get_or-le-sum_by}
use Rattle.lasso_parts.proofs.IndexLaws.{absent_before}
use Rattle.lasso_parts.proofs.TextLemmas.{position_here, position_last, take_more_at}
use Rattle.lasso_parts.specs.Texts.{Text, position_of, key_of, IsDistinct}
use Rattle.lasso_single.specs.Filling.{extend}
use Rattle.lasso_single.specs.Interner.{InternerView}
use Rattle.lasso_single.proofs.Filled.{accepted}
use Rattle.lasso_columns.proofs.Interned.{with_last}
use Rattle.lasso_single.proofs.Coded.{position_stays, map_some_at, map_some_length}
use Rattle.lasso_single.proofs.Encoded.{position_of_key}
use Rattle.lasso_columns.proofs.PartLists.{list_extended}
use Rattle.lasso_single.specs.Codes.{AreCodes}
use Rattle.lasso_single.specs.Coding.{spur_at}
use Rattle.lasso_columns.specs.Parts.{new_texts}
use Rattle.lasso_columns.specs.declared.counts.error.CountError.{CountError}
use Rattle.lasso_columns.specs.Counts.{AreCounts, count_of, count_at, counted, raised, raised_by}
use Rattle.lasso_columns.specs.Adding.{AddsAmounts, AddsCounts, counted_of}
use Rattle.lasso_columns.proofs.Rest.{Grown}
use Rattle.lasso_columns.proofs.Counted.{tells, tell_new, tell_old, position_absent, same_text, inside, last_one, counted_lengths, counted_total, place_of}

-- ---- growths that add up

count_both : (texts more : List Text) (text : Text) → count_of (texts ++ more) text ≡ count_of texts text + count_of more text
count_both texts more text = sum_by-append (λ t. cond (bytes_eq t text) 1 0) texts more

count_push : (texts : List Text) (last text : Text) → count_of (texts ++ last ∷ []) text ≡ count_of texts text + cond (bytes_eq last text) 1 0
count_push texts last text = sum_by_push (λ t. cond (bytes_eq t text) 1 0) texts last

pub adds_none : (list : List Text) (counts : List ℕ) → length counts ≡ length list → AddsCounts [] list counts list counts
adds_none list counts lengths = record { each = λ s. sym (add-zero (count_at counts (position_of list s))); lengths = lengths; total = sym (add-zero (sum counts)) }

pub adds_join : (texts more before mid after : List Text) (old now new : List ℕ) → AddsCounts texts before old mid now → AddsCounts more mid now after new → AddsCounts (texts ++ more) before old after new
adds_join texts more before mid after old now new one two = record {
  each = λ s. let first = one.each s in let second = two.each s in let both = count_both texts more s in omega (arith, first, second, both);
  lengths = two.lengths;
  total = omega (arith, one.total, two.total, length-append texts more);
}

-- one text more
pub adds_push : (texts before mid after : List Text) (old now new : List ℕ) (text : Text) → AddsCounts texts before old mid now → new ≡ counted now (position_of mid text) → after ≡ with_last mid text → AddsCounts (texts ++ text ∷ []) before old after new
adds_push texts before mid after old now new text so_far is grown = record {
  each = λ s.
      let first = so_far.each s in
      let here : count_at new (position_of after s) ≡ count_at now (position_of mid s) + cond (bytes_eq text s) 1 0 =
      ap (λ cs. count_at cs (position_of after s)) is ∙ ap (λ (ts : List Text). count_at (counted now (position_of mid text)) (position_of ts s)) grown ∙ tells mid now text s (position_of mid text) refl so_far.lengths in
      let both = count_push texts text s in omega (arith, first, here, both);
  lengths =
      let long : length new ≡ length (counted now (position_of mid text)) = ap (λ (cs : List ℕ). length cs) is in
      let same : length after ≡ length (with_last mid text) = ap (λ (ts : List Text). length ts) grown in long ∙ counted_lengths now mid text so_far.lengths ∙ sym same;
  total =
      let here : sum new ≡ sum now + 1 = ap sum is ∙ counted_total now (position_of mid text) (place_of mid now text so_far.lengths) in omega (arith, so_far.total, here, length_push texts text);
}

-- what is read at an index
pub value_at : (xs : List ℕ) (i v : ℕ) → i < length xs → v ≡ get_or xs i v → v ≡ get_or xs i 0
value_at [] i v small is = absurd (omega (arith, small))
value_at (x ∷ xs) zero v small is = is
value_at (x ∷ xs) (suc i) v small is = value_at xs i v (omega (arith, small)) is

-- one more present text
key_position : (list : List Text) (text : Text) (key : ℕ) (o : Option ℕ) → position_of list text ≡ o → option_and_then spur_at o ≡ Some key → o ≡ Some (key - 1)
key_position list text key None at is = absurd (cc)
key_position list text key (Some n) at is = ap (λ k. Some k) (position_of_key n key is)

pub counted_found : (list : List Text) (now new : List ℕ) (text : Text) (key at value : ℕ) → length now ≡ length list → key_of spur_at list text ≡ Some key → at ≡ key - 1 → value ≡ get_or now at value → new ≡ set now at (value + 1) → new ≡ counted now (position_of list text)
counted_found list now new text key at value lengths found at_is value_is is =
    let here : position_of list text ≡ Some (key - 1) = key_position list text key (position_of list text) refl found in
    let small : at < length now = let within = inside list now text (key - 1) lengths here in omega (arith, within, at_is) in
    is ∙ ap (λ v. set now at (v + 1)) (value_at now at value small value_is) ∙ ap (λ n. set now n (get_or now n 0 + 1)) at_is ∙ ap (λ o. counted now o) (sym here)

pub adds_found : (texts list : List Text) (old now new : List ℕ) (text : Text) (key at value : ℕ) → AddsCounts texts list old list now → key_of spur_at list text ≡ Some key → at ≡ key - 1 → value ≡ get_or now at value → new ≡ set now at (value + 1) → AddsCounts (texts ++ text ∷ []) list old list new
adds_found texts list old now new text key at value so_far found at_is value_is is =
    let here : position_of list text ≡ Some (key - 1) = key_position list text key (position_of list text) refl found in
    let grown : list ≡ with_last list text = ap (λ o. cond (is_some o) list (list ++ text ∷ [])) (sym here) in
    adds_push texts list list list old now new text so_far (counted_found list now new text key at value so_far.lengths found at_is value_is is) grown

-- the counts of all texts, where no other was counted
pub adds_are : (texts list : List Text) (counts : List ℕ) (before : List Text) (old : List ℕ) → before ≡ [] → old ≡ [] → AddsCounts texts before old list counts → (s : Text) → count_of texts s ≡ count_at counts (position_of list s)
adds_are texts list counts before old none empty adds s =
    let is : AddsCounts texts [] [] list counts = subst (λ (ts : List Text). AddsCounts texts ts [] list counts) none (subst (λ cs. AddsCounts texts before cs list counts) empty adds) in
    let told = is.each s in
    let zero : count_at [] (position_of [] s) ≡ 0 = refl in omega (arith, told, zero)

not_err : (r : Result (Unit {0}) CountError) (texts : List Text) → is_err r ≡ false → counted_of r texts ≡ texts
not_err (Ok done) texts fine = refl
not_err (Err error) texts fine = absurd (cc)

pub all_are : (old now : InternerView) (texts : List Text) (before counts : List ℕ) → old.texts ≡ [] → before ≡ [] → extend spur_at old texts accepted now → AddsCounts texts old.texts before now.texts counts → AreCounts texts now.texts counts
all_are old now texts before counts none empty list adds = record {
  list_is = list_extended old now texts list ∙ ap (λ (ts : List Text). ts ++ new_texts ts texts) none;
  each = adds_are texts now.texts counts old.texts before none empty adds;
  lengths = adds.lengths;
  total = let zero : sum before ≡ 0 = ap sum empty in omega (arith, adds.total, zero);
}

-- a part that was counted to its end
pub part_are : (old now : InternerView) (texts : List Text) (before counts : List ℕ) (r : Result (Unit {0}) CountError) → old.texts ≡ [] → before ≡ [] → is_err r ≡ false → extend spur_at old (counted_of r texts) accepted now → AddsCounts (counted_of r texts) old.texts before now.texts counts → AreCounts texts now.texts counts
part_are old now texts before counts r none empty fine list adds =
    let whole : counted_of r texts ≡ texts = not_err r texts fine in
    all_are old now texts before counts none empty (subst (λ (ts : List Text). extend spur_at old ts accepted now) whole list) (subst (λ (ts : List Text). AddsCounts ts old.texts before now.texts counts) whole adds)

-- ---- zeros for new texts

pad_tell : (list : List Text) (counts : List ℕ) (last s : Text) (same : Bool) (o : Option ℕ) → length counts ≡ length list → bytes_eq last s ≡ same → position_of list s ≡ o → count_at (counts ++ 0 ∷ []) (position_of (list ++ last ∷ []) s) ≡ count_at counts o
pad_tell list counts last s same (Some n) lengths e at =
    ap (λ p. count_at (counts ++ 0 ∷ []) p) (position_stays list last s n at) ∙ get_or_append_left counts (0 ∷ []) 0 n (inside list counts s n lengths at)
pad_tell list counts last s true None lengths e at =
    let is : last ≡ s = same_text last s e in
    let here : position_of (list ++ last ∷ []) s ≡ Some (length list) = subst (λ (t : Text). position_of (list ++ t ∷ []) s ≡ Some (length list)) (sym is) (position_last list s at) in
    ap (λ p. count_at (counts ++ 0 ∷ []) p) here ∙ last_one counts (length list) 0 lengths
pad_tell list counts last s false None lengths e at =
    ap (λ p. count_at (counts ++ 0 ∷ []) p) (position_absent list last s at e)

pad_one : (list : List Text) (counts : List ℕ) (last : Text) → length counts ≡ length list → AddsCounts [] list counts (list ++ last ∷ []) (counts ++ 0 ∷ [])
pad_one list counts last lengths = record {
  each = λ s. pad_tell list counts last s (bytes_eq last s) (position_of list s) lengths refl refl ∙ sym (add-zero (count_at counts (position_of list s)));
  lengths = length_push counts 0 ∙ ap (λ n. n + 1) lengths ∙ sym (length_push list last);
  total = sum_by_push (λ x. x) counts 0;
}

pub pads : (list : List Text) (counts : List ℕ) (more : List Text) → length counts ≡ length list → AddsCounts [] list counts (list ++ more) (counts ++ replicate (length more) 0)
pads list counts [] lengths =
    subst (λ (ts : List Text). AddsCounts [] list counts ts (counts ++ [])) (sym (append-nil list)) (subst (λ cs. AddsCounts [] list counts list cs) (sym (append-nil counts)) (adds_none list counts lengths))
pads list counts (last ∷ more) lengths =
    let one = pad_one list counts last lengths in
    let others = pads (list ++ last ∷ []) (counts ++ 0 ∷ []) more one.lengths in
    let joined = adds_join [] [] list (list ++ last ∷ []) ((list ++ last ∷ []) ++ more) counts (counts ++ 0 ∷ []) ((counts ++ 0 ∷ []) ++ replicate (length more) 0) one others in
    subst (λ (ts : List Text). AddsCounts [] list counts ts (counts ++ replicate (suc (length more)) 0)) (append_assoc list (last ∷ []) more)
    (subst (λ cs. AddsCounts [] list counts ((list ++ last ∷ []) ++ more) cs) (append_assoc counts (0 ∷ []) (replicate (length more) 0)) joined)

-- a zero for each text by which the list has grown
pub padded : (list more : List Text) (counts : List ℕ) (now : List Text) (n : ℕ) (after : List ℕ) → length counts ≡ length list → now ≡ list ++ more → n ≡ length now - length counts → after ≡ counts ++ replicate n 0 → AddsCounts [] list counts now after
padded list more counts now n after lengths grown many is =
    let same : n ≡ length more = omega (arith, many, ap length grown, length-append list more, lengths) in
    subst (λ (ts : List Text). AddsCounts [] list counts ts after) (sym grown) (subst (λ cs. AddsCounts [] list counts (list ++ more) cs) (sym (is ∙ ap (λ k. counts ++ replicate k 0) same)) (pads list counts more lengths))

-- the same after merging a list, with room made before
pub put_padded : (old now : InternerView) (list : List Text) (counts reserved after : List ℕ) (n : ℕ) → length counts ≡ length old.texts → Grown old.texts now.texts (length list) → reserved ≡ counts → n ≡ length now.texts - length counts → after ≡ reserved ++ replicate n 0 → AddsCounts [] old.texts counts now.texts after
put_padded old now list counts reserved after n lengths grown same many is =
    padded old.texts grown.0 counts now.texts n after lengths grown.1 many (is ∙ ap (λ cs. cs ++ replicate n 0) same)

-- ---- the counts of a list that are added

pub amounts_push : (list from : List Text) (amounts old now new : List ℕ) (text : Text) (amount place : ℕ) → length old ≡ length list → length amounts ≡ length from → AddsAmounts list from amounts old now → position_of list text ≡ Some place → position_of from text ≡ None → new ≡ set now place (get_or now place 0 + amount) → AddsAmounts list (from ++ text ∷ []) (amounts ++ amount ∷ []) old new
amounts_push list from amounts old now new text amount place lengths each so_far here absent is =
    let lengths' : length now ≡ length list = so_far.long ∙ lengths in record {
      each = λ s.
          let first = so_far.each s in
          let grown : count_at new (position_of list s) ≡ count_at now (position_of list s) + cond (bytes_eq text s) amount 0 =
          ap (λ cs. count_at cs (position_of list s)) is ∙ tell_old list now amount text s place (bytes_eq text s) (position_of list s) here lengths' refl refl in
          let both : count_at (amounts ++ amount ∷ []) (position_of (from ++ text ∷ []) s) ≡ count_at amounts (position_of from s) + cond (bytes_eq text s) amount 0 =
          tell_new from amounts amount text s (bytes_eq text s) (position_of from s) absent each refl refl in omega (arith, first, grown, both);
      long = ap length is ∙ length-set now place (get_or now place 0 + amount) ∙ so_far.long;
      total =
          let change = sum_by-set (λ x. x) now place (get_or now place 0 + amount) 0 (inside list now text place lengths' here) in
          let whole : sum new ≡ sum (set now place (get_or now place 0 + amount)) = ap sum is in
          let pushed : sum (amounts ++ amount ∷ []) ≡ sum amounts + amount = sum_by_push (λ x. x) amounts amount in omega (arith, change, whole, pushed, so_far.total);
    }

-- the first i of them and one more
pub amounts_more : (list from : List Text) (places amounts old now new : List ℕ) (i place amount : ℕ) (text : Text) → length old ≡ length list → IsDistinct from → AreCodes list from places → length amounts ≡ length from → AddsAmounts list (take i from) (take i amounts) old now → slice_get from i ≡ Some text → slice_get places i ≡ Some place → amount ≡ get_or amounts i 0 → i < length amounts → new ≡ set now place (get_or now place 0 + amount) → AddsAmounts list (take (i + 1) from) (take (i + 1) amounts) old new
amounts_more list from places amounts old now new i place amount text lengths distinct are each so_far at at' amount_is small is =
    let here : position_of list text ≡ Some place = map_some_at (position_of list) from places i text place are at at' in
    let each' : length (take i amounts) ≡ length (take i from) = omega (arith, length-take i amounts, length-take i from, each) in
    let pushed = amounts_push list (take i from) (take i amounts) old now new text amount place lengths each' so_far here (absent_before from i text distinct at) is in
    let more : take (i + 1) amounts ≡ take i amounts ++ amount ∷ [] = take_more amounts i 0 small ∙ ap (λ n. take i amounts ++ n ∷ []) (sym amount_is) in
    subst (λ (ts : List Text). AddsAmounts list ts (take (i + 1) amounts) old new) (sym (take_more_at from i text at)) (subst (λ cs. AddsAmounts list (take i from ++ text ∷ []) cs old new) (sym more) pushed)

pub at_index : {X : Type 0} (xs : List X) (i : ℕ) (d : X) → i < length xs → slice_get xs i ≡ Some (get_or xs i d)
at_index [] i d small = absurd (omega (arith, small))
at_index (x ∷ xs) zero d small = refl
at_index (x ∷ xs) (suc i) d small = at_index xs i d (omega (arith, small))

-- ---- codes that are counted

-- the code at an index is the position of the text there
code_here : (list texts : List Text) (codes : List ℕ) (i code : ℕ) (d : Text) → AreCodes list texts codes → i < length codes → code ≡ get_or codes i 0 → position_of list (get_or texts i d) ≡ Some code
code_here list texts codes i code d are small is =
    let long = map_some_length (position_of list) texts codes are in
    let at : slice_get texts i ≡ Some (get_or texts i d) = at_index texts i d (omega (arith, small, long)) in
    let at' : slice_get codes i ≡ Some code = at_index codes i 0 small ∙ ap (λ n. Some n) (sym is) in
    map_some_at (position_of list) texts codes i (get_or texts i d) code are at at'

-- the first i codes and one more
pub codes_more : (list texts : List Text) (codes old now new : List ℕ) (i code value : ℕ) → AreCodes list texts codes → AddsCounts (take i texts) list old list now → i < length codes → code ≡ get_or codes i 0 → code < length now → value ≡ get_or now code 0 → new ≡ set now code (value + 1) → AddsCounts (take (i + 1) texts) list old list new
codes_more list texts codes old now new i code value are so_far small is inside value_is grown =
    let text = get_or texts i [] in
    let here : position_of list text ≡ Some code = code_here list texts codes i code [] are small is in
    let at : slice_get texts i ≡ Some text = at_index texts i [] (omega (arith, small, map_some_length (position_of list) texts codes are)) in
    let counted_is : new ≡ counted now (position_of list text) = grown ∙ ap (λ v. set now code (v + 1)) value_is ∙ ap (λ o. counted now o) (sym here) in
    let kept : list ≡ with_last list text = ap (λ o. cond (is_some o) list (list ++ text ∷ [])) (sym here) in
    let pushed = adds_push (take i texts) list list list old now new text so_far counted_is kept in
    subst (λ (ts : List Text). AddsCounts ts list old list new) (sym (take_more_at texts i text at)) pushed

-- a code of a text has a count
pub code_inside : (list texts : List Text) (codes old now : List ℕ) (i code : ℕ) → AreCodes list texts codes → AddsCounts (take i texts) list old list now → i < length codes → code ≡ get_or codes i 0 → code < length now
code_inside list texts codes old now i code are so_far small is =
    inside list now (get_or texts i []) code so_far.lengths (code_here list texts codes i code [] are small is)

below : (a b : ℕ) → nat_lt a b ≡ true → a < b
below a b e = grind (arith, nat_tests)

not_below : (a b : ℕ) → nat_lt a b ≡ false → a < b → ⊥
not_below a b e small = grind (arith, nat_tests)

is_by : (c : Bool) (now : List ℕ) (code : ℕ) → ¬ (c ≡ false) → (if c then set now code (get_or now code 0 + 1) else now) ≡ set now code (get_or now code 0 + 1)
is_by true now code some = refl
is_by false now code some = absurd (some refl)

-- the count of a code has grown by one
pub raised_is : (now : List ℕ) (code : ℕ) → code < length now → raised now code ≡ set now code (get_or now code 0 + 1)
raised_is now code small = is_by (nat_lt code (length now)) now code (λ e. not_below code (length now) e small)

long_by : (c : Bool) (now : List ℕ) (code : ℕ) → length (if c then set now code (get_or now code 0 + 1) else now) ≡ length now
long_by true now code = length-set now code (get_or now code 0 + 1)
long_by false now code = refl

pub raised_long : (now : List ℕ) (code : ℕ) → length (raised now code) ≡ length now
raised_long now code = long_by (nat_lt code (length now)) now code

sum_by_test : (c : Bool) (now : List ℕ) (code : ℕ) → (c ≡ true → code < length now) → sum (if c then set now code (get_or now code 0 + 1) else now) ≤ sum now + 1
sum_by_test true now code inside = let change = sum_by-set (λ x. x) now code (get_or now code 0 + 1) 0 (inside refl) in omega (arith, change)
sum_by_test false now code inside = omega arith

pub raised_sum : (now : List ℕ) (code : ℕ) → sum (raised now code) ≤ sum now + 1
raised_sum now code = sum_by_test (nat_lt code (length now)) now code (λ e. below code (length now) e)

raised_push : (counts codes : List ℕ) (code : ℕ) → raised_by counts (codes ++ code ∷ []) ≡ raised (raised_by counts codes) code
raised_push counts [] code = refl
raised_push counts (first ∷ codes) code = raised_push (raised counts first) codes code

-- the counts by the first i codes and one more
pub raised_more : (old now new codes : List ℕ) (i code : ℕ) → raised_by old (take i codes) ≡ now → i < length codes → code ≡ get_or codes i 0 → new ≡ raised now code → raised_by old (take (i + 1) codes) ≡ new
raised_more old now new codes i code so_far small is grown =
    ap (λ cs. raised_by old cs) (take_more codes i 0 small) ∙ raised_push old (take i codes) (get_or codes i 0) ∙ ap (λ n. raised (raised_by old (take i codes)) n) (sym is) ∙ ap (λ cs. raised cs code) so_far ∙ sym grown

-- the counts by all codes
pub raised_all : (old new codes : List ℕ) (i : ℕ) → raised_by old (take i codes) ≡ new → length codes ≤ i → new ≡ raised_by old codes
raised_all old new codes i so_far past = sym so_far ∙ ap (λ cs. raised_by old cs) (take_all i codes past)

-- all codes were counted
pub codes_all : (list texts : List Text) (codes old new : List ℕ) (i : ℕ) → AreCodes list texts codes → length codes ≤ i → AddsCounts (take i texts) list old list new → AddsCounts texts list old list new
codes_all list texts codes old new i are past adds =
    let all : take i texts ≡ texts = take_all i texts (omega (arith, past, map_some_length (position_of list) texts codes are)) in
    subst (λ (ts : List Text). AddsCounts ts list old list new) all adds

-- the sum with one of them more, which stays within that of all
pub total_more : (old now amounts : List ℕ) (i place value amount : ℕ) → value ≡ get_or now place 0 → amount ≡ get_or amounts i 0 → place < length now → i < length amounts → sum now ≡ sum old + sum (take i amounts) → sum (set now place (value + amount)) ≡ sum old + sum (take (i + 1) amounts)
total_more old now amounts i place value amount value_is amount_is small inside total =
    let change = sum_by-set (λ x. x) now place (value + amount) 0 small in
    let pushed : sum (take (i + 1) amounts) ≡ sum (take i amounts) + get_or amounts i 0 = ap sum (take_more amounts i 0 inside) ∙ sum_by_push (λ x. x) (take i amounts) (get_or amounts i 0) in
    omega (arith, change, pushed, value_is, amount_is, total)

pub total_fits : (old now amounts : List ℕ) (i place value amount bound : ℕ) → value ≡ get_or now place 0 → amount ≡ get_or amounts i 0 → place < length now → i < length amounts → sum now ≡ sum old + sum (take i amounts) → sum old + sum amounts < bound → value + amount < bound
total_fits old now amounts i place value amount bound value_is amount_is small inside total fits =
    let one : get_or now place 0 ≤ sum now = get_or-le-sum_by (λ x. x) now place 0 small in
    let more : sum (take i amounts) + get_or amounts i 0 ≤ sum amounts = sum_by_more_le (λ x. x) amounts i 0 inside in
    omega (arith, one, more, value_is, amount_is, total, fits)

-- the amounts of all texts
pub amounts_all : (list from : List Text) (places amounts old new : List ℕ) (i : ℕ) → AreCodes list from places → length places ≡ length amounts → length places ≤ i → AddsAmounts list (take i from) (take i amounts) old new → AddsAmounts list from amounts old new
amounts_all list from places amounts old new i are each past adds =
    let long = map_some_length (position_of list) from places are in
    subst (λ (ts : List Text). AddsAmounts list ts amounts old new) (take_all i from (omega (arith, long, past)))
    (subst (λ cs. AddsAmounts list (take i from) cs old new) (take_all i amounts (omega (arith, each, past))) adds)

-- the places of a list's texts are places of the other's
pub places_inside : (list from : List Text) (places : List ℕ) → AreCodes list from places → (k d : ℕ) → k < length places → get_or places k d < length list
places_inside list [] [] are k d small = absurd (omega (arith, small))
places_inside list [] (p ∷ places) are k d small = absurd (cc)
places_inside list (t ∷ from) [] are k d small = absurd (omega (arith, small))
places_inside list (t ∷ from) (p ∷ places) are zero d small =
    let here : position_of list t ≡ Some p = cc in slice_get_within list p t (position_here list t p here)
places_inside list (t ∷ from) (p ∷ places) are (suc k) d small = places_inside list from places (cc) k d (omega (arith, small))

-- the counts of a part, added to padded counts
pub adds_part : (part from list : List Text) (amounts old new : List ℕ) → length old ≡ length list → AreCounts part from amounts → AddsAmounts list from amounts old new → AddsCounts part list old list new
adds_part part from list amounts old new lengths are adds = record {
  each = λ s. adds.each s ∙ ap (λ n. count_at old (position_of list s) + n) (sym (are.each s));
  lengths = adds.long ∙ lengths;
  total = adds.total ∙ ap (λ n. sum old + n) are.total;
}

-- ---- a text at an index

pub none_is : {X : Type 0} (o : Option X) → is_some o ≡ false → o ≡ None
none_is None e = refl
none_is (Some x) e = absurd (cc)

pub text_here : (texts : List (Bor Text)) (i : ℕ) (d : Bor Text) → i < length texts → slice_get (map (λ t. t.now) texts) i ≡ Some (get_or texts i d).now
text_here [] i d small = absurd (omega (arith, small))
text_here (t ∷ texts) zero d small = refl
text_here (t ∷ texts) (suc i) d small = text_here texts i d (omega (arith, small))
