-- A column that was written is read back.
--
-- A line without a line feed is cut off at the line feed after it. So the header line is read as its numbers,
-- the dictionary's lines as its texts, each of which is new, and an entry as its code or as a null. The text
-- at a line's code is the line, and a null is written as the same word. So the lines are those that were
-- encoded, and the bytes after the column are left.
use Rattle.std.proofs.Common.{ℕ, zero, suc, ◌≡◌, ◌+◌, ◌^◌, ◌<◌, ◌==◌, Bool, true, false, cond, not, ◌&&◌, List, [], ◌∷◌, ◌++◌, length, map, take, drop, get_or, is_some, Option, Some, None, Ok, option_map, refl, sym, ap, subst, ◌∙◌, arith, append_assoc}
use Rattle.std.specs.Prelude.{All, flat_map, decimal, slice_get, position}
use Rattle.std.specs.Int.{w32, to_le_bytes}
use Rattle.std.specs.List.{onto_first, position_or_len}
use Rattle.std.proofs.Math.Seq.{take-append_seam}
use Rattle.std.proofs.lemmas.Bool.Decides.{nat_tests}
use Rattle.std.proofs.lemmas.List.{append-nil, length-map}
use Rattle.std.proofs.lemmas.List.Elements.{All-head, All-tail, All-weaker}
use Rattle.std.proofs.lemmas.List.Sums.{position_or_len_is}
use Rattle.std.proofs.lemmas.Option.{slice_get_within}
use Rattle.std.proofs.Math.Bool.{not-not}
use Rattle.std.proofs.lemmas.Slice.Eq.{bytes_eq-Decides}
use Rattle.std.proofs.lemmas.Nat.{from_le_bytes-to_le_bytes_4}
use Rattle.lasso_parts.proofs.TextLemmas.{position_here, position_last}
use Rattle.lasso_parts.specs.Texts.{Text, position_of}
use Rattle.lasso_input.specs.Lines.{NoFeed, is_line_feed, lines_of}
use Rattle.lasso_columns.specs.Parts.{new_texts}
use Rattle.lasso_single.proofs.Coded.{position_stays}
use Rattle.lasso_input.proofs.FirstLines.{no_feed_both}
use Rattle.lasso_columns.specs.Rows.{is_null, texts_of}
use Rattle.lasso_input.specs.Numbers.{digits_value}
use Rattle.lasso_codes.specs.Columns.{dictionary_of, entry_of, entry_bytes, header, header_front, column_of, column_bytes}
use Rattle.lasso_codes.specs.Distinct.{with_feed}
use Rattle.lasso_codes.specs.Decode.{DecodingGivesLines, text_or_past, null_line, line_at, decoded}
use Rattle.lasso_codes.specs.Reading.{header_with, header_at, header_in, header_of, head_of, on_header_line, on_text, texts_from, number_entry, code_in, entry_in, cut_number, cut_entry, on_entry_line, on_item, items_from, on_head, on_texts}
use Rattle.lasso_input.specs.Texts.{is_let_in}
use Rattle.lasso_codes.specs.Limits.{IsLetIn}
use Rattle.lasso_codes.specs.Streams.{cut_line}
use Rattle.lasso_codes.specs.declared.entries.Entry.{Entry}
use Rattle.lasso_codes.specs.declared.entries.Entry.TheVariants.{Null, Code}
use Rattle.lasso_codes.specs.declared.reading.Header.{Header}
use Rattle.lasso_codes.proofs.Feeds.{cut_fed}
use Rattle.lasso_codes.proofs.ReadTexts.{ArePlain}
use Rattle.lasso_codes.proofs.Decimals.{Lacks, number_read, decimal_lacks, lacks_feed, no_minus}

-- ---- the header

lacks_at : (ds rest : List ℕ) (k : ℕ) → Lacks 32 ds → k < length ds → get_or (ds ++ 32 ∷ rest) k 0 == 32 ≡ false
lacks_at [] rest k lacks small = absurd (omega arith)
lacks_at (d ∷ ds) rest zero lacks small = lacks.0
lacks_at (d ∷ ds) rest (suc k) lacks small = lacks_at ds rest k lacks.1 (omega arith)

seam_at : (ds rest : List ℕ) → get_or (ds ++ 32 ∷ rest) (length ds) 0 == 32 ≡ true
seam_at [] rest = refl
seam_at (d ∷ ds) rest = seam_at ds rest

seam_inside : (ds rest : List ℕ) → length ds < length (ds ++ 32 ∷ rest)
seam_inside [] rest = omega arith
seam_inside (d ∷ ds) rest = let more : length ds < length (ds ++ 32 ∷ rest) = seam_inside ds rest in omega (arith, more)

space_at : (ds rest : List ℕ) → Lacks 32 ds → position (λ b. b == 32) (ds ++ 32 ∷ rest) ≡ Some (length ds)
space_at ds rest lacks =
    let inside : length ds < length (ds ++ 32 ∷ rest) = seam_inside ds rest in
    let here : position_or_len (λ b. b == 32) (ds ++ 32 ∷ rest) ≡ length ds =
    position_or_len_is (λ b. b == 32) (ds ++ 32 ∷ rest) (length ds) 0 (omega (arith, inside)) (λ k below. lacks_at ds rest k lacks below) (λ _. seam_at ds rest) in
    rw (here) (grind (arith, nat_tests))

drop_seam : (ds rest : List ℕ) → drop (length ds + 1) (ds ++ 32 ∷ rest) ≡ rest
drop_seam [] rest = refl
drop_seam (d ∷ ds) rest = let more : suc (length ds) + 1 ≡ suc (length ds + 1) = omega arith in ap (λ n. drop n (d ∷ ds ++ 32 ∷ rest)) more ∙ drop_seam ds rest

numbers_back : (binary : Bool) (d n : ℕ) → d < 2 ^ 64 → n < 2 ^ 64 → header_in binary (decimal d ++ 32 ∷ decimal n) ≡ Some (record { binary = binary; distinct = d; lines = n })
numbers_back binary d n small small' =
    let ds = decimal d in
    let numbers = ds ++ 32 ∷ decimal n in
    let first : digits_value (take (length ds) numbers) ≡ Some d = ap digits_value (take-append_seam ds (32 ∷ decimal n)) ∙ number_read d small in
    let second : digits_value (drop (length ds + 1) numbers) ≡ Some n = ap digits_value (drop_seam ds (decimal n)) ∙ number_read n small' in
    ap (header_at binary numbers) (space_at ds (decimal n) (decimal_lacks 32 d (omega arith) small))
    ∙ ap (λ o. header_with binary o (digits_value (drop (length ds + 1) numbers))) first ∙ ap (header_with binary (Some d)) second

header_back : (binary : Bool) (d n : ℕ) → d < 2 ^ 64 → n < 2 ^ 64 → header_of (header_front binary ++ (decimal d ++ 32 ∷ decimal n)) ≡ Some (record { binary = binary; distinct = d; lines = n })
header_back true d n small small' = numbers_back true d n small small'
header_back false d n small small' = numbers_back false d n small small'

is_free : List ℕ → Bool
is_free [] = true
is_free (b ∷ bytes) = not (is_line_feed b) && is_free bytes

both_free : (feed free : Bool) → not feed && free ≡ true → (feed ≡ false) × (free ≡ true)
both_free true free e = absurd (cc)
both_free false free e = (refl, e)

tells_free : (bytes : List ℕ) → is_free bytes ≡ true → NoFeed bytes
unfolding is_free
tells_free [] e = tt
tells_free (b ∷ bytes) e = let told = both_free (is_line_feed b) (is_free bytes) e in (told.0, tells_free bytes told.1)

front_no_feed : (binary : Bool) → NoFeed (header_front binary)
unfolding is_free
front_no_feed true = tells_free (header_front true) refl
front_no_feed false = tells_free (header_front false) refl

pub head_back : (binary : Bool) (d n : ℕ) (rest : List ℕ) → d < 2 ^ 64 → n < 2 ^ 64 → head_of (header binary d n ++ rest) ≡ Some (record { binary = binary; distinct = d; lines = n }, rest)
head_back binary d n rest small small' =
    let line = header_front binary ++ (decimal d ++ 32 ∷ decimal n) in
    let ds_free : NoFeed (decimal d) = lacks_feed (decimal d) (decimal_lacks 10 d (omega arith) small) in
    let n_free : NoFeed (32 ∷ decimal n) = (refl, lacks_feed (decimal n) (decimal_lacks 10 n (omega arith) small')) in
    let free : NoFeed line = no_feed_both (header_front binary) (decimal d ++ 32 ∷ decimal n) (front_no_feed binary) (no_feed_both (decimal d) (32 ∷ decimal n) ds_free n_free) in
    let split : header binary d n ++ rest ≡ line ++ 10 ∷ rest = simp append_assoc in
    ap head_of split ∙ ap on_header_line (cut_fed line rest free) ∙ ap (option_map (λ (h : Header). (h, rest))) (header_back binary d n small small')

-- ---- the dictionary

-- each of the texts is without a line feed, is let in, and is absent from the list and from the texts before it
abbrev pub AreFresh : Bool → List Text → List Text → Type 0
AreFresh only list [] = Unit {0}
AreFresh only list (t ∷ ts) = NoFeed t × (is_let_in only t ≡ true) × (position_of list t ≡ None) × AreFresh only (list ++ t ∷ []) ts

pub texts_back : (only : Bool) (list texts : List Text) (rest : List ℕ) → AreFresh only list texts → texts_from only (length texts) list (flat_map with_feed texts ++ rest) ≡ Ok (list ++ texts, rest)
texts_back only list [] rest fresh = ap (λ (ts : List Text). Ok (ts, rest)) (sym (append-nil list))
texts_back only list (t ∷ ts) rest fresh =
    let others = flat_map with_feed ts ++ rest in
    let split : flat_map with_feed (t ∷ ts) ++ rest ≡ t ++ 10 ∷ others = simp append_assoc in
    ap (texts_from only (suc (length ts)) list) split ∙ ap (λ cut. on_text only cut list (texts_from only (length ts))) (cut_fed t others fresh.0)
    ∙ rw (fresh.1, fresh.2) (texts_back only (list ++ t ∷ []) ts rest fresh.3 ∙ ap (λ (l : List Text). Ok (l, rest)) (append_assoc list (t ∷ []) ts))

-- ---- entries

-- the number of a code is not that of a null
abbrev pub HasCode : Option ℕ → Type 0
HasCode None = Unit {0}
HasCode (Some code) = code < 4294967295

abbrev pub entry_for : Option ℕ → Entry
entry_for None = Null
entry_for (Some code) = Code code

number_back : (code : ℕ) → code < 4294967295 → number_entry code ≡ Code code
number_back code small =
    let other : code == 4294967295 ≡ false = grind (arith, nat_tests) in
    ap (λ b. cond b Null (Code code)) other

bytes_back : (n : ℕ) (rest : List ℕ) → n < 2 ^ 32 → cut_number (to_le_bytes w32 n ++ rest) ≡ (number_entry n, rest)
bytes_back n rest small = ap (λ m. (number_entry m, rest)) (from_le_bytes-to_le_bytes_4 n small)

code_back : (code : ℕ) → code < 2 ^ 64 → entry_in (decimal code) ≡ Code code
code_back code small =
    ap (λ b. cond b Null (code_in (digits_value (decimal code)))) (no_minus (decimal code) (decimal_lacks 45 code (omega arith) small)) ∙ ap code_in (number_read code small)

pub entry_back : (binary : Bool) (entry : Option ℕ) (rest : List ℕ) → HasCode entry → cut_entry binary (entry_bytes binary entry ++ rest) ≡ (entry_for entry, rest)
entry_back true None rest has = bytes_back 4294967295 rest (omega arith)
entry_back true (Some code) rest has = bytes_back code rest (omega (arith, has)) ∙ ap (λ e. (e, rest)) (number_back code has)
entry_back false None rest has = refl
entry_back false (Some code) rest has =
    let small : code < 2 ^ 64 = omega (arith, has) in
    let split : decimal code ++ 10 ∷ [] ++ rest ≡ decimal code ++ 10 ∷ rest = append_assoc (decimal code) (10 ∷ []) rest in
    ap (λ bs. on_entry_line (cut_line bs)) split ∙ ap on_entry_line (cut_fed (decimal code) rest (lacks_feed (decimal code) (decimal_lacks 10 code (omega arith) small)))
    ∙ ap (λ e. (e, rest)) (code_back code small)

-- the entries of the lines are read as these lines
abbrev pub AreLinesOf : Option Text → List Text → List (Option ℕ) → List Text → Type 0
AreLinesOf null list [] [] = Unit {0}
AreLinesOf null list [] (l ∷ ls) = ⊥
AreLinesOf null list (e ∷ es) [] = ⊥
AreLinesOf null list (e ∷ es) (l ∷ ls) = HasCode e × ((number : ℕ) → line_at null list (entry_for e) number ≡ Ok l) × AreLinesOf null list es ls

lines_back : (binary : Bool) (null : Option Text) (list : List Text) (entries : List (Option ℕ)) (lines : List Text) (number : ℕ) (rest : List ℕ) → AreLinesOf null list entries lines → items_from (line_at null list) (length entries) binary number (flat_map (entry_bytes binary) entries ++ rest) ≡ (lines, Ok rest)
lines_back binary null list [] [] number rest are = refl
lines_back binary null list [] (l ∷ ls) number rest are = absurd are
lines_back binary null list (e ∷ es) [] number rest are = absurd are
lines_back binary null list (e ∷ es) (l ∷ ls) number rest are =
    let others = flat_map (entry_bytes binary) es ++ rest in
    let split : flat_map (entry_bytes binary) (e ∷ es) ++ rest ≡ entry_bytes binary e ++ others = append_assoc (entry_bytes binary e) (flat_map (entry_bytes binary) es) rest in
    ap (items_from (line_at null list) (suc (length es)) binary number) split
    ∙ ap (λ cut. on_item (line_at null list cut.0 number) (items_from (line_at null list) (length es) binary (number + 1) cut.1)) (entry_back binary e others are.0)
    ∙ ap (λ line. on_item line (items_from (line_at null list) (length es) binary (number + 1) others)) (are.1 number)
    ∙ ap (λ read. (l ∷ read.0, read.1)) (lines_back binary null list es ls (number + 1) rest are.2)

-- ---- a column

-- a dictionary, and entries that stand for lines, are read back
pub column_back : (only : Bool) (binary : Bool) (null : Option Text) (list : List Text) (entries : List (Option ℕ)) (lines : List Text) (rest : List ℕ) → AreFresh only [] list → AreLinesOf null list entries lines → length list < 2 ^ 64 → length entries < 2 ^ 64 → decoded only null (column_of binary list entries ++ rest) ≡ (lines, Ok rest)
column_back only binary null list entries lines rest fresh are few few' =
    let d = length list in
    let n = length entries in
    let back = flat_map (entry_bytes binary) entries ++ rest in
    let body = flat_map with_feed list ++ back in
    let split : column_of binary list entries ++ rest ≡ header binary d n ++ body = simp append_assoc in
    ap (decoded only null) split ∙ ap (on_head only (line_at null)) (head_back binary d n body few few')
    ∙ ap (on_texts (line_at null) (record { binary = binary; distinct = d; lines = n })) (texts_back only [] list back fresh)
    ∙ lines_back binary null list entries lines 1 rest are

-- ---- the column of lines

fresh_one : (only : Bool) (list : List Text) (t : Text) (ts : List Text) → ArePlain only (t ∷ ts) → (o : Option ℕ) → position_of list t ≡ o → AreFresh only list (new_texts list ts) → AreFresh only (list ++ t ∷ []) (new_texts (list ++ t ∷ []) ts) → AreFresh only list (cond (is_some o) (new_texts list ts) (t ∷ new_texts (list ++ t ∷ []) ts))
fresh_one only list t ts plain None e same more = (plain.0, plain.1, e, more)
fresh_one only list t ts plain (Some n) e same more = same

pub fresh_new : (only : Bool) (list texts : List Text) → ArePlain only texts → AreFresh only list (new_texts list texts)
fresh_new only list [] plain = tt
fresh_new only list (t ∷ ts) plain = fresh_one only list t ts plain (position_of list t) refl (fresh_new only list ts plain.2) (fresh_new only (list ++ t ∷ []) ts plain.2)

abbrev pub AreFree : List (List ℕ) → Type 0
AreFree [] = Unit {0}
AreFree (l ∷ ls) = NoFeed l × AreFree ls

free_onto : (b : ℕ) (lines : List (List ℕ)) → is_line_feed b ≡ false → AreFree lines → AreFree (onto_first b lines)
free_onto b [] other free = ((other, tt), tt)
free_onto b (l ∷ ls) other free = ((other, free.0), free.1)

free_one : (b : ℕ) (lines : List (List ℕ)) (feed : Bool) → is_line_feed b ≡ feed → AreFree lines → AreFree (cond feed ([] ∷ lines) (onto_first b lines))
free_one b lines true e free = (tt, free)
free_one b lines false e free = free_onto b lines e free

pub lines_free : (bytes : List ℕ) → AreFree (lines_of bytes)
lines_free [] = tt
lines_free (b ∷ bytes) = free_one b (lines_of bytes) (is_line_feed b) refl (lines_free bytes)

pub plain_lines : (only : Bool) (lines : List Text) → AreFree lines → All (λ l. is_let_in only l ≡ true) lines → ArePlain only lines
plain_lines only [] free lets = tt
plain_lines only (l ∷ ls) free lets =
    (free.0, All-head (λ t. is_let_in only t ≡ true) l ls lets, plain_lines only ls free.1 (All-tail (λ t. is_let_in only t ≡ true) l ls lets))

plain_one : (only keep : Bool) (l : Text) (ls : List Text) → NoFeed l → is_let_in only l ≡ true → ArePlain only ls → ArePlain only (cond keep (l ∷ ls) ls)
plain_one only true l ls free let_in plain = (free, let_in, plain)
plain_one only false l ls free let_in plain = plain

pub plain_texts : (only : Bool) (null : Option Text) (lines : List Text) → ArePlain only lines → ArePlain only (texts_of null lines)
plain_texts only null [] plain = tt
plain_texts only null (l ∷ ls) plain = plain_one only (not (is_null null l)) l (texts_of null ls) plain.0 plain.1 (plain_texts only null ls plain.2)

-- each of the lines that is not null is in the list
abbrev pub StandsAs : Bool → List Text → Text → Type 0
StandsAs true list l = Unit {0}
StandsAs false list l = (n : ℕ) × (position_of list l ≡ Some n)

abbrev pub AllStand : Option Text → List Text → List Text → Type 0
AllStand null list [] = Unit {0}
AllStand null list (l ∷ ls) = StandsAs (is_null null l) list l × AllStand null list ls

stays_longer : (list more : List Text) (t : Text) (n : ℕ) → position_of list t ≡ Some n → position_of (list ++ more) t ≡ Some n
stays_longer list [] t n e = subst (λ (ts : List Text). position_of ts t ≡ Some n) (sym (append-nil list)) e
stays_longer list (last ∷ more) t n e =
    subst (λ (ts : List Text). position_of ts t ≡ Some n) (append_assoc list (last ∷ []) more) (stays_longer (list ++ last ∷ []) more t n (position_stays list last t n e))

-- one text of a list is found in the list and its new texts
found_one : (list : List Text) (t : Text) (ts : List Text) (o : Option ℕ) → position_of list t ≡ o → (n : ℕ) × (position_of (list ++ cond (is_some o) (new_texts list ts) (t ∷ new_texts (list ++ t ∷ []) ts)) t ≡ Some n)
found_one list t ts (Some n) e = (n, stays_longer list (new_texts list ts) t n e)
found_one list t ts None e =
    let more = new_texts (list ++ t ∷ []) ts in
    (length list, subst (λ (l : List Text). position_of l t ≡ Some (length list)) (append_assoc list (t ∷ []) more) (stays_longer (list ++ t ∷ []) more t (length list) (position_last list t e)))

-- each text of a list is found in the list and its new texts
abbrev pub AllFound : List Text → List Text → Type 0
AllFound list [] = Unit {0}
AllFound list (t ∷ ts) = ((n : ℕ) × (position_of list t ≡ Some n)) × AllFound list ts

found_rest : (list : List Text) (t : Text) (ts : List Text) (o : Option ℕ) → position_of list t ≡ o → AllFound (list ++ new_texts list ts) ts → AllFound (list ++ t ∷ [] ++ new_texts (list ++ t ∷ []) ts) ts → AllFound (list ++ cond (is_some o) (new_texts list ts) (t ∷ new_texts (list ++ t ∷ []) ts)) ts
found_rest list t ts (Some n) e same more = same
found_rest list t ts None e same more = subst (λ (l : List Text). AllFound l ts) (append_assoc list (t ∷ []) (new_texts (list ++ t ∷ []) ts)) more

pub found_new : (list ts : List Text) → AllFound (list ++ new_texts list ts) ts
found_new list [] = tt
found_new list (t ∷ ts) = (found_one list t ts (position_of list t) refl, found_rest list t ts (position_of list t) refl (found_new list ts) (found_new (list ++ t ∷ []) ts))

-- the lines that are not null are in a list in which their texts are found
stand_one : (keep : Bool) (list : List Text) (l : Text) (texts : List Text) → AllFound list (cond keep (l ∷ texts) texts) → StandsAs (not keep) list l × AllFound list texts
stand_one true list l texts found = (found.0, found.1)
stand_one false list l texts found = (tt, found)

pub all_stand : (null : Option Text) (list lines : List Text) → AllFound list (texts_of null lines) → AllStand null list lines
all_stand null list [] found = tt
all_stand null list (l ∷ ls) found =
    let one = stand_one (not (is_null null l)) list l (texts_of null ls) found in
    (subst (λ b. StandsAs b list l) (not-not (is_null null l)) one.0, all_stand null list ls one.1)

word_is : (null : Option Text) (l : Text) → is_null null l ≡ true → null ≡ Some l
word_is None l e = cc
word_is (Some word) l e = ap (λ (t : Text). Some t) ((bytes_eq-Decides word l).0 e)

-- the entry of a line is read as the line
entry_reads : (null : Option Text) (list : List Text) (l : Text) (b : Bool) → is_null null l ≡ b → length list < 2 ^ 32 → StandsAs b list l → HasCode (cond b None (position_of list l)) × ((number : ℕ) → line_at null list (entry_for (cond b None (position_of list l))) number ≡ Ok l)
entry_reads null list l true e few stands = (tt, λ number. ap (λ o. null_line o number) (word_is null l e))
entry_reads null list l false e few stands =
    let here : slice_get list stands.0 ≡ Some l = position_here list l stands.0 stands.1 in
    let inside : stands.0 < length list = slice_get_within list stands.0 l here in (
      subst HasCode (sym stands.1) (omega (arith, inside, few)),
      λ number. ap (λ o. line_at null list (entry_for o) number) stands.1 ∙ ap (λ o. text_or_past o number) here,
    )

lines_read : (null : Option Text) (list lines : List Text) → length list < 2 ^ 32 → AllStand null list lines → AreLinesOf null list (map (entry_of null list) lines) lines
lines_read null list [] few stand = tt
lines_read null list (l ∷ ls) few stand =
    let one = entry_reads null list l (is_null null l) refl few stand.0 in
    (one.0, one.1, lines_read null list ls few stand.1)

-- the column of lines is read as these lines
column_lines : (only : Bool) (binary : Bool) (null : Option Text) (input rest : List ℕ) → All (λ l. is_let_in only l ≡ true) (lines_of input) → length (lines_of input) < 2 ^ 64 → length (dictionary_of null (lines_of input)) < 2 ^ 32 → decoded only null (column_bytes binary null (lines_of input) ++ rest) ≡ (lines_of input, Ok rest)
column_lines only binary null input rest lets many few =
    let lines = lines_of input in
    let list = dictionary_of null lines in
    let plain : ArePlain only lines = plain_lines only lines (lines_free input) lets in
    let fresh : AreFresh only [] list = fresh_new only [] (texts_of null lines) (plain_texts only null lines plain) in
    let stand : AllStand null list lines = all_stand null list lines (found_new [] (texts_of null lines)) in
    column_back only binary null list (map (entry_of null list) lines) lines rest fresh (lines_read null list lines few stand) (omega (arith, few)) (omega (arith, many, length-map lines (entry_of null list)))

pub let_in_too : (strict only : Bool) (line : Text) → (strict ≡ true → only ≡ true) → is_let_in only line ≡ true → is_let_in strict line ≡ true
let_in_too false only line weaker let_in = refl
let_in_too true only line weaker let_in = subst (λ o. is_let_in o line ≡ true) (weaker refl) let_in

-- decoding what was encoded gives the lines
pub decoding_gives_lines_lem : DecodingGivesLines
decoding_gives_lines_lem input only strict limit null binary part rest after weaker end =
    let lets = All-weaker (IsLetIn only) (λ l. is_let_in strict l ≡ true) (λ l let_in. let_in_too strict only l weaker let_in.1) (lines_of input) end.0 in
    ap (λ bs. decoded strict null (bs ++ rest)) end.1 ∙ column_lines strict binary null input rest lets end.2.1 end.2.0
