-- Lists of lines, and the lists of their texts.
--
-- Two lines of bytes are equal exactly if their texts are. So a line is where its text is, comes as often, and is new
-- exactly if its text is new: the distinct texts are the texts of the distinct lines.
use Rattle.std.proofs.Common.{ℕ, zero, suc, ◌≡◌, ◌+◌, Bool, true, false, cond, not, nat_lt, List, [], ◌∷◌, ◌++◌, Option, Some, None, Ok, is_some, length, take, add-one, refl, sym, ap, subst, ◌∙◌}
use Rattle.std.specs.Prelude.{All, IsSomeAnd, bytes_eq, map, option_map, slice_get}
use Rattle.std.specs.List.{position_or_len}
use Rattle.std.proofs.lemmas.Bool.Decides.{Decides-like, same_from_decides}
use Rattle.std.proofs.lemmas.List.{length-map, map-append}
use Rattle.std.proofs.lemmas.List.Elements.{All-cons, All-filter, All-head, All-nil, All-push, All-tail, All-weaker}
use Rattle.std.proofs.lemmas.Option.{slice_get-map}
use Rattle.std.proofs.lemmas.Result.{MatchResult-weaker}
use Rattle.std.proofs.lemmas.Slice.Eq.{bytes_eq-Decides}
use Rattle.hex.specs.Hex.{IsBytes}
use Rattle.lasso_parts.specs.Texts.{Text, position_of}
use Rattle.lasso_single.specs.Filling.{extend}
use Rattle.lasso_single.specs.Intern.{InternsIn}
use Rattle.lasso_single.specs.Interner.{InternerView}
use Rattle.lasso_single.proofs.Filled.{accepted, extend_push}
use Rattle.lasso_columns.proofs.PartLists.{list_extended}
use Rattle.lasso_columns.specs.Parts.{new_texts}
use Rattle.lasso_single.specs.Coding.{spur_at}
use Rattle.lasso_input.specs.Texts.{line_of, text_of}
use Rattle.lasso_input.proofs.LineTexts.{equal_texts, text_gives_line}
use Rattle.lasso_columns.specs.Rows.{is_null, texts_of}
use Rattle.lasso_codes.specs.Limits.{line_texts, AreLetIn, IsLetIn}

-- lines that are let in are lists of bytes
pub lines_are_bytes : (only : Bool) (lines : List Text) → AreLetIn only lines → All IsBytes lines
lines_are_bytes only lines all = All-weaker (IsLetIn only) IsBytes (λ line let_in. let_in.0) lines all

pub same_texts : (one other : Text) → IsBytes one → IsBytes other → bytes_eq (text_of one) (text_of other) ≡ bytes_eq one other
same_texts one other bytes bytes' = same_from_decides _ _
    (Decides-like (bytes_eq (text_of one) (text_of other)) (equal_texts one other bytes bytes') (λ (e : one ≡ other). ap text_of e) (bytes_eq-Decides (text_of one) (text_of other)))
    (bytes_eq-Decides one other)

-- ---- where a line is

place_of_text : (list : List Text) (line : Text) → All IsBytes list → IsBytes line → position_or_len (λ t. bytes_eq t (text_of line)) (line_texts list) ≡ position_or_len (λ t. bytes_eq t line) list
place_of_text [] line all bytes = refl
place_of_text (t ∷ list) line all bytes =
    ap (λ b. cond (not b) (1 + position_or_len (λ x. bytes_eq x (text_of line)) (line_texts list)) 0) (same_texts t line (All-head IsBytes t list all) bytes)
    ∙ ap (λ n. cond (not (bytes_eq t line)) (1 + n) 0) (place_of_text list line (All-tail IsBytes t list all) bytes)

-- a line is where its text is
pub position_of_text : (list : List Text) (line : Text) → All IsBytes list → IsBytes line → position_of (line_texts list) (text_of line) ≡ position_of list line
position_of_text list line all bytes =
    let place = place_of_text list line all bytes in
    ap (λ n. cond (nat_lt (position_or_len (λ t. bytes_eq t (text_of line)) (line_texts list)) n) (Some (position_or_len (λ t. bytes_eq t (text_of line)) (line_texts list))) None) (length-map list text_of)
    ∙ ap (λ n. cond (nat_lt n (length list)) (Some n) None) place

-- ---- distinct lines

new_bytes_by : (there : Bool) (line : Text) (others more : List Text) → IsBytes line → All IsBytes others → All IsBytes more → All IsBytes (cond there others (line ∷ more))
new_bytes_by true line others more bytes all all' = all
new_bytes_by false line others more bytes all all' = All-cons IsBytes line more bytes all'

-- the distinct lines are lines of bytes
pub new_are_bytes : (list lines : List Text) → All IsBytes lines → All IsBytes (new_texts list lines)
new_are_bytes list [] all = All-nil IsBytes
new_are_bytes list (line ∷ lines) all =
    let others = All-tail IsBytes line lines all in
    new_bytes_by (is_some (position_of list line)) line (new_texts list lines) (new_texts (list ++ line ∷ []) lines) (All-head IsBytes line lines all) (new_are_bytes list lines others) (new_are_bytes (list ++ line ∷ []) lines others)

map_cond : (there : Bool) (one other : List Text) → cond there (line_texts one) (line_texts other) ≡ line_texts (cond there one other)
map_cond true one other = refl
map_cond false one other = refl

-- the distinct texts of lines are the texts of the distinct lines
pub new_texts_of : (list lines : List Text) → All IsBytes list → All IsBytes lines → new_texts (line_texts list) (line_texts lines) ≡ line_texts (new_texts list lines)
new_texts_of list [] all all' = refl
new_texts_of list (line ∷ lines) all all' =
    let bytes = All-head IsBytes line lines all' in
    let others = All-tail IsBytes line lines all' in
    let there : is_some (position_of (line_texts list) (text_of line)) ≡ is_some (position_of list line) = ap is_some (position_of_text list line all bytes) in
    let pushed : line_texts list ++ text_of line ∷ [] ≡ line_texts (list ++ line ∷ []) = sym (map-append text_of list (line ∷ [])) in
    ap (λ b. cond b (new_texts (line_texts list) (line_texts lines)) (text_of line ∷ new_texts (line_texts list ++ text_of line ∷ []) (line_texts lines))) there
    ∙ ap (λ (ts : List Text). cond (is_some (position_of list line)) ts (text_of line ∷ new_texts (line_texts list ++ text_of line ∷ []) (line_texts lines))) (new_texts_of list lines all others)
    ∙ ap (λ (ts : List Text). cond (is_some (position_of list line)) (line_texts (new_texts list lines)) (text_of line ∷ new_texts ts (line_texts lines))) pushed
    ∙ ap (λ (ts : List Text). cond (is_some (position_of list line)) (line_texts (new_texts list lines)) (text_of line ∷ ts)) (new_texts_of (list ++ line ∷ []) lines (All-push IsBytes list line all bytes) others)
    ∙ map_cond (is_some (position_of list line)) (new_texts list lines) (line ∷ new_texts (list ++ line ∷ []) lines)

pub first_texts_of : (lines : List Text) → All IsBytes lines → new_texts [] (line_texts lines) ≡ line_texts (new_texts [] lines)
first_texts_of lines all = new_texts_of [] lines (All-nil IsBytes) all

pub distinct_are_bytes : (lines : List Text) → All IsBytes lines → All IsBytes (new_texts [] lines)
distinct_are_bytes lines all = new_are_bytes [] lines all

pub kept_are_bytes : (null : Option Text) (lines : List Text) → All IsBytes lines → All IsBytes (texts_of null lines)
kept_are_bytes null lines all = All-filter (λ line. not (is_null null line)) IsBytes lines all

-- the lines of their texts
pub lines_back : (lines : List Text) → All IsBytes lines → map line_of (line_texts lines) ≡ lines
lines_back [] all = refl
lines_back (line ∷ lines) all =
    ap (λ l. l ∷ map line_of (line_texts lines)) (text_gives_line line (All-head IsBytes line lines all)) ∙ ap (λ (ls : List Text). line ∷ ls) (lines_back lines (All-tail IsBytes line lines all))

-- a table of the lines of these texts
pub table_back : (table texts lines : List Text) → table ≡ map line_of texts → texts ≡ line_texts lines → All IsBytes lines → table ≡ lines
table_back table texts lines table_is texts_are all = table_is ∙ ap (map line_of) texts_are ∙ lines_back lines all

-- ---- texts that are interned

pub texts_push : (lines : List Text) (line : Text) → line_texts (lines ++ line ∷ []) ≡ line_texts lines ++ text_of line ∷ []
texts_push lines line = map-append text_of lines (line ∷ [])

-- one line more
pub extend_line : (old now after : InternerView) (lines : List Text) (line : Text) (key : ℕ) → extend spur_at old (line_texts lines) accepted now → InternsIn spur_at now (text_of line) (Ok key) after → extend spur_at old (line_texts (lines ++ line ∷ [])) accepted after
extend_line old now after lines line key list interns =
    subst (λ (ts : List Text). extend spur_at old ts accepted after) (sym (texts_push lines line)) (extend_push spur_at old now after (line_texts lines) (text_of line) (Ok key) accepted list interns refl)

-- the texts of two lists, one after the other
pub extend_both : (old mid new : InternerView) (front back : List Text) → extend spur_at old front accepted mid → extend spur_at mid back accepted new → extend spur_at old (front ++ back) accepted new
extend_both old mid new [] back first second = subst (λ (i : InternerView). extend spur_at i back accepted new) first.1 second
extend_both old mid new (t ∷ ts) back first second = (
  first.0,
  first.1,
  first.2,
  MatchResult-weaker first.0 first.3 (λ k others. extend_both first.1 mid new ts back others second) (λ error last. let e = last.0 in absurd (cc)),
)

pub extend_lines : (old mid new : InternerView) (front back : List Text) → extend spur_at old (line_texts front) accepted mid → extend spur_at mid (line_texts back) accepted new → extend spur_at old (line_texts (front ++ back)) accepted new
extend_lines old mid new front back first second =
    subst (λ (ts : List Text). extend spur_at old ts accepted new) (sym (map-append text_of front back)) (extend_both old mid new (line_texts front) (line_texts back) first second)

-- the line of the text at a place
pub some_line : (lines : List Text) (n : ℕ) (P : Text → Type 0) → IsSomeAnd (slice_get (line_texts lines) n) P → IsSomeAnd (slice_get lines n) (λ line. P (text_of line))
some_line [] n P is = absurd is
some_line (line ∷ lines) zero P is = is
some_line (line ∷ lines) (suc n) P is = some_line lines n P is

-- the list of an interner that took the texts of the lines
pub list_of_lines : (old now : InternerView) (lines : List Text) → old.texts ≡ [] → All IsBytes lines → extend spur_at old (line_texts lines) accepted now → now.texts ≡ line_texts (new_texts [] lines)
list_of_lines old now lines none all list =
    list_extended old now (line_texts lines) list ∙ ap (λ (ts : List Text). ts ++ new_texts ts (line_texts lines)) none ∙ first_texts_of lines all

-- ---- lines of texts, one after another

take_last : (n : ℕ) (xs : List Text) (x : Text) → slice_get xs n ≡ Some x → take (suc n) xs ≡ take n xs ++ x ∷ []
take_last zero [] x at = absurd (cc)
take_last zero (y ∷ ys) x at = let same : y ≡ x = cc in ap (λ (t : Text). t ∷ []) same
take_last (suc n) [] x at = absurd (cc)
take_last (suc n) (y ∷ ys) x at = ap (λ (ts : List Text). y ∷ ts) (take_last n ys x at)

pub take_next : (n : ℕ) (xs : List Text) (x : Text) → slice_get xs n ≡ Some x → take (n + 1) xs ≡ take n xs ++ x ∷ []
take_next n xs x at = ap (λ k. take k xs) (add-one n) ∙ take_last n xs x at

-- one more text is its own line
pub own_next : (n : ℕ) (texts : List Text) (text : Text) → take n (map line_of texts) ≡ take n texts → slice_get texts n ≡ Some text → line_of text ≡ text → take (n + 1) (map line_of texts) ≡ take (n + 1) texts
own_next n texts text so_far at own =
    take_next n (map line_of texts) (line_of text) (slice_get-map line_of texts n ∙ ap (option_map line_of) at) ∙ ap (λ (t : Text). take n (map line_of texts) ++ t ∷ []) own
    ∙ ap (λ (ts : List Text). ts ++ text ∷ []) so_far ∙ sym (take_next n texts text at)
