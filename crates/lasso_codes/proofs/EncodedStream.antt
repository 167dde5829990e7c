-- Lines of a stream that were encoded by their texts.
--
-- The first texts of the lines were encoded as rows. A text that is UTF-8 is that of a line that is let in, so these are
-- the texts of lines that are let in. A line is a null exactly if its text is that of the null. So the list has the texts
-- of these lines, and the entries are theirs. If the lines are all, the list is their dictionary. Else the next line is at
-- fault, or a read failed. Without a null each entry is a code.
use Rattle.std.proofs.Common.{ℕ, zero, suc, ◌≡◌, ◌+◌, ◌-◌, ◌≤◌, ◌⊎◌, inl, inr, Bool, true, false, not, cond, List, [], ◌∷◌, ◌++◌, length, map, take, drop, Option, Some, None, Result, Ok, Err, OnOk, IfErr, refl, sym, ap, subst, ◌∙◌, arith, append-nil, length-append}
use Rattle.std.specs.Prelude.{All, Vec, IfSome, IsSomeAnd, option_map, slice_get}
use Rattle.std.specs.IoError.{error_kind}
use Rattle.std.specs.declared.io.Error.{Error}
use Rattle.std.specs.declared.io.ErrorKind.TheVariants.{OutOfMemory}
use Rattle.std.specs.Str.{is_utf8, IsUtf8}
use Rattle.std.proofs.Math.Seq.{drop-append_seam, take-append_seam}
use Rattle.std.proofs.lemmas.List.{drop-map, length-map, take-append-drop, take-append-le, take-map, take_all}
use Rattle.std.proofs.lemmas.List.Elements.{All-cons, All-head, All-nil, All-tail}
use Rattle.std.proofs.lemmas.Str.{is_utf8-from_IsUtf8}
use Rattle.hex.specs.Hex.{IsBytes}
use Rattle.lasso_parts.specs.Texts.{Text, position_of}
use Rattle.lasso_parts.specs.declared.util.LassoError.{LassoError}
use Rattle.lasso_parts.specs.declared.util.LassoErrorKind.TheVariants.{FailedAllocation}
use Rattle.lasso_single.specs.Filling.{extend}
use Rattle.lasso_single.specs.Interner.{InternerView, made_with}
use Rattle.lasso_single.proofs.Filled.{accepted}
use Rattle.lasso_single.specs.Codes.{AreCodes}
use Rattle.lasso_single.specs.Coding.{spur_at}
use Rattle.lasso_columns.specs.Rows.{is_null, texts_of, EncodesRows, IsRefusedRow, IsRowFault, StopsAtRow}
use Rattle.lasso_columns.specs.Rows as rows_of
use Rattle.lasso_columns.specs.Streams.{AreUnread, AreUnreadBy}
use Rattle.lasso_columns.specs.Texts.{text_by, texts_by}
use Rattle.lasso_columns.specs.declared.line_texts.LineTexts.TheVariants.{OfBytes}
use Rattle.lasso_columns.specs.declared.faults.LineError.{LineError}
use Rattle.lasso_columns.specs.declared.faults.LineError.TheVariants.{Refused, NotText}
use Rattle.lasso_input.specs.Lines.{lines_of}
use Rattle.lasso_input.specs.Texts.{is_let_in, text_of}
use Rattle.lasso_input.proofs.LineTexts.{text_is_utf8}
use Rattle.lasso_codes.specs.Encode.{AreNumbered, EncodingError, IsNoNull, StopsEncoding}
use Rattle.lasso_codes.specs.Errors.{IsReadError}
use Rattle.lasso_codes.specs.Limits.{line_texts, AreLetIn, IsLetIn, IsLineFault, IsNextError}
use Rattle.lasso_codes.specs.Streams.{FailsAfter}
use Rattle.lasso_codes.specs.Stages.{IsEntryAs, AreEntries, Encoding}
use Rattle.lasso_codes.specs.declared.error.RunError.{RunError}
use Rattle.lasso_codes.specs.declared.error.RunError.TheVariants.{Line, TooManyLines, ReadFailed, WriteFailed, ReaderGone, Column}
use Rattle.lasso_codes.proofs.Cuts.{open_stops}
use Rattle.lasso_codes.proofs.EncodedLines.{encoding_ends, encoding_interned}
use Rattle.lasso_codes.proofs.LineTexts.{same_texts}

-- ---- results

pub ok_both : {X E : Type 0} {P P' Q : Type 0} (r : Result X E) → OnOk r P → OnOk r P' → (P → P' → Q) → OnOk r Q
ok_both (Ok x) p p' go = go p p'
ok_both (Err e) p p' go = tt

pub err_then : {X E : Type 0} {P Q : E → Type 0} (r : Result X E) → IfErr r P → ((e : E) → P e → Q e) → IfErr r Q
err_then (Ok x) p go = tt
err_then (Err e) p go = go e p

-- ---- texts of lines that are let in

-- the text is UTF-8, so the line is let in
abbrev IsTextOf : Bool → List ℕ → Text → Type 0
IsTextOf only line text = (is_let_in only line ≡ true) × (text ≡ text_of line)

let_in_by : (line : List ℕ) (b : Bool) → is_utf8 line ≡ b → IsUtf8 (cond b (text_of line) line) → IsTextOf true line (cond b (text_of line) line)
let_in_by line true is utf8 = (is, refl)
let_in_by line false is utf8 = absurd (let yes' : is_utf8 line ≡ true = is_utf8-from_IsUtf8 line utf8 in cc)

let_in_text : (only : Bool) (line : List ℕ) → IsUtf8 (text_by only line) → IsTextOf only line (text_by only line)
let_in_text false line utf8 = (refl, refl)
let_in_text true line utf8 = let_in_by line (is_utf8 line) refl utf8

-- its text is not, so the line is not let in
let_out_by : (line : List ℕ) (b : Bool) → is_utf8 line ≡ b → ¬ (IsUtf8 (cond b (text_of line) line)) → is_utf8 line ≡ false
let_out_by line true is bad = absurd (bad (text_is_utf8 line))
let_out_by line false is bad = is

let_out_text : (only : Bool) (line : List ℕ) → ¬ (IsUtf8 (text_by only line)) → is_let_in only line ≡ false
let_out_text false line bad = absurd (bad (text_is_utf8 line))
let_out_text true line bad = let_out_by line (is_utf8 line) refl bad

let_in_all : (only : Bool) (lines : List Text) → All IsBytes lines → All IsUtf8 (map (text_by only) lines) → AreLetIn only lines
let_in_all only [] bytes utf8 = All-nil (IsLetIn only)
let_in_all only (l ∷ ls) bytes utf8 =
    let here = let_in_text only l (All-head IsUtf8 (text_by only l) (map (text_by only) ls) utf8) in
    All-cons (IsLetIn only) l ls (All-head IsBytes l ls bytes, here.0) (let_in_all only ls (All-tail IsBytes l ls bytes) (All-tail IsUtf8 (text_by only l) (map (text_by only) ls) utf8))

texts_same : (only : Bool) (lines : List Text) → All IsUtf8 (map (text_by only) lines) → map (text_by only) lines ≡ line_texts lines
texts_same only [] utf8 = refl
texts_same only (l ∷ ls) utf8 =
    let here = let_in_text only l (All-head IsUtf8 (text_by only l) (map (text_by only) ls) utf8) in
    ap (λ (t : Text). t ∷ map (text_by only) ls) here.1 ∙ ap (λ (ts : List Text). text_of l ∷ ts) (texts_same only ls (All-tail IsUtf8 (text_by only l) (map (text_by only) ls) utf8))

-- ---- nulls

-- the text of a null
abbrev pub null_text : Option Text → Option Text
null_text null = option_map text_of null

same_null : (null : Option Text) (line : Text) → IfSome null IsBytes → IsBytes line → is_null (null_text null) (text_of line) ≡ is_null null line
same_null None line word bytes = refl
same_null (Some w) line word bytes = same_texts w line word bytes

kept_by : (b : Bool) (line : Text) (others : List Text) → cond (not b) (text_of line ∷ line_texts others) (line_texts others) ≡ line_texts (cond (not b) (line ∷ others) others)
kept_by true line others = refl
kept_by false line others = refl

texts_kept : (null : Option Text) (lines : List Text) → IfSome null IsBytes → All IsBytes lines → texts_of (null_text null) (line_texts lines) ≡ line_texts (texts_of null lines)
texts_kept null [] word bytes = refl
texts_kept null (l ∷ ls) word bytes =
    let others = texts_kept null ls word (All-tail IsBytes l ls bytes) in
    ap (λ b. cond (not b) (text_of l ∷ texts_of (null_text null) (line_texts ls)) (texts_of (null_text null) (line_texts ls))) (same_null null l word (All-head IsBytes l ls bytes))
    ∙ ap (λ (ts : List Text). cond (not (is_null null l)) (text_of l ∷ ts) ts) others ∙ kept_by (is_null null l) l (texts_of null ls)

entry_kept : (b : Bool) (list : List Text) (line : Text) (entry : ℕ) → rows_of.IsEntryAs b list (text_of line) entry → IsEntryAs b list line entry
entry_kept true list line entry is = is
entry_kept false list line entry is = is

entries_kept : (null : Option Text) (list lines : List Text) (entries : List ℕ) → IfSome null IsBytes → All IsBytes lines → rows_of.AreEntries (null_text null) list (line_texts lines) entries → AreEntries null list lines entries
entries_kept null list [] [] word bytes are = tt
entries_kept null list [] (n ∷ ns) word bytes are = absurd are
entries_kept null list (l ∷ ls) [] word bytes are = absurd are
entries_kept null list (l ∷ ls) (n ∷ ns) word bytes are =
    let here = subst (λ b. rows_of.IsEntryAs b list (text_of l) n) (same_null null l word (All-head IsBytes l ls bytes)) are.0 in
    (entry_kept (is_null null l) list l n here, entries_kept null list ls ns word (All-tail IsBytes l ls bytes) are.1)

pub entries_many : (null : Option Text) (list lines : List Text) (entries : List ℕ) → AreEntries null list lines entries → length entries ≡ length lines
entries_many null list [] [] are = refl
entries_many null list [] (n ∷ ns) are = absurd are
entries_many null list (l ∷ ls) [] are = absurd are
entries_many null list (l ∷ ls) (n ∷ ns) are = ap suc (entries_many null list ls ns are.1)

-- ---- rows

-- these lines are let in, and have these entries
pub record RowsRun (only : Bool) (null : Option Text) (old now : InternerView) (done : List Text) (entries : List ℕ) : Type 0 where
  pub let_in : AreLetIn only done
  pub entries_are : AreEntries null now.texts done entries
  pub list : extend spur_at old (line_texts (texts_of null done)) accepted now

all_take : (n : ℕ) (lines : List Text) → All IsBytes lines → All IsBytes (take n lines)
all_take zero lines all = All-nil IsBytes
all_take (suc n) [] all = All-nil IsBytes
all_take (suc n) (l ∷ ls) all = All-cons IsBytes l (take n ls) (All-head IsBytes l ls all) (all_take n ls (All-tail IsBytes l ls all))

module _ (only : Bool) (null : Option Text) (old now : InternerView) (first rest : List Text) (before entries : List ℕ) (word : IfSome null IsBytes) (bytes : All IsBytes first) (none : before ≡ []) (rows : EncodesRows (null_text null) old (map (text_by only) first) rest before now entries) where
  abbrev pub run_len : ℕ
  run_len = length rows.done

  abbrev pub run_done : List Text
  run_done = take run_len first

  -- the texts that were encoded are those of the first lines
  run_texts : map (text_by only) run_done ≡ rows.done
  run_texts = sym (take-map (text_by only) run_len first) ∙ ap (take run_len) rows.split ∙ take-append_seam rows.done rest

  pub run_rest : map (text_by only) (drop run_len first) ≡ rest
  run_rest = sym (drop-map (text_by only) run_len first) ∙ ap (drop run_len) rows.split ∙ drop-append_seam rows.done rest

  run_bytes : All IsBytes run_done
  run_bytes = all_take run_len first bytes

  run_utf8 : All IsUtf8 (map (text_by only) run_done)
  run_utf8 = subst (λ (ts : List Text). All IsUtf8 ts) (sym run_texts) rows.texts

  texts_are : rows.done ≡ line_texts run_done
  texts_are = sym run_texts ∙ texts_same only run_done run_utf8

  pub run_rows : RowsRun only null old now run_done entries
  run_rows =
      let all : entries ≡ rows.entries.0 = rows.entries.1 ∙ ap (λ (es : List ℕ). es ++ rows.entries.0) none in
      let are = subst (λ (ts : List Text). rows_of.AreEntries (null_text null) now.texts ts entries) texts_are (subst (rows_of.AreEntries (null_text null) now.texts rows.done) (sym all) rows.entries.2) in
      let list = subst (λ (ts : List Text). extend spur_at old (texts_of (null_text null) ts) accepted now) texts_are rows.list in
      record {
        let_in = let_in_all only run_done run_bytes run_utf8;
        entries_are = entries_kept null now.texts run_done entries word run_bytes are;
        list = subst (λ (ts : List Text). extend spur_at old ts accepted now) (texts_kept null run_done word run_bytes) list;
      }

  pub run_many : length run_done ≡ run_len
  run_many = sym (length-map run_done (text_by only)) ∙ ap length run_texts

  pub run_entries : length entries ≡ run_len
  run_entries = entries_many null now.texts run_done entries run_rows.entries_are ∙ run_many

-- ---- all lines

none_left : (f : Text → Text) (xs : List Text) → map f xs ≡ [] → xs ≡ []
none_left f [] is = refl
none_left f (x ∷ xs) is = absurd (cc)

-- all of these lines were encoded
pub rows_all : (only : Bool) (null : Option Text) (old now : InternerView) (first : List Text) (before entries : List ℕ) → IfSome null IsBytes → All IsBytes first → before ≡ [] → EncodesRows (null_text null) old (texts_by (OfBytes only) first) [] before now entries → RowsRun only null old now first entries
rows_all only null old now first before entries word bytes none rows =
    let n = run_len only null old now first [] before entries word bytes none rows in
    let nothing : drop n first ≡ [] = none_left (text_by only) (drop n first) (run_rest only null old now first [] before entries word bytes none rows) in
    let all : take n first ≡ first = sym (append-nil (take n first)) ∙ ap (λ (ls : List Text). take n first ++ ls) (sym nothing) ∙ take-append-drop n first in
    subst (λ (ls : List Text). RowsRun only null old now ls entries) all (run_rows only null old now first [] before entries word bytes none rows)

-- all lines were encoded
run_ends : (input : List ℕ) (only : Bool) (null : Option Text) (old now : InternerView) (before entries : List ℕ) → IfSome null IsBytes → All IsBytes (lines_of input) → before ≡ [] → EncodesRows (null_text null) old (texts_by (OfBytes only) (lines_of input)) [] before now entries → Encoding input [] only (length entries + 1) null old now entries
run_ends input only null old now before entries word bytes none rows =
    let run = rows_all only null old now (lines_of input) before entries word bytes none rows in
    record {
      done = lines_of input;
      taken = record { split = sym (append-nil (lines_of input)); let_in = run.let_in; counted = ap (λ k. k + 1) (sym (entries_many null now.texts (lines_of input) entries run.entries_are)) };
      entries = run.entries_are;
      list = run.list;
    }

pub rows_numbered : (input : List ℕ) (only : Bool) (null : Option Text) (old now : InternerView) (before entries : List ℕ) → IfSome null IsBytes → All IsBytes (lines_of input) → before ≡ [] → old.texts ≡ [] → EncodesRows (null_text null) old (texts_by (OfBytes only) (lines_of input)) [] before now entries → AreLetIn only (lines_of input) × AreNumbered null (lines_of input) now.texts entries
rows_numbered input only null old now before entries word bytes none empty rows =
    encoding_ends input [] only (length entries + 1) null old now entries (run_ends input only null old now before entries word bytes none rows) empty refl

pub rows_interned : (input : List ℕ) (only : Bool) (null : Option Text) (old now : InternerView) (before entries : List ℕ) → IfSome null IsBytes → All IsBytes (lines_of input) → before ≡ [] → EncodesRows (null_text null) old (texts_by (OfBytes only) (lines_of input)) [] before now entries → extend spur_at old (line_texts (texts_of null (lines_of input))) accepted now
rows_interned input only null old now before entries word bytes none rows =
    encoding_interned input [] only (length entries + 1) null old now entries (run_ends input only null old now before entries word bytes none rows) refl

-- ---- faults

-- the fault of the line after the first n
abbrev IsFaultNext : Bool → Option Text → InternerView → Text → ℕ → LineError → Type 0
IsFaultNext only null now line n error = ((error ≡ Refused (n + 1) FailedAllocation) ⊎ IsLineFault only now line (n + 1) error) × IsNoNull null line error

-- a line that equals the word has its text
null_too : (null : Option Text) (line : Text) → is_null (null_text null) (text_of line) ≡ false → IfSome null IsBytes → IsBytes line → is_null null line ≡ false
null_too null line other word bytes = sym (same_null null line word bytes) ∙ other

refused_next : {A : Type 0} (only : Bool) (null : Option Text) (now : InternerView) (entries : Vec ℕ A) (line : Text) (n at : ℕ) (error : LassoError) (b : Bool) → IfSome null IsBytes → IsLetIn only line → is_null (null_text null) (text_of line) ≡ b → at ≡ n + 1 → IsRefusedRow b now entries (text_of line) error → IsFaultNext only null now line n (Refused at error)
refused_next only null now entries line n at error true word let_in e number refused =
    (inl (ap (λ m. Refused m error) number ∙ ap (λ (k : LassoError). Refused (n + 1) k) refused.0), inl refused.0)
refused_next only null now entries line n at error false word let_in e number refused = (inr (number, let_in, refused.0), inr (null_too null line e word let_in.0))

row_next : {A : Type 0} (only : Bool) (null : Option Text) (now : InternerView) (entries : Vec ℕ A) (line : Text) (n : ℕ) (error : LineError) → IfSome null IsBytes → IsBytes line → IsRowFault (null_text null) now entries (text_by only line) (n + 1) error → IsFaultNext only null now line n error
row_next only null now entries line n (Refused at error) word bytes is =
    let told = let_in_text only line is.1 in
    let refused = subst (λ (t : Text). IsRefusedRow (is_null (null_text null) t) now entries t error) told.1 is.2 in
    refused_next only null now entries line n at error (is_null (null_text null) (text_of line)) word (bytes, told.0) refl is.0 refused
row_next only null now entries line n (NotText at) word bytes is = (inr (is.0, let_out_text only line is.1), tt)

at_seam : (n : ℕ) (lines others : List Text) (line : Text) → drop n lines ≡ line ∷ others → slice_get lines n ≡ Some line
at_seam zero lines others line is = ap (λ (ls : List Text). slice_get ls 0) is
at_seam (suc n) [] others line is = absurd (cc)
at_seam (suc n) (l ∷ ls) others line is = at_seam n ls others line is

few_seam : (n : ℕ) (lines others : List Text) (line : Text) → drop n lines ≡ line ∷ others → n ≤ length lines
few_seam zero lines others line is = omega arith
few_seam (suc n) [] others line is = absurd (cc)
few_seam (suc n) (l ∷ ls) others line is = let more = few_seam n ls others line is in omega (arith, more)

longer_at : (n : ℕ) (first rest : List Text) (line : Text) → slice_get first n ≡ Some line → slice_get (first ++ rest) n ≡ Some line
longer_at n [] rest line is = absurd (cc)
longer_at zero (l ∷ ls) rest line is = is
longer_at (suc n) (l ∷ ls) rest line is = longer_at n ls rest line is

bytes_at : (n : ℕ) (lines others : List Text) (line : Text) → All IsBytes lines → drop n lines ≡ line ∷ others → IsBytes line
bytes_at zero [] others line all is = absurd (cc)
bytes_at zero (l ∷ ls) others line all is = let same : l ≡ line = cc in subst IsBytes same (All-head IsBytes l ls all)
bytes_at (suc n) [] others line all is = absurd (cc)
bytes_at (suc n) (l ∷ ls) others line all is = bytes_at n ls others line (All-tail IsBytes l ls all) is

-- where encoding stopped: the first n lines were encoded, and the next line is at fault; or a read failed
abbrev pub RowsStop : Bool → Option Text → InternerView → InternerView → List Text → List ℕ → Option (List ℕ) → RunError → Type 0
RowsStop only null old now lines entries left (Line error) =
    (n : ℕ) × RowsRun only null old now (take n lines) entries × IsNextError only now lines n error × IfSome (slice_get lines n) (λ line. IsNoNull null line error)
RowsStop only null old now lines entries left TooManyLines = ⊥
RowsStop only null old now lines entries left ReadFailed = (n : ℕ) × RowsRun only null old now (take n lines) entries × (n ≤ length lines) × FailsAfter lines n left
RowsStop only null old now lines entries left WriteFailed = ⊥
RowsStop only null old now lines entries left ReaderGone = ⊥
RowsStop only null old now lines entries left (Column column error) = ⊥

first_run : (only : Bool) (null : Option Text) (lines first rest : List Text) (old now : InternerView) (n : ℕ) (entries : List ℕ) → lines ≡ first ++ rest → n ≤ length first → RowsRun only null old now (take n first) entries → RowsRun only null old now (take n lines) entries
first_run only null lines first rest old now n entries split few run =
    let same : take n lines ≡ take n first = ap (take n) split ∙ take-append-le n first rest few in
    subst (λ (ls : List Text). RowsRun only null old now ls entries) (sym same) run

lacks : (null : Option Text) (number : ℕ) (error : LineError) → error ≡ Refused number FailedAllocation → (o : Option Text) → IfSome o (λ line. IsNoNull null line error)
lacks null number error is None = tt
lacks null number error is (Some line) = subst (IsNoNull null line) (sym is) (inl refl)

next_error : (only : Bool) (now : InternerView) (lines : List Text) (n : ℕ) (line : Text) (error : LineError) → n ≤ length lines → slice_get lines n ≡ Some line → (error ≡ Refused (n + 1) FailedAllocation) ⊎ IsLineFault only now line (n + 1) error → IsNextError only now lines n error
next_error only now lines n line error few there why = elim why [
  | inl full ↦ inl (full, few)
  | inr is ↦ inr (subst (λ o. IsSomeAnd o (λ l. IsLineFault only now l (n + 1) error)) (sym there) is)
]

-- a line of which this is the text
line_of_text : (only : Bool) (lines : List Text) (text : Text) (more : List Text) → map (text_by only) lines ≡ text ∷ more → (line : Text) × (others : List Text) × (lines ≡ line ∷ others) × (text ≡ text_by only line)
line_of_text only [] text more is = absurd (cc)
line_of_text only (l ∷ ls) text more is = let same : text_by only l ≡ text = cc in (l, ls, refl, sym same)

-- the next line is refused or not let in
rows_line_stop : {A : Type 0} (only : Bool) (null : Option Text) (old now : InternerView) (lines first rest : List Text) (before : List ℕ) (after : Vec ℕ A) (left : Option (List ℕ)) (error : LineError) → IfSome null IsBytes → All IsBytes first → lines ≡ first ++ rest → before ≡ [] → StopsAtRow (null_text null) old (map (text_by only) first) before now after error → RowsStop only null old now lines after.items left (Line error)
rows_line_stop only null old now lines first rest before after left error word bytes split none stops =
    let ahead = stops.0 ∷ stops.1 in
    let rows = stops.2 in
    let n = run_len only null old now first ahead before after.items word bytes none rows in
    let run = run_rows only null old now first ahead before after.items word bytes none rows in
    let long = run_entries only null old now first ahead before after.items word bytes none rows in
    let next = line_of_text only (drop n first) stops.0 stops.1 (run_rest only null old now first ahead before after.items word bytes none rows) in
    let number : length after.items - length before + 1 ≡ n + 1 = omega (arith, long, ap length none) in
    let few : n ≤ length first = few_seam n first next.1 next.0 next.2 in
    let there : slice_get lines n ≡ Some next.0 = ap (λ (ls : List Text). slice_get ls n) split ∙ longer_at n first rest next.0 (at_seam n first next.1 next.0 next.2) in
    let fault = subst (λ (t : Text). IsRowFault (null_text null) now after t (n + 1) error) next.3 (subst (λ m. IsRowFault (null_text null) now after stops.0 m error) number stops.3) in
    let why = row_next only null now after next.0 n error word (bytes_at n first next.1 next.0 bytes next.2) fault in
    let inside : n ≤ length lines = omega (arith, few, ap length split, length-append first rest) in
    (n, first_run only null lines first rest old now n after.items split few run, next_error only now lines n next.0 error inside there why.0, subst (λ o. IfSome o (λ l. IsNoNull null l error)) (sym there) why.1)

-- a read failed after the first lines: those were encoded, and of the others none was read as a whole
rows_read_stop : (only : Bool) (null : Option Text) (old now : InternerView) (lines first rest : List Text) (before after : List ℕ) (left : Option (List ℕ)) → IfSome null IsBytes → All IsBytes first → lines ≡ first ++ rest → before ≡ [] → EncodesRows (null_text null) old (map (text_by only) first) [] before now after → AreUnread left rest → RowsStop only null old now lines after left ReadFailed
rows_read_stop only null old now lines first rest before after left word bytes split none rows unread =
    let n = run_len only null old now first [] before after word bytes none rows in
    let run = run_rows only null old now first [] before after word bytes none rows in
    let many : n ≡ length first = ap length (sym (append-nil rows.done) ∙ sym rows.split) ∙ length-map first (text_by only) in
    let few : n ≤ length first = omega (arith, many) in
    let same : take n lines ≡ take n first = ap (take n) split ∙ take-append-le n first rest few in
    let all : take n first ≡ first = take_all n first (omega (arith, many)) in
    let inside : n ≤ length lines = omega (arith, few, ap length split, length-append first rest) in (
      n,
      first_run only null lines first rest old now n after split few run,
      inside,
      (
        unread.0,
        unread.1,
        unread.2,
        split ∙ ap (λ (ls : List Text). ls ++ rest) (sym (same ∙ all)) ∙ ap (λ (ls : List Text). take n lines ++ ls) unread.4,
        open_stops unread.0 unread.3,
      ),
    )

-- or there was no memory
rows_lack_memory : (only : Bool) (null : Option Text) (old now : InternerView) (lines first rest : List Text) (before after : List ℕ) (left : Option (List ℕ)) (error : LineError) → IfSome null IsBytes → All IsBytes first → lines ≡ first ++ rest → before ≡ [] → EncodesRows (null_text null) old (map (text_by only) first) [] before now after → error ≡ Refused (length after + 1) FailedAllocation → RowsStop only null old now lines after left (Line error)
rows_lack_memory only null old now lines first rest before after left error word bytes split none rows is =
    let n = run_len only null old now first [] before after word bytes none rows in
    let run = run_rows only null old now first [] before after word bytes none rows in
    let long = run_entries only null old now first [] before after word bytes none rows in
    let many : n ≡ length first = ap length (sym (append-nil rows.done) ∙ sym rows.split) ∙ length-map first (text_by only) in
    let full : error ≡ Refused (n + 1) FailedAllocation = is ∙ ap (λ k. Refused (k + 1) FailedAllocation) long in
    let few : n ≤ length first = omega (arith, many) in
    let inside : n ≤ length lines = omega (arith, few, ap length split, length-append first rest) in
    (n, first_run only null lines first rest old now n after split few run, inl (full, inside), lacks null (n + 1) error full (slice_get lines n))

rows_stop : (only : Bool) (null : Option Text) (old now : InternerView) (lines first rest : List Text) (before after : List ℕ) (left : Option (List ℕ)) (error : RunError) → IfSome null IsBytes → All IsBytes first → lines ≡ first ++ rest → before ≡ [] → EncodesRows (null_text null) old (map (text_by only) first) [] before now after → IsReadError (length after + 1) error → (error ≡ ReadFailed → AreUnread left rest) → RowsStop only null old now lines after left error
rows_stop only null old now lines first rest before after left (Line error) word bytes split none rows is unread =
    rows_lack_memory only null old now lines first rest before after left error word bytes split none rows is
rows_stop only null old now lines first rest before after left TooManyLines word bytes split none rows is unread = absurd is
rows_stop only null old now lines first rest before after left ReadFailed word bytes split none rows is unread =
    rows_read_stop only null old now lines first rest before after left word bytes split none rows (unread refl)
rows_stop only null old now lines first rest before after left WriteFailed word bytes split none rows is unread = absurd is
rows_stop only null old now lines first rest before after left ReaderGone word bytes split none rows is unread = absurd is
rows_stop only null old now lines first rest before after left (Column column error) word bytes split none rows is unread = absurd is

-- where the lines of a stream stopped
pub stream_stop : {A : Type 0} (only : Bool) (null : Option Text) (old now : InternerView) (lines : List Text) (before : List ℕ) (after : Vec ℕ A) (left : Option (List ℕ)) (error : RunError) → IfSome null IsBytes → before ≡ [] → StopsEncoding only (null_text null) old lines before now after left error → RowsStop only null old now lines after.items left error
stream_stop only null old now lines before after left error word none stops = elim stops.4 [
  | inl w ↦ subst (RowsStop only null old now lines after.items left) (sym w.1) (rows_line_stop only null old now lines stops.0 stops.1 before after left w.0 word stops.3 stops.2 none w.2)
  | inr w ↦ rows_stop only null old now lines stops.0 stops.1 before after.items left error word stops.3 stops.2 none w.0 w.1 w.2
]

-- in a new interner
stop_fails : (only : Bool) (null : Option Text) (old now : InternerView) (lines : List Text) (entries : List ℕ) (limit : ℕ) (left : Option (List ℕ)) (error : RunError) → old ≡ made_with 4096 limit → RowsStop only null old now lines entries left error → EncodingError only limit null lines left error
stop_fails only null old now lines entries limit left (Line error) made stop =
    let list = subst (λ (i : InternerView). extend spur_at i (line_texts (texts_of null (take stop.0 lines))) accepted now) made stop.1.list in
    (stop.0, inr (stop.1.let_in, (now, list, stop.2), stop.3))
stop_fails only null old now lines entries limit left TooManyLines made stop = absurd stop
stop_fails only null old now lines entries limit left ReadFailed made stop =
    let list = subst (λ (i : InternerView). extend spur_at i (line_texts (texts_of null (take stop.0 lines))) accepted now) made stop.1.list in
    (stop.0, stop.1.let_in, (now, list), stop.3)
stop_fails only null old now lines entries limit left WriteFailed made stop = absurd stop
stop_fails only null old now lines entries limit left ReaderGone made stop = absurd stop
stop_fails only null old now lines entries limit left (Column column error) made stop = absurd stop

-- why the lines of a stream were not encoded
pub stream_fails : {A : Type 0} (only : Bool) (null : Option Text) (old now : InternerView) (lines : List Text) (before : List ℕ) (after : Vec ℕ A) (limit : ℕ) (left : Option (List ℕ)) (error : RunError) → IfSome null IsBytes → before ≡ [] → old ≡ made_with 4096 limit → StopsEncoding only (null_text null) old lines before now after left error → EncodingError only limit null lines left error
stream_fails only null old now lines before after limit left error word none made stops =
    stop_fails only null old now lines after.items limit left error made (stream_stop only null old now lines before after left error word none stops)

-- ---- counts

pub texts_none : (lines : List Text) → texts_of None lines ≡ lines
texts_none [] = refl
texts_none (l ∷ ls) = ap (λ (ts : List Text). l ∷ ts) (texts_none ls)

pub entries_codes : (list lines : List Text) (entries : List ℕ) → AreEntries None list lines entries → AreCodes list (line_texts lines) entries
entries_codes list [] [] are = refl
entries_codes list [] (n ∷ ns) are = absurd are
entries_codes list (l ∷ ls) [] are = absurd are
entries_codes list (l ∷ ls) (n ∷ ns) are =
    let here : position_of list (text_of l) ≡ Some n = are.0.0 in
    let others : map (position_of list) (line_texts ls) ≡ map Some ns = entries_codes list ls ns are.1 in
    cc

-- ---- results of the library

-- a stream of the library stopped so
pub library_line : {A : Type 0} (only : Bool) (null : Option Text) (old now : InternerView) (lines first rest : List Text) (before : List ℕ) (after : Vec ℕ A) (left : Option (List ℕ)) (fault : LineError) → lines ≡ first ++ rest → All IsBytes first → StopsAtRow null old (texts_by (OfBytes only) first) before now after fault → StopsEncoding only null old lines before now after left (Line fault)
library_line only null old now lines first rest before after left fault split bytes stops = (first, rest, split, bytes, inl (fault, refl, stops))

-- an error that is told as a failed read is not out of memory
told_read : (failed : Error) (number : ℕ) (error : RunError) → (error_kind failed ≡ OutOfMemory → error ≡ Line (Refused number FailedAllocation)) → error ≡ ReadFailed → error_kind failed ≡ OutOfMemory → ⊥
told_read failed number error memory is full = let no : Line (Refused number FailedAllocation) ≡ ReadFailed = sym (memory full) ∙ is in cc

pub library_read : {A : Type 0} (only : Bool) (null : Option Text) (old now : InternerView) (lines first rest : List Text) (before : List ℕ) (after : Vec ℕ A) (left : Option (List ℕ)) (number : ℕ) (failed : Error) (error : RunError) → lines ≡ first ++ rest → All IsBytes first → EncodesRows null old (texts_by (OfBytes only) first) [] before now after.items → AreUnreadBy (OfBytes only) failed left rest → number ≡ length after.items + 1 → IsReadError number error → (error_kind failed ≡ OutOfMemory → error ≡ Line (Refused number FailedAllocation)) → StopsEncoding only null old lines before now after left error
library_read only null old now lines first rest before after left number failed error split bytes rows unread at is memory =
    let left_out : error ≡ ReadFailed → AreUnread left rest = λ told. elim unread [
      | inl full ↦ absurd (told_read failed number error memory told full)
      | inr all ↦ all
    ] in
    (first, rest, split, bytes, inr (rows, subst (λ n. IsReadError n error) at is, left_out))
