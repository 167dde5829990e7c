-- Lines that become texts.
--
-- A text has no line feed, as its line has none and digits are none. So bytes that are made of texts, each with a line
-- feed, have these texts as lines. ASCII bytes have only lines that are their own texts.
use Rattle.std.proofs.Common.{ℕ, zero, suc, ◌≡◌, ◌+◌, ◌<◌, inl, inr, Bool, true, false, cond, List, [], ◌∷◌, ◌++◌, map, take, drop, length, Option, Some, Result, Ok, Err, refl, sym, ap, subst, ◌∙◌, arith, append_assoc, append-nil}
use Rattle.std.specs.Prelude.{All, IfErr, ◌/◌, ◌%◌, ◌≤◌, slice_index, set, Vec}
use Rattle.std.specs.List.{onto_first, starts_with}
use Rattle.std.specs.Prelude.{◌&&◌, nat_eq}
use Rattle.std.specs.IoError.{error_kind}
use Rattle.std.specs.declared.io.Error.{Error}
use Rattle.std.specs.declared.io.ErrorKind.TheVariants.{OutOfMemory}
use Rattle.std.specs.Str.{IsAscii}
use Rattle.std.proofs.lemmas.Bool.{cases_Bool}
use Rattle.std.proofs.lemmas.Bool.Decides.{nat_tests}
use Rattle.std.proofs.Common.{get_or}
use Rattle.std.proofs.Math.Seq.{drop-cons, take-suc}
use Rattle.std.proofs.lemmas.Grind.{flat_map-append}
use Rattle.std.proofs.lemmas.List.{drop-set-lt, length-set, map-append, take-append-drop, take_all, take_more_set}
use Rattle.std.proofs.lemmas.List.Elements.{All-append, All-cons, All-head, All-nil, All-tail}
use Rattle.std.proofs.lemmas.Str.{IsUtf8-from_ascii}
use Rattle.std.proofs.lemmas.Str.Ascii.{IsAscii-cons, IsAscii-nil}
use Rattle.hex.specs.Hex.{IsBytes, encode_lower, encode_with, lower_digits}
use Rattle.lasso_parts.specs.Texts.{Text}
use Rattle.lasso_single.specs.Interner.{InternerView}
use Rattle.lasso_input.specs.Lines.{lines_of, is_line_feed, NoFeed}
use Rattle.lasso_input.specs.Texts.{escaped, is_let_in, is_marked, is_own_text, mark, text_of}
use Rattle.lasso_input.proofs.FirstLines.{lines_cut, no_feed_both}
use Rattle.lasso_input.proofs.LettingIn.{own_let_in}
use Rattle.lasso_input.proofs.LineTexts.{other_is_escaped, own_by_parts, own_is_text}
use Rattle.lasso_columns.specs.Rows.{EncodesRows}
use Rattle.lasso_columns.specs.Streams.{AreBytesBy, AreUnreadBy, BecomeTexts, Follow, FollowBy, ReadsBlocks, ReadsTexts, StopsInStream, StopsInStreamBy, lines_in}
use Rattle.lasso_columns.specs.Texts.{text_by, texts_by}
use Rattle.lasso_columns.specs.declared.line_texts.LineTexts.{LineTexts}
use Rattle.lasso_columns.specs.declared.line_texts.LineTexts.TheVariants.{Own, OfBytes}
use Rattle.lasso_columns.specs.declared.stream.StreamError.{StreamError}
use Rattle.lasso_columns.specs.declared.stream.StreamError.TheVariants.{Line, Read}
use Rattle.lasso_columns.proofs.EncodedRows.{rows_wider}

-- ---- lines have no line feeds

abbrev pub AreFree : List (List ℕ) → Type 0
AreFree [] = Unit {0}
AreFree (l ∷ ls) = NoFeed l × AreFree ls

onto_free : (b : ℕ) (lines : List (List ℕ)) → is_line_feed b ≡ false → AreFree lines → AreFree (onto_first b lines)
onto_free b [] other free = ((other, tt), tt)
onto_free b (l ∷ ls) other free = ((other, free.0), free.1)

free_by : (c : Bool) (b : ℕ) (lines : List (List ℕ)) → is_line_feed b ≡ c → AreFree lines → AreFree (cond c ([] ∷ lines) (onto_first b lines))
free_by true b lines is free = (tt, free)
free_by false b lines is free = onto_free b lines is free

pub lines_free : (bytes : List ℕ) → AreFree (lines_of bytes)
lines_free [] = tt
lines_free (b ∷ bytes) = free_by (is_line_feed b) b (lines_of bytes) refl (lines_free bytes)

pub first_free : (bytes line : List ℕ) (lines : List (List ℕ)) → lines_of bytes ≡ line ∷ lines → NoFeed line
first_free bytes line lines is = let free : AreFree (line ∷ lines) = subst AreFree is (lines_free bytes) in free.0

-- ---- texts have none

digit_free : (table : List ℕ) (i : ℕ) → NoFeed table → is_line_feed (slice_index table i) ≡ false
digit_free [] i free = refl
digit_free (d ∷ table) zero free = free.0
digit_free (d ∷ table) (suc i) free = digit_free table i free.1

digits_free : (table bytes : List ℕ) → NoFeed table → NoFeed (encode_with table bytes)
unfolding encode_with
digits_free table [] free = tt
digits_free table (b ∷ bytes) free = (digit_free table (b / 16) free, (digit_free table (b % 16) free, digits_free table bytes free))

lower_free : NoFeed lower_digits
lower_free = (refl, (refl, (refl, (refl, (refl, (refl, (refl, (refl, (refl, (refl, (refl, (refl, (refl, (refl, (refl, (refl, tt))))))))))))))))

mark_free : NoFeed mark
mark_free = (refl, (refl, (refl, (refl, tt))))

escaped_free : (line : List ℕ) → NoFeed (escaped line)
unfolding escaped
escaped_free line = no_feed_both mark (encode_lower line) mark_free (digits_free lower_digits line lower_free)

text_free : (line : List ℕ) → NoFeed line → NoFeed (text_of line)
text_free line free = elim (cases_Bool (is_own_text line)) [
  | inl own ↦ subst NoFeed (sym (own_is_text line own)) free
  | inr other ↦ subst NoFeed (sym (other_is_escaped line other)) (escaped_free line)
]

free_cond : (c : Bool) (line : List ℕ) → NoFeed line → NoFeed (cond c (text_of line) line)
free_cond true line free = text_free line free
free_cond false line free = free

pub text_by_free : (only : Bool) (line : List ℕ) → NoFeed line → NoFeed (text_by only line)
text_by_free only line free = free_cond (is_let_in only line) line free

-- ---- texts of own lines

pub own_text_by : (only : Bool) (line : List ℕ) → is_own_text line ≡ true → text_by only line ≡ line
own_text_by only line own = ap (λ c. cond c (text_of line) line) (own_let_in only line own) ∙ own_is_text line own

-- a line that is not let in stays as it is
pub refused_text : (only : Bool) (line : List ℕ) → is_let_in only line ≡ false → text_by only line ≡ line
refused_text only line out = ap (λ c. cond c (text_of line) line) out

pub other_text : (only : Bool) (line : List ℕ) → is_let_in only line ≡ true → text_by only line ≡ text_of line
other_text only line let_in = ap (λ c. cond c (text_of line) line) let_in

-- ---- bytes that are made of texts

-- the bytes have the texts of the lines before the rest
pub record TextsSoFar (only : Bool) (bytes rest texts : List ℕ) : Type 0 where
  pub done : List (List ℕ)
  pub split : lines_of bytes ≡ done ++ lines_of rest
  pub made : (later : List ℕ) → lines_of (texts ++ later) ≡ map (text_by only) done ++ lines_of later

pub texts_begin : (only : Bool) (bytes rest texts : List ℕ) → rest ≡ bytes → texts ≡ [] → TextsSoFar only bytes rest texts
texts_begin only bytes rest texts same none = record {
  done = [];
  split = ap lines_of (sym same);
  made = λ later. ap (λ (bs : List ℕ). lines_of (bs ++ later)) none;
}

pub texts_push : (only : Bool) (bytes rest texts line left with_text grown : List ℕ) → TextsSoFar only bytes rest texts → lines_of rest ≡ line ∷ lines_of left → with_text ≡ texts ++ text_by only line → grown ≡ with_text ++ 10 ∷ [] → TextsSoFar only bytes left grown
texts_push only bytes rest texts line left with_text grown so_far next text feed = record {
  done = so_far.done ++ line ∷ [];
  split = so_far.split ∙ ap (λ (ls : List (List ℕ)). so_far.done ++ ls) next ∙ sym (append_assoc so_far.done (line ∷ []) (lines_of left));
  made = λ later.
      let free = text_by_free only line (first_free rest line (lines_of left) next) in
      let t = text_by only line in
      let bytes_are : grown ++ later ≡ texts ++ (t ++ 10 ∷ later) =
      ap (λ (bs : List ℕ). bs ++ later) (feed ∙ ap (λ (bs : List ℕ). bs ++ 10 ∷ []) text) ∙ append_assoc (texts ++ t) (10 ∷ []) later ∙ append_assoc texts t (10 ∷ later) in
      ap lines_of bytes_are ∙ so_far.made (t ++ 10 ∷ later) ∙ ap (λ (ls : List (List ℕ)). map (text_by only) so_far.done ++ ls) (lines_cut t later free)
      ∙ sym (append_assoc (map (text_by only) so_far.done) (t ∷ []) (lines_of later)) ∙ ap (λ (ls : List (List ℕ)). ls ++ lines_of later) (sym (map-append (text_by only) so_far.done (line ∷ [])));
}

pub texts_end : (only : Bool) (bytes rest texts : List ℕ) → TextsSoFar only bytes rest texts → rest ≡ [] → lines_of texts ≡ map (text_by only) (lines_of bytes)
texts_end only bytes rest texts so_far none =
    let all : lines_of bytes ≡ so_far.done = so_far.split ∙ ap (λ (bs : List ℕ). so_far.done ++ lines_of bs) none ∙ append-nil so_far.done in
    ap lines_of (sym (append-nil texts)) ∙ so_far.made [] ∙ append-nil (map (text_by only) so_far.done) ∙ ap (map (text_by only)) (sym all)

-- ---- lines that are their own texts

-- the lines before the rest are
pub record OwnSoFar (bytes rest : List ℕ) : Type 0 where
  pub done : List (List ℕ)
  pub split : lines_of bytes ≡ done ++ lines_of rest
  pub own : (only : Bool) → map (text_by only) done ≡ done

pub own_begins : (bytes rest : List ℕ) → rest ≡ bytes → OwnSoFar bytes rest
own_begins bytes rest same = record { done = []; split = ap lines_of (sym same); own = λ only. refl }

pub own_push : (bytes rest line left : List ℕ) → OwnSoFar bytes rest → lines_of rest ≡ line ∷ lines_of left → is_own_text line ≡ true → OwnSoFar bytes left
own_push bytes rest line left so_far next own = record {
  done = so_far.done ++ line ∷ [];
  split = so_far.split ∙ ap (λ (ls : List (List ℕ)). so_far.done ++ ls) next ∙ sym (append_assoc so_far.done (line ∷ []) (lines_of left));
  own = λ only.
      map-append (text_by only) so_far.done (line ∷ []) ∙ ap (λ (ls : List (List ℕ)). ls ++ text_by only line ∷ []) (so_far.own only)
      ∙ ap (λ (l : List ℕ). so_far.done ++ l ∷ []) (own_text_by only line own);
}

pub own_ends : (bytes rest : List ℕ) (only : Bool) → OwnSoFar bytes rest → rest ≡ [] → map (text_by only) (lines_of bytes) ≡ lines_of bytes
own_ends bytes rest only so_far none =
    let all : lines_of bytes ≡ so_far.done = so_far.split ∙ ap (λ (bs : List ℕ). so_far.done ++ lines_of bs) none ∙ append-nil so_far.done in
    ap (map (text_by only)) all ∙ so_far.own only ∙ sym all

-- ---- ASCII

AreAscii : List (List ℕ) → Type 0
AreAscii [] = Unit {0}
AreAscii (l ∷ ls) = IsAscii l × AreAscii ls

onto_ascii : (b : ℕ) (lines : List (List ℕ)) → b < 128 → AreAscii lines → AreAscii (onto_first b lines)
unfolding AreAscii
onto_ascii b [] low ascii = (IsAscii-cons b [] low IsAscii-nil, tt)
onto_ascii b (l ∷ ls) low ascii = (IsAscii-cons b l low ascii.0, ascii.1)

ascii_by : (c : Bool) (b : ℕ) (lines : List (List ℕ)) → b < 128 → AreAscii lines → AreAscii (cond c ([] ∷ lines) (onto_first b lines))
unfolding AreAscii
ascii_by true b lines low ascii = (IsAscii-nil, ascii)
ascii_by false b lines low ascii = onto_ascii b lines low ascii

ascii_lines : (bytes : List ℕ) → IsAscii bytes → AreAscii (lines_of bytes)
unfolding AreAscii
ascii_lines [] ascii = tt
ascii_lines (b ∷ bytes) ascii = ascii_by (is_line_feed b) b (lines_of bytes) (ascii 0) (ascii_lines bytes (λ i. ascii (suc i)))

ascii_unmarked : (line : List ℕ) → IsAscii line → is_marked line ≡ false
unfolding is_marked
ascii_unmarked [] ascii = refl
ascii_unmarked (b ∷ line) ascii = ap (λ t. t && starts_with nat_eq line (143 ∷ 191 ∷ 191 ∷ [])) (low_other b (ascii 0))
  where
    low_other : (b : ℕ) → b < 128 → nat_eq 244 b ≡ false
    low_other b low = grind (arith, nat_tests)

own_lines : (only : Bool) (lines : List (List ℕ)) → AreAscii lines → map (text_by only) lines ≡ lines
unfolding AreAscii
own_lines only [] ascii = refl
own_lines only (l ∷ ls) ascii =
    let own : is_own_text l ≡ true = own_by_parts l (IsUtf8-from_ascii l ascii.0) (ascii_unmarked l ascii.0) in
    ap (λ (t : List ℕ). t ∷ map (text_by only) ls) (own_text_by only l own) ∙ ap (λ (ts : List (List ℕ)). l ∷ ts) (own_lines only ls ascii.1)

-- ASCII lines are their own texts
pub ascii_own : (bytes : List ℕ) (only : Bool) → IsAscii bytes → map (text_by only) (lines_of bytes) ≡ lines_of bytes
ascii_own bytes only ascii = own_lines only (lines_of bytes) (ascii_lines bytes ascii)

-- ---- bytes

bytes_nil : IsBytes []
bytes_nil i = omega arith

bytes_cons : (b : ℕ) (bytes : List ℕ) → b < 256 → IsBytes bytes → IsBytes (b ∷ bytes)
bytes_cons b bytes low all zero = low
bytes_cons b bytes low all (suc i) = all i

onto_bytes : (b : ℕ) (lines : List (List ℕ)) → b < 256 → All IsBytes lines → All IsBytes (onto_first b lines)
onto_bytes b [] low all = All-cons IsBytes (b ∷ []) [] (bytes_cons b [] low bytes_nil) (All-nil IsBytes)
onto_bytes b (l ∷ ls) low all = All-cons IsBytes (b ∷ l) ls (bytes_cons b l low (All-head IsBytes l ls all)) (All-tail IsBytes l ls all)

bytes_by : (c : Bool) (b : ℕ) (lines : List (List ℕ)) → b < 256 → All IsBytes lines → All IsBytes (cond c ([] ∷ lines) (onto_first b lines))
bytes_by true b lines low all = All-cons IsBytes [] lines bytes_nil all
bytes_by false b lines low all = onto_bytes b lines low all

-- lines of bytes are lists of bytes
pub lines_bytes : (bytes : List ℕ) → IsBytes bytes → All IsBytes (lines_of bytes)
lines_bytes [] all = All-nil IsBytes
lines_bytes (b ∷ bytes) all = bytes_by (is_line_feed b) b (lines_of bytes) (all 0) (lines_bytes bytes (λ i. all (suc i)))

-- ---- blocks

-- the texts of two lists of lines
pub texts_both : (by : LineTexts) (front back : List (List ℕ)) → texts_by by (front ++ back) ≡ texts_by by front ++ texts_by by back
texts_both Own front back = refl
texts_both (OfBytes only) front back = map-append (text_by only) front back

pub texts_none : (by : LineTexts) → texts_by by [] ≡ []
texts_none Own = refl
texts_none (OfBytes only) = refl

-- what follows the blocks that were read follows their texts
follow_own : (more : Result Bool Error) (left : Option (List ℕ)) (lines : List (List ℕ)) → Follow more left lines → FollowBy Own more left lines
follow_own (Ok true) left lines follow = follow
follow_own (Ok false) left lines follow = follow
follow_own (Err error) left lines follow = follow

follow_bytes : (only : Bool) (more : Result Bool Error) (left : Option (List ℕ)) (lines : List (List ℕ)) → Follow more left lines → FollowBy (OfBytes only) more left lines
follow_bytes only (Ok true) left lines follow = follow
follow_bytes only (Ok false) left lines follow = follow
follow_bytes only (Err error) left lines follow = inr follow

follow_lost : (only : Bool) (more : Result Bool Error) (error : Error) (left : Option (List ℕ)) (lines : List (List ℕ)) → more ≡ Err error → error_kind error ≡ OutOfMemory → FollowBy (OfBytes only) more left lines
follow_lost only more error left lines is full = subst (λ m. FollowBy (OfBytes only) m left lines) (sym is) (inl full)

-- lists of lines of bytes, one after the other
pub bytes_both : (by : LineTexts) (front back : List (List ℕ)) → AreBytesBy by front → AreBytesBy by back → AreBytesBy by (front ++ back)
bytes_both Own front back all all' = tt
bytes_both (OfBytes only) front back all all' = All-append IsBytes front back all all'

pub bytes_none : (by : LineTexts) → AreBytesBy by []
bytes_none Own = tt
bytes_none (OfBytes only) = All-nil IsBytes

-- blocks were read, and became blocks of texts
pub blocks_become : {A : Type 0} (by : LineTexts) (before after : Option (List ℕ)) (blocks texts : List (Vec ℕ A)) (more more' : Result Bool Error) → ReadsBlocks before after blocks more → BecomeTexts by blocks more texts more' → ReadsTexts by before after texts more'
blocks_become Own before after blocks texts more more' read become bytes known =
    let lines = read bytes known in
    (lines_in blocks, lines.0, lines.1, become.0, become.1, subst (λ m. FollowBy Own m after lines.0) (sym become.2) (follow_own more after lines.0 lines.2))
blocks_become (OfBytes only) before after blocks texts more more' read become bytes known =
    let lines = read bytes known in
    elim become [
      | inl whole ↦ (lines_in blocks, lines.0, lines.1, whole.0, whole.1, subst (λ m. FollowBy (OfBytes only) m after lines.0) (sym whole.2) (follow_bytes only more after lines.0 lines.2))
      | inr lost ↦ (
        lost.0,
        lost.1 ++ lines.0,
        lines.1 ∙ ap (λ (ls : List (List ℕ)). ls ++ lines.0) lost.2 ∙ append_assoc lost.0 lost.1 lines.0,
        lost.3,
        lost.4,
        follow_lost only more' lost.5.0 after (lost.1 ++ lines.0) lost.5.1 lost.5.2,
      )
    ]

-- the lines that follow were not read as a whole, unless there was no memory for their texts
pub unread_by : (by : LineTexts) (more : Result Bool Error) (left : Option (List ℕ)) (lines : List (List ℕ)) (error : Error) → FollowBy by more left lines → IfErr more (λ failed. error ≡ failed) → AreUnreadBy by error left lines
unread_by Own (Ok true) left lines error follow same = ([], follow.0, follow.1, tt, follow.2)
unread_by Own (Ok false) left lines error follow same = ([], [], follow.0, tt, follow.1)
unread_by Own (Err failed) left lines error follow same = follow
unread_by (OfBytes only) (Ok true) left lines error follow same = inr ([], follow.0, follow.1, tt, follow.2)
unread_by (OfBytes only) (Ok false) left lines error follow same = inr ([], [], follow.0, tt, follow.1)
unread_by (OfBytes only) (Err failed) left lines error follow same = subst (λ e. AreUnreadBy (OfBytes only) e left lines) (sym same) follow

-- no line was read
pub unread_all : (by : LineTexts) (error : Error) (left : Option (List ℕ)) (bytes : List ℕ) → left ≡ Some bytes → AreUnreadBy by error left (lines_of bytes)
unread_all Own error left bytes known = ([], bytes, known, tt, refl)
unread_all (OfBytes only) error left bytes known = inr ([], bytes, known, tt, refl)

-- ---- blocks, one after another

-- the blocks before the index have the texts of their lines, and the others are as they were
pub record BlocksSoFar {A : Type 0} (only : Bool) (blocks now : List (Vec ℕ A)) (i : ℕ) : Type 0 where
  pub same_len : length now ≡ length blocks
  pub made : lines_in (take i now) ≡ map (text_by only) (lines_in (take i blocks))
  pub kept : drop i now ≡ drop i blocks
  pub are_bytes : All IsBytes (lines_in (take i blocks))

pub blocks_begin : {A : Type 0} (only : Bool) (blocks now : List (Vec ℕ A)) → now ≡ blocks → BlocksSoFar only blocks now 0
blocks_begin only blocks now same = record { same_len = ap length same; made = refl; kept = same; are_bytes = All-nil IsBytes }

module _ {A : Type 0} (only : Bool) (blocks now : List (Vec ℕ A)) (i : ℕ) (b : Vec ℕ A) (inside : i < length now) (here : get_or now i b ≡ b) (block_bytes : IsBytes b.items) (so_far : BlocksSoFar only blocks now i) where
  within : i < length blocks
  within = omega (arith, inside, so_far.same_len)

  parts : b ∷ drop (suc i) now ≡ get_or blocks i b ∷ drop (suc i) blocks
  parts = ap (λ x. x ∷ drop (suc i) now) (sym here) ∙ sym (drop-cons now i b inside) ∙ so_far.kept ∙ drop-cons blocks i b within

  same_block : get_or blocks i b ≡ b
  same_block = cc (parts)

  same_rest : drop (i + 1) now ≡ drop (i + 1) blocks
  same_rest =
      let rest : drop (suc i) now ≡ drop (suc i) blocks = cc (parts) in
      let next : i + 1 ≡ suc i = omega arith in
      ap (λ n. drop n now) next ∙ rest ∙ ap (λ n. drop n blocks) (sym next)

  first_lines : lines_in (take (i + 1) blocks) ≡ lines_in (take i blocks) ++ lines_of b.items
  first_lines =
      let next : i + 1 ≡ suc i = omega arith in
      ap (λ n. lines_in (take n blocks)) next ∙ ap lines_in (take-suc blocks i b within ∙ ap (λ x. take i blocks ++ x ∷ []) same_block)
      ∙ flat_map-append (λ x. lines_of x.items) (take i blocks) (b ∷ []) ∙ ap (λ (ls : List Text). lines_in (take i blocks) ++ ls) (append-nil (lines_of b.items))

  all_lines : map (text_by only) (lines_in (take (i + 1) blocks)) ≡ map (text_by only) (lines_in (take i blocks)) ++ map (text_by only) (lines_of b.items)
  all_lines = ap (map (text_by only)) first_lines ∙ map-append (text_by only) (lines_in (take i blocks)) (lines_of b.items)

  step : (now' : List (Vec ℕ A)) (t : Vec ℕ A) → length now' ≡ length now → take (i + 1) now' ≡ take i now ++ t ∷ [] → drop (i + 1) now' ≡ drop (i + 1) now → lines_of t.items ≡ map (text_by only) (lines_of b.items) → BlocksSoFar only blocks now' (i + 1)
  step now' t long first rest texts = record {
    same_len = long ∙ so_far.same_len;
    made =
        ap lines_in first ∙ flat_map-append (λ x. lines_of x.items) (take i now) (t ∷ []) ∙ ap (λ (ls : List Text). lines_in (take i now) ++ ls) (append-nil (lines_of t.items))
        ∙ ap (λ (ls : List Text). lines_in (take i now) ++ ls) texts ∙ ap (λ (ls : List Text). ls ++ map (text_by only) (lines_of b.items)) so_far.made ∙ sym all_lines;
    kept = rest ∙ same_rest;
    are_bytes = subst (λ (ls : List (List ℕ)). All IsBytes ls) (sym first_lines) (All-append IsBytes (lines_in (take i blocks)) (lines_of b.items) so_far.are_bytes (lines_bytes b.items block_bytes));
  }

  -- a block of lines that are their own texts stays
  pub block_stays : map (text_by only) (lines_of b.items) ≡ lines_of b.items → BlocksSoFar only blocks now (i + 1)
  block_stays own =
      let next : i + 1 ≡ suc i = omega arith in
      step now b refl (ap (λ n. take n now) next ∙ take-suc now i b inside ∙ ap (λ x. take i now ++ x ∷ []) here) refl (sym own)

  -- another one becomes a block of texts
  pub block_becomes : (t : Vec ℕ A) → lines_of t.items ≡ map (text_by only) (lines_of b.items) → BlocksSoFar only blocks (set now i t) (i + 1)
  block_becomes t texts =
      let small : i < i + 1 = omega arith in
      step (set now i t) t (length-set now i t) (take_more_set now i t inside) (drop-set-lt (i + 1) now i t small) texts

-- all blocks have texts
pub blocks_end : {A : Type 0} (only : Bool) (by : LineTexts) (blocks now : List (Vec ℕ A)) (i : ℕ) (more : Result Bool Error) → by ≡ OfBytes only → BlocksSoFar only blocks now i → length now ≤ i → BecomeTexts by blocks more now more
blocks_end only by blocks now i more is so_far past =
    let all : take i blocks ≡ blocks = take_all i blocks (omega (arith, past, so_far.same_len)) in
    let whole : lines_in now ≡ map (text_by only) (lines_in blocks) = ap lines_in (sym (take_all i now past)) ∙ so_far.made ∙ ap (λ bs. map (text_by only) (lines_in bs)) all in
    let bytes = subst (λ bs. All IsBytes (lines_in bs)) all so_far.are_bytes in
    rw is (inl (whole, bytes, refl))

-- memory ran out at a block
pub blocks_lost : {A : Type 0} (only : Bool) (by : LineTexts) (blocks now left : List (Vec ℕ A)) (i : ℕ) (more : Result Bool Error) (error : Error) → by ≡ OfBytes only → BlocksSoFar only blocks now i → left ≡ take i now → error_kind error ≡ OutOfMemory → BecomeTexts by blocks more left (Err error)
blocks_lost only by blocks now left i more error is so_far left_is full =
    let split : lines_in blocks ≡ lines_in (take i blocks) ++ lines_in (drop i blocks) = ap lines_in (sym (take-append-drop i blocks)) ∙ flat_map-append (λ x. lines_of x.items) (take i blocks) (drop i blocks) in
    rw is (inr (lines_in (take i blocks), lines_in (drop i blocks), split, ap lines_in left_is ∙ so_far.made, so_far.are_bytes, (error, refl, full)))

-- ---- lines that are their own texts

-- a stream of them stopped so
pub stops_own : {A : Type 0} (null : Option Text) (old : InternerView) (lines : List Text) (before : List ℕ) (new : InternerView) (after : Vec ℕ A) (left : Option (List ℕ)) (error : StreamError) → StopsInStreamBy Own null old lines before new after left error → StopsInStream null old lines before new after left error
stops_own null old lines before new after left (Line error) stops =
    let rows = rows_wider null old new stops.0 (stops.4.0 ∷ stops.4.1) stops.1 before after.items stops.4.2 in
    (stops.4.0, stops.4.1 ++ stops.1, subst (λ (ls : List Text). EncodesRows null old ls (stops.4.0 ∷ (stops.4.1 ++ stops.1)) before new after.items) (sym stops.2) rows, stops.4.3)
stops_own null old lines before new after left (Read error) stops =
    let rows = rows_wider null old new stops.0 [] stops.1 before after.items stops.4.0 in
    (stops.1, subst (λ (ls : List Text). EncodesRows null old ls stops.1 before new after.items) (sym stops.2) rows, stops.4.1)

pub err_then : {X E : Type 0} {P Q : E → Type 0} (r : Result X E) → IfErr r P → ((e : E) → P e → Q e) → IfErr r Q
err_then (Ok x) p go = tt
err_then (Err e) p go = go e p
