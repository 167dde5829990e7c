-- The lines of bytes that are read block by block.
--
-- Each block ends with a line feed, or with the input. So the lines of the bytes are those of the block, and
-- then those of the bytes after it.
use Rattle.std.proofs.Common.{ℕ, ◌≡◌, ◌<◌, ◌==◌, inl, inr, Bool, true, false, cond, List, [], ◌∷◌, ◌++◌, take, drop, length, Option, Some, None, IfSome, Result, Ok, Err, refl, sym, ap, subst, ◌∙◌, arith, append_assoc, append-nil}
use Rattle.std.specs.Prelude.{if◌then◌else◌, Vec}
use Rattle.std.specs.List.{onto_first}
use Rattle.std.specs.Io.BufRead.{take_through, drop_through, DropsThrough}
use Rattle.std.specs.Io.KnownBytes.{Consumes, IsAtEnd, Keeps}
use Rattle.std.proofs.lemmas.Bool.Decides.{nat_tests}
use Rattle.std.proofs.lemmas.Grind.{flat_map-append}
use Rattle.std.proofs.lemmas.List.{take-append-drop}
use Rattle.lasso_parts.specs.Texts.{Text}
use Rattle.lasso_input.specs.Lines.{lines_of, is_line_feed, NoFeed}
use Rattle.lasso_columns.specs.Streams.{AreUnread, CutsLast, EndsLine, Follow, ReadsBlocks, ReadsLines, lines_in}

-- ---- where lines end

onto_join : (b : ℕ) (lines more : List Text) → 0 < length lines → onto_first b (lines ++ more) ≡ onto_first b lines ++ more
onto_join b [] more some = absurd (omega (arith, some))
onto_join b (l ∷ ls) more some = refl

onto_some : (b : ℕ) (lines : List Text) → 0 < length (onto_first b lines)
onto_some b [] = omega arith
onto_some b (l ∷ ls) = omega arith

lines_some_by : (c : Bool) (b : ℕ) (lines : List Text) → 0 < length (cond c ([] ∷ lines) (onto_first b lines))
lines_some_by true b lines = omega arith
lines_some_by false b lines = onto_some b lines

fed_some : (front : List ℕ) → 0 < length (lines_of (front ++ 10 ∷ []))
fed_some [] = lines_some_by (is_line_feed 10) 10 []
fed_some (b ∷ front) = lines_some_by (is_line_feed b) b (lines_of (front ++ 10 ∷ []))

join_by : (c : Bool) (b : ℕ) (lines all more : List Text) → all ≡ lines ++ more → 0 < length lines → cond c ([] ∷ all) (onto_first b all) ≡ cond c ([] ∷ lines) (onto_first b lines) ++ more
join_by true b lines all more is some = ap (λ (ls : List Text). [] ∷ ls) is
join_by false b lines all more is some = ap (onto_first b) is ∙ onto_join b lines more some

-- the lines up to a line feed, and those after it
pub fed_join : (front rest : List ℕ) → lines_of ((front ++ 10 ∷ []) ++ rest) ≡ lines_of (front ++ 10 ∷ []) ++ lines_of rest
fed_join [] rest = refl
fed_join (b ∷ front) rest = join_by (is_line_feed b) b (lines_of (front ++ 10 ∷ [])) (lines_of ((front ++ 10 ∷ []) ++ rest)) (lines_of rest) (fed_join front rest) (fed_some front)

pub ended_join : (block rest : List ℕ) → EndsLine block → lines_of (block ++ rest) ≡ lines_of block ++ lines_of rest
ended_join block rest (inl none) = ap (λ (bs : List ℕ). lines_of (bs ++ rest)) none ∙ ap (λ (bs : List ℕ). lines_of bs ++ lines_of rest) (sym none)
ended_join block rest (inr fed) =
    ap (λ (bs : List ℕ). lines_of (bs ++ rest)) fed.1 ∙ fed_join fed.0 rest ∙ ap (λ (bs : List ℕ). lines_of bs ++ lines_of rest) (sym fed.1)

-- ---- up to the end of a line

through_by : (c : Bool) (front : List ℕ) (x : ℕ) (xs through left : List ℕ) → (c ≡ true → x ≡ 10) → lines_of ((front ++ x ∷ []) ++ xs) ≡ lines_of ((front ++ x ∷ []) ++ through) ++ lines_of left → lines_of (front ++ x ∷ xs) ≡ lines_of (front ++ (if c then x ∷ [] else x ∷ through)) ++ lines_of (if c then xs else left)
through_by true front x xs through left feed others =
    let is : x ≡ 10 = feed refl in
    ap (λ b. lines_of (front ++ b ∷ xs)) is ∙ ap lines_of (sym (append_assoc front (10 ∷ []) xs)) ∙ fed_join front xs ∙ ap (λ b. lines_of (front ++ b ∷ []) ++ lines_of xs) (sym is)
through_by false front x xs through left feed others =
    ap lines_of (sym (append_assoc front (x ∷ []) xs)) ∙ others ∙ ap (λ (bs : List ℕ). lines_of bs ++ lines_of left) (append_assoc front (x ∷ []) through)

is_feed : (x : ℕ) → (x == 10) ≡ true → x ≡ 10
is_feed x e = grind (arith, nat_tests)

-- the lines of bytes that are taken up to the end of a line, and those of the others
pub through_join : (front xs : List ℕ) → lines_of (front ++ xs) ≡ lines_of (front ++ take_through 10 xs) ++ lines_of (drop_through 10 xs)
through_join front [] = sym (append-nil (lines_of (front ++ [])))
through_join front (x ∷ xs) = through_by (x == 10) front x xs (take_through 10 xs) (drop_through 10 xs) (is_feed x) (through_join (front ++ x ∷ []) xs)

-- ---- known bytes

-- bytes that were taken from known ones
pub taken_known : (before after : Option (List ℕ)) (taken bytes : List ℕ) → Consumes before after taken → before ≡ Some bytes → (rest : List ℕ) × (after ≡ Some rest) × (bytes ≡ taken ++ rest)
taken_known None after taken bytes consumed e = absurd (cc)
taken_known (Some known) None taken bytes consumed e = absurd consumed
taken_known (Some known) (Some rest) taken bytes consumed e = let same : known ≡ bytes = cc in (rest, refl, sym same ∙ consumed)

consumed_none : (known : Option (List ℕ)) → Consumes known known []
consumed_none None = tt
consumed_none (Some bytes) = refl

-- nothing was taken yet
pub consumed_begins : (known : Option (List ℕ)) (taken : List ℕ) → taken ≡ [] → Consumes known known taken
consumed_begins known taken none = subst (Consumes known known) (sym none) (consumed_none known)

-- more bytes were taken
pub consumed_more : (before mid after : Option (List ℕ)) (taken more grown : List ℕ) → Consumes before mid taken → Consumes mid after more → grown ≡ taken ++ more → Consumes before after grown
consumed_more None mid after taken more grown first second is = tt
consumed_more (Some bytes) None after taken more grown first second is = absurd first
consumed_more (Some bytes) (Some left) None taken more grown first second is = absurd second
consumed_more (Some bytes) (Some left) (Some rest) taken more grown first second is =
    first ∙ ap (λ (bs : List ℕ). taken ++ bs) second ∙ sym (append_assoc taken more rest) ∙ ap (λ (bs : List ℕ). bs ++ rest) (sym is)

-- nothing more was taken
pub consumed_kept : (before mid after : Option (List ℕ)) (taken : List ℕ) → Consumes before mid taken → Keeps mid after → Consumes before after taken
consumed_kept None mid after taken first kept = tt
consumed_kept (Some bytes) None after taken first kept = absurd first
consumed_kept (Some bytes) (Some left) None taken first kept = absurd kept
consumed_kept (Some bytes) (Some left) (Some rest) taken first kept = first ∙ ap (λ (bs : List ℕ). taken ++ bs) (sym kept)

-- ---- one block

-- all bytes were read
pub lines_read_all : (E : Type 0) (before after : Option (List ℕ)) (block : List ℕ) → Consumes before after block → IsAtEnd after → ReadsLines {E = E} before after [] block (Ok false)
lines_read_all E before after block consumed end bytes e =
    let is = taken_known before after block bytes consumed e in
    let none : is.0 ≡ [] = nothing_left after is.0 is.1 end in
    ([], ap lines_of (is.2 ∙ ap (λ (bs : List ℕ). block ++ bs) none ∙ append-nil block) ∙ sym (append-nil (lines_of block)), (is.1 ∙ ap (λ (bs : List ℕ). Some bs) none, refl))
  where
    nothing_left : (after : Option (List ℕ)) (rest : List ℕ) → after ≡ Some rest → IsAtEnd after → rest ≡ []
    nothing_left None rest e end = absurd (cc)
    nothing_left (Some bytes) rest e end = let same : bytes ≡ rest = cc in sym same ∙ end

-- bytes were taken, and then the rest of a line
pub lines_read_on : {E : Type 0} (before mid after : Option (List ℕ)) (front block : List ℕ) (more : Result Bool E) → Consumes before mid front → ReadsLines mid after front block more → ReadsLines before after [] block more
lines_read_on before mid after front block more consumed told bytes e =
    let is = taken_known before mid front bytes consumed e in
    let rest = told is.0 is.1 in
    (rest.0, ap lines_of is.2 ∙ rest.1, rest.2)

-- a read failed after bytes were taken, and the block was cut: what was removed has no line feed
pub lines_unread : {E : Type 0} (before after : Option (List ℕ)) (front taken whole block : List ℕ) (error : E) → Consumes before after taken → whole ≡ front ++ taken → CutsLast whole block → ReadsLines before after front block (Err error)
lines_unread before after front taken whole block error consumed is cut bytes e =
    let left = taken_known before after taken bytes consumed e in
    let begun = cut.0 in
    let rest = left.0 in (
      lines_of (begun ++ rest),
      ap (λ (bs : List ℕ). lines_of (front ++ bs)) left.2 ∙ ap lines_of (sym (append_assoc front taken rest)) ∙ ap (λ (bs : List ℕ). lines_of (bs ++ rest)) (sym is ∙ cut.1)
          ∙ ap lines_of (append_assoc block begun rest) ∙ ended_join block (begun ++ rest) cut.3,
      (begun, rest, left.1, cut.2, refl),
    )

known_some : (P : List ℕ → Type 0) (known : Option (List ℕ)) (bytes : List ℕ) → known ≡ Some bytes → IfSome known P → P bytes
known_some P None bytes e holds = absurd (cc)
known_some P (Some xs) bytes e holds = let same : xs ≡ bytes = cc in subst P same holds

-- the rest of a line was read
pub line_read : (E : Type 0) (before after : Option (List ℕ)) (front block : List ℕ) → IfSome before (λ xs. block ≡ front ++ take_through 10 xs) → DropsThrough before after 10 → ReadsLines {E = E} before after front block (Ok true)
line_read E before after front block taken left bytes e =
    let grown : block ≡ front ++ take_through 10 bytes = known_some (λ xs. block ≡ front ++ take_through 10 xs) before bytes e taken in
    let rest : after ≡ Some (drop_through 10 bytes) = known_some (λ xs. after ≡ Some (drop_through 10 xs)) before bytes e left in
    (lines_of (drop_through 10 bytes), through_join front bytes ∙ ap (λ (bs : List ℕ). lines_of bs ++ lines_of (drop_through 10 bytes)) (sym grown), (drop_through 10 bytes, rest, refl))

-- bytes are cut after the last line feed
pub cut_ended : (bytes : List ℕ) (count : ℕ) → EndsLine (take count bytes) → NoFeed (drop count bytes) → CutsLast bytes (take count bytes)
cut_ended bytes count ended begun = (drop count bytes, sym (take-append-drop count bytes), begun, ended)

-- ---- blocks one after another

-- the blocks so far
abbrev pub ReadSoFar : {A : Type 0} → Option (List ℕ) → Option (List ℕ) → List (Vec ℕ A) → Type 0
ReadSoFar before after blocks = (bytes : List ℕ) → before ≡ Some bytes → (rest : List ℕ) × (after ≡ Some rest) × (lines_of bytes ≡ lines_in blocks ++ lines_of rest)

pub reading_begins : {A : Type 0} (known : Option (List ℕ)) (blocks : List (Vec ℕ A)) → blocks ≡ [] → ReadSoFar known known blocks
reading_begins known blocks none bytes e = (bytes, e, ap (λ bs. lines_in bs ++ lines_of bytes) (sym none))

-- all that were asked for
pub reading_ends : {A : Type 0} (E : Type 0) (before after : Option (List ℕ)) (blocks : List (Vec ℕ A)) → ReadSoFar before after blocks → ReadsBlocks {E = E} before after blocks (Ok true)
reading_ends E before after blocks so_far bytes e = let is = so_far bytes e in (lines_of is.0, is.2, (is.0, is.1, refl))

-- one block more, after which any may follow
pub block_read : {A E : Type 0} (before mid after : Option (List ℕ)) (blocks grown : List (Vec ℕ A)) (block : Vec ℕ A) (more : Result Bool E) → ReadSoFar before mid blocks → ReadsLines mid after [] block.items more → grown ≡ blocks ++ block ∷ [] → ReadsBlocks before after grown more
block_read before mid after blocks grown block more so_far told is bytes e =
    let was = so_far bytes e in
    let one = told was.0 was.1 in
    let lines : lines_in grown ≡ lines_in blocks ++ lines_of block.items =
    ap lines_in is ∙ flat_map-append (λ b. lines_of b.items) blocks (block ∷ []) ∙ ap (λ (ls : List Text). lines_in blocks ++ ls) (append-nil (lines_of block.items)) in
    (one.0, was.2 ∙ ap (λ (ls : List Text). lines_in blocks ++ ls) one.1 ∙ sym (append_assoc (lines_in blocks) (lines_of block.items) one.0) ∙ ap (λ (ls : List Text). ls ++ one.0) (sym lines), one.2)

-- and the input goes on
pub reading_goes_on : {A E : Type 0} (before after : Option (List ℕ)) (blocks : List (Vec ℕ A)) (more : Result Bool E) → ReadsBlocks before after blocks more → more ≡ Ok true → ReadSoFar before after blocks
reading_goes_on before after blocks more told is bytes e =
    let lines = told bytes e in
    let left = subst (λ m. Follow m after lines.0) is lines.2 in
    (left.0, left.1, lines.1 ∙ ap (λ (ls : List Text). lines_in blocks ++ ls) left.2)

-- there was no memory for the next block
pub reading_stops : {A E : Type 0} (before after : Option (List ℕ)) (blocks : List (Vec ℕ A)) (error : E) → ReadSoFar before after blocks → ReadsBlocks before after blocks (Err error)
reading_stops before after blocks error so_far bytes e = let is = so_far bytes e in (lines_of is.0, is.2, ([], is.0, is.1, tt, refl))

-- the lines that follow were not read as a whole
pub follow_unread : {E : Type 0} (more : Result Bool E) (left : Option (List ℕ)) (lines : List Text) → Follow more left lines → AreUnread left lines
follow_unread (Ok true) left lines follow = ([], follow.0, follow.1, tt, follow.2)
follow_unread (Ok false) left lines follow = ([], [], follow.0, tt, follow.1)
follow_unread (Err error) left lines follow = follow
