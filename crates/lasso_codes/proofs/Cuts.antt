-- Bytes that end within what is read, and reads that fail.
--
-- What was read of bytes is a first part of them, and the rest follows it. Of any bytes that begin with this part the same
-- is read, and those after it are left. So if a read fails, what came before it is read alike of the bytes up to there:
-- the run ends as if the input had ended at that point.
use Rattle.std.proofs.Common.{ℕ, zero, suc, ◌≡◌, ◌+◌, ◌-◌, ◌<◌, ◌==◌, ◌⊎◌, inl, inr, Bool, true, false, cond, List, [], ◌∷◌, ◌++◌, length, is_some, Option, Some, None, option_map, Result, Ok, Err, refl, sym, ap, subst, ◌∙◌, append_assoc, arith}
use Rattle.std.specs.Prelude.{◌≢◌, All, take}
use Rattle.std.specs.Io.{StopsAt}
use Rattle.std.specs.Io.KnownBytes.{Keeps}
use Rattle.std.proofs.lemmas.Bool.Decides.{nat_tests}
use Rattle.std.proofs.lemmas.List.Elements.{All-cons, All-head, All-nil, All-tail}
use Rattle.std.proofs.Transfers.{StopsAt-of_All}
use Rattle.lasso_parts.specs.Texts.{Text, position_of}
use Rattle.lasso_input.specs.Lines.{is_line_feed, NoFeed}
use Rattle.lasso_single.specs.Filling.{extend}
use Rattle.lasso_single.specs.Interner.{InternerView, made_with}
use Rattle.lasso_single.proofs.Filled.{accepted}
use Rattle.lasso_single.specs.Coding.{spur_at}
use Rattle.lasso_input.specs.Texts.{is_let_in}
use Rattle.lasso_codes.specs.Reading.{Makes, ReadItems, cut_entry, cut_number, on_entry_line, head_of, header_of, on_header_line, items_from, on_item, on_text, read_column, texts_at, texts_from, LacksText, LosesEntry}
use Rattle.lasso_codes.specs.Stages.{Reading}
use Rattle.lasso_codes.specs.Streams.{cut_line, LosesLine, LosesPart, StopsShort, TakesByte}
use Rattle.lasso_codes.specs.declared.entries.Entry.{Entry}
use Rattle.lasso_codes.specs.declared.entries.Entry.TheVariants.{Missing}
use Rattle.lasso_codes.specs.declared.error.ColumnError.{ColumnError}
use Rattle.lasso_codes.specs.declared.error.ColumnError.TheVariants.{NotUtf8, Doubled, NoEntry}
use Rattle.lasso_codes.specs.declared.reading.Header.{Header}
use Rattle.lasso_codes.proofs.Feeds.{cut_fed, cut_open}
use Rattle.lasso_codes.proofs.Items.{column_read, entries_fail, texts_read}
use Rattle.lasso_codes.proofs.ReadTexts.{cut_free, plain_test, tested, text_missing}

-- ---- what is read of a first part

-- the bytes are a part that was read, and the rest; whatever follows the part, the same is read of it
pub record Local {X : Type 0} (read : List ℕ → X) (out : List ℕ → X) (bytes rest : List ℕ) : Type 0 where
  pub front : List ℕ
  pub split : bytes ≡ front ++ rest
  pub same : (more : List ℕ) → read (front ++ more) ≡ out more

-- a line
line_split_by : (b : ℕ) (bytes line left : List ℕ) (feed : Bool) (cut : Option (List ℕ × List ℕ)) → is_line_feed b ≡ feed → cond {A = Option (List ℕ × List ℕ)} feed (Some ([], bytes)) (option_map (λ (c : List ℕ × List ℕ). (b ∷ c.0, c.1)) cut) ≡ Some (line, left) → ((front rest : List ℕ) → cut ≡ Some (front, rest) → bytes ≡ front ++ 10 ∷ rest) → b ∷ bytes ≡ line ++ 10 ∷ left
line_split_by b bytes line left true cut is e then =
    let both : ◌≡◌ {A = List ℕ × List ℕ} ([], bytes) (line, left) = cc in
    let feed : b ≡ 10 = grind (arith, nat_tests) in
    ap (λ x. x ∷ bytes) feed ∙ ap (λ (p : List ℕ × List ℕ). p.0 ++ 10 ∷ p.1) both
line_split_by b bytes line left false None is e then = absurd (cc)
line_split_by b bytes line left false (Some c) is e then =
    let both : ◌≡◌ {A = List ℕ × List ℕ} (b ∷ c.0, c.1) (line, left) = cc in
    ap (λ bs. b ∷ bs) (then c.0 c.1 refl) ∙ ap (λ (p : List ℕ × List ℕ). p.0 ++ 10 ∷ p.1) both

line_split : (bytes line left : List ℕ) → cut_line bytes ≡ Some (line, left) → bytes ≡ line ++ 10 ∷ left
line_split [] line left e = absurd (cc)
line_split (b ∷ bytes) line left e = line_split_by b bytes line left (is_line_feed b) (cut_line bytes) refl e (λ front rest is. line_split bytes front rest is)

pub line_local : (bytes line rest : List ℕ) → cut_line bytes ≡ Some (line, rest) → Local cut_line (λ more. Some (line, more)) bytes rest
line_local bytes line rest e = record {
  front = line ++ 10 ∷ [];
  split = line_split bytes line rest e ∙ sym (append_assoc line (10 ∷ []) rest);
  same = λ more. ap cut_line (append_assoc line (10 ∷ []) more) ∙ cut_fed line more (cut_free bytes line rest e);
}

-- a header
header_by : (bytes : List ℕ) (cut : Text × List ℕ) (told : Option Header) (header : Header) (rest : List ℕ) → cut_line bytes ≡ Some cut → header_of cut.0 ≡ told → option_map {U = Header × List ℕ} (λ (h : Header). (h, cut.1)) told ≡ Some (header, rest) → Local head_of (λ more. Some (header, more)) bytes rest
header_by bytes cut None header rest at is e = absurd (cc)
header_by bytes cut (Some found) header rest at is e =
    let both : ◌≡◌ {A = Header × List ℕ} (found, cut.1) (header, rest) = cc in
    let line = line_local bytes cut.0 cut.1 at in
    record {
      front = line.front;
      split = line.split ∙ ap (λ (p : Header × List ℕ). line.front ++ p.1) both;
      same = λ more.
          ap on_header_line (line.same more) ∙ ap (λ (o : Option Header). option_map {U = Header × List ℕ} (λ (h : Header). (h, more)) o) is
          ∙ ap (λ (p : Header × List ℕ). Some (p.0, more)) both;
    }

head_by : (bytes : List ℕ) (cut : Option (Text × List ℕ)) (header : Header) (rest : List ℕ) → cut_line bytes ≡ cut → on_header_line cut ≡ Some (header, rest) → Local head_of (λ more. Some (header, more)) bytes rest
head_by bytes None header rest at e = absurd (cc)
head_by bytes (Some cut) header rest at e = header_by bytes cut (header_of cut.0) header rest at refl e

pub head_local : (bytes : List ℕ) (header : Header) (rest : List ℕ) → head_of bytes ≡ Some (header, rest) → Local head_of (λ more. Some (header, more)) bytes rest
head_local bytes header rest e = head_by bytes (cut_line bytes) header rest refl e

-- the texts of a dictionary
text_by : (only : Bool) (n : ℕ) (list out : List Text) (bytes rest : List ℕ) (cut : Option (Text × List ℕ)) → cut_line bytes ≡ cut → on_text only cut list (texts_from only n) ≡ Ok (out, rest) → ((list' : List Text) (bytes' : List ℕ) → texts_from only n list' bytes' ≡ Ok (out, rest) → Local (texts_from only n list') (λ more. Ok (out, more)) bytes' rest) → Local (texts_from only (suc n) list) (λ more. Ok (out, more)) bytes rest
text_by only n list out bytes rest None at e then = absurd (cc)
text_by only n list out bytes rest (Some cut) at e then =
    let list' = list ++ cut.0 ∷ [] in
    let let_in = is_let_in only cut.0 in
    let there = is_some (position_of list cut.0) in
    let out' : ColumnError = NotUtf8 (length list + 1) in
    let doubled : ColumnError = Doubled (length list + 1) in
    let first = texts_from only n list' cut.1 in
    let line = line_local bytes cut.0 cut.1 at in
    let others = then list' cut.1 (plain_test let_in there out' doubled first (out, rest) e) in
    record {
      front = line.front ++ others.front;
      split = line.split ∙ ap (λ bs. line.front ++ bs) others.split ∙ sym (append_assoc line.front others.front rest);
      same = λ more.
          ap (texts_from only (suc n) list) (append_assoc line.front others.front more)
          ∙ ap (λ c. on_text only c list (texts_from only n)) (line.same (others.front ++ more))
          ∙ tested let_in there out' doubled first (texts_from only n list' (others.front ++ more)) (Ok (out, more)) (out, rest) e (λ _. others.same more);
    }

pub texts_local : (only : Bool) (n : ℕ) (list out : List Text) (bytes rest : List ℕ) → texts_from only n list bytes ≡ Ok (out, rest) → Local (texts_from only n list) (λ more. Ok (out, more)) bytes rest
texts_local only zero list out bytes rest e =
    let both : ◌≡◌ {A = List Text × List ℕ} (list, bytes) (out, rest) = cc in
    record {
      front = [];
      split = ap (λ (p : List Text × List ℕ). p.1) both;
      same = λ more. ap (λ (p : List Text × List ℕ). Ok (p.0, more)) both;
    }
texts_local only (suc n) list out bytes rest e = text_by only n list out bytes rest (cut_line bytes) refl e (λ list' bytes' is. texts_local only n list' out bytes' rest is)

-- an entry
entry_line_by : (bytes rest : List ℕ) (entry : Entry) (cut : Option (Text × List ℕ)) → cut_line bytes ≡ cut → on_entry_line cut ≡ (entry, rest) → ¬ (entry ≡ Missing) → Local (cut_entry false) (λ more. (entry, more)) bytes rest
entry_line_by bytes rest entry None at e there = absurd (there (sym (ap (λ (p : Entry × List ℕ). p.0) e)))
entry_line_by bytes rest entry (Some cut) at e there =
    let line = line_local bytes cut.0 cut.1 at in
    record {
      front = line.front;
      split = line.split ∙ ap (λ (p : Entry × List ℕ). line.front ++ p.1) e;
      same = λ more. ap on_entry_line (line.same more) ∙ ap (λ (p : Entry × List ℕ). (p.0, more)) e;
    }

entry_number : (bytes rest : List ℕ) (entry : Entry) → cut_entry true bytes ≡ (entry, rest) → ¬ (entry ≡ Missing) → Local (cut_entry true) (λ more. (entry, more)) bytes rest
entry_number [] rest entry e there = absurd (there (sym (ap (λ (p : Entry × List ℕ). p.0) e)))
entry_number (a ∷ []) rest entry e there = absurd (there (sym (ap (λ (p : Entry × List ℕ). p.0) e)))
entry_number (a ∷ b ∷ []) rest entry e there = absurd (there (sym (ap (λ (p : Entry × List ℕ). p.0) e)))
entry_number (a ∷ b ∷ c ∷ []) rest entry e there = absurd (there (sym (ap (λ (p : Entry × List ℕ). p.0) e)))
entry_number (a ∷ b ∷ c ∷ d ∷ bytes) rest entry e there = record {
  front = a ∷ b ∷ c ∷ d ∷ [];
  split = ap (λ (p : Entry × List ℕ). a ∷ b ∷ c ∷ d ∷ p.1) e;
  same = λ more. ap (λ (p : Entry × List ℕ). (p.0, more)) e;
}

pub entry_local : (binary : Bool) (bytes rest : List ℕ) (entry : Entry) → cut_entry binary bytes ≡ (entry, rest) → ¬ (entry ≡ Missing) → Local (cut_entry binary) (λ more. (entry, more)) bytes rest
entry_local true bytes rest entry e there = entry_number bytes rest entry e there
entry_local false bytes rest entry e there = entry_line_by bytes rest entry (cut_line bytes) refl e there

-- a missing entry is no item
abbrev pub Refuses : {X : Type 0} → Makes X → Type 0
Refuses make = (number : ℕ) → make Missing number ≡ Err (NoEntry number)

items_nil : {X : Type 0} (make : Makes X) (binary : Bool) (number : ℕ) (bytes rest : List ℕ) (done : List X) → items_from make 0 binary number bytes ≡ (done, Ok rest) → Local (items_from make 0 binary number) (λ more. (done, Ok more)) bytes rest
items_nil {X} make binary number bytes rest done e =
    let left : ◌≡◌ {A = Result (List ℕ) ColumnError} (Ok bytes) (Ok rest) = ap (λ (r : ReadItems X). r.1) e in
    let same : bytes ≡ rest = cc in
    record { front = []; split = same; same = λ more. ap (λ (r : ReadItems X). (r.0, Ok more)) e }

item_by : {X : Type 0} (make : Makes X) (n : ℕ) (binary : Bool) (number : ℕ) (bytes rest : List ℕ) (done : List X) (cut : Entry × List ℕ) (made : Result X ColumnError) → Refuses make → cut_entry binary bytes ≡ cut → make cut.0 number ≡ made → on_item made (items_from make n binary (number + 1) cut.1) ≡ (done, Ok rest) → ((others : List X) → items_from make n binary (number + 1) cut.1 ≡ (others, Ok rest) → Local (items_from make n binary (number + 1)) (λ more. (others, Ok more)) cut.1 rest) → Local (items_from make (suc n) binary number) (λ more. (done, Ok more)) bytes rest
item_by {X} make n binary number bytes rest done cut (Err error) refuses at is e then =
    let no : ◌≡◌ {A = Result (List ℕ) ColumnError} (Err error) (Ok rest) = ap (λ (r : ReadItems X). r.1) e in absurd (cc)
item_by {X} make n binary number bytes rest done cut (Ok item) refuses at is e then =
    let others = items_from make n binary (number + 1) cut.1 in
    let ended : others.1 ≡ Ok rest = ap (λ (r : ReadItems X). r.1) e in
    let there : ¬ (cut.0 ≡ Missing) = λ none. let no : ◌≡◌ {A = Result X ColumnError} (Err (NoEntry number)) (Ok item) = sym (refuses number) ∙ ap (λ x. make x number) (sym none) ∙ is in cc in
    let one = entry_local binary bytes cut.1 cut.0 at there in
    let tail = then others.0 (ap (λ (o : Result (List ℕ) ColumnError). (others.0, o)) ended) in
    record {
      front = one.front ++ tail.front;
      split = one.split ∙ ap (λ bs. one.front ++ bs) tail.split ∙ sym (append_assoc one.front tail.front rest);
      same = λ more.
          ap (items_from make (suc n) binary number) (append_assoc one.front tail.front more)
          ∙ ap (λ (c : Entry × List ℕ). on_item (make c.0 number) (items_from make n binary (number + 1) c.1)) (one.same (tail.front ++ more))
          ∙ ap (λ m. on_item m (items_from make n binary (number + 1) (tail.front ++ more))) is
          ∙ ap (λ (r : ReadItems X). on_item (Ok item) r) (tail.same more)
          ∙ ap (λ (r : ReadItems X). (r.0, Ok more)) e;
    }

pub items_local : {X : Type 0} (make : Makes X) (n : ℕ) (binary : Bool) (number : ℕ) (bytes rest : List ℕ) (done : List X) → Refuses make → items_from make n binary number bytes ≡ (done, Ok rest) → Local (items_from make n binary number) (λ more. (done, Ok more)) bytes rest
items_local make zero binary number bytes rest done refuses e = items_nil make binary number bytes rest done e
items_local make (suc n) binary number bytes rest done refuses e =
    let cut = cut_entry binary bytes in
    item_by make n binary number bytes rest done cut (make cut.0 number) refuses refl refl e (λ others is. items_local make n binary (number + 1) cut.1 rest others refuses is)

-- a column: these are its items and its texts
pub record ColumnRead {X : Type 0} (only : Bool) (make : List Text → Makes X) (bytes rest : List ℕ) (items : List X) (list : List Text) : Type 0 where
  pub front : List ℕ
  pub split : bytes ≡ front ++ rest
  pub same : (more : List ℕ) → read_column only make (front ++ more) ≡ (items, Ok more)
  pub texts : (more : List ℕ) → texts_at only (front ++ more) ≡ list

pub column_local : {X : Type 0} (only : Bool) (make : List Text → Makes X) (bytes left mid rest : List ℕ) (header : Header) (list : List Text) (items : List X) → Refuses (make list) → head_of bytes ≡ Some (header, left) → texts_from only header.distinct [] left ≡ Ok (list, mid) → items_from (make list) header.lines header.binary 1 mid ≡ (items, Ok rest) → ColumnRead only make bytes rest items list
column_local only make bytes left mid rest header list items refuses head read entries =
    let h = head_local bytes header left head in
    let t = texts_local only header.distinct [] list left mid read in
    let i = items_local (make list) header.lines header.binary 1 mid rest items refuses entries in
    let front = h.front ++ (t.front ++ i.front) in
    let head_at : (more : List ℕ) → head_of (front ++ more) ≡ Some (header, (t.front ++ i.front) ++ more) = λ more. ap head_of (append_assoc h.front (t.front ++ i.front) more) ∙ h.same ((t.front ++ i.front) ++ more) in
    let texts_at' : (more : List ℕ) → texts_from only header.distinct [] ((t.front ++ i.front) ++ more) ≡ Ok (list, i.front ++ more) = λ more. ap (texts_from only header.distinct []) (append_assoc t.front i.front more) ∙ t.same (i.front ++ more) in
    record {
      front = front;
      split =
          h.split ∙ ap (λ bs. h.front ++ bs) (t.split ∙ ap (λ bs. t.front ++ bs) i.split ∙ sym (append_assoc t.front i.front rest))
          ∙ sym (append_assoc h.front (t.front ++ i.front) rest);
      same = λ more. column_read only make (front ++ more) ((t.front ++ i.front) ++ more) header (head_at more) list (i.front ++ more) (texts_at' more) ∙ i.same more;
      texts = λ more. texts_read only (front ++ more) ((t.front ++ i.front) ++ more) header (head_at more) list (i.front ++ more) (texts_at' more);
    }

-- ---- reads that fail

-- what stopped short after a first part stops short with it
pub short_after : (front bytes rest : List ℕ) (after : Option (List ℕ)) (P Q : List ℕ → Type 0) → bytes ≡ front ++ rest → StopsShort rest after P → ((seen : List ℕ) → P seen → Q (front ++ seen)) → StopsShort bytes after Q
short_after front bytes rest after P Q split short then = (
  front ++ short.0,
  short.1,
  short.2,
  elim short.3 [
    | inl all ↦ inl (split ∙ ap (λ bs. front ++ bs) all ∙ sym (append_assoc front short.0 short.1))
    | inr feed ↦ inr (split ∙ ap (λ bs. front ++ bs) feed ∙ sym (append_assoc front short.0 (10 ∷ short.1)))
  ],
  then short.0 short.4,
)

pub short_as : (bytes : List ℕ) (after : Option (List ℕ)) (P Q : List ℕ → Type 0) → StopsShort bytes after P → ((seen : List ℕ) → P seen → Q seen) → StopsShort bytes after Q
short_as bytes after P Q short then = short_after [] bytes bytes after P Q refl short then

-- bytes with no line feed but as the last one
abbrev IsOpen : List ℕ → Type 0
IsOpen begun = (front : List ℕ) × ((begun ≡ front) ⊎ (begun ≡ front ++ 10 ∷ [])) × NoFeed front

open_more : (b : ℕ) (begun : List ℕ) → is_line_feed b ≡ false → IsOpen begun → IsOpen (b ∷ begun)
open_more b begun other part = (
  b ∷ part.0,
  elim part.1 [
    | inl all ↦ inl (ap (λ bs. b ∷ bs) all)
    | inr feed ↦ inr (ap (λ bs. b ∷ bs) feed)
  ],
  (other, part.2),
)

open_last : (b : ℕ) (feed : Bool) → is_line_feed b ≡ feed → IsOpen (b ∷ [])
open_last b true is = let feed : b ≡ 10 = grind (arith, nat_tests) in ([], inr (ap (λ x. x ∷ []) feed), tt)
open_last b false is = (b ∷ [], inl refl, (is, tt))

other_by : (b : ℕ) (feed : Bool) → is_line_feed b ≡ feed → b ≢ 10 → is_line_feed b ≡ false
other_by b true is other = absurd (other (grind (arith, nat_tests)))
other_by b false is other = is

open_of : (begun : List ℕ) → StopsAt begun 10 → IsOpen begun
open_of [] stops = ([], inl refl, tt)
open_of (b ∷ []) stops = open_last b (is_line_feed b) refl
open_of (b ∷ c ∷ begun) stops =
    let long : length (b ∷ c ∷ begun) - 1 ≡ suc (length begun) = omega arith in
    let short : length begun ≡ length (c ∷ begun) - 1 = omega arith in
    let all : All (λ x. x ≢ 10) (b ∷ take (length begun) (c ∷ begun)) = subst (λ n. All (λ x. x ≢ 10) (take n (b ∷ c ∷ begun))) long stops in
    let others = All-tail (λ x. x ≢ 10) b (take (length begun) (c ∷ begun)) all in
    open_more b (c ∷ begun) (other_by b (is_line_feed b) refl (All-head (λ x. x ≢ 10) b (take (length begun) (c ∷ begun)) all))
    (open_of (c ∷ begun) (subst (λ n. All (λ x. x ≢ 10) (take n (c ∷ begun))) short others))

all_other : (bytes : List ℕ) → NoFeed bytes → All (λ x. x ≢ 10) bytes
all_other [] none = All-nil (λ x. x ≢ 10)
all_other (b ∷ bytes) none =
    let other : b ≢ 10 = λ is. let feed : is_line_feed b ≡ true = grind (arith, nat_tests) in let no : true ≡ false = sym feed ∙ none.0 in cc in
    All-cons (λ x. x ≢ 10) b bytes other (all_other bytes none.1)

pub open_stops : (begun : List ℕ) → NoFeed begun → StopsAt begun 10
open_stops begun none = StopsAt-of_All begun 10 (all_other begun none)

-- what was read has no line feed, but for one that came last
pub loses_line : (before after : Option (List ℕ)) → LosesPart before after → LosesLine before after
loses_line before after loses = λ bytes e.
    let lost = loses bytes e in
    let part = open_of lost.0 lost.4 in (
      part.0,
      lost.1,
      lost.2,
      elim part.1 [
        | inl all ↦ inl (lost.3 ∙ ap (λ bs. bs ++ lost.1) all)
        | inr feed ↦ inr (lost.3 ∙ ap (λ bs. bs ++ lost.1) feed ∙ append_assoc part.0 (10 ∷ []) lost.1)
      ],
      cut_open part.0 part.2,
    )

-- ---- entries and texts that are missing then

pub loses_entry_line : (binary : Bool) (before after : Option (List ℕ)) → binary ≡ false → LosesLine before after → LosesEntry binary before after
loses_entry_line binary before after lines loses = λ bytes e.
    short_as bytes after (λ seen. cut_line seen ≡ None) (λ seen. cut_entry binary seen ≡ (Missing, [])) (loses bytes e) (λ seen none. ap (λ b. cut_entry b seen) lines ∙ ap on_entry_line none)

-- fewer than four bytes were read, and no more of them
pub loses_number : (mid after : Option (List ℕ)) (front rest bytes : List ℕ) → mid ≡ Some rest → Keeps mid after → bytes ≡ front ++ rest → cut_number front ≡ (Missing, []) → StopsShort bytes after (λ seen. cut_entry true seen ≡ (Missing, []))
loses_number None after front rest bytes e kept split none = absurd (cc)
loses_number (Some held) None front rest bytes e kept split none = absurd kept
loses_number (Some held) (Some left) front rest bytes e kept split none =
    let same : held ≡ rest = cc in
    (front, left, refl, inl (split ∙ ap (λ bs. front ++ bs) (sym (kept ∙ same))), none)

pub loses_first : (before after : Option (List ℕ)) → Keeps before after → LosesEntry true before after
loses_first before after kept = λ bytes e. loses_number before after [] bytes bytes e kept refl refl

pub loses_second : (before mid after : Option (List ℕ)) (a : ℕ) → TakesByte before mid (Some a) → Keeps mid after → LosesEntry true before after
loses_second before mid after a first kept = λ bytes e.
    let one = first bytes e in loses_number mid after (a ∷ []) one.0 bytes one.1 kept one.2 refl

pub loses_third : (before mid mid' after : Option (List ℕ)) (a b : ℕ) → TakesByte before mid (Some a) → TakesByte mid mid' (Some b) → Keeps mid' after → LosesEntry true before after
loses_third before mid mid' after a b first second kept = λ bytes e.
    let one = first bytes e in
    let two = second one.0 one.1 in
    loses_number mid' after (a ∷ b ∷ []) two.0 bytes two.1 kept (one.2 ∙ ap (λ bs. a ∷ bs) two.2) refl

pub loses_fourth : (before mid mid' mid'' after : Option (List ℕ)) (a b c : ℕ) → TakesByte before mid (Some a) → TakesByte mid mid' (Some b) → TakesByte mid' mid'' (Some c) → Keeps mid'' after → LosesEntry true before after
loses_fourth before mid mid' mid'' after a b c first second third kept = λ bytes e.
    let one = first bytes e in
    let two = second one.0 one.1 in
    let three = third two.0 two.1 in
    loses_number mid'' after (a ∷ b ∷ c ∷ []) three.0 bytes three.1 kept (one.2 ∙ ap (λ bs. a ∷ bs) two.2 ∙ ap (λ bs. a ∷ b ∷ bs) three.2) refl

-- a byte was read
pub byte_was : (before after : Option (List ℕ)) (told : Option ℕ) (byte : ℕ) → TakesByte before after told → told ≡ Some byte → TakesByte before after (Some byte)
byte_was before after told byte taken is = subst (TakesByte before after) is taken

-- the next entry is missing
pub entries_cut : {X : Type 0} (make : Makes X) (binary : Bool) (count lines : ℕ) (bytes rest : List ℕ) (done : List X) (after : Option (List ℕ)) → Refuses make → items_from make count binary 1 bytes ≡ (done, Ok rest) → count < lines → StopsShort rest after (λ seen. cut_entry binary seen ≡ (Missing, [])) → StopsShort bytes after (λ seen. items_from make lines binary 1 seen ≡ (done, Err (NoEntry (count + 1))))
entries_cut make binary count lines bytes rest done after refuses read small short =
    let first = items_local make count binary 1 bytes rest done refuses read in
    short_after first.front bytes rest after (λ seen. cut_entry binary seen ≡ (Missing, [])) (λ seen. items_from make lines binary 1 seen ≡ (done, Err (NoEntry (count + 1)))) first.split short (λ seen none.
    entries_fail make binary (first.front ++ seen) seen count done (first.same seen) lines small Missing [] none (NoEntry (count + 1)) (refuses (count + 1)))

-- the next text is missing
pub texts_cut : (only : Bool) (bytes rest : List ℕ) (position distinct : ℕ) (now : InternerView) (limit : ℕ) (after : Option (List ℕ)) → position < distinct → Reading only bytes rest position now → extend spur_at (made_with 4096 limit) now.texts accepted now → StopsShort rest after (λ seen. cut_line seen ≡ None) → StopsShort bytes after (LacksText only limit distinct)
texts_cut only bytes rest position distinct now limit after small so_far list short =
    let first = texts_local only position [] so_far.done bytes rest so_far.read in
    short_after first.front bytes rest after (λ seen. cut_line seen ≡ None) (LacksText only limit distinct) first.split short (λ seen none.
    let way : Reading only (first.front ++ seen) seen position now = record {
      done = so_far.done;
      read = first.same seen;
      are_bytes = so_far.are_bytes;
      texts = so_far.texts;
      counted = so_far.counted;
    } in
    (position + 1, text_missing only (first.front ++ seen) seen position distinct now small way limit list none))
