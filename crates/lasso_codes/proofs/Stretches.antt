-- The lines and the entries of a stretch of bytes, whatever follows it.
--
-- If a line or an entry ends in the stretch, it is also the first one of the stretch and the bytes after it.
-- The bytes in the buffer are a stretch, and the bytes that the reader has left follow it.
use Rattle.std.proofs.Common.{ℕ, ◌≡◌, ◌+◌, ◌≤◌, Bool, true, false, List, ◌∷◌, ◌++◌, length, take, drop, Option, Some, None, sym, ap, subst, ◌∙◌, append_assoc, drop-drop}
use Rattle.std.specs.Prelude.{if◌then◌else◌}
use Rattle.std.specs.Io.BufRead.{DropsConsumable}
use Rattle.std.specs.Io.KnownBytes.{prepend_known}
use Rattle.std.proofs.lemmas.List.{drop-append-le}
use Rattle.memchr.specs.Find.{IsFirstByte, is_byte}
use Rattle.lasso_input.specs.Lines.{NoFeed}
use Rattle.lasso_input.proofs.FirstLines.{cut_at}
use Rattle.lasso_codes.specs.Reading.{cut_entry}
use Rattle.lasso_codes.specs.Streams.{cut_line}
use Rattle.lasso_codes.specs.declared.entries.Entry.{Entry}
use Rattle.lasso_codes.proofs.Feeds.{cut_fed}

-- ---- the bytes in the buffer

pub held_first : (no_room : Bool) (held : List ℕ) (known : Option (List ℕ)) (bytes : List ℕ) → (if no_room then None else prepend_known held known) ≡ Some bytes → (later : List ℕ) × (bytes ≡ held ++ later)
held_first true held known bytes e = absurd (cc)
held_first false held None bytes e = absurd (cc)
held_first false held (Some later) bytes e = let same : held ++ later ≡ bytes = cc in (later, sym same)

-- some of them are consumed
pub used_up : (before after : Option (List ℕ)) (held later : List ℕ) (count : ℕ) → DropsConsumable before after (Some (length held)) count → count ≤ length held → before ≡ Some (held ++ later) → after ≡ Some (drop count held ++ later)
used_up None after held later count told small e = absurd (cc)
used_up (Some known) after held later count told small e =
    let same : known ≡ held ++ later = cc in
    told small ∙ ap (λ bs. Some (drop count bs)) same ∙ ap (λ bs. Some bs) (drop-append-le count held later small)

-- ---- the lines

-- a line that a line feed ends is also the first of the bytes and those after them
pub line_cut : (bytes line rest later : List ℕ) → NoFeed line × (bytes ≡ line ++ 10 ∷ rest) → cut_line (bytes ++ later) ≡ Some (line, rest ++ later)
line_cut bytes line rest later cut = ap (λ bs. cut_line (bs ++ later)) cut.1 ∙ ap cut_line (append_assoc line (10 ∷ rest) later) ∙ cut_fed line (rest ++ later) cut.0

-- the same, where the search has found the line feed
pub first_cut : (bytes : List ℕ) (len : ℕ) (later : List ℕ) → IsFirstByte (is_byte 10) bytes (Some len) → cut_line (bytes ++ later) ≡ Some (take len bytes, drop (len + 1) bytes ++ later)
first_cut bytes len later found = let cut = cut_at bytes len found in line_cut bytes (take len bytes) (drop (len + 1) bytes) later (cut.no_feed, cut.bytes_are)

-- ---- the entries

-- an entry at the start of the rest of the stretch
entry_cut : (stretch : List ℕ) (used len : ℕ) (later : List ℕ) (binary : Bool) (entry : Entry) → cut_entry binary (drop used stretch ++ later) ≡ (entry, drop len (drop used stretch) ++ later) → cut_entry binary (drop used stretch ++ later) ≡ (entry, drop (used + len) stretch ++ later)
entry_cut stretch used len later binary entry cut = cut ∙ ap (λ bs. (entry, bs ++ later)) (drop-drop len used stretch)

-- the next entry of a stretch of which the first bytes are consumed
pub next_entry_cut : (stretch rest : List ℕ) (used len : ℕ) → rest ≡ drop used stretch → (binary : Bool) (entry : Entry) → ((later : List ℕ) → cut_entry binary (rest ++ later) ≡ (entry, drop len rest ++ later)) → (later : List ℕ) → cut_entry binary (drop used stretch ++ later) ≡ (entry, drop (used + len) stretch ++ later)
next_entry_cut stretch rest used len is binary entry told later =
    entry_cut stretch used len later binary entry (subst (λ bs. cut_entry binary (bs ++ later) ≡ (entry, drop len bs ++ later)) is (told later))

-- what is left after some of the buffered bytes are consumed
pub left_after : (before after : Option (List ℕ)) (held shown later rest : List ℕ) (used : ℕ) → shown ≡ held → ((more : List ℕ) → before ≡ Some (held ++ more) → after ≡ Some (drop used held ++ more)) → before ≡ Some rest → rest ≡ shown ++ later → after ≡ Some (drop used shown ++ later)
left_after before after held shown later rest used is told e split =
    told later (e ∙ ap (λ bs. Some bs) (split ∙ ap (λ bs. bs ++ later) is)) ∙ ap (λ bs. Some (drop used bs ++ later)) (sym is)
