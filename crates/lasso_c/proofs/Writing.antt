-- Texts that are written one after another into two buffers, and where each of them begins.
--
-- What is still to be written over a buffer as it is gives what was to be written over it at first: so each text that is
-- written is taken off the front of those that are left, and nothing is said of what was written before.
use Rattle.std.proofs.Common.{ℕ, ◌≡◌, ◌+◌, ◌<◌, ◌≤◌, List, [], ◌∷◌, ◌++◌, length, slice_get, take, drop, set, Some, refl, ap, sym, subst, ◌∙◌, add-one, add-zero, zero-add, arith, length-append, length-drop}
use Rattle.std.specs.List.{concat}
use Rattle.std.proofs.Math.Seq.{paste}
use Rattle.std.proofs.lemmas.List.{set_split, take-append-drop, length-set, length-take-le, drop_more, drop_all}
use Rattle.std.proofs.lemmas.Option.{slice_get_within, get_or_from_slice_get}
use Rattle.std.proofs.lemmas.List.Edits.{paste_all, paste-paste}
use Rattle.lasso_parts.specs.Texts.{Text}
use Rattle.lasso_parts.specs.Layout.{offsets_from}
use Rattle.lasso_c.specs.Layout.{over, over_from}

over_is : (start n : ℕ) (part buffer : List ℕ) → n ≡ length part → over_from start part buffer ≡ paste buffer start part n
over_is start n part buffer same = sym (paste_all buffer start part n same ∙ ap (λ m. take start buffer ++ (part ++ drop (start + m) buffer)) same)

-- two parts that are written one after the other are one part
pub over_both : (start : ℕ) (part rest buffer : List ℕ) → start ≤ length buffer → over_from (start + length part) rest (over_from start part buffer) ≡ over_from start (part ++ rest) buffer
over_both start part rest buffer small =
    let n = length part in
    let m = length rest in
    over_is (start + n) m rest (over_from start part buffer) refl
    ∙ ap (λ b. paste b (start + n) rest m) (over_is start n part buffer refl)
    ∙ paste-paste buffer start part rest n m refl refl small
    ∙ sym (over_is start (n + m) (part ++ rest) buffer (sym (length-append part rest)))

-- a number that is written at a position
pub over_one : (at value : ℕ) (buffer : List ℕ) → at < length buffer → set buffer at value ≡ over_from at (value ∷ []) buffer
over_one at value buffer small = rw add-one (set_split buffer at value small)

-- what is written from the first position on
pub over_all : (part buffer : List ℕ) → over_from 0 part buffer ≡ over part buffer
over_all part buffer = ap (λ n. part ++ drop n buffer) (zero-add (length part))

-- a number written right after what is written over the front is written over the front too
pub over_push : (part buffer : List ℕ) (n value : ℕ) → n ≡ length part → n < length buffer → n < length (over part buffer) → set (over part buffer) n value ≡ over (part ++ value ∷ []) buffer
over_push part buffer n value same small here =
    over_one n value (over part buffer) here
    ∙ ap (λ (b : List ℕ). over_from n (value ∷ []) b) (sym (over_all part buffer))
    ∙ ap (λ m. over_from m (value ∷ []) (over_from 0 part buffer)) (same ∙ sym (zero-add (length part)))
    ∙ over_both 0 part (value ∷ []) buffer (omega arith)
    ∙ over_all (part ++ value ∷ []) buffer

-- nothing is written
over_none : (start : ℕ) (buffer : List ℕ) → over_from start [] buffer ≡ buffer
over_none start buffer = rw add-zero (take-append-drop start buffer)

length-over_from : (start : ℕ) (part buffer : List ℕ) → start + length part ≤ length buffer → length (over_from start part buffer) ≡ length buffer
length-over_from start part buffer room = omega (arith, length-append (take start buffer) (part ++ drop (start + length part) buffer), length-append part (drop (start + length part) buffer), length-drop (start + length part) buffer, length-take-le start buffer (omega arith))

-- some texts are still to be written, the first of them with this number, from this position on
pub record Writes (greatest : ℕ) (offsets bytes : List ℕ) (texts : List Text) (at start : ℕ) (offsets' bytes' : List ℕ) : Type 0 where
  pub offsets_left : over_from at (offsets_from start texts) offsets' ≡ offsets
  pub bytes_left : over_from start (concat texts) bytes' ≡ bytes
  pub offsets_room : at + length texts < length offsets'
  pub bytes_room : start + length (concat texts) ≤ length bytes'
  pub small : start + length (concat texts) ≤ greatest

-- before the first text
pub none_written : (greatest : ℕ) (texts : List Text) (offsets bytes : List ℕ) → length texts < length offsets → length (concat texts) ≤ length bytes → length (concat texts) ≤ greatest → Writes greatest (over (offsets_from 0 texts) offsets) (over (concat texts) bytes) texts 0 0 offsets bytes
none_written greatest texts offsets bytes offsets_room bytes_room small = record {
  offsets_left = over_all (offsets_from 0 texts) offsets;
  bytes_left = over_all (concat texts) bytes;
  offsets_room = omega arith;
  bytes_room = omega arith;
  small = omega arith;
}

module _ (greatest : ℕ) (offsets bytes : List ℕ) (at start : ℕ) (offsets' bytes' : List ℕ) where
  -- one text is written
  pub one_written : (text : Text) (texts : List Text) → Writes greatest offsets bytes (text ∷ texts) at start offsets' bytes' → Writes greatest offsets bytes texts (at + 1) (start + length text) (set offsets' at start) (over_from start text bytes')
  one_written text texts w =
      let end = start + length text in
      let both = length-append text (concat texts) in
      let kept = length-over_from start text bytes' (omega (arith, w.bytes_room)) in
      record {
        offsets_left = ap (λ b. over_from (at + 1) (offsets_from end texts) b) (over_one at start offsets' (omega (arith, w.offsets_room))) ∙ over_both at (start ∷ []) (offsets_from end texts) offsets' (omega (arith, w.offsets_room)) ∙ w.offsets_left;
        bytes_left = over_both start text (concat texts) bytes' (omega (arith, w.bytes_room)) ∙ w.bytes_left;
        offsets_room = omega (arith, w.offsets_room, length-set offsets' at start);
        bytes_room = omega (arith, w.bytes_room);
        small = omega (arith, w.small);
      }

  -- the last offset is written, and nothing more
  pub all_written : Writes greatest offsets bytes [] at start offsets' bytes' → (set offsets' at start ≡ offsets) × (bytes' ≡ bytes)
  all_written w = (over_one at start offsets' (omega (arith, w.offsets_room)) ∙ w.offsets_left, sym (over_none start bytes') ∙ w.bytes_left)

-- what is left of some texts from one of them on
left_at : (texts : List Text) (at : ℕ) (text : Text) → slice_get texts at ≡ Some text → drop at texts ≡ text ∷ drop (at + 1) texts
left_at texts at text is = drop_more texts at [] (slice_get_within texts at text is) ∙ ap (λ (t : Text). t ∷ drop (at + 1) texts) (get_or_from_slice_get texts at text [] is)

module _ (greatest : ℕ) (offsets bytes : List ℕ) (texts : List Text) (at start : ℕ) (offsets' bytes' : List ℕ) where
  left_is : (text : Text) → slice_get texts at ≡ Some text → Writes greatest offsets bytes (drop at texts) at start offsets' bytes' → Writes greatest offsets bytes (text ∷ drop (at + 1) texts) at start offsets' bytes'
  left_is text is w = subst (λ (ts : List Text). Writes greatest offsets bytes ts at start offsets' bytes') (left_at texts at text is) w

  -- there is room for the next text
  pub room_at : (text : Text) → slice_get texts at ≡ Some text → Writes greatest offsets bytes (drop at texts) at start offsets' bytes' → start + length text ≤ length bytes'
  room_at text is w = omega (arith, (left_is text is w).bytes_room, length-append text (concat (drop (at + 1) texts)))

  -- the text at this position is written
  pub written_at : (text : Text) → slice_get texts at ≡ Some text → Writes greatest offsets bytes (drop at texts) at start offsets' bytes' → Writes greatest offsets bytes (drop (at + 1) texts) (at + 1) (start + length text) (set offsets' at start) (over_from start text bytes')
  written_at text is w = one_written greatest offsets bytes at start offsets' bytes' text (drop (at + 1) texts) (left_is text is w)

  -- the same, where the buffers and the position after the text are known by equations
  pub written_next : (text part : Text) (end : ℕ) (offsets'' bytes'' : List ℕ) → slice_get texts at ≡ Some text → part ≡ text → Writes greatest offsets bytes (drop at texts) at start offsets' bytes' → end ≡ start + length part → offsets'' ≡ set offsets' at start → bytes'' ≡ over_from start part bytes' → Writes greatest offsets bytes (drop (at + 1) texts) (at + 1) end offsets'' bytes''
  written_next text part end offsets'' bytes'' is same w ends sets puts = rw (ends, sets, puts, same) (written_at text is w)

  -- no text is left
  pub written_to : length texts ≤ at → Writes greatest offsets bytes (drop at texts) at start offsets' bytes' → (set offsets' at start ≡ offsets) × (bytes' ≡ bytes)
  written_to past w = all_written greatest offsets bytes at start offsets' bytes' (subst (λ (ts : List Text). Writes greatest offsets bytes ts at start offsets' bytes') (drop_all at texts past) w)
