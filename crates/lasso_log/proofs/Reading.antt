-- What a reading of the length tells of the list, and what an opening holds.
use Rattle.std.proofs.Common.{◌≡◌, ◌≢◌, ◌⊎◌, ℕ, zero, suc, ◌+◌, ◌^◌, ◌<◌, ◌≤◌, true, List, [], ◌∷◌, ◌++◌, length, slice_get, slice_index_or, Some, Option, refl, ap, sym, ◌∙◌, arith, inl, inr}
use Rattle.std.proofs.lemmas.Map.Keys.{IsDistinct-from_apart}
use Rattle.std.specs.Str.{bytes_eq}
use mathlib.Core.List.{IsPrefix}
use Rattle.lasso_parts.specs.Texts.{Text, IsDistinct, Fits}
use Rattle.logbook.specs.Pages.{Cell}
use Rattle.lasso_log.specs.History.{Append, Totals, opened}
use Rattle.lasso_log.specs.Notes.{NoteView, history, state}
use Rattle.lasso_log.specs.Book.{KeepsRule, IsDone, Reads}
use Rattle.lasso_log.proofs.Legal.{list_kept}
use Rattle.lasso_log.proofs.Lined.{stands_still, prefix_short}
use Rattle.lasso_log.proofs.Lengths.{length_of, same_texts, one_more, text_added}
use Rattle.lasso_log.proofs.Logs.{either_begins}
use Rattle.lasso_log.proofs.LogWords.{head_grown}

-- two histories of one interner with lists of one length have one list
pub same_list : (o : Totals) (a b both : List NoteView) → IsPrefix a both → IsPrefix b both → length (state o a).texts ≡ length (state o b).texts → (state o a).texts ≡ (state o b).texts
same_list o a b both p q len = go (either_begins a b both p q)
  where
    go : IsPrefix a b ⊎ IsPrefix b a → (state o a).texts ≡ (state o b).texts
    go (inl r) = same_texts o a b r len
    go (inr r) = sym (same_texts o b a r (sym len))

pub get_is : (xs : List Text) (n : ℕ) → n < length xs → slice_get xs n ≡ Some (slice_index_or xs n [])
get_is [] n low = absurd (omega arith)
get_is (x ∷ xs) zero low = refl
get_is (x ∷ xs) (suc n) low = get_is xs n (omega arith)

-- what a longer list has at a position of a shorter one is the shorter one's text
pub text_read : (xs ys : List Text) (n : ℕ) (t : Text) → IsPrefix xs ys → n < length xs → slice_get ys n ≡ Some t → Some t ≡ slice_get xs n
text_read xs ys n t p low is =
    let long : length xs ≤ length ys = prefix_short xs ys p in
    sym is ∙ (get_is ys n (omega (arith, long, low)) ∙ (ap (λ (x : Text). Some x) (stands_still xs ys n p low) ∙ sym (get_is xs n low)))

-- an empty list has no text twice
pub none_distinct : IsDistinct []
none_distinct = IsDistinct-from_apart bytes_eq [] (λ i j d below inside. absurd (omega (arith, inside)))

module _ {Key : Type 0} (keys : ℕ → Option Key) where
  -- the list of a history that the rule held of fits the keys
  pub list_fits : (o : Totals) (notes : List NoteView) → ((cells : List Cell) × KeepsRule keys cells o notes) → Fits keys (length (state o notes).texts)
  list_fits o notes held = (list_kept keys o (history notes) held.1.opened.distinct held.1.opened.fits held.1.legal).1

  -- the length of the opening's list and what the length word says are together the length of the list, which a word can have
  pub length_read : (o : Totals) (notes : List NoteView) (first n : ℕ) → first ≡ length o.texts → Reads keys o notes 0 0 n → first + n ≡ length (state o notes).texts
  length_read o notes first n is reads = let len = length_of o notes 0 n reads.0 in omega (arith, len, is)

  pub length_short : (o : Totals) (notes : List NoteView) (first n : ℕ) → first ≡ length o.texts → Reads keys o notes 0 0 n → first + n < 2 ^ 64
  length_short o notes first n is reads = let len = length_of o notes 0 n reads.0 in omega (arith, len, is, reads.1.1.short)

  -- a new book holds its rule
  pub opens : (texts : List Text) (size used limit : ℕ) → IsDistinct texts → Fits keys (length texts) → length texts < 2 ^ 64 → size ≢ 0 → used ≤ size → KeepsRule keys ((0, true) ∷ (0, true) ∷ (0, true) ∷ []) (opened texts size used limit) []
  opens texts size used limit distinct fits short ne le = record {
    opened = record { distinct = distinct; fits = fits; bucket = (size, used, ne, le, refl) };
    used = tt;
    chained = tt;
    words = (refl, (refl, (refl, tt)));
    apart = (((λ e. absurd (omega (arith, e))), ((λ e. absurd (omega (arith, e))), tt)), (((λ e. absurd (omega (arith, e))), tt), (tt, tt)));
    legal = tt;
    short = short;
  }

  -- the list after an append, from the one at which the text was lacking
  pub list_after : (o : Totals) (p : ℕ) (before given after : List NoteView) (t : Text) (old u : ℕ) → IsDone keys o p before given after (Append t) 0 0 old u → Reads keys o given 0 0 old → (state o after).texts ≡ (state o given).texts ++ t ∷ []
  list_after o p before given after t old u d reads =
      let mid : length (state o d.mid).texts ≡ length (state o given).texts = length_of o d.mid 0 old d.value ∙ sym (length_of o given 0 old reads.0) in
      let same = same_texts o given d.mid d.begins (sym mid) in
      ap (λ (l : List NoteView). (state o l).texts) d.last ∙ (ap (λ (s : Totals). s.texts) (one_more o d.mid d.note) ∙ (text_added (state o d.mid) d.note.event t d.is ∙ ap (λ (ts : List Text). ts ++ t ∷ []) (sym same)))

  -- the length word after an append
  pub length_after_append : (o : Totals) (p : ℕ) (before given after : List NoteView) (t : Text) (old u : ℕ) → IsDone keys o p before given after (Append t) 0 0 old u → Reads keys o after 0 0 (old + 1)
  length_after_append o p before given after t old u d = (head_grown d.mid d.note after 0 old t d.last d.is d.value, d.kept)
