-- The texts of a dictionary, read one after another.
--
-- After the first lines, the others are read from the bytes that are left. So one more line is read after
-- those, and an error of the next line is the error of all. The interner has the texts of these lines.
use Rattle.std.proofs.Common.{ℕ, zero, suc, ◌≡◌, ◌+◌, ◌-◌, ◌<◌, Bool, true, false, cond, List, [], ◌∷◌, ◌++◌, length, is_some, Option, Some, None, option_map, Ok, Err, refl, sym, ap, subst, ◌∙◌, arith, inr}
use Rattle.std.specs.Prelude.{All}
use Rattle.std.proofs.lemmas.List.{length_push}
use Rattle.std.proofs.lemmas.List.Elements.{All-push}
use Rattle.hex.specs.Hex.{IsBytes}
use Rattle.lasso_parts.specs.Texts.{Text, position_of}
use Rattle.lasso_single.specs.Filling.{extend}
use Rattle.lasso_single.specs.Interner.{InternerView, made_with}
use Rattle.lasso_single.proofs.Filled.{accepted, extend_push}
use Rattle.lasso_columns.proofs.Interned.{list_interned}
use Rattle.lasso_single.specs.Coding.{spur_at}
use Rattle.lasso_input.specs.Lines.{NoFeed, is_line_feed}
use Rattle.lasso_input.specs.Texts.{is_let_in, text_of}
use Rattle.lasso_codes.specs.Stages.{Reading}
use Rattle.lasso_codes.specs.Limits.{line_texts, Admits}
use Rattle.lasso_codes.specs.Reading.{ReadTexts, on_text, texts_from, read_list, first_texts, AddsText, AddError, IsTextError, TextsError}
use Rattle.lasso_codes.specs.Streams.{cut_line}
use Rattle.lasso_codes.specs.declared.error.ColumnError.{ColumnError}
use Rattle.lasso_codes.specs.declared.error.ColumnError.TheVariants.{NoHeader, NoText, NotUtf8, Doubled, TextRefused, NoEntry, NotEntry, PastTexts, IsNull, NotMerged, HasEntries, Absent}
use Rattle.lasso_codes.specs.declared.error.RunError.TheVariants.{Column}
use Rattle.lasso_codes.proofs.LineTexts.{position_of_text, texts_push}

-- ---- texts after the first ones

pub tested : (let_in there : Bool) (out doubled : ColumnError) (first whole res : ReadTexts) (read : List Text × List ℕ) → cond let_in (cond there (Err doubled) first) (Err out) ≡ Ok read → (first ≡ Ok read → whole ≡ res) → cond let_in (cond there (Err doubled) whole) (Err out) ≡ res
tested false there out doubled first whole res read e then = cc
tested true true out doubled first whole res read e then = cc
tested true false out doubled first whole res read e then = then e

after_text : (only : Bool) (cut : Option (Text × List ℕ)) (list : List Text) (first whole : List Text → List ℕ → ReadTexts) (res : ReadTexts) (read : List Text × List ℕ) → on_text only cut list first ≡ Ok read → ((ts : List Text) (bs : List ℕ) → first ts bs ≡ Ok read → whole ts bs ≡ res) → on_text only cut list whole ≡ res
after_text only None list first whole res read e then = cc
after_text only (Some cut) list first whole res read e then =
    tested (is_let_in only cut.0) (is_some (position_of list cut.0)) (NotUtf8 (length list + 1)) (Doubled (length list + 1)) (first (list ++ cut.0 ∷ []) cut.1) (whole (list ++ cut.0 ∷ []) cut.1) res read e
    (then (list ++ cut.0 ∷ []) cut.1)

texts_split : (only : Bool) (n m : ℕ) (list : List Text) (bytes : List ℕ) (read : List Text × List ℕ) → texts_from only n list bytes ≡ Ok read → texts_from only (n + m) list bytes ≡ texts_from only m read.0 read.1
texts_split only zero m list bytes read e =
    let same : (list, bytes) ≡ read = cc in
    let count : zero + m ≡ m = omega arith in
    ap (λ k. texts_from only k list bytes) count ∙ ap (λ (p : List Text × List ℕ). texts_from only m p.0 p.1) same
texts_split only (suc n) m list bytes read e =
    let count : suc n + m ≡ suc (n + m) = omega arith in
    ap (λ k. texts_from only k list bytes) count
    ∙ after_text only (cut_line bytes) list (texts_from only n) (texts_from only (n + m)) (texts_from only m read.0 read.1) read e (λ ts bs is. texts_split only n m ts bs read is)

-- ---- the next text

module _ (only : Bool) (m : ℕ) (list : List Text) (bytes left : List ℕ) (line : Text) (cut : cut_line bytes ≡ Some (line, left)) where
  on_it : texts_from only (suc m) list bytes ≡ on_text only (Some (line, left)) list (texts_from only m)
  on_it = ap (λ c. on_text only c list (texts_from only m)) cut

  by_test : (let_in there : Bool) → is_let_in only line ≡ let_in → is_some (position_of list line) ≡ there
      → texts_from only (suc m) list bytes ≡ cond let_in (cond there (Err (Doubled (length list + 1))) (texts_from only m (list ++ line ∷ []) left)) (Err (NotUtf8 (length list + 1)))
  by_test let_in there lets at =
      let out : ReadTexts = Err (NotUtf8 (length list + 1)) in
      let doubled : ReadTexts = Err (Doubled (length list + 1)) in
      let others : ReadTexts = texts_from only m (list ++ line ∷ []) left in
      on_it ∙ ap (λ b. cond b (cond (is_some (position_of list line)) doubled others) out) lets ∙ ap (λ b. cond let_in (cond b doubled others) out) at

pub texts_missing : (only : Bool) (m : ℕ) (list : List Text) (bytes : List ℕ) → cut_line bytes ≡ None → texts_from only (suc m) list bytes ≡ Err (NoText (length list + 1))
texts_missing only m list bytes cut = ap (λ c. on_text only c list (texts_from only m)) cut

-- ---- a dictionary on its way

-- the text of a line that was added was appended
added_last : (only : Bool) (now after : InternerView) (line : Text) → AddsText only now line after → after.texts ≡ now.texts ++ text_of line ∷ []
added_last only now after line adds =
    list_interned spur_at now after (text_of line) adds.2.0 adds.2.1 ∙ ap (λ (o : Option ℕ). cond (is_some o) now.texts (now.texts ++ text_of line ∷ [])) adds.1

pub adds_more : (only : Bool) (old now after : InternerView) (line : Text) → extend spur_at old now.texts accepted now → AddsText only now line after → extend spur_at old after.texts accepted after
adds_more only old now after line list adds =
    subst (λ (ts : List Text). extend spur_at old ts accepted after) (sym (added_last only now after line adds)) (extend_push spur_at old now after now.texts (text_of line) (Ok adds.2.0) accepted list adds.2.1 refl)

module _ (only : Bool) (bytes rest : List ℕ) (position distinct : ℕ) (now : InternerView) (small : position < distinct) (so_far : Reading only bytes rest position now) where
  others_ahead : (m : ℕ) → position + m ≡ distinct → texts_from only distinct [] bytes ≡ texts_from only m so_far.done rest
  others_ahead m count = ap (λ k. texts_from only k [] bytes) (sym count) ∙ texts_split only position m [] bytes (so_far.done, rest) so_far.read

  next_ahead : texts_from only distinct [] bytes ≡ texts_from only (suc (distinct - (position + 1))) so_far.done rest
  next_ahead = others_ahead (suc (distinct - (position + 1))) (omega (arith, small))

  -- the line is where its text is
  at_text : (line : Text) → IsBytes line → position_of now.texts (text_of line) ≡ position_of so_far.done line
  at_text line line_bytes = ap (λ (ts : List Text). position_of ts (text_of line)) so_far.texts ∙ position_of_text so_far.done line so_far.are_bytes line_bytes

  -- one line more
  pub reading_push : (line : Text) (left : List ℕ) (after : InternerView) → cut_line rest ≡ Some (line, left) → AddsText only now line after → Reading only bytes left (position + 1) after
  reading_push line left after cut adds =
      let new : position_of so_far.done line ≡ None = sym (at_text line adds.0.0) ∙ adds.1 in
      let one : texts_from only 1 so_far.done rest ≡ Ok (so_far.done ++ line ∷ [], left) = by_test only 0 so_far.done rest left line cut true false adds.0.1 (ap is_some new) in
      record {
        done = so_far.done ++ line ∷ [];
        read = texts_split only position 1 [] bytes (so_far.done, rest) so_far.read ∙ one;
        are_bytes = All-push IsBytes so_far.done line so_far.are_bytes adds.0.0;
        texts = added_last only now after line adds ∙ ap (λ (ts : List Text). ts ++ text_of line ∷ []) so_far.texts ∙ sym (texts_push so_far.done line);
        counted = length_push so_far.done line ∙ ap (λ n. n + 1) so_far.counted;
      }

  -- the texts before the next one
  before_next : (number : ℕ) → number ≡ position + 1 → first_texts only (number - 1) bytes ≡ so_far.done
  before_next number is =
      let n : number - 1 ≡ position = omega (arith, is) in ap (λ k. first_texts only k bytes) n ∙ ap read_list so_far.read

  admitted : (limit number : ℕ) → number ≡ position + 1 → extend spur_at (made_with 4096 limit) now.texts accepted now → Admits limit (line_texts (first_texts only (number - 1) bytes))
  admitted limit number is list =
      subst (λ (ts : List Text). Admits limit ts) (so_far.texts ∙ ap line_texts (sym (before_next number is))) (now, list)

  -- the next text is missing
  pub text_missing : (limit : ℕ) → extend spur_at (made_with 4096 limit) now.texts accepted now → cut_line rest ≡ None → IsTextError only limit distinct bytes (NoText (position + 1))
  text_missing limit list cut =
      let error : texts_from only distinct [] bytes ≡ Err (NoText (length so_far.done + 1)) = next_ahead ∙ texts_missing only (distinct - (position + 1)) so_far.done rest cut in
      (error ∙ ap (λ n. Err (NoText (n + 1))) so_far.counted, admitted limit (position + 1) refl list)

  pub reading_misses : (limit column : ℕ) (after : Option (List ℕ)) → extend spur_at (made_with 4096 limit) now.texts accepted now → cut_line rest ≡ None → TextsError only limit distinct column bytes after (Column column (NoText (position + 1)))
  reading_misses limit column after list cut = inr (NoText (position + 1), refl, text_missing limit list cut)

  -- the next text is bad
  faulty : (limit : ℕ) (line : Text) (left : List ℕ) (error : ColumnError) → extend spur_at (made_with 4096 limit) now.texts accepted now → cut_line rest ≡ Some (line, left) → AddError only now line (position + 1) error → IsTextError only limit distinct bytes error
  faulty limit line left NoHeader list cut is = absurd is
  faulty limit line left (NoText number) list cut is = absurd is
  faulty limit line left (NotUtf8 number) list cut is =
      let bad : texts_from only distinct [] bytes ≡ Err (NotUtf8 (length so_far.done + 1)) =
      next_ahead ∙ by_test only (distinct - (position + 1)) so_far.done rest left line cut false (is_some (position_of so_far.done line)) is.1 refl in
      (bad ∙ ap (λ n. Err (NotUtf8 n)) (ap (λ n. n + 1) so_far.counted ∙ sym is.0), admitted limit number is.0 list)
  faulty limit line left (Doubled number) list cut is =
      let there : is_some (position_of so_far.done line) ≡ true = ap is_some (sym (at_text line is.1.0)) ∙ is.2 in
      let bad : texts_from only distinct [] bytes ≡ Err (Doubled (length so_far.done + 1)) =
      next_ahead ∙ by_test only (distinct - (position + 1)) so_far.done rest left line cut true true is.1.1 there in
      (bad ∙ ap (λ n. Err (Doubled n)) (ap (λ n. n + 1) so_far.counted ∙ sym is.0), admitted limit number is.0 list)
  faulty limit line left (TextRefused number error) list cut is =
      let interned = subst (λ (ts : List Text). extend spur_at (made_with 4096 limit) ts accepted now) so_far.texts list in
      (position, is.0, small, (so_far.done, rest, so_far.read, (line, left, cut, (now, interned, is.2, is.3))))
  faulty limit line left (NoEntry number) list cut is = absurd is
  faulty limit line left (NotEntry number) list cut is = absurd is
  faulty limit line left (PastTexts number) list cut is = absurd is
  faulty limit line left (IsNull number) list cut is = absurd is
  faulty limit line left (NotMerged error) list cut is = absurd is
  faulty limit line left HasEntries list cut is = absurd is
  faulty limit line left (Absent number) list cut is = absurd is

  pub reading_fails : (limit column : ℕ) (after : Option (List ℕ)) (line : Text) (left : List ℕ) (error : ColumnError) → extend spur_at (made_with 4096 limit) now.texts accepted now → cut_line rest ≡ Some (line, left) → AddError only now line (position + 1) error → TextsError only limit distinct column bytes after (Column column error)
  reading_fails limit column after line left error list cut is = inr (error, refl, faulty limit line left error list cut is)

-- ---- texts that were read

-- each is without a line feed, and let in
abbrev pub ArePlain : Bool → List Text → Type 0
ArePlain only [] = Unit {0}
ArePlain only (t ∷ ts) = NoFeed t × (is_let_in only t ≡ true) × ArePlain only ts

pub plain_both : (only : Bool) (xs ys : List Text) → ArePlain only xs → ArePlain only ys → ArePlain only (xs ++ ys)
plain_both only [] ys plain others = others
plain_both only (x ∷ xs) ys plain others = (plain.0, plain.1, plain_both only xs ys plain.2 others)

feed_free : (b : ℕ) (bytes line left : List ℕ) (feed : Bool) (cut : Option (List ℕ × List ℕ)) → is_line_feed b ≡ feed → cond {A = Option (List ℕ × List ℕ)} feed (Some ([], bytes)) (option_map (λ (c : List ℕ × List ℕ). (b ∷ c.0, c.1)) cut) ≡ Some (line, left) → ((front rest : List ℕ) → cut ≡ Some (front, rest) → NoFeed front) → NoFeed line
feed_free b bytes line left true cut is e then = let both : ◌≡◌ {A = List ℕ × List ℕ} ([], bytes) (line, left) = cc in subst NoFeed (ap (λ (p : List ℕ × List ℕ). p.0) both) tt
feed_free b bytes line left false None is e then = absurd (cc)
feed_free b bytes line left false (Some c) is e then = let both : ◌≡◌ {A = List ℕ × List ℕ} (b ∷ c.0, c.1) (line, left) = cc in subst NoFeed (ap (λ (p : List ℕ × List ℕ). p.0) both) (is, then c.0 c.1 refl)

-- a line that was cut off has no line feed
pub cut_free : (bytes line left : List ℕ) → cut_line bytes ≡ Some (line, left) → NoFeed line
cut_free [] line left e = absurd (cc)
cut_free (b ∷ bytes) line left e = feed_free b bytes line left (is_line_feed b) (cut_line bytes) refl e (λ front rest is. cut_free bytes front rest is)

pub plain_test : (let_in there : Bool) (out doubled : ColumnError) (others : ReadTexts) (read : List Text × List ℕ) → cond let_in (cond there (Err doubled) others) (Err out) ≡ Ok read → others ≡ Ok read
plain_test false there out doubled others read e = absurd (cc)
plain_test true true out doubled others read e = absurd (cc)
plain_test true false out doubled others read e = e

let_in_test : (let_in : Bool) (out : ColumnError) (others : ReadTexts) (read : List Text × List ℕ) → cond let_in others (Err out) ≡ Ok read → let_in ≡ true
let_in_test false out others read e = absurd (cc)
let_in_test true out others read e = refl

plain_text : (only : Bool) (cut : Option (Text × List ℕ)) (bytes : List ℕ) (list : List Text) (go : List Text → List ℕ → ReadTexts) (read : List Text × List ℕ) → cut_line bytes ≡ cut → on_text only cut list go ≡ Ok read → ArePlain only list → ((ts : List Text) (bs : List ℕ) → go ts bs ≡ Ok read → ArePlain only ts → ArePlain only read.0) → ArePlain only read.0
plain_text only None bytes list go read at e plain then = absurd (cc)
plain_text only (Some cut) bytes list go read at e plain then =
    let told = plain_test (is_let_in only cut.0) (is_some (position_of list cut.0)) (NotUtf8 (length list + 1)) (Doubled (length list + 1)) (go (list ++ cut.0 ∷ []) cut.1) read e in
    then (list ++ cut.0 ∷ []) cut.1 told (plain_both only list (cut.0 ∷ []) plain (cut_free bytes cut.0 cut.1 at, let_in_test (is_let_in only cut.0) (NotUtf8 (length list + 1)) _ read e, tt))

pub texts_plain : (only : Bool) (n : ℕ) (list : List Text) (bytes : List ℕ) (read : List Text × List ℕ) → texts_from only n list bytes ≡ Ok read → ArePlain only list → ArePlain only read.0
texts_plain only zero list bytes read e plain = let same : (list, bytes) ≡ read = cc in subst (λ (r : List Text × List ℕ). ArePlain only r.0) same plain
texts_plain only (suc n) list bytes read e plain = plain_text only (cut_line bytes) bytes list (texts_from only n) read refl e plain (λ ts bs is so. texts_plain only n ts bs read is so)
