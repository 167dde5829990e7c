-- Lines that are encoded beside a list.
--
-- A text that the list has keeps its position when others follow. One that it lacks is found after it, where
-- it is found among the added ones. So entries stay those of their lines while texts are added, and the added
-- ones are those that the list lacks, each once.
use Rattle.std.proofs.Common.{ℕ, ◌≡◌, ◌+◌, ◌-◌, ◌<◌, Result, Ok, Err, is_err, is_ok, List, [], ◌∷◌, ◌++◌, length, Bool, true, false, cond, is_some, Option, Some, None, IfSome, refl, sym, ap, subst, ◌∙◌, append_assoc, append-nil}
use Rattle.std.specs.Prelude.{All}
use Rattle.std.specs.Str.{IsUtf8}
use Rattle.std.proofs.lemmas.List.Elements.{All-nil, All-push}
use Rattle.lasso_parts.specs.Texts.{Text, position_of, key_of}
use Rattle.lasso_single.specs.Coding.{spur_at}
use Rattle.lasso_single.proofs.Encoded.{found_at}
use Rattle.lasso_input.specs.Lines.{lines_of}
use Rattle.lasso_columns.specs.Parts.{new_texts}
use Rattle.lasso_columns.specs.Rows.{is_null, texts_of, IsEntryAs, AreEntries}
use Rattle.lasso_columns.specs.Blocks.{IsBlock, IsRowBeside, IsCodedBeside, IsAddedAt}
use Rattle.lasso_columns.proofs.RowLists.{code_small, position_longer, position_past, position_nowhere, entries_longer, entries_push, texts_push}

none_is : {X : Type 0} (o : Option X) → is_some o ≡ false → o ≡ None
none_is None e = refl
none_is (Some n) e = absurd (cc)

-- ---- one text

-- the list has it
pub found_beside : (list added : List Text) (text : Text) (key code : ℕ) → key_of spur_at list text ≡ Some key → code ≡ key - 1 → IsCodedBeside list added text added code
found_beside list added text key code found is =
    let here : position_of list text ≡ Some code = found_at (position_of list text) key found ∙ ap (λ k. Some k) (sym is) in
    let longer : position_of (list ++ added) text ≡ Some code = position_longer list added text code here in
    let none : List Text = [] in
    let kept : added ++ new_texts (list ++ added) (text ∷ []) ≡ added =
    ap (λ (o : Option ℕ). added ++ cond (is_some o) none (text ∷ none)) longer ∙ append-nil added in
    (sym kept, longer, subst (λ n. n < 4294967295) (sym is) (code_small (position_of list text) key found))

same_new : (list old : List Text) (text : Text) (o : Option ℕ) → position_of list text ≡ None → position_of old text ≡ o → new_texts (list ++ old) (text ∷ []) ≡ new_texts old (text ∷ [])
same_new list old text None none at =
    let none' : List Text = [] in
    ap (λ (p : Option ℕ). cond (is_some p) none' (text ∷ none')) (position_nowhere list old text none at ∙ sym at)
same_new list old text (Some n) none at =
    let none' : List Text = [] in
    ap (λ (p : Option ℕ). cond (is_some p) none' (text ∷ none')) (position_past list old text n none at) ∙ sym (ap (λ (p : Option ℕ). cond (is_some p) none' (text ∷ none')) at)

-- the list lacks it
pub added_beside : (list old : List Text) (text : Text) (new : List Text) (base code : ℕ) → is_some (position_of list text) ≡ false → base ≡ length list → IsAddedAt base old text new code → IsCodedBeside list old text new code
added_beside list old text new base code absent long is =
    let none : position_of list text ≡ None = none_is (position_of list text) absent in
    let same = same_new list old text (position_of old text) none refl in
    let at : position_of (list ++ new) text ≡ Some (length list + is.1.0) = position_past list new text is.1.0 none is.1.1 in
    (is.0 ∙ ap (λ (ts : List Text). old ++ ts) (sym same), at ∙ ap (λ n. Some n) (ap (λ n. n + is.1.0) (sym long) ∙ sym is.1.2), is.2)

pub if_some_then : {T : Type 0} (P Q : T → Type 0) (o : Option T) → IfSome o P → ((x : T) → P x → Q x) → IfSome o Q
if_some_then P Q None h f = tt
if_some_then P Q (Some x) h f = f x h

-- ---- one text after others

push_by : (list done : List Text) (t text : Text) (there : Bool) → new_texts list (done ++ text ∷ []) ≡ new_texts list done ++ new_texts (list ++ new_texts list done) (text ∷ []) → new_texts (list ++ t ∷ []) (done ++ text ∷ []) ≡ new_texts (list ++ t ∷ []) done ++ new_texts ((list ++ t ∷ []) ++ new_texts (list ++ t ∷ []) done) (text ∷ []) → cond there (new_texts list (done ++ text ∷ [])) (t ∷ new_texts (list ++ t ∷ []) (done ++ text ∷ [])) ≡ cond there (new_texts list done) (t ∷ new_texts (list ++ t ∷ []) done) ++ new_texts (list ++ cond there (new_texts list done) (t ∷ new_texts (list ++ t ∷ []) done)) (text ∷ [])
push_by list done t text true same more = same
push_by list done t text false same more =
    let news = new_texts (list ++ t ∷ []) done in
    ap (λ (ts : List Text). t ∷ ts) (more ∙ ap (λ (ts : List Text). news ++ new_texts ts (text ∷ [])) (append_assoc list (t ∷ []) news))

new_push : (list done : List Text) (text : Text) → new_texts list (done ++ text ∷ []) ≡ new_texts list done ++ new_texts (list ++ new_texts list done) (text ∷ [])
new_push list [] text = ap (λ (ts : List Text). new_texts ts (text ∷ [])) (sym (append-nil list))
new_push list (t ∷ done) text = push_by list done t text (is_some (position_of list t)) (new_push list done text) (new_push (list ++ t ∷ []) done text)

-- ---- rows

-- these lines have these entries beside the list
pub record RowsBeside (null : Option Text) (list done added : List Text) (entries : List ℕ) : Type 0 where
  pub added_are : added ≡ new_texts list (texts_of null done)
  pub entries_are : AreEntries null (list ++ added) done entries

row_push : (b : Bool) (null : Option Text) (list done added : List Text) (entries : List ℕ) (line : Text) (added' : List Text) (entry : ℕ) → is_null null line ≡ b → RowsBeside null list done added entries → IsRowBeside b list added line added' entry → RowsBeside null list (done ++ line ∷ []) added' (entries ++ entry ∷ [])
row_push true null list done added entries line added' entry e so_far is =
    let texts : texts_of null (done ++ line ∷ []) ≡ texts_of null done = texts_push null done line true e ∙ append-nil (texts_of null done) in
    let kept : AreEntries null (list ++ added') done entries = subst (λ (ts : List Text). AreEntries null (list ++ ts) done entries) (sym is.0) so_far.entries_are in
    let here : IsEntryAs (is_null null line) (list ++ added') line entry = subst (λ b. IsEntryAs b (list ++ added') line entry) (sym e) is.1 in
    record {
      added_are = is.0 ∙ so_far.added_are ∙ ap (new_texts list) (sym texts);
      entries_are = entries_push null (list ++ added') done entries line entry kept here;
    }
row_push false null list done added entries line added' entry e so_far is =
    let texts : texts_of null (done ++ line ∷ []) ≡ texts_of null done ++ line ∷ [] = texts_push null done line false e in
    let one = new_texts (list ++ added) (line ∷ []) in
    let longer : (list ++ added) ++ one ≡ list ++ added' = append_assoc list added one ∙ ap (λ (ts : List Text). list ++ ts) (sym is.0) in
    let kept : AreEntries null (list ++ added') done entries =
    subst (λ (ts : List Text). AreEntries null ts done entries) longer (entries_longer null (list ++ added) one done entries so_far.entries_are) in
    let here : IsEntryAs (is_null null line) (list ++ added') line entry = subst (λ b. IsEntryAs b (list ++ added') line entry) (sym e) (is.1, is.2) in
    record {
      added_are =
          is.0 ∙ ap (λ (ts : List Text). ts ++ new_texts (list ++ ts) (line ∷ [])) so_far.added_are ∙ sym (new_push list (texts_of null done) line) ∙ ap (new_texts list) (sym texts);
      entries_are = entries_push null (list ++ added') done entries line entry kept here;
    }

-- ---- the lines of a block

-- the lines before the rest were encoded
pub record BlockSoFar (null : Option Text) (list : List Text) (bytes rest : List ℕ) (added : List Text) (entries : List ℕ) : Type 0 where
  pub done : List Text
  pub split : lines_of bytes ≡ done ++ lines_of rest
  pub texts : All IsUtf8 done
  pub rows : RowsBeside null list done added entries

pub block_begins : (null : Option Text) (list : List Text) (bytes rest : List ℕ) (added : List Text) (entries : List ℕ) → rest ≡ bytes → added ≡ [] → entries ≡ [] → BlockSoFar null list bytes rest added entries
block_begins null list bytes rest added entries is none no_entries = record {
  done = [];
  split = ap lines_of (sym is);
  texts = All-nil IsUtf8;
  rows = record { added_are = none; entries_are = subst (λ es. AreEntries null (list ++ added) [] es) (sym no_entries) tt };
}

pub block_push : (null : Option Text) (list : List Text) (bytes rest : List ℕ) (added : List Text) (entries : List ℕ) (line behind : List ℕ) (added' : List Text) (entry : ℕ) (entries' : List ℕ) → BlockSoFar null list bytes rest added entries → lines_of rest ≡ line ∷ lines_of behind → IsUtf8 line → IsRowBeside (is_null null line) list added line added' entry → entries' ≡ entries ++ entry ∷ [] → BlockSoFar null list bytes behind added' entries'
block_push null list bytes rest added entries line behind added' entry entries' so_far cut text is grown = record {
  done = so_far.done ++ line ∷ [];
  split = so_far.split ∙ ap (λ (ls : List Text). so_far.done ++ ls) cut ∙ sym (append_assoc so_far.done (line ∷ []) (lines_of behind));
  texts = All-push IsUtf8 so_far.done line so_far.texts text;
  rows = subst (λ es. RowsBeside null list (so_far.done ++ line ∷ []) added' es) (sym grown) (row_push (is_null null line) null list so_far.done added entries line added' entry refl so_far.rows is);
}

-- all lines
pub block_ends : (null : Option Text) (list : List Text) (bytes rest : List ℕ) (added : List Text) (entries : List ℕ) → BlockSoFar null list bytes rest added entries → rest ≡ [] → IsBlock null list (lines_of bytes) added entries true
block_ends null list bytes rest added entries so_far none = record {
  done = so_far.done;
  lines_are = (so_far.texts, so_far.split ∙ ap (λ bs. so_far.done ++ lines_of bs) none ∙ append-nil so_far.done);
  added_are = so_far.rows.added_are;
  entries_are = so_far.rows.entries_are;
}

-- the lines before one that is not UTF-8
pub block_stops : (null : Option Text) (list : List Text) (bytes rest : List ℕ) (added : List Text) (entries : List ℕ) (line behind : List ℕ) → BlockSoFar null list bytes rest added entries → lines_of rest ≡ line ∷ lines_of behind → ¬ (IsUtf8 line) → IsBlock null list (lines_of bytes) added entries false
block_stops null list bytes rest added entries line behind so_far cut not_text = record {
  done = so_far.done;
  lines_are = (so_far.texts, (line, lines_of behind, so_far.split ∙ ap (λ (ls : List Text). so_far.done ++ ls) cut, not_text));
  added_are = so_far.rows.added_are;
  entries_are = so_far.rows.entries_are;
}

-- a push that was not refused
pub pushed : {X E : Type 0} (r : Result (Unit {0}) E) (after grown before : List X) → after ≡ cond (is_ok r) grown before → is_err r ≡ false → after ≡ grown
pushed (Ok done) after grown before is fine = is
pushed (Err e) after grown before is fine = absurd (cc)
