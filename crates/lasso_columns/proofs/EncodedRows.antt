-- Rows that were encoded, one after another.
--
-- A null changes no list, and another line is interned. The texts from before keep their positions, so their
-- entries stay, and one more entry goes after them.
use Rattle.std.proofs.Common.{ℕ, ◌≡◌, ◌-◌, ◌<◌, ◌≤◌, Bool, true, false, not, cond, List, [], ◌∷◌, ◌++◌, is_some, Option, Some, Result, Ok, Err, MatchResult, refl, sym, ap, subst, ◌∙◌, append_assoc, append-nil}
use Rattle.std.specs.Prelude.{Vec, vec_capacity, vec_len}
use Rattle.std.specs.Str.{IsUtf8}
use Rattle.std.proofs.lemmas.List.Elements.{All-nil, All-push, All-append, filter-append}
use Rattle.lasso_parts.specs.Texts.{Text, position_of}
use Rattle.lasso_parts.specs.declared.util.LassoError.{LassoError}
use Rattle.lasso_parts.specs.declared.util.LassoErrorKind.TheVariants.{FailedAllocation}
use Rattle.lasso_single.specs.Filling.{extend}
use Rattle.lasso_single.specs.Intern.{InternsIn}
use Rattle.lasso_single.specs.Interner.{InternerView}
use Rattle.lasso_single.proofs.Filled.{accepted, extend_push}
use Rattle.lasso_single.proofs.KeyLists.{list_left, key_left}
use Rattle.lasso_single.specs.Coding.{spur_at, IsRefused, MayLackMemory}
use Rattle.lasso_single.proofs.Encoded.{interned_at}
use Rattle.lasso_columns.specs.Parts.{new_texts}
use Rattle.lasso_columns.specs.Rows.{is_null, texts_of, IsEntryAs, AreEntries, IsRowAs, IsRow, IsRefusedRow, EncodesRows}
use Rattle.lasso_columns.proofs.PartLists.{list_extended, extend_append}
use Rattle.lasso_columns.proofs.RowLists.{code_small, entries_longer, entries_push, texts_push}

-- ---- one row

-- the row of a null
pub row_of_null : {A : Type 0} (b : Bool) (old : InternerView) (line : Text) (before : List ℕ) (after : Vec ℕ A) (r : Result (Unit {0}) LassoError) → b ≡ true → MatchResult r (λ _. after.items ≡ before ++ 4294967295 ∷ []) (λ error. (error ≡ FailedAllocation) × (after.items ≡ before) × (vec_capacity after ≤ vec_len after)) → MatchResult r (λ _. (entry : ℕ) × IsRowAs b old line old entry × (after.items ≡ before ++ entry ∷ [])) (λ error. (old ≡ old) × (after.items ≡ before) × IsRefusedRow b old after line error)
row_of_null b old line before after (Ok x) e h = (4294967295, subst (λ b. IsRowAs b old line old 4294967295) (sym e) (refl, refl), h)
row_of_null b old line before after (Err error) e h = (refl, h.1, subst (λ b. IsRefusedRow b old after line error) (sym e) (h.0, h.2))

code_of_text : (old new : InternerView) (line : Text) (key code : ℕ) → InternsIn spur_at old line (Ok key) new → position_of new.texts line ≡ Some code → code < 4294967295
code_of_text old new line key code interns at =
    let here : position_of new.texts line ≡ Some (key - 1) = interned_at old new line key interns in
    let same : code ≡ key - 1 = cc in
    subst (λ n. n < 4294967295) (sym same) (code_small (position_of new.texts line) key (key_left spur_at old new line key interns))

-- the row of another line
pub row_of_text : {A : Type 0} (b : Bool) (old new : InternerView) (line : Text) (before : List ℕ) (was after : Vec ℕ A) (r : Result (Unit {0}) LassoError) → b ≡ false → MatchResult r (λ _. ((key : ℕ) × InternsIn {K = ℕ} spur_at old line (Ok key) new) × ((code : ℕ) × (position_of new.texts line ≡ Some code) × (after.items ≡ before ++ code ∷ [])) × (vec_capacity was ≤ vec_capacity after)) (λ error. (new ≡ old) × (after.items ≡ before) × IsRefused old line error × MayLackMemory old after line error × (vec_capacity was ≤ vec_capacity after)) → MatchResult r (λ _. (entry : ℕ) × IsRowAs b old line new entry × (after.items ≡ before ++ entry ∷ [])) (λ error. (new ≡ old) × (after.items ≡ before) × IsRefusedRow b old after line error)
row_of_text b old new line before was after (Ok x) e h =
    let small = code_of_text old new line h.0.0 h.1.0 h.0.1 h.1.1 in
    (h.1.0, subst (λ b. IsRowAs b old line new h.1.0) (sym e) (h.0, h.1.1, small), h.1.2)
row_of_text b old new line before was after (Err error) e h = (h.0, h.1, subst (λ b. IsRefusedRow b old after line error) (sym e) (h.2, h.3))

-- ---- rows

entries_stay : (null : Option Text) (there : Bool) (list : List Text) (last : Text) (lines : List Text) (entries : List ℕ) → AreEntries null list lines entries → AreEntries null (cond there list (list ++ last ∷ [])) lines entries
entries_stay null true list last lines entries are = are
entries_stay null false list last lines entries are = entries_longer null list (last ∷ []) lines entries are

-- the list and the entries with one row more
abbrev IsPut : Option Text → InternerView → List Text → List ℕ → InternerView → Text → ℕ → Type 0
IsPut null old done entries new line entry =
    extend spur_at old (texts_of null (done ++ line ∷ [])) accepted new × AreEntries null new.texts (done ++ line ∷ []) (entries ++ entry ∷ [])

row_put : (null : Option Text) (old mid new : InternerView) (done : List Text) (entries : List ℕ) (line : Text) (entry : ℕ) (b : Bool) → is_null null line ≡ b → extend spur_at old (texts_of null done) accepted mid → AreEntries null mid.texts done entries → IsRowAs b mid line new entry → IsPut null old done entries new line entry
row_put null old mid new done entries line entry true e list are is =
    let texts : texts_of null (done ++ line ∷ []) ≡ texts_of null done = texts_push null done line true e ∙ append-nil (texts_of null done) in
    let here : IsEntryAs (is_null null line) new.texts line entry = subst (λ b. IsEntryAs b new.texts line entry) (sym e) is.1 in
    let kept : AreEntries null new.texts done entries = subst (λ (i : InternerView). AreEntries null i.texts done entries) (sym is.0) are in
    let same : extend spur_at old (texts_of null done) accepted new = subst (λ (i : InternerView). extend spur_at old (texts_of null done) accepted i) (sym is.0) list in
    (subst (λ (ts : List Text). extend spur_at old ts accepted new) (sym texts) same, entries_push null new.texts done entries line entry kept here)
row_put null old mid new done entries line entry false e list are is =
    let here : IsEntryAs (is_null null line) new.texts line entry = subst (λ b. IsEntryAs b new.texts line entry) (sym e) (is.1, is.2) in
    let kept : AreEntries null new.texts done entries =
    subst (λ (ts : List Text). AreEntries null ts done entries) (sym (list_left spur_at mid new line is.0.0 is.0.1)) (entries_stay null (is_some (position_of mid.texts line)) mid.texts line done entries are) in
    let more : extend spur_at old (texts_of null done ++ line ∷ []) accepted new = extend_push spur_at old mid new (texts_of null done) line (Ok is.0.0) accepted list is.0.1 refl in
    (subst (λ (ts : List Text). extend spur_at old ts accepted new) (sym (texts_push null done line false e)) more, entries_push null new.texts done entries line entry kept here)

-- no row yet
pub rows_begin : (null : Option Text) (old : InternerView) (lines rest : List Text) (before : List ℕ) → rest ≡ lines → EncodesRows null old lines rest before old before
rows_begin null old lines rest before is = record {
  done = [];
  split = sym is;
  texts = All-nil IsUtf8;
  list = (refl, refl);
  entries = ([], sym (append-nil before), tt);
}

-- one more
pub rows_push : (null : Option Text) (old mid new : InternerView) (lines left : List Text) (line : Text) (rest : List Text) (before codes after : List ℕ) (entry : ℕ) → EncodesRows null old lines left before mid codes → left ≡ line ∷ rest → IsUtf8 line → IsRow null mid line new entry → after ≡ codes ++ entry ∷ [] → EncodesRows null old lines rest before new after
rows_push null old mid new lines left line rest before codes after entry so_far cut text is grown =
    let put = row_put null old mid new so_far.done so_far.entries.0 line entry (is_null null line) refl so_far.list so_far.entries.2 is in
    record {
      done = so_far.done ++ line ∷ [];
      split = so_far.split ∙ ap (λ (ls : List Text). so_far.done ++ ls) cut ∙ sym (append_assoc so_far.done (line ∷ []) rest);
      texts = All-push IsUtf8 so_far.done line so_far.texts text;
      list = put.0;
      entries = (so_far.entries.0 ++ entry ∷ [], grown ∙ ap (λ (es : List ℕ). es ++ entry ∷ []) so_far.entries.1 ∙ append_assoc before so_far.entries.0 (entry ∷ []), put.1);
    }

-- nothing has changed since
pub rows_still : (null : Option Text) (old mid new : InternerView) (lines rest : List Text) (before codes after : List ℕ) → EncodesRows null old lines rest before mid codes → new ≡ mid → after ≡ codes → EncodesRows null old lines rest before new after
rows_still null old mid new lines rest before codes after so_far same kept =
    subst (λ (es : List ℕ). EncodesRows null old lines rest before new es) (sym kept)
    (subst (λ (i : InternerView). EncodesRows null old lines rest before i codes) (sym same) so_far)

-- and more lines are left
pub rows_left : (null : Option Text) (old new : InternerView) (lines rest rest' : List Text) (before after : List ℕ) → EncodesRows null old lines rest before new after → rest' ≡ rest → EncodesRows null old lines rest' before new after
rows_left null old new lines rest rest' before after so_far same = subst (λ (ls : List Text). EncodesRows null old lines ls before new after) (sym same) so_far

-- other lines follow
pub rows_wider : (null : Option Text) (old new : InternerView) (lines rest more : List Text) (before after : List ℕ) → EncodesRows null old lines rest before new after → EncodesRows null old (lines ++ more) (rest ++ more) before new after
rows_wider null old new lines rest more before after so_far = record {
  done = so_far.done;
  split = ap (λ (ls : List Text). ls ++ more) so_far.split ∙ append_assoc so_far.done rest more;
  texts = so_far.texts;
  list = so_far.list;
  entries = so_far.entries;
}

entries_both : (null : Option Text) (list front back : List Text) (entries more : List ℕ) → AreEntries null list front entries → AreEntries null list back more → AreEntries null list (front ++ back) (entries ++ more)
entries_both null list [] back [] more are are' = are'
entries_both null list [] back (n ∷ ns) more are are' = absurd are
entries_both null list (l ∷ ls) back [] more are are' = absurd are
entries_both null list (l ∷ ls) back (n ∷ ns) more are are' = (are.0, entries_both null list ls back ns more are.1 are')

-- rows after others
pub rows_join : (null : Option Text) (old mid new : InternerView) (lines rest left : List Text) (before middle after : List ℕ) → EncodesRows null old lines rest before mid middle → EncodesRows null mid rest left middle new after → EncodesRows null old lines left before new after
rows_join null old mid new lines rest left before middle after first second =
    let texts : texts_of null (first.done ++ second.done) ≡ texts_of null first.done ++ texts_of null second.done = filter-append (λ l. not (is_null null l)) first.done second.done in
    let stay : AreEntries null new.texts first.done first.entries.0 =
    subst (λ (ts : List Text). AreEntries null ts first.done first.entries.0) (sym (list_extended mid new (texts_of null second.done) second.list))
    (entries_longer null mid.texts (new_texts mid.texts (texts_of null second.done)) first.done first.entries.0 first.entries.2) in
    record {
      done = first.done ++ second.done;
      split = first.split ∙ ap (λ (ls : List Text). first.done ++ ls) second.split ∙ sym (append_assoc first.done second.done left);
      texts = All-append IsUtf8 first.done second.done first.texts second.texts;
      list =
          subst (λ (ts : List Text). extend spur_at old ts accepted new) (sym texts)
          (extend_append old mid new (texts_of null first.done) (texts_of null second.done) first.list second.list);
      entries = (
        first.entries.0 ++ second.entries.0,
        second.entries.1 ∙ ap (λ (es : List ℕ). es ++ second.entries.0) first.entries.1 ∙ append_assoc before first.entries.0 second.entries.0,
        entries_both null new.texts first.done second.done first.entries.0 second.entries.0 stay second.entries.2,
      );
    }
