-- Rounds of lines that were encoded and counted one after another.
--
-- The first lines were let in, interned and counted, and the others are left. A round encodes the first of those. Its
-- codes are the positions of their texts, so counting the codes counts the texts; a new text has a zero before. After
-- the last round no line is left. If a round stops, the lines before are those of the earlier rounds and those of this
-- one that have codes.
use Rattle.std.proofs.Common.{ℕ, zero, suc, ◌≡◌, ◌+◌, ◌-◌, ◌≤◌, ◌^◌, inl, inr, Bool, List, [], ◌∷◌, ◌++◌, length, take, sum, Option, Some, None, refl, sym, ap, subst, ◌∙◌, arith, append_assoc, append-nil, length-append, length-take}
use Rattle.std.specs.Prelude.{All, IsSomeAnd, Vec, replicate, slice_get}
use Rattle.std.proofs.lemmas.List.{map-append, take_all}
use Rattle.std.proofs.lemmas.List.Elements.{All-append, All-nil}
use Rattle.std.proofs.lemmas.List.Sums.{sum_by-append}
use Rattle.std.proofs.lemmas.Option.{slice_get_within}
use Rattle.std.specs.IoError.{error_kind}
use Rattle.std.specs.declared.io.Error.{Error}
use Rattle.std.specs.declared.io.ErrorKind.TheVariants.{OutOfMemory}
use Rattle.hex.specs.Hex.{IsBytes}
use Rattle.lasso_parts.specs.Texts.{Text}
use Rattle.lasso_parts.specs.declared.util.LassoErrorKind.TheVariants.{FailedAllocation}
use Rattle.lasso_single.specs.Codes.{AreCodes}
use Rattle.lasso_single.specs.Coding.{spur_at}
use Rattle.lasso_single.specs.Filling.{extend}
use Rattle.lasso_single.specs.Interner.{InternerView, made_with}
use Rattle.lasso_single.proofs.Filled.{accepted}
use Rattle.lasso_columns.specs.Adding.{AddsCounts, CountsCodes}
use Rattle.lasso_columns.specs.Blocks.{numbered}
use Rattle.lasso_columns.specs.Counts.{AreCounts, raised, raised_by}
use Rattle.lasso_columns.specs.Parts.{new_texts}
use Rattle.lasso_columns.specs.Rows.{EncodesRows}
use Rattle.lasso_columns.specs.Streams.{StopsInStreamBy}
use Rattle.lasso_columns.specs.Texts.{texts_by}
use Rattle.lasso_columns.specs.declared.faults.LineError.{LineError}
use Rattle.lasso_columns.specs.declared.faults.LineError.TheVariants.{Refused, NotText}
use Rattle.lasso_columns.specs.declared.line_texts.LineTexts.{LineTexts}
use Rattle.lasso_columns.specs.declared.line_texts.LineTexts.TheVariants.{OfBytes}
use Rattle.lasso_columns.specs.declared.stream.StreamError.{StreamError}
use Rattle.lasso_columns.specs.declared.stream.StreamError.TheVariants as stream
use Rattle.lasso_columns.proofs.Added.{adds_join, all_are, padded, raised_sum}
use Rattle.lasso_columns.proofs.PartLists.{extend_append, list_extended}
use Rattle.lasso_input.specs.Lines.{lines_of}
use Rattle.lasso_input.specs.Texts.{text_of}
use Rattle.lasso_codes.specs.Counts.{CountingError, CountsLines, StopsCountingRound, StopsRound, grown_to, run_error_at}
use Rattle.lasso_codes.specs.Encode.{StopsEncoding}
use Rattle.lasso_codes.specs.Errors.{AreTooMany, IsReadError}
use Rattle.lasso_codes.specs.Limits.{line_texts, AreLetIn, InternsLines, IsLetIn, IsLineFault, IsNextError}
use Rattle.lasso_codes.specs.Streams.{FailsAfter}
use Rattle.lasso_codes.specs.declared.error.RunError.{RunError}
use Rattle.lasso_codes.specs.declared.error.RunError.TheVariants.{Line, TooManyLines, ReadFailed, WriteFailed, ReaderGone, Column}
use Rattle.lasso_codes.proofs.CountedLines.{unmade}
use Rattle.lasso_codes.proofs.EncodedStream.{RowsRun, RowsStop, entries_codes, entries_many, library_line, library_read, rows_all, stream_stop, texts_none}

-- the first lines were interned and counted, and the rest is left
pub record CountedRounds (only : Bool) (lines rest : List Text) (old now : InternerView) (counts : List ℕ) (number : ℕ) : Type 0 where
  pub done : List Text
  pub split : lines ≡ done ++ rest
  pub let_in : AreLetIn only done
  pub list : extend spur_at old (line_texts done) accepted now
  pub adds : AddsCounts (line_texts done) [] [] now.texts counts
  pub many : length done ≡ number

none_counted : (list : List Text) (counts : List ℕ) → list ≡ [] → counts ≡ [] → AddsCounts [] [] [] list counts
none_counted list counts no_texts no_counts = rw (no_texts, no_counts) (record { each = λ text. refl; lengths = refl; total = refl })

pub rounds_begin : (only : Bool) (lines : List Text) (old : InternerView) (counts : List ℕ) (number : ℕ) → old.texts ≡ [] → counts ≡ [] → number ≡ 0 → CountedRounds only lines lines old old counts number
rounds_begin only lines old counts number no_texts no_counts none = record {
  done = [];
  split = refl;
  let_in = All-nil (IsLetIn only);
  list = (refl, refl);
  adds = none_counted old.texts counts no_texts no_counts;
  many = sym none;
}

-- after the last round no line is left
pub rounds_end : (only : Bool) (lines rest : List Text) (old now : InternerView) (counts : List ℕ) (number : ℕ) → CountedRounds only lines rest old now counts number → rest ≡ [] → old.texts ≡ [] → CountsLines only lines now.texts counts × InternsLines old lines now
rounds_end only lines rest old now counts number so_far none empty =
    let all : lines ≡ so_far.done = so_far.split ∙ ap (λ (ls : List Text). so_far.done ++ ls) none ∙ append-nil so_far.done in
    let adds : AddsCounts (line_texts so_far.done) old.texts [] now.texts counts = subst (λ (ts : List Text). AddsCounts (line_texts so_far.done) ts [] now.texts counts) (sym empty) so_far.adds in
    let counted = all_are old now (line_texts so_far.done) [] counts empty refl so_far.list adds in (
      (subst (λ (ls : List Text). AreLetIn only ls) (sym all) so_far.let_in, subst (λ (ls : List Text). AreCounts (line_texts ls) now.texts counts) (sym all) counted),
      subst (λ (ls : List Text). extend spur_at old (line_texts ls) accepted now) (sym all) so_far.list,
    )

-- ---- one round more

-- texts of lines, after those of others
list_both : (old mid new : InternerView) (done first : List Text) (codes : List ℕ) (only : Bool) → extend spur_at old (line_texts done) accepted mid → RowsRun only None mid new first codes → extend spur_at old (line_texts (done ++ first)) accepted new
list_both old mid new done first codes only list run =
    let here : extend spur_at mid (line_texts first) accepted new = subst (λ (ts : List Text). extend spur_at mid (line_texts ts) accepted new) (texts_none first) run.list in
    subst (λ (ts : List Text). extend spur_at old ts accepted new) (sym (map-append text_of done first)) (extend_append old mid new (line_texts done) (line_texts first) list here)

-- the counts of a round, after zeros for its new texts
adds_both : (mid new : InternerView) (done first : List Text) (codes counts counts' : List ℕ) (only : Bool) (n : ℕ) → AddsCounts (line_texts done) [] [] mid.texts counts → RowsRun only None mid new first codes → n ≡ length new.texts → CountsCodes codes (grown_to n counts) counts' → AddsCounts (line_texts (done ++ first)) [] [] new.texts counts'
adds_both mid new done first codes counts counts' only n adds run is tally =
    let texts = line_texts first in
    let here : extend spur_at mid texts accepted new = subst (λ (ts : List Text). extend spur_at mid (line_texts ts) accepted new) (texts_none first) run.list in
    let more = new_texts mid.texts texts in
    let longer : new.texts ≡ mid.texts ++ more = list_extended mid new texts here in
    let few : length counts ≤ n = omega (arith, is, adds.lengths, ap length longer, length-append mid.texts more) in
    let grown : grown_to n counts ≡ counts ++ replicate (n - length counts) 0 = ap (λ (ns : List ℕ). ns ++ replicate (n - length counts) 0) (take_all n counts few) in
    let zeros : AddsCounts [] mid.texts counts new.texts (grown_to n counts) = padded mid.texts more counts new.texts (n - length counts) (grown_to n counts) adds.lengths longer (ap (λ m. m - length counts) is) grown in
    let are : AreCodes new.texts texts codes = entries_codes new.texts first codes run.entries_are in
    let round : AddsCounts texts mid.texts counts new.texts counts' = adds_join [] texts mid.texts new.texts new.texts counts (grown_to n counts) counts' zeros (tally new.texts texts zeros.lengths are) in
    subst (λ (ts : List Text). AddsCounts ts [] [] new.texts counts') (sym (map-append text_of done first)) (adds_join (line_texts done) texts [] mid.texts new.texts [] counts counts' adds round)

module _ (only : Bool) (lines rest : List Text) (old mid : InternerView) (counts : List ℕ) (number : ℕ) (so_far : CountedRounds only lines rest old mid counts number) (new : InternerView) (codes : List ℕ) where
  -- lines of the rest
  all_split : (first others : List Text) → rest ≡ first ++ others → lines ≡ (so_far.done ++ first) ++ others
  all_split first others split = so_far.split ∙ ap (λ (ls : List Text). so_far.done ++ ls) split ∙ sym (append_assoc so_far.done first others)

  module _ (first others : List Text) (split : rest ≡ first ++ others) (bytes : All IsBytes first) (rows : EncodesRows None mid (texts_by (OfBytes only) first) [] [] new codes) where
    run : RowsRun only None mid new first codes
    run = rows_all only None mid new first [] codes tt bytes refl rows

    pub rounds_next : (counts' : List ℕ) (n number' : ℕ) → n ≡ length new.texts → CountsCodes codes (grown_to n counts) counts' → number' ≡ number + length codes → CountedRounds only lines others old new counts' number'
    rounds_next counts' n number' is tally more = record {
      done = so_far.done ++ first;
      split = all_split first others split;
      let_in = All-append (IsLetIn only) so_far.done first so_far.let_in run.let_in;
      list = list_both old mid new so_far.done first codes only so_far.list run;
      adds = adds_both mid new so_far.done first codes counts counts' only n so_far.adds run is tally;
      many = omega (arith, more, so_far.many, length-append so_far.done first, entries_many None new.texts first codes run.entries_are);
    }

    -- the codes of the round were not counted
    pub rounds_uncounted : (limit : ℕ) (left : Option (List ℕ)) (error : RunError) → StopsCountingRound (number + length codes) error → CountingError only limit lines left error
    rounds_uncounted limit left error (inr full) = unmade only limit lines left error full
    rounds_uncounted limit left error (inl many) =
        let long : AreTooMany (length lines) = omega (arith, many.1, so_far.many, ap length (all_split first others split), length-append (so_far.done ++ first) others, length-append so_far.done first, entries_many None new.texts first codes run.entries_are) in
        subst (CountingError only limit lines left) (sym many.0) long

  -- ---- a round that stops

  take_both : (n : ℕ) → take (number + n) lines ≡ so_far.done ++ take n rest
  take_both n = ap (λ k. take (k + n) lines) (sym so_far.many) ∙ ap (take (length so_far.done + n)) so_far.split ∙ take_past so_far.done rest n
    where
      take_past : (xs ys : List Text) (k : ℕ) → take (length xs + k) (xs ++ ys) ≡ xs ++ take k ys
      take_past [] ys k = let none : 0 + k ≡ k = omega arith in ap (λ m. take m ys) none
      take_past (x ∷ xs) ys k = let next : suc (length xs) + k ≡ suc (length xs + k) = omega arith in ap (λ m. take m (x ∷ (xs ++ ys))) next ∙ ap (λ (zs : List Text). x ∷ zs) (take_past xs ys k)

  get_both : (n : ℕ) → slice_get lines (number + n) ≡ slice_get rest n
  get_both n = ap (λ k. slice_get lines (k + n)) (sym so_far.many) ∙ ap (λ (ls : List Text). slice_get ls (length so_far.done + n)) so_far.split ∙ get_past so_far.done rest n
    where
      get_past : (xs ys : List Text) (k : ℕ) → slice_get (xs ++ ys) (length xs + k) ≡ slice_get ys k
      get_past [] ys k = let none : 0 + k ≡ k = omega arith in ap (slice_get ys) none
      get_past (x ∷ xs) ys k = let next : suc (length xs) + k ≡ suc (length xs + k) = omega arith in ap (slice_get (x ∷ (xs ++ ys))) next ∙ get_past xs ys k

  long_both : length lines ≡ number + length rest
  long_both = omega (arith, so_far.many, ap length so_far.split, length-append so_far.done rest)

  -- the lines before the fault
  module _ (n : ℕ) (run : RowsRun only None mid new (take n rest) codes) where
    first_let_in : AreLetIn only (take (number + n) lines)
    first_let_in = subst (λ (ls : List Text). AreLetIn only ls) (sym (take_both n)) (All-append (IsLetIn only) so_far.done (take n rest) so_far.let_in run.let_in)

    first_list : (limit : ℕ) → old ≡ made_with 4096 limit → extend spur_at (made_with 4096 limit) (line_texts (take (number + n) lines)) accepted new
    first_list limit made =
        let both = list_both old mid new so_far.done (take n rest) codes only so_far.list run in
        let here = subst (λ (ls : List Text). extend spur_at old (line_texts ls) accepted new) (sym (take_both n)) both in
        subst (λ (i : InternerView). extend spur_at i (line_texts (take (number + n) lines)) accepted new) made here

    codes_long : n ≤ length rest → length codes ≡ n
    codes_long few = omega (arith, few, entries_many None new.texts (take n rest) codes run.entries_are, length-take n rest)

  fault_at : (line : List ℕ) (n m : ℕ) (error : LineError) → IsLineFault only new line n error → IsLineFault only new line m (numbered error m)
  fault_at line n m (Refused at error) fault = (refl, fault.1, fault.2)
  fault_at line n m (NotText at) fault = (refl, fault.1)

  fault_there : (o : Option Text) (n m : ℕ) (error : LineError) → IsSomeAnd o (λ line. IsLineFault only new line n error) → IsSomeAnd o (λ line. IsLineFault only new line m (numbered error m))
  fault_there None n m error fault = absurd fault
  fault_there (Some line) n m error fault = fault_at line n m error fault

  next_inside : (n : ℕ) (error : LineError) → IsNextError only new rest n error → n ≤ length rest
  next_inside n error (inl full) = full.1
  next_inside n error (inr fault) = some_inside (slice_get rest n) refl fault
    where
      some_inside : (o : Option Text) → slice_get rest n ≡ o → IsSomeAnd o (λ line. IsLineFault only new line (n + 1) error) → n ≤ length rest
      some_inside None is fault = absurd fault
      some_inside (Some line) is fault = let small = slice_get_within rest n line is in omega (arith, small)

  next_at : (n : ℕ) (error : LineError) → IsNextError only new rest n error → IsNextError only new lines (number + n) (numbered error (number + n + 1))
  next_at n error (inl full) = inl (ap (λ e. numbered e (number + n + 1)) full.0, omega (arith, full.1, long_both))
  next_at n error (inr fault) =
      inr (subst (λ o. IsSomeAnd o (λ line. IsLineFault only new line (number + n + 1) (numbered error (number + n + 1)))) (sym (get_both n)) (fault_there (slice_get rest n) (n + 1) (number + n + 1) error fault))

  fails_past : (n : ℕ) (left : Option (List ℕ)) → FailsAfter rest n left → FailsAfter lines (number + n) left
  fails_past n left fails = (
    fails.0,
    fails.1,
    fails.2,
    so_far.split ∙ ap (λ (ls : List Text). so_far.done ++ ls) fails.3 ∙ sym (append_assoc so_far.done (take n rest) (lines_of (fails.0 ++ fails.1))) ∙ ap (λ (ls : List Text). ls ++ lines_of (fails.0 ++ fails.1)) (sym (take_both n)),
    fails.4,
  )

  stop_at : (limit : ℕ) (left : Option (List ℕ)) (fault : RunError) → old ≡ made_with 4096 limit → RowsStop only None mid new rest codes left fault → CountingError only limit lines left (run_error_at fault (number + length codes + 1))
  stop_at limit left (Line error) made stop =
      let n = stop.0 in
      let long : length codes ≡ n = codes_long n stop.1 (next_inside n error stop.2) in
      let next = subst (λ k. IsNextError only new lines (number + n) (numbered error (number + k + 1))) (sym long) (next_at n error stop.2) in
      (number + n, inr (first_let_in n stop.1, (new, first_list n stop.1 limit made, next)))
  stop_at limit left TooManyLines made stop = absurd stop
  stop_at limit left ReadFailed made stop = (number + stop.0, (first_let_in stop.0 stop.1, (new, first_list stop.0 stop.1 limit made)), fails_past stop.0 left stop.3)
  stop_at limit left WriteFailed made stop = absurd stop
  stop_at limit left ReaderGone made stop = absurd stop
  stop_at limit left (Column column error) made stop = absurd stop

-- a round was not encoded to its end
pub rounds_stop : {A : Type 0} (only : Bool) (lines rest : List Text) (old mid new : InternerView) (counts : List ℕ) (number limit : ℕ) (codes : Vec ℕ A) (left : Option (List ℕ)) (error : RunError) → CountedRounds only lines rest old mid counts number → old ≡ made_with 4096 limit → StopsRound number only mid rest new codes left error → CountingError only limit lines left error
rounds_stop only lines rest old mid new counts number limit codes left error so_far made (inl many) =
    let long : AreTooMany (length lines) = omega (arith, many.1, so_far.many, ap length so_far.split, length-append so_far.done rest) in
    subst (CountingError only limit lines left) (sym many.0) long
rounds_stop only lines rest old mid new counts number limit codes left error so_far made (inr stops) =
    let stop = stream_stop only None mid new rest [] codes left stops.0 tt refl stops.2 in
    subst (CountingError only limit lines left) (sym stops.1) (stop_at only lines rest old mid counts number so_far new codes.items limit left stops.0 made stop)

-- nothing was read
pub rounds_none : (only : Bool) (limit : ℕ) (lines : List Text) (error : RunError) (left : Option (List ℕ)) → FailsAfter lines 0 left → IsReadError 1 error → CountingError only limit lines left error
rounds_none only limit lines (Line error) left fails is = (0, inr (All-nil (IsLetIn only), (made_with 4096 limit, (refl, refl), inl (is, omega arith))))
rounds_none only limit lines TooManyLines left fails is = absurd is
rounds_none only limit lines ReadFailed left fails is = (0, (All-nil (IsLetIn only), (made_with 4096 limit, (refl, refl))), fails)
rounds_none only limit lines WriteFailed left fails is = absurd is
rounds_none only limit lines ReaderGone left fails is = absurd is
rounds_none only limit lines (Column column error) left fails is = absurd is

-- ---- sums

-- codes raise the sum by their number at most
pub raised_total : (counts codes : List ℕ) → sum (raised_by counts codes) ≤ sum counts + length codes
raised_total counts [] = omega arith
raised_total counts (code ∷ codes) =
    let first = raised_sum counts code in
    let others = raised_total (raised counts code) codes in omega (arith, first, others)

sum_nil : (n : ℕ) → sum (replicate n 0) ≡ 0
sum_nil zero = refl
sum_nil (suc n) = sum_nil n

sum_first : (n : ℕ) (xs : List ℕ) → sum (take n xs) ≤ sum xs
sum_first zero xs = omega arith
sum_first (suc n) [] = omega arith
sum_first (suc n) (x ∷ xs) =
    let first = sum_by-append (λ y. y) (x ∷ []) (take n xs) in
    let all = sum_by-append (λ y. y) (x ∷ []) xs in
    let others = sum_first n xs in omega (arith, first, all, others)

-- zeros add nothing
pub grown_sum : (n : ℕ) (counts : List ℕ) → sum (grown_to n counts) ≤ sum counts
grown_sum n counts =
    let both = sum_by-append (λ x. x) (take n counts) (replicate (n - length counts) 0) in
    let none = sum_nil (n - length counts) in
    let first = sum_first n counts in omega (arith, both, none, first)

-- ---- results of the library

-- a round that stops has codes of the first lines alone
stop_long : (only : Bool) (old now : InternerView) (lines : List Text) (codes : List ℕ) (left : Option (List ℕ)) (error : LineError) → RowsStop only None old now lines codes left (Line error) → length codes ≤ length lines
stop_long only old now lines codes left error stop =
    omega (arith, entries_many None now.texts (take stop.0 lines) codes stop.1.entries_are, length-take stop.0 lines)

module _ {A : Type 0} (before : ℕ) (only : Bool) (by : LineTexts) (old now : InternerView) (lines : List Text) (codes : Vec ℕ A) (left : Option (List ℕ)) (same : by ≡ OfBytes only) where
  -- a line is at fault
  line_stops : (fault : LineError) → StopsInStreamBy by None old lines [] now codes left (stream.Line fault) → StopsEncoding only None old lines [] now codes left (Line fault)
  line_stops fault stops =
      let is = subst (λ b. StopsInStreamBy b None old lines [] now codes left (stream.Line fault)) same stops in
      library_line only None old now lines is.0 is.1 [] codes left fault is.2 is.3 is.4

  -- or a read failed
  read_stops : (failed : Error) (error : RunError) → StopsInStreamBy by None old lines [] now codes left (stream.Read failed) → IsReadError (length codes.items + 1) error → (error_kind failed ≡ OutOfMemory → error ≡ Line (Refused (length codes.items + 1) FailedAllocation)) → StopsEncoding only None old lines [] now codes left error
  read_stops failed error stops is memory =
      let told = subst (λ b. StopsInStreamBy b None old lines [] now codes left (stream.Read failed)) same stops in
      library_read only None old now lines told.0 told.1 [] codes left (length codes.items + 1) failed error told.2 told.3 told.4.0 told.4.1 refl is memory

  pub round_line : (fault : LineError) (number : ℕ) → StopsInStreamBy by None old lines [] now codes left (stream.Line fault) → number ≡ before + (length codes.items + 1) → StopsRound before only old lines now codes left (Line (numbered fault number))
  round_line fault number stops is = inr (Line fault, ap (λ n. Line (numbered fault n)) (omega (arith, is)), line_stops fault stops)

  pub round_read : (failed : Error) (number : ℕ) (error : RunError) → StopsInStreamBy by None old lines [] now codes left (stream.Read failed) → number ≡ before + (length codes.items + 1) → IsReadError number error → (error_kind failed ≡ OutOfMemory → error ≡ Line (Refused number FailedAllocation)) → StopsRound before only old lines now codes left error
  round_read failed number (Line error) stops is told memory =
      let early = Refused (length codes.items + 1) FailedAllocation in
      let at : number ≡ before + length codes.items + 1 = omega (arith, is) in
      inr (Line early, ap (λ e. Line e) (told ∙ ap (λ n. Refused n FailedAllocation) at), read_stops failed (Line early) stops refl (λ full. refl))
  round_read failed number TooManyLines stops is told memory = absurd told
  round_read failed number ReadFailed stops is told memory =
      inr (ReadFailed, refl, read_stops failed ReadFailed stops tt (λ full. absurd (let no : Line (Refused number FailedAllocation) ≡ ReadFailed = sym (memory full) in cc)))
  round_read failed number WriteFailed stops is told memory = absurd told
  round_read failed number ReaderGone stops is told memory = absurd told
  round_read failed number (Column column error) stops is told memory = absurd told

  -- the number of the line is too large
  pub round_many : (error : StreamError) → StopsInStreamBy by None old lines [] now codes left error → 2 ^ 64 ≤ before + (length codes.items + 1) → StopsRound before only old lines now codes left TooManyLines
  round_many (stream.Line fault) stops large =
      let long = stop_long only old now lines codes.items left fault (stream_stop only None old now lines [] codes left (Line fault) tt refl (line_stops fault stops)) in
      inl (refl, omega (arith, long, large))
  round_many (stream.Read failed) stops large =
      let early = Refused (length codes.items + 1) FailedAllocation in
      let long = stop_long only old now lines codes.items left early (stream_stop only None old now lines [] codes left (Line early) tt refl (read_stops failed (Line early) stops refl (λ full. refl))) in
      inl (refl, omega (arith, long, large))

-- ---- counts that get longer

-- what `resize` made of them
pub resized_is : (n len : ℕ) (counts resized : List ℕ) → len ≡ length counts → resized ≡ take n counts ++ replicate (n - len) 0 → resized ≡ grown_to n counts
resized_is n len counts resized is made = made ∙ ap (λ k. take n counts ++ replicate (n - k) 0) is
