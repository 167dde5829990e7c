-- How a run over all bytes ends, from how a run over the remaining lines ends.
--
-- While the engine works, it holds the beginning of a line, and some bytes are left to read. Its invariant:
-- if a run over the lines of the held and the remaining bytes may write a part and end with a result, then
-- the run over the whole input may write the bytes written so far and then this part, and end with the same
-- result. At the start, when all bytes are left, it is plainly true. A stretch, of which some lines are
-- answered and the rest is held, keeps it true: what is proved of the stretch is true whatever bytes
-- follow. At a return only the remaining lines matter: none after the counts, or the line with the fault.
use Rattle.std.proofs.Common.{ℕ, zero, suc, ◌≡◌, ◌+◌, ◌<◌, inl, inr, Bool, true, false, cond, List, [], ◌∷◌, ◌++◌, length, drop, Some, Result, Ok, Err, ap, sym, subst, ◌∙◌, refl, append_assoc, append-nil, arith}
use Rattle.std.specs.Str.{is_utf8}
use Rattle.std.proofs.Math.Seq.{drop-append_seam}
use Rattle.lasso_parts.specs.Held.{Held}
use Rattle.lasso_parts.specs.declared.util.LassoError.{LassoError}
use Rattle.lasso_single.specs.Intern.{interned}
use Rattle.lasso_lines.specs.Stream.{Begins}
use Rattle.lasso_input.specs.Lines.{lines_of, NoFeed}
use Rattle.lasso_single.specs.Coding.{spur_at}
use Rattle.lasso_lines.specs.Report.{with_number, first_bytes, after_line, line_report, last_report, or_else, report_from, fault_from, reach_from, answers_from, LacksMemory, EndsWithFault, EndsFrom, Ends, new_held}
use Rattle.lasso_lines.specs.Answer.{WritesAll, LineFails, faulty, no_memory, not_written, IsStreamFault, last_lines}
use Rattle.lasso_lines.specs.declared.fault.RunFault.{RunFault}
use Rattle.lasso_lines.specs.declared.fault.RunFault.TheVariants.{Refused, NotText, Usage, ReadFailed, WriteFailed}
use Rattle.lasso_lines.specs.Stretch.{LeadsTo, FailsWith}
use Rattle.lasso_input.proofs.FirstLines.{lines_cut}
use Rattle.lasso_lines.proofs.Lines.{lines_last}

-- after a good line
report_good : (held after : Held) (number : ℕ) (line : List ℕ) (lines : List (List ℕ)) → after_line held number line ≡ Ok after → report_from held number (line ∷ lines) ≡ line_report held line ++ report_from after (number + 1) lines
report_good held after number line lines e = ap (λ r. or_else r (λ a. line_report held line ++ report_from a (number + 1) lines) (λ _. [])) e

fault_good : (held after : Held) (number : ℕ) (line : List ℕ) (lines : List (List ℕ)) → after_line held number line ≡ Ok after → fault_from held number (line ∷ lines) ≡ fault_from after (number + 1) lines
fault_good held after number line lines e = ap (λ r. or_else r (λ a. fault_from a (number + 1) lines) (λ f. Some f)) e

reach_good : (held after : Held) (number : ℕ) (line : List ℕ) (lines : List (List ℕ)) → after_line held number line ≡ Ok after → reach_from held number (line ∷ lines) ≡ 1 + reach_from after (number + 1) lines
reach_good held after number line lines e = ap (λ r. or_else r (λ a. 1 + reach_from a (number + 1) lines) (λ _. 1)) e

answers_good : (held after : Held) (number : ℕ) (line : List ℕ) (lines : List (List ℕ)) (count : ℕ) → after_line held number line ≡ Ok after → answers_from held number (line ∷ lines) (suc count) ≡ line_report held line ++ answers_from after (number + 1) lines count
answers_good held after number line lines count e = ap (λ r. or_else r (λ a. line_report held line ++ answers_from a (number + 1) lines count) (λ _. [])) e

-- at a faulty line
report_bad : (held : Held) (number : ℕ) (line : List ℕ) (lines : List (List ℕ)) (fault : RunFault) → after_line held number line ≡ Err fault → report_from held number (line ∷ lines) ≡ []
report_bad held number line lines fault e = ap (λ r. or_else r (λ a. line_report held line ++ report_from a (number + 1) lines) (λ _. [])) e

fault_bad : (held : Held) (number : ℕ) (line : List ℕ) (lines : List (List ℕ)) (fault : RunFault) → after_line held number line ≡ Err fault → fault_from held number (line ∷ lines) ≡ Some fault
fault_bad held number line lines fault e = ap (λ r. or_else r (λ a. fault_from a (number + 1) lines) (λ f. Some f)) e

reach_some_of : (held : Held) (number : ℕ) (lines : List (List ℕ)) (r : Result Held RunFault) → 0 < or_else r (λ a. 1 + reach_from a (number + 1) lines) (λ _. 1)
reach_some_of held number lines (Ok after) = omega arith
reach_some_of held number lines (Err fault) = omega arith

reach_some : (held : Held) (number : ℕ) (line : List ℕ) (lines : List (List ℕ)) → 0 < reach_from held number (line ∷ lines)
reach_some held number line lines = reach_some_of held number lines (after_line held number line)

-- the beginnings of lists
begins_all : (whole : List ℕ) → Begins whole whole
begins_all whole = ([], sym (append-nil whole))

begins_more : (part front back : List ℕ) → Begins part front → Begins part (front ++ back)
begins_more part front back b = (b.0 ++ back, ap (λ bs. bs ++ back) b.1 ∙ append_assoc part b.0 back)

begins_behind : (first part whole : List ℕ) → Begins part whole → Begins (first ++ part) (first ++ whole)
begins_behind first part whole b = (b.0, ap (λ bs. first ++ bs) b.1 ∙ sym (append_assoc first part b.0))

-- the answers to the first lines are a beginning of the report
answers_begin_of : (held : Held) (number : ℕ) (line : List ℕ) (lines : List (List ℕ)) (count : ℕ) (r : Result Held RunFault) → ((after : Held) → Begins (answers_from after (number + 1) lines count) (report_from after (number + 1) lines)) → Begins (or_else r (λ a. line_report held line ++ answers_from a (number + 1) lines count) (λ _. [])) (or_else r (λ a. line_report held line ++ report_from a (number + 1) lines) (λ _. []))
answers_begin_of held number line lines count (Ok after) rest = begins_behind (line_report held line) _ _ (rest after)
answers_begin_of held number line lines count (Err fault) rest = ([], refl)

answers_begin : (lines : List (List ℕ)) (held : Held) (number count : ℕ) → Begins (answers_from held number lines count) (report_from held number lines)
answers_begin [] held number count = (_, refl)
answers_begin (line ∷ lines) held number zero = (_, refl)
answers_begin (line ∷ lines) held number (suc count) = answers_begin_of held number line lines count (after_line held number line) (λ after. answers_begin lines after (number + 1) count)

-- whatever a run ends with, what it has written is a beginning of the report
begins_equal : (part whole : List ℕ) → part ≡ whole → Begins part whole
begins_equal part whole e = subst (λ bs. Begins bs whole) (sym e) (begins_all whole)

lack_begins : (held : Held) (first : ℕ) (lines : List (List ℕ)) (part : List ℕ) (number : ℕ) → LacksMemory held first lines part number → Begins part (report_from held first lines)
lack_begins held first lines part number (inl (before, at, inside, told)) = subst (λ bs. Begins bs (report_from held first lines)) (sym told) (answers_begin lines held first before)
lack_begins held first lines part number (inr (none, whole, empty)) = subst (λ bs. Begins bs (report_from held first lines)) (sym empty) (_, refl)

fault_begins : (held : Held) (first : ℕ) (lines : List (List ℕ)) (part : List ℕ) (fault : RunFault) → EndsWithFault held first lines part fault → Begins part (report_from held first lines)
fault_begins held first lines part (Refused number error) (inl own) = begins_equal _ _ own.1
fault_begins held first lines part (Refused number error) (inr lack) = lack_begins held first lines part number lack.1
fault_begins held first lines part (NotText number) (inl own) = begins_equal _ _ own.1
fault_begins held first lines part (NotText number) (inr lack) = lack_begins held first lines part number lack.1
fault_begins held first lines part Usage none = absurd none
fault_begins held first lines part ReadFailed begins = begins
fault_begins held first lines part WriteFailed begins = begins

pub ends_begin : (held : Held) (first : ℕ) (lines : List (List ℕ)) (part : List ℕ) (result : Result (Unit {0}) RunFault) → EndsFrom held first lines part result → Begins part (report_from held first lines)
ends_begin held first lines part (Ok x) ends = begins_equal _ _ ends.1
ends_begin held first lines part (Err fault) ends = fault_begins held first lines part fault ends

-- a good line, and then the rest
module _ (held after : Held) (number : ℕ) (line : List ℕ) (lines : List (List ℕ)) (good : after_line held number line ≡ Ok after) where
  begins_after : (part : List ℕ) → Begins part (report_from after (number + 1) lines) → Begins (line_report held line ++ part) (report_from held number (line ∷ lines))
  begins_after part begins = subst (λ bs. Begins (line_report held line ++ part) bs) (sym (report_good held after number line lines good)) (begins_behind (line_report held line) part _ begins)

  told_after : (part : List ℕ) → part ≡ report_from after (number + 1) lines → line_report held line ++ part ≡ report_from held number (line ∷ lines)
  told_after part told = ap (λ bs. line_report held line ++ bs) told ∙ sym (report_good held after number line lines good)

  lack_after : 0 < number → (part : List ℕ) (at : ℕ) → LacksMemory after (number + 1) lines part at → LacksMemory held number (line ∷ lines) (line_report held line ++ part) at
  lack_after counted part at (inl (before, is, inside, told)) = inl (suc before, omega arith, omega (arith, reach_good held after number line lines good), ap (λ bs. line_report held line ++ bs) told ∙ sym (answers_good held after number line lines before good))
  lack_after counted part at (inr (none, whole, empty)) = let never : ⊥ = omega (arith, whole, counted) in absurd never

  fault_after : 0 < number → (part : List ℕ) (fault : RunFault) → EndsWithFault after (number + 1) lines part fault → EndsWithFault held number (line ∷ lines) (line_report held line ++ part) fault
  fault_after counted part (Refused n error) (inl own) = inl (fault_good held after number line lines good ∙ own.0, told_after part own.1)
  fault_after counted part (Refused n error) (inr lack) = inr (lack.0, lack_after counted part n lack.1)
  fault_after counted part (NotText n) (inl own) = inl (fault_good held after number line lines good ∙ own.0, told_after part own.1)
  fault_after counted part (NotText n) (inr lack) = inr (lack.0, lack_after counted part n lack.1)
  fault_after counted part Usage none = none
  fault_after counted part ReadFailed begins = begins_after part begins
  fault_after counted part WriteFailed begins = begins_after part begins

  pub ends_after : 0 < number → (part : List ℕ) (result : Result (Unit {0}) RunFault) → EndsFrom after (number + 1) lines part result → EndsFrom held number (line ∷ lines) (line_report held line ++ part) result
  ends_after counted part (Ok x) ends = (fault_good held after number line lines good ∙ ends.0, told_after part ends.1)
  ends_after counted part (Err fault) ends = fault_after counted part fault ends

-- a fault that names this line
data OwnFault (number : ℕ) : RunFault → Type 0 where
  own_text : OwnFault number (NotText number)
  own_refusal : (error : LassoError) → OwnFault number (Refused number error)

own_of_number : (number : ℕ) (r : Result Held LassoError) (fault : RunFault) → with_number number r ≡ Err fault → OwnFault number fault
own_of_number number (Ok after) fault e = cc
own_of_number number (Err error) fault e = let same : Refused number error ≡ fault = cc in subst (λ f. OwnFault number f) same (own_refusal error)

own_of : (number : ℕ) (t : Bool) (r : Result Held LassoError) (fault : RunFault) → cond t (with_number number r) (Err (NotText number)) ≡ Err fault → OwnFault number fault
own_of number true r fault e = own_of_number number r fault e
own_of number false r fault e = let same : NotText number ≡ fault = cc in subst (λ f. OwnFault number f) same own_text

own_ends : (held : Held) (first : ℕ) (lines : List (List ℕ)) (number : ℕ) (fault : RunFault) → OwnFault number fault → report_from held first lines ≡ [] → fault_from held first lines ≡ Some fault → EndsWithFault held first lines [] fault
own_ends held first lines number fault own_text w f = inl (f, sym w)
own_ends held first lines number fault (own_refusal error) w f = inl (f, sym w)

-- a fault at the first line ends the run
pub line_fails : (held : Held) (number : ℕ) (line : List ℕ) (lines : List (List ℕ)) (part : List ℕ) (fault : RunFault) → LineFails held number line part fault → EndsFrom held number (line ∷ lines) part (Err fault)
line_fails held number line lines part fault (faulty f e none) = subst (λ bs. EndsWithFault held number (line ∷ lines) bs f) (sym none) (own_ends held number (line ∷ lines) number f (own_of number (is_utf8 line) (interned spur_at first_bytes held line) f e) (report_bad held number line lines f e) (fault_bad held number line lines f e))
line_fails held number line lines part fault (no_memory none) = inr (refl, inl (0, omega arith, reach_some held number line lines, none))
line_fails held number line lines part fault (not_written after e b) = subst (λ w. Begins part w) (sym (report_good held after number line lines e)) (begins_more part (line_report held line) _ b)

-- after the last line, the counts end the run
pub counts_end : (held : Held) (number : ℕ) (result : Result (Unit {0}) RunFault) (part : List ℕ) → WritesAll (last_report held) result part → EndsFrom held number [] part result
counts_end held number (Ok x) part told = (refl, told)
counts_end held number (Err fault) part w = subst (λ f. EndsWithFault held number [] part f) (sym w.0) w.1

-- a last line, and then the counts
pub no_last : (held : Held) (number : ℕ) (line : List ℕ) (part : List ℕ) (result : Result (Unit {0}) RunFault) → length line ≡ 0 → WritesAll (last_report held) result part → EndsFrom held number (last_lines line) part result
no_last held number [] part result none w = counts_end held number result part w
no_last held number (b ∷ line) part result none w = absurd (omega arith)

-- bytes without a line feed are one line, once they end in one
only_line : (line : List ℕ) → NoFeed line → 0 < length line → lines_of ((line ++ 10 ∷ []) ++ []) ≡ last_lines line
only_line [] none some = absurd (omega (arith, some))
only_line (b ∷ line) none some = ap lines_of (append-nil ((b ∷ line) ++ 10 ∷ [])) ∙ lines_cut (b ∷ line) [] none

-- the last line fails
pub last_fails : (held : Held) (number : ℕ) (line part : List ℕ) (fault : RunFault) → NoFeed line → 0 < length line → FailsWith held number (line ++ 10 ∷ []) part fault → EndsFrom held number (last_lines line) part (Err fault)
last_fails held number line part fault none some fails = subst (λ ls. EndsFrom held number ls part (Err fault)) (only_line line none some) (fails [])

-- it is answered, nothing is left, and then come the counts
pub last_then : (held after : Held) (number next : ℕ) (line left part more : List ℕ) (result : Result (Unit {0}) RunFault) → NoFeed line → 0 < length line → length left ≡ 0 → LeadsTo held number (line ++ 10 ∷ []) after next left part → WritesAll (last_report after) result more → EndsFrom held number (last_lines line) (part ++ more) result
last_then held after number next line [] part more result none some end leads w =
    subst (λ ls. EndsFrom held number ls (part ++ more) result) (only_line line none some) (leads [] more result (counts_end after next result more w))
last_then held after number next line (b ∷ left) part more result none some end leads w = absurd (omega (arith, end))

-- the bytes left to read are those in the buffer and the rest
pub all_shown : (buffer left : List ℕ) → Begins buffer left → left ≡ buffer ++ drop (length buffer) left
all_shown buffer left begins = begins.1 ∙ ap (λ bs. buffer ++ bs) (sym (ap (λ bs. drop (length buffer) bs) begins.1 ∙ drop-append_seam buffer begins.0))

-- however a run over the held and the remaining bytes may end, so may the run over the whole input, with
-- `part` in front
pub record OnTheWay (input : List ℕ) (limit : ℕ) (held : Held) (number : ℕ) (begun left part : List ℕ) : Type 0 where
  pub ends : (more : List ℕ) (result : Result (Unit {0}) RunFault) → EndsFrom held number (lines_of (begun ++ left)) more result → Ends input limit (part ++ more) result

-- some lines of a stretch are answered, and the rest of it is held
way_leads : (input : List ℕ) (limit : ℕ) (held after : Held) (number number' : ℕ) (begun stretch begun' left part reply : List ℕ) → OnTheWay input limit held number begun (stretch ++ left) part → LeadsTo held number (begun ++ stretch) after number' begun' reply → OnTheWay input limit after number' begun' left (part ++ reply)
way_leads input limit held after number number' begun stretch begun' left part reply way leads = record {
  ends = λ more result e.
      subst (λ bs. Ends input limit bs result) (sym (append_assoc part reply more))
      (way.ends (reply ++ more) result (subst (λ bs. EndsFrom held number (lines_of bs) (reply ++ more) result) (append_assoc begun stretch left) (leads left more result e)));
}

-- the bytes in the buffer are the first of those left to read
pub way_shown : (input : List ℕ) (limit : ℕ) (held : Held) (number : ℕ) (begun buffer left part : List ℕ) → Begins buffer left → OnTheWay input limit held number begun left part → OnTheWay input limit held number begun (buffer ++ drop (length buffer) left) part
way_shown input limit held number begun buffer left part begins way = subst (λ bs. OnTheWay input limit held number begun bs part) (all_shown buffer left begins) way

-- the bytes in the buffer are answered or held, and the bytes after them are left to read
pub way_goes_on : (input : List ℕ) (limit : ℕ) (held after : Held) (number number' : ℕ) (begun buffer begun' left part reply : List ℕ) → Begins buffer left → OnTheWay input limit held number begun left part → LeadsTo held number (begun ++ buffer) after number' begun' reply → OnTheWay input limit after number' begun' (drop (length buffer) left) (part ++ reply)
way_goes_on input limit held after number number' begun buffer begun' left part reply begins way leads =
    way_leads input limit held after number number' begun buffer begun' (drop (length buffer) left) part reply (way_shown input limit held number begun buffer left part begins way) leads

-- a line of a stretch fails
pub way_fails : (input : List ℕ) (limit : ℕ) (held : Held) (number : ℕ) (begun stretch left part reply : List ℕ) (fault : RunFault) → OnTheWay input limit held number begun (stretch ++ left) part → FailsWith held number (begun ++ stretch) reply fault → Ends input limit (part ++ reply) (Err fault)
way_fails input limit held number begun stretch left part reply fault way fails =
    way.ends reply (Err fault) (subst (λ bs. EndsFrom held number (lines_of bs) reply (Err fault)) (append_assoc begun stretch left) (fails left))

-- a read or a write fails between two stretches
pub way_stops : (input : List ℕ) (limit : ℕ) (held : Held) (number : ℕ) (begun left part : List ℕ) → OnTheWay input limit held number begun left part → (Ends input limit part (Err ReadFailed)) × (Ends input limit part (Err WriteFailed))
way_stops input limit held number begun left part way = (
  subst (λ bs. Ends input limit bs (Err ReadFailed)) (append-nil part) (way.ends [] (Err ReadFailed) (_, refl)),
  subst (λ bs. Ends input limit bs (Err WriteFailed)) (append-nil part) (way.ends [] (Err WriteFailed) (_, refl)),
)

-- the input has ended, and the held bytes are the last line
pub way_ended : (input : List ℕ) (limit : ℕ) (held : Held) (number : ℕ) (begun left part more : List ℕ) (result : Result (Unit {0}) RunFault) → NoFeed begun → left ≡ [] → EndsFrom held number (last_lines begun) more result → OnTheWay input limit held number begun left part → Ends input limit (part ++ more) result
way_ended input limit held number begun left part more result none gone ends way =
    let last : lines_of (begun ++ left) ≡ last_lines begun = ap (λ bs. lines_of (begun ++ bs)) gone ∙ ap lines_of (append-nil begun) ∙ lines_last begun none in
    way.ends more result (subst (λ ls. EndsFrom held number ls more result) (sym last) ends)

-- a failed read or write, as one fault
pub stream_ends : (input : List ℕ) (limit : ℕ) (part : List ℕ) (fault : RunFault) → IsStreamFault fault → (Ends input limit part (Err ReadFailed)) × (Ends input limit part (Err WriteFailed)) → Ends input limit part (Err fault)
stream_ends input limit part (Refused number error) is ends = absurd is
stream_ends input limit part (NotText number) is ends = absurd is
stream_ends input limit part Usage is ends = absurd is
stream_ends input limit part ReadFailed is ends = ends.0
stream_ends input limit part WriteFailed is ends = ends.1

-- a run that may end with some result may end with a failed write instead
pub ends_unflushed : (input : List ℕ) (limit : ℕ) (part : List ℕ) (result : Result (Unit {0}) RunFault) → Ends input limit part result → Ends input limit part (Err WriteFailed)
ends_unflushed input limit part result ends = ends_begin (new_held limit) 1 (lines_of input) part result ends
