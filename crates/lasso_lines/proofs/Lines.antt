-- The lines of bytes, and the answer to one of them.
--
-- Bytes without a line feed are one line, or none if there are no bytes.
use Rattle.std.proofs.Common.{ℕ, ◌≡◌, ◌-◌, ◌⊎◌, inl, inr, Bool, true, false, cond, List, [], ◌∷◌, ◌++◌, Some, Result, Ok, Err, decimal, ap, sym, subst, ◌∙◌, refl}
use Rattle.std.specs.List.{onto_first}
use Rattle.std.specs.Str.{IsUtf8}
use Rattle.std.proofs.lemmas.Str.{IsUtf8-from_is_utf8, is_utf8-from_IsUtf8}
use Rattle.std.proofs.lemmas.Bool.{false_from_ne_true}
use Rattle.lasso_parts.specs.declared.util.LassoError.{LassoError}
use Rattle.lasso_parts.specs.declared.util.LassoErrorKind.TheVariants.{FailedAllocation}
use Rattle.lasso_parts.specs.Held.{Held}
use Rattle.lasso_single.specs.Intern.{interned, interned_position}
use Rattle.lasso_lines.specs.Stream.{Begins}
use Rattle.lasso_input.specs.Lines.{is_line_feed, lines_of, NoFeed}
use Rattle.lasso_single.specs.Coding.{spur_at}
use Rattle.lasso_single.proofs.Encoded.{position_of_key}
use Rattle.lasso_lines.specs.Report.{first_bytes, after_line, with_number, line_report}
use Rattle.lasso_lines.specs.Answer.{AnswersLine, WritesAll, LineFails, faulty, no_memory, not_written, last_lines}
use Rattle.lasso_lines.specs.declared.fault.RunFault.{RunFault}
use Rattle.lasso_lines.specs.declared.fault.RunFault.TheVariants.{Refused, NotText}

lines_last_onto : (x : ℕ) (line : List ℕ) → onto_first x (last_lines line) ≡ (x ∷ line) ∷ []
lines_last_onto x [] = refl
lines_last_onto x (y ∷ line) = refl

pub lines_last : (line : List ℕ) → NoFeed line → lines_of line ≡ last_lines line
lines_last [] none = refl
lines_last (x ∷ line) none = ap (λ t. cond t ([] ∷ lines_of line) (onto_first x (lines_of line))) none.0 ∙ ap (λ ls. onto_first x ls) (lines_last line none.1) ∙ lines_last_onto x line

-- if there are bytes, there is a first line
onto_some : (x : ℕ) (lines : List (List ℕ)) → (l : List ℕ) × (ls : List (List ℕ)) × (onto_first x lines ≡ l ∷ ls)
onto_some x [] = (x ∷ [], [], refl)
onto_some x (line ∷ lines) = (x ∷ line, lines, refl)

cond_lines : (t : Bool) (x : ℕ) (bytes : List ℕ) → (l : List ℕ) × (ls : List (List ℕ)) × (cond t ([] ∷ lines_of bytes) (onto_first x (lines_of bytes)) ≡ l ∷ ls)
cond_lines true x bytes = ([], lines_of bytes, refl)
cond_lines false x bytes = onto_some x (lines_of bytes)

pub lines_some : (line : List ℕ) (b : ℕ) (rest : List ℕ) → (l : List ℕ) × (ls : List (List ℕ)) × (lines_of (line ++ b ∷ rest) ≡ l ∷ ls)
lines_some [] b rest = cond_lines (is_line_feed b) b rest
lines_some (x ∷ line) b rest = cond_lines (is_line_feed x) x (line ++ b ∷ rest)

-- a line that is not UTF-8 is a fault
pub not_text : (held : Held) (number : ℕ) (line : List ℕ) → ¬ (IsUtf8 line) → after_line held number line ≡ Err (NotText number)
not_text held number line not_utf8 = ap (λ b. cond b (with_number number (interned spur_at first_bytes held line)) (Err (NotText number))) (false_from_ne_true _ (λ e. not_utf8 (IsUtf8-from_is_utf8 line e)))

text_line : (held : Held) (number : ℕ) (line : List ℕ) → IsUtf8 line → after_line held number line ≡ with_number number (interned spur_at first_bytes held line)
text_line held number line utf8 = ap (λ b. cond b (with_number number (interned spur_at first_bytes held line)) (Err (NotText number))) (is_utf8-from_IsUtf8 line utf8)

-- a text that interning refuses
pub refused_line : (first : ℕ) (held : Held) (number : ℕ) (line text : List ℕ) (error : LassoError) (X Y : Type 0) → first ≡ first_bytes → (text ≡ line) × IsUtf8 line → (interned spur_at first held text ≡ Err error) ⊎ ((error ≡ FailedAllocation) × X × Y) → LineFails held number line [] (Refused number error)
refused_line first held number line text error X Y same is (inl refused) = faulty _ (text_line held number line is.1 ∙ ap (λ r. with_number number r) (subst (λ t. interned spur_at first_bytes held t ≡ Err error) is.0 (subst (λ (n : ℕ). interned spur_at n held text ≡ Err error) same refused))) refl
refused_line first held number line text error X Y same is (inr none) = subst (λ e. LineFails held number line [] (Refused number e)) (sym none.0) (no_memory refl)

line_is_text : (held after : Held) (number : ℕ) (line text : List ℕ) → (text ≡ line) × IsUtf8 line → interned spur_at first_bytes held text ≡ Ok after → after_line held number line ≡ Ok after
line_is_text held after number line text is reply = text_line held number line is.1 ∙ ap (λ r. with_number number r) (subst (λ t. interned spur_at first_bytes held t ≡ Ok after) is.0 reply)

-- the answer begins with the position of the line's text
report_is : (held : Held) (line text : List ℕ) (position key : ℕ) → text ≡ line → spur_at (interned_position held.texts text) ≡ Some key → position ≡ key - 1 → decimal position ++ (32 ∷ (line ++ 10 ∷ [])) ≡ line_report held line
report_is held line text position key is found at = ap (λ n. decimal n ++ (32 ∷ (line ++ 10 ∷ []))) (at ∙ sym (position_of_key (interned_position held.texts text) key found) ∙ ap (λ t. interned_position held.texts t) is)

answered_by : (held after : Held) (number : ℕ) (line : List ℕ) (result : Result (Unit {0}) RunFault) (bytes : List ℕ) → after_line held number line ≡ Ok after → bytes ≡ line_report held line → (part : List ℕ) → WritesAll bytes result part → AnswersLine held number line result after part
answered_by held after number line (Ok x) bytes good is part wrote = (good, wrote ∙ is)
answered_by held after number line (Err fault) bytes good is part wrote = subst (λ f. LineFails held number line part f) (sym wrote.0) (not_written after good (subst (λ bs. Begins part bs) is wrote.1))

-- an interned text and its answer
pub answered_line : (first : ℕ) (held after : Held) (number : ℕ) (line text : List ℕ) (position key : ℕ) (result : Result (Unit {0}) RunFault) → first ≡ first_bytes → (text ≡ line) × IsUtf8 line → (interned spur_at first held text ≡ Ok after) × (spur_at (interned_position held.texts text) ≡ Some key) → position ≡ key - 1 → (part : List ℕ) → WritesAll (decimal position ++ (32 ∷ (line ++ 10 ∷ []))) result part → AnswersLine held number line result after part
answered_line first held after number line text position key result same is reply at = answered_by held after number line result _ (line_is_text held after number line text is (subst (λ (n : ℕ). interned spur_at n held text ≡ Ok after) same reply.0)) (report_is held line text position key is.0 reply.1 at)
