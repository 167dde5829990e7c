-- The bytes of a stretch, cut at their first line feed.
--
-- If a line feed is found, the bytes are the end of a line, the feed, and the rest. So by the definition of
-- the report, the answer to the line leads from the bytes to the rest, whatever follows. If none is found, no
-- line is answered, and all bytes are held.
use Rattle.std.proofs.Common.{ℕ, ◌≡◌, ◌+◌, ◌-◌, ◌<◌, Ok, Err, List, [], ◌∷◌, ◌++◌, length, take, drop, ap, sym, subst, ◌∙◌, refl, arith, append_assoc}
use Rattle.std.proofs.Math.Seq.{drop-append_seam}
use Rattle.std.proofs.lemmas.List.{length-append, length-drop, take_all}
use Rattle.lasso_lines.specs.Stretch.{LeadsTo, FailsWith}
use Rattle.lasso_parts.specs.Held.{Held}
use Rattle.lasso_parts.specs.declared.util.LassoErrorKind.TheVariants.{FailedAllocation}
use Rattle.lasso_input.specs.Lines.{lines_of, NoFeed}
use Rattle.lasso_input.proofs.FirstLines.{no_feed_both, lines_cut}
use Rattle.lasso_lines.specs.Report.{after_line, line_report, EndsFrom}
use Rattle.lasso_lines.specs.Answer.{LineFails, no_memory}
use Rattle.lasso_lines.specs.declared.fault.RunFault.{RunFault}
use Rattle.lasso_lines.specs.declared.fault.RunFault.TheVariants.{Refused}
use Rattle.lasso_lines.proofs.Ways.{ends_after, line_fails}
use Rattle.lasso_lines.proofs.Lines.{lines_some}

pub held_no_feed : (begun bytes held : List ℕ) → held ≡ begun ++ bytes → NoFeed begun → NoFeed bytes → NoFeed held
held_no_feed begun bytes held is none none' = subst NoFeed (sym is) (no_feed_both begun bytes none none')

-- ---- the steps over a stretch

-- no line is answered yet
pub leads_still : (held : Held) (number : ℕ) (bytes : List ℕ) → LeadsTo held number bytes held number bytes []
leads_still held number bytes = λ later more result e. e

-- no line is answered, and all bytes are held
pub leads_held : (held : Held) (number : ℕ) (bytes begun : List ℕ) → begun ≡ bytes → LeadsTo held number bytes held number begun []
leads_held held number bytes begun is = subst (λ bs. LeadsTo held number bytes held number bs []) (sym is) (leads_still held number bytes)

-- a step, and then another
pub leads_then : (before mid after : Held) (first second third : ℕ) (bytes rest last p q : List ℕ) → LeadsTo before first bytes mid second rest p → LeadsTo mid second rest after third last q → LeadsTo before first bytes after third last (p ++ q)
leads_then before mid after first second third bytes rest last p q one two = λ later more result e.
    subst (λ bs. EndsFrom before first (lines_of (bytes ++ later)) bs result) (sym (append_assoc p q more)) (one later (q ++ more) result (two later more result e))

-- a step, and then a fault
pub fails_then : (before mid : Held) (first second : ℕ) (bytes rest p q : List ℕ) (fault : RunFault) → LeadsTo before first bytes mid second rest p → FailsWith mid second rest q fault → FailsWith before first bytes (p ++ q) fault
fails_then before mid first second bytes rest p q fault one two = λ later. one later q (Err fault) (two later)

-- the line that ends at the first line feed
module _ (held : Held) (number : ℕ) (begun bytes end behind : List ℕ) (none : NoFeed begun) (cut : NoFeed end × (bytes ≡ end ++ 10 ∷ behind)) where
  lines_are : (later : List ℕ) → lines_of ((begun ++ bytes) ++ later) ≡ (begun ++ end) ∷ lines_of (behind ++ later)
  lines_are later =
      let whole : begun ++ bytes ≡ (begun ++ end) ++ 10 ∷ behind = ap (λ bs. begun ++ bs) cut.1 ∙ sym (append_assoc begun end (10 ∷ behind)) in
      let joined : (begun ++ bytes) ++ later ≡ (begun ++ end) ++ 10 ∷ (behind ++ later) = ap (λ bs. bs ++ later) whole ∙ append_assoc (begun ++ end) (10 ∷ behind) later in
      ap lines_of joined ∙ lines_cut (begun ++ end) (behind ++ later) (no_feed_both begun end none cut.0)

  -- its answer is written
  pub leads_line : (after : Held) (reply : List ℕ) → 0 < number → (after_line held number (begun ++ end) ≡ Ok after) × (reply ≡ line_report held (begun ++ end)) → LeadsTo held number (begun ++ bytes) after (number + 1) behind reply
  leads_line after reply counted good = λ later more result e.
      let line = begun ++ end in
      let here = ends_after held after number line (lines_of (behind ++ later)) good.0 counted more result e in
      subst (λ bs. EndsFrom held number (lines_of ((begun ++ bytes) ++ later)) (bs ++ more) result) (sym good.1) (subst (λ ls. EndsFrom held number ls (line_report held line ++ more) result) (sym (lines_are later)) here)

  -- or it fails
  pub fails_line : (reply : List ℕ) (fault : RunFault) → LineFails held number (begun ++ end) reply fault → FailsWith held number (begun ++ bytes) reply fault
  fails_line reply fault fails = λ later.
      subst (λ ls. EndsFrom held number ls reply (Err fault)) (sym (lines_are later)) (line_fails held number (begun ++ end) (lines_of (behind ++ later)) reply fault fails)

-- out of memory for the bytes to hold
pub fails_held : (held : Held) (number : ℕ) (begun bytes : List ℕ) (fault : RunFault) → (fault ≡ Refused number FailedAllocation) × (0 < length bytes) → FailsWith held number (begun ++ bytes) [] fault
fails_held held number begun [] fault lacks = absurd (omega (arith, lacks.1))
fails_held held number begun (b ∷ bytes) fault lacks = λ later.
    let first = lines_some begun b (bytes ++ later) in
    subst (λ f. EndsFrom held number (lines_of ((begun ++ b ∷ bytes) ++ later)) [] (Err f)) (sym lacks.0)
    (subst (λ bs. EndsFrom held number (lines_of bs) [] (Err (Refused number FailedAllocation))) (sym (append_assoc begun (b ∷ bytes) later))
    (subst (λ ls. EndsFrom held number ls [] (Err (Refused number FailedAllocation))) (sym first.2)
    (line_fails held number first.0 first.1 [] (Refused number FailedAllocation) (no_memory refl))))

-- ---- a first line, and a stretch after it

-- the last bytes are those after the front
pub last_bytes : (front rest : List ℕ) → drop (length (front ++ rest) - length rest) (front ++ rest) ≡ rest
last_bytes front rest =
    let count : length (front ++ rest) - length rest ≡ length front = omega (arith, length-append front rest) in
    ap (λ n. drop n (front ++ rest)) count ∙ drop-append_seam front rest

-- so are those of a slice of the same bytes, which ends where they end
pub slice_end : (left : ℕ) (shown bytes : List ℕ) → shown ≡ bytes → take (length shown - (length shown - left)) (drop (length shown - left) shown) ≡ drop (length bytes - left) bytes
slice_end left shown bytes is =
    take_all _ (drop (length shown - left) shown) (omega (arith, length-drop (length shown - left) shown)) ∙ ap (λ bs. drop (length bs - left) bs) is

-- nothing is held but these bytes
pub held_last : (begun held slice bytes : List ℕ) → held ≡ begun ++ slice → begun ≡ [] → slice ≡ bytes → held ≡ bytes
held_last begun held slice bytes is none same = is ∙ ap (λ bs. bs ++ slice) none ∙ same

-- the front goes on by a line and its line feed
pub front_more : (bytes front lines line rest : List ℕ) → bytes ≡ front ++ lines → lines ≡ line ++ 10 ∷ rest → bytes ≡ (front ++ (line ++ 10 ∷ [])) ++ rest
front_more bytes front lines line rest is cut =
    is ∙ ap (λ bs. front ++ bs) (cut ∙ sym (append_assoc line (10 ∷ []) rest)) ∙ sym (append_assoc front (line ++ 10 ∷ []) rest)

-- the first line is the held bytes and the bytes up to the first line feed
pub held_bytes : (begun line rest bytes first : List ℕ) → first ≡ begun ++ line → bytes ≡ line ++ 10 ∷ rest → first ++ 10 ∷ rest ≡ begun ++ bytes
held_bytes begun line rest bytes first is cut = ap (λ bs. bs ++ 10 ∷ rest) is ∙ append_assoc begun line (10 ∷ rest) ∙ ap (λ bs. begun ++ bs) (sym cut)

-- its answer is written
pub leads_first : (before after : Held) (number : ℕ) (line rest reply : List ℕ) → NoFeed line → 0 < number → (after_line before number line ≡ Ok after) × (reply ≡ line_report before line) → LeadsTo before number (line ++ 10 ∷ rest) after (number + 1) rest reply
leads_first before after number line rest reply none counted good = leads_line before number [] (line ++ 10 ∷ rest) line rest tt (none, refl) after reply counted good

-- or it fails
pub fails_first : (before : Held) (number : ℕ) (line rest reply : List ℕ) (fault : RunFault) → NoFeed line → LineFails before number line reply fault → FailsWith before number (line ++ 10 ∷ rest) reply fault
fails_first before number line rest reply fault none fails = fails_line before number [] (line ++ 10 ∷ rest) line rest tt (none, refl) reply fault fails
