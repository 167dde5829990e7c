-- Lines that were encoded, one after another.
--
-- The lines of the bytes are those that were cut off, followed by those of the rest. Each line that was
-- cut off is UTF-8 and was encoded, so there is one new code for each. If nothing is left, these are all
-- lines. Otherwise encoding ended at the next line.
use Rattle.std.proofs.Common.{ℕ, ◌≡◌, ◌+◌, ◌-◌, List, [], ◌∷◌, ◌++◌, length, Ok, Some, IsSomeAnd, refl, sym, ap, subst, ◌∙◌, arith, append_assoc, append-nil}
use Rattle.std.specs.Prelude.{All, slice_get}
use Rattle.std.specs.Str.{IsUtf8}
use Rattle.std.proofs.lemmas.List.{length_push}
use Rattle.std.proofs.lemmas.List.Elements.{All-nil, All-push}
use Rattle.lasso_parts.specs.Texts.{Text, position_of}
use Rattle.lasso_single.specs.Intern.{InternsIn}
use Rattle.lasso_single.specs.Interner.{InternerView}
use Rattle.lasso_single.proofs.Encoded.{Encoded, encoded_push, encoded_still, encoded_are, encoded_length, next_at}
use Rattle.lasso_single.specs.Coding.{spur_at, encoded_texts}
use Rattle.lasso_columns.specs.Faults.{IsFaultOf, IsNextFault}
use Rattle.lasso_input.specs.Lines.{lines_of}
use Rattle.lasso_columns.specs.declared.faults.LineError.{LineError}

-- the first `count` lines were cut off the bytes and encoded, and `rest` is left
pub record LinesSoFar (old : InternerView) (bytes : List ℕ) (before : List ℕ) (count : ℕ) (rest : List ℕ) (new : InternerView) (after : List ℕ) : Type 0 where
  pub done : List Text
  pub split : lines_of bytes ≡ done ++ lines_of rest
  pub so_far : Encoded old done before new after
  pub texts : All IsUtf8 done
  pub counted : length done ≡ count

-- no line yet: all bytes are left
pub lines_begin : (old : InternerView) (bytes before rest : List ℕ) → rest ≡ bytes → LinesSoFar old bytes before 0 rest old before
lines_begin old bytes before rest is = record {
  done = [];
  split = ap lines_of (sym is);
  so_far = record { list = (refl, refl); codes = ([], sym (append-nil before), refl) };
  texts = All-nil IsUtf8;
  counted = refl;
}

-- one more line
pub lines_push : (old mid new : InternerView) (bytes before : List ℕ) (count : ℕ) (rest : List ℕ) (codes : List ℕ) (line behind : List ℕ) (key code : ℕ) (after : List ℕ) → LinesSoFar old bytes before count rest mid codes → lines_of rest ≡ line ∷ lines_of behind → IsUtf8 line → InternsIn spur_at mid line (Ok key) new → position_of new.texts line ≡ Some code → after ≡ codes ++ code ∷ [] → LinesSoFar old bytes before (count + 1) behind new after
lines_push old mid new bytes before count rest codes line behind key code after lines cut text interns here is = record {
  done = lines.done ++ line ∷ [];
  split = lines.split ∙ ap (λ (ls : List Text). lines.done ++ ls) cut ∙ sym (append_assoc lines.done (line ∷ []) (lines_of behind));
  so_far = encoded_push old mid new lines.done line key code before codes after lines.so_far interns here is;
  texts = All-push IsUtf8 lines.done line lines.texts text;
  counted = length_push lines.done line ∙ ap (λ n. n + 1) lines.counted;
}

-- nothing has changed since
pub lines_still : (old mid new : InternerView) (bytes before : List ℕ) (count : ℕ) (rest codes after : List ℕ) → LinesSoFar old bytes before count rest mid codes → new ≡ mid → after ≡ codes → LinesSoFar old bytes before count rest new after
lines_still old mid new bytes before count rest codes after lines same kept = record {
  done = lines.done;
  split = lines.split;
  so_far = encoded_still old mid new lines.done before codes after lines.so_far same kept;
  texts = lines.texts;
  counted = lines.counted;
}

module _ (old new : InternerView) (bytes before : List ℕ) (count : ℕ) (rest after : List ℕ) (lines : LinesSoFar old bytes before count rest new after) where
  pub told_texts : All IsUtf8 (encoded_texts before after (lines_of bytes))
  told_texts = subst (λ (ts : List Text). All IsUtf8 ts) (sym (encoded_are (lines_of bytes) lines.done (lines_of rest) lines.split old new before after lines.so_far)) lines.texts

  -- what holds of the next line
  pub told_next : (P : Text → Type 0) (line behind : List ℕ) → lines_of rest ≡ line ∷ lines_of behind → P line → IsSomeAnd (slice_get (lines_of bytes) (length after - length before)) P
  told_next P line behind cut holds =
      let split : lines_of bytes ≡ lines.done ++ line ∷ lines_of behind = lines.split ∙ ap (λ (ls : List Text). lines.done ++ ls) cut in
      next_at (lines_of bytes) lines.done line (lines_of behind) split old new before after lines.so_far P holds

  -- the fault of the next line
  pub told_fault : (line behind : List ℕ) (fault : LineError) → lines_of rest ≡ line ∷ lines_of behind → IsFaultOf new line (count + 1) fault → IsNextFault new before after (lines_of bytes) fault
  told_fault line behind fault cut is =
      let many : length after - length before ≡ count = omega (arith, encoded_length old new lines.done before after lines.so_far, lines.counted) in
      let here : IsFaultOf new line (length after - length before + 1) fault = subst (λ n. IsFaultOf new line (n + 1) fault) (sym many) is in
      told_next (λ l. IsFaultOf new l (length after - length before + 1) fault) line behind cut here
