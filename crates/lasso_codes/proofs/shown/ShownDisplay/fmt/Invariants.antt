use Rattle.std.proofs.Common.{◌≡◌, ℕ, List, ◌++◌, IsUtf8, chars}
use Rattle.std.specs.Prelude.{flat_map}
use Rattle.std.specs.Fmt.{HasWritten, IsPlainFormatter}
use Rattle.std.specs.Str.Iter.{chars_rest}
use Rattle.lasso_codes.specs.Shown.{shown_letter, shown_text}
use Rattle.lasso_codes.proofs.shown.ShownDisplay.fmt.Given as goal

-- what was written, and then the letters that are left, are the whole word
abbrev pub invariant-loop-letter : goal.invariant-loop-letter
invariant-loop-letter g l =
    IsUtf8 (chars_rest l.letter-iterator)
    × (IsPlainFormatter l.initial.f → (done : List ℕ) × HasWritten g.W.Write.write_str_gives l.initial.f done l.f
    × (done ++ flat_map shown_letter (chars (chars_rest l.letter-iterator)) ≡ shown_text l.fn.self.0.now))
