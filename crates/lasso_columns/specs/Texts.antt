-- How lines get texts.
use Rattle.std.specs.Prelude.{ℕ, Bool, List, map, if◌then◌else◌}
use Rattle.lasso_input.specs.Texts.{is_let_in, text_of}
use Rattle.lasso_parts.specs.Texts.{Text}
use Rattle.lasso_columns.specs.declared.line_texts.LineTexts.{LineTexts}
use Rattle.lasso_columns.specs.declared.line_texts.LineTexts.TheVariants.{Own, OfBytes}

-- the text of a line that is let in; another line, which is not UTF-8, stays as it is, and so is refused
abbrev pub text_by : Bool → List ℕ → Text
text_by only line = if is_let_in only line then text_of line else line

-- the texts of the lines
abbrev pub texts_by : LineTexts → List (List ℕ) → List Text
texts_by Own lines = lines
texts_by (OfBytes only) lines = map (text_by only) lines
