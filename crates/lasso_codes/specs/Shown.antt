-- A word of the command line, as a message shows it.
use Rattle.std.specs.Prelude.{ℕ, false, List, ◌++◌, chars, codes, flat_map, if◌then◌else◌}
use Rattle.std.specs.Char.{encode_utf8, is_control}
use Rattle.std.specs.Fmt.{digits}
use Rattle.lasso_parts.specs.Texts.{Text}

-- a control character in Rust's form, `\u{1b}`, and any other character in UTF-8
abbrev pub shown_letter : ℕ → List ℕ
shown_letter c = if is_control c then codes "\\u{" ++ (digits 16 false c ++ codes "}") else encode_utf8 c

-- the word, letter by letter
unfoldable pub shown_text : Text → List ℕ
shown_text word = flat_map shown_letter (chars word)
