-- The words of the command line, one after another.
--
-- A word is read, and then the words after it, with what was read so far. A search for an equals sign finds
-- the first one.
use Rattle.std.proofs.Common.{ℕ, zero, suc, ◌≡◌, ◌+◌, ◌<◌, ◌==◌, false, cond, List, [], ◌∷◌, length, map, drop, get_or, Option, Some, None, Ok, Err, sym, ap, subst, ◌∙◌, arith}
use Rattle.std.specs.Prelude.{slice_get, MatchOption, position, codes, bytes_eq}
use Rattle.memchr.specs.Find.{IsFirstByte, is_byte}
use Rattle.lasso_parts.specs.Texts.{Text}
use Rattle.lasso_codes.specs.Arguments.{Asked, command_of, verb_of, on_verb, not_verb, is_binary, meaning_of, at_equals}
use Rattle.lasso_codes.proofs.FirstBytes.{first_byte_at}
use Rattle.lasso_codes.specs.declared.arguments.Verb.{Verb}
use Rattle.lasso_codes.specs.declared.options.Meaning.TheVariants.{AsksHelp, IsBinary, IsQuiet, IsUtf8Only}
use Rattle.lasso_codes.specs.declared.arguments.Command.TheVariants.{Help, Version}

-- the first word
pub first_word : {X : Type 0} (see : X → Text) (words : List X) (word : X) → length words == 0 ≡ false → word ≡ get_or words 0 word → slice_get (map see words) 0 ≡ Some (see word)
first_word see [] word some is = cc
first_word see (w ∷ words) word some is = ap (λ v. Some (see v)) (sym is)

-- the word at an index and those after it
pub next_word : {X : Type 0} (see : X → Text) (words : List X) (i : ℕ) (word : X) → i < length words → word ≡ get_or words i word → drop i (map see words) ≡ see word ∷ drop (i + 1) (map see words)
next_word see [] i word small is = absurd (omega (arith, small))
next_word see (w ∷ words) zero word small is = ap (λ v. see v ∷ map see words) (sym is)
next_word see (w ∷ words) (suc i) word small is =
    let more : suc (i + 1) ≡ suc i + 1 = omega arith in
    next_word see words i word (omega (arith, small)) is ∙ ap (λ n. see word ∷ drop n (see w ∷ map see words)) more

-- the first word is not a verb
pub no_verb_is : (words : List Text) (word : Text) → slice_get words 0 ≡ Some word → bytes_eq word (codes "--help") ≡ false → bytes_eq word (codes "--version") ≡ false → verb_of word ≡ None → command_of words ≡ Err (not_verb word)
no_verb_is [] word at help version none = cc
no_verb_is (w ∷ words) word at help version none =
    let same : w ≡ word = cc in
    let help_asked : Asked = Ok (Help, None) in
    let version_asked : Asked = Ok (Version, None) in
    ap (λ v. command_of (v ∷ words)) same
    ∙ ap (λ b. cond b help_asked (cond (bytes_eq word (codes "--version")) version_asked (on_verb (verb_of word) word words))) help
    ∙ ap (λ b. cond b version_asked (on_verb (verb_of word) word words)) version ∙ ap (λ o. on_verb o word words) none

-- what is read with a word, if it ends the command and if it does not
pub told_none : {X R : Type 0} (o : Option X) (asked done : R) (go : X → R) → o ≡ None → MatchOption o (asked ≡ done) (λ after. asked ≡ go after) → asked ≡ done
told_none o asked done go e told = subst (λ p. MatchOption p (asked ≡ done) (λ after. asked ≡ go after)) e told

pub told_some : {X R : Type 0} (o : Option X) (after : X) (asked done : R) (go : X → R) → o ≡ Some after → MatchOption o (asked ≡ done) (λ x. asked ≡ go x) → asked ≡ go after
told_some o after asked done go e told = subst (λ p. MatchOption p (asked ≡ done) (λ x. asked ≡ go x)) e told

-- ---- the equals sign of a word

equals_is : (word : Text) (o : Option ℕ) → IsFirstByte (is_byte 61) word o → position (λ b. b == 61) word ≡ o
equals_is word o found = first_byte_at 61 word o found

-- the meaning of a word that is not `--help`, `--quiet`, `--binary` or `--utf8`
pub meaning_is : (verb : Verb) (word bytes : Text) (o : Option ℕ) → bytes ≡ word → bytes_eq word (codes "--help") ≡ false → bytes_eq word (codes "--quiet") ≡ false → is_binary verb word ≡ false → bytes_eq word (codes "--utf8") ≡ false → IsFirstByte (is_byte 61) bytes o → meaning_of verb word ≡ at_equals verb word o
meaning_is verb word bytes o same help quiet binary utf8 found =
    let value = at_equals verb word (position (λ c. c == 61) word) in
    let others = cond (bytes_eq word (codes "--utf8")) IsUtf8Only value in
    ap (λ b. cond b AsksHelp (cond (bytes_eq word (codes "--quiet")) IsQuiet (cond (is_binary verb word) IsBinary others))) help
    ∙ ap (λ b. cond b IsQuiet (cond (is_binary verb word) IsBinary others)) quiet ∙ ap (λ b. cond b IsBinary others) binary
    ∙ ap (λ b. cond b IsUtf8Only value) utf8 ∙ ap (at_equals verb word) (equals_is word o (subst (λ bs. IsFirstByte (is_byte 61) bs o) same found))
