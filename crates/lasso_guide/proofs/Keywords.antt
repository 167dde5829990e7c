-- Keywords and their keys.
--
-- The keywords are the first texts of a lexer's list, and no text comes twice in it. So a key is a keyword's
-- exactly where its position is below the number of keywords.
use Rattle.std.proofs.Common.{ℕ, ◌≡◌, ◌<◌, List, [], length, get_or, Some, ap, subst, ◌∙◌}
use Rattle.std.specs.Prelude.{slice_get}
use Rattle.std.proofs.lemmas.Option.{slice_get-get_or}
use Rattle.lasso.proofs.IndexLaws.{position_of_at}
use Rattle.lasso.specs.Spurs.{spur_number}
use Rattle.lasso.specs.Texts.{Text, IsDistinct, position_of}
use Rattle.lasso_guide.specs.Lexing.{Keep, IsKeyword, keywords}

-- the text below that position is a keyword
pub keyword_below : (texts : List Text) (key : ℕ) → Keep keywords texts → spur_number key < length keywords → IsKeyword texts key
keyword_below texts key keeps below =
    let n = spur_number key in
    let text : Text = get_or keywords n [] in
    let at : slice_get keywords n ≡ Some text = slice_get-get_or keywords n [] below in
    let again : slice_get keywords n ≡ Some (get_or keywords n text) = slice_get-get_or keywords n text below in
    (text, keeps n text at, (n, below, cc))

-- and each keyword is there
pub keyword_is_below : (texts : List Text) (key : ℕ) → Keep keywords texts → IsDistinct texts → IsKeyword texts key → spur_number key < length keywords
keyword_is_below texts key keeps distinct (text, at, (k, below, is)) =
    let first : slice_get keywords k ≡ Some text = slice_get-get_or keywords k text below ∙ ap Some is in
    let here : position_of texts text ≡ Some k = position_of_at texts text k distinct (keeps k text first) in
    let there : position_of texts text ≡ Some (spur_number key) = position_of_at texts text (spur_number key) distinct at in
    let same : k ≡ spur_number key = cc in
    subst (λ n. n < length keywords) same below
