-- Pieces of a text.
--
-- Of a piece and the byte after it, one is ASCII: a byte past ASCII is a letter, and no piece that goes on
-- with a letter stops before one. So no character is split. White space before a cut is part of the space
-- before its first token.
use Rattle.std.proofs.Common.{ℕ, ◌≡◌, ◌+◌, ◌-◌, ◌<◌, ◌≤◌, ◌++◌, ◌∷◌, [], List, length, get_or, take, drop, true, false, IsUtf8, refl, sym, ap, subst, ◌∙◌, ⊎_elim, append_assoc, arith, add-zero, length-drop, length-take-le, take-append-drop, get_or-drop, get_or-take}
use Rattle.std.specs.Prelude.{All}
use Rattle.std.specs.Str.{IsCharBoundary}
use Rattle.std.proofs.lemmas.Bool.Decides.{nat_tests}
use Rattle.std.proofs.lemmas.List.Elements.{All-append, All-from_get_or, All-nil}
use Rattle.std.proofs.lemmas.Str.{lead_after_ascii}
use Rattle.std.proofs.str.Laws.{order}
use Rattle.lasso.specs.Texts.{Text}
use Rattle.lasso_guide.specs.declared.lexer.Kind.{Kind}
use Rattle.lasso_guide.specs.declared.lexer.Kind.TheVariants.{Letters, Digits, Mark, Space}
use Rattle.lasso_guide.specs.declared.lexer.Token.{Token}
use Rattle.lasso_guide.specs.declared.lexer.Token.TheVariants.{Name, Number, Symbol}
use Rattle.lasso_guide.specs.Lexing.{kind_of, goes_on, continues, Keep, IsPiece, IsTokenOf, IsCutInto}

high_is_letter : (byte : ℕ) → 128 ≤ byte → kind_of byte ≡ Letters
high_is_letter byte high = grind (arith, nat_tests)

-- the first n bytes of the text are a piece
pub record Piece (text : Text) (n : ℕ) : Type 0 where
  pub some : 0 < n
  pub within : n ≤ length text
  pub inside : (i : ℕ) → 0 < i → i < n → continues (kind_of (get_or text 0 0)) (get_or text i 0) ≡ true
  pub stops : n < length text → continues (kind_of (get_or text 0 0)) (get_or text n 0) ≡ false

module _ (text : Text) (n : ℕ) (first_n : Piece text n) where
  -- a letter after the piece has none before it
  no_letter_before : n < length text → 128 ≤ get_or text n 0 → 128 ≤ get_or text (n - 1) 0 → ⊥
  no_letter_before more high before =
      let kind = kind_of (get_or text 0 0) in
      let ends : goes_on kind Letters ≡ false = ap (goes_on kind) (sym (high_is_letter (get_or text n 0) high)) ∙ first_n.stops more in
      ⊎_elim
      (λ later.
      let goes : goes_on kind Letters ≡ true = ap (goes_on kind) (sym (high_is_letter (get_or text (n - 1) 0) before)) ∙ first_n.inside (n - 1) later (omega arith) in
      absurd (cc))
      (λ first.
      let zero_is : n - 1 ≡ 0 = omega arith in
      let letter : kind ≡ Letters = high_is_letter (get_or text 0 0) (subst (λ i. 128 ≤ get_or text i 0) zero_is before) in
      let goes : goes_on Letters Letters ≡ false = subst (λ k. goes_on k Letters ≡ false) letter ends in
      absurd (cc))
      (order 0 (n - 1))

  -- no character is split
  pub cut_between : IsUtf8 text → IsCharBoundary text n
  cut_between utf8 = (
    first_n.within,
    λ more high.
        let last : n - 1 + 1 ≡ n = omega arith in
        ⊎_elim
        (λ ascii. subst (λ i. 192 ≤ get_or text i 0) last (lead_after_ascii text (n - 1) utf8 ascii (omega arith) (subst (λ i. 128 ≤ get_or text i 0) (sym last) high)))
        (λ before. absurd (no_letter_before more high before))
        (order (get_or text (n - 1) 0) 128),
  )

  cut_here : IsPiece text (take n text) (drop n text)
  cut_here =
      let long : length (take n text) ≡ n = length-take-le n text first_n.within in
      let left : length (drop n text) ≡ length text - n = length-drop n text in
      let first : get_or (take n text) 0 0 ≡ get_or text 0 0 = get_or-take n text 0 0 first_n.some in
      let next : get_or (drop n text) 0 0 ≡ get_or text n 0 = get_or-drop n text 0 0 ∙ ap (λ i. get_or text i 0) (add-zero n) in
      record {
        whole = take-append-drop n text;
        begins = omega (arith, long);
        inside = λ i past low.
            let below : i < n = omega (arith, long) in
            let here : get_or (take n text) i 0 ≡ get_or text i 0 = get_or-take n text i 0 below in
            ap (λ b. continues (kind_of b) (get_or (take n text) i 0)) first ∙ ap (continues (kind_of (get_or text 0 0))) here ∙ first_n.inside i past below;
        stops = λ more. ap (λ b. continues (kind_of b) (get_or (drop n text) 0 0)) first ∙ ap (continues (kind_of (get_or text 0 0))) next ∙ first_n.stops (omega (arith, left));
      }

  -- what is cut off is a piece
  pub is_piece : (piece after : Text) → piece ≡ take n text → after ≡ drop n text → IsPiece text piece after
  is_piece piece after front back = subst (λ (a : Text). IsPiece text piece a) (sym back) (subst (λ (p : Text). IsPiece text p (drop n text)) (sym front) cut_here)

-- a piece that goes on with white space alone
space_goes_on : (kind : Kind) → goes_on Space kind ≡ true → kind ≡ Space
space_goes_on Letters goes = cc
space_goes_on Digits goes = cc
space_goes_on Mark goes = cc
space_goes_on Space goes = refl

-- a piece of white space has nothing else
space_all : (text piece after : Text) → IsPiece text piece after → kind_of (get_or piece 0 0) ≡ Space → All (λ byte. kind_of byte ≡ Space) piece
space_all text piece after is space = All-from_get_or (λ byte. kind_of byte ≡ Space) piece 0 (λ i low.
    ⊎_elim
    (λ past. space_goes_on (kind_of (get_or piece i 0)) (subst (λ k. goes_on k (kind_of (get_or piece i 0)) ≡ true) space (is.inside i past low)))
    (λ none. let zero_is : i ≡ 0 = omega arith in subst (λ j. kind_of (get_or piece j 0) ≡ Space) (sym zero_is) space)
    (order 0 i))

-- white space before a text that is cut
pub space_before : (texts : List Text) (text piece after : Text) (tokens : List Token) → IsPiece text piece after → kind_of (get_or piece 0 0) ≡ Space → IsCutInto texts after tokens → IsCutInto texts text tokens
space_before texts text piece after [] is space cut =
    subst (All (λ byte. kind_of byte ≡ Space)) is.whole (All-append (λ byte. kind_of byte ≡ Space) piece after (space_all text piece after is space) cut)
space_before texts text piece after (token ∷ tokens) is space (spaces, rest, first, others, whole, all, begins, of, cut) = (
  piece ++ spaces,
  rest,
  first,
  others,
  append_assoc piece spaces rest ∙ ap (λ l. piece ++ l) whole ∙ is.whole,
  All-append (λ byte. kind_of byte ≡ Space) piece spaces (space_all text piece after is space) all,
  begins,
  of,
  cut,
)

-- the token of a piece before it
pub token_before : (texts : List Text) (text piece after : Text) (token : Token) (tokens : List Token) → IsPiece text piece after → IsTokenOf texts piece token → IsCutInto texts after tokens → IsCutInto texts text (token ∷ tokens)
token_before texts text piece after token tokens is of cut = ([], text, piece, after, refl, All-nil (λ byte. kind_of byte ≡ Space), is, of, cut)

-- a token in a list that keeps the texts
pub token_kept : (before after : List Text) (piece : Text) (token : Token) → Keep before after → IsTokenOf before piece token → IsTokenOf after piece token
token_kept before after piece (Name key) keeps of = (of.0, keeps _ _ of.1)
token_kept before after piece (Number digits) keeps of = of
token_kept before after piece (Symbol symbol) keeps of = of
