-- The piece ends between two characters.
use Rattle.std.proofs.Common.{ℕ, List, subst}
use Rattle.lasso_guide.proofs.Pieces.{Piece, cut_between, is_piece}
use Rattle.lasso_guide.proofs.lexer.first_piece.Goals as goal
use Rattle.lasso_guide.proofs.lexer.first_piece.Goals.{After-piece_len}

-- what `piece_len` said of the bytes holds of the text
measured : (c : After-piece_len) → Piece c.args.text.now c.piece_len.result
measured c =
    let of = c.piece_len.ensures in
    subst (λ (text : List ℕ). Piece text c.piece_len.result) c.as_bytes.ensures.value (record { some = of.within.0; within = of.within.1; inside = of.inside; stops = of.stops })

pub split_at-requires : goal.split_at-requires
split_at-requires c = cut_between _ _ (measured (goal.at.split_at-requires c).After-piece_len) c.utf8.text

pub returns : goal.returns
returns c = is_piece _ _ (measured (goal.at.returns c).After-piece_len) _ _ c.split_at.ensures.front c.split_at.ensures.back
