use Rattle.std.proofs.Common.{◌≡◌, ap, ◌∙◌, refl, sym, true, [], ◌∷◌, arith}
use Rattle.lasso_log.specs.Notes.{opening_of}
use Rattle.lasso_log.specs.Openings.{first_note_of}
use Rattle.lasso_log.specs.Views.{interner_id}
use Rattle.lasso_log.proofs.log.opening.new_book.NewBook.spine.Goals as goal

pub invariant_of-turns : goal.invariant_of-turns
invariant_of-turns g c =
    let log : c.again.result.log ≡ first_note_of c.args.first.now ∷ [] = ap (λ s. s.log) c.again.ensures ∙ c.requires.log in
    (rw log tt, rw log record { word = refl; kept = ((0, true) ∷ (0, true) ∷ (0, true) ∷ [], c.requires.kept); doubled = refl; used = refl; most = refl; all = refl }, c.requires.limit)

pub invariant_of-result : goal.invariant_of-result
invariant_of-result g c =
    let log : c.again-2.result.log ≡ first_note_of c.args.first.now ∷ [] = ap (λ s. s.log) c.again-2.ensures ∙ c.requires.log in (
      rw log tt,
      rw log c.requires.len,
      rw log (refl, ((0, true) ∷ (0, true) ∷ (0, true) ∷ [], c.requires.kept)),
      omega (arith, c.requires.len, c.requires.kept.short),
      ap (λ s. interner_id s.book s.names (opening_of s.log)) (c.again.ensures ∙ sym c.again-2.ensures),
    )
