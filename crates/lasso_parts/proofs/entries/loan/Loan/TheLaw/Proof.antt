-- A `&` to a loan.
--
-- Of a text that an arena copied the loan holds nothing. Of another it is a `&` to each byte, at the lifetime
-- that never ends, and of that there may be two. So a borrow of the loan is opened, what is in it is doubled, one
-- of the two closes the borrow, and the other is what the `&` holds.
use mathlib.Core.List.{[], ◌∷◌}
use base.Fml.{Lft, Fml, fbor}
use base.Logic.{sep, wand, apply∗}
use types.Logic.{sem, lfts}
use types.Kit.{‵, raw, ◌⊛◌, later, ◌$◌, ◌∵◌, !, qed, move, keep, use1, use2, split, await, updating, now, done}
use denote.Sharing.{ShrLaws}
use denote.SharingLaws.{contraction, held_shr_laws}
use denote.Struct.Lending.{of_Lends}
use Rattle.lasso_parts.specs.Loans.{lent}
use Rattle.lasso_parts.specs.declared.entries.loan.Loan.{Loan}
use Rattle.lasso_parts.specs.contracts.entries.loan.Loan as loan
use Rattle.lasso_parts.proofs.TextsLent.{lent_laws}
use Rattle.lasso_parts.proofs.entries.loan.Loan.TheLaw.Statement.{statement}

-- what a loan holds, at any lifetime
abbrev Lent : Loan → Lft → Fml
Lent d = lent d.text.source d.text.at

laws : (d : Loan) → ShrLaws (Lent d)
laws d = lent_laws d.text.source d.text.at

pub shares : statement
shares =
    of_Lends loan.struct loan.the_codes loan.the_heap loan.the_lent (λ d p. held_shr_laws [] (Lent d) (laws d)) tt (λ M 𝓤 𝓛 d p κ ts inside spanned.
    let owned : Fml = Lent d [] in let closed = 𝓛.H.⇛ (sep 𝓤 (𝓛.A.bor κ owned) (lfts 𝓛 ts)) in
    qed 𝓛 (‵ (fbor κ owned) ∷ raw (lfts 𝓛 ts) ∷ []) ∵ updating ! $
    use2 𝓛 (later (‵ owned ⊛ raw (wand 𝓤 (sem 𝓛 owned) closed))) (𝓛.more.bor_acc_by κ ts owned spanned) $ await ! tt $ split ! $
    use1 𝓛 (‵ owned ⊛ ‵ owned) (contraction 𝓛 (Lent d) (laws d) []) $ split ! $
    -- [the loan; the loan; what closes the borrow]
    move ! (1 ∷ 2 ∷ []) $ use2 𝓛 (later (‵ (fbor κ owned) ⊛ raw (lfts 𝓛 ts))) (apply∗ 𝓤 (sem 𝓛 owned) closed) $ await ! tt $ split ! $
    -- [the borrow; the tokens; the loan]
    keep ! (2 ∷ 1 ∷ []) $ now ! $ done !)
