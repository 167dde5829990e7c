-- A reservation after steps that added no event of the pass.
use Rattle.std.proofs.Common.{◌≡◌, ℕ, List, [], ◌∷◌, Option, Some, None, IfSome, IfNone, subst}
use Rattle.lasso_log.specs.History.{Event, Reserve}
use Rattle.lasso_log.specs.Notes.{NoteView, Since}
use Rattle.lasso_log.specs.Pieces.{RangeView}
use Rattle.lasso_log.specs.SharedBuckets.{SharedView, IsNoteOf, IsReserved}
use Rattle.lasso_log.specs.Views.{InternerId}
use Rattle.lasso_log.proofs.Tickets.{since_trans}

-- a longer time without an event of the pass
pub none_longer : (p q : ℕ) (a b c : List NoteView) → q ≡ p → Since p a b [] → Since q b c [] → Since p a c []
none_longer p q a b c is s t = since_trans p a b c [] s (subst (λ (n : ℕ). Since n b c []) is t)

pub none_after : {A : Type 0} (o : Option A) (p q : ℕ) (a b c : List NoteView) → q ≡ p → Since p a b [] → IfNone o (Since q b c []) → IfNone o (Since p a c [])
none_after None p q a b c is s t = none_longer p q a b c is s t
none_after (Some r) p q a b c is s t = tt

-- the reservation is the one event of the whole time
reserved_whole : (s : SharedView) (p q : ℕ) (a b c : List NoteView) (r : RangeView) (bytes : ℕ) → q ≡ p → Since p a b [] → IsReserved s q b c r bytes → IsReserved s p a c r bytes
reserved_whole s p q a b c r bytes is before e =
    let own = Reserve s.position bytes in record {
      event = since_trans p a b c (own ∷ []) before (subst (λ (n : ℕ). Since n b c (own ∷ [])) is e.event);
      note = subst (λ (n : ℕ). IsNoteOf n c own s.site) is e.note;
      range = e.range;
    }

pub reserved_later : (of : InternerId) (p q : ℕ) (a b c : List NoteView) (r : RangeView) (bytes : ℕ) → q ≡ p → Since p a b [] → ((s : SharedView) × (s.of ≡ of) × IsReserved s q b c r bytes) → (s : SharedView) × (s.of ≡ of) × IsReserved s p a c r bytes
reserved_later of p q a b c r bytes is before taken = (taken.0, taken.1, reserved_whole taken.0 p q a b c r bytes is before taken.2)

pub reserved_after : (o : Option RangeView) (of : InternerId) (p q : ℕ) (a b c : List NoteView) (bytes : ℕ) → q ≡ p → Since p a b [] → IfSome o (λ r. (s : SharedView) × (s.of ≡ of) × IsReserved s q b c r bytes) → IfSome o (λ r. (s : SharedView) × (s.of ≡ of) × IsReserved s p a c r bytes)
reserved_after None of p q a b c bytes is before taken = tt
reserved_after (Some r) of p q a b c bytes is before taken = reserved_later of p q a b c r bytes is before taken

-- the same of the event that a try added, if it found a range
pub taken_after : (o : Option RangeView) (p q : ℕ) (a b c : List NoteView) (own : Event) → q ≡ p → Since p a b [] → IfSome o (λ r. Since q b c (own ∷ [])) → IfSome o (λ r. Since p a c (own ∷ []))
taken_after None p q a b c own is before taken = tt
taken_after (Some r) p q a b c own is before taken = since_trans p a b c (own ∷ []) before (subst (λ (n : ℕ). Since n b c (own ∷ [])) is taken)
