-- The notes that a pass asks for.
use Rattle.lasso_log.specs.Chunks.{first_number}
use Rattle.lasso_log.specs.Events.{event_of, note_of, note_in, bucket_at}
use Rattle.lasso_log.specs.History.{Reserve, Charge}
use Rattle.lasso_log.specs.Notes.{NoteView}
use Rattle.lasso_log.specs.declared.log.book.proposals.Proposal.{Proposal}
use Rattle.lasso_log.specs.declared.log.book.proposals.BytesAsked.{BytesAsked}
use Rattle.lasso_log.specs.declared.log.book.proposals.BucketAsked.{BucketAsked}

-- the note of a proposed change
abbrev pub note_proposed : {A : Type 0} → Proposal A → NoteView
note_proposed p = note_of (first_number p.number.now.numbers) (event_of p.change) p.position p.ticket.now.pen.nib.key p.next.now.pen.nib.key

-- the note of a reservation of bytes
abbrev pub note_of_bytes : {A : Type 0} → BytesAsked A → NoteView
note_of_bytes a =
    note_in (bucket_at a.site.now.numbers a.size a.used) (first_number a.number.now.numbers) (Reserve a.bucket a.bytes) a.ticket.now.pen.nib.key a.next.now.pen.nib.key

-- the note of a charge of a bucket
abbrev pub note_of_bucket : {A : Type 0} → BucketAsked A → NoteView
note_of_bucket a =
    note_in (bucket_at a.site.now.numbers a.size a.bytes) (first_number a.number.now.numbers) (Charge a.size a.bytes) a.ticket.now.pen.nib.key a.next.now.pen.nib.key
