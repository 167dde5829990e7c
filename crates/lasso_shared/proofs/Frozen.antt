-- Freezing an interner that threads share: a call whose reply is the list at its end, copied, and the copy itself.
--
-- A distinct list that fits the keys is interned, text after text, into an interner that was just made with
-- one bucket for its bytes. The text at a position is none of those before it, since the list is distinct,
-- and has a key, since the list fits the keys. So interning it puts it last, or is refused by the limit or
-- out of memory. The bucket has room for the bytes of all texts, so the limit refuses none of them.
use Rattle.std.proofs.Common.{◌≡◌, ℕ, ◌+◌, ◌≤◌, List, [], length, slice_get, Option, Some, None, IsSome, Result, Ok, Err, MatchResult, refl, sym, subst}
use Rattle.lasso_parts.specs.Texts.{Text, position_of, IsDistinct, Fits}
use Rattle.lasso_parts.specs.declared.util.LassoError.{LassoError}
use Rattle.lasso_parts.specs.declared.util.LassoErrorKind.{LassoErrorKind}
use Rattle.lasso_parts.specs.declared.util.LassoErrorKind.TheVariants.{FailedAllocation}
use Rattle.lasso_log.specs.Calls.{IsCall}
use Rattle.lasso_log.specs.History.{Totals}
use Rattle.lasso_log.specs.Notes.{NoteView, history, state, Since}
use Rattle.lasso_log.specs.Replies.{Freeze, Listed, MayCopy}
use Rattle.lasso_shared.proofs.Called.{explained_last}
use Rattle.lasso_single.specs.Copies.{bytes_of}
use Rattle.lasso_single.specs.Intern.{InternsIn}
use Rattle.lasso_single.specs.Interner.{InternerView}
use Rattle.lasso_single.proofs.Copied.{CopiedTo, copied_more, interned_copies, refused_copies, taken_at, clone_stops}

-- the list at the end was copied, or memory ran out
pub frozen : {K : Type 0} (key_at : ℕ → Option K) (o : Totals) (p : ℕ) (before after : List NoteView) (r : Result (List Text) LassoErrorKind) → Since p before after [] → MayCopy (state o after).texts r → IsCall key_at o (history before) (history after) p Freeze (Listed r)
frozen key_at o p before after r s is = explained_last key_at o p before after [] Freeze (Listed r) s refl is refl

-- one more text was appended; or memory ran out
pub interned_more : {K : Type 0} (key_at : ℕ → Option K) (start : InternerView) (texts : List Text) (i : ℕ) (text : Text) (old : InternerView) (reply : Result K LassoError) (new : InternerView) → IsDistinct texts → Fits key_at (length texts) → bytes_of texts ≤ start.account.room → slice_get texts i ≡ Some text → CopiedTo start texts i old → InternsIn key_at old text reply new
    → MatchResult reply (λ _. CopiedTo start texts (i + 1) new) (λ error. error ≡ FailedAllocation)
interned_more {K} key_at start texts i text old (Ok k) new distinct fits room at so_far interns =
    let free = taken_at key_at texts distinct fits i text at in
    let absent : position_of old.texts text ≡ None = subst (λ (ts : List Text). position_of ts text ≡ None) (sym so_far.texts) free.0 in
    let has_key : IsSome (key_at (length old.texts)) = subst (λ (ts : List Text). IsSome (key_at (length ts))) (sym so_far.texts) free.1 in
    copied_more start texts i text old (Ok tt) new at so_far (interned_copies key_at old text k new absent has_key interns)
interned_more {K} key_at start texts i text old (Err error) new distinct fits room at so_far interns =
    let free = taken_at key_at texts distinct fits i text at in
    let absent : position_of old.texts text ≡ None = subst (λ (ts : List Text). position_of ts text ≡ None) (sym so_far.texts) free.0 in
    let has_key : IsSome (key_at (length old.texts)) = subst (λ (ts : List Text). IsSome (key_at (length ts))) (sym so_far.texts) free.1 in
    let stops = copied_more start texts i text old (Err error) new at so_far (refused_copies {K = K} key_at old text error new absent has_key interns) in
    clone_stops start.first start.account texts i error new.account room stops.0
