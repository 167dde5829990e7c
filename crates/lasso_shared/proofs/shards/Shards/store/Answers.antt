use Rattle.std.proofs.Common.{◌≡◌, ◌≢◌, ℕ, [], ◌∷◌, length, arith, inl, refl, ap, sym, ◌∙◌, subst}
use mathlib.Core.List.{ne-nil_of_mem}
use Rattle.std.specs.Prelude.{IfOk, OnErr, Result, Ok, Err}
use Rattle.std.proofs.lemmas.Bool.Decides.{nat_tests}
use Rattle.lasso_parts.specs.Texts.{Text}
use Rattle.lasso_parts.specs.Hashing.{hash_by}
use Rattle.lasso_log.specs.Chunks.{era_named}
use Rattle.lasso_log.specs.Eras.{life}
use Rattle.lasso_log.specs.History.{Lacks, Reserve}
use Rattle.lasso_log.specs.Notes.{Since}
use Rattle.lasso_log.specs.Pieces.{PieceView}
use Rattle.lasso_log.specs.Views.{list_of}
use Rattle.lasso_shared.proofs.Now.{stores_some}
use Rattle.lasso_shared.proofs.Stored.{called_refused, is_none, stores_later, stores_none}
use Rattle.lasso_shared.proofs.Whole.{since_both, since_self, still_lacks}
use Rattle.lasso_shared.proofs.shards.Shards.store.Goals as goal

-- what holds holds on a condition too
given : {A E : Type 0} (Z : Type 0) (P : A → Type 0) (r : Result A E) → IfOk r P → IfOk r (λ x. Z → P x)
given Z P (Ok x) p = λ z. p
given Z P (Err e) p = tt

pub returns-in-Static-clause-event : goal.returns-in-Static-clause-event
returns-in-Static-clause-event g c = rw c.in-Static.is ([], refl, since_self c.args.pass.now.number c.args.pass.now.notes)

pub returns-then-is_empty-clause-event : goal.returns-then-is_empty-clause-event
returns-then-is_empty-clause-event g c =
    let zero : length c.in-Copied.text.now ≡ 0 = grind (arith, nat_tests, c.if-is_empty.true, c.is_empty.ensures) in
    rw c.in-Copied.is ([], stores_none c.in-Copied.text.now (is_none c.in-Copied.text.now zero), since_self c.args.pass.now.number c.args.pass.now.notes)

pub returns-then-is_empty-clause-piece : goal.returns-then-is_empty-clause-piece
returns-then-is_empty-clause-piece g c =
    let zero : length c.in-Copied.text.now ≡ 0 = grind (arith, nat_tests, c.if-is_empty.true, c.is_empty.ensures) in
    let lasting = c.from_static-then-is_empty.ensures in
    rw c.in-Copied.is (lasting.text ∙ sym (is_none c.in-Copied.text.now zero), λ a mem. absurd (ne-nil_of_mem mem lasting.until))

pub returns-then-is_empty-clause-lies : goal.returns-then-is_empty-clause-lies
returns-then-is_empty-clause-lies g c =
    let zero : length c.in-Copied.text.now ≡ 0 = grind (arith, nat_tests, c.if-is_empty.true, c.is_empty.ensures) in
    rw c.in-Copied.is (λ copied some. absurd (some (is_none c.in-Copied.text.now zero)))

pub returns-in-Some-clause-event : goal.returns-in-Some-clause-event
returns-in-Some-clause-event g c =
    let t = c.in-Copied.text.now in
    let some : t ≢ [] = λ none. let zero : length t ≡ 0 = ap (λ (x : Text). length x) none in grind (arith, nat_tests, c.if-is_empty.false, c.is_empty.ensures, zero) in
    let taken = c.in-Some.ensures.event in
    let own = Reserve taken.0.position (length t) ∷ [] in
    rw c.in-Copied.is (own, stores_some t own some (inl (taken.0.position, refl)), taken.2.event)

pub returns-clause-event : goal.returns-clause-event
returns-clause-event g c =
    let p = c.args.pass.now.number in
    let first = c.reserve_anywhere.ensures in
    let w = c.lock_spine_when_current-guard in
    let mid = w.new.pass.notes in
    let since = since_both p c.reserve_anywhere.new.pass.number c.args.pass.now.notes c.reserve_anywhere.new.pass.notes mid first.same.0 c.in_default.ensures.none w.ensures.since in
    rw c.in-Copied.is (stores_later p w.new.pass.number c.args.pass.now.notes mid c.store_with_spine-piece.new.pass.notes c.in-Copied.text.now c.store_with_spine-piece.result (w.ensures.same.0 ∙ first.same.0) since c.store_with_spine-piece.ensures.event)

pub returns-clause-piece : goal.returns-clause-piece
returns-clause-piece g c = rw c.in-Copied.is c.store_with_spine-piece.ensures.piece

pub returns-clause-lies : goal.returns-clause-lies
returns-clause-lies g c =
    let t = c.in-Copied.text.now in
    rw c.in-Copied.is (given _ (λ (v : PieceView). t ≢ [] → v.until ≡ life (era_named c.args.self.now.log.chunks)) c.store_with_spine-piece.result c.store_with_spine-piece.ensures.lies)

pub returns-clause-refused : goal.returns-clause-refused
returns-clause-refused g c =
    let p = c.args.pass.now.number in
    let log = c.args.self.now.log in
    let t = c.in-Copied.text.now in
    let first = c.reserve_anywhere.ensures in
    let w = c.lock_spine_when_current-guard.ensures in
    let known = c.args.shard.now.known.notes in
    let mid = c.lock_spine_when_current-guard.new.pass.notes in
    let after = c.store_with_spine-piece.new.pass.notes in
    let spine = c.deref_mut.result.now.spine.notes in
    let r = c.store_with_spine-piece.result in
    let hash_of = hash_by g.S.BuildHasher g.S.Hasher.Hasher c.args.self.now.hasher in
    let since = since_both p c.reserve_anywhere.new.pass.number c.args.pass.now.notes c.reserve_anywhere.new.pass.notes mid first.same.0 c.in_default.ensures.none w.since in
    let hashed : c.args.hash ≡ hash_of t = rw c.in-Copied.is at c.requires.hashed in
    let new : Lacks (list_of log known) t = rw c.in-Copied.is at c.requires.lacks in
    let lacks : Lacks (list_of log mid) t = still_lacks hash_of c.args.hash c.number_of.result log known mid t w.whole hashed c.number_of.ensures.0 c.requires.held.exact.distinct new in
    let is : list_of log mid ≡ list_of log spine = rw c.deref_mut.ensures.value w.list in
    let none : OnErr r (Since p mid after []) = subst (λ (n : ℕ). OnErr r (Since n mid after [])) (w.same.0 ∙ first.same.0) c.store_with_spine-piece.ensures.err in
    rw c.in-Copied.is (called_refused g.K.Key.key_at log p spine c.args.pass.now.notes mid after t r since lacks is c.store_with_spine-piece.ensures.refused none)
