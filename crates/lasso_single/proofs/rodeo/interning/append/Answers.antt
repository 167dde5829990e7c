-- A new text goes last, and its key into the index, at once where neither grows, else once room is made. What is refused for
-- memory leaves both as they were.
use Rattle.std.proofs.Common.{◌≡◌, ℕ, List, [], ◌∷◌, ◌++◌, length, Some, None, Ok, Err, IsSome, subst, sym, refl, ap, ◌∙◌}
use Rattle.lasso_parts.specs.Account.{store}
use Rattle.lasso_parts.specs.Texts.{Text, position_of, Fits}
use Rattle.lasso_parts.specs.Hashing.{hash_by}
use Rattle.lasso_parts.specs.Index.{IsIndexOf}
use Rattle.lasso_parts.specs.declared.util.LassoError.{LassoError}
use Rattle.lasso_single.specs.Intern.{InternsIn}
use Rattle.lasso_single.specs.Interner.{InternerView, KeepsOrigin}
use Rattle.lasso_single.proofs.Interned.{without_key, past_limit, gone_in}
use Rattle.lasso_single.proofs.Lacking.{lacking}
use Rattle.lasso_single.proofs.Wholes.{whole_pushed}
use Rattle.lasso_single.proofs.rodeo.interning.append.Goals as goal

pub returns-then-push_in_room-clause-whole : goal.returns-then-push_in_room-clause-whole
returns-then-push_in_room-clause-whole g c =
    let texts = c.args.list.now.texts in
    let made : Some c.in-Some.key ≡ g.K.Key.key_at (length texts) = subst (λ (n : ℕ). Some c.in-Some.key ≡ g.K.Key.key_at n) c.len.ensures c.in-Some.ensures in
    let number : g.K.Key.number c.in-Some.key ≡ length texts = (g.met.K.Key.made (length texts) c.in-Some.key (sym made)).2 in
    let put = c.if-push_in_room.ensures in
    whole_pushed _ g.K.Key.key_at texts c.push_in_room.new.list.texts c.args.text.now c.args.hash (g.K.Key.number c.in-Some.key) c.args.index.now c.args.index.now c.push_in_room.new.index c.requires.whole c.requires.whole.0 c.requires.absent (put.texts refl) number (subst IsSome made refl) c.requires.hashed (put.holds refl) (put.used refl) (put.filed refl)

pub returns-in_err-push_growing-clause-interned : goal.returns-in_err-push_growing-clause-interned
returns-in_err-push_growing-clause-interned g c =
    let before : InternerView = c.args.list.now in
    let same : c.push_in_room.new.list ≡ before = c.if-push_in_room.ensures.same_list refl in
    let grown = c.in_err-push_growing.ensures in
    let made : Some c.in-Some.key ≡ g.K.Key.key_at (length before.texts) = subst (λ (n : ℕ). Some c.in-Some.key ≡ g.K.Key.key_at n) c.len.ensures c.in-Some.ensures in
    let place : IsSome (store before.first before.account (length c.args.text.now)) = subst (λ (v : InternerView). IsSome (store v.first v.account (length c.args.text.now))) same (c.admits.ensures.0 c.if-not-admits.false) in
    lacking g.K.Key.key_at before c.push_growing.new.self c.args.text.now c.in-Some.key c.in_err-push_growing.field-0.0 c.from_residual-in_err-push_growing.result c.from_residual-in_err-push_growing.ensures.1 grown.refused
    (grown.same_texts ∙ ap (λ (v : InternerView). v.texts) same) (grown.same_account ∙ ap (λ (v : InternerView). v.account) same) (grown.same_copied ∙ ap (λ (v : InternerView). v.copied) same)
    (subst (λ (v : InternerView). KeepsOrigin v c.push_growing.new.self) same grown.origin) c.requires.absent made place

pub returns-clause-whole : goal.returns-clause-whole
returns-clause-whole g c =
    let texts = c.args.list.now.texts in
    let made : Some c.in-Some.key ≡ g.K.Key.key_at (length texts) = subst (λ (n : ℕ). Some c.in-Some.key ≡ g.K.Key.key_at n) c.len.ensures c.in-Some.ensures in
    let number : g.K.Key.number c.in-Some.key ≡ length texts = (g.met.K.Key.made (length texts) c.in-Some.key (sym made)).2 in
    let same : c.push_in_room.new.list.texts ≡ texts = ap (λ (v : InternerView). v.texts) (c.if-push_in_room.ensures.same_list refl) in
    let hash_of = hash_by g.S.BuildHasher g.S.Hasher.Hasher c.args.hasher.now in
    let whole = subst (λ (ts : List Text). IsIndexOf hash_of ts c.reserve_in_order.new.self) same c.reserve_in_order.ensures.whole in
    whole_pushed _ g.K.Key.key_at texts c.push_growing.new.self.texts c.args.text.now c.args.hash (g.K.Key.number c.in-Some.key) c.args.index.now c.reserve_in_order.new.self c.insert_at.new.self c.requires.whole whole c.requires.absent (c.in_ok-push_growing.ensures.texts ∙ ap (λ (ts : List Text). ts ++ c.args.text.now ∷ []) same) number (subst IsSome made refl) c.requires.hashed c.insert_at.ensures.holds c.insert_at.ensures.used c.insert_at.ensures.filed

pub returns-in_default-clause-interned : goal.returns-in_default-clause-interned
returns-in_default-clause-interned g c =
    let before : InternerView = c.args.list.now in
    let none : g.K.Key.key_at (length before.texts) ≡ None = ap g.K.Key.key_at (sym c.len.ensures) ∙ sym c.try_from_usize.ensures ∙ c.in_default.is in
    subst (λ (e : LassoError). InternsIn g.K.Key.key_at before c.args.text.now (Err e) before) (sym c.new.ensures) (without_key g.K.Key.key_at before c.args.text.now c.requires.absent none)

pub returns-then-push_in_room-clause-interned : goal.returns-then-push_in_room-clause-interned
returns-then-push_in_room-clause-interned g c =
    let before : InternerView = c.args.list.now in
    let put = c.if-push_in_room.ensures in
    let keyed : g.K.Key.key_at (length before.texts) ≡ Some c.in-Some.key = ap g.K.Key.key_at (sym c.len.ensures) ∙ sym c.in-Some.ensures in
    gone_in g.K.Key.key_at before c.args.text.now c.requires.absent c.in-Some.key keyed c.push_in_room.new.list (put.texts refl) (put.account refl) (put.copied refl) put.origin

pub returns-then-not-admits-clause-interned : goal.returns-then-not-admits-clause-interned
returns-then-not-admits-clause-interned g c =
    let left : InternerView = c.push_in_room.new.list in
    let same : left ≡ c.args.list.now = c.if-push_in_room.ensures.same_list refl in
    let absent = ap (λ (v : InternerView). position_of v.texts c.args.text.now) same ∙ c.requires.absent in
    let keyed = ap (λ (v : InternerView). g.K.Key.key_at (length v.texts)) same ∙ ap g.K.Key.key_at (sym c.len.ensures) ∙ sym c.in-Some.ensures in
    subst (λ (v : InternerView). InternsIn g.K.Key.key_at v c.args.text.now (Err c.new-then-not-admits.result) left) same
    (subst (λ (e : LassoError). InternsIn g.K.Key.key_at left c.args.text.now (Err e) left) (sym c.new-then-not-admits.ensures)
    (past_limit g.K.Key.key_at left c.args.text.now absent c.in-Some.key keyed (λ some. cc (c.admits.ensures.1 some, c.if-not-admits.true))))

pub returns-in_err-place-clause-interned : goal.returns-in_err-place-clause-interned
returns-in_err-place-clause-interned g c =
    let before : InternerView = c.args.list.now in
    let same : c.push_in_room.new.list ≡ before = c.if-push_in_room.ensures.same_list refl in
    let made : Some c.in-Some.key ≡ g.K.Key.key_at (length before.texts) = c.in-Some.ensures ∙ ap g.K.Key.key_at c.len.ensures in
    let place : IsSome (store before.first before.account (length c.args.text.now)) = subst (λ (v : InternerView). IsSome (store v.first v.account (length c.args.text.now))) same (c.admits.ensures.0 c.if-not-admits.false) in
    lacking g.K.Key.key_at before c.push_in_room.new.list c.args.text.now c.in-Some.key c.in_err-place.field-0.0 c.from_residual.result c.from_residual.ensures.1 c.in_err-place.ensures.refused
    (ap (λ (v : InternerView). v.texts) same) (ap (λ (v : InternerView). v.account) same) (ap (λ (v : InternerView). v.copied) same)
    (subst (λ (v : InternerView). KeepsOrigin before v) (sym same) (refl, refl, refl)) c.requires.absent made place

pub returns-clause-interned : goal.returns-clause-interned
returns-clause-interned g c =
    let left : InternerView = c.push_in_room.new.list in
    let same : left ≡ c.args.list.now = c.if-push_in_room.ensures.same_list refl in
    let grown = c.in_ok-push_growing.ensures in
    let absent = ap (λ (v : InternerView). position_of v.texts c.args.text.now) same ∙ c.requires.absent in
    let keyed = ap (λ (v : InternerView). g.K.Key.key_at (length v.texts)) same ∙ ap g.K.Key.key_at (sym c.len.ensures) ∙ sym c.in-Some.ensures in
    subst (λ (v : InternerView). InternsIn g.K.Key.key_at v c.args.text.now (Ok c.in-Some.key) c.push_growing.new.self) same
    (gone_in g.K.Key.key_at left c.args.text.now absent c.in-Some.key keyed c.push_growing.new.self grown.texts grown.account grown.copied grown.origin)

pub returns-then-not-admits-clause-whole : goal.returns-then-not-admits-clause-whole
returns-then-not-admits-clause-whole g c = rw (c.if-push_in_room.ensures.same_list refl, c.if-push_in_room.ensures.same_index refl) c.requires.whole

pub returns-in_err-place-clause-whole : goal.returns-in_err-place-clause-whole
returns-in_err-place-clause-whole g c =
    (c.reserve_in_order.ensures.whole, subst (λ (v : InternerView). Fits g.K.Key.key_at (length v.texts)) (sym (c.if-push_in_room.ensures.same_list refl)) c.requires.whole.1)

pub returns-in_err-push_growing-clause-whole : goal.returns-in_err-push_growing-clause-whole
returns-in_err-push_growing-clause-whole g c =
    let hash_of = hash_by g.S.BuildHasher g.S.Hasher.Hasher c.args.hasher.now in
    let fits = subst (λ (v : InternerView). Fits g.K.Key.key_at (length v.texts)) (sym (c.if-push_in_room.ensures.same_list refl)) c.requires.whole.1 in
    subst (λ (ts : List Text). IsIndexOf hash_of ts c.reserve_in_order.new.self × Fits g.K.Key.key_at (length ts)) (sym c.in_err-push_growing.ensures.same_texts) (c.reserve_in_order.ensures.whole, fits)
