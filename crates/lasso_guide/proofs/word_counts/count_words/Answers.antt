-- The pass has seen what the threads had, so the keys stand for the words in its list. The count of the texts
-- reaches each of them, and the list only grows with that call.
use Rattle.std.proofs.Common.{ℕ, ◌<◌, List, Bor, map, length, get_or, sym, subst, arith}
use Rattle.std.proofs.lemmas.Result.{err_from_is_err_and}
use Rattle.lasso.specs.Replies.{Len, Number}
use Rattle.lasso.specs.Views.{list_of, seen}
use Rattle.lasso.proofs.CallingShared.{call_keeps_texts, count_reaches}
use Rattle.lasso_guide.specs.WordKeys.{IsRefusalOf, Resolve}
use Rattle.lasso_guide.proofs.Counting.{err_at, ok_at, resolve_later, resolve_within, share_seen}
use Rattle.lasso_guide.proofs.word_counts.count_words.Goals as goal

pub returns-in_err-keys-clause-refused : goal.returns-in_err-keys-clause-refused
returns-in_err-keys-clause-refused g c =
    let number = g.K.Key.number in
    let key_at = g.K.Key.key_at in
    let words = map (λ (w : Bor (List ℕ)). w.now) c.args.words.now in
    let opening = c.args.rodeo.now.opening in
    let past = seen c.learn.new.self in
    let p = err_from_is_err_and c.from_residual.result c.from_residual.ensures.1 in
    let share = share_seen number key_at c.args.rodeo.now c.intern_by_four-share.result.known.notes c.learn.new.self.notes words c.intern_by_four-share.result.keys c.learn.ensures.known c.intern_by_four-share.ensures.1 in
    let why =
    err_at (λ keys. Resolve number (list_of c.args.rodeo.now c.learn.new.self.notes) keys.items words) (λ error. IsRefusalOf number key_at opening past words error) c.intern_by_four-share.result.keys c.in_err-keys.field-0.0 share c.in_err-keys.was in
    rw (p.1, p.2) why

pub tally-requires : goal.tally-requires
tally-requires g c k d small =
    let number = g.K.Key.number in
    let of = c.args.rodeo.now in
    let words = map (λ (w : Bor (List ℕ)). w.now) c.args.words.now in
    let list = list_of of c.learn.new.self.notes in
    let share = share_seen number g.K.Key.key_at of c.intern_by_four-share.result.known.notes c.learn.new.self.notes words c.intern_by_four-share.result.keys c.learn.ensures.known c.intern_by_four-share.ensures.1 in
    let stand = ok_at (λ keys. Resolve number list keys.items words) (λ error. IsRefusalOf number g.K.Key.key_at of.opening (seen c.learn.new.self) words error) c.intern_by_four-share.result.keys c.in_ok-keys.keys share c.in_ok-keys.was in
    let inside : k < length c.in_ok-keys.keys.items = subst (λ ks. k < length ks) c.deref.ensures.value small in
    let within = resolve_within number list c.in_ok-keys.keys.items words stand k d inside in
    let reaches = count_reaches g.K.Key.key_at of.opening (seen c.learn.new.self) (seen c.len_as-texts.new.pass) c.learn.new.self.number c.len_as-texts.result c.len_as-texts.ensures.call in
    subst (λ ks. number (get_or ks k d) < c.len_as-texts.result) (sym c.deref.ensures.value) (omega (arith, within, reaches))

pub returns-clause-keys : goal.returns-clause-keys
returns-clause-keys g c =
    let number = g.K.Key.number in
    let of = c.args.rodeo.now in
    let words = map (λ (w : Bor (List ℕ)). w.now) c.args.words.now in
    let list = list_of of c.learn.new.self.notes in
    let share = share_seen number g.K.Key.key_at of c.intern_by_four-share.result.known.notes c.learn.new.self.notes words c.intern_by_four-share.result.keys c.learn.ensures.known c.intern_by_four-share.ensures.1 in
    let stand = ok_at (λ keys. Resolve number list keys.items words) (λ error. IsRefusalOf number g.K.Key.key_at of.opening (seen c.learn.new.self) words error) c.intern_by_four-share.result.keys c.in_ok-keys.keys share c.in_ok-keys.was in
    resolve_later number list (list_of of c.len_as-texts.new.pass.notes) (call_keeps_texts g.K.Key.key_at of.opening (seen c.learn.new.self) (seen c.len_as-texts.new.pass) c.learn.new.self.number Len (Number c.len_as-texts.result) c.len_as-texts.ensures.call) c.in_ok-keys.keys.items words stand
