-- The key resolves to its word in what the pass has then seen, and the words before keep theirs.
use Rattle.std.proofs.Common.{◌+◌, ◌∷◌, ◌++◌, [], List, Bor, Ok, map, take, sym, subst, ◌∙◌}
use Rattle.std.proofs.lemmas.Result.{err_from_is_err_and}
use Rattle.lasso.specs.Texts.{Text}
use Rattle.lasso.specs.Replies.{Copied, Intern, Interned}
use Rattle.lasso.specs.Views.{list_of, seen}
use Rattle.lasso.proofs.CallingShared.{shared_answer_resolves, call_keeps_texts}
use Rattle.lasso_guide.specs.WordKeys.{Resolve}
use Rattle.lasso_guide.proofs.Counting.{refused_here, resolve_later, resolve_push, words_more, words_split}
use Rattle.lasso_guide.proofs.word_counts.intern_all.Goals as goal

pub loop-word-preserved : goal.loop-word-preserved
loop-word-preserved g c =
    let key_at = g.K.Key.key_at in
    let number = g.K.Key.number in
    let told = c.in_ok-key.ensures in
    let of = c.args.rodeo.now in
    let before = seen c.loop-word.pass in
    let after = seen c.try_get_or_intern_as.new.pass in
    let list = list_of of c.try_get_or_intern_as.new.pass.notes in
    let earlier = take c.loop-word.word-index (map (λ (w : Bor Text). w.now) c.args.words.now) in
    let here = shared_answer_resolves key_at number (λ n k e. (g.met.K.Key.made n k e).2) of.opening before after c.loop-word.pass.number Copied _ (Ok c.in_ok-key.key) told.call in
    let kept = resolve_later number (list_of of c.loop-word.pass.notes) list (call_keeps_texts key_at of.opening before after c.loop-word.pass.number (Intern Copied _) (Interned (Ok c.in_ok-key.key)) told.call) c.loop-word.keys.items earlier c.loop-word.invariant.keys in
    let more = resolve_push number list c.loop-word.keys.items earlier c.in_ok-key.key _ kept here in
    record {
      of = told.same.1 ∙ c.loop-word.invariant.of;
      keys =
          subst (λ ks. Resolve number list ks (take (c.loop-word.word-index + 1) (map (λ (w : Bor Text). w.now) c.args.words.now))) (sym c.in_ok-push.ensures.items)
          (subst (λ (ts : List Text). Resolve number list (c.loop-word.keys.items ++ c.in_ok-key.key ∷ []) ts) (sym (words_more c.args.words.now c.loop-word.word-index _ c.loop-word-test.true)) more);
    }

pub returns-in_err-key-clause-keys : goal.returns-in_err-key-clause-keys
returns-in_err-key-clause-keys g c =
    let all = map (λ (w : Bor Text). w.now) c.args.words.now in
    let p = err_from_is_err_and c.from_residual.result c.from_residual.ensures.1 in
    let why =
    refused_here g.K.Key.number g.K.Key.key_at c.args.rodeo.now.opening (seen c.loop-word.pass) (seen c.try_get_or_intern_as.new.pass) c.loop-word.pass.number (take c.loop-word.word-index all) _ _ all c.loop-word.keys.items c.in_err-key.field-0.0 (words_split c.args.words.now c.loop-word.word-index _ c.loop-word-test.true) c.loop-word.invariant.keys c.in_err-key.ensures.call in
    rw (p.1, p.2) why
