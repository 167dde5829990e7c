use Rattle.std.proofs.Common.{◌≡◌, ◌<◌, ◌+◌, [], ◌∷◌, ◌++◌, length, take, sym, subst, ap, ◌∙◌, arith}
use Rattle.std.proofs.lemmas.List.{take_more, take_all}
use Rattle.lasso_single.specs.Command.{run_of}
use Rattle.lasso_single.proofs.Run.{run_push, run_keeps, run_first}
use Rattle.lasso_single.proofs.commands.run_commands.Goals as goal

pub loop-command-preserved : goal.loop-command-preserved
loop-command-preserved g c =
    let commands = c.args.commands.now in
    let i = c.loop-command.command-index in
    let before = c.loop-command.invariant in
    let key_at = g.K.Key.key_at in
    let number = g.K.Key.number in
    let inside : i < length commands = omega arith in
    let item = c.command-item.result in
    let more : take (i + 1) commands ≡ take i commands ++ item ∷ [] = take_more commands i item inside ∙ ap (λ x. take i commands ++ x ∷ []) (sym c.command-item.is) in
    let ran = run_push key_at number c.args.rodeo.now c.loop-command.rodeo c.run_command-reply.new.rodeo (take i commands) c.loop-command.replies.items item c.run_command-reply.result before.ran c.run_command-reply.ensures in
    let here = subst (λ cs. run_of key_at number c.args.rodeo.now cs (c.loop-command.replies.items ++ c.run_command-reply.result ∷ []) c.run_command-reply.new.rodeo) (sym more) ran in
    record {
      ran = subst (λ rs. run_of key_at number c.args.rodeo.now (take (i + 1) commands) rs c.run_command-reply.new.rodeo) (sym c.push_reserved.ensures.items) here;
      count = omega (arith, c.push_reserved.ensures.len, before.count);
      room = omega (arith, c.push_reserved.ensures.capacity, before.room);
    }

pub returns-clause-bound : goal.returns-clause-bound
returns-clause-bound g c =
    let commands = c.args.commands.now in
    let i = c.loop-command.command-index in
    let key_at = g.K.Key.key_at in
    let number = g.K.Key.number in
    let ran = subst (λ cs. run_of key_at number c.args.rodeo.now cs c.loop-command.replies.items c.loop-command.rodeo) (take_all i commands (omega arith)) c.loop-command.invariant.ran in
    let first = run_first key_at number c.args.rodeo.now c.loop-command.rodeo commands c.loop-command.replies.items ran in
    omega (arith, first, c.current_memory_usage-usage.ensures.bound, c.current_memory_usage-usage.ensures.usage)

pub returns-clause-waste : goal.returns-clause-waste
returns-clause-waste g c uncleared fresh =
    let commands = c.args.commands.now in
    let i = c.loop-command.command-index in
    let key_at = g.K.Key.key_at in
    let number = g.K.Key.number in
    let ran = subst (λ cs. run_of key_at number c.args.rodeo.now cs c.loop-command.replies.items c.loop-command.rodeo) (take_all i commands (omega arith)) c.loop-command.invariant.ran in
    let keeps = run_keeps key_at number c.args.rodeo.now c.loop-command.rodeo commands c.loop-command.replies.items uncleared ran in
    let waste = c.current_memory_usage-usage.ensures.waste (keeps.1 ∙ fresh) in
    omega (arith, waste, keeps.0, c.current_memory_usage-usage.ensures.usage)
