use Rattle.std.proofs.Common.{◌≡◌, ◌≤◌, length, take, vec_len, vec_capacity}
use Rattle.lasso_single.specs.Command.{run_of}
use Rattle.lasso_single.proofs.commands.run_commands.Given as goal

abbrev pub invariant-loop-command : goal.invariant-loop-command
invariant-loop-command g l = record {
  ran : run_of g.K.Key.key_at g.K.Key.number l.fn.rodeo (take l.command-index l.commands) l.replies.items l.rodeo;
  count : vec_len l.replies ≡ l.command-index;
  room : length l.commands ≤ vec_capacity l.replies;
}
