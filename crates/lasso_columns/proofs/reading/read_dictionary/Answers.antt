use Rattle.std.proofs.Common.{map}
use Rattle.lasso_parts.specs.Layout.{layout_texts}
use Rattle.lasso_columns.proofs.ReadFaults.{read_account, read_copied, read_origin}
use Rattle.lasso_columns.proofs.reading.read_dictionary.Goals as goal

pub returns-clause-account : goal.returns-clause-account
returns-clause-account g c = read_account g.K.Key.key_at c.args.limits c.args.bytes.now (layout_texts c.args.bytes.now (map g.O.Offset.number c.args.offsets.now)) c.read_texts.result c.read_texts.ensures.list

pub returns-clause-copied : goal.returns-clause-copied
returns-clause-copied g c = read_copied g.K.Key.key_at c.args.limits c.args.bytes.now (layout_texts c.args.bytes.now (map g.O.Offset.number c.args.offsets.now)) c.read_texts.result c.read_texts.ensures.list

pub returns-clause-origin : goal.returns-clause-origin
returns-clause-origin g c = read_origin g.K.Key.key_at c.args.limits c.args.bytes.now (layout_texts c.args.bytes.now (map g.O.Offset.number c.args.offsets.now)) c.read_texts.result c.read_texts.ensures.list
