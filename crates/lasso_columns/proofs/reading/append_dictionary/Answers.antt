use Rattle.std.proofs.Common.{map, take}
use Rattle.lasso_parts.specs.Layout.{layout_texts}
use Rattle.lasso_single.proofs.FillingFacts.{Added, filled_added}
use Rattle.lasso_columns.specs.Dictionaries.{appended}
use Rattle.lasso_columns.proofs.ReadFaults.{read_doubled, read_layout, read_limit, read_memory, read_no_key, read_position}
use Rattle.lasso_columns.proofs.reading.append_dictionary.Given.{Over}
use Rattle.lasso_columns.proofs.reading.append_dictionary.Goals as goal

added : (g : Over) (c : goal.After-append_texts g) → Added c.args.rodeo.now c.append_texts.new.rodeo
added g c =
    let old = c.args.rodeo.now in
    let new = c.append_texts.new.rodeo in
    filled_added g.K.Key.key_at (take (appended old.texts new.texts) (layout_texts c.args.bytes.now (map g.O.Offset.number c.args.offsets.now))) old new c.append_texts.ensures.list

pub returns-clause-account : goal.returns-clause-account
returns-clause-account g c = (added g c).account

pub returns-clause-copied : goal.returns-clause-copied
returns-clause-copied g c = (added g c).copied

pub returns-clause-origin : goal.returns-clause-origin
returns-clause-origin g c = (added g c).origin

pub returns-clause-position : goal.returns-clause-position
returns-clause-position g c = read_position g.K.Key.key_at g.O.Offset.GREATEST c.args.bytes.now (map g.O.Offset.number c.args.offsets.now) (appended c.args.rodeo.now.texts c.append_texts.new.rodeo.texts) c.append_texts.new.rodeo c.append_texts.result c.append_texts.ensures.fault

pub returns-clause-layout : goal.returns-clause-layout
returns-clause-layout g c = read_layout g.K.Key.key_at g.O.Offset.GREATEST c.args.bytes.now (map g.O.Offset.number c.args.offsets.now) (appended c.args.rodeo.now.texts c.append_texts.new.rodeo.texts) c.append_texts.new.rodeo c.append_texts.result c.append_texts.ensures.fault

pub returns-clause-doubled : goal.returns-clause-doubled
returns-clause-doubled g c = read_doubled g.K.Key.key_at g.O.Offset.GREATEST c.args.bytes.now (map g.O.Offset.number c.args.offsets.now) (appended c.args.rodeo.now.texts c.append_texts.new.rodeo.texts) c.append_texts.new.rodeo c.append_texts.result c.append_texts.ensures.fault

pub returns-clause-no_key : goal.returns-clause-no_key
returns-clause-no_key g c = read_no_key g.K.Key.key_at g.O.Offset.GREATEST c.args.bytes.now (map g.O.Offset.number c.args.offsets.now) (appended c.args.rodeo.now.texts c.append_texts.new.rodeo.texts) c.append_texts.new.rodeo c.append_texts.result c.append_texts.ensures.fault

pub returns-clause-limit : goal.returns-clause-limit
returns-clause-limit g c = read_limit g.K.Key.key_at g.O.Offset.GREATEST c.args.bytes.now (map g.O.Offset.number c.args.offsets.now) (appended c.args.rodeo.now.texts c.append_texts.new.rodeo.texts) c.append_texts.new.rodeo c.append_texts.result c.append_texts.ensures.fault

pub returns-clause-memory : goal.returns-clause-memory
returns-clause-memory g c = read_memory g.K.Key.key_at g.O.Offset.GREATEST c.args.bytes.now (map g.O.Offset.number c.args.offsets.now) (appended c.args.rodeo.now.texts c.append_texts.new.rodeo.texts) c.append_texts.new.rodeo c.append_texts.result c.append_texts.ensures.fault
