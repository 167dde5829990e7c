use Rattle.std.proofs.Common.{◌-◌, ℕ, List, length}
use Rattle.std.specs.Vec.{vec_capacity, vec_len}
use Rattle.lasso_input.specs.Lines.{lines_of}
use Rattle.lasso_parts.specs.Texts.{Text}
use Rattle.lasso_single.specs.Coding.{spur_at, encoded_texts}
use Rattle.lasso_single.proofs.FillingFacts.{Added, filled_added, filled_texts}
use Rattle.lasso_columns.specs.Faults.{LineMayLackMemory}
use Rattle.lasso_columns.proofs.LineFaults.{line_limit, line_memory, line_no_key, line_not_text, line_number}
use Rattle.lasso_columns.proofs.encoding.encode_lines.Given.{Over}
use Rattle.lasso_columns.proofs.encoding.encode_lines.Goals as goal

-- the lines that were encoded, and how many they are
abbrev done : (g : Over) (c : goal.After-encode_each_line g) → List Text
done g c = encoded_texts c.args.codes.now.items c.encode_each_line.new.codes.items (lines_of c.args.bytes.now)

abbrev count : (g : Over) (c : goal.After-encode_each_line g) → ℕ
count g c = length c.encode_each_line.new.codes.items - length c.args.codes.now.items

added : (g : Over) (c : goal.After-encode_each_line g) → Added c.args.rodeo.now c.encode_each_line.new.rodeo
added g c = filled_added spur_at (done g c) c.args.rodeo.now c.encode_each_line.new.rodeo c.encode_each_line.ensures.list

pub returns-clause-texts : goal.returns-clause-texts
returns-clause-texts g c = filled_texts spur_at (done g c) c.args.rodeo.now c.encode_each_line.new.rodeo c.encode_each_line.ensures.list

pub returns-clause-account : goal.returns-clause-account
returns-clause-account g c = (added g c).account

pub returns-clause-copied : goal.returns-clause-copied
returns-clause-copied g c = (added g c).copied

pub returns-clause-origin : goal.returns-clause-origin
returns-clause-origin g c = (added g c).origin

pub returns-clause-number : goal.returns-clause-number
returns-clause-number g c = line_number c.encode_each_line.new.rodeo (lines_of c.args.bytes.now) (count g c) c.encode_each_line.result c.encode_each_line.ensures.fault

pub returns-clause-not_text : goal.returns-clause-not_text
returns-clause-not_text g c = line_not_text c.encode_each_line.new.rodeo (lines_of c.args.bytes.now) (count g c) c.encode_each_line.result c.encode_each_line.ensures.fault

pub returns-clause-no_key : goal.returns-clause-no_key
returns-clause-no_key g c = line_no_key c.encode_each_line.new.rodeo (lines_of c.args.bytes.now) (count g c) c.encode_each_line.result c.encode_each_line.ensures.fault

pub returns-clause-limit : goal.returns-clause-limit
returns-clause-limit g c = line_limit c.encode_each_line.new.rodeo (lines_of c.args.bytes.now) (count g c) c.encode_each_line.result c.encode_each_line.ensures.fault

pub returns-clause-memory : goal.returns-clause-memory
returns-clause-memory g c =
    let codes = c.encode_each_line.new.codes in
    line_memory c.encode_each_line.new.rodeo (lines_of c.args.bytes.now) (count g c) (vec_capacity codes) (vec_len codes) c.encode_each_line.result (λ line fault. LineMayLackMemory c.encode_each_line.new.rodeo codes line fault) (λ line at may. may) c.encode_each_line.ensures.memory
