use Rattle.lasso_single.proofs.EncodedText.{text_account, text_appended, text_code, text_codes_kept, text_copied, text_limit, text_memory, text_no_key, text_origin, text_present, text_room, text_unchanged}
use Rattle.lasso_single.proofs.coding.encode_text.Goals as goal

pub returns-clause-code : goal.returns-clause-code
returns-clause-code g c = text_code c.args.rodeo.now c.encode_next.new.rodeo c.args.text.now c.args.codes.now c.encode_next.new.codes c.encode_next.result c.encode_next.ensures

pub returns-clause-present : goal.returns-clause-present
returns-clause-present g c = text_present c.args.rodeo.now c.encode_next.new.rodeo c.args.text.now c.args.codes.now c.encode_next.new.codes c.encode_next.result c.encode_next.ensures

pub returns-clause-appended : goal.returns-clause-appended
returns-clause-appended g c = text_appended c.args.rodeo.now c.encode_next.new.rodeo c.args.text.now c.args.codes.now c.encode_next.new.codes c.encode_next.result c.encode_next.ensures

pub returns-clause-account : goal.returns-clause-account
returns-clause-account g c = text_account c.args.rodeo.now c.encode_next.new.rodeo c.args.text.now c.args.codes.now c.encode_next.new.codes c.encode_next.result c.encode_next.ensures

pub returns-clause-copied : goal.returns-clause-copied
returns-clause-copied g c = text_copied c.args.rodeo.now c.encode_next.new.rodeo c.args.text.now c.args.codes.now c.encode_next.new.codes c.encode_next.result c.encode_next.ensures

pub returns-clause-origin : goal.returns-clause-origin
returns-clause-origin g c = text_origin c.args.rodeo.now c.encode_next.new.rodeo c.args.text.now c.args.codes.now c.encode_next.new.codes c.encode_next.result c.encode_next.ensures

pub returns-clause-room : goal.returns-clause-room
returns-clause-room g c = text_room c.args.rodeo.now c.encode_next.new.rodeo c.args.text.now c.args.codes.now c.encode_next.new.codes c.encode_next.result c.encode_next.ensures

pub returns-clause-unchanged : goal.returns-clause-unchanged
returns-clause-unchanged g c = text_unchanged c.args.rodeo.now c.encode_next.new.rodeo c.args.text.now c.args.codes.now c.encode_next.new.codes c.encode_next.result c.encode_next.ensures

pub returns-clause-codes_kept : goal.returns-clause-codes_kept
returns-clause-codes_kept g c = text_codes_kept c.args.rodeo.now c.encode_next.new.rodeo c.args.text.now c.args.codes.now c.encode_next.new.codes c.encode_next.result c.encode_next.ensures

pub returns-clause-no_key : goal.returns-clause-no_key
returns-clause-no_key g c = text_no_key c.args.rodeo.now c.encode_next.new.rodeo c.args.text.now c.args.codes.now c.encode_next.new.codes c.encode_next.result c.encode_next.ensures

pub returns-clause-limit : goal.returns-clause-limit
returns-clause-limit g c = text_limit c.args.rodeo.now c.encode_next.new.rodeo c.args.text.now c.args.codes.now c.encode_next.new.codes c.encode_next.result c.encode_next.ensures

pub returns-clause-memory : goal.returns-clause-memory
returns-clause-memory g c = text_memory c.args.rodeo.now c.encode_next.new.rodeo c.args.text.now c.args.codes.now c.encode_next.new.codes c.encode_next.result c.encode_next.ensures
