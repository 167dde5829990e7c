use Rattle.std.proofs.Common.{sym, subst, None, [], arith}
use Rattle.std.specs.Io.Buffered.{reader_remaining}
use Rattle.lasso_columns.specs.Steps.{AreLeftAfter, EncodesFirst}
use Rattle.lasso_columns.specs.Streams.{StopsInStreamBy}
use Rattle.lasso_codes.specs.Counts.{StopsRound}
use Rattle.lasso_codes.specs.declared.error.RunError.TheVariants.{Line}
use Rattle.lasso_codes.proofs.CountedRounds.{round_line, round_many, round_read}
use Rattle.lasso_codes.proofs.streams.Input.encode_round.Goals as goal

pub returns-in-Ok-clause-rows : goal.returns-in-Ok-clause-rows
returns-in-Ok-clause-rows g c = rw (← c.self.view_is) (λ lines left.
    let now = reader_remaining g.R.Read.remaining c.encode_round.new.input in
    subst (λ bs. EncodesFirst c.args.encoder.now.by None c.args.rodeo.now lines bs c.encode_round.new.rodeo c.encode_round.new.entries.items (AreLeftAfter c.in-Ok.goes_on c.encode_round.new.self now)) c.clear.ensures.items (c.in-Ok.ensures.rows lines left))

pub returns-in_default-clause-stops : goal.returns-in_default-clause-stops
returns-in_default-clause-stops g c = rw (← c.self.view_is) (λ only lines by left.
    let now = reader_remaining g.R.Read.remaining c.encode_round.new.input in
    let codes = c.encode_round.new.entries in
    let stops = subst (λ bs. StopsInStreamBy c.args.encoder.now.by None c.args.rodeo.now lines bs c.encode_round.new.rodeo codes now c.in-Err.error) c.clear.ensures.items (c.in-Err.ensures.stops lines left) in
    round_many c.args.before only c.args.encoder.now.by c.args.rodeo.now c.encode_round.new.rodeo lines codes now by c.in-Err.error stops (omega (arith, c.in_default.ensures, c.len.ensures, codes.ok.0)))

pub returns-in-Line-clause-stops : goal.returns-in-Line-clause-stops
returns-in-Line-clause-stops g c = rw (← c.self.view_is) (λ only lines by left.
    let now = reader_remaining g.R.Read.remaining c.encode_round.new.input in
    let codes = c.encode_round.new.entries in
    let stops = subst (λ bs. StopsInStreamBy c.args.encoder.now.by None c.args.rodeo.now lines bs c.encode_round.new.rodeo codes now c.in-Err.error) c.clear.ensures.items (c.in-Err.ensures.stops lines left) in
    let here = subst (λ e. StopsInStreamBy c.args.encoder.now.by None c.args.rodeo.now lines [] c.encode_round.new.rodeo codes now e) c.in-Line.is stops in
    subst (λ e. StopsRound c.args.before only c.args.rodeo.now lines c.encode_round.new.rodeo codes now (Line e)) (sym c.at_line.ensures) (round_line c.args.before only c.args.encoder.now.by c.args.rodeo.now c.encode_round.new.rodeo lines codes now by c.in-Line.error c.in-Some.number here (omega (arith, c.in-Some.ensures.1, c.len.ensures, codes.ok.0))))

pub returns-in-Read-clause-stops : goal.returns-in-Read-clause-stops
returns-in-Read-clause-stops g c = rw (← c.self.view_is) (λ only lines by left.
    let now = reader_remaining g.R.Read.remaining c.encode_round.new.input in
    let codes = c.encode_round.new.entries in
    let stops = subst (λ bs. StopsInStreamBy c.args.encoder.now.by None c.args.rodeo.now lines bs c.encode_round.new.rodeo codes now c.in-Err.error) c.clear.ensures.items (c.in-Err.ensures.stops lines left) in
    let here = subst (λ e. StopsInStreamBy c.args.encoder.now.by None c.args.rodeo.now lines [] c.encode_round.new.rodeo codes now e) c.in-Read.is stops in
    let told = round_read c.args.before only c.args.encoder.now.by c.args.rodeo.now c.encode_round.new.rodeo lines codes now by c.in-Read.error c.in-Some.number c.failed_unless_full.result here (omega (arith, c.in-Some.ensures.1, c.len.ensures, codes.ok.0)) c.failed_unless_full.ensures.errors c.failed_unless_full.ensures.memory in
    subst (λ l. StopsRound c.args.before only c.args.rodeo.now lines c.encode_round.new.rodeo codes l c.failed_unless_full.result) (sym c.failed_unless_full.ensures.left) told)
