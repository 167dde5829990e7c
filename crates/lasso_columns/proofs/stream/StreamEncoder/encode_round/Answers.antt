use Rattle.lasso_columns.proofs.stream.StreamEncoder.encode_round.Goals as goal

pub returns-then-self-eq0-clause-stops : goal.returns-then-self-eq0-clause-stops
returns-then-self-eq0-clause-stops g c = rw (← c.self.view_is) (c.encode_last.ensures.stops (g.I.Read.remaining c.args.input.now))

pub returns-clause-rows : goal.returns-clause-rows
returns-clause-rows g c = rw (← c.self.view_is) c.encode_round.ensures.rows

pub returns-clause-stops : goal.returns-clause-stops
returns-clause-stops g c = rw (← c.self.view_is) c.encode_round.ensures.stops
