use Rattle.std.proofs.Common.{refl, sym, arith, ◌∙◌}
use Rattle.lasso_columns.proofs.PlacedEntries.{put_begins, put_push, put_ends, put_stops, put_whole}
use Rattle.lasso_columns.proofs.rounds.append_placed.Goals as goal

pub loop-i-init : goal.loop-i-init
loop-i-init c = record {
  put = put_begins c.args.base c.args.table.now c.args.part.now c.args.entries.now.items c.args.entries.now.items refl;
  room = omega (arith, c.requires.room);
}

pub loop-i-preserved : goal.loop-i-preserved
loop-i-preserved c =
    let at = c.loop-i in record {
      put = put_push c.args.base c.args.table.now c.args.part.now c.args.entries.now.items at.i _ c.in-Some.placed at.entries.items c.push.new.self.items at.invariant.put c.loop-i-test.true refl (sym c.placed.ensures ∙ c.in-Some.is) c.in-Ok-push.ensures.items;
      room = omega (arith, at.invariant.room, c.in-Ok-push.ensures.len, c.push.ensures.capacity, c.loop-i-test.true);
    }

pub returns-in_default-placed : goal.returns-in_default-placed
returns-in_default-placed c =
    put_stops c.args.base c.args.table.now c.args.part.now c.args.entries.now.items c.loop-i.i _ c.loop-i.entries.items c.loop-i.invariant.put c.loop-i-test.true refl (sym c.in_default-placed.ensures)

pub returns : goal.returns
returns c = put_ends c.args.base c.args.table.now c.args.part.now c.args.entries.now.items c.loop-i.i c.loop-i.entries.items c.loop-i.invariant.put (omega (arith, c.loop-i-test.false))

pub returns-then-stays : goal.returns-then-stays
returns-then-stays c = put_whole c.args.base c.args.table.now c.args.part.now c.args.entries.now.items c.extend_from_slice.new.self.items c.in-Ok.ensures.items (c.requires.stays c.if-stays.true)
