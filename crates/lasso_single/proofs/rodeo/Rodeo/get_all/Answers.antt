use Rattle.std.proofs.Common.{◌≡◌, ◌+◌, ◌-◌, ◌≤◌, length, take, drop, vec_len, ap, ◌∙◌, arith}
use Rattle.lasso_single.proofs.Found.{found_none, found_batch, batch_length}
use Rattle.lasso_single.proofs.rodeo.Rodeo.get_all.Goals as goal

pub loop-from-init : goal.loop-from-init
loop-from-init g c = record {
  inside = omega arith;
  found = found_none g.K.Key.key_at c.args.self.now.texts _ _ c.in_ok-reserve.ensures.items;
  room = omega (arith, c.in_ok-reserve.ensures.ok);
}

pub loop-from-preserved : goal.loop-from-preserved
loop-from-preserved g c =
    let texts = c.args.texts.now in
    let from = c.loop-from.from in
    let count = c.min-count.result in
    let inside : from + count ≤ length texts = omega (arith, c.min-count.ensures, c.loop-from-test.true) in
    let few : (from + count) - from ≡ count = omega arith in
    let is : take ((from + count) - from) (drop from texts) ≡ take count (drop from texts) = ap (λ n. take n (drop from texts)) few in
    let len : vec_len c.get_batch.new.keys ≡ vec_len c.loop-from.keys + length (take ((from + count) - from) (drop from texts)) = c.get_batch.ensures.len in
    let size : length (take ((from + count) - from) (drop from texts)) ≡ count = ap length is ∙ batch_length texts from count inside in
    record {
      inside = inside;
      found = found_batch g.K.Key.key_at c.args.self.now.texts texts (take ((from + count) - from) (drop from texts)) from count c.args.keys.now.items c.loop-from.keys.items c.get_batch.new.keys.items is c.loop-from.invariant.found c.get_batch.ensures.keys;
      room = omega (arith, c.loop-from.invariant.room, len, size, c.get_batch.ensures.capacity, inside);
    }
