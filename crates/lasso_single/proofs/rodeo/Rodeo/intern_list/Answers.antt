use Rattle.std.proofs.Common.{List, map, take, inr, refl, sym, ap, subst, ◌∙◌, arith}
use Rattle.std.proofs.lemmas.List.{take-append-drop}
use Rattle.std.proofs.lemmas.Result.{err_from_is_err_and}
use Rattle.lasso_parts.specs.Texts.{Text}
use Rattle.lasso_single.proofs.KeyLists.{Keyed, keyed_same, keyed_push, keyed_still, unchanged, told_list, told_keys, told_refused, texts_more, texts_split}
use Rattle.lasso_single.proofs.rodeo.Rodeo.intern_list.Given.{Over}
use Rattle.lasso_single.proofs.rodeo.Rodeo.intern_list.Goals as goal

pub loop-i-init : goal.loop-i-init
loop-i-init g c = record {
  keyed = keyed_same g.row.K.Denot g.K.Key.key_at _ _ _ c.in_ok-reserve.ensures.items;
  room = omega (arith, c.in_ok-reserve.ensures.ok);
}

pub loop-i-preserved : goal.loop-i-preserved
loop-i-preserved g c =
    let more = keyed_push g.row.K.Denot g.K.Key.key_at c.args.self.now c.loop-i.self c.intern_next.new.rodeo _ _ c.in_ok-key.key c.args.keys.now.items c.loop-i.keys.items c.push_reserved.new.self.items c.loop-i.invariant.keyed c.in_ok-key.ensures c.push_reserved.ensures.items in record {
      keyed = subst (λ (ts : List Text). Keyed g.row.K.Denot g.K.Key.key_at c.args.self.now ts c.args.keys.now.items c.intern_next.new.rodeo c.push_reserved.new.self.items) (sym (texts_more c.args.texts.now c.loop-i.i _ c.loop-i-test.true)) more;
      room = omega (arith, c.loop-i.invariant.room, c.push_reserved.ensures.len, c.push_reserved.ensures.capacity, c.loop-i-test.true);
    }

-- a text was refused
stopped : (g : Over) (c : goal.After-from_residual-in_err-key g) → Keyed g.row.K.Denot g.K.Key.key_at c.args.self.now (take c.loop-i.i (map (λ t. t.now) c.args.texts.now)) c.args.keys.now.items c.intern_next.new.rodeo c.loop-i.keys.items
stopped g c =
    keyed_still g.row.K.Denot g.K.Key.key_at c.args.self.now c.loop-i.self c.intern_next.new.rodeo _ c.args.keys.now.items c.loop-i.keys.items c.loop-i.invariant.keyed (unchanged g.row.K.Denot g.K.Key.key_at c.loop-i.self c.intern_next.new.rodeo _ _ c.in_err-key.ensures)

pub returns-in_err-key-clause-list : goal.returns-in_err-key-clause-list
returns-in_err-key-clause-list g c = told_list g.row.K.Denot g.K.Key.key_at _ _ _ (sym (take-append-drop c.loop-i.i _)) _ _ _ _ (stopped g c)

pub returns-in_err-key-clause-keys : goal.returns-in_err-key-clause-keys
returns-in_err-key-clause-keys g c = told_keys g.row.K.Denot g.K.Key.key_at _ _ _ (sym (take-append-drop c.loop-i.i _)) _ _ _ _ (stopped g c)

pub returns-in_err-key-clause-refused : goal.returns-in_err-key-clause-refused
returns-in_err-key-clause-refused g c =
    let p = err_from_is_err_and c.from_residual-in_err-key.result c.from_residual-in_err-key.ensures.1 in
    rw (p.1, p.2) (inr (told_refused g.row.K.Denot g.K.Key.key_at _ _ _ _ (texts_split c.args.texts.now c.loop-i.i _ c.loop-i-test.true) c.args.self.now c.loop-i.self c.intern_next.new.rodeo c.args.keys.now.items c.loop-i.keys.items c.loop-i.invariant.keyed c.in_err-key.field-0.0 c.in_err-key.ensures))

pub returns-clause-list : goal.returns-clause-list
returns-clause-list g c = told_list g.row.K.Denot g.K.Key.key_at _ _ _ (sym (take-append-drop c.loop-i.i _)) _ _ _ _ c.loop-i.invariant.keyed

pub returns-clause-keys : goal.returns-clause-keys
returns-clause-keys g c = told_keys g.row.K.Denot g.K.Key.key_at _ _ _ (sym (take-append-drop c.loop-i.i _)) _ _ _ _ c.loop-i.invariant.keyed
