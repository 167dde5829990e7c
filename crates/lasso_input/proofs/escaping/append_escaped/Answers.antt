use Rattle.std.proofs.Common.{ℕ, ◌≡◌, ◌-◌, ◌≤◌, List, ◌++◌, take, length, ap, ◌∙◌, arith}
use Rattle.std.specs.Prelude.{replicate, vec_len}
use Rattle.lasso_input.proofs.LineTexts.{escaped_written}
use Rattle.lasso_input.proofs.escaping.append_escaped.Goals as goal

pub returns : goal.returns
returns g c =
    let start = c.len-start.result in
    let end = c.in-Some-checked_add-2.end in
    let more : start ≤ end = omega (arith, c.in-Some-checked_add-2.ensures) in
    let end_is : c.resize.new.self.len ≡ end = c.in_ok-resize.ensures.len in
    let long : length c.slice_mut.result.now ≡ c.resize.new.self.len - start = c.slice_mut.ensures.len in
    let kept : length c.put_escaped.new.text ≡ length c.slice_mut.result.now = c.put_escaped.auto.text in
    let zeros : List ℕ = replicate (end - vec_len c.reserve.new.self) 0 in
    let resized : c.resize.new.self.items ≡ take end c.reserve.new.self.items ++ zeros = c.in_ok-resize.ensures.items in
    let reserved : take end c.reserve.new.self.items ++ zeros ≡ take end c.args.texts.now.items ++ zeros = ap (λ (xs : List ℕ). take end xs ++ zeros) c.in_ok-reserve.ensures.items in
    let mid_is : c.resize.new.self.items ≡ take end c.args.texts.now.items ++ zeros = resized ∙ reserved in
    escaped_written c.args.texts.now.items c.resize.new.self.items zeros c.put_escaped.new.text c.args.bytes.now start end c.resize.new.self.len
    (omega (arith, c.len-start.ensures)) mid_is more (omega arith) (omega (arith, more, end_is, long, kept)) c.put_escaped.ensures
