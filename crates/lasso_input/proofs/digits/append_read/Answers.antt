use Rattle.std.proofs.Common.{◌≡◌, ◌-◌, ◌≤◌, false, length, sym, ◌∙◌, arith}
use Rattle.lasso_input.proofs.HexDigits.{bad_is_unread, nothing_is_read, read_at_end}
use Rattle.lasso_input.proofs.digits.append_read.Goals as goal

pub returns-clause-bytes : goal.returns-clause-bytes
returns-clause-bytes g c =
    let start = c.len-start.result in
    let end = c.in-Some.end in
    let more : start ≤ end = omega (arith, c.in-Some.ensures) in
    let end_is : c.resize.new.self.len ≡ end = c.in_ok-resize.ensures.len in
    let long : length c.slice_mut.result.now ≡ c.resize.new.self.len - start = c.slice_mut.ensures.len in
    let kept : length c.take_digits.new.bytes ≡ length c.slice_mut.result.now = c.take_digits.auto.bytes in
    read_at_end c.args.digits.now c.args.bytes.now.items _ c.take_digits.new.bytes c.resize.new.self.items start end c.resize.new.self.len
    (omega (arith, c.len-start.ensures)) c.in_ok-resize.ensures.items more (omega arith) (omega (arith, more, end_is, long, kept)) c.take_digits.ensures

pub returns-then-not-are_digits-clause-is_read : goal.returns-then-not-are_digits-clause-is_read
returns-then-not-are_digits-clause-is_read g c =
    let bad : c.are_digits.result ≡ false = cc in
    sym (bad_is_unread c.args.digits.now (sym c.are_digits.ensures ∙ bad))

pub returns-then-not-are_digits-clause-bytes : goal.returns-then-not-are_digits-clause-bytes
returns-then-not-are_digits-clause-bytes g c =
    let bad : c.are_digits.result ≡ false = cc in
    nothing_is_read c.args.digits.now c.args.bytes.now.items (bad_is_unread c.args.digits.now (sym c.are_digits.ensures ∙ bad))
