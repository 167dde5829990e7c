-- How much of the memory can be waste, in any arena: at most the first bucket and eight times the most bytes that were copied in
-- between two clears, whatever limits were set between.
--
-- Where the doubling size was doubled, or a remnant was made, the greatest bucket kept until then had been left, or was current
-- without room, or was a spare too small for the text; so more bytes were copied in since the clear than that bucket has. The
-- first bucket and the doubled ones take less than twice the doubling size. Buckets of exact size are full, and remnants that were
-- left add up to less than twice the bytes. Linear facts say so, and each case of storing and a clear keep them.
use Rattle.std.proofs.Common.{ℕ, ◌+◌, ◌-◌, ◌*◌, ◌<◌, ◌≤◌, arith}
use Rattle.lasso_parts.specs.Account.{Account, clear, store_in_current, store_in_spare, store_in_doubled}
use Rattle.lasso_parts.specs.Waste.{IsThriftySince, IsSpare, HasNoSpare}

-- a clear begins to count again
pub since_clear : (first copied most : ℕ) (a : Account) → IsThriftySince first copied most a → IsThriftySince first 0 most (clear first a)
since_clear first copied most a h = record { counted = omega arith; grown = omega arith; step = omega arith; held = omega arith; left = omega arith; over = omega arith; doubling = omega arith; greatest = omega arith }

-- the cases of storing n bytes; `after` is the most afterwards
pub since_current : (first copied most after n : ℕ) (a : Account) → most ≤ after → copied + n ≤ after → n ≤ a.room → IsThriftySince first copied most a → IsThriftySince first (copied + n) after (store_in_current a n)
since_current first copied most after n a grows counts fits h = record { counted = omega arith; grown = omega arith; step = omega arith; held = omega arith; left = omega arith; over = omega arith; doubling = omega arith; greatest = omega arith }

pub since_spare : (first copied most after n size : ℕ) (a : Account) → most ≤ after → copied + n ≤ after → a.room < n → IsSpare a size → n ≤ size → IsThriftySince first copied most a → IsThriftySince first (copied + n) after (store_in_spare a size n)
since_spare first copied most after n size a grows counts full is fits h =
    let part = is.part in let apart = is.apart in
    record { counted = omega arith; grown = omega arith; step = omega arith; held = omega arith; left = omega arith; over = omega arith; doubling = omega arith; greatest = grind arith }

pub since_exact : (first copied most after n : ℕ) (a : Account) → most ≤ after → copied + n ≤ after → IsThriftySince first copied most a → IsThriftySince first (copied + n) after (record a { usage = a.usage + n })
since_exact first copied most after n a grows counts h = record { counted = omega arith; grown = omega arith; step = omega arith; held = omega arith; left = omega arith; over = omega arith; doubling = omega arith; greatest = omega arith }

pub since_remnant : (first copied most after n size : ℕ) (a : Account) → most ≤ after → copied + n ≤ after → a.room < n → HasNoSpare a n → n ≤ size → size ≤ 2 * a.doubling → IsThriftySince first copied most a → IsThriftySince first (copied + n) after (record a { room = size - n; usage = a.usage + size })
since_remnant first copied most after n size a grows counts full none fits small h =
    let low : a.doubling < copied + n = grind (arith, none) in
    record { counted = omega arith; grown = omega arith; step = omega arith; held = omega arith; left = omega arith; over = omega arith; doubling = omega arith; greatest = omega arith }

pub since_doubled : (first copied most after n : ℕ) (a : Account) → most ≤ after → copied + n ≤ after → a.room < n → HasNoSpare a n → n ≤ 2 * a.doubling → IsThriftySince first copied most a → IsThriftySince first (copied + n) after (store_in_doubled a n)
since_doubled first copied most after n a grows counts full none fits h =
    let low : a.doubling < copied + n = grind (arith, none) in
    record { counted = omega arith; grown = omega arith; step = omega arith; held = omega arith; left = omega arith; over = omega arith; doubling = omega arith; greatest = omega arith }
