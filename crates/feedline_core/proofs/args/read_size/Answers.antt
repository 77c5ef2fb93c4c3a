use Rattle.std.proofs.Common.{ℕ, ◌<◌, ◌≤◌, ◌^◌, arith}
use Rattle.std.proofs.Math.Nat.{pow-le-pow_right}
use Rattle.feedline_core.proofs.Sizes.{says_size}
use Rattle.feedline_core.proofs.args.read_size.Goals as goal

-- up to six digits write a number below a million
below_million : (size digits : ℕ) → size < 10 ^ digits → digits ≤ 6 → size < 1000000
below_million size digits h k = omega (arith, pow-le-pow_right {n = 10} (omega arith) {i = digits} {j = 6} k)

pub overflow_mul-size : goal.overflow_mul-size
overflow_mul-size c =
    let small = below_million _ _ c.loop-digit.invariant.bound (omega arith) in
    omega arith

pub overflow_add-size : goal.overflow_add-size
overflow_add-size c =
    let small = below_million _ _ c.loop-digit.invariant.bound (omega arith) in
    let byte = c.type_inv.word c.loop-digit.digit-index in
    omega arith

pub returns-then-size-le-MAX_SIZE : goal.returns-then-size-le-MAX_SIZE
returns-then-size-le-MAX_SIZE c =
    let i = c.loop-digit.invariant in
    says_size _ _ _ (grind arith) c.if-word-gt-MAX_DIGITS.false c.loop-digit-test.false i.digits i.value c.if-size-le-MAX_SIZE.true
