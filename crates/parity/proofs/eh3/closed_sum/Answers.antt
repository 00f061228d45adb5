use Rattle.std.proofs.Common.{◌≡◌, ℕ, ◌+◌, ◌*◌, ◌/◌, ◌%◌, ◌^◌, ◌<◌, ◌≤◌, ap, mul-le-mul_left, arith, pow_pos}
use Rattle.parity.proofs.Eh3Sums.{even_level, odd_level}
use Rattle.parity.proofs.eh3.closed_sum.Goals as goal

pub even_sum-requires : goal.even_sum-requires
even_sum-requires c =
    let j = c.args.block.level in
    let e : c.args.block.number * 4 ^ (j / 2) ≡ c.args.block.number * 2 ^ j = ap (λ x. c.args.block.number * x) (even_level j (omega arith)) in
    record { seed = omega arith; half = omega arith; number = omega (arith, pow_pos j) }

-- the two halves of a block of an odd level lie in it
record Halves (q j : ℕ) : Type 0 where
  number : q ≤ 2 ^ 24
  first : 2 * q * 4 ^ (j / 2) < 2 ^ 32
  second : (2 * q + 1) * 4 ^ (j / 2) < 2 ^ 32

halves : (q j : ℕ) → j % 2 ≡ 1 → q * 2 ^ j + 2 ^ j ≤ 2 ^ 24 → Halves q j
halves q j odd h =
    let p = 4 ^ (j / 2) in
    let l : p * 2 ≡ 2 ^ j = odd_level j odd in
    let e : q * (p * 2) ≡ q * 2 ^ j = ap (λ x. q * x) l in
    let one : q * 1 ≤ q * 2 ^ j = mul-le-mul_left q (pow_pos j) in
    record { number = omega arith; first = omega arith; second = omega arith }

pub overflow_mul-number : goal.overflow_mul-number
overflow_mul-number c = let h = halves c.args.block.number c.args.block.level (omega arith) c.requires.block in let n = h.number in record { fits = omega arith }

pub even_sum-requires-2 : goal.even_sum-requires-2
even_sum-requires-2 c = let h = halves c.args.block.number c.args.block.level (omega arith) c.requires.block in record { seed = omega arith; half = omega arith; number = h.first }

pub even_sum-requires-3 : goal.even_sum-requires-3
even_sum-requires-3 c = let h = halves c.args.block.number c.args.block.level (omega arith) c.requires.block in record { seed = omega arith; half = omega arith; number = h.second }
