-- An interval as a row of blocks: each is the largest aligned one that starts at the next slot and fits. Assumes nothing.
use Rattle.std.specs.Prelude.{ℕ, zero, suc, ◌+◌, ◌*◌, ◌/◌, ◌%◌, ◌^◌, Bool, cond, ◌&&◌, ℤ, pos, ◌+ℤ◌, Result, ◌==◌, nat_le, nat_lt}
use Rattle.signs.specs.declared.faults.Fault.{Fault}
use Rattle.signs.specs.Faults.{answer}
use Rattle.signs.specs.Family.{Meaning, block_sum, interval_refusal}

-- a block of level j starts at slot a and does not pass b
abbrev pub fits_at : ℕ → ℕ → ℕ → Bool
fits_at a b j = a % 2 ^ j == 0 && nat_le (a + 2 ^ j) b

-- the largest level, at most n, whose block fits there
unfoldable pub level_at : ℕ → ℕ → ℕ → ℕ
level_at zero a b = 0
level_at (suc n) a b = cond (fits_at a b (suc n)) (suc n) (level_at n a b)

-- the sum over the slots a to b - 1, taken block by block, where `rule j q` is the sum of block q of level j; at most `most` blocks
unfoldable pub cover_sum : (ℕ → ℕ → ℤ) → ℕ → ℕ → ℕ → ℕ → ℤ
cover_sum rule n zero a b = pos 0
cover_sum rule n (suc most) a b =
    let j = level_at n a b in
    cond (nat_lt a b) (rule j (a / 2 ^ j) +ℤ cover_sum rule n most (a + 2 ^ j) b) (pos 0)

-- the interval's sum so taken, of at most 2 n blocks at width n
abbrev pub cover_answer : Meaning → ℕ → ℕ → ℕ → Result ℤ Fault
cover_answer F s a b = answer (interval_refusal F s a b) (cover_sum (block_sum F s) F.width (2 * F.width) a b)
