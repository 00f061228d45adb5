-- BCH3 and EH3 as they are published: the sign of a seed and a slot, and the closed rules for the sum over a block. The lowest bit of a seed s
-- is s % 2, and its others are s / 2. Assumes nothing.
use Rattle.std.specs.Prelude.{ℕ, zero, suc, ◌+◌, ◌-◌, ◌*◌, ◌/◌, ◌%◌, ◌^◌, cond, ℤ, pos, ◌+ℤ◌, ◌*ℤ◌, ◌==◌, bit_and, count_ones}
use Rattle.signs.specs.declared.family.Sign.{Sign}
use Rattle.signs.specs.declared.family.Sign.TheVariants.{Plus, Minus}
use Rattle.signs.specs.declared.reason.Reason.TheVariants.{Width}
use Rattle.signs.specs.Faults.{Refusal, refuse_if, ◌⨾◌, family_fault}
use Rattle.signs.specs.Family.{Meaning, value, width_check}

-- (-1) ^ n
abbrev pub sign_by : ℕ → Sign
sign_by n = cond (n % 2 == 0) Plus Minus

-- BCH3: the lowest bit of the seed, and the bits that its others share with the slot

abbrev pub bch3_ones : ℕ → ℕ → ℕ
bch3_ones s i = s % 2 + count_ones (bit_and (s / 2) i)

abbrev pub bch3_sign : ℕ → ℕ → Sign
bch3_sign s i = sign_by (bch3_ones s i)

abbrev pub bch3 : ℕ → Meaning
bch3 n = record { width = n; seeds = 2 ^ (n + 1); sign = bch3_sign }

-- the sum over block q of level j: 2 ^ j times the first slot's sign where 2 ^ j divides s / 2, and else 0
abbrev pub bch3_block_sum : ℕ → ℕ → ℕ → ℤ
bch3_block_sum s j q = cond (s / 2 % 2 ^ j == 0) (pos (2 ^ j) *ℤ value (bch3_sign s (q * 2 ^ j))) (pos 0)

-- EH3, at the even width n: the same, and one more for each of the slot's n / 2 pairs of bits that holds a one

-- of the m lowest pairs of bits of x, those that hold a one
unfoldable pub pairs : ℕ → ℕ → ℕ
pairs zero x = 0
pairs (suc m) x = cond (x % 4 == 0) 0 1 + pairs m (x / 4)

abbrev pub eh3_sign : ℕ → ℕ → ℕ → Sign
eh3_sign n s i = sign_by (bch3_ones s i + pairs (n / 2) i)

-- a width outside of 2 to 24, or an odd one
abbrev pub eh3_width_check : ℕ → Refusal
eh3_width_check n = width_check 2 24 n ⨾ refuse_if (n % 2 == 1) (family_fault Width 0)

abbrev pub eh3 : ℕ → Meaning
eh3 n = record { width = n; seeds = 2 ^ (n + 1); sign = eh3_sign n }

-- of the m lowest pairs of bits of x, those that are both zero
abbrev pub zero_pairs : ℕ → ℕ → ℕ
zero_pairs m x = m - pairs m x

-- the sum over block q of level 2 m: (-1) ^ zeros * 2 ^ m * the first slot's sign, where the zeros are counted in the m lowest pairs of s / 2
abbrev pub eh3_even_sum : ℕ → ℕ → ℕ → ℕ → ℤ
eh3_even_sum n s m q = value (sign_by (zero_pairs m (s / 2))) *ℤ (pos (2 ^ m) *ℤ value (eh3_sign n s (q * 4 ^ m)))

-- at level 2 m + 1, the sum of blocks 2 q and 2 q + 1 of level 2 m
abbrev pub eh3_block_sum : ℕ → ℕ → ℕ → ℕ → ℤ
eh3_block_sum n s j q =
    let m = j / 2 in
    cond (j % 2 == 0) (eh3_even_sum n s m q) (eh3_even_sum n s m (2 * q) +ℤ eh3_even_sum n s m (2 * q + 1))
