-- What a sign family is, which laws it keeps, and what its questions answer. Assumes nothing.
use Rattle.std.specs.Prelude.{◌≡◌, ℕ, ◌+◌, ◌-◌, ◌*◌, ◌^◌, ◌<◌, ◌≤◌, Bool, true, false, ◌||◌, ◌≢◌, ℤ, pos, negsuc, Result, nat_le, nat_lt}
use Rattle.signs.specs.declared.family.Sign.{Sign}
use Rattle.signs.specs.declared.family.Sign.TheVariants.{Plus, Minus}
use Rattle.signs.specs.declared.faults.Fault.{Fault}
use Rattle.signs.specs.declared.reason.Reason.TheVariants.{Width, Seed, Slot, Block, Interval}
use Rattle.signs.specs.Faults.{Refusal, refuse_if, ◌⨾◌, answer, family_fault}
use Rattle.signs.specs.Sums.{sum, count}

-- slots 0 to 2 ^ width - 1, seeds 0 to seeds - 1, and the sign of each seed and slot
pub record Meaning : Type 0 where
  pub width : ℕ
  pub seeds : ℕ
  pub sign : ℕ → ℕ → Sign

abbrev pub value : Sign → ℤ
value Plus = pos 1
value Minus = negsuc 0

abbrev pub alike : Sign → Sign → Bool
alike Plus Plus = true
alike Plus Minus = false
alike Minus Plus = false
alike Minus Minus = true

-- the sum of the signs of `many` slots, `first` and those after it
abbrev pub sign_sum : Meaning → ℕ → ℕ → ℕ → ℤ
sign_sum F seed first many = sum many (λ k. value (F.sign seed (first + k)))

-- the sum over block q of level j: the slots q * 2 ^ j to (q + 1) * 2 ^ j - 1
abbrev pub block_sum : Meaning → ℕ → ℕ → ℕ → ℤ
block_sum F seed j q = sign_sum F seed (q * 2 ^ j) (2 ^ j)

-- the sum over an interval: the slots a to b - 1
abbrev pub interval_sum : Meaning → ℕ → ℕ → ℕ → ℤ
interval_sum F seed a b = sign_sum F seed a (b - a)

-- how many seeds give two slots equal signs
abbrev pub agreeing : Meaning → ℕ → ℕ → ℕ
agreeing F i k = count F.seeds (λ s. alike (F.sign s i) (F.sign s k))

-- The laws: the bounds, and that two different slots have equal signs under exactly half of the seeds.
pub record Lawful (F : Meaning) : Type 0 where
  pub wide : 1 ≤ F.width
  pub narrow : F.width ≤ 24
  pub some : 2 ≤ F.seeds
  pub few : F.seeds ≤ 2 ^ 60
  pub half : (i k : ℕ) → i < 2 ^ F.width → k < 2 ^ F.width → i ≢ k → 2 * agreeing F i k ≡ F.seeds

-- The checks, by number of seeds and width.

-- a width outside of what a kind of family allows
abbrev pub width_check : ℕ → ℕ → ℕ → Refusal
width_check low high n = refuse_if (nat_lt n low || nat_lt high n) (family_fault Width 0)

-- a seed that is not below the number of seeds
abbrev pub seed_check : ℕ → ℕ → Refusal
seed_check seeds s = refuse_if (nat_le seeds s) (family_fault Seed 0)

-- a slot that is not below 2 ^ width
abbrev pub slot_check : ℕ → ℕ → Refusal
slot_check width i = refuse_if (nat_le (2 ^ width) i) (family_fault Slot 0)

-- a level j above the width, or a number q that is not below 2 ^ (width - j)
abbrev pub block_check : ℕ → ℕ → ℕ → Refusal
block_check width j q = refuse_if (nat_lt width j || nat_le (2 ^ (width - j)) q) (family_fault Block 0)

-- a that is not below b, or b above 2 ^ width
abbrev pub interval_check : ℕ → ℕ → ℕ → Refusal
interval_check width a b = refuse_if (nat_le b a || nat_lt (2 ^ width) b) (family_fault Interval 0)

-- The refusals and the answers.

abbrev pub sign_refusal : Meaning → ℕ → ℕ → Refusal
sign_refusal F s i = seed_check F.seeds s ⨾ slot_check F.width i

abbrev pub sign_answer : Meaning → ℕ → ℕ → Result Sign Fault
sign_answer F s i = answer (sign_refusal F s i) (F.sign s i)

abbrev pub block_refusal : Meaning → ℕ → ℕ → ℕ → Refusal
block_refusal F s j q = seed_check F.seeds s ⨾ block_check F.width j q

abbrev pub block_answer : Meaning → ℕ → ℕ → ℕ → Result ℤ Fault
block_answer F s j q = answer (block_refusal F s j q) (block_sum F s j q)

abbrev pub interval_refusal : Meaning → ℕ → ℕ → ℕ → Refusal
interval_refusal F s a b = seed_check F.seeds s ⨾ interval_check F.width a b

abbrev pub interval_answer : Meaning → ℕ → ℕ → ℕ → Result ℤ Fault
interval_answer F s a b = answer (interval_refusal F s a b) (interval_sum F s a b)
