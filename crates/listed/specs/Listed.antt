-- The listed family: its signs stand in a table, a row for each seed and a byte for each slot, 0 for plus and 1 for minus. Assumes nothing.
use Rattle.std.specs.Prelude.{ℕ, ◌+◌, ◌*◌, ◌^◌, cond, not, ◌&&◌, ◌||◌, List, length, ◌==◌, nat_lt, slice_index}
use Rattle.signs.specs.declared.reason.Reason.TheVariants.{Rows, SignByte, Unbalanced}
use Rattle.signs.specs.declared.family.Sign.{Sign}
use Rattle.signs.specs.declared.family.Sign.TheVariants.{Plus, Minus}
use Rattle.signs.specs.Faults.{Refusal, refuse_if, ◌⨾◌, check_each, family_fault}
use Rattle.signs.specs.Family.{Meaning, agreeing, width_check}

abbrev pub byte_sign : ℕ → Sign
byte_sign x = cond (x == 0) Plus Minus

-- n is the width, m the number of rows, t the table
abbrev pub listed : ℕ → ℕ → List ℕ → Meaning
listed n m t = record { width = n; seeds = m; sign = λ s i. byte_sign (slice_index t (s * 2 ^ n + i)) }

-- a number of rows outside of 2 to 128, or bytes that are not m rows of 2 ^ n
abbrev pub rows_check : ℕ → ℕ → List ℕ → Refusal
rows_check n m t = refuse_if (nat_lt m 2 || (nat_lt 128 m || not (length t == m * 2 ^ n))) (family_fault Rows 0)

-- a byte that is neither 0 nor 1
abbrev pub byte_check : List ℕ → ℕ → Refusal
byte_check t k = refuse_if (nat_lt 1 (slice_index t k)) (family_fault SignByte k)

abbrev pub bytes_check : List ℕ → Refusal
bytes_check t = check_each (length t) (byte_check t)

-- columns a < b that are not alike in exactly half of the rows
abbrev pub pair_check : ℕ → ℕ → List ℕ → ℕ → ℕ → Refusal
pair_check n m t a b = refuse_if (nat_lt a b && not (2 * agreeing (listed n m t) a b == m)) (family_fault Unbalanced (a * 64 + b))

-- by rising a, and then by rising b
abbrev pub column_check : ℕ → ℕ → List ℕ → ℕ → Refusal
column_check n m t a = check_each (2 ^ n) (pair_check n m t a)

abbrev pub columns_check : ℕ → ℕ → List ℕ → Refusal
columns_check n m t = check_each (2 ^ n) (column_check n m t)

abbrev pub listed_refusal : ℕ → ℕ → List ℕ → Refusal
listed_refusal n m t = width_check 1 6 n ⨾ rows_check n m t ⨾ bytes_check t ⨾ columns_check n m t
