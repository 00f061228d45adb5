-- The laws of finite sums and counts, and of sums of signs. Assumes nothing.
use Rattle.std.specs.Prelude.{◌≡◌, ℕ, zero, suc, ◌+◌, ◌<◌, ◌≤◌, Bool, cond, ℤ, pos, ◌+ℤ◌, unsigned_abs, refl}
use Rattle.std.proofs.Common.{sym, ap, ap₂, ◌∙◌, add-zero, add-suc, add_assoc, add-one, arith}
use Rattle.std.proofs.Math.IntN.{+ℤ_assoc, +ℤ_idr}
use Rattle.std.proofs.lemmas.Int.{ints}
use Rattle.signs.specs.declared.family.Sign.{Sign}
use Rattle.signs.specs.declared.family.Sign.TheVariants.{Plus, Minus}
use Rattle.signs.specs.Sums.{sum, count}
use Rattle.signs.specs.Family.{value}

-- the two clauses of `sum`, and a loop's step
pub sum_none : (f : ℕ → ℤ) → sum 0 f ≡ pos 0
unfolding sum
sum_none f = refl

pub sum_more : (n : ℕ) (f : ℕ → ℤ) → sum (suc n) f ≡ sum n f +ℤ f n
unfolding sum
sum_more n f = refl

pub sum_plus_one : (n : ℕ) (f : ℕ → ℤ) → sum (n + 1) f ≡ sum n f +ℤ f n
sum_plus_one n f = rw (add-one n) (sum_more n f)

-- only the terms below the end count
pub sum_ext : (n : ℕ) (f g : ℕ → ℤ) → ((k : ℕ) → k < n → f k ≡ g k) → sum n f ≡ sum n g
unfolding sum
sum_ext zero f g h = refl
sum_ext (suc n) f g h = ap₂ ◌+ℤ◌ (sum_ext n f g (λ k l. h k (omega arith))) (h n (omega arith))

pub sum_split : (m n : ℕ) (f : ℕ → ℤ) → sum (m + n) f ≡ sum m f +ℤ sum n (λ k. f (m + k))
unfolding sum
sum_split m zero f = rw add-zero (sym (+ℤ_idr (sum m f)))
sum_split m (suc n) f = rw (add-suc m n, sum_split m n f) (+ℤ_assoc (sum m f) (sum n (λ k. f (m + k))) (f (m + n)))

-- the sum of n terms from the a-th on
abbrev pub run : (ℕ → ℤ) → ℕ → ℕ → ℤ
run f a n = sum n (λ k. f (a + k))

pub run_append : (f : ℕ → ℤ) (a m n : ℕ) → run f a (m + n) ≡ run f a m +ℤ run f (a + m) n
run_append f a m n =
    sum_split m n (λ k. f (a + k)) ∙ ap (λ z. run f a m +ℤ z) (sum_ext n _ _ (λ k l. ap f (sym (add_assoc a m k))))

pub value_abs : (s : Sign) → unsigned_abs (value s) ≡ 1
value_abs Plus = refl
value_abs Minus = refl

-- a sum of n signs is at most n in size
pub signs_abs : (n : ℕ) (f : ℕ → Sign) → unsigned_abs (sum n (λ k. value (f k))) ≤ n
unfolding sum
signs_abs zero f = omega arith
signs_abs (suc n) f = more (f n) (signs_abs n f)
  where
    more : (s : Sign) → unsigned_abs (sum n (λ k. value (f k))) ≤ n → unsigned_abs (sum n (λ k. value (f k)) +ℤ value s) ≤ suc n
    more Plus h = omega (arith, ints)
    more Minus h = omega (arith, ints)

-- only the numbers below the end are tested
pub count_ext : (n : ℕ) (p q : ℕ → Bool) → ((k : ℕ) → k < n → p k ≡ q k) → count n p ≡ count n q
unfolding count
count_ext zero p q h = refl
count_ext (suc n) p q h = ap₂ ◌+◌ (count_ext n p q (λ k l. h k (omega arith))) (ap (λ t. cond t 1 0) (h n (omega arith)))
