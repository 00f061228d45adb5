-- Signs by parity, the bits that two numbers share, and sums and counts by the lowest bit. Assumes nothing.
use Rattle.std.specs.Prelude.{◌≡◌, ℕ, zero, suc, ◌+◌, ◌*◌, ◌/◌, ◌%◌, min, cond, ◌⊎◌, ℤ, pos, ◌+ℤ◌, ◌==◌, bit_and, count_ones, refl}
use Rattle.std.proofs.Common.{sym, ap, ◌∙◌, inl, inr, arith}
use Rattle.std.specs.Int.Bits.{and_step}
use Rattle.std.specs.Int.Count.{ones_step}
use Rattle.std.proofs.lemmas.Int.{ints}
use Rattle.std.proofs.lemmas.Bool.{eq-eqb, ne_eqb, cond-true, cond-false}
use Rattle.signs.specs.declared.family.Sign.TheVariants.{Plus, Minus}
use Rattle.signs.specs.Sums.{sum}
use Rattle.signs.specs.Family.{value}
use Rattle.signs.proofs.Powers.{parity}
use Rattle.signs.specs.SumsLemmas.{run}
use Rattle.parity.specs.Parity.{sign_by}

pub sign_even : (n : ℕ) → n % 2 ≡ 0 → sign_by n ≡ Plus
sign_even n e = cond-true (n % 2 == 0) Plus Minus (eq-eqb (n % 2) 0 e)

pub sign_odd : (n : ℕ) → n % 2 ≡ 1 → sign_by n ≡ Minus
sign_odd n e = cond-false (n % 2 == 0) Plus Minus (ne_eqb (n % 2) 0 (λ z. let q : 1 ≡ 0 = sym e ∙ z in omega arith))

-- numbers of one parity have one sign
pub sign_like : (m n : ℕ) → m % 2 ≡ n % 2 → sign_by m ≡ sign_by n
sign_like m n e = ap (λ x. cond (x == 0) Plus Minus) e

-- and those of different parity cancel
pub sign_unlike : (m n : ℕ) → m % 2 ≡ (n + 1) % 2 → value (sign_by m) +ℤ value (sign_by n) ≡ pos 0
sign_unlike m n e = pick (parity n)
  where
    pick : (n % 2 ≡ 0) ⊎ (n % 2 ≡ 1) → value (sign_by m) +ℤ value (sign_by n) ≡ pos 0
    pick (inl p) = rw (sign_even n p, sign_odd m (let q : m % 2 ≡ 1 = omega arith in q))
    pick (inr p) = rw (sign_odd n p, sign_even m (let q : m % 2 ≡ 0 = omega arith in q))

-- the bits that two numbers share
abbrev pub dot : ℕ → ℕ → ℕ
dot a x = count_ones (bit_and a x)

pub dot_step : (a x : ℕ) → dot a x ≡ min (a % 2) (x % 2) + dot (a / 2) (x / 2)
dot_step a x =
    let e = and_step a x in
    let m : bit_and a x % 2 ≡ min (a % 2) (x % 2) = omega arith in
    let h : bit_and a x / 2 ≡ bit_and (a / 2) (x / 2) = omega arith in
    ones_step (bit_and a x) ∙ ap (λ k. k + count_ones (bit_and a x / 2)) m ∙ ap (λ k. min (a % 2) (x % 2) + count_ones k) h

-- with an even and with an odd number
pub dot_even : (a x : ℕ) → dot a (2 * x) ≡ dot (a / 2) x
dot_even a x =
    let h : dot (a / 2) (2 * x / 2) ≡ dot (a / 2) x = ap (dot (a / 2)) (let e : 2 * x / 2 ≡ x = omega arith in e) in
    let s = dot_step a (2 * x) in
    omega arith

pub dot_odd : (a x : ℕ) → dot a (2 * x + 1) ≡ a % 2 + dot (a / 2) x
dot_odd a x =
    let h : dot (a / 2) ((2 * x + 1) / 2) ≡ dot (a / 2) x = ap (dot (a / 2)) (let e : (2 * x + 1) / 2 ≡ x = omega arith in e) in
    let s = dot_step a (2 * x + 1) in
    omega arith

-- the even terms of a sum of twice as many, and the odd ones
pub run_double : (f : ℕ → ℤ) (a n : ℕ) → run f (2 * a) (2 * n) ≡ run (λ i. f (2 * i)) a n +ℤ run (λ i. f (2 * i + 1)) a n
unfolding sum
run_double f a zero = refl
run_double f a (suc n) =
    let e : 2 * suc n ≡ suc (suc (2 * n)) = omega arith in
    let p : f (2 * a + 2 * n) ≡ f (2 * (a + n)) = ap f (let q : 2 * a + 2 * n ≡ 2 * (a + n) = omega arith in q) in
    let q : f (2 * a + suc (2 * n)) ≡ f (2 * (a + n) + 1) = ap f (let q : 2 * a + suc (2 * n) ≡ 2 * (a + n) + 1 = omega arith in q) in
    let ih = run_double f a n in
    ap (run f (2 * a)) e ∙ omega (arith, ints)

-- terms that cancel one by one
pub run_cancel : (f g : ℕ → ℤ) (a n : ℕ) → ((i : ℕ) → f i +ℤ g i ≡ pos 0) → run f a n +ℤ run g a n ≡ pos 0
unfolding sum
run_cancel f g a zero h = refl
run_cancel f g a (suc n) h = let ih = run_cancel f g a n h in let o = h (a + n) in omega (arith, ints)
