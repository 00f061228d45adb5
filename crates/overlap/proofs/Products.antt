-- A loop that adds up products of two cells. Assumes nothing.
use Rattle.std.proofs.Common.{◌≡◌, ℕ, ◌+◌, ◌^◌, ◌<◌, ◌≤◌, ℤ, ◌+ℤ◌, ◌*ℤ◌, nat_abs, sym, ap, ◌∙◌, subst, ap₂, arith, w64, SFits}
use Rattle.std.proofs.lemmas.Nat.{mul-le}
use Rattle.signs.specs.Sums.{sum}
use Rattle.signs.specs.SumsLemmas.{sum_plus_one}
use Rattle.model.proofs.Ring.{abs_mul}
use Rattle.model.proofs.Sums.{sum_abs}
use Rattle.sketch.proofs.Adding.{bitted, small_fits, bitted_is}

-- the cells x and y of column j, after which there are at most 32
module _ (f g : ℕ → ℤ) (j : ℕ) (few : j < 32) (small : (k : ℕ) → k ≤ j → (nat_abs (f k) ≤ 2 ^ 26) × (nat_abs (g k) ≤ 2 ^ 26)) (x y : ℤ) (left : x ≡ f j) (right : y ≡ g j) where
  small_product : (k : ℕ) → k ≤ j → nat_abs (f k *ℤ g k) ≤ 2 ^ 52
  small_product k h = omega (arith, abs_mul (f k) (g k), mul-le (nat_abs (f k)) (nat_abs (g k)) (2 ^ 26) (2 ^ 26) (small k h).0 (small k h).1)

  here : nat_abs (f j *ℤ g j) < 2 ^ 63
  here = omega (arith, small_product j (omega arith))

  product_is : bitted x *ℤ bitted y ≡ f j *ℤ g j
  product_is = ap₂ ◌*ℤ◌
      (ap bitted left ∙ bitted_is (f j) (omega (arith, (small j (omega arith)).0)))
      (ap bitted right ∙ bitted_is (g j) (omega (arith, (small j (omega arith)).1)))

  pub product_fits : SFits w64 (bitted x *ℤ bitted y)
  product_fits = subst (SFits w64) (sym product_is) (small_fits (f j *ℤ g j) here)

  module _ (T : ℤ) (so_far : T ≡ sum j (λ k. f k *ℤ g k)) where
    sum_is : T +ℤ bitted (bitted x *ℤ bitted y) ≡ sum (j + 1) (λ k. f k *ℤ g k)
    sum_is = ap₂ ◌+ℤ◌ so_far (ap bitted product_is ∙ bitted_is (f j *ℤ g j) here) ∙ sym (sum_plus_one j (λ k. f k *ℤ g k))

    sum_small : nat_abs (sum (j + 1) (λ k. f k *ℤ g k)) < 2 ^ 63
    sum_small = omega (arith, sum_abs (j + 1) (2 ^ 52) (λ k. f k *ℤ g k) (λ k h. small_product k (omega arith)))

    pub total_fits : SFits w64 (T +ℤ bitted (bitted x *ℤ bitted y))
    total_fits = subst (SFits w64) (sym sum_is) (small_fits _ sum_small)

    pub total_more : bitted (T +ℤ bitted (bitted x *ℤ bitted y)) ≡ sum (j + 1) (λ k. f k *ℤ g k)
    total_more = ap bitted sum_is ∙ bitted_is _ sum_small
