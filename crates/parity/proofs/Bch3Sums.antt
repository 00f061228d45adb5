-- BCH3: the closed rule gives the sum of the signs, by the lowest bit. Assumes nothing.
use Rattle.std.proofs.Common.{◌≡◌, ℕ, zero, suc, ◌+◌, ◌*◌, ◌/◌, ◌%◌, ◌^◌, eqb, ◌≢◌, ◌⊎◌, ℤ, pos, ◌+ℤ◌, ◌*ℤ◌, sym, ap, ◌∙◌, inl, inr, add-zero, mul_assoc, mul_comm, pow-suc, arith}
use Rattle.std.proofs.lemmas.Int.{ints}
use Rattle.std.proofs.lemmas.Bool.{cases_eq, eq-eqb, ne_eqb, cond-true, cond-false}
use Rattle.signs.specs.declared.family.Sign.{Sign}
use Rattle.signs.specs.declared.family.Sign.TheVariants.{Plus, Minus}
use Rattle.signs.specs.Sums.{sum}
use Rattle.signs.specs.Family.{value, block_sum}
use Rattle.signs.proofs.Powers.{mod_half, parity}
use Rattle.signs.specs.SumsLemmas.{run, sum_ext}
use Rattle.parity.specs.Parity.{sign_by, bch3, bch3_block_sum}
use Rattle.parity.specs.ParityLemmas.{sign_unlike, dot, dot_even, dot_odd, run_double, run_cancel}

-- the signs of a seed with the other bits a, from a number c of ones on, over block q of level j
abbrev signs : ℕ → ℕ → ℕ → ℤ
signs c a i = value (sign_by (c + dot a i))

abbrev block : ℕ → ℕ → ℕ → ℕ → ℤ
block c a j q = run (signs c a) (q * 2 ^ j) (2 ^ j)

doubled : (q j : ℕ) → q * 2 ^ suc j ≡ 2 * (q * 2 ^ j)
doubled q j = ap (λ x. q * x) (pow-suc 2 j) ∙ sym (mul_assoc q (2 ^ j) 2) ∙ mul_comm (q * 2 ^ j) 2

-- the even slots, and the odd ones
block_step : (c a j q : ℕ) → block c a (suc j) q ≡ block c (a / 2) j q +ℤ block (c + a % 2) (a / 2) j q
block_step c a j q =
    let n : 2 ^ suc j ≡ 2 * 2 ^ j = pow-suc 2 j ∙ mul_comm (2 ^ j) 2 in
    let b = q * 2 ^ j in
    ap (λ x. run (signs c a) x (2 ^ suc j)) (doubled q j)
    ∙ ap (run (signs c a) (2 * b)) n
    ∙ run_double (signs c a) b (2 ^ j)
    ∙ ap (λ z. z +ℤ run (λ i. signs c a (2 * i + 1)) b (2 ^ j)) (sum_ext (2 ^ j) _ _ (λ k l. ap (λ x. value (sign_by (c + x))) (dot_even a (b + k))))
    ∙ ap (λ z. block c (a / 2) j q +ℤ z) (sum_ext (2 ^ j) _ _ (λ k l. ap (λ x. value (sign_by x)) (at (b + k))))
  where
    at : (i : ℕ) → c + dot a (2 * i + 1) ≡ c + a % 2 + dot (a / 2) i
    at i = let o = dot_odd a i in omega arith

once : (z : ℤ) → pos 0 +ℤ z ≡ pos 1 *ℤ z
once z = omega (arith, ints)

twice : (s : Sign) (n : ℕ) → pos n *ℤ value s +ℤ pos n *ℤ value s ≡ pos (n * 2) *ℤ value s
twice Plus n = omega (arith, ints)
twice Minus n = omega (arith, ints)

-- 2 ^ j divides a: all slots of the block have the first one's sign
divides : (j c a q : ℕ) → a % 2 ^ j ≡ 0 → block c a j q ≡ pos (2 ^ j) *ℤ value (sign_by (c + dot a (q * 2 ^ j)))
unfolding sum
divides zero c a q e = once (signs c a (q * 1 + 0)) ∙ ap (λ x. pos 1 *ℤ signs c a x) (add-zero (q * 1))
divides (suc j) c a q e =
    let m = mod_half a j in
    let even : a % 2 ≡ 0 = omega arith in
    let first : dot (a / 2) (q * 2 ^ j) ≡ dot a (q * 2 ^ suc j) = sym (dot_even a (q * 2 ^ j)) ∙ ap (dot a) (sym (doubled q j)) in
    block_step c a j q
    ∙ ap (λ x. block c (a / 2) j q +ℤ block x (a / 2) j q) (ap (λ x. c + x) even ∙ add-zero c)
    ∙ ap (λ z. z +ℤ z) (divides j c (a / 2) q (omega arith))
    ∙ twice (sign_by (c + dot (a / 2) (q * 2 ^ j))) (2 ^ j)
    ∙ ap (λ x. pos (2 ^ j * 2) *ℤ value (sign_by (c + x))) first
    ∙ ap (λ x. pos x *ℤ value (sign_by (c + dot a (q * 2 ^ suc j)))) (sym (pow-suc 2 j))

-- it does not: half of them have the other
vanishes : (j c a q : ℕ) → a % 2 ^ j ≢ 0 → block c a j q ≡ pos 0
vanishes zero c a q ne = absurd (ne (let e : a % 1 ≡ 0 = omega arith in e))
vanishes (suc j) c a q ne = pick (parity a) (λ x. vanishes j x (a / 2) q)
  where
    pick : (a % 2 ≡ 0) ⊎ (a % 2 ≡ 1) → ((x : ℕ) → a / 2 % 2 ^ j ≢ 0 → block x (a / 2) j q ≡ pos 0) → block c a (suc j) q ≡ pos 0
    pick (inl e) rest =
        let half : a / 2 % 2 ^ j ≢ 0 = λ z. ne (let m = mod_half a j in omega arith) in
        block_step c a j q ∙ ap (λ z. z +ℤ block (c + a % 2) (a / 2) j q) (rest c half) ∙ ap (λ z. pos 0 +ℤ z) (rest (c + a % 2) half)
    pick (inr e) rest =
        block_step c a j q
        ∙ run_cancel (signs c (a / 2)) (signs (c + a % 2) (a / 2)) (q * 2 ^ j) (2 ^ j)
        (λ i. sign_unlike (c + dot (a / 2) i) (c + a % 2 + dot (a / 2) i) (let r : (c + dot (a / 2) i) % 2 ≡ (c + a % 2 + dot (a / 2) i + 1) % 2 = omega arith in r))

-- at every width
pub bch3_rule : (n s j q : ℕ) → bch3_block_sum s j q ≡ block_sum (bch3 n) s j q
bch3_rule n s j q = pick (cases_eq (s / 2 % 2 ^ j) 0)
  where
    pick : (s / 2 % 2 ^ j ≡ 0) ⊎ (s / 2 % 2 ^ j ≡ 0 → ⊥) → bch3_block_sum s j q ≡ block_sum (bch3 n) s j q
    pick (inl e) = cond-true (eqb (s / 2 % 2 ^ j) 0) _ _ (eq-eqb (s / 2 % 2 ^ j) 0 e) ∙ sym (divides j (s % 2) (s / 2) q e)
    pick (inr e) = cond-false (eqb (s / 2 % 2 ^ j) 0) _ _ (ne_eqb (s / 2 % 2 ^ j) 0 e) ∙ sym (vanishes j (s % 2) (s / 2) q e)
