-- Divisibility by powers of two, and what `trailing_zeros` says of it. Assumes nothing.
use Rattle.std.proofs.Common.{add-one, ◌≡◌, ℕ, zero, suc, ◌+◌, ◌-◌, ◌*◌, ◌/◌, ◌%◌, ◌^◌, ◌<◌, ◌≤◌, ◌⊎◌, sym, refl, ap, ◌∙◌, subst, inl, inr, suc-le-suc, zero-le, le_of_suc-le-suc, not-suc-le-zero, pow-suc, div-add-mod', arith}
use native.Mathlib.Nat.{mul-mod_left, zero-mod}
use lib.Pow.{mod-pow-add}
use lib.Count.{count_trailing_zeros, under}
use lib.Pow.{pow-lt, mod-mod-pow}
use Rattle.std.proofs.lemmas.Bool.{cases_lt}

pub parity : (n : ℕ) → (n % 2 ≡ 0) ⊎ (n % 2 ≡ 1)
parity n = pick (n % 2) refl
  where
    pick : (d : ℕ) → n % 2 ≡ d → (n % 2 ≡ 0) ⊎ (n % 2 ≡ 1)
    pick zero e = inl e
    pick (suc zero) e = inr e
    pick (suc (suc d)) e = absurd (let l : n % 2 < 2 = omega arith in omega arith)

-- the lowest bit, and the others
pub mod_half : (n j : ℕ) → n % 2 ^ suc j ≡ (n / 2 % 2 ^ j) * 2 + n % 2
mod_half n j = ap (λ k. n % 2 ^ k) (sym (add-one j)) ∙ mod-pow-add n j 1

-- what has j trailing zeros is a multiple of 2 ^ j
pub trailing_divides : (k n j : ℕ) → j ≤ count_trailing_zeros k n → n % 2 ^ j ≡ 0
unfolding count_trailing_zeros
trailing_divides k n zero h = let e : n % 1 ≡ 0 = omega arith in e
trailing_divides zero n (suc j) h = absurd (not-suc-le-zero h)
trailing_divides (suc k) n (suc j) h = pick (trailing_divides k (n / 2) j) (n % 2) refl h
  where
    pick : (j ≤ count_trailing_zeros k (n / 2) → n / 2 % 2 ^ j ≡ 0) → (d : ℕ) → n % 2 ≡ d → suc j ≤ under d (count_trailing_zeros k (n / 2)) → n % 2 ^ suc j ≡ 0
    pick rest zero e l = let r = rest (le_of_suc-le-suc l) in let m = mod_half n j in omega arith
    pick rest (suc d) e l = absurd (not-suc-le-zero l)

-- and the other way round, as far as they are counted
pub divides_trailing : (k n j : ℕ) → j ≤ k → n % 2 ^ j ≡ 0 → j ≤ count_trailing_zeros k n
unfolding count_trailing_zeros
divides_trailing k n zero l e = zero-le
divides_trailing zero n (suc j) l e = absurd (not-suc-le-zero l)
divides_trailing (suc k) n (suc j) l e =
    let m = mod_half n j in
    let even : 0 ≡ n % 2 = omega arith in
    let rest : n / 2 % 2 ^ j ≡ 0 = omega arith in
    subst (λ d. suc j ≤ under d (count_trailing_zeros k (n / 2))) even (suc-le-suc (divides_trailing k (n / 2) j (le_of_suc-le-suc l) rest))

-- a multiple of a power is one of each smaller power
pub multiple_down : (n i j : ℕ) → i ≤ j → n % 2 ^ j ≡ 0 → n % 2 ^ i ≡ 0
multiple_down n i j l e =
    let whole : j - i + i ≡ j = omega arith in
    sym (mod-mod-pow n (j - i) i) ∙ ap (λ x. n % 2 ^ x % 2 ^ i) whole ∙ ap (λ x. x % 2 ^ i) e ∙ zero-mod (2 ^ i)

-- a multiple of 2 ^ j is one of 2 ^ suc j, or the next one is
pub next_multiple : (n j : ℕ) → n % 2 ^ j ≡ 0 → (n % 2 ^ suc j ≡ 0) ⊎ ((n + 2 ^ j) % 2 ^ suc j ≡ 0)
next_multiple n j e = pick (parity q)
  where
    q : ℕ
    q = n / 2 ^ j

    twice : (r m : ℕ) → m ≡ r * (2 ^ j * 2) → m % 2 ^ suc j ≡ 0
    twice r m h = ap (λ x. m % x) (pow-suc 2 j) ∙ ap (λ x. x % (2 ^ j * 2)) h ∙ mul-mod_left r (2 ^ j * 2)

    pick : (q % 2 ≡ 0) ⊎ (q % 2 ≡ 1) → (n % 2 ^ suc j ≡ 0) ⊎ ((n + 2 ^ j) % 2 ^ suc j ≡ 0)
    pick (inl h) =
        let d : q * 2 ^ j + n % 2 ^ j ≡ n = div-add-mod' n (2 ^ j) in
        let t : q * 2 ^ j ≡ q / 2 * 2 * 2 ^ j = ap (λ x. x * 2 ^ j) (let w : q ≡ q / 2 * 2 = omega arith in w) in
        inl (twice (q / 2) n (omega arith))
    pick (inr h) =
        let d : q * 2 ^ j + n % 2 ^ j ≡ n = div-add-mod' n (2 ^ j) in
        let t : (q + 1) * 2 ^ j ≡ (q + 1) / 2 * 2 * 2 ^ j = ap (λ x. x * 2 ^ j) (let w : q + 1 ≡ (q + 1) / 2 * 2 = omega arith in w) in
        inr (twice ((q + 1) / 2) (n + 2 ^ j) (omega arith))

pub exponent_le : (i j : ℕ) → 2 ^ i ≤ 2 ^ j → i ≤ j
exponent_le i j h = pick (cases_lt j i)
  where
    pick : (j < i) ⊎ (i ≤ j) → i ≤ j
    pick (inl l) = let p : 2 ^ j < 2 ^ i = pow-lt l in omega arith
    pick (inr l) = l
