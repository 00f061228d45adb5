-- Two slots have equal signs under half of the seeds: by the lowest bit of the seed. Assumes nothing.
use Rattle.std.specs.Prelude.{◌≡◌, ℕ, zero, suc, ◌+◌, ◌*◌, ◌/◌, ◌%◌, ◌^◌, ◌<◌, ◌≤◌, Bool, true, false, cond, not, ◌≢◌, ◌⊎◌, ◌==◌, nat_eq, refl}
use Rattle.std.proofs.Common.{sym, ap, ap₂, ◌∙◌, inl, inr, pow-suc, mul_comm, add-zero, add-one, arith, pow_mono}
use Rattle.std.proofs.lemmas.Bool.{eq-eqb, ne_eqb, cases_eq}
use Rattle.signs.specs.declared.family.Sign.{Sign}
use Rattle.signs.specs.Sums.{count}
use Rattle.signs.specs.Family.{Lawful, alike}
use Rattle.signs.proofs.Powers.{parity}
use Rattle.signs.specs.SumsLemmas.{count_ext}
use Rattle.parity.specs.Parity.{sign_by, bch3, bch3_ones, bch3_sign, eh3, eh3_sign, pairs}
use Rattle.parity.specs.ParityLemmas.{sign_even, sign_odd, dot, dot_step}

-- ---- counts

count_double : (n : ℕ) (p : ℕ → Bool) → count (2 * n) p ≡ count n (λ s. p (2 * s)) + count n (λ s. p (2 * s + 1))
unfolding count
count_double zero p = refl
count_double (suc n) p =
    let e : 2 * suc n ≡ suc (suc (2 * n)) = omega arith in
    let q : suc (2 * n) ≡ 2 * n + 1 = omega arith in
    let ih = count_double n p in
    let c : ◌≡◌ {A = ℕ} (cond (p (suc (2 * n))) 1 0) (cond (p (2 * n + 1)) 1 0) = ap (λ x. cond (p x) 1 0) q in
    ap (λ x. count x p) e ∙ omega arith

either_one : (b : Bool) → cond b 1 0 + cond (not b) 1 0 ≡ 1
either_one true = refl
either_one false = refl

count_opposite : (n : ℕ) (p q : ℕ → Bool) → ((s : ℕ) → q s ≡ not (p s)) → count n p + count n q ≡ n
unfolding count
count_opposite zero p q h = refl
count_opposite (suc n) p q h =
    let ih = count_opposite n p q h in
    let o = either_one (p n) in
    let c : ◌≡◌ {A = ℕ} (cond (q n) 1 0) (cond (not (p n)) 1 0) = ap (λ b. cond b 1 0) (h n) in
    omega arith

-- ---- parity as a test

abbrev even : ℕ → Bool
even n = n % 2 == 0

even_yes : (n : ℕ) → n % 2 ≡ 0 → even n ≡ true
even_yes n e = eq-eqb (n % 2) 0 e

even_no : (n : ℕ) → n % 2 ≡ 1 → even n ≡ false
even_no n e = ne_eqb (n % 2) 0 (λ z. let q : 1 ≡ 0 = sym e ∙ z in omega arith)

even_like : (m n : ℕ) → m % 2 ≡ n % 2 → even m ≡ even n
even_like m n e = ap (λ x. nat_eq x 0) e

even_next : (n : ℕ) → even (n + 1) ≡ not (even n)
even_next n = pick (parity n)
  where
    pick : (n % 2 ≡ 0) ⊎ (n % 2 ≡ 1) → even (n + 1) ≡ not (even n)
    pick (inl e) = even_no (n + 1) (let q : (n + 1) % 2 ≡ 1 = omega arith in q) ∙ ap not (sym (even_yes n e))
    pick (inr e) = even_yes (n + 1) (let q : (n + 1) % 2 ≡ 0 = omega arith in q) ∙ ap not (sym (even_no n e))

alike_even : (a b : ℕ) → alike (sign_by a) (sign_by b) ≡ even (a + b)
alike_even a b = pick (parity a) (parity b)
  where
    pick : (a % 2 ≡ 0) ⊎ (a % 2 ≡ 1) → (b % 2 ≡ 0) ⊎ (b % 2 ≡ 1) → alike (sign_by a) (sign_by b) ≡ even (a + b)
    pick (inl p) (inl q) = rw (sign_even a p, sign_even b q) (sym (even_yes (a + b) (let r : (a + b) % 2 ≡ 0 = omega arith in r)))
    pick (inl p) (inr q) = rw (sign_even a p, sign_odd b q) (sym (even_no (a + b) (let r : (a + b) % 2 ≡ 1 = omega arith in r)))
    pick (inr p) (inl q) = rw (sign_odd a p, sign_even b q) (sym (even_no (a + b) (let r : (a + b) % 2 ≡ 1 = omega arith in r)))
    pick (inr p) (inr q) = rw (sign_odd a p, sign_odd b q) (sym (even_yes (a + b) (let r : (a + b) % 2 ≡ 0 = omega arith in r)))

-- ---- the seed's bits but the lowest

dot_of_even : (a x : ℕ) → dot (2 * a) x ≡ dot a (x / 2)
dot_of_even a x =
    let d : dot (2 * a / 2) (x / 2) ≡ dot a (x / 2) = ap (λ y. dot y (x / 2)) (let h : 2 * a / 2 ≡ a = omega arith in h) in
    let s = dot_step (2 * a) x in
    omega arith

dot_of_odd : (a x : ℕ) → dot (2 * a + 1) x ≡ x % 2 + dot a (x / 2)
dot_of_odd a x =
    let d : dot ((2 * a + 1) / 2) (x / 2) ≡ dot a (x / 2) = ap (λ y. dot y (x / 2)) (let h : (2 * a + 1) / 2 ≡ a = omega arith in h) in
    let s = dot_step (2 * a + 1) x in
    omega arith

-- whether the bits that a shares with i and with k, and e more, are even in number
abbrev test : ℕ → ℕ → ℕ → ℕ → Bool
test e i k a = even (e + (dot a i + dot a k))

test_even : (e i k a : ℕ) → test e i k (2 * a) ≡ test e (i / 2) (k / 2) a
test_even e i k a =
    let p = dot_of_even a i in
    let q = dot_of_even a k in
    ap (λ x. even (e + x)) (let r : dot (2 * a) i + dot (2 * a) k ≡ dot a (i / 2) + dot a (k / 2) = omega arith in r)

test_odd_same : (e i k a : ℕ) → i % 2 ≡ k % 2 → test e i k (2 * a + 1) ≡ test e (i / 2) (k / 2) a
test_odd_same e i k a h =
    let p = dot_of_odd a i in
    let q = dot_of_odd a k in
    even_like _ _ (let r : (e + (dot (2 * a + 1) i + dot (2 * a + 1) k)) % 2 ≡ (e + (dot a (i / 2) + dot a (k / 2))) % 2 = omega arith in r)

test_odd_apart : (e i k a : ℕ) → i % 2 ≢ k % 2 → test e i k (2 * a + 1) ≡ not (test e i k (2 * a))
test_odd_apart e i k a h =
    let p = dot_of_odd a i in
    let q = dot_of_odd a k in
    let p' = dot_of_even a i in
    let q' = dot_of_even a k in
    let one : i % 2 + k % 2 ≡ 1 = let x : i % 2 < 2 = omega arith in let y : k % 2 < 2 = omega arith in omega arith in
    ap even (let r : e + (dot (2 * a + 1) i + dot (2 * a + 1) k) ≡ e + (dot (2 * a) i + dot (2 * a) k) + 1 = omega arith in r)
    ∙ even_next (e + (dot (2 * a) i + dot (2 * a) k))

-- it holds of half of the numbers of n bits
half_pass : (n i k e : ℕ) → i < 2 ^ n → k < 2 ^ n → i ≢ k → 2 * count (2 ^ n) (test e i k) ≡ 2 ^ n
half_pass zero i k e hi hk ne = absurd (ne (let p : i ≡ k = omega arith in p))
half_pass (suc n) i k e hi hk ne = pick (cases_eq (i % 2) (k % 2)) (half_pass n (i / 2) (k / 2) e (low i hi) (low k hk))
  where
    twice : 2 ^ suc n ≡ 2 * 2 ^ n
    twice = pow-suc 2 n ∙ mul_comm (2 ^ n) 2

    low : (x : ℕ) → x < 2 ^ suc n → x / 2 < 2 ^ n
    low x h = let t = twice in omega arith

    split : count (2 ^ suc n) (test e i k) ≡ count (2 ^ n) (λ a. test e i k (2 * a)) + count (2 ^ n) (λ a. test e i k (2 * a + 1))
    split = ap (λ x. count x (test e i k)) twice ∙ count_double (2 ^ n) (test e i k)

    pick : (i % 2 ≡ k % 2) ⊎ (i % 2 ≢ k % 2) → (i / 2 ≢ k / 2 → 2 * count (2 ^ n) (test e (i / 2) (k / 2)) ≡ 2 ^ n)
        → 2 * count (2 ^ suc n) (test e i k) ≡ 2 ^ suc n
    pick (inl s) rest =
        let c = rest (λ d. ne (let p : i ≡ k = omega arith in p)) in
        let x = count_ext (2 ^ n) (λ a. test e i k (2 * a)) (test e (i / 2) (k / 2)) (λ a l. test_even e i k a) in
        let y = count_ext (2 ^ n) (λ a. test e i k (2 * a + 1)) (test e (i / 2) (k / 2)) (λ a l. test_odd_same e i k a s) in
        let t = twice in
        let z = split in
        omega arith
    pick (inr d) rest =
        let o = count_opposite (2 ^ n) (λ a. test e i k (2 * a)) (λ a. test e i k (2 * a + 1)) (λ a. test_odd_apart e i k a d) in
        let t = twice in
        let z = split in
        omega arith

-- ---- a family whose sign is the parity of what BCH3 counts and a number of the slot

module _ (n : ℕ) (extra : ℕ → ℕ) (sign : ℕ → ℕ → Sign) (is : (s i : ℕ) → sign s i ≡ sign_by (bch3_ones s i + extra i)) where
  -- the seed's lowest bit does not matter
  at : (i k s a : ℕ) → s / 2 ≡ a → alike (sign s i) (sign s k) ≡ test (extra i + extra k) i k a
  at i k s a h =
      let u : dot (s / 2) i ≡ dot a i = ap (λ y. dot y i) h in
      let v : dot (s / 2) k ≡ dot a k = ap (λ y. dot y k) h in
      ap₂ alike (is s i) (is s k)
      ∙ alike_even (bch3_ones s i + extra i) (bch3_ones s k + extra k)
      ∙ even_like _ _ (let r : (bch3_ones s i + extra i + (bch3_ones s k + extra k)) % 2 ≡ (extra i + extra k + (dot a i + dot a k)) % 2 = omega arith in r)

  half : (i k : ℕ) → i < 2 ^ n → k < 2 ^ n → i ≢ k → 2 * count (2 ^ (n + 1)) (λ s. alike (sign s i) (sign s k)) ≡ 2 ^ (n + 1)
  half i k hi hk ne =
      let e = extra i + extra k in
      let p : ℕ → Bool = λ s. alike (sign s i) (sign s k) in
      let twice : 2 ^ (n + 1) ≡ 2 * 2 ^ n = ap (λ x. 2 ^ x) (add-one n) ∙ pow-suc 2 n ∙ mul_comm (2 ^ n) 2 in
      let split : count (2 ^ (n + 1)) p ≡ count (2 ^ n) (λ a. p (2 * a)) + count (2 ^ n) (λ a. p (2 * a + 1)) = ap (λ x. count x p) twice ∙ count_double (2 ^ n) p in
      let x : count (2 ^ n) (λ a. p (2 * a)) ≡ count (2 ^ n) (test e i k) = count_ext (2 ^ n) _ _ (λ a l. at i k (2 * a) a (let h : 2 * a / 2 ≡ a = omega arith in h)) in
      let y : count (2 ^ n) (λ a. p (2 * a + 1)) ≡ count (2 ^ n) (test e i k) = count_ext (2 ^ n) _ _ (λ a l. at i k (2 * a + 1) a (let h : (2 * a + 1) / 2 ≡ a = omega arith in h)) in
      let c = half_pass n i k e hi hk ne in
      omega arith

  lawful : 1 ≤ n → n ≤ 24 → Lawful (record { width = n; seeds = 2 ^ (n + 1); sign = sign })
  lawful l h =
      let low : 2 ^ 1 ≤ 2 ^ (n + 1) = pow_mono {i = 1} {j = n + 1} (omega arith) in
      let high : 2 ^ (n + 1) ≤ 2 ^ 25 = pow_mono {i = n + 1} {j = 25} (omega arith) in
      record { wide = l; narrow = h; some = omega arith; few = omega arith; half = half }

pub bch3-Lawful : (n : ℕ) → 1 ≤ n → n ≤ 24 → Lawful (bch3 n)
bch3-Lawful n l h = lawful n (λ _. 0) bch3_sign (λ s i. ap sign_by (sym (add-zero (bch3_ones s i)))) l h

pub eh3-Lawful : (n : ℕ) → 1 ≤ n → n ≤ 24 → Lawful (eh3 n)
eh3-Lawful n l h = lawful n (pairs (n / 2)) (eh3_sign n) (λ s i. refl) l h
