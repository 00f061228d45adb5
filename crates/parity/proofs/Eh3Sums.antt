-- EH3: the closed rule gives the sum of the signs, by the lowest pair of bits. Assumes nothing.
use Rattle.std.proofs.Common.{◌≡◌, ℕ, zero, suc, ◌+◌, ◌-◌, ◌*◌, ◌/◌, ◌%◌, ◌^◌, ◌<◌, ◌≤◌, min, cond, eqb, ◌⊎◌, ℤ, pos, negsuc, ◌+ℤ◌, ◌*ℤ◌, nat_abs, sym, refl, ap, ◌∙◌, ap₂, inl, inr, le_of_suc-le-suc, not-suc-le-zero, add-zero, mod-eq_of_lt, mul_assoc, pow-suc, arith, lit<, pow_pos}
use native.Mathlib.Nat.{one-le-pow}
use lib.Arith.{mod-mul}
use Rattle.std.proofs.lemmas.Nat.{one_shl}
use Rattle.std.proofs.lemmas.Int.{ints}
use Rattle.std.proofs.lemmas.Bool.{cases_eq, eq-eqb, ne_eqb, cond-true, cond-false}
use Rattle.signs.specs.declared.family.Sign.{Sign}
use Rattle.signs.specs.declared.family.Sign.TheVariants.{Plus, Minus}
use Rattle.signs.specs.Sums.{sum}
use Rattle.signs.specs.Family.{value, block_sum}
use Rattle.signs.proofs.Powers.{parity}
use Rattle.signs.specs.SumsLemmas.{run, sum_ext, run_append}
use Rattle.parity.specs.Parity.{sign_by, bch3_ones, pairs, zero_pairs, eh3, eh3_sign, eh3_even_sum, eh3_block_sum}
use Rattle.parity.specs.ParityLemmas.{sign_even, sign_odd, sign_like, sign_unlike, dot, dot_step, run_double}

-- ---- pairs

-- whether a pair holds a one
abbrev pub holds : ℕ → ℕ
holds x = cond (eqb x 0) 0 1

pub holds_none : (x : ℕ) → x ≡ 0 → holds x ≡ 0
holds_none x e = cond-true (eqb x 0) 0 1 (eq-eqb x 0 e)

pub holds_one : (x : ℕ) → (x ≡ 0 → ⊥) → holds x ≡ 1
holds_one x e = cond-false (eqb x 0) 0 1 (ne_eqb x 0 e)

holds_pair : (lo hi x : ℕ) → lo < 2 → hi < 2 → x ≡ 2 * hi + lo → holds x ≡ holds (hi + lo)
holds_pair lo hi x l h e = pick (cases_eq (hi + lo) 0)
  where
    pick : (hi + lo ≡ 0) ⊎ (hi + lo ≡ 0 → ⊥) → holds x ≡ holds (hi + lo)
    pick (inl z) = holds_none x (omega arith) ∙ sym (holds_none (hi + lo) z)
    pick (inr z) = holds_one x (λ w. z (omega arith)) ∙ sym (holds_one (hi + lo) z)

pub pair_is : (x : ℕ) → x % 4 ≡ 2 * (x / 2 % 2) + x % 2
pair_is x = let h : x / 2 / 2 ≡ x / 4 = omega arith in omega arith

holds_le : (x : ℕ) → holds x ≤ 1
holds_le x = pick (cases_eq x 0)
  where
    pick : (x ≡ 0) ⊎ (x ≡ 0 → ⊥) → holds x ≤ 1
    pick (inl e) = let h = holds_none x e in omega arith
    pick (inr e) = let h = holds_one x e in omega arith

pub pairs_le : (m x : ℕ) → pairs m x ≤ m
unfolding pairs
pairs_le zero x = omega arith
pairs_le (suc m) x = let l = pairs_le m (x / 4) in let h = holds_le (x % 4) in omega arith

pub pairs_step : (m x : ℕ) → pairs (suc m) x ≡ holds (x % 4) + pairs m (x / 4)
unfolding pairs
pairs_step m x = refl

pairs_zero : (k : ℕ) → pairs k 0 ≡ 0
unfolding pairs
pairs_zero zero = refl
pairs_zero (suc k) = let r = pairs_zero k in omega arith

-- the pairs of a remainder are the lowest ones
pub pairs_low : (m k x : ℕ) → m ≤ k → pairs k (x % 4 ^ m) ≡ pairs m x
unfolding pairs
pairs_low zero k x h = ap (pairs k) (let q : x % 1 ≡ 0 = omega arith in q) ∙ pairs_zero k
pairs_low (suc m) zero x h = absurd (not-suc-le-zero h)
pairs_low (suc m) (suc k) x h =
    let r = x % 4 ^ suc m in
    let e : r ≡ (x / 4 % 4 ^ m) * 4 + x % 4 = ap (λ y. x % y) (pow-suc 4 m) ∙ mod-mul x {m = 4 ^ m} {c = 4} (one-le-pow m 4 (lit< tt)) (omega arith) in
    let u : r / 4 ≡ x / 4 % 4 ^ m = omega arith in
    let v : r % 4 ≡ x % 4 = omega arith in
    ap₂ ◌+◌ (ap holds v) (ap (pairs k) u ∙ pairs_low m k (x / 4) (le_of_suc-le-suc h))

-- and a number below 4 ^ m has no others
pub pairs_more : (m k x : ℕ) → m ≤ k → x < 4 ^ m → pairs k x ≡ pairs m x
pairs_more m k x l h = ap (pairs k) (sym (mod-eq_of_lt h)) ∙ pairs_low m k x l

-- ---- signs times a number

abbrev pub term : ℕ → ℕ → ℤ
term n x = pos n *ℤ value (sign_by x)

term_like : (n x y : ℕ) → x % 2 ≡ y % 2 → term n x ≡ term n y
term_like n x y e = ap (λ s. pos n *ℤ value s) (sign_like x y e)

opposite : (n : ℕ) (s t : Sign) → value s +ℤ value t ≡ pos 0 → pos n *ℤ value s +ℤ pos n *ℤ value t ≡ pos 0
opposite n Plus Plus e = absurd (let w : ⊥ = omega (arith, ints) in w)
opposite n Plus Minus e = omega (arith, ints)
opposite n Minus Plus e = omega (arith, ints)
opposite n Minus Minus e = absurd (let w : ⊥ = omega (arith, ints) in w)

term_twice : (n x : ℕ) → term n x +ℤ term n x ≡ term (n * 2) x
term_twice n x = both (sign_by x)
  where
    both : (s : Sign) → pos n *ℤ value s +ℤ pos n *ℤ value s ≡ pos (n * 2) *ℤ value s
    both Plus = omega (arith, ints)
    both Minus = omega (arith, ints)

pub term_abs : (n x : ℕ) → nat_abs (term n x) ≡ n
term_abs n x = size (sign_by x)
  where
    size : (s : Sign) → nat_abs (pos n *ℤ value s) ≡ n
    size Plus = omega (arith, ints)
    size Minus = omega (arith, ints)

-- the four slots of a pair, whose bits in the seed are lo and hi: three have one sign, and one the other
module _ (n x : ℕ) where
  less : term n (x + 0) +ℤ term n (x + 1) ≡ pos 0
  less = opposite n (sign_by (x + 0)) (sign_by (x + 1)) (sign_unlike (x + 0) (x + 1) (let r : (x + 0) % 2 ≡ (x + 1 + 1) % 2 = omega arith in r))

  two : term n (x + 2) ≡ term n (x + 0)
  two = term_like n (x + 2) (x + 0) (let r : (x + 2) % 2 ≡ (x + 0) % 2 = omega arith in r)

  three : term n (x + 3) ≡ term n (x + 1)
  three = term_like n (x + 3) (x + 1) (let r : (x + 3) % 2 ≡ (x + 1) % 2 = omega arith in r)

  four : (lo hi : ℕ) → lo < 2 → hi < 2
      → (term n (x + 0) +ℤ term n (x + (hi + 1))) +ℤ (term n (x + (lo + 1)) +ℤ term n (x + (lo + hi + 1))) ≡ term (n * 2) (x + (1 + holds (hi + lo)))
  four zero zero l h = omega (arith, ints, less, term_twice n (x + 1))
  four (suc zero) zero l h = omega (arith, ints, less, two, term_twice n (x + 2))
  four zero (suc zero) l h = omega (arith, ints, less, two, term_twice n (x + 2))
  four (suc zero) (suc zero) l h = omega (arith, ints, less, two, three, term_twice n (x + 2))
  four (suc (suc lo)) hi l h = absurd (let w : ⊥ = omega arith in w)
  four zero (suc (suc hi)) l h = absurd (let w : ⊥ = omega arith in w)
  four (suc zero) (suc (suc hi)) l h = absurd (let w : ⊥ = omega arith in w)

-- ---- the signs of a seed with the other bits a, from a number c of ones on, with k pairs, over block q of level 2 m

abbrev signs : ℕ → ℕ → ℕ → ℕ → ℤ
signs k c a i = value (sign_by (c + dot a i + pairs k i))

abbrev block : ℕ → ℕ → ℕ → ℕ → ℕ → ℤ
block k c a m q = run (signs k c a) (q * 4 ^ m) (4 ^ m)

-- a slot x of the lowest pair lo, hi, and the slot i of its other pairs
ones_at : (k a x i lo hi : ℕ) → x ≡ 2 * (2 * i + hi) + lo → lo < 2 → hi < 2
    → dot a x + pairs (suc k) x ≡ min (a % 2) lo + min (a / 2 % 2) hi + holds (hi + lo) + (dot (a / 4) i + pairs k i)
unfolding pairs
ones_at k a x i lo hi e l h =
    let d = dot_step a x in
    let d' = dot_step (a / 2) (x / 2) in
    let rest : dot (a / 2 / 2) (x / 2 / 2) ≡ dot (a / 4) i = ap₂ dot (let r : a / 2 / 2 ≡ a / 4 = omega arith in r) (let r : x / 2 / 2 ≡ i = omega arith in r) in
    let p : pairs k (x / 4) ≡ pairs k i = ap (pairs k) (let r : x / 4 ≡ i = omega arith in r) in
    let low : min (a % 2) (x % 2) ≡ min (a % 2) lo = ap (min (a % 2)) (let r : x % 2 ≡ lo = omega arith in r) in
    let high : min (a / 2 % 2) (x / 2 % 2) ≡ min (a / 2 % 2) hi = ap (min (a / 2 % 2)) (let r : x / 2 % 2 ≡ hi = omega arith in r) in
    let one : holds (x % 4) ≡ holds (hi + lo) = holds_pair lo hi (x % 4) l h (omega arith) in
    omega arith

quarter : (q m : ℕ) → q * 4 ^ suc m ≡ 2 * (2 * (q * 4 ^ m))
quarter q m = let p : q * 4 ^ suc m ≡ q * 4 ^ m * 4 = ap (λ x. q * x) (pow-suc 4 m) ∙ sym (mul_assoc q (4 ^ m) 4) in omega arith

-- by the lowest pair: its four slots, and the pairs above it
block_step : (k c a m q : ℕ) → block (suc k) c a (suc m) q
    ≡ (block k (c + 0) (a / 4) m q +ℤ block k (c + (a / 2 % 2 + 1)) (a / 4) m q) +ℤ (block k (c + (a % 2 + 1)) (a / 4) m q +ℤ block k (c + (a % 2 + a / 2 % 2 + 1)) (a / 4) m q)
block_step k c a m q =
    let f = signs (suc k) c a in
    let y = q * 4 ^ m in
    let n = 4 ^ m in
    let size : 4 ^ suc m ≡ 2 * (2 * 4 ^ m) = let p = pow-suc 4 m in omega arith in
    ap (λ x. run f x (4 ^ suc m)) (quarter q m)
    ∙ ap (run f (2 * (2 * y))) size
    ∙ run_double f (2 * y) (2 * n)
    ∙ ap₂ ◌+ℤ◌ (run_double (λ i. f (2 * i)) y n) (run_double (λ i. f (2 * i + 1)) y n)
    ∙ ap₂ ◌+ℤ◌
    (ap₂ ◌+ℤ◌ (at 0 0 0 (λ i. 2 * (2 * i)) (λ i. omega arith) (omega arith) (omega arith) (omega arith)) (at 0 1 (a / 2 % 2 + 1) (λ i. 2 * (2 * i + 1)) (λ i. omega arith) (omega arith) (omega arith) (omega arith)))
    (ap₂ ◌+ℤ◌ (at 1 0 (a % 2 + 1) (λ i. 2 * (2 * i) + 1) (λ i. omega arith) (omega arith) (omega arith) (omega arith)) (at 1 1 (a % 2 + a / 2 % 2 + 1) (λ i. 2 * (2 * i + 1) + 1) (λ i. omega arith) (omega arith) (omega arith) (omega arith)))
  where
    at : (lo hi u : ℕ) (x : ℕ → ℕ) → ((i : ℕ) → x i ≡ 2 * (2 * i + hi) + lo) → lo < 2 → hi < 2 → u ≡ min (a % 2) lo + min (a / 2 % 2) hi + holds (hi + lo)
        → run (λ i. signs (suc k) c a (x i)) (q * 4 ^ m) (4 ^ m) ≡ block k (c + u) (a / 4) m q
    at lo hi u x e l h d =
        sum_ext (4 ^ m) _ _ (λ j g.
        let i = q * 4 ^ m + j in
        let o = ones_at k a (x i) i lo hi (e i) l h in
        ap (λ z. value (sign_by z)) (let r : c + dot a (x i) + pairs (suc k) (x i) ≡ c + u + dot (a / 4) i + pairs k i = omega arith in r))

-- one pair more among the zero pairs, or not
one_more : (x p m z : ℕ) → p ≤ m → z ≤ 1 → (x + (m - p) + (1 + z)) % 2 ≡ (x + (suc m - (z + p))) % 2
one_more x p m z l h = pick (cases_eq z 0)
  where
    pick : (z ≡ 0) ⊎ (z ≡ 0 → ⊥) → (x + (m - p) + (1 + z)) % 2 ≡ (x + (suc m - (z + p))) % 2
    pick (inl e) = ap (λ y. y % 2) (let r : x + (m - p) + (1 + z) ≡ x + (suc m - (z + p)) = omega arith in r)
    pick (inr e) = let r : x + (m - p) + (1 + z) ≡ x + (suc m - (z + p)) + 2 = omega arith in omega arith

block_more : (m k c a q : ℕ) → ((x : ℕ) → block k x (a / 4) m q ≡ term (2 ^ m) (x + dot (a / 4) (q * 4 ^ m) + pairs k (q * 4 ^ m) + zero_pairs m (a / 4)))
    → block (suc k) c a (suc m) q ≡ term (2 ^ suc m) (c + dot a (q * 4 ^ suc m) + pairs (suc k) (q * 4 ^ suc m) + zero_pairs (suc m) a)
block_more m k c a q rest =
    let y = q * 4 ^ m in
    let lo = a % 2 in
    let hi = a / 2 % 2 in
    let z = holds (hi + lo) in
    let first = ones_at k a (q * 4 ^ suc m) y 0 0 (let e = quarter q m in omega arith) (omega arith) (omega arith) in
    let p = pairs_step m a in
    let pair : holds (a % 4) ≡ z = holds_pair lo hi (a % 4) (omega arith) (omega arith) (pair_is a) in
    let few = pairs_le m (a / 4) in
    let one = holds_le (hi + lo) in
    block_step k c a m q
    ∙ ap₂ ◌+ℤ◌ (ap₂ ◌+ℤ◌ (at 0) (at (hi + 1))) (ap₂ ◌+ℤ◌ (at (lo + 1)) (at (lo + hi + 1)))
    ∙ four (2 ^ m) rest_ones lo hi (omega arith) (omega arith)
    ∙ term_like (2 ^ m * 2) _ _ (one_more (c + dot (a / 4) y + pairs k y) (pairs m (a / 4)) m z few one)
    ∙ ap (λ x. term (2 ^ m * 2) (x + (suc m - (z + pairs m (a / 4))))) (let r : c + dot (a / 4) y + pairs k y ≡ c + dot a (q * 4 ^ suc m) + pairs (suc k) (q * 4 ^ suc m) = omega arith in r)
    ∙ ap (λ x. term (2 ^ m * 2) (c + dot a (q * 4 ^ suc m) + pairs (suc k) (q * 4 ^ suc m) + (suc m - x))) (sym (p ∙ ap (λ x. x + pairs m (a / 4)) pair))
    ∙ ap (λ x. term x (c + dot a (q * 4 ^ suc m) + pairs (suc k) (q * 4 ^ suc m) + zero_pairs (suc m) a)) (sym (pow-suc 2 m))
  where
    rest_ones : ℕ
    rest_ones = c + dot (a / 4) (q * 4 ^ m) + pairs k (q * 4 ^ m) + zero_pairs m (a / 4)

    at : (u : ℕ) → block k (c + u) (a / 4) m q ≡ term (2 ^ m) (rest_ones + u)
    at u = rest (c + u) ∙ ap (term (2 ^ m)) (let r : c + u + dot (a / 4) (q * 4 ^ m) + pairs k (q * 4 ^ m) + zero_pairs m (a / 4) ≡ rest_ones + u = omega arith in r)

-- the sum over a block of level 2 m
block_is : (m k c a q : ℕ) → m ≤ k → block k c a m q ≡ term (2 ^ m) (c + dot a (q * 4 ^ m) + pairs k (q * 4 ^ m) + zero_pairs m a)
unfolding sum
block_is zero k c a q h =
    let z = signs k c a (q * 1 + 0) in
    let once : pos 0 +ℤ z ≡ pos 1 *ℤ z = omega (arith, ints) in
    once ∙ ap (λ x. pos 1 *ℤ signs k c a x) (add-zero (q * 1))
    ∙ term_like 1 _ _ (let r : (c + dot a (q * 1) + pairs k (q * 1)) % 2 ≡ (c + dot a (q * 1) + pairs k (q * 1) + (0 - pairs 0 a)) % 2 = omega arith in r)
block_is (suc m) zero c a q h = absurd (not-suc-le-zero h)
block_is (suc m) (suc k) c a q h = block_more m k c a q (λ x. block_is m k x (a / 4) q (le_of_suc-le-suc h))

-- ---- the closed rule

-- the three factors of the rule are one sign times a number
pub rule_is : (z n x : ℕ) → value (sign_by z) *ℤ (pos n *ℤ value (sign_by x)) ≡ term n (x + z)
rule_is z n x = pick (parity z)
  where
    pick : (z % 2 ≡ 0) ⊎ (z % 2 ≡ 1) → value (sign_by z) *ℤ (pos n *ℤ value (sign_by x)) ≡ term n (x + z)
    pick (inl e) =
        let w = term n x in
        ap (λ s. value s *ℤ w) (sign_even z e) ∙ (let o : pos 1 *ℤ w ≡ w = omega (arith, ints) in o) ∙ term_like n x (x + z) (let r : x % 2 ≡ (x + z) % 2 = omega arith in r)
    pick (inr e) =
        let w = term n x in
        let o : w +ℤ term n (x + z) ≡ pos 0 = opposite n (sign_by x) (sign_by (x + z)) (sign_unlike x (x + z) (let r : x % 2 ≡ (x + z + 1) % 2 = omega arith in r)) in
        ap (λ s. value s *ℤ w) (sign_odd z e) ∙ (let m : negsuc 0 *ℤ w ≡ term n (x + z) = omega (arith, ints) in m)

even_is : (n s m q : ℕ) → m ≤ n / 2 → eh3_even_sum n s m q ≡ run (λ i. value (eh3_sign n s i)) (q * 4 ^ m) (4 ^ m)
even_is n s m q h = rule_is (zero_pairs m (s / 2)) (2 ^ m) _ ∙ sym (block_is m (n / 2) (s % 2) (s / 2) q h)

-- powers of four
pub two_four : (m : ℕ) → 2 ^ (2 * m) ≡ 4 ^ m
two_four zero = refl
two_four (suc m) =
    let ih = two_four m in
    let e : 2 ^ (2 * suc m) ≡ 2 ^ suc (suc (2 * m)) = ap (λ x. 2 ^ x) (let r : 2 * suc m ≡ suc (suc (2 * m)) = omega arith in r) in
    let p = pow-suc 2 (suc (2 * m)) in
    let q = pow-suc 2 (2 * m) in
    let r = pow-suc 4 m in
    omega arith

-- a block's slots, as code counts them
pub size_is : (m : ℕ) → m ≤ 12 → 1 * 2 ^ (2 * m) % 4294967296 ≡ 4 ^ m
size_is m h = one_shl (2 * m) 32 (omega arith) ∙ two_four m

pub even_level : (j : ℕ) → j % 2 ≡ 0 → 4 ^ (j / 2) ≡ 2 ^ j
even_level j e = sym (two_four (j / 2)) ∙ ap (λ x. 2 ^ x) (let r : 2 * (j / 2) ≡ j = omega arith in r)

pub odd_level : (j : ℕ) → j % 2 ≡ 1 → 4 ^ (j / 2) * 2 ≡ 2 ^ j
odd_level j e =
    ap (λ x. x * 2) (sym (two_four (j / 2))) ∙ sym (pow-suc 2 (2 * (j / 2))) ∙ ap (λ x. 2 ^ x) (let r : suc (2 * (j / 2)) ≡ j = omega arith in r)

-- two blocks that follow one another
halves : (f : ℕ → ℤ) (q p n : ℕ) → p * 2 ≡ n → run f (2 * q * p) p +ℤ run f ((2 * q + 1) * p) p ≡ run f (q * n) n
halves f q p n e =
    let a : 2 * q * p ≡ q * n = let r : q * (p * 2) ≡ q * n = ap (λ x. q * x) e in omega arith in
    let b : (2 * q + 1) * p ≡ 2 * q * p + p = omega arith in
    ap (λ x. run f (2 * q * p) p +ℤ run f x p) b
    ∙ sym (run_append f (2 * q * p) p p)
    ∙ ap (run f (2 * q * p)) (let r : p + p ≡ n = omega arith in r)
    ∙ ap (λ x. run f x n) a

-- at every even width
pub eh3_rule : (n s j q : ℕ) → n % 2 ≡ 0 → j ≤ n → eh3_block_sum n s j q ≡ block_sum (eh3 n) s j q
eh3_rule n s j q w l = pick (parity j)
  where
    f : ℕ → ℤ
    f i = value (eh3_sign n s i)

    m : ℕ
    m = j / 2

    pick : (j % 2 ≡ 0) ⊎ (j % 2 ≡ 1) → eh3_block_sum n s j q ≡ block_sum (eh3 n) s j q
    pick (inl e) =
        cond-true (eqb (j % 2) 0) _ _ (eq-eqb (j % 2) 0 e)
        ∙ even_is n s m q (omega arith)
        ∙ ap (λ x. run f (q * x) x) (even_level j e)
    pick (inr e) =
        cond-false (eqb (j % 2) 0) _ _ (ne_eqb (j % 2) 0 (λ z. let r : 1 ≡ 0 = sym e ∙ z in omega arith))
        ∙ ap₂ ◌+ℤ◌ (even_is n s m (2 * q) (omega arith)) (even_is n s m (2 * q + 1) (omega arith))
        ∙ halves f q (4 ^ m) (2 ^ j) (odd_level j e)

-- ---- at 16 pairs, as code has it: a slot of the width n has no one above its n / 2 pairs

pub sign_32 : (n s i : ℕ) → n % 2 ≡ 0 → n ≤ 24 → i < 2 ^ n → eh3_sign 32 s i ≡ eh3_sign n s i
sign_32 n s i e h l =
    let p = even_level n e in
    ap (λ x. sign_by (bch3_ones s i + x)) (pairs_more (n / 2) 16 i (omega arith) (omega arith))

even_32 : (n s m q : ℕ) → n % 2 ≡ 0 → n ≤ 24 → q * 4 ^ m < 2 ^ n → eh3_even_sum 32 s m q ≡ eh3_even_sum n s m q
even_32 n s m q e h l = ap (λ x. value (sign_by (zero_pairs m (s / 2))) *ℤ (pos (2 ^ m) *ℤ value x)) (sign_32 n s (q * 4 ^ m) e h l)

pub rule_32 : (n s j q : ℕ) → n % 2 ≡ 0 → n ≤ 24 → q * 2 ^ j + 2 ^ j ≤ 2 ^ n → eh3_block_sum 32 s j q ≡ eh3_block_sum n s j q
rule_32 n s j q w h l = pick (parity j)
  where
    m : ℕ
    m = j / 2

    pick : (j % 2 ≡ 0) ⊎ (j % 2 ≡ 1) → eh3_block_sum 32 s j q ≡ eh3_block_sum n s j q
    pick (inl e) =
        let t = eq-eqb (j % 2) 0 e in
        let p : q * 4 ^ m ≡ q * 2 ^ j = ap (λ x. q * x) (even_level j e) in
        cond-true (eqb (j % 2) 0) _ _ t ∙ even_32 n s m q w h (omega (arith, pow_pos j)) ∙ sym (cond-true (eqb (j % 2) 0) _ _ t)
    pick (inr e) =
        let t = ne_eqb (j % 2) 0 (λ z. let r : 1 ≡ 0 = sym e ∙ z in omega arith) in
        let o : 4 ^ m * 2 ≡ 2 ^ j = odd_level j e in
        let p : q * (4 ^ m * 2) ≡ q * 2 ^ j = ap (λ x. q * x) o in
        let four : 0 < 4 ^ m = one-le-pow m 4 (lit< tt) in
        cond-false (eqb (j % 2) 0) _ _ t
        ∙ ap₂ ◌+ℤ◌ (even_32 n s m (2 * q) w h (omega arith)) (even_32 n s m (2 * q + 1) w h (omega arith))
        ∙ sym (cond-false (eqb (j % 2) 0) _ _ t)
