-- An interval taken block by block, each the largest that fits, has at most two blocks for each bit of the width. Assumes nothing.
use Rattle.std.proofs.Common.{◌≡◌, ℕ, zero, suc, ◌+◌, ◌-◌, ◌*◌, ◌/◌, ◌%◌, ◌^◌, ◌<◌, ◌≤◌, Bool, true, false, cond, eqb, ltb, leb, ◌⊎◌, ℤ, pos, ◌+ℤ◌, Some, None, sym, refl, ap, ◌∙◌, inl, inr, pow-suc, div-add-mod', arith, pow_mono}
use native.Mathlib.Nat.{add-mod_right}
use Rattle.std.proofs.lemmas.Bool.{cases_lt, and_parts, and_from, eqb-true, eq-eqb, leb-true, le-leb, lt-ltb, le-ltb, both_ways, cond-true, cond-false}
use Rattle.signs.specs.Cover.{fits_at, level_at, cover_sum, cover_answer}
use Rattle.signs.specs.Faults.{Refusal, answer}
use Rattle.signs.specs.Family.{Meaning, Lawful, value, block_sum, interval_sum, seed_check, interval_check, interval_refusal, interval_answer}
use Rattle.signs.proofs.Answers.{then_none, interval_there}
use Rattle.signs.proofs.Blocks.{ok, block_number}
use Rattle.signs.specs.SumsLemmas.{run, run_append, sum_none}
use Rattle.signs.proofs.Powers.{exponent_le, multiple_down, next_multiple}

-- j is the level of the largest block that starts at slot a and does not pass b
pub record Largest (a b j : ℕ) : Type 0 where
  pub starts : a % 2 ^ j ≡ 0
  pub fits : a + 2 ^ j ≤ b
  pub largest : (i : ℕ) → a % 2 ^ i ≡ 0 → a + 2 ^ i ≤ b → i ≤ j

-- Why k blocks are enough from slot a to b, where b is at most 2 ^ n. As long as the blocks are held back by where they start, levels rise, and
-- from then on, held back by the end, they fall.
pub data Enough (n k a b : ℕ) : Type 0 where
  rising : (t : ℕ) → t ≤ n → a % 2 ^ t ≡ 0 → n - t + n ≤ k → Enough n k a b
  falling : (t : ℕ) → a % 2 ^ t ≡ 0 → b < a + 2 ^ t → t ≤ k → Enough n k a b

pub enough_start : (n a b : ℕ) → Enough n (2 * n) a b
enough_start n a b = rising 0 (omega arith) (let e : a % 1 ≡ 0 = omega arith in e) (omega arith)

pub enough_end : (n a b : ℕ) → 1 ≤ n → Enough n 0 a b → b ≤ a
enough_end n a b l (rising t h e m) = omega arith
enough_end n a b l (falling t e h m) = let z : t ≡ 0 = omega arith in let p : 2 ^ t ≡ 1 = ap (λ x. 2 ^ x) z in omega arith

-- after the largest block nothing is left
done : (n k a b : ℕ) → b ≤ a → Enough n k a b
done n k a b l = falling 0 (let e : a % 1 ≡ 0 = omega arith in e) (let h : b < a + 1 = omega arith in h) (omega arith)

-- the end holds the levels back
fall : (n k a b j : ℕ) → Largest a b j → a % 2 ^ suc j ≡ 0 → j ≤ k → Enough n k (a + 2 ^ j) b
fall n k a b j g e l = pick (cases_lt b (a + 2 ^ suc j))
  where
    pick : (b < a + 2 ^ suc j) ⊎ (a + 2 ^ suc j ≤ b) → Enough n k (a + 2 ^ j) b
    pick (inl h) = let p = pow-suc 2 j in falling j (add-mod_right a (2 ^ j) ∙ g.starts) (omega arith) l
    pick (inr h) = absurd (let m = g.largest (suc j) e h in omega arith)

from_falling : (n k a b j t : ℕ) → Largest a b j → a % 2 ^ t ≡ 0 → b < a + 2 ^ t → t ≤ suc k → Enough n k (a + 2 ^ j) b
from_falling n k a b j t g e h m = pick (cases_lt j t)
  where
    pick : (j < t) ⊎ (t ≤ j) → Enough n k (a + 2 ^ j) b
    pick (inl l) = fall n k a b j g (multiple_down a (suc j) t l e) (omega arith)
    pick (inr l) = absurd (let p : 2 ^ t ≤ 2 ^ j = pow_mono l in let f = g.fits in omega arith)

-- a block that starts later than it might: either the end holds it back, or the next one starts at a multiple of the next power
from_rising : (n k a b j t : ℕ) → b ≤ 2 ^ n → Largest a b j → t ≤ j → n - t + n ≤ suc k → Enough n k (a + 2 ^ j) b
from_rising n k a b j t few g l m = pick (cases_lt j n) (next_multiple a j g.starts)
  where
    pick : (j < n) ⊎ (n ≤ j) → (a % 2 ^ suc j ≡ 0) ⊎ ((a + 2 ^ j) % 2 ^ suc j ≡ 0) → Enough n k (a + 2 ^ j) b
    pick (inl h) (inl e) = fall n k a b j g e (omega arith)
    pick (inl h) (inr e) = rising (suc j) h e (omega arith)
    pick (inr h) e = done n k (a + 2 ^ j) b (let p : 2 ^ n ≤ 2 ^ j = pow_mono h in omega arith)

pub enough_next : (n k a b j : ℕ) → b ≤ 2 ^ n → Largest a b j → Enough n (suc k) a b → Enough n k (a + 2 ^ j) b
enough_next n k a b j few g (falling t e h m) = from_falling n k a b j t g e h m
enough_next n k a b j few g (rising t l e m) = pick (cases_lt b (a + 2 ^ t))
  where
    pick : (b < a + 2 ^ t) ⊎ (a + 2 ^ t ≤ b) → Enough n k (a + 2 ^ j) b
    pick (inl h) = from_falling n k a b j t g e h (omega arith)
    pick (inr h) = from_rising n k a b j t few g (g.largest t e h) m

-- ---- the level by its definition

-- the largest of the levels up to n
record UpTo (n a b j : ℕ) : Type 0 where
  low : j ≤ n
  starts : a % 2 ^ j ≡ 0
  fits : a + 2 ^ j ≤ b
  largest : (i : ℕ) → i ≤ n → a % 2 ^ i ≡ 0 → a + 2 ^ i ≤ b → i ≤ j

fits_so : (a b i : ℕ) → a % 2 ^ i ≡ 0 → a + 2 ^ i ≤ b → fits_at a b i ≡ true
fits_so a b i e f = and_from (eqb (a % 2 ^ i) 0) (leb (a + 2 ^ i) b) (eq-eqb (a % 2 ^ i) 0 e) (le-leb (a + 2 ^ i) b f)

up_to : (n a b : ℕ) → a < b → UpTo n a b (level_at n a b)
unfolding level_at
up_to zero a b h =
    record { low = omega arith; starts = let e : a % 1 ≡ 0 = omega arith in e; fits = let f : a + 1 ≤ b = omega arith in f; largest = λ i l e f. l }
up_to (suc n) a b h = pick (fits_at a b (suc n)) refl (up_to n a b h)
  where
    pick : (t : Bool) → fits_at a b (suc n) ≡ t → UpTo n a b (level_at n a b) → UpTo (suc n) a b (cond t (suc n) (level_at n a b))
    pick true e u =
        let p = and_parts (eqb (a % 2 ^ suc n) 0) (leb (a + 2 ^ suc n) b) e in
        record { low = omega arith; starts = eqb-true (a % 2 ^ suc n) 0 p.0; fits = leb-true (a + 2 ^ suc n) b p.1; largest = λ i l _ _. l }
    pick false e u = record { low = let l = u.low in omega arith; starts = u.starts; fits = u.fits; largest = λ i l m f. less i (cases_lt i (suc n)) l m f }
      where
        less : (i : ℕ) → (i < suc n) ⊎ (suc n ≤ i) → i ≤ suc n → a % 2 ^ i ≡ 0 → a + 2 ^ i ≤ b → i ≤ level_at n a b
        less i (inl k) l m f = u.largest i (omega arith) m f
        less i (inr k) l m f =
            let same : suc n ≡ i = omega arith in
            absurd (both_ways (fits_at a b (suc n)) e (ap (fits_at a b) same ∙ fits_so a b i m f))

level_is : (n a b : ℕ) → a < b → b ≤ 2 ^ n → Largest a b (level_at n a b)
level_is n a b h few =
    let u = up_to n a b h in
    record { starts = u.starts; fits = u.fits; largest = λ i m f. u.largest i (exponent_le i n (omega arith)) m f }

-- ---- the sum over an interval, block by block

none_left : (f : ℕ → ℤ) (a b : ℕ) → b ≤ a → pos 0 ≡ run f a (b - a)
none_left f a b h = let e : 0 ≡ b - a = omega arith in sym (sum_none (λ k. f (a + k))) ∙ ap (run f a) e

-- a rule that gives each block's sum gives each interval's, where the blocks are enough
pub cover_is : (rule : ℕ → ℕ → ℤ) (f : ℕ → ℤ) (n : ℕ) → 1 ≤ n → ((j q : ℕ) → j ≤ n → q < 2 ^ (n - j) → rule j q ≡ run f (q * 2 ^ j) (2 ^ j))
    → (k a b : ℕ) → b ≤ 2 ^ n → Enough n k a b → cover_sum rule n k a b ≡ run f a (b - a)
unfolding cover_sum
cover_is rule f n some sums zero a b few g = none_left f a b (enough_end n a b some g)
cover_is rule f n some sums (suc k) a b few g = pick (λ x. cover_is rule f n some sums k x b few) (cases_lt a b)
  where
    j : ℕ
    j = level_at n a b

    pick : ((x : ℕ) → Enough n k x b → cover_sum rule n k x b ≡ run f x (b - x)) → (a < b) ⊎ (b ≤ a)
        → cond (ltb a b) (rule j (a / 2 ^ j) +ℤ cover_sum rule n k (a + 2 ^ j) b) (pos 0) ≡ run f a (b - a)
    pick rest (inr l) = cond-false (ltb a b) _ _ (le-ltb a b l) ∙ none_left f a b l
    pick rest (inl l) =
        let v = level_is n a b l few in
        let size : 2 ^ j + (b - (a + 2 ^ j)) ≡ b - a = let h = v.fits in omega arith in
        let first : a / 2 ^ j * 2 ^ j ≡ a = let d = div-add-mod' a (2 ^ j) in let z = v.starts in omega arith in
        let there = block_number n j a (let h = v.fits in omega arith) in
        cond-true (ltb a b) _ _ (lt-ltb a b l)
        ∙ ap (λ z. z +ℤ cover_sum rule n k (a + 2 ^ j) b) (sums j (a / 2 ^ j) there.0 there.1 ∙ ap (λ x. run f x (2 ^ j)) first)
        ∙ ap (λ z. run f a (2 ^ j) +ℤ z) (rest (a + 2 ^ j) (enough_next n k a b j few v g))
        ∙ sym (run_append f a (2 ^ j) (b - (a + 2 ^ j)))
        ∙ ap (run f a) size

-- so the answer of an interval is that of its blocks
pub cover_answer_lem : (F : Meaning) → Lawful F → (s a b : ℕ) → interval_answer F s a b ≡ cover_answer F s a b
cover_answer_lem F L s a b = pick (interval_refusal F s a b) refl
  where
    pick : (r : Refusal) → interval_refusal F s a b ≡ r → answer r (interval_sum F s a b) ≡ answer r (cover_sum (block_sum F s) F.width (2 * F.width) a b)
    pick (Some x) e = refl
    pick None e =
        let i = interval_there F.width a b (then_none (seed_check F.seeds s) (interval_check F.width a b) e) in
        ap ok (sym (cover_is (block_sum F s) (λ i. value (F.sign s i)) F.width L.wide (λ j q l h. refl) (2 * F.width) a b i.within (enough_start F.width a b)))
