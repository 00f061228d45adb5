-- Finite sums: linearity, exchange of two sums, and sums of which only some terms count. Assumes nothing.
use Rattle.std.proofs.Common.{◌≡◌, ℕ, zero, suc, ◌+◌, ◌-◌, ◌*◌, ◌<◌, ◌≤◌, ◌≢◌, ℤ, pos, ◌+ℤ◌, ◌*ℤ◌, nat_abs, sym, refl, ap, ◌∙◌, ap₂, add-zero, arith}
use lib.IntN.{+ℤ_assoc, +ℤ_comm, +ℤ_idl, +ℤ_idr, zero-*ℤ, *ℤ-zero}
use Rattle.signs.specs.Sums.{sum}
use Rattle.signs.specs.SumsLemmas.{sum_none, sum_more, sum_ext, sum_split}
use Rattle.model.proofs.Ring.{+ℤ_swap, *ℤ-+ℤ, +ℤ-*ℤ, pos_suc_*ℤ, abs_add}

pub sum_same : (n : ℕ) (f g : ℕ → ℤ) → ((k : ℕ) → f k ≡ g k) → sum n f ≡ sum n g
sum_same n f g h = sum_ext n f g (λ k l. h k)

pub sum_zeros : (n : ℕ) (f : ℕ → ℤ) → ((k : ℕ) → k < n → f k ≡ pos 0) → sum n f ≡ pos 0
unfolding sum
sum_zeros zero f h = refl
sum_zeros (suc n) f h = ap₂ ◌+ℤ◌ (sum_zeros n f (λ k l. h k (omega arith))) (h n (omega arith))

pub sum-+ : (n : ℕ) (f g : ℕ → ℤ) → sum n (λ k. f k +ℤ g k) ≡ sum n f +ℤ sum n g
unfolding sum
sum-+ zero f g = refl
sum-+ (suc n) f g = rw (sum-+ n f g) (+ℤ_swap (sum n f) (sum n g) (f n) (g n))

-- a factor comes out, on the left or on the right

pub sum-*_left : (n : ℕ) (c : ℤ) (f : ℕ → ℤ) → sum n (λ k. c *ℤ f k) ≡ c *ℤ sum n f
unfolding sum
sum-*_left zero c f = sym (*ℤ-zero c)
sum-*_left (suc n) c f = rw (sum-*_left n c f) (sym (*ℤ-+ℤ c (sum n f) (f n)))

pub sum-*_right : (n : ℕ) (f : ℕ → ℤ) (c : ℤ) → sum n (λ k. f k *ℤ c) ≡ sum n f *ℤ c
unfolding sum
sum-*_right zero f c = sym (zero-*ℤ c)
sum-*_right (suc n) f c = rw (sum-*_right n f c) (sym (+ℤ-*ℤ (sum n f) (f n) c))

pub sum_const : (n : ℕ) (c : ℤ) → sum n (λ k. c) ≡ pos n *ℤ c
unfolding sum
sum_const zero c = sym (zero-*ℤ c)
sum_const (suc n) c = rw (sum_const n c) (sym (pos_suc_*ℤ n c))

-- the first term, where `sum_more` takes out the last
pub sum_first : (n : ℕ) (f : ℕ → ℤ) → sum (suc n) f ≡ f 0 +ℤ sum n (λ k. f (suc k))
unfolding sum
sum_first zero f = +ℤ_comm (pos 0) (f 0)
sum_first (suc n) f = rw (← sum_more n f, sum_first n f) (+ℤ_assoc (f 0) (sum n (λ k. f (suc k))) (f (suc n)))

pub sum_swap : (m n : ℕ) (f : ℕ → ℕ → ℤ) → sum m (λ i. sum n (λ j. f i j)) ≡ sum n (λ j. sum m (λ i. f i j))
unfolding sum
sum_swap zero n f = sym (sum_zeros n (λ j. pos 0) (λ k l. refl))
sum_swap (suc m) n f = rw (sum_swap m n f) (sym (sum-+ n (λ j. sum m (λ i. f i j)) (λ j. f m j)))

pub sum_product : (m n : ℕ) (f g : ℕ → ℤ) → sum m f *ℤ sum n g ≡ sum m (λ i. sum n (λ j. f i *ℤ g j))
sum_product m n f g = sym (sum-*_right m f (sum n g)) ∙ sum_same m _ _ (λ i. sym (sum-*_left n (f i) g))

-- a sum of which the terms outside of a .. b are 0
pub sum_part : (n a b : ℕ) (f : ℕ → ℤ) → a ≤ b → b ≤ n
    → ((k : ℕ) → k < a → f k ≡ pos 0) → ((k : ℕ) → b ≤ k → k < n → f k ≡ pos 0)
    → sum n f ≡ sum (b - a) (λ k. f (a + k))
sum_part n a b f p q low high =
    let e : n ≡ a + ((b - a) + (n - b)) = omega arith in
    ap (λ (m : ℕ). sum m f) e
    ∙ sum_split a ((b - a) + (n - b)) f
    ∙ ap₂ ◌+ℤ◌ (sum_zeros a f low) (sum_split (b - a) (n - b) (λ k. f (a + k)))
    ∙ +ℤ_idl _
    ∙ ap (λ z. sum (b - a) (λ k. f (a + k)) +ℤ z) (sum_zeros (n - b) (λ k. f (a + ((b - a) + k))) (λ k l. high (a + ((b - a) + k)) (omega arith) (omega arith)))
    ∙ +ℤ_idr _

pub sum_single : (n i : ℕ) (f : ℕ → ℤ) → i < n → ((k : ℕ) → k < n → k ≢ i → f k ≡ pos 0) → sum n f ≡ f i
sum_single n i f l h =
    sum_part n i (suc i) f (omega arith) l (λ k m. h k (omega arith) (omega arith)) (λ k m o. h k o (omega arith))
    ∙ ap (λ (m : ℕ). sum m (λ k. f (i + k))) (omega arith)
    ∙ sum_more 0 (λ k. f (i + k)) ∙ ap₂ ◌+ℤ◌ (sum_none _) (ap f (add-zero i)) ∙ +ℤ_idl (f i)

pub sum_abs : (n c : ℕ) (f : ℕ → ℤ) → ((k : ℕ) → k < n → nat_abs (f k) ≤ c) → nat_abs (sum n f) ≤ n * c
unfolding sum
sum_abs zero c f h = omega arith
sum_abs (suc n) c f h =
    let ih = sum_abs n c f (λ k l. h k (omega arith)) in
    let last = h n (omega arith) in
    omega (arith, abs_add (sum n f) (f n))
