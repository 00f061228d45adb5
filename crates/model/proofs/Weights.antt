-- Cells are linear in the weights, and two cells multiplied come to the overlap of their weights over all seeds. Assumes nothing.
use Rattle.std.proofs.Common.{◌≡◌, ℕ, zero, suc, ◌+◌, ◌-◌, ◌*◌, ◌^◌, ◌<◌, ◌≤◌, true, cond, ◌&&◌, ltb, leb, ◌≢◌, ℤ, pos, ◌+ℤ◌, ◌*ℤ◌, nat_abs, sym, refl, ap, ◌∙◌, mul-le-mul_left, mul-one, arith}
use lib.IntN.{*ℤ_comm, *ℤ-zero, zero-*ℤ}
use Rattle.std.proofs.lemmas.Int.{ints}
use Rattle.std.proofs.lemmas.Bool.{and_from, and_left, and_right, le-leb, lt-leb, lt-ltb, le-ltb}
use Rattle.signs.specs.declared.family.Sign.{Sign}
use Rattle.signs.specs.declared.family.Sign.TheVariants.{Plus, Minus}
use Rattle.signs.specs.Sums.{sum, count}
use Rattle.signs.specs.Family.{Meaning, Lawful, value, alike, interval_sum}
use Rattle.signs.specs.SumsLemmas.{sum_ext, signs_abs}
use Rattle.model.specs.declared.Booking.{Booking}
use Rattle.model.specs.Calls.{slots, mass, signed_mass}
use Rattle.model.specs.Choices.{total_of, cell_of, overlap_of}
use Rattle.model.specs.Standing.{weight_at}
use Rattle.model.proofs.Ring.{*ℤ_swap, +ℤ-*ℤ, *ℤ_pos_one, abs_mul}
use Rattle.model.proofs.Sums.{sum_same, sum_zeros, sum-+, sum-*_left, sum-*_right, sum_const, sum_swap, sum_product, sum_part, sum_single}

-- No weights, and two rows of weights together.

pub cell_none : (F : Meaning) (seed : ℕ) → cell_of F (λ i. pos 0) seed ≡ pos 0
unfolding cell_of
cell_none F seed = sum_zeros (2 ^ F.width) _ (λ i l. zero-*ℤ (value (F.sign seed i)))

pub cell-+ : (F : Meaning) (W V : ℕ → ℤ) (seed : ℕ) → cell_of F (λ i. W i +ℤ V i) seed ≡ cell_of F W seed +ℤ cell_of F V seed
unfolding cell_of
cell-+ F W V seed = sum_same (2 ^ F.width) _ _ (λ i. +ℤ-*ℤ (W i) (V i) (value (F.sign seed i))) ∙ sum-+ (2 ^ F.width) _ _

pub total_none : (F : Meaning) → total_of F (λ i. pos 0) ≡ pos 0
unfolding total_of
total_none F = sum_zeros (2 ^ F.width) _ (λ i l. refl)

pub total-+ : (F : Meaning) (W V : ℕ → ℤ) → total_of F (λ i. W i +ℤ V i) ≡ total_of F W +ℤ total_of F V
unfolding total_of
total-+ F W V = sum-+ (2 ^ F.width) W V

-- One booking.

inside : (a b k : ℕ) → k < b - a → (leb a (a + k) && ltb (a + k) b) ≡ true
inside a b k l = and_from _ _ (le-leb a (a + k) (omega arith)) (lt-ltb (a + k) b (omega arith))

-- a weight over the slots a to b - 1, times f
sum_interval : (n a b : ℕ) (w : ℤ) (f : ℕ → ℤ) → a ≤ b → b ≤ n
    → sum n (λ i. cond (leb a i && ltb i b) w (pos 0) *ℤ f i) ≡ w *ℤ sum (b - a) (λ k. f (a + k))
sum_interval n a b w f p q =
    sum_part n a b (λ i. cond (leb a i && ltb i b) w (pos 0) *ℤ f i) p q
    (λ k l. rw (and_left (leb a k) (ltb k b) (lt-leb a k l)) (zero-*ℤ (f k)))
    (λ k l m. rw (and_right (leb a k) (ltb k b) (le-ltb k b l)) (zero-*ℤ (f k)))
    ∙ sum_ext (b - a) _ (λ k. w *ℤ f (a + k)) (λ k l. rw (inside a b k l))
    ∙ sum-*_left (b - a) w (λ k. f (a + k))

module _ (F : Meaning) (b : Booking) (forward : b.from ≤ b.to) (there : b.to ≤ 2 ^ F.width) where
  pub cell_booking : (seed : ℕ) → cell_of F (weight_at b) seed ≡ b.weight *ℤ interval_sum F seed b.from b.to
  unfolding cell_of
  cell_booking seed = sum_interval (2 ^ F.width) b.from b.to b.weight (λ i. value (F.sign seed i)) forward there

  pub total_booking : total_of F (weight_at b) ≡ signed_mass b
  unfolding total_of
  total_booking =
      sum_same (2 ^ F.width) _ _ (λ i. sym (*ℤ_pos_one (weight_at b i)))
      ∙ sum_interval (2 ^ F.width) b.from b.to b.weight (λ i. pos 1) forward there
      ∙ ap (λ z. b.weight *ℤ z) (sum_const (slots b) (pos 1) ∙ *ℤ_pos_one (pos (slots b)))

  -- a booking's cell is at most its mass in size
  pub cell_small : (seed : ℕ) → nat_abs (cell_of F (weight_at b) seed) ≤ mass b
  cell_small seed =
      let S = interval_sum F seed b.from b.to in
      rw (cell_booking seed, abs_mul b.weight S) (mul-le-mul_left (nat_abs b.weight) (signs_abs (slots b) (λ k. F.sign seed (b.from + k))))

-- Two rows of signs: the sum of the products is the agreements less the disagreements.

product_alike : (a b : Sign) → value a *ℤ value b +ℤ pos 1 ≡ pos (2 * cond (alike a b) 1 0)
product_alike Plus Plus = refl
product_alike Plus Minus = refl
product_alike Minus Plus = refl
product_alike Minus Minus = refl

sum_alike : (m : ℕ) (f g : ℕ → Sign) → sum m (λ s. value (f s) *ℤ value (g s)) +ℤ pos m ≡ pos (2 * count m (λ s. alike (f s) (g s)))
unfolding sum count
sum_alike zero f g = refl
sum_alike (suc m) f g =
    let ih = sum_alike m f g in
    let here = product_alike (f m) (g m) in
    omega (arith, ints)

half_alike : (m : ℕ) (f g : ℕ → Sign) → 2 * count m (λ s. alike (f s) (g s)) ≡ m → sum m (λ s. value (f s) *ℤ value (g s)) ≡ pos 0
half_alike m f g h = omega (arith, ints, sum_alike m f g)

value_square : (s : Sign) → value s *ℤ value s ≡ pos 1
value_square Plus = refl
value_square Minus = refl

all_alike : (m : ℕ) (f : ℕ → Sign) → sum m (λ s. value (f s) *ℤ value (f s)) ≡ pos m
all_alike m f = sum_ext m _ (λ s. pos 1) (λ s l. value_square (f s)) ∙ sum_const m (pos 1) ∙ ap pos (mul-one m)

-- For any N places, M rows and entries e s i: where two places' entries multiply to 0 over the rows, and a place's with itself to M, sums over
-- the places multiply to M times the sum of products.
module _ (N M : ℕ) (e : ℕ → ℕ → ℤ)
    (apart : (i j : ℕ) → i < N → j < N → i ≢ j → sum M (λ s. e s i *ℤ e s j) ≡ pos 0)
    (same : (i : ℕ) → i < N → sum M (λ s. e s i *ℤ e s i) ≡ pos M)
    (W V : ℕ → ℤ) where
  -- one row's product, as a double sum
  at_row : (s : ℕ) → sum N (λ i. W i *ℤ e s i) *ℤ sum N (λ j. V j *ℤ e s j)
      ≡ sum N (λ i. sum N (λ j. (W i *ℤ V j) *ℤ (e s i *ℤ e s j)))
  at_row s =
      sum_product N N (λ i. W i *ℤ e s i) (λ j. V j *ℤ e s j)
      ∙ sum_same N _ _ (λ i. sum_same N _ _ (λ j. *ℤ_swap (W i) (e s i) (V j) (e s j)))

  -- the rows' sum moves inside
  moved : sum M (λ s. sum N (λ i. sum N (λ j. (W i *ℤ V j) *ℤ (e s i *ℤ e s j))))
      ≡ sum N (λ i. sum N (λ j. (W i *ℤ V j) *ℤ sum M (λ s. e s i *ℤ e s j)))
  moved =
      sum_swap M N (λ s i. sum N (λ j. (W i *ℤ V j) *ℤ (e s i *ℤ e s j)))
      ∙ sum_same N _ _ (λ i. sum_swap M N (λ s j. (W i *ℤ V j) *ℤ (e s i *ℤ e s j))
      ∙ sum_same N _ _ (λ j. sum-*_left M (W i *ℤ V j) (λ s. e s i *ℤ e s j)))

  -- at the place i only j = i is left
  at_place : (i : ℕ) → i < N → sum N (λ j. (W i *ℤ V j) *ℤ sum M (λ s. e s i *ℤ e s j)) ≡ (W i *ℤ V i) *ℤ pos M
  at_place i l =
      sum_single N i _ l (λ j m d. ap (λ z. (W i *ℤ V j) *ℤ z) (apart i j l m (λ q. d (sym q))) ∙ *ℤ-zero (W i *ℤ V j))
      ∙ ap (λ z. (W i *ℤ V i) *ℤ z) (same i l)

  pub orthogonal_entries : sum M (λ s. sum N (λ i. W i *ℤ e s i) *ℤ sum N (λ j. V j *ℤ e s j)) ≡ pos M *ℤ sum N (λ i. W i *ℤ V i)
  orthogonal_entries =
      sum_same M _ _ at_row ∙ moved ∙ sum_ext N _ _ at_place
      ∙ sum-*_right N (λ i. W i *ℤ V i) (pos M) ∙ *ℤ_comm (sum N (λ i. W i *ℤ V i)) (pos M)

pub orthogonal : (F : Meaning) → Lawful F → (W V : ℕ → ℤ) → sum F.seeds (λ s. cell_of F W s *ℤ cell_of F V s) ≡ pos F.seeds *ℤ overlap_of F W V
unfolding cell_of overlap_of
orthogonal F lawful W V =
    orthogonal_entries (2 ^ F.width) F.seeds (λ s i. value (F.sign s i))
    (λ i j l m d. half_alike F.seeds (λ s. F.sign s i) (λ s. F.sign s j) (lawful.half i j l m d))
    (λ i l. all_alike F.seeds (λ s. F.sign s i))
    W V
