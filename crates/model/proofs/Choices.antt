-- Sums over all choices of seeds. Assumes nothing.
use Rattle.std.proofs.Common.{◌≡◌, ℕ, zero, suc, ◌*◌, ◌^◌, ◌<◌, List, [], ◌∷◌, length, get_or, ℤ, pos, ◌+ℤ◌, ◌*ℤ◌, sym, refl, ap, ◌∙◌, ap₂, pow-suc, arith}
use native.Mathlib.Nat.{pow-zero}
use lib.IntN.{zero-*ℤ}
use Rattle.std.specs.List.{AllByRecursion}
use Rattle.signs.specs.Sums.{sum}
use Rattle.signs.specs.SumsLemmas.{sum_none, sum_ext}
use Rattle.model.specs.Choices.{over_choices}
use Rattle.model.proofs.Ring.{*ℤ_assoc, +ℤ-*ℤ, *ℤ_pos_one, pos_one_*ℤ}
use Rattle.model.proofs.Sums.{sum_same, sum-+, sum-*_left, sum_const, sum_first}

-- only the lists of c numbers below M count
pub choices_ext : (M c : ℕ) (f g : List ℕ → ℤ) → ((T : List ℕ) → length T ≡ c → AllByRecursion (λ s. s < M) T → f T ≡ g T) → over_choices M c f ≡ over_choices M c g
unfolding over_choices
choices_ext M zero f g h = h [] refl tt
choices_ext M (suc c) f g h =
    sum_ext M _ _ (λ s l. choices_ext M c (λ T. f (s ∷ T)) (λ T. g (s ∷ T)) (λ T e a. h (s ∷ T) (ap suc e) (l, a)))

choices-+ : (M c : ℕ) (f g : List ℕ → ℤ) → over_choices M c (λ T. f T +ℤ g T) ≡ over_choices M c f +ℤ over_choices M c g
unfolding over_choices
choices-+ M zero f g = refl
choices-+ M (suc c) f g = sum_same M _ _ (λ s. choices-+ M c (λ T. f (s ∷ T)) (λ T. g (s ∷ T))) ∙ sum-+ M _ _

-- there are M ^ c choices

choices_const : (M c : ℕ) (z : ℤ) → over_choices M c (λ T. z) ≡ pos (M ^ c) *ℤ z
unfolding over_choices
choices_const M zero z = rw (pow-zero M) (sym (pos_one_*ℤ z))
choices_const M (suc c) z =
    sum_same M _ _ (λ s. choices_const M c z) ∙ sum_const M (pos (M ^ c) *ℤ z)
    ∙ sym (*ℤ_assoc (pos M) (pos (M ^ c)) z) ∙ ap (λ (n : ℕ). pos n *ℤ z) (rw (pow-suc M c) (omega arith))

pub choices_number : (M c : ℕ) → over_choices M c (λ T. pos 1) ≡ pos (M ^ c)
choices_number M c = choices_const M c (pos 1) ∙ *ℤ_pos_one (pos (M ^ c))

-- where g comes to M times z over all M seeds, g at the c chosen seeds comes to c times z for each choice on the average
pub choices_totals : (M : ℕ) (g : ℕ → ℤ) (z : ℤ) → sum M g ≡ pos M *ℤ z
    → (c : ℕ) → over_choices M c (λ T. sum c (λ k. g (get_or T k 0))) ≡ pos (M ^ c * c) *ℤ z
unfolding over_choices
choices_totals M g z e zero = sum_none (λ k. g (get_or [] k 0)) ∙ sym (zero-*ℤ z) ∙ ap (λ (n : ℕ). pos n *ℤ z) (omega arith)
choices_totals M g z e (suc c) =
    sum_same M _ _ (first (choices_totals M g z e c))
    ∙ sum-+ M (λ s. pos (M ^ c) *ℤ g s) (λ s. pos (M ^ c * c) *ℤ z)
    ∙ ap₂ ◌+ℤ◌ (sum-*_left M (pos (M ^ c)) g ∙ ap (λ y. pos (M ^ c) *ℤ y) e ∙ sym (*ℤ_assoc (pos (M ^ c)) (pos M) z))
    (sum_const M (pos (M ^ c * c) *ℤ z) ∙ sym (*ℤ_assoc (pos M) (pos (M ^ c * c)) z))
    ∙ sym (+ℤ-*ℤ (pos (M ^ c * M)) (pos (M * (M ^ c * c))) z)
    ∙ ap (λ (n : ℕ). pos n *ℤ z) (rw (pow-suc M c) (omega arith))
  where
    first : over_choices M c (λ T. sum c (λ k. g (get_or T k 0))) ≡ pos (M ^ c * c) *ℤ z → (s : ℕ) → over_choices M c (λ T. sum (suc c) (λ k. g (get_or (s ∷ T) k 0))) ≡ pos (M ^ c) *ℤ g s +ℤ pos (M ^ c * c) *ℤ z
    first ih s =
        choices_ext M c _ _ (λ T l a. sum_first c (λ k. g (get_or (s ∷ T) k 0)))
        ∙ choices-+ M c (λ T. g s) (λ T. sum c (λ k. g (get_or T k 0)))
        ∙ ap₂ ◌+ℤ◌ (choices_const M c (g s)) ih
