-- Sums over the slots and over all choices of seeds. Assumes nothing.
use Rattle.std.specs.Prelude.{ℕ, zero, suc, ◌^◌, List, [], ◌∷◌, ℤ, ◌*ℤ◌}
use Rattle.signs.specs.Sums.{sum}
use Rattle.signs.specs.Family.{Meaning, value}

-- the sum over all slots of their weights
unfoldable pub total_of : Meaning → (ℕ → ℤ) → ℤ
total_of F W = sum (2 ^ F.width) W

-- the cell that a seed makes of weights: the sum over all slots of the weight times the sign that the seed gives the slot
unfoldable pub cell_of : Meaning → (ℕ → ℤ) → ℕ → ℤ
cell_of F W seed = sum (2 ^ F.width) (λ i. W i *ℤ value (F.sign seed i))

-- the overlap of two rows of weights: the sum over all slots of the two weights' product
unfoldable pub overlap_of : Meaning → (ℕ → ℤ) → (ℕ → ℤ) → ℤ
overlap_of F W V = sum (2 ^ F.width) (λ i. W i *ℤ V i)

-- the sum of f over all lists of c numbers below M
unfoldable pub over_choices : ℕ → ℕ → (List ℕ → ℤ) → ℤ
over_choices M zero f = f []
over_choices M (suc c) f = sum M (λ seed. over_choices M c (λ rest. f (seed ∷ rest)))
