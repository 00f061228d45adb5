-- Pairs of bits counted by a mask, as code counts them. Assumes nothing.
use Rattle.std.proofs.Common.{◌≡◌, ℕ, zero, suc, ◌+◌, ◌*◌, ◌/◌, ◌%◌, min, max, ◌⊎◌, refl, ap, ◌∙◌, inl, inr, arith}
use lib.Bits.{bit_and, bit_or, or_step, or_shr, and_zero_r}
use lib.Count.{ones, ones_in}
use Rattle.std.proofs.lemmas.Bool.{cases_eq}
use Rattle.parity.specs.Parity.{pairs}
use Rattle.parity.specs.ParityLemmas.{dot, dot_step, dot_even}
use Rattle.parity.proofs.Eh3Sums.{holds, holds_none, holds_one, pair_is}

-- the lower bit of each of k pairs: at 16, 0x5555_5555
unfoldable pub mask : ℕ → ℕ
mask zero = 0
mask (suc k) = mask k * 4 + 1

either_bit : (x : ℕ) → max (x % 2) (x / 2 % 2) ≡ holds (x % 4)
either_bit x = pick (cases_eq (x % 4) 0)
  where
    pick : (x % 4 ≡ 0) ⊎ (x % 4 ≡ 0 → ⊥) → max (x % 2) (x / 2 % 2) ≡ holds (x % 4)
    pick (inl e) = let h = pair_is x in let y = holds_none (x % 4) e in omega arith
    pick (inr e) = let h = pair_is x in let y = holds_one (x % 4) e in omega arith

ones_none : ones 0 ≡ 0
unfolding ones ones_in
ones_none = refl

pub pairs_masked : (k x : ℕ) → ones (bit_and (bit_or x (x / 2)) (mask k)) ≡ pairs k x
unfolding pairs mask
pairs_masked zero x = ap ones (and_zero_r (bit_or x (x / 2))) ∙ ones_none
pairs_masked (suc k) x =
    let y = bit_or x (x / 2) in
    let M = mask k * 4 + 1 in
    let s = dot_step y M in
    let d : dot (y / 2) (M / 2) ≡ dot (y / 2) (2 * mask k) = ap (dot (y / 2)) (let h : M / 2 ≡ 2 * mask k = omega arith in h) in
    let d' = dot_even (y / 2) (mask k) in
    let q : y / 4 ≡ bit_or (x / 4) (x / 2 / 4) = or_shr x (x / 2) 2 in
    let r : y / 2 / 2 ≡ y / 4 = omega arith in
    let t : x / 2 / 4 ≡ x / 4 / 2 = omega arith in
    let rest : dot (y / 2 / 2) (mask k) ≡ pairs k (x / 4) = ap (λ z. dot z (mask k)) (r ∙ q ∙ ap (bit_or (x / 4)) t) ∙ pairs_masked k (x / 4) in
    let o = or_step x (x / 2) in
    let b : y % 2 ≡ max (x % 2) (x / 2 % 2) = omega arith in
    let l = either_bit x in
    let z : min (y % 2) (M % 2) ≡ y % 2 = omega arith in
    omega arith
