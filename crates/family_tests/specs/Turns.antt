-- Turned signs: what stays, and the sum. Assumes nothing.
use Rattle.std.specs.Prelude.{◌≡◌, ℕ, zero, suc, ◌*◌, neg_ℤ, refl}
use Rattle.std.proofs.Common.{ap, ◌∙◌, arith}
use Rattle.std.proofs.lemmas.Int.{ints}
use Rattle.signs.specs.declared.family.Sign.{Sign}
use Rattle.signs.specs.declared.family.Sign.TheVariants.{Plus, Minus}
use Rattle.signs.specs.Sums.{sum}
use Rattle.signs.specs.Family.{Meaning, Lawful, value, alike}
use Rattle.signs.specs.SumsLemmas.{count_ext}
use Rattle.family_tests.specs.Turned.{turn, turned}

alike_turn : (x y : Sign) → alike (turn x) (turn y) ≡ alike x y
alike_turn Plus Plus = refl
alike_turn Plus Minus = refl
alike_turn Minus Plus = refl
alike_turn Minus Minus = refl

pub turned-Lawful : (F : Meaning) → Lawful F → Lawful (turned F)
turned-Lawful F L = record {
  wide = L.wide;
  narrow = L.narrow;
  some = L.some;
  few = L.few;
  half = λ i k hi hk ne. ap (λ x. 2 * x) (count_ext F.seeds _ _ (λ s l. alike_turn (F.sign s i) (F.sign s k))) ∙ L.half i k hi hk ne;
}

value_turn : (s : Sign) → value (turn s) ≡ neg_ℤ (value s)
value_turn Plus = refl
value_turn Minus = refl

pub sum_turned : (n : ℕ) (f : ℕ → Sign) → sum n (λ k. value (turn (f k))) ≡ neg_ℤ (sum n (λ k. value (f k)))
unfolding sum
sum_turned zero f = refl
sum_turned (suc n) f = let rest = sum_turned n f in let last = value_turn (f n) in omega (arith, ints)
