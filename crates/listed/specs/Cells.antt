-- A table whose columns are balanced keeps the laws of a family. Assumes nothing.
use Rattle.std.specs.Prelude.{◌≡◌, ℕ, ◌*◌, ◌^◌, ◌<◌, ◌≤◌, ◌≢◌, ◌⊎◌, List, None}
use Rattle.std.proofs.Common.{ap, ◌∙◌, inl, inr, arith, lit≤}
use Rattle.std.proofs.lemmas.Bool.{cases_order}
use Rattle.std.proofs.lemmas.Bool.Decides.{nat_tests}
use Rattle.signs.specs.declared.family.Sign.{Sign}
use Rattle.signs.specs.Family.{Meaning, Lawful, alike, agreeing}
use Rattle.signs.proofs.Entries.{each_at}
use Rattle.signs.specs.SumsLemmas.{count_ext}
use Rattle.listed.specs.Listed.{listed, pair_check, column_check, columns_check}

-- two columns that are not refused have equal signs in half of the rows
pub pair_half : (n m : ℕ) (t : List ℕ) (a b : ℕ) → a < b → pair_check n m t a b ≡ None → 2 * agreeing (listed n m t) a b ≡ m
pair_half n m t a b l e = grind (arith, nat_tests)

alike_turned : (x y : Sign) → alike x y ≡ alike y x
alike_turned x y = grind arith

agreeing_turned : (F : Meaning) (i k : ℕ) → agreeing F i k ≡ agreeing F k i
agreeing_turned F i k = count_ext F.seeds _ _ (λ s l. alike_turned (F.sign s i) (F.sign s k))

pub listed-Lawful : (n m : ℕ) (t : List ℕ) → 1 ≤ n → n ≤ 6 → 2 ≤ m → m ≤ 128 → columns_check n m t ≡ None → Lawful (listed n m t)
listed-Lawful n m t l h some few balanced =
    record {
      wide = l;
      narrow = omega arith;
      some = some;
      few = let q : 128 ≤ 2 ^ 60 = lit≤ tt in omega arith;
      half = λ i k hi hk ne. pick i k hi hk ne (cases_order i k);
    }
  where
    below : (i k : ℕ) → i < k → i < 2 ^ n → k < 2 ^ n → 2 * agreeing (listed n m t) i k ≡ m
    below i k lt hi hk =
        pair_half n m t i k lt (each_at (2 ^ n) (pair_check n m t i) (each_at (2 ^ n) (column_check n m t) balanced i hi) k hk)

    pick : (i k : ℕ) → i < 2 ^ n → k < 2 ^ n → i ≢ k → (i ≡ k) ⊎ ((i < k) ⊎ (k < i)) → 2 * agreeing (listed n m t) i k ≡ m
    pick i k hi hk ne (inl e) = absurd (ne e)
    pick i k hi hk ne (inr (inl lt)) = below i k lt hi hk
    pick i k hi hk ne (inr (inr lt)) = ap (λ x. 2 * x) (agreeing_turned (listed n m t) i k) ∙ below k i lt hk hi
