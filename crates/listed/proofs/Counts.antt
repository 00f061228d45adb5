-- The numbers below n that pass a test, counted one after another: there are at most n, and it is the sum of 0 and 1 over their list.
use Rattle.std.proofs.Common.{◌≡◌, ℕ, zero, suc, ◌+◌, ◌≤◌, Bool, cond, map, sym, refl, ap, ◌∙◌, arith, map-id, add-one}
use Rattle.std.proofs.lemmas.Bool.Decides.{nat_tests}
use Rattle.std.proofs.lemmas.List.FromFn.{sum_by-map-range_with_len_more}
use Rattle.std.specs.List.{range_with_len, sum_by}
use Rattle.signs.specs.Sums.{count}

pub count_le : (n : ℕ) (p : ℕ → Bool) → count n p ≤ n
unfolding count
count_le zero p = omega arith
count_le (suc n) p = grind (arith, nat_tests, count_le n p)

over_list : (n : ℕ) (p : ℕ → Bool) → sum_by (λ x. cond (p x) 1 0) (map (λ x. x) (range_with_len 0 n)) ≡ count n p
unfolding count
over_list zero p = refl
over_list (suc n) p =
    ap (λ k. sum_by (λ x. cond (p x) 1 0) (map (λ x. x) (range_with_len 0 k))) (sym (add-one n))
    ∙ sum_by-map-range_with_len_more (λ x. cond (p x) 1 0) (λ x. x) 0 n n (omega arith) ∙ ap (λ k. k + cond (p n) 1 0) (over_list n p)

pub sum_is_count : (n : ℕ) (p : ℕ → Bool) → sum_by (λ x. cond (p x) 1 0) (range_with_len 0 n) ≡ count n p
sum_is_count n p = ap (sum_by (λ x. cond (p x) 1 0)) (sym (map-id (range_with_len 0 n))) ∙ over_list n p
