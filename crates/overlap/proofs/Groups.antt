-- A group's cells, cut out of a sketch's. Assumes nothing.
use Rattle.std.proofs.Common.{◌≡◌, ℕ, suc, ◌+◌, ◌*◌, ◌<◌, ◌≤◌, List, length, get_or, take, drop, ℤ, pos, nat_abs, sym, ap, ◌∙◌, subst, ◌^◌, suc-mul, arith}
use Rattle.std.proofs.lemmas.List.{length-take-le, length-drop, get_or-take, get_or-drop}
use Rattle.model.specs.Calls.{AreWithinLimit}

pub record GroupOf (n group : ℕ) (cells part : List ℤ) : Type 0 where
  pub long : length part ≡ n
  pub at : (k : ℕ) → k < n → get_or part k (pos 0) ≡ get_or cells (group * n + k) (pos 0)
  pub limited : AreWithinLimit cells → AreWithinLimit part

pub group_is : (n group : ℕ) (cells part : List ℤ) → suc group * n ≤ length cells → part ≡ take n (drop (group * n) cells) → GroupOf n group cells part
group_is n group cells part h e = record { long = long; at = at; limited = λ w k l. let j : k < n = omega (arith, long) in subst (λ z. nat_abs z ≤ 2 ^ 26) (sym (at k j)) (w (group * n + k) (omega (arith, suc-mul group n))) }
  where
    long : length part ≡ n
    long = ap length e ∙ length-take-le n (drop (group * n) cells) (omega (arith, length-drop (group * n) cells, suc-mul group n))

    at : (k : ℕ) → k < n → get_or part k (pos 0) ≡ get_or cells (group * n + k) (pos 0)
    at k l = ap (λ r. get_or r k (pos 0)) e ∙ get_or-take n (drop (group * n) cells) k (pos 0) l ∙ get_or-drop (group * n) cells k (pos 0)
