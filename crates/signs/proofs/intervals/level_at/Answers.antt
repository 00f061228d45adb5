use Rattle.std.proofs.Common.{ℕ, suc, ◌-◌, ◌^◌, ◌<◌, ◌≤◌, ◌⊎◌, inl, inr, arith, pow_mono}
use lib.Count.{leading_top, count_trailing_zeros}
use Rattle.std.proofs.lemmas.Bool.{cases_lt}
use Rattle.signs.proofs.Powers.{trailing_divides, divides_trailing}
use Rattle.signs.proofs.intervals.level_at.Goals as goal

-- the highest bit of what is left bounds the level of a block that fits
below_top : (rest i top : ℕ) → rest < 2 ^ suc top → 2 ^ i ≤ rest → i ≤ top
below_top rest i top few fits = pick (cases_lt top i)
  where
    pick : (top < i) ⊎ (i ≤ top) → i ≤ top
    pick (inl l) = let p : 2 ^ suc top ≤ 2 ^ i = pow_mono l in omega arith
    pick (inr l) = l

pub returns : goal.returns
returns c =
    let r = c.min.result in
    let at = c.args.at in
    let rest = c.args.end - at in
    let top = leading_top 32 rest (omega arith) (omega arith) in
    let h : r ≤ top.0 = omega (arith, top.1) in
    let p : 2 ^ r ≤ 2 ^ top.0 = pow_mono h in
    record {
      starts = trailing_divides 32 at r (omega arith);
      fits = omega (arith, top.2);
      largest = λ i e l.
          let low : i ≤ top.0 = below_top rest i top.0 top.3 (omega arith) in
          let few : i ≤ 32 = omega (arith, top.1) in
          let high : i ≤ count_trailing_zeros 32 at = divides_trailing 32 at i few e in
          omega (arith, top.1);
      small = omega arith;
    }
