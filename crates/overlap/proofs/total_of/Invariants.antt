use Rattle.std.proofs.Common.{◌≡◌, length, get_or, pos, ◌*ℤ◌}
use Rattle.signs.specs.Sums.{sum}
use Rattle.overlap.proofs.total_of.Given as goal

-- the total so far is that of the pairs passed
abbrev pub invariant-loop-cell : goal.invariant-loop-cell
invariant-loop-cell l = l.total ≡ sum (length l.yielded) (λ j. get_or l.fn.cells j (pos 0) *ℤ get_or l.fn.others j (pos 0))
