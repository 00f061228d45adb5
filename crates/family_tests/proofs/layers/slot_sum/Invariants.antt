use Rattle.std.proofs.Common.{◌≤◌, nat_abs}
use Rattle.family_tests.proofs.layers.slot_sum.Given as goal

-- each slot adds one at most
abbrev pub invariant-loop-slot : goal.invariant-loop-slot
invariant-loop-slot g l = nat_abs l.sum ≤ l.slot-iterator.start
