use Rattle.std.proofs.Common.{◌≡◌, ◌-◌, ◌*◌, ◌≤◌}
use Rattle.signs.specs.Family.{sign_sum}
use Rattle.signs.proofs.Cover.{Enough}
use Rattle.signs.proofs.intervals.sum_of_blocks.Given as goal

-- the sum so far is that of the slots passed, and the turns left are enough for the rest
abbrev pub invariant-loop-block : goal.invariant-loop-block
invariant-loop-block g l =
    let F = g.F.SignFamily.meaning l.family in
    (l.slots.start ≤ l.at) × (l.at ≤ l.slots.end) × (l.sum ≡ sign_sum F l.seed l.slots.start (l.at - l.slots.start)) × Enough F.width (2 * F.width - l._block) l.at l.slots.end
