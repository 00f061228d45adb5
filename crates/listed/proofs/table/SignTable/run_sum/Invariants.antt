use Rattle.std.proofs.Common.{◌≡◌}
use Rattle.signs.specs.Family.{sign_sum}
use Rattle.listed.specs.Listed.{listed}
use Rattle.listed.proofs.table.SignTable.run_sum.Given as goal

-- the total so far is that of the columns passed
abbrev pub invariant-loop-byte : goal.invariant-loop-byte
invariant-loop-byte l = l.total ≡ sign_sum (listed l.self.width l.self.rows l.self.bytes.items) l.row l.first l.byte-index
