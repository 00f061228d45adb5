use Rattle.std.proofs.Common.{◌≡◌, None}
use Rattle.signs.specs.Faults.{check_each}
use Rattle.listed.specs.Listed.{pair_check, column_check}
use Rattle.listed.proofs.table.SignTable.first_unbalanced.Given as goal

-- the columns passed are balanced with all after them
abbrev pub invariant-loop-a : goal.invariant-loop-a
invariant-loop-a l = check_each l.a (column_check l.self.width l.self.rows l.self.bytes.items) ≡ None

-- column a is balanced with those passed
abbrev pub invariant-loop-b : goal.invariant-loop-b
invariant-loop-b l = check_each l.b (pair_check l.self.width l.self.rows l.self.bytes.items l.a) ≡ None
