use Rattle.std.proofs.Common.{◌≡◌, ◌+◌, ℕ, arith, sym}
use Rattle.std.proofs.lemmas.Int.{ints}
use Rattle.signs.specs.declared.family.Sign.{Sign}
use Rattle.signs.specs.Family.{value}
use Rattle.signs.specs.SumsLemmas.{sum_none, sum_plus_one, signs_abs, value_abs}
use Rattle.std.proofs.lemmas.Grind.{common_steps}
use Rattle.listed.specs.Listed.{listed}
use Rattle.listed.proofs.table.SignTable.run_sum.Goals as goal

pub loop-byte-init : goal.loop-byte-init
loop-byte-init c = sym (sum_none _)

-- the sign of each column of the run
abbrev signs : goal.After-from-total → ℕ → Sign
signs c k = let t = c.args.self.now in (listed t.width t.rows t.bytes.items).sign c.args.row (c.args.first + k)

pub overflow_add-total : goal.overflow_add-total
overflow_add-total c = omega (arith, ints, value_abs c.sign_of.result, signs_abs c.loop-byte.byte-index (signs c))

pub loop-byte-preserved : goal.loop-byte-preserved
loop-byte-preserved c =
    let k = c.loop-byte.byte-index in
    let next : value c.sign_of.result ≡ value (signs c k) = grind (arith, common_steps) in
    omega (arith, ints, value_abs c.sign_of.result, signs_abs k (signs c), sum_plus_one k (λ i. value (signs c i)))
