use Rattle.std.proofs.Common.{◌≡◌, ◌+◌, ◌*◌, ◌^◌, pos, ◌-ℤ◌, sym, ap, ◌∙◌, arith, w64, to_z, of_z}
use Rattle.std.proofs.lemmas.Int.{ints}
use Rattle.signs.specs.Faults.{answer}
use Rattle.signs.specs.Family.{block_sum}
use Rattle.signs.proofs.Blocks.{ok, answered}
use Rattle.family_tests.specs.Turned.{turned}
use Rattle.family_tests.specs.Turns.{sum_turned}
use Rattle.family_tests.proofs.turned.TurnedSignFamily.block_sum.Goals as goal

pub overflow_sub-result : goal.overflow_sub-result
overflow_sub-result g c =
    let below = c.args.self.now.below in
    let a = answered (g.F.SignFamily.meaning below) (g.met.F.SignFamily.lawful below) _ _ _ _ c.in_ok-sum.ensures in
    omega (arith, ints, a.small)

pub returns : goal.returns
returns g c =
    let below = c.args.self.now.below in
    let F = g.F.SignFamily.meaning below in
    let s = c.args.seed in
    let j = c.args.block.level in
    let q = c.args.block.number in
    let a = answered F (g.met.F.SignFamily.lawful below) s j q _ c.in_ok-sum.ensures in
    let turn = sum_turned (2 ^ j) (λ k. F.sign s (q * 2 ^ j + k)) in
    let minus : to_z w64 (of_z w64 (pos 0 -ℤ to_z w64 (of_z w64 c.in_ok-sum.sum))) ≡ block_sum (turned F) s j q = omega (arith, ints, a.small, a.is, turn) in
    ap ok minus ∙ sym (ap (λ r. answer r (block_sum (turned F) s j q)) a.passed)
