use Rattle.std.proofs.Common.{◌+◌, ◌^◌, ◌≤◌, refl, ◌∙◌, arith, pow_mono}
use Rattle.signs.proofs.Blocks.{asked, ruled}
use Rattle.parity.specs.Parity.{eh3, eh3_block_sum}
use Rattle.parity.proofs.Eh3Sums.{rule_32, eh3_rule}
use Rattle.parity.proofs.eh3.Eh3SignFamily.block_sum.Goals as goal

pub closed_sum-requires : goal.closed_sum-requires
closed_sum-requires c =
    let n = c.args.self.now.width in
    let a = asked n (2 ^ (n + 1)) _ _ _ _ _ _ _ (omega arith) refl c.seed_count.ensures c.in_ok-check_seed.ensures c.in_ok-check_block.ensures in
    let s = a.seed in
    let b = a.block.level in
    let r = a.shift.run in
    let f = a.shift.few in
    let few : 2 ^ (n + 1) ≤ 2 ^ 25 = pow_mono {i = n + 1} {j = 25} (omega arith) in
    record { seed = omega arith; level = omega arith; block = omega arith }

pub returns : goal.returns
returns c =
    let n = c.args.self.now.width in
    let even = c.args.self.now.even in
    let s = c.args.seed in
    let j = c.args.block.level in
    let q = c.args.block.number in
    let a = asked n (2 ^ (n + 1)) _ _ _ _ _ _ _ (omega arith) refl c.seed_count.ensures c.in_ok-check_seed.ensures c.in_ok-check_block.ensures in
    let rule = c.closed_sum.ensures ∙ rule_32 n s j q even (omega arith) a.shift.run in
    let r = ruled (eh3 n) s j q c.closed_sum.result (eh3_block_sum n s j q) a.seed a.block (record { sfits = c.closed_sum.type_inv }) rule (eh3_rule n s j q even a.block.level) in
    record { is = r.is; closed = r.closed }
