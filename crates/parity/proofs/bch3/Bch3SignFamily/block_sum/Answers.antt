use Rattle.std.proofs.Common.{◌+◌, ◌^◌, refl, arith, pow_pos}
use Rattle.signs.proofs.Blocks.{asked, ruled}
use Rattle.parity.specs.Parity.{bch3, bch3_block_sum}
use Rattle.parity.proofs.Bch3Sums.{bch3_rule}
use Rattle.parity.proofs.bch3.Bch3SignFamily.block_sum.Goals as goal

pub closed_sum-requires : goal.closed_sum-requires
closed_sum-requires c =
    let n = c.args.self.now.width in
    let a = asked n (2 ^ (n + 1)) _ _ _ _ _ _ _ (omega arith) refl c.seed_count.ensures c.in_ok-check_seed.ensures c.in_ok-check_block.ensures in
    let b = a.block.level in
    let r = a.shift.run in
    let f = a.shift.few in
    record { level = omega arith; number = omega (arith, pow_pos c.args.block.level) }

pub returns : goal.returns
returns c =
    let n = c.args.self.now.width in
    let s = c.args.seed in
    let j = c.args.block.level in
    let q = c.args.block.number in
    let a = asked n (2 ^ (n + 1)) _ _ _ _ _ _ _ (omega arith) refl c.seed_count.ensures c.in_ok-check_seed.ensures c.in_ok-check_block.ensures in
    let r = ruled (bch3 n) s j q c.closed_sum.result (bch3_block_sum s j q) a.seed a.block (record { sfits = c.closed_sum.type_inv }) c.closed_sum.ensures (bch3_rule n s j q) in
    record { is = r.is; closed = r.closed }
