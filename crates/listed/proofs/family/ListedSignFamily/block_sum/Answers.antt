use Rattle.std.proofs.Common.{refl, arith}
use Rattle.signs.proofs.Blocks.{asked}
use Rattle.listed.proofs.family.ListedSignFamily.block_sum.Goals as goal

pub run_sum-requires-clause-columns : goal.run_sum-requires-clause-columns
run_sum-requires-clause-columns c =
    let t = c.args.self.now.table in
    let a = asked t.width t.rows _ _ _ _ _ _ _ (omega arith) refl c.seed_count.ensures c.in_ok-check_seed.ensures c.in_ok-check_block.ensures in
    omega arith
