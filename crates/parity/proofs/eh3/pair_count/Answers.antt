use Rattle.std.proofs.Common.{arith}
use Rattle.parity.proofs.Eh3Sums.{pairs_le}
use Rattle.parity.proofs.Masks.{mask, pairs_masked}
use Rattle.parity.proofs.eh3.pair_count.Goals as goal

pub returns : goal.returns
unfolding mask
returns c = let e = pairs_masked 16 c.args.x in record { is = e; few = let l = pairs_le 16 c.args.x in omega arith }
