use Rattle.std.proofs.Common.{get_or, pos, refl, arith}
use Rattle.sketch.proofs.Adding.{Addable, add_more, add_all}
use Rattle.sketch.proofs.merging.add.Goals as goal
use Rattle.sketch.proofs.merging.add.Goals.{Start}

ready : (c : Start) → Addable c.args.cells.now c.args.others.now
ready c = record { same = c.requires.same; own = c.requires.own; few = λ k h. omega (arith, c.requires.other k h) }

pub loop-k-preserved : goal.loop-k-preserved
loop-k-preserved c = add_more (ready (goal.at.loop-k-preserved c).Start) c.loop-k.cells c.loop-k.k (get_or c.args.others.now c.loop-k.k (pos 0)) (omega arith) refl c.loop-k.invariant

pub returns : goal.returns
returns c = add_all (ready (goal.at.returns c).Start) c.loop-k.cells c.loop-k.k (omega arith) c.loop-k.invariant
