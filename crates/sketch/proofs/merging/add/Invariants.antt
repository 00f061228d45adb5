use Rattle.sketch.proofs.Adding.{Added}
use Rattle.sketch.proofs.merging.add.Given as goal

abbrev pub invariant-loop-k : goal.invariant-loop-k
invariant-loop-k l = Added l.initial.cells l.others l.cells l.k
