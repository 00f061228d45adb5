use Rattle.model.specs.Calls.{gains}
use Rattle.sketch.proofs.Adding.{Added}
use Rattle.sketch.proofs.seeded.Seeded.add_gains.Given as goal

abbrev pub invariant-loop-k : goal.invariant-loop-k
invariant-loop-k g l = Added l.initial.cells (gains (g.F.SignFamily.meaning l.self.family.now) l.self.seeds.now l.booking) l.cells l.k
