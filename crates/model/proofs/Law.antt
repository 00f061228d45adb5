-- The law of the sketch. Assumes nothing.
use Rattle.signs.specs.Family.{Meaning, Lawful}
use Rattle.model.specs.Law.{SketchLaw}
use Rattle.model.proofs.Faithful.{faithful}
use Rattle.model.proofs.Unbiased.{unbiased}

pub sketch_law : {F : Meaning} → Lawful F → SketchLaw F
sketch_law {F} lawful = record {
  faithful = faithful F;
  unbiased = λ seeds r s ok ok' groups columns group below. unbiased F lawful seeds r s ok ok' groups columns group below;
}
