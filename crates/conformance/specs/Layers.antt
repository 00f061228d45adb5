-- A family under its offset layers: what it means, and that it is a family. Assumes nothing.
use Rattle.conformance.specs.declared.family.Layers.{Layers}
use Rattle.conformance.specs.declared.family.Layers.TheVariants as layers
use Rattle.conformance.specs.declared.family.Layered.{Layered}
use Rattle.conformance.specs.declared.family.Layered.TheVariants.{Plain, Once, Twice}
use Rattle.signs.specs.Family.{Meaning, Lawful}
use Rattle.signs.specs.Offset.{shifted}
use Rattle.signs.specs.Shifts.{shifted-Lawful}

-- each layer moves the slots of what it stands over
abbrev pub layered : {F : Type 0} → (F → Meaning) → Layered F → Meaning
layered M (Plain f) = M f
layered M (Once f) = shifted (M f.below) f.offset
layered M (Twice f) = shifted (shifted (M f.below.below) f.below.offset) f.offset

-- what the layers that are asked for make of a family, the first one innermost
abbrev pub laid_over : Layers → Meaning → Meaning
laid_over layers.Plain F = F
laid_over (layers.Once first) F = shifted F first
laid_over (layers.Twice first second) F = shifted (shifted F first) second

pub layered-Lawful : {F : Type 0} (M : F → Meaning) → ((f : F) → Lawful (M f)) → (l : Layered F) → Lawful (layered M l)
layered-Lawful M L (Plain f) = L f
layered-Lawful M L (Once f) = shifted-Lawful (M f.below) f.offset (L f.below)
layered-Lawful M L (Twice f) =
    shifted-Lawful (shifted (M f.below.below) f.below.offset) f.offset (shifted-Lawful (M f.below.below) f.below.offset (L f.below.below))
