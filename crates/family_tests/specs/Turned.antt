-- A family with every sign turned. Assumes nothing.
use Rattle.signs.specs.declared.family.Sign.{Sign}
use Rattle.signs.specs.declared.family.Sign.TheVariants.{Plus, Minus}
use Rattle.signs.specs.Family.{Meaning}

abbrev pub turn : Sign → Sign
turn Plus = Minus
turn Minus = Plus

abbrev pub turned : Meaning → Meaning
turned F = record { width = F.width; seeds = F.seeds; sign = λ s i. turn (F.sign s i) }
