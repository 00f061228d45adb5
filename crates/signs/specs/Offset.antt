-- The offset layer: a family whose slots are those of another, each moved on by a number, round the end. Assumes nothing.
use Rattle.std.specs.Prelude.{ℕ, ◌+◌, ◌%◌, ◌^◌}
use Rattle.signs.specs.Family.{Meaning}

abbrev pub shifted : Meaning → ℕ → Meaning
shifted F o = record { width = F.width; seeds = F.seeds; sign = λ s i. F.sign s ((i + o) % 2 ^ F.width) }
