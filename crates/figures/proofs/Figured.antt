-- The worked figures hold: one test over the table, computed; and so does the sample. Assumes nothing.
use Rattle.std.proofs.Common.{◌≡◌, true, refl}
use lib.Count.{ones, ones_in}
use Rattle.std.specs.List.{AllByRecursion}
use Rattle.signs.specs.Faults.{check_each}
use Rattle.signs.specs.Sums.{sum}
use Rattle.signs.specs.Cover.{level_at, cover_sum}
use Rattle.parity.specs.Parity.{pairs}
use Rattle.parity.specs.Figures.{Holds}
use Rattle.parity.proofs.Figured.{all_right, all_true}
use Rattle.model.specs.Calls.{add_each}
use Rattle.model.specs.Choices.{overlap_of}
use Rattle.model.specs.Middle.{half, smaller, greater, central, first_of, middle_by}
use Rattle.model.specs.Runs.{after}
use Rattle.model.specs.Standing.{standing}
use Rattle.figures.specs.Figures.{figures, by_signs, by_rules, SampleHolds}

computed : all_right by_signs by_rules figures ≡ true
unfolding sum pairs level_at cover_sum ones ones_in check_each after add_each half smaller greater central first_of middle_by standing overlap_of
computed = refl

pub figures_hold : AllByRecursion (Holds by_signs by_rules) figures
figures_hold = all_true by_signs by_rules figures computed

pub sample_holds : SampleHolds
unfolding sum pairs ones ones_in check_each after add_each half smaller greater central first_of middle_by
sample_holds = record { leaves = refl; itself = refl }
