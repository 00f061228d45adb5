use Rattle.std.proofs.Common.{rules}
use Rattle.parity.proofs.Figured.{figures_hold}
use Rattle.parity.proofs.figures.worked_figures.Goals as goal

pub returns : goal.returns
returns c = record { count = search rules; hold = figures_hold }
