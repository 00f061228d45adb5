use Rattle.std.proofs.Common.{rules}
use Rattle.figures.proofs.Figured.{figures_hold, sample_holds}
use Rattle.figures.proofs.worked_figures.Goals as goal

pub returns : goal.returns
returns c = record { count = search rules; hold = (c.worked_figures.ensures.hold, figures_hold); sample = sample_holds }
