use Rattle.model.specs.Overlap.{group_totals}
use Rattle.tables.proofs.Swept.{Swept}
use Rattle.overlap.proofs.overlap.Given as goal

abbrev pub invariant-loop-group : goal.invariant-loop-group
invariant-loop-group l = Swept l.initial.totals (group_totals l.first.shape.groups l.first.shape.columns l.first_cells l.second_cells) l.totals l.group
