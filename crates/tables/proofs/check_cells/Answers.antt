use Rattle.std.proofs.Common.{ltb, pos, nat_abs, refl, ap, ◌+◌, ◌∙◌}
use Rattle.signs.specs.declared.reason.Reason.TheVariants.{ForeignCells}
use Rattle.signs.specs.Faults.{sketch_fault}
use Rattle.signs.proofs.Entries.{first_refused, none_refused}
use Rattle.tables.proofs.check_cells.Goals as goal

pub returns-in-Some : goal.returns-in-Some
returns-in-Some c =
    first_refused (λ z. ltb c.args.gross (nat_abs z)) c.args.cells.now (pos 0) _ (λ k. sketch_fault ForeignCells (c.args.from + k)) _ c.first_foreign.ensures (λ k l. refl) _ _ c.in-Some.is
    (c.fault.ensures ∙ ap (λ n. sketch_fault ForeignCells (n + c.in-Some.place)) c.from.ensures)

pub returns-in-None : goal.returns-in-None
returns-in-None c =
    none_refused (λ z. ltb c.args.gross (nat_abs z)) c.args.cells.now (pos 0) _ (λ k. sketch_fault ForeignCells (c.args.from + k)) _ c.first_foreign.ensures (λ k l. refl) c.in-None.is
