-- The numbers of the tables that a caller lends. Assumes nothing.
use Rattle.std.specs.Prelude.{ℕ}
use Rattle.model.specs.Calls.{seed_table, own_table, other_table, totals_table}
use Rattle.tables.specs.declared.Table.{Table}
use Rattle.tables.specs.declared.Table.TheVariants.{Seeds, OwnCells, OtherCells, Totals}

abbrev pub table_number : Table → ℕ
table_number Seeds = seed_table
table_number OwnCells = own_table
table_number OtherCells = other_table
table_number Totals = totals_table
