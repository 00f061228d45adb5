-- The family of a table. Assumes nothing.
use Rattle.signs.specs.Family.{Meaning}
use Rattle.listed.specs.declared.table.SignTable.{SignTable}
use Rattle.listed.specs.Listed.{listed}

abbrev pub family_of : SignTable → Meaning
family_of t = listed t.width t.rows t.bytes.items
