-- What overlap refuses, answers and leaves in the table of totals. It is given figures t and u and the cells of two sketches, and the
-- table. Assumes nothing.
use Rattle.std.specs.Prelude.{ℕ, ◌+◌, ◌*◌, List, map, ℤ, pos, ◌*ℤ◌, Result, slice_index_or}
use Rattle.std.specs.List.{range_with_len}
use Rattle.signs.specs.declared.faults.Fault.{Fault}
use Rattle.signs.specs.Faults.{Refusal, ◌⨾◌, answer, unless}
use Rattle.signs.specs.Sums.{sum}
use Rattle.model.specs.declared.Estimate.{Estimate}
use Rattle.model.specs.Calls.{Tally, entries, own_table, other_table, totals_table, other_cells, same_shape_check, length_check, cells_check}
use Rattle.model.specs.Middle.{middle_of}

abbrev pub overlap_refusal : Tally → List ℤ → Tally → List ℤ → List ℤ → Refusal
overlap_refusal t cells u others totals =
    same_shape_check t.groups t.columns u.groups u.columns
    ⨾ length_check own_table (entries t) cells
    ⨾ length_check other_table (entries t) others
    ⨾ length_check totals_table t.groups totals
    ⨾ cells_check 0 t.gross cells
    ⨾ cells_check other_cells u.gross others

-- a group's total: over its columns, the products of the two cells
abbrev pub group_total : ℕ → List ℤ → List ℤ → ℕ → ℤ
group_total columns cells others group = sum columns (λ j. slice_index_or cells (group * columns + j) (pos 0) *ℤ slice_index_or others (group * columns + j) (pos 0))

abbrev pub group_totals : ℕ → ℕ → List ℤ → List ℤ → List ℤ
group_totals groups columns cells others = map (group_total columns cells others) (range_with_len 0 groups)

-- the middle total, undivided, and the columns
abbrev pub estimate : ℕ → ℕ → List ℤ → List ℤ → Estimate
estimate groups columns cells others = record { columns = columns; middle = middle_of (group_totals groups columns cells others) }

abbrev pub overlap_answer : Tally → List ℤ → Tally → List ℤ → List ℤ → Result Estimate Fault
overlap_answer t cells u others totals = answer (overlap_refusal t cells u others totals) (estimate t.groups t.columns cells others)

abbrev pub overlap_totals : Tally → List ℤ → Tally → List ℤ → List ℤ → List ℤ
overlap_totals t cells u others totals = unless (overlap_refusal t cells u others totals) totals (group_totals t.groups t.columns cells others)
