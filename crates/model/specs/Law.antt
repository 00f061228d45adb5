-- The law of the sketch, over whole runs of its calls. Assumes nothing.
--
-- It speaks of a family F, of a table of seeds, and of runs: lists of calls (post, hold, confirm, withdraw, merge) on a sketch newly opened,
-- in any number and any order that its states permit, some of them refused. Runs.antt says what runs are and what the calls make of them;
-- Standing.antt says what the calls, their arguments and their acceptance alone tell. `SketchLaw`, at the end, is the law: `Faithful` of one
-- run, and `Unbiased` of two runs and a group.
use Rattle.std.specs.Prelude.{◌≡◌, ℕ, suc, ◌*◌, ◌^◌, ◌<◌, ◌⊎◌, List, ◌++◌, map, length, take, drop, ℤ, pos, ◌*ℤ◌, Some, Ok, slice_index_or}
use Rattle.std.specs.List.{AllByRecursion}
use Rattle.signs.specs.declared.faults.Fault.{Fault}
use Rattle.signs.specs.declared.reason.Reason.TheVariants.{Table, ForeignCells}
use Rattle.signs.specs.Faults.{Refusal}
use Rattle.signs.specs.Family.{Meaning}
use Rattle.model.specs.Calls.{Tally, State, own_table, other_table, totals_table, length_check}
use Rattle.model.specs.Choices.{total_of, cell_of, overlap_of, over_choices}
use Rattle.model.specs.Middle.{Middle}
use Rattle.model.specs.Overlap.{group_totals, estimate, overlap_refusal, overlap_answer, overlap_totals}
use Rattle.model.specs.Runs.{Run, after, fate, fates, accepted, Permitted}
use Rattle.model.specs.Standing.{groups_of, columns_of, standing, gross_of, due_fate}

-- a fault for cells: foreign cells (11), or the length (10) of the own or the other cells
abbrev pub ForCells : Fault → Type 0
ForCells f = (f.reason ≡ ForeignCells) ⊎ ((f.reason ≡ Table) × ((f.place ≡ own_table) ⊎ (f.place ≡ other_table)))

abbrev pub NeverForCells : Refusal → Type 0
NeverForCells x = (f : Fault) → x ≡ Some f → ForCells f → ⊥

-- ONE RUN.

-- the figures that the calls, their arguments and their acceptance tell: the net is the sum of the standing weights
abbrev pub figures_of : Meaning → List ℕ → Run → Tally
figures_of F seeds r = record {
  groups = groups_of r;
  columns = columns_of r;
  gross = gross_of (accepted F seeds) r;
  net = total_of F (standing (accepted F seeds) r);
}

--   refused: the latest call is accepted, or refused with that fault, just as the rules say by arguments, shapes and gross.
--   never_for_cells: it is not refused for cells.
--   cells: each cell is the sum over all slots of the standing weight times the sign that the cell's seed gives the slot.
--   figures: gross and net are what was booked.
-- Each earlier call is the latest of an earlier run, which is permitted too, so this speaks of every call.
pub record Faithful (F : Meaning) (seeds : List ℕ) (r : Run) : Type 0 where
  pub refused : fate F seeds r ≡ due_fate (accepted F seeds) F r
  pub never_for_cells : NeverForCells (fate F seeds r)
  pub cells : (after F seeds r).cells ≡ map (cell_of F (standing (accepted F seeds) r)) seeds
  pub figures : (after F seeds r).tally ≡ figures_of F seeds r

-- TWO RUNS, and a group whose seeds are chosen anew in every way.

-- a choice: a seed of the family for each column
abbrev pub Choice : Meaning → ℕ → List ℕ → Type 0
Choice F columns choice = (length choice ≡ columns) × AllByRecursion (λ seed. seed < F.seeds) choice

-- the table of seeds with one group's as chosen, and the other groups' as they were
abbrev pub with_group : List ℕ → ℕ → ℕ → List ℕ → List ℕ
with_group seeds columns group choice = take (group * columns) seeds ++ (choice ++ drop (suc group * columns) seeds)

-- a run under other seeds: it is permitted there too, and each of its calls, and of the sketches merged in, fares as it did
pub record Likewise (F : Meaning) (seeds chosen : List ℕ) (r : Run) : Type 0 where
  pub permitted : Permitted F chosen r
  pub same : fates F chosen r ≡ fates F seeds r

-- overlap of the sketches s and t, of one shape, with any table for the totals
--   refused: it is refused for that table's length alone (10, place 3), and accepted where the length is right.
--   never_for_cells: it is not refused for cells.
--   answered, totals: with a table of the right length it answers the columns and the middle total, and leaves the totals in the table.
--   middle: that middle is the middle of the totals, and there is no other.
pub record Compared (groups columns : ℕ) (s t : State) : Type 0 where
  pub refused : (table : List ℤ) → overlap_refusal s.tally s.cells t.tally t.cells table ≡ length_check totals_table groups table
  pub never_for_cells : (table : List ℤ) → NeverForCells (overlap_refusal s.tally s.cells t.tally t.cells table)
  pub answered : (table : List ℤ) → length table ≡ groups → overlap_answer s.tally s.cells t.tally t.cells table ≡ Ok (estimate groups columns s.cells t.cells)
  pub totals : (table : List ℤ) → length table ≡ groups → overlap_totals s.tally s.cells t.tally t.cells table ≡ group_totals groups columns s.cells t.cells
  pub middle : Middle (group_totals groups columns s.cells t.cells) (estimate groups columns s.cells t.cells).middle

-- under one choice: both runs fare as before, and overlap of the two sketches is as defined
pub record UnderChoice (F : Meaning) (seeds chosen : List ℕ) (r s : Run) : Type 0 where
  pub first : Likewise F seeds chosen r
  pub second : Likewise F seeds chosen s
  pub compared : Compared (groups_of r) (columns_of r) (after F chosen r) (after F chosen s)

-- the group's entry of the table that overlap of the two runs' sketches leaves
abbrev pub group_entry : Meaning → List ℕ → Run → Run → List ℤ → ℕ → ℤ
group_entry F seeds r s table group =
    slice_index_or (overlap_totals (after F seeds r).tally (after F seeds r).cells (after F seeds s).tally (after F seeds s).cells table) group (pos 0)

-- the exact overlap: the sum over all slots of the product of the two standing weights
abbrev pub exact_overlap : Meaning → List ℕ → Run → Run → ℤ
exact_overlap F seeds r s = overlap_of F (standing (accepted F seeds) r) (standing (accepted F seeds) s)

-- two runs of one shape and one of its groups
--   each: whatever seeds the group is given, both runs fare alike and overlap is as defined.
--   number: there are as many choices as seeds to the power of the columns.
--   balance: the group's entry in the table that overlap leaves, added over all choices, is their number times the columns times the exact
--   overlap.
pub record Unbiased (F : Meaning) (seeds : List ℕ) (r s : Run) (group : ℕ) : Type 0 where
  pub each : (choice : List ℕ) → Choice F (columns_of r) choice → UnderChoice F seeds (with_group seeds (columns_of r) group choice) r s
  pub number : over_choices F.seeds (columns_of r) (λ choice. pos 1) ≡ pos (F.seeds ^ columns_of r)
  pub balance : (table : List ℤ) → length table ≡ groups_of r
      → over_choices F.seeds (columns_of r) (λ choice. group_entry F (with_group seeds (columns_of r) group choice) r s table group)
      ≡ pos (F.seeds ^ columns_of r * columns_of r) *ℤ exact_overlap F seeds r s

-- THE LAW of a family: over every table of seeds, each permitted run is faithful, and any two of one shape are unbiased in every group.
pub record SketchLaw (F : Meaning) : Type 0 where
  pub faithful : (seeds : List ℕ) (r : Run) → Permitted F seeds r → Faithful F seeds r
  pub unbiased : (seeds : List ℕ) (r s : Run) → Permitted F seeds r → Permitted F seeds s → groups_of r ≡ groups_of s → columns_of r ≡ columns_of s
      → (group : ℕ) → group < groups_of r → Unbiased F seeds r s group
