-- What each call of a sketch refuses, and what it makes of the sketch and its cells. Assumes nothing.
use Rattle.std.specs.Prelude.{ℕ, ◌+◌, ◌-◌, ◌*◌, ◌%◌, ◌^◌, ◌<◌, ◌≤◌, not, ◌||◌, List, [], ◌∷◌, map, length, replicate, ℤ, pos, ◌+ℤ◌, ◌*ℤ◌, neg_ℤ, Some, None, Option, ◌==◌, nat_le, nat_lt, slice_index, slice_index_or, unsigned_abs}
use Rattle.signs.specs.declared.reason.Reason.TheVariants.{Seed, Shape, Table, ForeignCells, Weight, Full}
use Rattle.signs.specs.Faults.{Refusal, refuse_if, ◌⨾◌, check_each, family_fault, sketch_fault}
use Rattle.signs.specs.Family.{Meaning, interval_sum, interval_check}
use Rattle.model.specs.declared.Booking.{Booking}

-- the figures of a sketch
pub record Tally : Type 0 where
  pub groups : ℕ
  pub columns : ℕ
  pub gross : ℕ
  pub net : ℤ

-- a sketch and its cells, with the option where one stands
pub record State : Type 0 where
  pub tally : Tally
  pub cells : List ℤ
  pub option : Option Booking

-- Bookings.

abbrev pub slots : Booking → ℕ
slots b = b.to - b.from

abbrev pub mass : Booking → ℕ
mass b = unsigned_abs b.weight * slots b

abbrev pub signed_mass : Booking → ℤ
signed_mass b = b.weight *ℤ pos (slots b)

-- a weight of at most 1000 in size
abbrev pub IsLight : Booking → Type 0
IsLight b = unsigned_abs b.weight ≤ 1000

-- what the cell of each seed gains: the weight times the interval sum
abbrev pub gains : Meaning → List ℕ → Booking → List ℤ
gains F seeds b = map (λ seed. b.weight *ℤ interval_sum F seed b.from b.to) seeds

-- the booking that takes another off again
abbrev pub opposite : Booking → Booking
opposite b = record { from = b.from; to = b.to; weight = neg_ℤ b.weight }

-- each entry of the first list, and the one beside it added
unfoldable pub add_each : List ℤ → List ℤ → List ℤ
add_each [] ys = []
add_each (x ∷ xs) [] = x ∷ xs
add_each (x ∷ xs) (y ∷ ys) = (x +ℤ y) ∷ add_each xs ys

-- the figures whose gross and net gain so much
abbrev pub gained_tally : Tally → ℕ → ℤ → Tally
gained_tally t gross net = record { groups = t.groups; columns = t.columns; gross = t.gross + gross; net = t.net +ℤ net }

-- the sketch whose cells, gross and net gain so much; `option` stands then
abbrev pub gained : State → List ℤ → ℕ → ℤ → Option Booking → State
gained s more gross net option = record { tally = gained_tally s.tally gross net; cells = add_each s.cells more; option = option }

-- The checks. A table's number is its place in refusal 10.

abbrev pub seed_table : ℕ
seed_table = 0

abbrev pub own_table : ℕ
own_table = 1

abbrev pub other_table : ℕ
other_table = 2

abbrev pub totals_table : ℕ
totals_table = 3

-- where the other cells' places begin in refusal 11
abbrev pub other_cells : ℕ
other_cells = 480

abbrev pub gross_limit : ℕ
gross_limit = 2 ^ 26

-- no cell is larger in size than the gross of a sketch may be
abbrev pub AreWithinLimit : List ℤ → Type 0
AreWithinLimit cells = (k : ℕ) → k < length cells → unsigned_abs (slice_index_or cells k (pos 0)) ≤ gross_limit

-- groups that are even or above 15, or columns outside of 1 to 32
abbrev pub shape_check : ℕ → ℕ → Refusal
shape_check groups columns = refuse_if (not (groups % 2 == 1) || (nat_lt 15 groups || (nat_lt columns 1 || nat_lt 32 columns))) (sketch_fault Shape 0)

-- two shapes that differ
abbrev pub same_shape_check : ℕ → ℕ → ℕ → ℕ → Refusal
same_shape_check groups columns groups' columns' = refuse_if (not (groups == groups') || not (columns == columns')) (sketch_fault Shape 0)

-- how many seeds and cells a sketch has
abbrev pub entries : Tally → ℕ
entries t = t.groups * t.columns

-- a table that has not as many entries as are due
abbrev pub length_check : {A : Type 0} → ℕ → ℕ → List A → Refusal
length_check number due table = refuse_if (not (length table == due)) (sketch_fault Table number)

-- a seed that is not below the number of seeds
abbrev pub seed_check_at : Meaning → List ℕ → ℕ → Refusal
seed_check_at F seeds k = refuse_if (nat_le F.seeds (slice_index seeds k)) (family_fault Seed k)

abbrev pub seeds_check : Meaning → List ℕ → Refusal
seeds_check F seeds = check_each (length seeds) (seed_check_at F seeds)

-- a cell that is larger in size than the gross; places begin at `from`
abbrev pub cell_check_at : ℕ → ℕ → List ℤ → ℕ → Refusal
cell_check_at from gross cells k = refuse_if (nat_lt gross (unsigned_abs (slice_index_or cells k (pos 0)))) (sketch_fault ForeignCells (from + k))

abbrev pub cells_check : ℕ → ℕ → List ℤ → Refusal
cells_check from gross cells = check_each (length cells) (cell_check_at from gross cells)

-- a weight that is 0 or beyond 1000 in size
abbrev pub weight_check : ℤ → Refusal
weight_check w = refuse_if (unsigned_abs w == 0 || nat_lt 1000 (unsigned_abs w)) (sketch_fault Weight 0)

-- a gross above the limit
abbrev pub limit_check : ℕ → Refusal
limit_check gross = refuse_if (nat_lt gross_limit gross) (sketch_fault Full 0)

-- the tables of a call that books
abbrev pub tables_check : Meaning → List ℕ → Tally → List ℤ → Refusal
tables_check F seeds t cells =
    length_check seed_table (entries t) seeds
    ⨾ length_check own_table (entries t) cells
    ⨾ seeds_check F seeds
    ⨾ cells_check 0 t.gross cells

-- a booking beside a gross that has to have room for so many times its mass
abbrev pub booking_check : Meaning → ℕ → ℕ → Booking → Refusal
booking_check F times gross b = weight_check b.weight ⨾ interval_check F.width b.from b.to ⨾ limit_check (gross + times * mass b)

-- Open: a sketch with nothing booked, and every cell 0. `found` is what the cells hold before.

abbrev pub open_refusal : Meaning → ℕ → ℕ → List ℕ → List ℤ → Refusal
open_refusal F groups columns seeds found =
    shape_check groups columns
    ⨾ length_check seed_table (groups * columns) seeds
    ⨾ length_check own_table (groups * columns) found
    ⨾ seeds_check F seeds

abbrev pub begun : ℕ → ℕ → List ℤ → State
begun groups columns found = record {
  tally = record { groups = groups; columns = columns; gross = 0; net = pos 0 };
  cells = replicate (length found) (pos 0);
  option = None;
}

-- Post: every cell gains its interval sum times the weight, the gross the mass, and the net the mass with the weight's sign.

abbrev pub post_refusal : Meaning → List ℕ → State → Booking → Refusal
post_refusal F seeds s b = tables_check F seeds s.tally s.cells ⨾ booking_check F 1 s.tally.gross b

abbrev pub posted : Meaning → List ℕ → State → Booking → State
posted F seeds s b = gained s (gains F seeds b) (mass b) (signed_mass b) s.option

-- Hold: the same, as an option, with room for the mass twice.

abbrev pub hold_refusal : Meaning → List ℕ → State → Booking → Refusal
hold_refusal F seeds s b = tables_check F seeds s.tally s.cells ⨾ booking_check F 2 s.tally.gross b

abbrev pub held : Meaning → List ℕ → State → Booking → State
held F seeds s b = gained s (gains F seeds b) (mass b) (signed_mass b) (Some b)

-- Confirm: the option is a booking like any other. It is never refused.

abbrev pub confirmed : State → State
confirmed s = record { tally = s.tally; cells = s.cells; option = None }

-- Withdraw the option b: cells and net lose what it gave them, and the gross gains its mass once more.

abbrev pub withdraw_refusal : Meaning → List ℕ → State → Booking → Refusal
withdraw_refusal F seeds s b = tables_check F seeds s.tally s.cells ⨾ interval_check F.width b.from b.to

abbrev pub withdrawn : Meaning → List ℕ → State → Booking → State
withdrawn F seeds s b = gained s (gains F seeds (opposite b)) (mass b) (signed_mass (opposite b)) None

-- Merge another sketch, of which the figures u and the cells `others` are given: cells, gross and net gain the other's.

abbrev pub merge_refusal : State → Tally → List ℤ → Refusal
merge_refusal s u others =
    same_shape_check s.tally.groups s.tally.columns u.groups u.columns
    ⨾ length_check own_table (entries s.tally) s.cells
    ⨾ length_check other_table (entries s.tally) others
    ⨾ cells_check 0 s.tally.gross s.cells
    ⨾ cells_check other_cells u.gross others
    ⨾ limit_check (s.tally.gross + u.gross)

abbrev pub merged : State → Tally → List ℤ → State
merged s u others = gained s others u.gross u.net s.option
