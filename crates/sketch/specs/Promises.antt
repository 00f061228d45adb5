-- What the calls of a sketch promise: the code's figures and sketches read as the model's, and each call's answer, sketch and cells
-- afterwards equal to the model's. `left` is what the call leaves in the table of cells. Assumes nothing.
use Rattle.std.specs.Prelude.{◌≡◌, ℕ, cond, List, ℤ, Some, None, Ok, Err, Option, Result}
use Rattle.std.specs.Result.{result_map_both}
use Rattle.signs.specs.declared.faults.Fault.{Fault}
use Rattle.signs.specs.Faults.{Refusal, ◌⨾◌, answer, unless}
use Rattle.signs.specs.Family.{Meaning, interval_check}
use Rattle.model.specs.declared.Booking.{Booking}
use Rattle.model.specs.Calls.{Tally, State, mass, signed_mass, gains, opposite, add_each, gained_tally, tables_check, booking_check, open_refusal, begun, post_refusal, posted, hold_refusal, held, withdraw_refusal, withdrawn, merge_refusal, merged}
use Rattle.sketch.specs.declared.Figures.{Figures}
use Rattle.sketch.specs.declared.OpenSketch.{OpenSketch}
use Rattle.sketch.specs.declared.HeldSketch.{HeldSketch}
use Rattle.sketch.specs.declared.Refused.{Refused}

abbrev pub tally_of : Figures → Tally
tally_of f = record { groups = f.shape.groups; columns = f.shape.columns; gross = f.gross; net = f.net }

abbrev pub state_of : Figures → List ℤ → Option Booking → State
state_of f cells option = record { tally = tally_of f; cells = cells; option = option }

-- an open sketch and its cells
abbrev pub open_state : OpenSketch → List ℤ → State
open_state s cells = state_of s.figures cells None

-- a sketch under option and its cells: the option stands until it is spent
abbrev pub held_state : HeldSketch → List ℤ → State
held_state h cells = state_of h.figures cells (cond h.spent None (Some h.option))

-- what a call answers that makes a sketch
abbrev pub open_answer : Result OpenSketch Fault → List ℤ → Result State Fault
open_answer (Ok s) cells = Ok (open_state s cells)
open_answer (Err f) cells = Err f

-- how a call fared that takes the sketch by value
abbrev pub fault_of : {A S : Type 0} → Result A (Refused S) → Refusal
fault_of (Ok x) = None
fault_of (Err e) = Some e.fault

-- the sketch that hold leaves: the one under option, or the open one handed back
abbrev pub hold_leaves : Result HeldSketch (Refused OpenSketch) → List ℤ → State
hold_leaves (Ok h) cells = held_state h cells
hold_leaves (Err e) cells = open_state e.sketch cells

-- the sketch that withdraw leaves: the open one, or the one under option handed back
abbrev pub withdraw_leaves : Result OpenSketch (Refused HeldSketch) → List ℤ → State
withdraw_leaves (Ok s) cells = open_state s cells
withdraw_leaves (Err e) cells = held_state e.sketch cells

pub record Opens (F : Meaning) (groups columns : ℕ) (seeds : List ℕ) (found : List ℤ) (r : Result OpenSketch Fault) (left : List ℤ) : Type 0 where
  pub answers : open_answer r left ≡ answer (open_refusal F groups columns seeds found) (begun groups columns found)
  pub table : left ≡ unless (open_refusal F groups columns seeds found) found (begun groups columns found).cells

-- What post and hold share, beside a gross that has to have room for so many times the mass.
pub record Enters (F : Meaning) (seeds : List ℕ) (times : ℕ) (b : Booking) (before : Tally) (cells : List ℤ) (r : Result Figures Fault) (left : List ℤ) : Type 0 where
  pub answers : result_map_both tally_of (λ f. f) r ≡ answer (tables_check F seeds before cells ⨾ booking_check F times before.gross b) (gained_tally before (mass b) (signed_mass b))
  pub table : left ≡ unless (tables_check F seeds before cells ⨾ booking_check F times before.gross b) cells (add_each cells (gains F seeds b))

pub record Posts (F : Meaning) (seeds : List ℕ) (b : Booking) (before after : State) (r : Result (Unit {0}) Fault) : Type 0 where
  pub answers : r ≡ answer (post_refusal F seeds before b) tt
  pub leaves : after ≡ unless (post_refusal F seeds before b) before (posted F seeds before b)

pub record Holds (F : Meaning) (seeds : List ℕ) (b : Booking) (before : State) (r : Result HeldSketch (Refused OpenSketch)) (left : List ℤ) : Type 0 where
  pub answers : fault_of r ≡ hold_refusal F seeds before b
  pub leaves : hold_leaves r left ≡ unless (hold_refusal F seeds before b) before (held F seeds before b)

-- What withdraw does to figures and cells.
pub record Releases (F : Meaning) (seeds : List ℕ) (b : Booking) (before : Tally) (cells : List ℤ) (r : Result Figures Fault) (left : List ℤ) : Type 0 where
  pub answers : result_map_both tally_of (λ f. f) r ≡ answer (tables_check F seeds before cells ⨾ interval_check F.width b.from b.to) (gained_tally before (mass b) (signed_mass (opposite b)))
  pub table : left ≡ unless (tables_check F seeds before cells ⨾ interval_check F.width b.from b.to) cells (add_each cells (gains F seeds (opposite b)))

pub record Withdraws (F : Meaning) (seeds : List ℕ) (b : Booking) (before : State) (r : Result OpenSketch (Refused HeldSketch)) (left : List ℤ) : Type 0 where
  pub answers : fault_of r ≡ withdraw_refusal F seeds before b
  pub leaves : withdraw_leaves r left ≡ unless (withdraw_refusal F seeds before b) before (withdrawn F seeds before b)

pub record Merges (before after : State) (u : Tally) (others : List ℤ) (r : Result (Unit {0}) Fault) : Type 0 where
  pub answers : r ≡ answer (merge_refusal before u others) tt
  pub leaves : after ≡ unless (merge_refusal before u others) before (merged before u others)
