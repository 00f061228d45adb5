-- Whole runs: how a sketch came about call by call, and what the calls make of it. Each step is the call's own definition, the one that its
-- contract cites. Assumes nothing.
use Rattle.std.specs.Prelude.{◌≡◌, ℕ, Bool, true, false, List, [], ◌∷◌, ◌++◌, ℤ, is_some, Some, None, Option}
use Rattle.signs.specs.Faults.{Refusal, accepts, unless}
use Rattle.signs.specs.Family.{Meaning}
use Rattle.model.specs.declared.Booking.{Booking}
use Rattle.model.specs.Calls.{State, open_refusal, begun, post_refusal, posted, hold_refusal, held, confirmed, withdraw_refusal, withdrawn, merge_refusal, merged}

-- The calls that one sketch has seen from its opening on, refused ones too; the latest stands outermost.
-- `opened groups columns found` is a sketch newly opened, over cells that held `found` before. In `merge r other`, `other` is the run of the
-- sketch that is merged in, up to the moment when its figures and cells were taken: it may be under option, and of another shape.
pub data Run : Type 0 where
  opened : ℕ → ℕ → List ℤ → Run
  post : Run → Booking → Run
  hold : Run → Booking → Run
  confirm : Run → Run
  withdraw : Run → Run
  merge : Run → Run → Run

-- All runs are over one family and one table of seeds: every call is given these, and the sketch's own cells.
module _ (F : Meaning) (seeds : List ℕ) where
  -- Withdraw ends the option that stands. It is called under option alone, so what is said of it without one does not matter.

  abbrev pub end_refusal : State → Option Booking → Refusal
  end_refusal s (Some b) = withdraw_refusal F seeds s b
  end_refusal s None = None

  abbrev pub ended : State → Option Booking → State
  ended s (Some b) = withdrawn F seeds s b
  ended s None = s

  -- the sketch after a run: a refused call changes nothing
  unfoldable pub after : Run → State
  after (opened groups columns found) = begun groups columns found
  after (post r b) = unless (post_refusal F seeds (after r) b) (after r) (posted F seeds (after r) b)
  after (hold r b) = unless (hold_refusal F seeds (after r) b) (after r) (held F seeds (after r) b)
  after (confirm r) = confirmed (after r)
  after (withdraw r) = unless (end_refusal (after r) (after r).option) (after r) (ended (after r) (after r).option)
  after (merge r other) = unless (merge_refusal (after r) (after other).tally (after other).cells) (after r) (merged (after r) (after other).tally (after other).cells)

  -- how the latest call fared: its fault, or None where it was accepted
  abbrev pub fate : Run → Refusal
  fate (opened groups columns found) = open_refusal F groups columns seeds found
  fate (post r b) = post_refusal F seeds (after r) b
  fate (hold r b) = hold_refusal F seeds (after r) b
  fate (confirm r) = None
  fate (withdraw r) = end_refusal (after r) (after r).option
  fate (merge r other) = merge_refusal (after r) (after other).tally (after other).cells

  abbrev pub accepted : Run → Bool
  accepted r = accepts (fate r)

  -- how every call fared, from the latest back to the opening, those of the sketches merged in included
  unfoldable pub fates : Run → List Refusal
  fates (opened groups columns found) = fate (opened groups columns found) ∷ []
  fates (post r b) = fate (post r b) ∷ fates r
  fates (hold r b) = fate (hold r b) ∷ fates r
  fates (confirm r) = fate (confirm r) ∷ fates r
  fates (withdraw r) = fate (withdraw r) ∷ fates r
  fates (merge r other) = fate (merge r other) ∷ (fates r ++ fates other)

  abbrev pub under_option : Run → Bool
  under_option r = is_some (after r).option

  -- The runs that can be: the opening was accepted, and each later call is one that the sketch had in its state of that time, which is post,
  -- hold and merge on an open sketch, confirm and withdraw on one under option. So too for the sketches merged in.
  unfoldable pub Permitted : Run → Type 0
  Permitted (opened groups columns found) = fate (opened groups columns found) ≡ None
  Permitted (post r b) = Permitted r × (under_option r ≡ false)
  Permitted (hold r b) = Permitted r × (under_option r ≡ false)
  Permitted (confirm r) = Permitted r × (under_option r ≡ true)
  Permitted (withdraw r) = Permitted r × (under_option r ≡ true)
  Permitted (merge r other) = Permitted r × (under_option r ≡ false) × Permitted other
