-- Worked figures of sketches, beside those of the families: what is asked, and what it gives. Assumes nothing.
use Rattle.std.specs.Prelude.{◌≡◌, ℕ, ◌-◌, ◌*◌, min, max, List, [], ◌∷◌, ℤ, pos, negsuc, ◌*ℤ◌, None, Ok, Result}
use Rattle.std.specs.Result.{result_map_both}
use Rattle.std.specs.List.{AllByRecursion}
use Rattle.signs.specs.declared.faults.Fault.{Fault}
use Rattle.signs.specs.Cover.{cover_sum}
use Rattle.parity.specs.Parity.{bch3, bch3_block_sum, eh3}
use Rattle.parity.specs.Figures as families
use Rattle.parity.specs.Figures.{Figure, figure, Holds}
use Rattle.model.specs.declared.Booking.{Booking}
use Rattle.model.specs.declared.Estimate.{Estimate}
use Rattle.model.specs.Calls.{State}
use Rattle.model.specs.Law.{exact_overlap}
use Rattle.model.specs.Overlap.{overlap_answer}
use Rattle.model.specs.Runs.{Run, opened, post, hold, confirm, withdraw, after}

abbrev pub booking : ℕ → ℕ → ℤ → Booking
booking a b w = record { from = a; to = b; weight = w }

-- what overlap of two sketches answers, where the first has one group
abbrev pub compared : State → State → Result Estimate Fault
compared s t = overlap_answer s.tally s.cells t.tally t.cells (pos 0 ∷ [])

-- what is asked of two bookings, each posted on a sketch of its own
pub data Asked : Type 0 where
  -- width and seed: the sketches have one cell each, and the middle that overlap of the two answers
  bch3_product : ℕ → ℕ → Booking → Booking → Asked
  -- width: their exact overlap
  bch3_overlap : ℕ → Booking → Booking → Asked

abbrev pub figures : List (Figure Asked)
figures =
    figure (bch3_product 1 0 (booking 0 2 (pos 1)) (booking 1 2 (pos 2))) (pos 4)
    ∷ figure (bch3_product 1 1 (booking 0 2 (pos 1)) (booking 1 2 (pos 2))) (pos 4)
    ∷ figure (bch3_product 1 2 (booking 0 2 (pos 1)) (booking 1 2 (pos 2))) (pos 0)
    ∷ figure (bch3_product 1 3 (booking 0 2 (pos 1)) (booking 1 2 (pos 2))) (pos 0)
    ∷ figure (bch3_overlap 1 (booking 0 2 (pos 1)) (booking 1 2 (pos 2))) (pos 2)
    ∷ []

-- a sketch of one cell with one booking
abbrev pub single : Booking → Run
single b = post (opened 1 1 (pos 0 ∷ [])) b

-- the answer by the sums of the signs, and by what the calls of a run make of a sketch
abbrev pub by_signs : Asked → Result ℤ Fault
by_signs (bch3_product n s b c) = result_map_both (λ e. e.middle) (λ f. f) (compared (after (bch3 n) (s ∷ []) (single b)) (after (bch3 n) (s ∷ []) (single c)))
by_signs (bch3_overlap n b c) = Ok (exact_overlap (bch3 n) (0 ∷ []) (single b) (single c))

-- a booking's cell under BCH3 by the closed rule of its interval's blocks
abbrev pub bch3_cell : ℕ → ℕ → Booking → ℤ
bch3_cell n s b = b.weight *ℤ cover_sum (bch3_block_sum s) n (2 * n) b.from b.to

-- the slots that two bookings share
abbrev pub shared : Booking → Booking → ℕ
shared b c = min b.to c.to - max b.from c.from

-- the answer by the closed rules
abbrev pub by_rules : Asked → ℤ
by_rules (bch3_product n s b c) = bch3_cell n s b *ℤ bch3_cell n s c
by_rules (bch3_overlap n b c) = (b.weight *ℤ c.weight) *ℤ pos (shared b c)

-- the figures of the families, and these
abbrev pub FiguresHold : Type 0
FiguresHold = families.FiguresHold × AllByRecursion (Holds by_signs by_rules) figures

-- The five calls that the program `sketch_sample` makes, and what they leave.

abbrev pub sample_seeds : List ℕ
sample_seeds = 3 ∷ (10 ∷ [])

-- `negsuc n` is -(n + 1)
abbrev pub sample : Run
sample =
    confirm (hold (withdraw (hold (post (opened 1 2 (pos 0 ∷ (pos 0 ∷ []))) (booking 2 11 (pos 3))) (booking 5 6 (pos 4)))) (booking 12 14 (negsuc 0)))

abbrev pub sample_state : State
sample_state = record { tally = record { groups = 1; columns = 2; gross = 37; net = pos 25 }; cells = pos 7 ∷ (pos 1 ∷ []); option = None }

pub record SampleHolds : Type 0 where
  pub leaves : after (eh3 4) sample_seeds sample ≡ sample_state
  pub itself : compared sample_state sample_state ≡ Ok (record { columns = 2; middle = pos 50 })
