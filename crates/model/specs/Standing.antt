-- What the calls of a run, their arguments and whether each was accepted tell: standing weights, gross, and how each call has to fare. The
-- definitions are given the acceptances and no state, so none of them can look at cells or figures. Assumes nothing.
use Rattle.std.specs.Prelude.{ℕ, ◌+◌, Bool, cond, ◌&&◌, ℤ, pos, ◌+ℤ◌, ◌-ℤ◌, Some, None, Option, nat_le, nat_lt}
use Rattle.signs.specs.Faults.{Refusal, ◌⨾◌}
use Rattle.signs.specs.Family.{Meaning}
use Rattle.model.specs.declared.Booking.{Booking}
use Rattle.model.specs.Calls.{mass, same_shape_check, limit_check, booking_check}
use Rattle.model.specs.Runs.{Run, opened, post, hold, confirm, withdraw, merge}

-- the shape that a run's sketch was opened with

unfoldable pub groups_of : Run → ℕ
groups_of (opened groups columns found) = groups
groups_of (post r b) = groups_of r
groups_of (hold r b) = groups_of r
groups_of (confirm r) = groups_of r
groups_of (withdraw r) = groups_of r
groups_of (merge r other) = groups_of r

unfoldable pub columns_of : Run → ℕ
columns_of (opened groups columns found) = columns
columns_of (post r b) = columns_of r
columns_of (hold r b) = columns_of r
columns_of (confirm r) = columns_of r
columns_of (withdraw r) = columns_of r
columns_of (merge r other) = columns_of r

-- a booking's weight at its own slots, and 0 elsewhere
abbrev pub weight_at : Booking → ℕ → ℤ
weight_at b i = cond (nat_le b.from i && nat_lt i b.to) b.weight (pos 0)

abbrev pub option_weight : Option Booking → ℕ → ℤ
option_weight (Some b) i = weight_at b i
option_weight None i = pos 0

abbrev pub option_mass : Option Booking → ℕ
option_mass (Some b) = mass b
option_mass None = 0

-- `accepted r` says whether the latest call of the run r was accepted.
module _ (accepted : Run → Bool) where
  -- the option that stands: the latest accepted hold, until confirm or an accepted withdraw ends it
  unfoldable pub standing_option : Run → Option Booking
  standing_option (opened groups columns found) = None
  standing_option (post r b) = standing_option r
  standing_option (hold r b) = cond (accepted (hold r b)) (Some b) (standing_option r)
  standing_option (confirm r) = None
  standing_option (withdraw r) = cond (accepted (withdraw r)) None (standing_option r)
  standing_option (merge r other) = standing_option r

  -- A slot's standing weight: 0 at opening; an accepted post or hold adds its weight at its slots; an accepted withdraw takes the option's
  -- weight off its slots; an accepted merge adds the other sketch's standing weights; no other call alters it.
  unfoldable pub standing : Run → ℕ → ℤ
  standing (opened groups columns found) i = pos 0
  standing (post r b) i = standing r i +ℤ cond (accepted (post r b)) (weight_at b i) (pos 0)
  standing (hold r b) i = standing r i +ℤ cond (accepted (hold r b)) (weight_at b i) (pos 0)
  standing (confirm r) i = standing r i
  standing (withdraw r) i = standing r i -ℤ cond (accepted (withdraw r)) (option_weight (standing_option r) i) (pos 0)
  standing (merge r other) i = standing r i +ℤ cond (accepted (merge r other)) (standing other i) (pos 0)

  -- the gross: the masses of all accepted posts, holds and withdrawals, those of the sketches merged in included
  unfoldable pub gross_of : Run → ℕ
  gross_of (opened groups columns found) = 0
  gross_of (post r b) = gross_of r + cond (accepted (post r b)) (mass b) 0
  gross_of (hold r b) = gross_of r + cond (accepted (hold r b)) (mass b) 0
  gross_of (confirm r) = gross_of r
  gross_of (withdraw r) = gross_of r + cond (accepted (withdraw r)) (option_mass (standing_option r)) 0
  gross_of (merge r other) = gross_of r + cond (accepted (merge r other)) (gross_of other) 0

  -- How the latest call of a permitted run has to fare. Post and hold are refused for the weight (12), the interval (8) or the gross limit
  -- (13), beside which a post counts its mass once and a hold twice; merge for the shapes (9) or the gross limit (13). Confirm and withdraw
  -- are not refused.
  abbrev pub due_fate : Meaning → Run → Refusal
  due_fate F (opened groups columns found) = None
  due_fate F (post r b) = booking_check F 1 (gross_of r) b
  due_fate F (hold r b) = booking_check F 2 (gross_of r) b
  due_fate F (confirm r) = None
  due_fate F (withdraw r) = None
  due_fate F (merge r other) = same_shape_check (groups_of r) (columns_of r) (groups_of other) (columns_of other) ⨾ limit_check (gross_of r + gross_of other)
