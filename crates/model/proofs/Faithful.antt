-- The law of one run. Assumes nothing.
use Rattle.std.proofs.Common.{◌≡◌, ℕ, ◌+◌, ◌*◌, Bool, true, false, cond, List, pos, ◌-ℤ◌, is_some, Some, None, Option, sym, refl, ap, subst, inl, inr, arith}
use Rattle.std.proofs.lemmas.Bool.{true≢false, false≢true}
use Rattle.signs.specs.declared.faults.Fault.{Fault}
use Rattle.signs.specs.declared.reason.Reason.TheVariants.{Interval, Shape, Weight, Full}
use Rattle.signs.specs.Faults.{Refusal, accepts, refuse_if, ◌⨾◌, number_of, family_fault, sketch_fault}
use Rattle.signs.specs.Family.{Meaning, interval_check}
use Rattle.model.specs.declared.Booking.{Booking}
use Rattle.model.specs.Calls.{mass, same_shape_check, weight_check, limit_check, booking_check}
use Rattle.model.specs.Law.{ForCells, NeverForCells, Faithful}
use Rattle.model.specs.Runs.{Run, opened, post, hold, confirm, withdraw, merge, after, fate, accepted, Permitted, end_refusal}
use Rattle.model.specs.Standing.{groups_of, columns_of, standing, standing_option, gross_of, due_fate, option_weight, option_mass}
use Rattle.model.proofs.Checks.{open_passed}
use Rattle.model.proofs.Kept.{Kept, booking_due, kept_opened, kept_post, kept_hold, kept_confirm, withdraw_due, kept_end, merge_due, kept_merge}

-- What the rules refuse is not for cells.

some_is : (f g : Fault) → ◌≡◌ {A = Refusal} (Some f) (Some g) → f ≡ g
some_is f g e = cc

other_reason : (f : Fault) → (number_of f.reason ≡ 11 → ⊥) → (number_of f.reason ≡ 10 → ⊥) → ForCells f → ⊥
other_reason f a b (inl e) = a (ap number_of e)
other_reason f a b (inr e) = b (ap number_of e.0)

none_for_cells : NeverForCells None
none_for_cells f e c = let z : ◌≡◌ {A = ℕ} 0 1 = cc in omega arith

pub if_for_cells : (t : Bool) (f : Fault) → (ForCells f → ⊥) → NeverForCells (refuse_if t f)
if_for_cells true f h g e c = h (subst ForCells (sym (some_is f g e)) c)
if_for_cells false f h g e c = none_for_cells g e c

then_for_cells : (x y : Refusal) → NeverForCells x → NeverForCells y → NeverForCells (x ⨾ y)
then_for_cells None y h k = k
then_for_cells (Some f) y h k = h

limit_for_cells : (gross : ℕ) → NeverForCells (limit_check gross)
limit_for_cells gross = if_for_cells _ (sketch_fault Full 0) (other_reason (sketch_fault Full 0) (omega arith) (omega arith))

booking_for_cells : (F : Meaning) (times gross : ℕ) (b : Booking) → NeverForCells (booking_check F times gross b)
booking_for_cells F times gross b =
    then_for_cells (weight_check b.weight) (interval_check F.width b.from b.to ⨾ limit_check (gross + times * mass b))
    (if_for_cells _ (sketch_fault Weight 0) (other_reason (sketch_fault Weight 0) (omega arith) (omega arith)))
    (then_for_cells (interval_check F.width b.from b.to) (limit_check (gross + times * mass b))
    (if_for_cells _ (family_fault Interval 0) (other_reason (family_fault Interval 0) (omega arith) (omega arith)))
    (limit_for_cells (gross + times * mass b)))

due_for_cells : (accepted : Run → Bool) (F : Meaning) (r : Run) → NeverForCells (due_fate accepted F r)
due_for_cells accepted F (opened groups columns found) = none_for_cells
due_for_cells accepted F (post r b) = booking_for_cells F 1 (gross_of accepted r) b
due_for_cells accepted F (hold r b) = booking_for_cells F 2 (gross_of accepted r) b
due_for_cells accepted F (confirm r) = none_for_cells
due_for_cells accepted F (withdraw r) = none_for_cells
due_for_cells accepted F (merge r other) =
    then_for_cells (same_shape_check (groups_of r) (columns_of r) (groups_of other) (columns_of other)) (limit_check (gross_of accepted r + gross_of accepted other))
    (if_for_cells _ (sketch_fault Shape 0) (other_reason (sketch_fault Shape 0) (omega arith) (omega arith)))
    (limit_for_cells (gross_of accepted r + gross_of accepted other))

-- Whether an option stands, by the state and by the calls.

no_option : (v p : Option Booking) → v ≡ p → is_some v ≡ false → p ≡ None
no_option None p e t = sym e
no_option (Some b) p e t = absurd (true≢false t)

an_option : (v p : Option Booking) → v ≡ p → is_some v ≡ true → (b : Booking) × (p ≡ Some b)
an_option None p e t = absurd (false≢true t)
an_option (Some b) p e t = (b, sym e)

module _ (F : Meaning) (seeds : List ℕ) where
  -- what is told of a run
  abbrev pub KeptRun : Run → Type 0
  KeptRun r = Kept F seeds (groups_of r) (columns_of r) (after F seeds r) (gross_of (accepted F seeds) r) (standing (accepted F seeds) r) (standing_option (accepted F seeds) r)

  -- the same, where it is known which option stands
  abbrev KeptWith : Run → Option Booking → Type 0
  KeptWith r p = Kept F seeds (groups_of r) (columns_of r) (after F seeds r) (gross_of (accepted F seeds) r) (standing (accepted F seeds) r) p

  open_kept : (r : Run) → KeptRun r → is_some (after F seeds r).option ≡ false → KeptWith r None
  open_kept r k t = subst (KeptWith r) (no_option (after F seeds r).option _ (ap (λ s. s.option) k.is) t) k

  -- what withdraw leaves, where the option p stands
  abbrev Ended : Run → Option Booking → Type 0
  Ended r p =
      let x = end_refusal F seeds (after F seeds r) (after F seeds r).option in
      Kept F seeds (groups_of r) (columns_of r) (after F seeds (withdraw r)) (gross_of (accepted F seeds) r + cond (accepts x) (option_mass p) 0) (λ i. standing (accepted F seeds) r i -ℤ cond (accepts x) (option_weight p i) (pos 0)) (cond (accepts x) None p)
      × (x ≡ None)

  kept_ended : (r : Run) → KeptRun r → is_some (after F seeds r).option ≡ true → Ended r (standing_option (accepted F seeds) r)
  unfolding after
  kept_ended r k t =
      let o = an_option (after F seeds r).option _ (ap (λ s. s.option) k.is) t in
      let under = subst (KeptWith r) o.1 k in
      subst (Ended r) (sym o.1) (kept_end under, withdraw_due under)

  pub kept : (r : Run) → Permitted F seeds r → KeptRun r
  unfolding after Permitted groups_of columns_of gross_of standing_option standing
  kept (opened groups columns found) ok = let o = open_passed F groups columns seeds found ok in kept_opened found o.opening o.found_long
  kept (post r b) ok =
      let k = kept r ok.0 in
      subst (λ p. Kept F seeds (groups_of r) (columns_of r) (after F seeds (post r b)) (gross_of (accepted F seeds) (post r b)) (standing (accepted F seeds) (post r b)) p) (sym (no_option (after F seeds r).option _ (ap (λ s. s.option) k.is) ok.1)) (kept_post (open_kept r k ok.1) b)
  kept (hold r b) ok = kept_hold (kept r ok.0) b
  kept (confirm r) ok = kept_confirm (kept r ok.0)
  kept (withdraw r) ok = (kept_ended r (kept r ok.0) ok.1).0
  kept (merge r other) ok =
      let k = kept r ok.0 in
      subst (λ p. Kept F seeds (groups_of r) (columns_of r) (after F seeds (merge r other)) (gross_of (accepted F seeds) (merge r other)) (standing (accepted F seeds) (merge r other)) p) (sym (no_option (after F seeds r).option _ (ap (λ s. s.option) k.is) ok.1)) (kept_merge (open_kept r k ok.1) (kept other ok.2))

  pub due : (r : Run) → Permitted F seeds r → fate F seeds r ≡ due_fate (accepted F seeds) F r
  unfolding Permitted
  due (opened groups columns found) ok = ok
  due (post r b) ok = booking_due (kept r ok.0) 1 b
  due (hold r b) ok = booking_due (kept r ok.0) 2 b
  due (confirm r) ok = refl
  due (withdraw r) ok = (kept_ended r (kept r ok.0) ok.1).1
  due (merge r other) ok = merge_due (open_kept r (kept r ok.0) ok.1) (kept other ok.2)

  pub faithful : (r : Run) → Permitted F seeds r → Faithful F seeds r
  faithful r ok = record {
    refused = due r ok;
    never_for_cells = subst NeverForCells (sym (due r ok)) (due_for_cells (accepted F seeds) F r);
    cells = ap (λ s. s.cells) (kept r ok).is;
    figures = ap (λ s. s.tally) (kept r ok).is;
  }
