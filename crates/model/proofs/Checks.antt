-- What passed checks tell, and what passes them. Assumes nothing.
use Rattle.std.proofs.Common.{◌≡◌, ℕ, ◌+◌, ◌*◌, ◌%◌, ◌^◌, ◌<◌, ◌≤◌, Bool, true, false, List, length, get_or, ℤ, pos, nat_abs, None, refl, ap, ◌∙◌, arith}
use Rattle.std.proofs.lemmas.Bool.Decides.{nat_tests}
use Rattle.std.proofs.lemmas.Bool.{leb-false, ltb-false, lt-leb, le-ltb}
use Rattle.signs.specs.declared.faults.Fault.{Fault}
use Rattle.signs.specs.declared.reason.Reason.TheVariants.{Seed, ForeignCells, Full}
use Rattle.signs.specs.Faults.{Refusal, refuse_if, ◌⨾◌, family_fault, sketch_fault}
use Rattle.signs.specs.Family.{Meaning, interval_check}
use Rattle.signs.proofs.Answers.{first_none, then_none, Interval, interval_there}
use Rattle.signs.proofs.Entries.{each_all, each_at}
use Rattle.model.specs.declared.Booking.{Booking}
use Rattle.model.specs.Calls.{Tally, State, mass, entries, seed_table, own_table, other_table, other_cells, shape_check, same_shape_check, length_check, seeds_check, cells_check, weight_check, limit_check, tables_check, booking_check, open_refusal, merge_refusal}

-- two checks pass where each does
pub both_none : (r q : Refusal) → r ≡ None → q ≡ None → (r ⨾ q) ≡ None
both_none r q e f = ap (λ x. x ⨾ q) e ∙ f

not_refused : (t : Bool) (f : Fault) → refuse_if t f ≡ None → t ≡ false
not_refused true f e = let z : ◌≡◌ {A = ℕ} 0 1 = cc in absurd (let w : ⊥ = omega arith in w)
not_refused false f e = refl

-- Single checks.

pub record Shaped (groups columns : ℕ) : Type 0 where
  pub odd : groups % 2 ≡ 1
  pub few : groups ≤ 15
  pub some : 1 ≤ columns
  pub narrow : columns ≤ 32

pub shape_passed : (groups columns : ℕ) → shape_check groups columns ≡ None → Shaped groups columns
shape_passed groups columns e = record { odd = grind (arith, nat_tests); few = grind (arith, nat_tests); some = grind (arith, nat_tests); narrow = grind (arith, nat_tests) }

pub shape_passes : (groups columns : ℕ) → Shaped groups columns → shape_check groups columns ≡ None
shape_passes groups columns s = grind (arith, nat_tests)

pub length_passed : {A : Type 0} (number due : ℕ) (table : List A) → length_check number due table ≡ None → length table ≡ due
length_passed number due table e = grind (arith, nat_tests)

pub length_passes : {A : Type 0} (number due : ℕ) (table : List A) → length table ≡ due → length_check number due table ≡ None
length_passes number due table e = grind (arith, nat_tests)

pub seeds_passed : (F : Meaning) (seeds : List ℕ) → seeds_check F seeds ≡ None → (k : ℕ) → k < length seeds → get_or seeds k 0 < F.seeds
seeds_passed F seeds e k h = leb-false F.seeds (get_or seeds k 0) (not_refused _ (family_fault Seed k) (each_at (length seeds) _ e k h))

pub seeds_pass : (F : Meaning) (seeds : List ℕ) → ((k : ℕ) → k < length seeds → get_or seeds k 0 < F.seeds) → seeds_check F seeds ≡ None
seeds_pass F seeds h = each_all (length seeds) _ (λ k l. ap (λ t. refuse_if t (family_fault Seed k)) (lt-leb F.seeds (get_or seeds k 0) (h k l)))

pub cells_passed : (from gross : ℕ) (cells : List ℤ) → cells_check from gross cells ≡ None → (k : ℕ) → k < length cells → nat_abs (get_or cells k (pos 0)) ≤ gross
cells_passed from gross cells e k h = ltb-false gross (nat_abs (get_or cells k (pos 0))) (not_refused _ (sketch_fault ForeignCells (from + k)) (each_at (length cells) _ e k h))

pub cells_pass : (from gross : ℕ) (cells : List ℤ) → ((k : ℕ) → k < length cells → nat_abs (get_or cells k (pos 0)) ≤ gross) → cells_check from gross cells ≡ None
cells_pass from gross cells h =
    each_all (length cells) _ (λ k l. ap (λ t. refuse_if t (sketch_fault ForeignCells (from + k))) (le-ltb gross (nat_abs (get_or cells k (pos 0))) (h k l)))

pub weight_passed : (w : ℤ) → weight_check w ≡ None → nat_abs w ≤ 1000
weight_passed w e = grind (arith, nat_tests)

pub limit_passed : (gross : ℕ) → limit_check gross ≡ None → gross ≤ 2 ^ 26
limit_passed gross e = ltb-false (2 ^ 26) gross (not_refused _ (sketch_fault Full 0) e)

-- The checks of an opening.

pub record Opening (F : Meaning) (groups columns : ℕ) (seeds : List ℕ) : Type 0 where
  pub shaped : Shaped groups columns
  pub long : length seeds ≡ groups * columns
  pub known : (k : ℕ) → k < length seeds → get_or seeds k 0 < F.seeds

pub record Opened (F : Meaning) (groups columns : ℕ) (seeds : List ℕ) (found : List ℤ) : Type 0 where
  pub opening : Opening F groups columns seeds
  pub found_long : length found ≡ groups * columns

pub open_passed : (F : Meaning) (groups columns : ℕ) (seeds : List ℕ) (found : List ℤ) → open_refusal F groups columns seeds found ≡ None → Opened F groups columns seeds found
open_passed F groups columns seeds found e =
    let n = groups * columns in
    let a = then_none (shape_check groups columns) (length_check seed_table n seeds ⨾ length_check own_table n found ⨾ seeds_check F seeds) e in
    let b = then_none (length_check seed_table n seeds) (length_check own_table n found ⨾ seeds_check F seeds) a in
    record {
      opening = record {
        shaped = shape_passed groups columns (first_none (shape_check groups columns) _ e);
        long = length_passed seed_table n seeds (first_none (length_check seed_table n seeds) _ a);
        known = seeds_passed F seeds (then_none (length_check own_table n found) (seeds_check F seeds) b);
      };
      found_long = length_passed own_table n found (first_none (length_check own_table n found) _ b);
    }

pub open_passes : (F : Meaning) (groups columns : ℕ) (seeds : List ℕ) (found : List ℤ) → Opened F groups columns seeds found → open_refusal F groups columns seeds found ≡ None
open_passes F groups columns seeds found o =
    let n = groups * columns in
    both_none (shape_check groups columns) _ (shape_passes groups columns o.opening.shaped)
    (both_none (length_check seed_table n seeds) _ (length_passes seed_table n seeds o.opening.long)
    (both_none (length_check own_table n found) _ (length_passes own_table n found o.found_long) (seeds_pass F seeds o.opening.known)))

-- Those of the tables of a call that books.

pub record Fitting (F : Meaning) (seeds : List ℕ) (t : Tally) (cells : List ℤ) : Type 0 where
  pub seeds_long : length seeds ≡ entries t
  pub cells_long : length cells ≡ entries t
  pub known : (k : ℕ) → k < length seeds → get_or seeds k 0 < F.seeds
  pub own : (k : ℕ) → k < length cells → nat_abs (get_or cells k (pos 0)) ≤ t.gross

pub tables_passed : (F : Meaning) (seeds : List ℕ) (t : Tally) (cells : List ℤ) → tables_check F seeds t cells ≡ None → Fitting F seeds t cells
tables_passed F seeds t cells e =
    let n = entries t in
    let own = cells_check 0 t.gross cells in
    let a = then_none (length_check seed_table n seeds) (length_check own_table n cells ⨾ seeds_check F seeds ⨾ own) e in
    let b = then_none (length_check own_table n cells) (seeds_check F seeds ⨾ own) a in
    record {
      seeds_long = length_passed seed_table n seeds (first_none (length_check seed_table n seeds) _ e);
      cells_long = length_passed own_table n cells (first_none (length_check own_table n cells) _ a);
      known = seeds_passed F seeds (first_none (seeds_check F seeds) own b);
      own = cells_passed 0 t.gross cells (then_none (seeds_check F seeds) own b);
    }

pub tables_pass : (F : Meaning) (seeds : List ℕ) (t : Tally) (cells : List ℤ) → Fitting F seeds t cells → tables_check F seeds t cells ≡ None
tables_pass F seeds t cells f =
    let n = entries t in
    both_none (length_check seed_table n seeds) _ (length_passes seed_table n seeds f.seeds_long)
    (both_none (length_check own_table n cells) _ (length_passes own_table n cells f.cells_long)
    (both_none (seeds_check F seeds) _ (seeds_pass F seeds f.known) (cells_pass 0 t.gross cells f.own)))

-- Those of a booking.

pub record Bookable (F : Meaning) (times gross : ℕ) (b : Booking) : Type 0 where
  pub light : nat_abs b.weight ≤ 1000
  pub interval : Interval F.width b.from b.to
  pub room : gross + times * mass b ≤ 2 ^ 26

pub booking_passed : (F : Meaning) (times gross : ℕ) (b : Booking) → booking_check F times gross b ≡ None → Bookable F times gross b
booking_passed F times gross b e =
    let rest = then_none (weight_check b.weight) (interval_check F.width b.from b.to ⨾ limit_check (gross + times * mass b)) e in
    record {
      light = weight_passed b.weight (first_none (weight_check b.weight) _ e);
      interval = interval_there F.width b.from b.to (first_none (interval_check F.width b.from b.to) _ rest);
      room = limit_passed (gross + times * mass b) (then_none (interval_check F.width b.from b.to) (limit_check (gross + times * mass b)) rest);
    }

-- Those of a merge.

pub record Mergeable (s : State) (u : Tally) (others : List ℤ) : Type 0 where
  pub own_long : length s.cells ≡ entries s.tally
  pub others_long : length others ≡ entries s.tally
  pub own : (k : ℕ) → k < length s.cells → nat_abs (get_or s.cells k (pos 0)) ≤ s.tally.gross
  pub other : (k : ℕ) → k < length others → nat_abs (get_or others k (pos 0)) ≤ u.gross
  pub room : s.tally.gross + u.gross ≤ 2 ^ 26

pub merge_passed : (s : State) (u : Tally) (others : List ℤ) → merge_refusal s u others ≡ None → Mergeable s u others
merge_passed s u others e =
    let n = entries s.tally in
    let own = cells_check 0 s.tally.gross s.cells in
    let other = cells_check other_cells u.gross others in
    let limit = limit_check (s.tally.gross + u.gross) in
    let a = then_none (same_shape_check s.tally.groups s.tally.columns u.groups u.columns) (length_check own_table n s.cells ⨾ length_check other_table n others ⨾ own ⨾ other ⨾ limit) e in
    let b = then_none (length_check own_table n s.cells) (length_check other_table n others ⨾ own ⨾ other ⨾ limit) a in
    let c = then_none (length_check other_table n others) (own ⨾ other ⨾ limit) b in
    let d = then_none own (other ⨾ limit) c in
    record {
      own_long = length_passed own_table n s.cells (first_none (length_check own_table n s.cells) _ a);
      others_long = length_passed other_table n others (first_none (length_check other_table n others) _ b);
      own = cells_passed 0 s.tally.gross s.cells (first_none own _ c);
      other = cells_passed other_cells u.gross others (first_none other _ d);
      room = limit_passed (s.tally.gross + u.gross) (then_none other limit d);
    }
