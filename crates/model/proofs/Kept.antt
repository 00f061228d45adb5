-- What every call keeps: shape, gross, standing weights and option tell the whole sketch, and no cell outgrows the gross. Assumes nothing.
use Rattle.std.proofs.Common.{◌≡◌, ℕ, ◌+◌, ◌*◌, ◌^◌, ◌<◌, ◌≤◌, Bool, true, false, cond, ◌&&◌, ltb, leb, List, [], ◌∷◌, map, length, get_or, replicate, ℤ, pos, ◌+ℤ◌, ◌-ℤ◌, neg_ℤ, nat_abs, Some, None, Option, sym, refl, ap, ◌∙◌, subst, ap₂, subst₂, arith}
use mathlib.Core.Path.{fun_ext}
use lib.IntN.{+ℤ_idr}
use Rattle.std.proofs.lemmas.List.{length-map, get_or-map}
use Rattle.signs.specs.Faults.{Refusal, accepts, ◌⨾◌, unless}
use Rattle.signs.specs.Family.{Meaning}
use Rattle.signs.proofs.Answers.{then_none, Interval, there_interval}
use Rattle.model.specs.declared.Booking.{Booking}
use Rattle.model.specs.Calls.{State, slots, mass, signed_mass, gains, opposite, add_each, gained, entries, own_table, other_table, other_cells, same_shape_check, length_check, cells_check, limit_check, tables_check, booking_check, begun, post_refusal, posted, hold_refusal, held, confirmed, withdraw_refusal, withdrawn, merge_refusal, merged}
use Rattle.model.specs.Choices.{total_of, cell_of}
use Rattle.model.specs.Runs.{end_refusal, ended}
use Rattle.model.specs.Standing.{weight_at}
use Rattle.model.proofs.Ring.{abs_add, abs_neg}
use Rattle.model.proofs.Weights.{cell_none, cell-+, total_none, total-+, cell_booking, total_booking, cell_small}
use Rattle.model.proofs.Checks.{both_none, length_passes, cells_pass, limit_passed, Opening, tables_pass, booking_passed}

-- Lists.

map_same : {A B : Type 0} (f g : A → B) → ((x : A) → f x ≡ g x) → (xs : List A) → map f xs ≡ map g xs
map_same f g h [] = refl
map_same f g h (x ∷ xs) = ap₂ ◌∷◌ (h x) (map_same f g h xs)

add_map : {A : Type 0} (f g : A → ℤ) (xs : List A) → add_each (map f xs) (map g xs) ≡ map (λ x. f x +ℤ g x) xs
unfolding add_each
add_map f g [] = refl
add_map f g (x ∷ xs) = ap (λ l. (f x +ℤ g x) ∷ l) (add_map f g xs)

zeros : {A : Type 0} (xs : List A) → replicate (length xs) (pos 0) ≡ map (λ x. pos 0) xs
zeros [] = refl
zeros (x ∷ xs) = ap (λ l. pos 0 ∷ l) (zeros xs)

-- The sketch that shape, gross, weights and option tell.

abbrev pub told : Meaning → List ℕ → ℕ → ℕ → ℕ → (ℕ → ℤ) → Option Booking → State
told F seeds G C g W p = record {
  tally = record { groups = G; columns = C; gross = g; net = total_of F W };
  cells = map (cell_of F W) seeds;
  option = p;
}

-- the option that stands can be withdrawn
abbrev pub Room : Meaning → ℕ → Option Booking → Type 0
Room F gross (Some b) = Interval F.width b.from b.to × (gross + mass b ≤ 2 ^ 26)
Room F gross None = Unit {0}

pub record Kept (F : Meaning) (seeds : List ℕ) (G C : ℕ) (s : State) (g : ℕ) (W : ℕ → ℤ) (p : Option Booking) : Type 0 where
  pub is : s ≡ told F seeds G C g W p
  pub opening : Opening F G C seeds
  pub small : (seed : ℕ) → nat_abs (cell_of F W seed) ≤ g
  pub limit : g ≤ 2 ^ 26
  pub room : Room F g p

-- What a booking adds.

module _ (F : Meaning) (b : Booking) (i : Interval F.width b.from b.to) where
  forward : b.from ≤ b.to
  forward = let l = i.some in omega arith

  gains_are : (seeds : List ℕ) → gains F seeds b ≡ map (cell_of F (weight_at b)) seeds
  gains_are seeds = map_same _ _ (λ seed. sym (cell_booking F b forward i.within seed)) seeds

  net_is : signed_mass b ≡ total_of F (weight_at b)
  net_is = sym (total_booking F b forward i.within)

  small_booking : (seed : ℕ) → nat_abs (cell_of F (weight_at b) seed) ≤ mass b
  small_booking = cell_small F b forward i.within

module _ {F : Meaning} {seeds : List ℕ} {G C g : ℕ} {W : ℕ → ℤ} {p : Option Booking} {s : State} (kept : Kept F seeds G C s g W p) where
  abbrev here : State
  here = told F seeds G C g W p

  own : (k : ℕ) → k < length here.cells → nat_abs (get_or here.cells k (pos 0)) ≤ g
  own k h =
      let l : k < length seeds = omega (arith, length-map seeds (cell_of F W)) in
      subst (λ z. nat_abs z ≤ g) (sym (get_or-map (cell_of F W) seeds k 0 (pos 0) l)) (kept.small (get_or seeds k 0))

  -- the cells have the length of the seeds, whatever the shape
  pub long : (number due : ℕ) → due ≡ length seeds → length_check number due here.cells ≡ None
  long number due e = length_passes number due here.cells (length-map seeds (cell_of F W) ∙ sym e)

  pub size : entries here.tally ≡ length seeds
  size = sym kept.opening.long

  pub own_free : (from : ℕ) → cells_check from g here.cells ≡ None
  own_free from = cells_pass from g here.cells own

  tables_free : tables_check F seeds here.tally here.cells ≡ None
  tables_free = tables_pass F seeds here.tally here.cells (record {
    seeds_long = kept.opening.long;
    cells_long = length-map seeds (cell_of F W) ∙ kept.opening.long;
    known = kept.opening.known;
    own = own;
  })

  -- a booking is refused by its arguments and the gross alone
  due_here : (times : ℕ) (b : Booking) → (tables_check F seeds here.tally here.cells ⨾ booking_check F times g b) ≡ booking_check F times g b
  due_here times b = ap (λ r. r ⨾ booking_check F times g b) tables_free

  pub booking_due : (times : ℕ) (b : Booking) → (tables_check F seeds s.tally s.cells ⨾ booking_check F times s.tally.gross b) ≡ booking_check F times g b
  booking_due times b = ap (λ t. tables_check F seeds t.tally t.cells ⨾ booking_check F times t.tally.gross b) kept.is ∙ due_here times b

  -- more weights, and no more gross than they take
  grown : (D : ℕ → ℤ) (m : ℕ) (n : ℤ) (more : List ℤ) (q : Option Booking) → more ≡ map (cell_of F D) seeds → n ≡ total_of F D → ((seed : ℕ) → nat_abs (cell_of F D seed) ≤ m) → g + m ≤ 2 ^ 26 → Room F (g + m) q
      → Kept F seeds G C (gained here more m n q) (g + m) (λ i. W i +ℤ D i) q
  grown D m n more q cells net few fits room = record {
    is = ap₂ (λ (cs : List ℤ) (z : ℤ). record { tally = record { groups = G; columns = C; gross = g + m; net = z }; cells = cs; option = q })
        (ap (add_each here.cells) cells ∙ add_map (cell_of F W) (cell_of F D) seeds ∙ map_same _ _ (λ seed. sym (cell-+ F W D seed)) seeds)
        (ap (λ z. total_of F W +ℤ z) net ∙ sym (total-+ F W D));
    opening = kept.opening;
    small = λ seed. subst (λ z. nat_abs z ≤ g + m) (sym (cell-+ F W D seed)) (omega (arith, abs_add (cell_of F W seed) (cell_of F D seed), kept.small seed, few seed));
    limit = fits;
    room = room;
  }

  -- the same sketch, with nothing added
  unchanged : Kept F seeds G C here (g + 0) (λ i. W i +ℤ pos 0) p
  unchanged =
      let same : Kept F seeds G C here g W p = record { is = refl; opening = kept.opening; small = kept.small; limit = kept.limit; room = kept.room } in
      subst₂ (λ k V. Kept F seeds G C here k V p) (let e : g ≡ g + 0 = omega arith in e) (fun_ext (λ i. sym (+ℤ_idr (W i)))) same

-- The calls.

pub kept_opened : {F : Meaning} {seeds : List ℕ} {G C : ℕ} (found : List ℤ) → Opening F G C seeds → length found ≡ G * C → Kept F seeds G C (begun G C found) 0 (λ i. pos 0) None
kept_opened {F} {seeds} {G} {C} found opening found_long = record {
  is = ap₂ (λ (cs : List ℤ) (z : ℤ). record { tally = record { groups = G; columns = C; gross = 0; net = z }; cells = cs; option = None })
      (ap (λ n. replicate n (pos 0)) (found_long ∙ sym opening.long) ∙ zeros seeds ∙ map_same _ _ (λ seed. sym (cell_none F seed)) seeds)
      (sym (total_none F));
  opening = opening;
  small = λ seed. subst (λ z. nat_abs z ≤ 0) (sym (cell_none F seed)) (omega arith);
  limit = omega arith;
  room = tt;
}

module _ {F : Meaning} {seeds : List ℕ} {G C g : ℕ} {W : ℕ → ℤ} {s : State} where
  -- post where no option stands
  module _ (kept : Kept F seeds G C s g W None) (b : Booking) where
    abbrev AfterPost : State → Refusal → Type 0
    AfterPost t x = Kept F seeds G C (unless x t (posted F seeds t b)) (g + cond (accepts x) (mass b) 0) (λ i. W i +ℤ cond (accepts x) (weight_at b i) (pos 0)) None

    post_here : (x : Refusal) → post_refusal F seeds (told F seeds G C g W None) b ≡ x → AfterPost (told F seeds G C g W None) x
    post_here (Some f) e = unchanged kept
    post_here None e =
        let fine = booking_passed F 1 g b (sym (due_here kept 1 b) ∙ e) in
        grown kept (weight_at b) (mass b) _ _ None (gains_are F b fine.interval seeds) (net_is F b fine.interval) (small_booking F b fine.interval) (let r = fine.room in omega arith) tt

    pub kept_post : AfterPost s (post_refusal F seeds s b)
    kept_post = subst (λ t. AfterPost t (post_refusal F seeds t b)) (sym kept.is) (post_here (post_refusal F seeds (told F seeds G C g W None) b) refl)

module _ {F : Meaning} {seeds : List ℕ} {G C g : ℕ} {W : ℕ → ℤ} {s : State} {p : Option Booking} (kept : Kept F seeds G C s g W p) where
  module _ (b : Booking) where
    abbrev AfterHold : State → Refusal → Type 0
    AfterHold t x = Kept F seeds G C (unless x t (held F seeds t b)) (g + cond (accepts x) (mass b) 0) (λ i. W i +ℤ cond (accepts x) (weight_at b i) (pos 0)) (cond (accepts x) (Some b) p)

    hold_here : (x : Refusal) → hold_refusal F seeds (told F seeds G C g W p) b ≡ x → AfterHold (told F seeds G C g W p) x
    hold_here (Some f) e = unchanged kept
    hold_here None e =
        let fine = booking_passed F 2 g b (sym (due_here kept 2 b) ∙ e) in
        let r = fine.room in
        grown kept (weight_at b) (mass b) _ _ (Some b) (gains_are F b fine.interval seeds) (net_is F b fine.interval) (small_booking F b fine.interval) (omega arith) (fine.interval, omega arith)

    pub kept_hold : AfterHold s (hold_refusal F seeds s b)
    kept_hold = subst (λ t. AfterHold t (hold_refusal F seeds t b)) (sym kept.is) (hold_here (hold_refusal F seeds (told F seeds G C g W p) b) refl)

  pub kept_confirm : Kept F seeds G C (confirmed s) g W None
  kept_confirm = record { is = ap confirmed kept.is; opening = kept.opening; small = kept.small; limit = kept.limit; room = tt }

-- withdraw where the option b stands
module _ {F : Meaning} {seeds : List ℕ} {G C g : ℕ} {W : ℕ → ℤ} {b : Booking} {s : State} (kept : Kept F seeds G C s g W (Some b)) where
  abbrev under : State
  under = told F seeds G C g W (Some b)

  due_under : withdraw_refusal F seeds under b ≡ None
  due_under = both_none (tables_check F seeds under.tally under.cells) _ (tables_free kept) (there_interval F.width b.from b.to kept.room.0)

  pub withdraw_due : end_refusal F seeds s s.option ≡ None
  withdraw_due = ap (λ t. end_refusal F seeds t t.option) kept.is ∙ due_under

  abbrev AfterEnd : State → Refusal → Type 0
  AfterEnd t x = Kept F seeds G C (unless x t (ended F seeds t t.option)) (g + cond (accepts x) (mass b) 0) (λ i. W i -ℤ cond (accepts x) (weight_at b i) (pos 0)) (cond (accepts x) None (Some b))

  withdrawn_here : Kept F seeds G C (withdrawn F seeds under b) (g + mass b) (λ i. W i -ℤ weight_at b i) None
  withdrawn_here =
      let i = kept.room.0 in
      let same : mass (opposite b) ≡ mass b = ap (λ n. n * slots b) (abs_neg b.weight) in
      let few : (seed : ℕ) → nat_abs (cell_of F (weight_at (opposite b)) seed) ≤ mass b = λ seed. subst (λ n. nat_abs (cell_of F (weight_at (opposite b)) seed) ≤ n) same (small_booking F (opposite b) i seed) in
      subst (λ V. Kept F seeds G C (withdrawn F seeds under b) (g + mass b) V None) (fun_ext (λ k. ap (λ z. W k +ℤ z) (negated (leb b.from k) (ltb k b.to) b.weight)))
      (grown kept (weight_at (opposite b)) (mass b) _ _ None (gains_are F (opposite b) i seeds) (net_is F (opposite b) i) few kept.room.1 tt)
    where
      negated : (t u : Bool) (w : ℤ) → cond (t && u) (neg_ℤ w) (pos 0) ≡ neg_ℤ (cond (t && u) w (pos 0))
      negated true true w = refl
      negated true false w = refl
      negated false u w = refl

  pub kept_end : AfterEnd s (end_refusal F seeds s s.option)
  kept_end =
      let here : AfterEnd under (end_refusal F seeds under (Some b)) = subst (AfterEnd under) (sym due_under) withdrawn_here in
      subst (λ t. AfterEnd t (end_refusal F seeds t t.option)) (sym kept.is) here

-- merge of another sketch, of any shape
module _ {F : Meaning} {seeds : List ℕ} {G C g : ℕ} {W : ℕ → ℤ} {s : State} {G' C' g' : ℕ} {W' : ℕ → ℤ} {s' : State} {p' : Option Booking} (kept : Kept F seeds G C s g W None) (other : Kept F seeds G' C' s' g' W' p') where
  abbrev own' : State
  own' = told F seeds G C g W None

  abbrev their : State
  their = told F seeds G' C' g' W' p'

  abbrev merge_here : State → State → Refusal
  merge_here t u = merge_refusal t u.tally u.cells

  abbrev shapes : Refusal
  shapes = same_shape_check G C G' C'

  due_both : merge_here own' their ≡ (shapes ⨾ limit_check (g + g'))
  due_both =
      let n = entries own'.tally in
      let fit = limit_check (g + g') in
      ap (λ r. shapes ⨾ (r ⨾ (length_check other_table n their.cells ⨾ cells_check 0 g own'.cells ⨾ cells_check other_cells g' their.cells ⨾ fit))) (long kept own_table n (size kept))
      ∙ ap (λ r. shapes ⨾ (r ⨾ (cells_check 0 g own'.cells ⨾ cells_check other_cells g' their.cells ⨾ fit))) (long other other_table n (size kept))
      ∙ ap₂ (λ r q. shapes ⨾ (r ⨾ (q ⨾ fit))) (own_free kept 0) (own_free other other_cells)

  pub merge_due : merge_here s s' ≡ (shapes ⨾ limit_check (g + g'))
  merge_due = ap₂ merge_here kept.is other.is ∙ due_both

  abbrev AfterMerge : State → State → Refusal → Type 0
  AfterMerge t u x = Kept F seeds G C (unless x t (merged t u.tally u.cells)) (g + cond (accepts x) g' 0) (λ i. W i +ℤ cond (accepts x) (W' i) (pos 0)) None

  merge_here_lem : (x : Refusal) → merge_here own' their ≡ x → AfterMerge own' their x
  merge_here_lem (Some f) e = unchanged kept
  merge_here_lem None e =
      let fits = limit_passed (g + g') (then_none shapes (limit_check (g + g')) (sym due_both ∙ e)) in
      grown kept W' g' _ _ None refl refl other.small fits tt

  pub kept_merge : AfterMerge s s' (merge_here s s')
  kept_merge = subst₂ (λ t u. AfterMerge t u (merge_here t u)) (sym kept.is) (sym other.is) (merge_here_lem (merge_here own' their) refl)
