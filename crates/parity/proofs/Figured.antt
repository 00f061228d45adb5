-- The worked figures hold: one test over the table, computed. Assumes nothing.
use Rattle.std.proofs.Common.{◌≡◌, Bool, true, false, ◌&&◌, eqb, List, [], ◌∷◌, ℤ, pos, negsuc, Ok, Err, Result, refl, ap}
use lib.Count.{ones, ones_in}
use Rattle.std.specs.List.{AllByRecursion}
use Rattle.std.proofs.lemmas.Bool.{and_parts, eqb-true, false≢true}
use Rattle.signs.specs.declared.faults.Fault.{Fault}
use Rattle.signs.specs.Sums.{sum}
use Rattle.signs.specs.Cover.{level_at, cover_sum}
use Rattle.signs.proofs.Blocks.{ok}
use Rattle.parity.specs.Parity.{pairs}
use Rattle.parity.specs.Figures.{Figure, figures, by_signs, by_rules, Holds, FiguresHold}

abbrev same_int : ℤ → ℤ → Bool
same_int (pos m) (pos n) = eqb m n
same_int (pos m) (negsuc n) = false
same_int (negsuc m) (pos n) = false
same_int (negsuc m) (negsuc n) = eqb m n

int_true : (x y : ℤ) → same_int x y ≡ true → x ≡ y
int_true (pos m) (pos n) e = ap (λ k. pos k) (eqb-true m n e)
int_true (pos m) (negsuc n) e = absurd (false≢true e)
int_true (negsuc m) (pos n) e = absurd (false≢true e)
int_true (negsuc m) (negsuc n) e = ap (λ k. negsuc k) (eqb-true m n e)

abbrev same_answer : Result ℤ Fault → ℤ → Bool
same_answer (Ok x) z = same_int x z
same_answer (Err f) z = false

answer_true : (r : Result ℤ Fault) (z : ℤ) → same_answer r z ≡ true → r ≡ Ok z
answer_true (Ok x) z e = ap ok (int_true x z e)
answer_true (Err f) z e = absurd (false≢true e)

-- one test over a table of questions of any kind
module _ {Q : Type 0} (by_signs : Q → Result ℤ Fault) (by_rules : Q → ℤ) where
  abbrev right : Figure Q → Bool
  right f = same_answer (by_signs f.asked) f.gives && same_int (by_rules f.asked) f.gives

  abbrev pub all_right : List (Figure Q) → Bool
  all_right [] = true
  all_right (f ∷ fs) = right f && all_right fs

  pub all_true : (fs : List (Figure Q)) → all_right fs ≡ true → AllByRecursion (Holds by_signs by_rules) fs
  all_true [] e = tt
  all_true (f ∷ fs) e =
      let p = and_parts (right f) (all_right fs) e in
      let q = and_parts (same_answer (by_signs f.asked) f.gives) (same_int (by_rules f.asked) f.gives) p.0 in
      (record { signs = answer_true (by_signs f.asked) f.gives q.0; rules = int_true (by_rules f.asked) f.gives q.1 }, all_true fs p.1)

computed : all_right by_signs by_rules figures ≡ true
unfolding sum pairs level_at cover_sum ones ones_in
computed = refl

pub figures_hold : FiguresHold
figures_hold = all_true by_signs by_rules figures computed
