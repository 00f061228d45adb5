use Rattle.std.proofs.Common.{◌≡◌, ℕ, ◌^◌, ◌<◌, ◌≤◌, ◌∷◌, [], length, get_or, ℤ, pos, ◌*ℤ◌, nat_abs, sym, ap, ◌∙◌, length-append, arith, rules}
use Rattle.std.proofs.lemmas.Slice.Zip.{zip_turn}
use Rattle.signs.specs.Sums.{sum}
use Rattle.signs.specs.SumsLemmas.{sum_none}
use Rattle.overlap.proofs.Products.{product_fits, total_fits, total_more}
use Rattle.overlap.proofs.total_of.Goals as goal
use Rattle.overlap.proofs.total_of.Goals.{In-Some}

-- the cell and the one beside it, of a turn
record Turn (c : In-Some) : Type 0 where
  few : length c.loop-cell.yielded < 32
  small : (k : ℕ) → k ≤ length c.loop-cell.yielded → (nat_abs (get_or c.args.cells.now k (pos 0)) ≤ 2 ^ 26) × (nat_abs (get_or c.args.others.now k (pos 0)) ≤ 2 ^ 26)
  left : c.in-Some.cell.now ≡ get_or c.args.cells.now (length c.loop-cell.yielded) (pos 0)
  right : c.in-Some.other.now ≡ get_or c.args.others.now (length c.loop-cell.yielded) (pos 0)

turn : (c : In-Some) → Turn c
turn c =
    let t = zip_turn c.args.cells.now c.args.others.now c.loop-cell.yielded _ _ c.next.new.self _ (search rules) (search rules) c.loop-cell.yielded_by (c.in-Some.cell, c.in-Some.other) c.in-Some.is c.next.ensures.steps in
    record {
      few = omega (arith, t.0, c.requires.few);
      small = λ k h. (c.requires.own k (omega (arith, t.0)), c.requires.other k (omega (arith, t.1)));
      left = t.2 (pos 0);
      right = t.3 (pos 0);
    }

abbrev cell_of : In-Some → ℕ → ℤ
cell_of c k = get_or c.args.cells.now k (pos 0)

abbrev other_of : In-Some → ℕ → ℤ
other_of c k = get_or c.args.others.now k (pos 0)

pub loop-cell-init : goal.loop-cell-init
loop-cell-init c = sym (sum_none _)

pub overflow_mul-total : goal.overflow_mul-total
overflow_mul-total c =
    let w = (goal.at.overflow_mul-total c).In-Some in
    let t = turn w in
    product_fits (cell_of w) (other_of w) (length c.loop-cell.yielded) t.few t.small _ _ t.left t.right

pub overflow_add-total : goal.overflow_add-total
overflow_add-total c =
    let w = (goal.at.overflow_add-total c).In-Some in
    let t = turn w in
    total_fits (cell_of w) (other_of w) (length c.loop-cell.yielded) t.few t.small _ _ t.left t.right _ c.loop-cell.invariant

pub loop-cell-preserved : goal.loop-cell-preserved
loop-cell-preserved c =
    let w = (goal.at.loop-cell-preserved c).In-Some in
    let t = turn w in
    total_more (cell_of w) (other_of w) (length c.loop-cell.yielded) t.few t.small _ _ t.left t.right _ c.loop-cell.invariant
    ∙ ap (λ n. sum n (λ k. cell_of w k *ℤ other_of w k)) (sym (length-append c.loop-cell.yielded (_ ∷ [])))
