use Rattle.std.proofs.Common.{◌≡◌, ℕ, suc, ◌*◌, ◌%◌, ◌<◌, ◌≤◌, List, map, length, get_or, set, ℤ, pos, ◌*ℤ◌, None, Ok, sym, ap, ◌∙◌, subst, ap₂, subst₂, mul-le-mul_right, arith, w64, SFits, to_z, of_z, rules}
use Rattle.std.proofs.lemmas.List.FromFn.{length-map-range_with_len, get_or-map-range_with_len}
use Rattle.std.proofs.lemmas.Int.{to_z-of_z}
use Rattle.std.specs.List.{range_with_len}
use Rattle.signs.specs.Faults.{Refusal, answer, unless}
use Rattle.signs.specs.Sums.{sum}
use Rattle.signs.specs.SumsLemmas.{sum_ext}
use Rattle.signs.proofs.Answers.{accepted}
use Rattle.model.specs.declared.Estimate.{Estimate}
use Rattle.model.specs.Calls.{entries}
use Rattle.model.specs.Middle.{Middle, middle_of}
use Rattle.model.specs.Overlap.{group_total, estimate, overlap_refusal}
use Rattle.model.proofs.Middle.{middle_of_lem}
use Rattle.sketch.specs.Promises.{tally_of}
use Rattle.tables.proofs.Swept.{swept_more, swept_all}
use Rattle.overlap.proofs.Comparable.{Comparable, overlap_passed}
use Rattle.overlap.proofs.overlap.Goals as goal
use Rattle.overlap.proofs.Groups.{GroupOf, group_is}
use Rattle.overlap.proofs.overlap.Goals.{In_ok-check_overlap, After-cells_of-in-loop-group}

module _ (c : In_ok-check_overlap) where
  abbrev refusal : Refusal
  refusal = overlap_refusal (tally_of c.args.first.now) c.args.first_cells.now (tally_of c.args.second.now) c.args.second_cells.now c.args.totals.now

  free : refusal ≡ None
  free =
      let passed = c.in_ok-check_overlap.field-0 in
      let told : Ok passed ≡ answer refusal tt = c.in_ok-check_overlap.ensures in
      accepted refusal tt passed (sym told)

  fine : Comparable (tally_of c.args.first.now) c.args.first_cells.now (tally_of c.args.second.now) c.args.second_cells.now c.args.totals.now
  fine = overlap_passed _ _ _ _ _ free

  abbrev one : ℕ → ℤ
  one = group_total c.args.first.now.shape.columns c.args.first_cells.now c.args.second_cells.now

  abbrev all : List ℤ
  all = map one (range_with_len 0 c.args.first.now.shape.groups)

  many : length all ≡ c.args.first.now.shape.groups
  many = length-map-range_with_len one 0 c.args.first.now.shape.groups

  long : length all ≡ length c.args.totals.now
  long = many ∙ sym fine.totals_long

-- a group's cells are there
group_there : (c : In_ok-check_overlap) (n group : ℕ) (cells : List ℤ) → n ≡ c.args.first.now.shape.columns → group < length c.args.totals.now → length cells ≡ entries (tally_of c.args.first.now) → suc group * n ≤ length cells
group_there c n group cells e below long =
    let part : suc group * c.args.first.now.shape.columns ≤ c.args.first.now.shape.groups * c.args.first.now.shape.columns = mul-le-mul_right c.args.first.now.shape.columns (omega (arith, (fine c).totals_long, below)) in
    subst (λ m. suc group * m ≤ length cells) (sym e) (omega (arith, part, long))

-- the groups of the two sketches
record Groups (c : After-cells_of-in-loop-group) : Type 0 where
  first : GroupOf c.columns-columns.result c.loop-group.group c.args.first_cells.now c.cells_of.result.now
  second : GroupOf c.columns-columns.result c.loop-group.group c.args.second_cells.now c.cells_of-in-loop-group.result.now

groups : (c : After-cells_of-in-loop-group) → Groups c
groups c =
    let w = (goal.at.After-cells_of-in-loop-group c).In_ok-check_overlap in
    record {
      first = group_is _ _ _ _ (group_there w _ _ _ c.columns-columns.ensures c.loop-group-test.true (fine w).first_long) c.cells_of.ensures;
      second = group_is _ _ _ _ (group_there w _ _ _ c.columns-columns.ensures c.loop-group-test.true (fine w).second_long) c.cells_of-in-loop-group.ensures;
    }

pub total_of-requires : goal.total_of-requires
total_of-requires c =
    let f = fine (goal.at.total_of-requires c).In_ok-check_overlap in
    let r = groups (goal.at.total_of-requires c).After-cells_of-in-loop-group in
    record {
      same = r.second.long ∙ sym r.first.long;
      few = omega (arith, r.first.long, c.columns-columns.ensures, c.args.first.now.shaped.3);
      own = r.first.limited (λ k h. omega (arith, f.first_small k h, c.args.first.now.limited));
      other = r.second.limited (λ k h. omega (arith, f.second_small k h, c.args.second.now.limited));
    }

pub loop-group-preserved : goal.loop-group-preserved
loop-group-preserved c =
    let w = (goal.at.loop-group-preserved c).In_ok-check_overlap in
    let r = groups (goal.at.loop-group-preserved c).After-cells_of-in-loop-group in
    let i = c.loop-group.group in
    let n = c.columns-columns.result in
    let cells = c.args.first_cells.now in
    let others = c.args.second_cells.now in
    let below : i < c.args.first.now.shape.groups = omega (arith, (fine w).totals_long, c.loop-group-test.true) in
    let fits : SFits w64 c.total_of.result = search rules in
    let total : c.total_of.result ≡ one w i =
    c.total_of.ensures
    ∙ ap (λ m. sum m (λ j. get_or c.cells_of.result.now j (pos 0) *ℤ get_or c.cells_of-in-loop-group.result.now j (pos 0))) r.first.long
    ∙ sum_ext n _ _ (λ j l. ap₂ ◌*ℤ◌ (r.first.at j l) (r.second.at j l))
    ∙ ap (λ m. group_total m cells others i) c.columns-columns.ensures in
    let here : to_z w64 (of_z w64 c.total_of.result) ≡ get_or (all w) i (pos 0) =
    to_z-of_z w64 c.total_of.result fits ∙ total ∙ sym (get_or-map-range_with_len (one w) 0 c.args.first.now.shape.groups i i (pos 0) below (omega arith)) in
    ap (set c.loop-group.totals i) here ∙ swept_more c.args.totals.now (all w) (long w) c.loop-group.totals i (pos 0) c.loop-group-test.true c.loop-group.invariant

pub returns : goal.returns
returns c =
    let w = (goal.at.returns c).In_ok-check_overlap in
    let t = tally_of c.args.first.now in
    let fits : SFits w64 c.middle_of.result = search rules in
    let done : c.loop-group.totals ≡ all w = swept_all c.args.totals.now (all w) (long w) c.loop-group.totals c.loop-group.group c.loop-group-test.false c.loop-group.invariant in
    let odd : length (all w) % 2 ≡ 1 = ap (λ n. n % 2) (many w) ∙ c.args.first.now.shaped.0 in
    let middle : to_z w64 (of_z w64 c.middle_of.result) ≡ middle_of (all w) = to_z-of_z w64 c.middle_of.result fits ∙ c.middle_of.ensures ∙ ap middle_of done in
    let made : ℕ → ℤ → Estimate = λ n z. record { columns = n; middle = z } in
    record {
      answers = ap₂ (λ n z. Ok (made n z)) c.columns-columns.ensures middle ∙ sym (ap (λ r. answer r (estimate t.groups t.columns c.args.first_cells.now c.args.second_cells.now)) (free w));
      table = done ∙ sym (ap (λ r. unless r c.args.totals.now (all w)) (free w));
      middle = subst₂ Middle (sym done) (sym middle) (middle_of_lem (all w) odd);
    }
