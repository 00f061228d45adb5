use Rattle.std.proofs.Common.{sym, ◌∙◌, arith}
use Rattle.signs.proofs.Answers.{accepted}
use Rattle.model.specs.Calls.{merge_refusal}
use Rattle.model.proofs.Checks.{merge_passed}
use Rattle.sketch.specs.Promises.{tally_of, open_state}
use Rattle.sketch.proofs.OpenSketch.merge.Goals as goal

pub add-requires : goal.add-requires
add-requires c =
    let s = open_state c.args.self.now c.args.cells.now in
    let u = tally_of c.args.other.now in
    let others = c.args.other_cells.now in
    let fine = merge_passed s u others (accepted (merge_refusal s u others) tt tt (sym c.in_ok-check_merge.ensures)) in
    record {
      same = fine.others_long ∙ sym fine.own_long;
      own = λ k h. omega (arith, fine.own k h, c.args.self.now.figures.limited);
      other = λ k h. omega (arith, fine.other k h, c.args.other.now.limited);
    }
