use Rattle.std.proofs.Common.{sym, ap, ◌∙◌}
use Rattle.signs.specs.Faults.{unless}
use Rattle.signs.proofs.Answers.{refused}
use Rattle.model.specs.Calls.{mass, signed_mass, opposite, gained_tally, withdraw_refusal, withdrawn}
use Rattle.sketch.specs.Promises.{held_state}
use Rattle.sketch.proofs.HeldSketch.withdraw.Goals as goal

pub returns-in-Err : goal.returns-in-Err
returns-in-Err g c =
    let F = g.F.SignFamily.meaning c.args.family.now in
    let seeds = c.args.seeds.now in
    let s = held_state c.args.self c.args.cells.now in
    let b = c.args.self.option in
    let refusal = refused (withdraw_refusal F seeds s b) (gained_tally s.tally (mass b) (signed_mass (opposite b))) c.in-Err.fault c.in-Err.ensures.answers in
    let same = c.in-Err.ensures.table ∙ ap (λ r. unless r s.cells (withdrawn F seeds s b).cells) refusal in
    record {
      answers = sym refusal;
      leaves = ap (held_state c.args.self) same ∙ sym (ap (λ r. unless r s (withdrawn F seeds s b)) refusal);
    }
