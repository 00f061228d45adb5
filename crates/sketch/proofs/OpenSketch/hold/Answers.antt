use Rattle.std.proofs.Common.{◌≡◌, Err, sym, ap, ◌∙◌}
use Rattle.signs.specs.Faults.{answer, unless}
use Rattle.signs.proofs.Answers.{refused}
use Rattle.model.specs.Calls.{mass, signed_mass, gained_tally, hold_refusal, held}
use Rattle.sketch.specs.Promises.{open_state}
use Rattle.sketch.proofs.OpenSketch.hold.Goals as goal

pub returns-in-Err : goal.returns-in-Err
returns-in-Err g c =
    let F = g.F.SignFamily.meaning c.args.family.now in
    let seeds = c.args.seeds.now in
    let s = open_state c.args.self c.args.cells.now in
    let b = c.args.booking in
    let gain = gained_tally s.tally (mass b) (signed_mass b) in
    let told : Err c.in-Err.fault ≡ answer (hold_refusal F seeds s b) gain = c.in-Err.ensures.answers in
    let refusal = refused (hold_refusal F seeds s b) gain c.in-Err.fault told in
    let same = c.in-Err.ensures.table ∙ ap (λ r. unless r s.cells (held F seeds s b).cells) refusal in
    record {
      answers = sym refusal;
      leaves = ap (open_state c.args.self) same ∙ sym (ap (λ r. unless r s (held F seeds s b)) refusal);
    }
