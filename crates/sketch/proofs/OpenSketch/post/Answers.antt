use Rattle.std.proofs.Common.{◌≡◌, Err, sym, ap, ◌∙◌}
use Rattle.std.proofs.lemmas.Result.{err_from_is_err_and}
use Rattle.signs.specs.Faults.{answer, unless}
use Rattle.signs.proofs.Answers.{refused}
use Rattle.model.specs.Calls.{mass, signed_mass, gained_tally, post_refusal, posted}
use Rattle.sketch.specs.Promises.{open_state}
use Rattle.sketch.proofs.OpenSketch.post.Goals as goal

pub returns-in_err-self : goal.returns-in_err-self
returns-in_err-self g c =
    let F = g.F.SignFamily.meaning c.args.family.now in
    let seeds = c.args.seeds.now in
    let s = open_state c.args.self.now c.args.cells.now in
    let b = c.args.booking in
    let p = err_from_is_err_and c.from_residual.result c.from_residual.ensures.1 in
    let fault = c.in_err-self.field-0.0 in
    let gain = gained_tally s.tally (mass b) (signed_mass b) in
    let told : Err fault ≡ answer (post_refusal F seeds s b) gain = c.in_err-self.ensures.answers in
    let refusal = refused (post_refusal F seeds s b) gain fault told in
    let same = c.in_err-self.ensures.table ∙ ap (λ r. unless r s.cells (posted F seeds s b).cells) refusal in
    record {
      answers = p.1 ∙ ap Err p.2 ∙ sym (ap (λ r. answer r tt) refusal);
      leaves = ap (open_state c.args.self.now) same ∙ sym (ap (λ r. unless r s (posted F seeds s b)) refusal);
    }
