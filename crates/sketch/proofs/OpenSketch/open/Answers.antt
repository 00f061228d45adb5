use Rattle.std.proofs.Common.{◌≡◌, length, replicate, pos, Ok, Err, Result, sym, ap, ◌∙◌}
use Rattle.std.proofs.lemmas.Result.{err_from_is_err_and}
use Rattle.signs.specs.declared.faults.Fault.{Fault}
use Rattle.signs.specs.Faults.{answer, unless}
use Rattle.signs.proofs.Answers.{accepted, refused}
use Rattle.model.specs.Calls.{State, open_refusal, begun}
use Rattle.model.proofs.Law.{sketch_law}
use Rattle.sketch.specs.Promises.{open_answer}
use Rattle.sketch.proofs.OpenSketch.open.Goals as goal

abbrev ok : State → Result State Fault
ok s = Ok s

pub returns-in_err-check_opening : goal.returns-in_err-check_opening
returns-in_err-check_opening g c =
    let F = g.F.SignFamily.meaning c.args.family.now in
    let found = c.args.cells.now in
    let made = begun c.args.shape.groups c.args.shape.columns found in
    let refusal = open_refusal F c.args.shape.groups c.args.shape.columns c.args.seeds.now found in
    let p = err_from_is_err_and c.from_residual.result c.from_residual.ensures.1 in
    let bad = refused refusal tt c.in_err-check_opening.field-0.0 c.in_err-check_opening.ensures in
    record {
      opens = record {
        answers = ap (λ r. open_answer r found) p.1 ∙ ap Err p.2 ∙ sym (ap (λ r. answer r made) bad);
        table = sym (ap (λ r. unless r found made.cells) bad);
      };
      law = sketch_law (g.met.F.SignFamily.lawful c.args.family.now);
    }

pub returns : goal.returns
returns g c =
    let F = g.F.SignFamily.meaning c.args.family.now in
    let found = c.args.cells.now in
    let made = begun c.args.shape.groups c.args.shape.columns found in
    let refusal = open_refusal F c.args.shape.groups c.args.shape.columns c.args.seeds.now found in
    let free = accepted refusal tt tt (sym c.in_ok-check_opening.ensures) in
    let zeros : c.fill.new.self ≡ replicate (length found) (pos 0) = c.fill.ensures.after (λ y e. e) in
    record {
      opens = record {
        answers = ap (λ cells. ok (record { tally = made.tally; cells = cells; option = made.option })) zeros ∙ sym (ap (λ r. answer r made) free);
        table = zeros ∙ sym (ap (λ r. unless r found made.cells) free);
      };
      law = sketch_law (g.met.F.SignFamily.lawful c.args.family.now);
    }
