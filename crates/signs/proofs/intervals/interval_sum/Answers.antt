use Rattle.std.proofs.Common.{◌≡◌, ◌∙◌, rules}
use Rattle.signs.specs.Family.{interval_answer}
use Rattle.signs.proofs.Cover.{cover_answer_lem}
use Rattle.signs.proofs.intervals.interval_sum.Goals as goal

pub returns : goal.returns
returns g c =
    let F = g.F.SignFamily.meaning c.args.family.now in
    let L = g.met.F.SignFamily.lawful c.args.family.now in
    let is : c.sum_of_blocks.result ≡ interval_answer F c.args.seed c.args.slots.start c.args.slots.end = search rules in
    record { is = is; cover = is ∙ cover_answer_lem F L c.args.seed c.args.slots.start c.args.slots.end }
