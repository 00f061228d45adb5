use Rattle.std.proofs.Common.{pos, unwrap_or, sym, ap, ◌∙◌, w64, SFits, rules}
use Rattle.std.specs.Prelude.{int_le}
use Rattle.std.proofs.lemmas.Int.{to_z-of_z}
use Rattle.model.specs.Middle.{central, middle_by}
use Rattle.overlap.proofs.Counts.{first_found}
use Rattle.overlap.proofs.middle_of.Goals as goal

pub returns : goal.returns
unfolding middle_by
returns c =
    let fits : SFits w64 c.unwrap_or.result = search rules in
    let xs = c.args.totals.now in
    to_z-of_z w64 c.unwrap_or.result fits ∙ c.unwrap_or.ensures ∙ ap (λ o. unwrap_or o (pos 0)) c.first_central.ensures ∙ sym (first_found (central int_le xs) (pos 0) xs)
