use Rattle.std.proofs.Common.{ℤ, Bool, not, rules, tests, ◌∙◌}
use Rattle.std.specs.Prelude.{int_le}
use Rattle.std.proofs.lemmas.Iterator.{YieldsList-from_slice}
use Rattle.std.proofs.lemmas.Iterator.Consumers.{YieldsList-from_filter, count_from_yields_List}
use Rattle.std.proofs.lemmas.List.Sums.{length-filter}
use Rattle.model.specs.Middle.{smaller, greater}
use Rattle.overlap.proofs.ranks.Goals as goal

pub returns-clause-smaller : goal.returns-clause-smaller
unfolding smaller
returns-clause-smaller c =
    let xs = c.args.totals.now in
    let p : ℤ → Bool = λ x. not (int_le c.args.pivot x) in
    count_from_yields_List c.filter.result c.count-below.result c.count-below.ensures.ran
    (YieldsList-from_filter _ p (YieldsList-from_slice xs cc) c.filter.ensures.closure (λ x b q k. search (rules, tests)))
    ∙ length-filter p xs

pub returns-clause-greater : goal.returns-clause-greater
unfolding greater
returns-clause-greater c =
    let xs = c.args.totals.now in
    let p : ℤ → Bool = λ x. not (int_le x c.args.pivot) in
    count_from_yields_List c.filter-2.result c.count-above.result c.count-above.ensures.ran
    (YieldsList-from_filter _ p (YieldsList-from_slice xs cc) c.filter-2.ensures.closure (λ x b q k. search (rules, tests)))
    ∙ length-filter p xs
