use Rattle.std.proofs.Common.{◌≡◌, ◌-◌, ◌/◌, leb, ◌&&◌, length, sym, ap, ap₂, ◌∙◌, w64}
use Rattle.std.specs.Prelude.{int_le}
use Rattle.std.proofs.lemmas.Int.{to_z-of_z}
use Rattle.std.proofs.lemmas.Bool.{le-leb, lt-leb}
use Rattle.model.specs.Middle.{half, smaller, greater, central}
use Rattle.overlap.proofs.is_central.Goals as goal
use Rattle.overlap.proofs.is_central.Goals.{After-ranks-below}

-- the two tests of the rule, as code makes them

low : (c : After-ranks-below) → leb c.ranks-below.result.0 (c.saturating_sub-half.result / 2) ≡ leb (smaller int_le c.args.totals.now c.args.pivot) ((length c.args.totals.now - 1) / 2)
low c =
    ap₂ leb (c.ranks-below.ensures.smaller ∙ ap (smaller int_le c.args.totals.now) (to_z-of_z w64 c.args.pivot c.ranges.pivot)) (ap (λ n. n / 2) c.saturating_sub-half.ensures)

high : (c : After-ranks-below) → leb c.ranks-below.result.1 (c.saturating_sub-half.result / 2) ≡ leb (greater int_le c.args.totals.now c.args.pivot) ((length c.args.totals.now - 1) / 2)
high c =
    ap₂ leb (c.ranks-below.ensures.greater ∙ ap (greater int_le c.args.totals.now) (to_z-of_z w64 c.args.pivot c.ranges.pivot)) (ap (λ n. n / 2) c.saturating_sub-half.ensures)

pub returns-then-below-half : goal.returns-then-below-half
unfolding central half
returns-then-below-half c =
    let w = (goal.at.returns-then-below-half c).After-ranks-below in
    let few = sym (low w) ∙ le-leb _ _ c.if-below-half.true in
    high w ∙ sym (ap (λ t. t && leb (greater int_le c.args.totals.now c.args.pivot) ((length c.args.totals.now - 1) / 2)) few)

pub returns-else-below-half : goal.returns-else-below-half
unfolding central half
returns-else-below-half c =
    let w = (goal.at.returns-else-below-half c).After-ranks-below in
    let many = lt-leb _ _ c.if-below-half.false in
    many ∙ sym (ap (λ t. t && leb (greater int_le c.args.totals.now c.args.pivot) ((length c.args.totals.now - 1) / 2)) (sym (low w) ∙ many))
