use Rattle.std.proofs.Common.{◌≡◌, ℕ, ◌<◌, leb, length, get_or, sym, ap}
use Rattle.signs.specs.declared.reason.Reason.TheVariants.{Seed}
use Rattle.signs.specs.Faults.{refuse_if, family_fault}
use Rattle.signs.proofs.Entries.{first_refused, none_refused}
use Rattle.model.specs.Calls.{seed_check_at}
use Rattle.tables.proofs.check_seeds.Given as given
use Rattle.tables.proofs.check_seeds.Goals as goal
use Rattle.tables.proofs.check_seeds.Goals.{After-first_unknown}

checks : (g : given.Over) (c : After-first_unknown g) (k : ℕ) → k < length c.args.seeds.now
    → seed_check_at (g.F.SignFamily.meaning c.args.family.now) c.args.seeds.now k ≡ refuse_if (leb c.seed_count.result (get_or c.args.seeds.now k 0)) (family_fault Seed k)
checks g c k l = ap (λ n. refuse_if (leb n (get_or c.args.seeds.now k 0)) (family_fault Seed k)) (sym c.seed_count.ensures)

pub returns-in-Some : goal.returns-in-Some
returns-in-Some g c =
    first_refused (leb c.seed_count.result) c.args.seeds.now 0 _ (family_fault Seed) _ c.first_unknown.ensures (checks g (goal.at.returns-in-Some g c).After-first_unknown) _ _ c.in-Some.is c.fault.ensures

pub returns-in-None : goal.returns-in-None
returns-in-None g c =
    none_refused (leb c.seed_count.result) c.args.seeds.now 0 _ (family_fault Seed) _ c.first_unknown.ensures (checks g (goal.at.returns-in-None g c).After-first_unknown) c.in-None.is
