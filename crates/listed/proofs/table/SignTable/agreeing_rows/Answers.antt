use Rattle.std.proofs.Common.{ℕ, ◌<◌, ◌^◌, Bool, cond, ◌∙◌, arith}
use Rattle.std.proofs.lemmas.Grind.{common_steps}
use Rattle.std.proofs.lemmas.Iterator.{YieldsList-from_range, YieldsList-from_map}
use Rattle.std.proofs.lemmas.Iterator.Consumers.{sum_by_from_yields_List, fits_by_from_yields_list}
use Rattle.std.specs.List.{range_with_len, sum_by}
use Rattle.signs.specs.Family.{alike}
use Rattle.listed.specs.SignTable.{family_of}
use Rattle.listed.proofs.Counts.{count_le, sum_is_count}
use Rattle.listed.proofs.table.SignTable.agreeing_rows.Goals as goal

-- each row gives 1 where the two columns are alike in it, and else 0

pub sum-requires-clause-fits : goal.sum-requires-clause-fits
sum-requires-clause-fits c =
    let t = c.args.self.now in
    let p : ℕ → Bool = λ s. alike ((family_of t).sign s c.args.a) ((family_of t).sign s c.args.b) in
    let h : ℕ → ℕ = λ s. cond (p s) 1 0 in
    let few : sum_by h (range_with_len 0 t.rows) < 2 ^ 32 = omega (arith, sum_is_count t.rows p, count_le t.rows p) in
    let rows = YieldsList-from_range 0 t.rows t.rows c.map.ensures.source (omega arith) in
    let chain = YieldsList-from_map _ h rows c.map.ensures.closure (λ x r q k. grind (arith, common_steps, k)) in
    fits_by_from_yields_list h (range_with_len 0 t.rows) c.map.result _ chain few

pub returns : goal.returns
returns c =
    let t = c.args.self.now in
    let p : ℕ → Bool = λ s. alike ((family_of t).sign s c.args.a) ((family_of t).sign s c.args.b) in
    let h : ℕ → ℕ = λ s. cond (p s) 1 0 in
    let rows = YieldsList-from_range 0 t.rows t.rows c.map.ensures.source (omega arith) in
    let chain = YieldsList-from_map _ h rows c.map.ensures.closure (λ x r q k. grind (arith, common_steps, k)) in
    sum_by_from_yields_List h (range_with_len 0 t.rows) c.map.result c.sum.result c.sum.ensures.ran chain ∙ sum_is_count t.rows p
