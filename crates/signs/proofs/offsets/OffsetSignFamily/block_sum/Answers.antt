use Rattle.std.proofs.Common.{◌≡◌, ℕ, ◌+◌, ◌*◌, ◌%◌, ◌^◌, ℤ, sym, ap, ap₂, ◌∙◌, arith, pow_pos}
use Rattle.signs.specs.Family.{value}
use Rattle.signs.specs.Offset.{shifted}
use Rattle.signs.proofs.Blocks.{ok, block_ok, asked}
use Rattle.signs.specs.Shifts.{round, block_round}
use Rattle.signs.proofs.offsets.OffsetSignFamily.block_sum.Goals as goal

pub sum_round-requires : goal.sum_round-requires
sum_round-requires g c =
    let F = g.F.SignFamily.meaning c.args.self.now.below in
    let L = g.met.F.SignFamily.lawful c.args.self.now.below in
    let a = asked F.width F.seeds _ _ _ _ _ _ _ L.narrow c.width-width.ensures c.seed_count.ensures c.in_ok-check_seed.ensures c.in_ok-check_block.ensures in
    let n : 2 ^ c.width-width.result ≡ 2 ^ F.width = ap (λ x. 2 ^ x) c.width-width.ensures in
    let size = a.shift.size in
    let run = a.shift.run in
    record { seed = a.seed; start = omega (arith, c.moved-start.ensures.there); size = (omega (arith, pow_pos c.args.block.level), omega arith) }

pub returns : goal.returns
returns g c =
    let f = c.args.self.now in
    let F = g.F.SignFamily.meaning f.below in
    let L = g.met.F.SignFamily.lawful f.below in
    let a = asked F.width F.seeds _ _ _ _ _ _ _ L.narrow c.width-width.ensures c.seed_count.ensures c.in_ok-check_seed.ensures c.in_ok-check_block.ensures in
    let s = c.args.seed in
    let j = c.args.block.level in
    let q = c.args.block.number in
    let v : ℕ → ℤ = λ i. value (F.sign s i) in
    let start : c.moved-start.result ≡ (q * 2 ^ j + f.offset) % 2 ^ F.width =
    c.moved-start.ensures.is ∙ ap₂ (λ x n. (x + f.offset) % 2 ^ n) a.shift.first c.width-width.ensures in
    c.sum_round.ensures
    ∙ ap (λ x. ok (round v (2 ^ F.width) c.moved-start.result x)) a.shift.size
    ∙ ap (λ x. ok (round v (2 ^ F.width) x (2 ^ j))) start
    ∙ ap ok (block_round F f.offset s j q)
    ∙ sym (block_ok (shifted F f.offset) s j q a.seed a.block)
