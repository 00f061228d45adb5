use Rattle.std.proofs.Common.{◌≡◌, ℕ, ◌-◌, ◌%◌, ◌^◌, ◌≤◌, ap, ◌∙◌, arith}
use Rattle.parity.specs.Parity.{pairs}
use Rattle.parity.proofs.Eh3Sums.{pairs_le, pairs_low, size_is}
use Rattle.parity.proofs.eh3.zero_pair_count.Goals as goal

-- the lowest pairs that hold a one, as code counts them
counted : (m x size count : ℕ) → m ≤ 12 → size ≡ 4 ^ m → count ≡ pairs 16 (x % size) → count ≡ pairs m x
counted m x size count h e p = p ∙ ap (λ y. pairs 16 (x % y)) e ∙ pairs_low m 16 x (omega arith)

pub overflow_sub-result : goal.overflow_sub-result
overflow_sub-result c =
    let m = c.args.half in
    let n = counted m c.args.x _ _ (omega arith) (size_is m (omega arith)) c.pair_count.ensures.is in
    let l = pairs_le m c.args.x in
    omega arith

pub returns : goal.returns
returns c =
    let m = c.args.half in
    let n = counted m c.args.x _ _ (omega arith) (size_is m (omega arith)) c.pair_count.ensures.is in
    record { is = ap (λ y. m - y) n; few = omega arith }
