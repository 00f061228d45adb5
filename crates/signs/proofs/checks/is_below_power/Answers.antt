use Rattle.std.proofs.Common.{◌^◌, ◌≤◌, sym, ◌∙◌, arith, pow_mono}
use Rattle.std.proofs.lemmas.Bool.{le-leb, lt-ltb}
use Rattle.signs.proofs.checks.is_below_power.Goals as goal

pub returns-then-k-ge32 : goal.returns-then-k-ge32
returns-then-k-ge32 c =
    let k = c.args.k in
    let wide : 2 ^ 32 ≤ 2 ^ k = pow_mono {i = 32} {j = k} (omega arith) in
    le-leb 32 k (omega arith) ∙ sym (lt-ltb c.args.x (2 ^ k) (omega arith))
