use Rattle.std.proofs.Common.{◌≡◌, ◌+◌, ◌*◌, ◌/◌, ◌%◌, ◌^◌, ◌<◌, ◌≤◌, nat_abs, ap, ◌∙◌, mod-eq_of_lt, arith, pow_mono, w64, to_z, of_z}
use Rattle.std.proofs.lemmas.Nat.{one_shl}
use Rattle.std.proofs.lemmas.Int.{to_z-of_z}
use Rattle.parity.specs.Parity.{bch3_ones, pairs, zero_pairs}
use Rattle.parity.proofs.Eh3Sums.{rule_is, term, term_abs, two_four}
use Rattle.parity.proofs.eh3.even_sum.Goals as goal

pub returns : goal.returns
returns c =
    let s = c.args.seed in
    let m = c.args.half in
    let q = c.args.number in
    let slot : q * 2 ^ (2 * m) ≡ q * 4 ^ m = ap (λ y. q * y) (two_four m) in
    let first : q * 2 ^ (2 * m) % 4294967296 ≡ q * 4 ^ m = mod-eq_of_lt (let b : q * 2 ^ (2 * m) < 2 ^ 32 = omega arith in b) ∙ slot in
    let power : 1 * 2 ^ m % 4294967296 ≡ 2 ^ m = one_shl m 32 (omega arith) in
    let few : 2 ^ m ≤ 2 ^ 12 = pow_mono {i = m} {j = 12} (omega arith) in
    let x = bch3_ones s (q * 4 ^ m) + pairs 16 (q * 4 ^ m) in
    let signed = c.signed.ensures in
    let sign = c.sign_by.ensures in
    let ones = c.eh3_ones.ensures.is in
    let zeros = c.zero_pair_count-zeros.ensures.is in
    let is : c.signed.result ≡ term (2 ^ m) (x + zero_pairs m (s / 2)) = cc in
    let same = to_z-of_z w64 c.signed.result (record { sfits = c.signed.type_inv }) in
    let rule = rule_is (zero_pairs m (s / 2)) (2 ^ m) x in
    let abs : nat_abs (to_z w64 (of_z w64 c.signed.result)) ≡ 2 ^ m = ap nat_abs (same ∙ is) ∙ term_abs (2 ^ m) (x + zero_pairs m (s / 2)) in
    record { is = cc; small = omega arith }
