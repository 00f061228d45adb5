use Rattle.std.proofs.Common.{◌≡◌, ◌*◌, ◌/◌, ◌%◌, ◌^◌, eqb, pos, ◌*ℤ◌, sym, ap, ◌∙◌, mod-eq_of_lt, arith, w64, SFits}
use Rattle.std.proofs.lemmas.Nat.{one_shl}
use Rattle.std.proofs.lemmas.Int.{to_z-of_z}
use Rattle.std.proofs.lemmas.Bool.{eq-eqb, ne_eqb, cond-true, cond-false}
use Rattle.signs.specs.Family.{value}
use Rattle.signs.proofs.Powers.{trailing_divides, divides_trailing}
use Rattle.parity.specs.Parity.{sign_by, bch3_sign}
use Rattle.parity.proofs.bch3.closed_sum.Goals as goal

pub returns-then-seed-block : goal.returns-then-seed-block
returns-then-seed-block c =
    let a = c.args.seed / 2 in
    let j = c.args.block.level in
    let not : a % 2 ^ j ≡ 0 → ⊥ = λ e. let l = divides_trailing 64 a j (omega arith) e in omega arith in
    sym (cond-false (eqb (a % 2 ^ j) 0) _ _ (ne_eqb (a % 2 ^ j) 0 not))

pub returns : goal.returns
returns c =
    let s = c.args.seed in
    let j = c.args.block.level in
    let q = c.args.block.number in
    let e = trailing_divides 64 (s / 2) j c.if-seed-block.false in
    let size : 1 * 2 ^ j % 4294967296 ≡ 2 ^ j = one_shl j 32 c.requires.level in
    let first : q * 2 ^ j % 4294967296 ≡ q * 2 ^ j = mod-eq_of_lt c.requires.number in
    let fits : SFits w64 c.signed.result = record { sfits = c.signed.type_inv } in
    to_z-of_z w64 c.signed.result fits
    ∙ c.signed.ensures
    ∙ ap (λ x. pos x *ℤ value c.sign_by.result) size
    ∙ ap (λ x. pos (2 ^ j) *ℤ value x) (c.sign_by.ensures ∙ ap sign_by c.bch3_ones.ensures.is ∙ ap (bch3_sign s) first)
    ∙ sym (cond-true (eqb (s / 2 % 2 ^ j) 0) _ _ (eq-eqb (s / 2 % 2 ^ j) 0 e))
