use Rattle.std.proofs.Common.{◌+◌, ◌^◌, ◌<◌, Ok, Result, sym, ap, ◌∙◌, subst, arith}
use Rattle.signs.specs.declared.faults.Fault.{Fault}
use Rattle.signs.specs.declared.family.Sign.{Sign}
use Rattle.signs.proofs.Answers.{seed_passed, slot_passed}
use Rattle.signs.proofs.Blocks.{sign_ok}
use Rattle.parity.specs.Parity.{sign_by, eh3}
use Rattle.parity.proofs.Eh3Sums.{sign_32}
use Rattle.parity.proofs.eh3.Eh3SignFamily.sign.Goals as goal

abbrev signed : Sign → Result Sign Fault
signed s = Ok s

pub returns : goal.returns
returns c =
    let n = c.args.self.now.width in
    let s = c.args.seed in
    let i = c.args.slot in
    let seed : s < 2 ^ (n + 1) = subst (λ x. s < x) c.seed_count.ensures (seed_passed _ s _ c.in_ok-check_seed.ensures) in
    let slot : i < 2 ^ n = slot_passed n i _ c.in_ok-check_slot.ensures in
    ap signed (c.sign_by.ensures ∙ ap sign_by c.eh3_ones.ensures.is ∙ sign_32 n s i c.args.self.now.even (omega arith) slot)
    ∙ sym (sign_ok (eh3 n) s i seed slot)
