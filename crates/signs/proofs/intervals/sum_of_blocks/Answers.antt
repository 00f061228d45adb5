use Rattle.std.proofs.Common.{◌≡◌, suc, ◌+◌, ◌-◌, ◌*◌, ◌/◌, ◌%◌, ◌^◌, ◌≤◌, ◌+ℤ◌, nat_abs, sym, ap, ◌∙◌, subst, arith}
use Rattle.std.proofs.lemmas.Nat.{one_shl}
use Rattle.std.proofs.lemmas.Int.{ints}
use Rattle.signs.specs.Family.{value, sign_sum, block_answer}
use Rattle.signs.specs.SumsLemmas.{sum_none, signs_abs}
use Rattle.signs.proofs.Cover.{Enough, enough_start, enough_next}
use Rattle.signs.proofs.Blocks.{few_slots, block_at, ok_same, ok_not_err, sum_next}
use Rattle.signs.proofs.intervals.sum_of_blocks.Given as given
use Rattle.signs.proofs.intervals.sum_of_blocks.Goals as goal

pub loop-block-init : goal.loop-block-init
loop-block-init g c =
    let F = g.F.SignFamily.meaning c.args.family.now in
    let a = c.args.slots.start in
    let none : 0 ≡ a - a = omega arith in
    let all : 2 * F.width ≡ 2 * F.width - 0 = omega arith in (
      omega arith,
      omega arith,
      sym (sum_none (λ k. value (F.sign c.args.seed (a + k)))) ∙ ap (sign_sum F c.args.seed a) none,
      subst (λ k. Enough F.width k a c.args.slots.end) all (enough_start F.width a c.args.slots.end),
    )

pub returns-in_err-sum : goal.returns-in_err-sum
returns-in_err-sum g c =
    let F = g.F.SignFamily.meaning c.args.family.now in
    let block = block_at F c.args.seed c.level_at-level.result c.loop-block.at (omega arith) (omega arith) c.level_at-level.ensures.starts in
    let told : c.block_sum.result ≡ block_answer F c.args.seed c.level_at-level.result (c.loop-block.at / 2 ^ c.level_at-level.result) = c.block_sum.ensures in
    absurd (ok_not_err _ _ (told ∙ block) c.in_err-sum.was)

-- what a turn adds, and that it is small
record Turn (g : given.Over) (c : goal.In_ok-sum g) : Type 0 where
  slots : c.args.slots.end ≤ 2 ^ (g.F.SignFamily.meaning c.args.family.now).width
  few : 2 ^ (g.F.SignFamily.meaning c.args.family.now).width ≤ 2 ^ 24
  was : c.loop-block.sum ≡ sign_sum (g.F.SignFamily.meaning c.args.family.now) c.args.seed c.args.slots.start (c.loop-block.at - c.args.slots.start)
  adds : c.in_ok-sum.field-0 ≡ sign_sum (g.F.SignFamily.meaning c.args.family.now) c.args.seed c.loop-block.at (2 ^ c.level_at-level.result)
  small : nat_abs c.loop-block.sum + nat_abs c.in_ok-sum.field-0 ≤ 2 ^ 24

turn : (g : given.Over) (c : goal.In_ok-sum g) → Turn g c
turn g c =
    let F = g.F.SignFamily.meaning c.args.family.now in
    let L = g.met.F.SignFamily.lawful c.args.family.now in
    let s = c.args.seed in
    let j = c.level_at-level.result in
    let a = c.args.slots.start in
    let at = c.loop-block.at in
    let few = few_slots F L in
    let block = block_at F s j at (omega arith) (omega arith) c.level_at-level.ensures.starts in
    let was : c.loop-block.sum ≡ sign_sum F s a (at - a) = sym c.loop-block.sum-is ∙ c.loop-block.invariant.2 in
    let told : c.block_sum.result ≡ block_answer F s j (at / 2 ^ j) = c.block_sum.ensures in
    let adds : c.in_ok-sum.field-0 ≡ sign_sum F s at (2 ^ j) = ok_same _ _ c.in_ok-sum.was (told ∙ block) in
    let old = signs_abs (at - a) (λ k. F.sign s (a + k)) in
    let new = signs_abs (2 ^ j) (λ k. F.sign s (at + k)) in
    let x : nat_abs c.loop-block.sum ≡ nat_abs (sign_sum F s a (at - a)) = ap nat_abs was in
    let y : nat_abs c.in_ok-sum.field-0 ≡ nat_abs (sign_sum F s at (2 ^ j)) = ap nat_abs adds in
    record { slots = omega arith; few = few; was = was; adds = adds; small = omega arith }

pub overflow_add-sum : goal.overflow_add-sum
overflow_add-sum g c = let t = turn g c in let e = c.loop-block.sum-is in let s = t.small in omega (arith, ints)

pub loop-block-preserved : goal.loop-block-preserved
loop-block-preserved g c =
    let F = g.F.SignFamily.meaning c.args.family.now in
    let t = turn g c in
    let j = c.level_at-level.result in
    let a = c.args.slots.start in
    let at = c.loop-block.at in
    let size : 1 * 2 ^ j % 4294967296 ≡ 2 ^ j = one_shl j 32 c.level_at-level.ensures.small in
    let low : a ≤ at = c.loop-block.invariant.0 in
    let next : sign_sum F c.args.seed a (at - a) +ℤ sign_sum F c.args.seed at (2 ^ j) ≡ sign_sum F c.args.seed a (at + 1 * 2 ^ j % 4294967296 - a) =
    sum_next F c.args.seed a at (2 ^ j) low ∙ ap (λ x. sign_sum F c.args.seed a (at + x - a)) (sym size) in
    let was = t.was in
    let adds = t.adds in
    let small = t.small in
    let bits = c.loop-block.sum-is in
    let one : 2 * F.width - c.loop-block._block ≡ suc (2 * F.width - (c.loop-block._block + 1)) = omega arith in
    let left : Enough F.width (2 * F.width - (c.loop-block._block + 1)) (at + 2 ^ j) c.args.slots.end =
    enough_next F.width (2 * F.width - (c.loop-block._block + 1)) at c.args.slots.end j t.slots
    (record { starts = c.level_at-level.ensures.starts; fits = c.level_at-level.ensures.fits; largest = c.level_at-level.ensures.largest })
    (subst (λ k. Enough F.width k at c.args.slots.end) one c.loop-block.invariant.3) in (
      omega arith,
      omega (arith, c.level_at-level.ensures.fits),
      omega (arith, ints),
      subst (λ x. Enough F.width (2 * F.width - (c.loop-block._block + 1)) (at + x) c.args.slots.end) (sym size) left,
    )
