use Rattle.std.proofs.Common.{◌≡◌, ℕ, ◌+◌, ◌-◌, ◌*◌, ◌%◌, ◌^◌, ◌≤◌, ℤ, ◌+ℤ◌, nat_abs, sym, ap, ◌∙◌, arith, w64, to_z, of_z}
use native.Mathlib.Nat.{sub-zero}
use Rattle.std.proofs.lemmas.Nat.{one_shl}
use Rattle.std.proofs.lemmas.Int.{ints}
use Rattle.signs.specs.Family.{value}
use Rattle.signs.specs.SumsLemmas.{run, signs_abs}
use Rattle.signs.proofs.Blocks.{ok, few_slots, interval_ok, ok_same}
use Rattle.signs.specs.Shifts.{round, round_straight, round_over}
use Rattle.signs.proofs.offsets.sum_round.Given as given
use Rattle.signs.proofs.offsets.sum_round.Goals as goal

-- the slots as code counts them
slots_is : (w n : ℕ) → w ≡ n → n ≤ 24 → 1 * 2 ^ w % 4294967296 ≡ 2 ^ n
slots_is w n e h = one_shl w 32 (omega arith) ∙ ap (λ x. 2 ^ x) e

pub returns-then-end-slots : goal.returns-then-end-slots
returns-then-end-slots g c =
    let F = g.F.SignFamily.meaning c.args.family.now in
    let L = g.met.F.SignFamily.lawful c.args.family.now in
    let f : ℕ → ℤ = λ i. value (F.sign c.args.seed i) in
    let start = c.args.start in
    let size = c.args.size in
    let slots = slots_is _ F.width c.width-slots.ensures L.narrow in
    let many : start + size - start ≡ size = omega arith in
    c.interval_sum.ensures.is
    ∙ interval_ok F c.args.seed start (start + size) c.requires.seed (record { some = omega arith; within = omega arith })
    ∙ ap (λ x. ok (run f start x)) many
    ∙ ap ok (sym (round_straight f (2 ^ F.width) start size (omega arith)))

-- the two intervals, and that their sums are small
record Parts (g : given.Over) (c : goal.In_ok-back g) : Type 0 where
  is : c.in_ok-front.front +ℤ c.in_ok-back.back
      ≡ round (λ i. value ((g.F.SignFamily.meaning c.args.family.now).sign c.args.seed i)) (2 ^ (g.F.SignFamily.meaning c.args.family.now).width) c.args.start c.args.size
  small : nat_abs c.in_ok-front.front + nat_abs c.in_ok-back.back ≤ 2 ^ 24

parts : (g : given.Over) (c : goal.In_ok-back g) → Parts g c
parts g c =
    let F = g.F.SignFamily.meaning c.args.family.now in
    let L = g.met.F.SignFamily.lawful c.args.family.now in
    let s = c.args.seed in
    let f : ℕ → ℤ = λ i. value (F.sign s i) in
    let start = c.args.start in
    let N = 2 ^ F.width in
    let back_end = start + c.args.size - 1 * 2 ^ c.width-slots.result % 4294967296 in
    let few = few_slots F L in
    let slots = slots_is _ F.width c.width-slots.ensures L.narrow in
    let over : back_end ≡ start + c.args.size - N = omega arith in
    let x : c.in_ok-front.front ≡ run f start (N - start) =
    ok_same _ _ c.in_ok-front.was (c.interval_sum-2.ensures.is ∙ interval_ok F s start _ c.requires.seed (record { some = omega arith; within = omega arith }))
    ∙ ap (λ x. run f start (x - start)) slots in
    let y : c.in_ok-back.back ≡ run f 0 (start + c.args.size - N) =
    ok_same _ _ c.in_ok-back.was (c.interval_sum-3.ensures.is ∙ interval_ok F s 0 _ c.requires.seed (record { some = omega arith; within = omega arith }))
    ∙ ap (run f 0) (sub-zero back_end ∙ over) in
    let p = signs_abs (N - start) (λ k. F.sign s (start + k)) in
    let q = signs_abs (start + c.args.size - N) (λ k. F.sign s (0 + k)) in
    let u : nat_abs c.in_ok-front.front ≡ nat_abs (run f start (N - start)) = ap nat_abs x in
    let v : nat_abs c.in_ok-back.back ≡ nat_abs (run f 0 (start + c.args.size - N)) = ap nat_abs y in
    record {
      is =
          ap (λ z. z +ℤ c.in_ok-back.back) x
          ∙ ap (λ z. run f start (N - start) +ℤ z) y
          ∙ sym (round_over f N start c.args.size c.requires.start (omega arith) (omega arith));
      small = omega arith;
    }

pub overflow_add-result : goal.overflow_add-result
overflow_add-result g c = let p = parts g c in let s = p.small in omega (arith, ints)

pub returns : goal.returns
returns g c =
    let p = parts g c in
    let s = p.small in
    let x = c.in_ok-front.front in
    let y = c.in_ok-back.back in
    ap ok (let e : to_z w64 (of_z w64 (to_z w64 (of_z w64 x) +ℤ to_z w64 (of_z w64 y))) ≡ x +ℤ y = omega (arith, ints) in e ∙ p.is)
