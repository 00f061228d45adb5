use Rattle.std.proofs.Common.{◌≡◌, ℕ, ◌+◌, ◌*◌, ◌^◌, ◌<◌, ◌≤◌, length, get_or, ℤ, pos, ◌*ℤ◌, nat_abs, sym, ap, ◌∙◌, subst, ap₂, arith, pow_mono, w32, w64, SFits, rules}
use Rattle.std.proofs.lemmas.Nat.{mul-le}
use Rattle.std.proofs.lemmas.List.{length-map, get_or-map}
use Rattle.std.proofs.lemmas.Int.{to_z-of_z}
use Rattle.signs.specs.Family.{Meaning, Lawful, interval_sum, interval_refusal, interval_answer}
use Rattle.signs.proofs.Answers.{said}
use Rattle.signs.specs.SumsLemmas.{signs_abs}
use Rattle.model.specs.declared.Booking.{Booking}
use Rattle.model.specs.Calls.{slots, gains}
use Rattle.model.proofs.Ring.{abs_mul}
use Rattle.sketch.proofs.Adding.{bitted, small_fits, bitted_is, Addable, add_fits, add_more, add_all}
use Rattle.sketch.proofs.seeded.Seeded.add_gains.Given as given
use Rattle.sketch.proofs.seeded.Seeded.add_gains.Goals as goal
use Rattle.sketch.proofs.seeded.Seeded.add_gains.Goals.{Start, After-unwrap-sum}

-- an interval sum is at most 2 ^ 24 in size, and a gain at most 1000 times that

sum_small : (F : Meaning) → Lawful F → (b : Booking) → b.to ≤ 2 ^ F.width → (seed : ℕ) → nat_abs (interval_sum F seed b.from b.to) ≤ 2 ^ 24
sum_small F lawful b within seed =
    let wide : 2 ^ F.width ≤ 2 ^ 24 = pow_mono lawful.narrow in
    omega (arith, signs_abs (slots b) (λ k. F.sign seed (b.from + k)))

gain_small : (F : Meaning) → Lawful F → (b : Booking) → b.to ≤ 2 ^ F.width → nat_abs b.weight ≤ 1000 → (seed : ℕ) → nat_abs (b.weight *ℤ interval_sum F seed b.from b.to) ≤ 1000 * 2 ^ 24
gain_small F lawful b within light seed =
    let s = interval_sum F seed b.from b.to in
    omega (arith, abs_mul b.weight s, mul-le (nat_abs b.weight) (nat_abs s) 1000 (2 ^ 24) light (sum_small F lawful b within seed))

module _ (g : given.Over) (c : Start g) where
  abbrev F : Meaning
  F = g.F.SignFamily.meaning c.args.self.now.family.now

  abbrev gain : ℕ → ℤ
  gain seed = c.args.booking.weight *ℤ interval_sum F seed c.args.booking.from c.args.booking.to

  small : (seed : ℕ) → nat_abs (gain seed) ≤ 1000 * 2 ^ 24
  small = gain_small F (g.met.F.SignFamily.lawful c.args.self.now.family.now) c.args.booking c.requires.within c.requires.light

  ready : Addable c.args.cells.now (gains F c.args.self.now.seeds.now c.args.booking)
  ready = record {
    same = length-map c.args.self.now.seeds.now gain ∙ c.requires.same;
    own = c.requires.own;
    few = λ k h.
        let there : k < length c.args.self.now.seeds.now = omega (arith, length-map c.args.self.now.seeds.now gain) in
        subst (λ z. nat_abs z ≤ 2 ^ 34) (sym (get_or-map gain c.args.self.now.seeds.now k 0 (pos 0) there)) (omega (arith, small (get_or c.args.self.now.seeds.now k 0)));
  }

-- the product that code takes is the gain of the seed
module _ (g : given.Over) (c : After-unwrap-sum g) where
  abbrev start : Start g
  start = (goal.at.After-unwrap-sum g c).Start

  abbrev seed : ℕ
  seed = get_or c.args.self.now.seeds.now c.loop-k.k 0

  product_is : bitted c.from-weight.result *ℤ bitted c.unwrap-sum.result ≡ gain g start seed
  product_is =
      let b = c.args.booking in
      let fits : SFits w32 b.weight = search rules in
      let weight_is = ap bitted (c.from-weight.ensures ∙ to_z-of_z w32 b.weight fits) ∙ bitted_is b.weight (omega (arith, c.requires.light)) in
      let S = interval_sum (F g start) seed b.from b.to in
      let sum_is_lem = said (interval_refusal (F g start) seed b.from b.to) S c.unwrap-sum.result (sym c.unwrap-sum.ensures ∙ c.interval_sum.ensures.is ∙ ap₂ (interval_answer (F g start) seed) c.interval.ensures.start c.interval.ensures.end) in
      let few = sum_small (F g start) (g.met.F.SignFamily.lawful c.args.self.now.family.now) b c.requires.within seed in
      ap₂ ◌*ℤ◌ weight_is (ap bitted sum_is_lem ∙ bitted_is S (omega arith))

  here : bitted c.from-weight.result *ℤ bitted c.unwrap-sum.result ≡ get_or (gains (F g start) c.args.self.now.seeds.now c.args.booking) c.loop-k.k (pos 0)
  here = product_is ∙ sym (get_or-map (gain g start) c.args.self.now.seeds.now c.loop-k.k 0 (pos 0) c.loop-k-test.true)

  there : c.loop-k.k < length c.args.cells.now
  there = omega (arith, c.requires.same, c.loop-k-test.true)

pub overflow_mul-cells : goal.overflow_mul-cells
overflow_mul-cells g c = let few = small g (start g c) (seed g c) in subst (SFits w64) (sym (product_is g c)) (small_fits _ (omega arith))

pub overflow_add-cells : goal.overflow_add-cells
overflow_add-cells g c = let w = (goal.at.overflow_add-cells g c).After-unwrap-sum in add_fits (ready g (start g w)) c.loop-k.cells c.loop-k.k _ (there g w) (here g w) c.loop-k.invariant

pub loop-k-preserved : goal.loop-k-preserved
loop-k-preserved g c = let w = (goal.at.loop-k-preserved g c).After-unwrap-sum in add_more (ready g (start g w)) c.loop-k.cells c.loop-k.k _ (there g w) (here g w) c.loop-k.invariant

pub returns : goal.returns
returns g c = add_all (ready g (goal.at.returns g c).Start) c.loop-k.cells c.loop-k.k (omega (arith, c.requires.same)) c.loop-k.invariant
