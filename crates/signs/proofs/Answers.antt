-- What an answer says of the checks before it. Assumes nothing.
use Rattle.std.proofs.Common.{◌≡◌, ℕ, ◌-◌, ◌^◌, ◌<◌, ◌≤◌, Some, None, Ok, Err, sym, refl, arith}
use Rattle.std.proofs.lemmas.Bool.Decides.{nat_tests}
use Rattle.signs.specs.declared.faults.Fault.{Fault}
use Rattle.signs.specs.Faults.{Refusal, ◌⨾◌, answer}
use Rattle.signs.specs.Family.{seed_check, slot_check, block_check, interval_check}

-- no check refused
pub accepted : {A : Type 0} (r : Refusal) (x y : A) → answer r x ≡ Ok y → r ≡ None
accepted (Some f) x y e = let z : ◌≡◌ {A = ℕ} 0 1 = cc in absurd (let w : ⊥ = omega arith in w)
accepted None x y e = refl

-- and then the value is the one that the answer holds
pub said : {A : Type 0} (r : Refusal) (x y : A) → Ok y ≡ answer r x → y ≡ x
said (Some f) x y e = let z : ◌≡◌ {A = ℕ} 0 1 = cc in absurd (let w : ⊥ = omega arith in w)
said None x y e = cc

-- the check that refused
pub refused : {A : Type 0} (r : Refusal) (x : A) (f : Fault) → Err f ≡ answer r x → r ≡ Some f
refused (Some g) x f e = cc
refused None x f e = let z : ◌≡◌ {A = ℕ} 0 1 = cc in absurd (let w : ⊥ = omega arith in w)

-- where two checks pass, each does

pub first_none : (r q : Refusal) → (r ⨾ q) ≡ None → r ≡ None
first_none (Some f) q e = let z : ◌≡◌ {A = ℕ} 0 1 = cc in absurd (let w : ⊥ = omega arith in w)
first_none None q e = refl

pub then_none : (r q : Refusal) → (r ⨾ q) ≡ None → q ≡ None
then_none (Some f) q e = let z : ◌≡◌ {A = ℕ} 0 1 = cc in absurd (let w : ⊥ = omega arith in w)
then_none None q e = e

-- What has passed a check is there, and what is there passes it.

pub seed_passed : (seeds s : ℕ) (x : Unit {0}) → Ok x ≡ answer (seed_check seeds s) tt → s < seeds
seed_passed seeds s x e = let p = accepted (seed_check seeds s) tt x (sym e) in grind (arith, nat_tests)

pub there_seed : (seeds s : ℕ) → s < seeds → seed_check seeds s ≡ None
there_seed seeds s h = grind (arith, nat_tests)

pub slot_passed : (width i : ℕ) (x : Unit {0}) → Ok x ≡ answer (slot_check width i) tt → i < 2 ^ width
slot_passed width i x e = let p = accepted (slot_check width i) tt x (sym e) in grind (arith, nat_tests)

pub there_slot : (width i : ℕ) → i < 2 ^ width → slot_check width i ≡ None
there_slot width i h = grind (arith, nat_tests)

pub record Block (width j q : ℕ) : Type 0 where
  pub level : j ≤ width
  pub number : q < 2 ^ (width - j)

pub block_there : (width j q : ℕ) → block_check width j q ≡ None → Block width j q
block_there width j q e = record { level = grind (arith, nat_tests); number = grind (arith, nat_tests) }

pub block_passed : (width j q : ℕ) (x : Unit {0}) → Ok x ≡ answer (block_check width j q) tt → Block width j q
block_passed width j q x e = block_there width j q (accepted (block_check width j q) tt x (sym e))

pub there_block : (width j q : ℕ) → Block width j q → block_check width j q ≡ None
there_block width j q b = grind (arith, nat_tests)

pub record Interval (width a b : ℕ) : Type 0 where
  pub some : a < b
  pub within : b ≤ 2 ^ width

pub interval_there : (width a b : ℕ) → interval_check width a b ≡ None → Interval width a b
interval_there width a b e = record { some = grind (arith, nat_tests); within = grind (arith, nat_tests) }

pub there_interval : (width a b : ℕ) → Interval width a b → interval_check width a b ≡ None
there_interval width a b i = grind (arith, nat_tests)
