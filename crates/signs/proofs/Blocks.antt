-- Blocks and intervals that are there have the sums of their signs. Assumes nothing.
use Rattle.std.proofs.Common.{◌≡◌, ℕ, suc, ◌+◌, ◌-◌, ◌*◌, ◌/◌, ◌%◌, ◌^◌, ◌<◌, ◌≤◌, ℤ, ◌+ℤ◌, nat_abs, None, Ok, Err, Result, sym, ap, ◌∙◌, subst, mul-le-mul_right, mod-eq_of_lt, suc-mul, div-lt_iff_lt-mul, div-add-mod', sub-add_cancel, arith, pow_pos, pow_mono, pow-add, w64, SFits, to_z, of_z}
use Rattle.std.proofs.lemmas.Nat.{one_shl}
use Rattle.std.proofs.lemmas.Int.{to_z-of_z}
use Rattle.signs.specs.declared.faults.Fault.{Fault}
use Rattle.signs.specs.Faults.{◌⨾◌, answer}
use Rattle.signs.specs.Family.{Meaning, Lawful, value, sign_sum, block_sum, interval_sum, seed_check, slot_check, sign_answer, block_check, block_refusal, block_answer, interval_check, interval_answer}
use Rattle.signs.proofs.Answers.{accepted, said, then_none, seed_passed, there_seed, there_slot, Block, block_there, block_passed, there_block, Interval, there_interval}
use Rattle.signs.proofs.Powers.{exponent_le}
use Rattle.signs.specs.SumsLemmas.{run_append, signs_abs}

-- the block of level j that starts at slot a
pub block_number : (n j a : ℕ) → a + 2 ^ j ≤ 2 ^ n → (j ≤ n) × (a / 2 ^ j < 2 ^ (n - j))
block_number n j a h =
    let l : j ≤ n = exponent_le j n (omega arith) in
    let p : 2 ^ n ≡ 2 ^ (n - j) * 2 ^ j = ap (λ x. 2 ^ x) (sym (sub-add_cancel l)) ∙ pow-add 2 (n - j) j in
    (l, (div-lt_iff_lt-mul (pow_pos j)).1 (omega (arith, pow_pos j)))

-- a block's slots are below the end
pub block_run : (n j q : ℕ) → j ≤ n → q < 2 ^ (n - j) → q * 2 ^ j + 2 ^ j ≤ 2 ^ n
block_run n j q l h =
    let whole : 2 ^ n ≡ 2 ^ (n - j) * 2 ^ j = ap (λ x. 2 ^ x) (sym (sub-add_cancel l)) ∙ pow-add 2 (n - j) j in
    let m : suc q * 2 ^ j ≤ 2 ^ (n - j) * 2 ^ j = mul-le-mul_right (2 ^ j) h in
    omega (arith, suc-mul q (2 ^ j))

abbrev pub ok : ℤ → Result ℤ Fault
ok z = Ok z

-- what is there is not refused

pub sign_ok : (F : Meaning) (s i : ℕ) → s < F.seeds → i < 2 ^ F.width → sign_answer F s i ≡ Ok (F.sign s i)
sign_ok F s i h l =
    ap (λ r. answer (r ⨾ slot_check F.width i) (F.sign s i)) (there_seed F.seeds s h) ∙ ap (λ r. answer r (F.sign s i)) (there_slot F.width i l)

pub block_accepted : (F : Meaning) (s j q : ℕ) → s < F.seeds → Block F.width j q → block_refusal F s j q ≡ None
block_accepted F s j q h b = ap (λ r. r ⨾ block_check F.width j q) (there_seed F.seeds s h) ∙ there_block F.width j q b

pub block_ok : (F : Meaning) (s j q : ℕ) → s < F.seeds → Block F.width j q → block_answer F s j q ≡ Ok (block_sum F s j q)
block_ok F s j q h b = ap (λ r. answer r (block_sum F s j q)) (block_accepted F s j q h b)

-- A block sum that code computed by a rule of its own: the answer is the rule's, and the sum of the signs.
pub record Ruled (F : Meaning) (s j q : ℕ) (rule : ℤ) (r : Result ℤ Fault) : Type 0 where
  pub is : r ≡ block_answer F s j q
  pub closed : r ≡ answer (block_refusal F s j q) rule

pub ruled : (F : Meaning) (s j q : ℕ) (x rule : ℤ) → s < F.seeds → Block F.width j q → SFits w64 x → x ≡ rule → rule ≡ block_sum F s j q
    → Ruled F s j q rule (Ok (to_z w64 (of_z w64 x)))
ruled F s j q x rule h b fits e f =
    let closed = ap ok (to_z-of_z w64 x fits ∙ e) ∙ sym (ap (λ r. answer r rule) (block_accepted F s j q h b)) in
    record { is = closed ∙ ap (answer (block_refusal F s j q)) f; closed = closed }

pub interval_ok : (F : Meaning) (s a b : ℕ) → s < F.seeds → Interval F.width a b → interval_answer F s a b ≡ Ok (interval_sum F s a b)
interval_ok F s a b h i =
    let z = interval_sum F s a b in
    ap (λ r. answer (r ⨾ interval_check F.width a b) z) (there_seed F.seeds s h) ∙ ap (λ r. answer r z) (there_interval F.width a b i)

-- the block that starts at a slot
pub block_at : (F : Meaning) (s j a : ℕ) → s < F.seeds → a + 2 ^ j ≤ 2 ^ F.width → a % 2 ^ j ≡ 0 → block_answer F s j (a / 2 ^ j) ≡ Ok (sign_sum F s a (2 ^ j))
block_at F s j a hs h e =
    let n = block_number F.width j a h in
    let first : a / 2 ^ j * 2 ^ j ≡ a = let d = div-add-mod' a (2 ^ j) in omega arith in
    block_ok F s j (a / 2 ^ j) hs (record { level = n.0; number = n.1 }) ∙ ap (λ x. ok (sign_sum F s x (2 ^ j))) first

-- the slots passed, and n more
pub sum_next : (F : Meaning) (s a at n : ℕ) → a ≤ at → sign_sum F s a (at - a) +ℤ sign_sum F s at n ≡ sign_sum F s a (at + n - a)
sum_next F s a at n h =
    let f : ℕ → ℤ = λ i. value (F.sign s i) in
    let p : at ≡ a + (at - a) = omega arith in
    let q : at - a + n ≡ at + n - a = omega arith in
    ap (λ x. sign_sum F s a (at - a) +ℤ sign_sum F s x n) p ∙ sym (run_append f a (at - a) n) ∙ ap (sign_sum F s a) q

-- what code's shifts come to, for a block that is there
pub record Shifts (n j q : ℕ) : Type 0 where
  pub size : 1 * 2 ^ j % 4294967296 ≡ 2 ^ j
  pub first : q * 2 ^ j % 4294967296 ≡ q * 2 ^ j
  pub run : q * 2 ^ j + 2 ^ j ≤ 2 ^ n
  pub few : 2 ^ n ≤ 2 ^ 24

pub shifts : (n j q : ℕ) → n ≤ 24 → Block n j q → Shifts n j q
shifts n j q h b =
    let run = block_run n j q b.level b.number in
    let few : 2 ^ n ≤ 2 ^ 24 = pow_mono {i = n} {j = 24} h in
    record {
      size = one_shl j 32 (let l = b.level in omega arith);
      first = mod-eq_of_lt (let small : q * 2 ^ j < 2 ^ 32 = omega (arith, pow_pos j) in small);
      run = run;
      few = few;
    }

-- a block sum that was answered: it is the block's, and small
pub record Answered (F : Meaning) (s j q : ℕ) (x : ℤ) : Type 0 where
  pub passed : block_refusal F s j q ≡ None
  pub is : x ≡ block_sum F s j q
  pub small : nat_abs x ≤ 2 ^ 24

pub answered : (F : Meaning) → Lawful F → (s j q : ℕ) (x : ℤ) → Ok x ≡ block_answer F s j q → Answered F s j q x
answered F L s j q x e =
    let passed = accepted (block_refusal F s j q) (block_sum F s j q) x (sym e) in
    let b = block_there F.width j q (then_none (seed_check F.seeds s) (block_check F.width j q) passed) in
    let is = said (block_refusal F s j q) (block_sum F s j q) x e in
    let size = signs_abs (2 ^ j) (λ k. F.sign s (q * 2 ^ j + k)) in
    let few : 2 ^ j ≤ 2 ^ 24 = pow_mono {i = j} {j = 24} (let l = b.level in omega (arith, L.narrow)) in
    let abs : nat_abs x ≡ nat_abs (block_sum F s j q) = ap nat_abs is in
    record { passed = passed; is = is; small = omega arith }

-- a block that was asked for and passed the checks, by the numbers w and m that the code has for width and seeds
pub record Asked (n seeds s j q : ℕ) : Type 0 where
  pub seed : s < seeds
  pub block : Block n j q
  pub shift : Shifts n j q

pub asked : (n seeds s j q w m : ℕ) (x y : Unit {0}) → n ≤ 24 → w ≡ n → m ≡ seeds → Ok x ≡ answer (seed_check m s) tt → Ok y ≡ answer (block_check w j q) tt
    → Asked n seeds s j q
asked n seeds s j q w m x y h e f p r =
    let b = subst (λ k. Block k j q) e (block_passed w j q y r) in
    record { seed = subst (λ k. s < k) f (seed_passed m s x p); block = b; shift = shifts n j q h b }

pub few_slots : (F : Meaning) → Lawful F → 2 ^ F.width ≤ 2 ^ 24
few_slots F L = pow_mono L.narrow

pub ok_same : {r : Result ℤ Fault} (x y : ℤ) → r ≡ Ok x → r ≡ Ok y → x ≡ y
ok_same x y p q = cc

pub ok_not_err : {r : Result ℤ Fault} (x : ℤ) (f : Fault) → r ≡ Ok x → r ≡ Err f → ⊥
ok_not_err x f p q = let z : ◌≡◌ {A = ℕ} 0 1 = cc in omega arith
