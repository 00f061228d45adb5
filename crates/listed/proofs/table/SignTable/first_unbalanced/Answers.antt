use Rattle.std.proofs.Common.{◌≡◌, ℕ, ◌≤◌, ◌<◌, ◌≢◌, List, Some, None, ◌+◌, ◌*◌, ◌^◌, sym, ap, ◌∙◌, arith}
use Rattle.std.proofs.lemmas.Nat.{one_shl}
use Rattle.signs.specs.declared.reason.Reason.TheVariants.{Unbalanced}
use Rattle.signs.specs.Faults.{check_each, family_fault}
use Rattle.signs.specs.Family.{agreeing}
use Rattle.signs.proofs.Entries.{each_none, each_more, each_all, each_hit}
use Rattle.listed.specs.Listed.{listed, pair_check}
use Rattle.std.proofs.lemmas.Bool.Decides.{nat_tests}
use Rattle.listed.proofs.Counts.{count_le}
use Rattle.listed.proofs.table.SignTable.first_unbalanced.Goals as goal

module _ (n m : ℕ) (t : List ℕ) (a b : ℕ) where
  pair_turned : b ≤ a → pair_check n m t a b ≡ None
  pair_turned l = grind (arith, nat_tests)

  pair_good : 2 * agreeing (listed n m t) a b ≡ m → pair_check n m t a b ≡ None
  pair_good e = grind (arith, nat_tests)

  pair_bad : a < b → (2 * agreeing (listed n m t) a b ≢ m) → pair_check n m t a b ≡ Some (family_fault Unbalanced (a * 64 + b))
  pair_bad l e = grind (arith, nat_tests)

pub loop-a-init : goal.loop-a-init
loop-a-init c = each_none _

-- no column is compared with itself or with one before it
pub loop-b-init : goal.loop-b-init
loop-b-init c = let t = c.args.self.now in each_all _ _ (λ b l. pair_turned t.width t.rows t.bytes.items c.loop-a.a b (omega arith))

pub overflow_mul-agreeing_rows : goal.overflow_mul-agreeing_rows
overflow_mul-agreeing_rows c = omega (arith, count_le, c.agreeing_rows.ensures)

pub loop-b-preserved : goal.loop-b-preserved
loop-b-preserved c =
    let t = c.args.self.now in
    each_more c.loop-b.b _ c.loop-b.invariant (pair_good t.width t.rows t.bytes.items c.loop-a.a c.loop-b.b (ap (λ x. 2 * x) (sym c.agreeing_rows.ensures) ∙ c.if-agreeing_rows-self.false))

pub loop-a-preserved : goal.loop-a-preserved
loop-a-preserved c =
    let t = c.args.self.now in
    let end : c.loop-b.b ≡ 2 ^ t.width = omega (arith, one_shl) in
    each_more c.loop-a.a _ c.loop-a.invariant (ap (λ k. check_each k (pair_check t.width t.rows t.bytes.items c.loop-a.a)) (sym end) ∙ c.loop-b.invariant)

pub returns-then-agreeing_rows-self : goal.returns-then-agreeing_rows-self
returns-then-agreeing_rows-self c =
    let t = c.args.self.now in
    let a = c.loop-a.a in
    let b = c.loop-b.b in
    let apart = pair_bad t.width t.rows t.bytes.items a b (omega arith) (λ z. c.if-agreeing_rows-self.true (ap (λ x. 2 * x) c.agreeing_rows.ensures ∙ z)) in
    let f = family_fault Unbalanced (a * 64 + b) in
    sym (each_hit (2 ^ t.width) a _ f (omega (arith, one_shl)) c.loop-a.invariant (each_hit (2 ^ t.width) b _ f (omega (arith, one_shl)) c.loop-b.invariant apart))
