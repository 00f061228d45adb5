use Rattle.std.proofs.Common.{◌≡◌, ℕ, ◌+◌, ◌*◌, ◌^◌, List, None, Ok, Err, Result, not, ◌&&◌, nat_lt, nat_eq, arith, sym, ap, ap₂, ◌∙◌}
use Rattle.signs.specs.declared.faults.Fault.{Fault}
use Rattle.signs.specs.declared.reason.Reason.TheVariants.{Unbalanced}
use Rattle.signs.specs.Faults.{Refusal, ◌⨾◌, refuse_if, check_each, answer, family_fault}
use Rattle.signs.specs.Family.{Meaning, agreeing, width_check}
use Rattle.signs.proofs.Answers.{accepted, said}
use Rattle.listed.specs.Listed.{listed, rows_check, bytes_check, columns_check, listed_refusal}
use Rattle.listed.proofs.family.Listed.new.Goals as goal

-- where the first three checks pass, the last is left
last : (a b c d : Refusal) → (a ⨾ b ⨾ c) ≡ None → (a ⨾ b ⨾ c ⨾ d) ≡ d
last a b c d e = grind arith

-- the check of the columns, of a family
abbrev columns_of : Meaning → Refusal
columns_of F =
    check_each (2 ^ F.width) (λ a. check_each (2 ^ F.width) (λ b. refuse_if (nat_lt a b && not (nat_eq (2 * agreeing F a b) F.seeds)) (family_fault Unbalanced (a * 64 + b))))

-- a table that has been made is refused for its columns alone
columns_left : (n m : ℕ) (t : List ℕ) (k p : ℕ) (u : List ℕ) (r : Refusal) → Ok (listed k p u) ≡ answer (width_check 1 6 n ⨾ rows_check n m t ⨾ bytes_check t) (listed n m t)
    → r ≡ columns_check k p u → answer (listed_refusal n m t) (listed n m t) ≡ answer r (listed k p u)
columns_left n m t k p u r e found =
    let made = width_check 1 6 n ⨾ rows_check n m t ⨾ bytes_check t in
    let same : listed k p u ≡ listed n m t = said made (listed n m t) (listed k p u) e in
    let left : listed_refusal n m t ≡ r =
    last (width_check 1 6 n) (rows_check n m t) (bytes_check t) (columns_check n m t) (accepted made (listed n m t) (listed k p u) (sym e)) ∙ ap columns_of (sym same) ∙ sym found in
    ap₂ answer left (sym same)

abbrev refuse : Fault → Result Meaning Fault
refuse f = Err f

pub returns-in-Some : goal.returns-in-Some
returns-in-Some c =
    let t = c.in_ok-table.table in
    let f : c.fault.result ≡ family_fault Unbalanced (c.in-Some.a * 64 + c.in-Some.b) = cc (c.fault.ensures, c.from.ensures, c.from-in-Some.ensures) in
    ap refuse f ∙ sym (columns_left c.args.width c.args.rows c.args.table.items t.width t.rows t.bytes.items _ c.in_ok-table.ensures c.in-Some.ensures)

pub returns-in-None : goal.returns-in-None
returns-in-None c =
    let t = c.in_ok-table.table in
    sym (columns_left c.args.width c.args.rows c.args.table.items t.width t.rows t.bytes.items _ c.in_ok-table.ensures c.in-None.ensures)
