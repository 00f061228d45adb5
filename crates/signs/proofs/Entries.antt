-- Checks of one entry after another, by a loop's turns. Assumes nothing.
use Rattle.std.proofs.Common.{◌≡◌, ℕ, zero, suc, ◌+◌, ◌<◌, ◌≤◌, Bool, false, ltb, ◌⊎◌, List, length, get_or, Some, None, Ok, Err, Option, Result, option_map, sym, refl, ap, ◌∙◌, inl, inr, add-one, arith}
use Rattle.std.specs.List.{position, position_or_len}
use Rattle.std.proofs.lemmas.Bool.{cases_eq, cases_lt, lt-ltb, cond-true}
use Rattle.std.proofs.lemmas.List.Quantifiers.{position-Some}
use Rattle.std.proofs.lemmas.List.Sums.{fails_before_first}
use Rattle.signs.specs.declared.faults.Fault.{Fault}
use Rattle.signs.specs.Faults.{Refusal, refuse_if, ◌⨾◌, check_each, answer}
use Rattle.signs.proofs.Answers.{first_none, then_none}

pub each_none : (check : ℕ → Refusal) → check_each 0 check ≡ None
unfolding check_each
each_none check = refl

-- one entry more that passes
pub each_more : (k : ℕ) (check : ℕ → Refusal) → check_each k check ≡ None → check k ≡ None → check_each (k + 1) check ≡ None
unfolding check_each
each_more k check e f = ap (λ x. check_each x check) (add-one k) ∙ ap (λ r. r ⨾ check k) e ∙ f

pub each_all : (n : ℕ) (check : ℕ → Refusal) → ((k : ℕ) → k < n → check k ≡ None) → check_each n check ≡ None
unfolding check_each
each_all zero check h = refl
each_all (suc n) check h = ap (λ r. r ⨾ check n) (each_all n check (λ k l. h k (omega arith))) ∙ h n (omega arith)

-- the first entry that does not
pub each_hit : (n k : ℕ) (check : ℕ → Refusal) (f : Fault) → k < n → check_each k check ≡ None → check k ≡ Some f → check_each n check ≡ Some f
unfolding check_each
each_hit zero k check f l e h = absurd (let w : ⊥ = omega arith in w)
each_hit (suc n) k check f l e h = pick (cases_eq k n) (each_hit n k check f)
  where
    pick : (k ≡ n) ⊎ (k ≡ n → ⊥) → (k < n → check_each k check ≡ None → check k ≡ Some f → check_each n check ≡ Some f) → (check_each n check ⨾ check n) ≡ Some f
    pick (inl q) rest = ap (λ r. r ⨾ check n) (ap (λ x. check_each x check) (sym q) ∙ e) ∙ ap check (sym q) ∙ h
    pick (inr q) rest = ap (λ r. r ⨾ check n) (rest (omega arith) e h)

-- where all pass, each does
pub each_at : (n : ℕ) (check : ℕ → Refusal) → check_each n check ≡ None → (k : ℕ) → k < n → check k ≡ None
unfolding check_each
each_at zero check e k l = absurd (let w : ⊥ = omega arith in w)
each_at (suc n) check e k l = pick (cases_eq k n) (each_at n check (first_none (check_each n check) (check n) e))
  where
    pick : (k ≡ n) ⊎ (k ≡ n → ⊥) → ((k : ℕ) → k < n → check k ≡ None) → check k ≡ None
    pick (inl q) rest = ap check q ∙ then_none (check_each n check) (check n) e
    pick (inr q) rest = rest k (omega arith)

-- where a search for the first bad entry finds one, that is the first that does not pass
pub each_position : {A : Type 0} (bad : A → Bool) (xs : List A) (d : A) (check : ℕ → Refusal) (fault : ℕ → Fault) (found : Option ℕ) → found ≡ position bad xs
    → ((k : ℕ) → k < length xs → check k ≡ refuse_if (bad (get_or xs k d)) (fault k)) → check_each (length xs) check ≡ option_map fault found
each_position bad xs d check fault (Some i) e is =
    let at = position-Some bad xs i d (sym e) in
    each_hit (length xs) i check (fault i) at.0
    (each_all i check (λ k l. is k (omega (arith, at.0)) ∙ ap (λ b. refuse_if b (fault k)) (at.2 k l)))
    (is i at.0 ∙ ap (λ b. refuse_if b (fault i)) at.1)
each_position bad xs d check fault None e is = each_all (length xs) check (λ k l. is k l ∙ ap (λ b. refuse_if b (fault k)) (none k l))
  where
    past : length xs ≤ position_or_len bad xs
    past = pick (cases_lt (position_or_len bad xs) (length xs))
      where
        pick : (position_or_len bad xs < length xs) ⊎ (length xs ≤ position_or_len bad xs) → length xs ≤ position_or_len bad xs
        pick (inl l) = let some : None ≡ Some (position_or_len bad xs) = e ∙ cond-true (ltb (position_or_len bad xs) (length xs)) _ _ (lt-ltb (position_or_len bad xs) (length xs) l) in let z : ◌≡◌ {A = ℕ} 0 1 = cc in absurd (let w : ⊥ = omega arith in w)
        pick (inr h) = h

    none : (k : ℕ) → k < length xs → bad (get_or xs k d) ≡ false
    none k l = fails_before_first bad xs k d (omega (arith, past))

abbrev answered : Refusal → Result (Unit {0}) Fault
answered r = answer r tt

abbrev refuse : Fault → Result (Unit {0}) Fault
refuse f = Err f

-- and so the call that looks for it answers as the checks do
module _ {A : Type 0} (bad : A → Bool) (xs : List A) (d : A) (check : ℕ → Refusal) (fault : ℕ → Fault) (found : Option ℕ) (first : found ≡ position bad xs)
    (is : (k : ℕ) → k < length xs → check k ≡ refuse_if (bad (get_or xs k d)) (fault k)) where
  answer_is : answered (check_each (length xs) check) ≡ answered (option_map fault found)
  answer_is = ap answered (each_position bad xs d check fault found first is)

  pub first_refused : (k : ℕ) (f : Fault) → found ≡ Some k → f ≡ fault k → refuse f ≡ answered (check_each (length xs) check)
  first_refused k f e h = ap refuse h ∙ ap (λ o. answered (option_map fault o)) (sym e) ∙ sym answer_is

  pub none_refused : found ≡ None → Ok tt ≡ answered (check_each (length xs) check)
  none_refused e = ap (λ o. answered (option_map fault o)) (sym e) ∙ sym answer_is
