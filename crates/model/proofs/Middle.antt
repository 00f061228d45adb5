-- An odd number of entries has a middle, and only one. Assumes nothing.
use Rattle.std.proofs.Common.{◌≡◌, ℕ, suc, ◌+◌, ◌%◌, ◌<◌, ◌≤◌, Bool, true, false, cond, not, leb, ◌⊎◌, List, [], ◌∷◌, length, ℤ, pos, count_by, sym, refl, inl, inr, ⊎_elim, arith}
use Rattle.std.specs.Prelude.{int_le}
use Rattle.std.proofs.lemmas.Int.{ints}
use Rattle.std.specs.List.{ContainsAt, AllByRecursion}
use Rattle.std.proofs.lemmas.List.Sums.{sum_by-cons}
use Rattle.std.proofs.ByRecursion.{all-has, All-weaker}
use Rattle.std.proofs.lemmas.Bool.{leb-true, le-leb, both_ways, not-true, not_from_true, not_from_false, cases_Bool, cases_lt, and_parts, and_from}
use Rattle.model.specs.Middle.{Order, half, smaller, greater, Central, central, first_of, middle_by, middle_of, Middle}

cases_le : (m n : ℕ) → (m ≤ n) ⊎ (n < m)
cases_le m n = ⊎_elim inr inl (cases_lt n m)

-- Counts.

weigh_not : (b : Bool) → cond b 1 0 + cond (not b) 1 0 ≡ 1
weigh_not true = refl
weigh_not false = refl

weigh_implies : (b c : Bool) → (b ≡ true → c ≡ true) → cond b 1 0 ≤ cond c 1 0
weigh_implies true c h = rw (h refl) (omega arith)
weigh_implies false c h = omega arith

weigh_no : (b : Bool) → b ≡ false → cond b 1 0 + 0 ≡ 0
weigh_no b e = rw e

module _ {A : Type 0} where
  count_cons : (p : A → Bool) (x : A) (xs : List A) → count_by p (x ∷ xs) ≡ cond (p x) 1 0 + count_by p xs
  count_cons p x xs = sum_by-cons (λ y. cond (p y) 1 0) x xs

  pub count_not : (p : A → Bool) (xs : List A) → count_by p xs + count_by (λ x. not (p x)) xs ≡ length xs
  count_not p [] = refl
  count_not p (x ∷ xs) = omega (arith, count_cons p x xs, count_cons (λ y. not (p y)) x xs, weigh_not (p x), count_not p xs)

  pub count_implies : (p q : A → Bool) (xs : List A) → AllByRecursion (λ x. p x ≡ true → q x ≡ true) xs → count_by p xs ≤ count_by q xs
  count_implies p q [] h = omega arith
  count_implies p q (x ∷ xs) h =
      omega (arith, count_cons p x xs, count_cons q x xs, weigh_implies (p x) (q x) h.0, count_implies p q xs h.1)

  pub count_none : (p : A → Bool) (xs : List A) → AllByRecursion (λ x. p x ≡ false) xs → count_by p xs ≡ 0
  count_none p [] h = refl
  count_none p (x ∷ xs) h = omega (arith, count_cons p x xs, weigh_no (p x) h.0, count_none p xs h.1)

-- The least entry that passes a test.

module _ {A : Type 0} where
  has_here : (x : A) (xs : List A) → ContainsAt (x ∷ xs) x
  has_here x xs = (0, omega arith, λ d. refl)

  has_there : (y : A) (xs : List A) (x : A) → ContainsAt xs x → ContainsAt (y ∷ xs) x
  has_there y xs x h = (suc h.0, omega (arith, h.1), h.2)

  pub record Least (leq : A → A → Bool) (p : A → Bool) (xs : List A) : Type 0 where
    pub entry : A
    pub has : ContainsAt xs entry
    pub passes : p entry ≡ true
    pub least : AllByRecursion (λ x. p x ≡ true → leq entry x ≡ true) xs

  self : (leq : A → A → Bool) → Order leq → (a : A) → leq a a ≡ true
  self leq O a = ⊎_elim (λ e. e) (λ e. e) (O.total a a)

  pub least : (leq : A → A → Bool) → Order leq → (p : A → Bool) (xs : List A) → AllByRecursion (λ x. p x ≡ false) xs ⊎ Least leq p xs
  least leq O p [] = inl tt
  least leq O p (x ∷ xs) = by (p x) refl (least leq O p xs)
    where
      by : (b : Bool) → p x ≡ b → AllByRecursion (λ x. p x ≡ false) xs ⊎ Least leq p xs → AllByRecursion (λ x. p x ≡ false) (x ∷ xs) ⊎ Least leq p (x ∷ xs)
      by false e (inl none) = inl (e, none)
      by false e (inr l) = inr (record {
        entry = l.entry;
        has = has_there x xs l.entry l.has;
        passes = l.passes;
        least = (λ q. absurd (both_ways (p x) e q), l.least);
      })
      by true e (inl none) = inr (record {
        entry = x;
        has = has_here x xs;
        passes = e;
        least = (λ q. self leq O x, All-weaker (λ y. p y ≡ false) (λ y. p y ≡ true → leq x y ≡ true) (λ y f q. absurd (both_ways (p y) f q)) xs none);
      })
      by true e (inr l) = ⊎_elim
          (λ (le : leq x l.entry ≡ true). inr (record {
            entry = x;
            has = has_here x xs;
            passes = e;
            least = (λ q. self leq O x, All-weaker (λ y. p y ≡ true → leq l.entry y ≡ true) (λ y. p y ≡ true → leq x y ≡ true) (λ y f q. O.trans x l.entry y le (f q)) xs l.least);
          }))
          (λ (ge : leq l.entry x ≡ true). inr (record {
            entry = l.entry;
            has = has_there x xs l.entry l.has;
            passes = l.passes;
            least = (λ q. ge, l.least);
          }))
          (O.total x l.entry)

-- the greatest: the least under the order turned round
turned : {A : Type 0} {leq : A → A → Bool} → Order leq → Order (λ a b. leq b a)
turned O = record { total = λ a b. O.total b a; trans = λ a b c p q. O.trans c b a q p }

-- The middle exists.

all_false : {A : Type 0} (xs : List A) → AllByRecursion (λ x. true ≡ false) xs → length xs ≡ 0
all_false [] h = refl
all_false (x ∷ xs) h = absurd (both_ways true h.0 refl)

module _ {A : Type 0} (leq : A → A → Bool) (O : Order leq) (xs : List A) (odd : length xs % 2 ≡ 1) where
  few : A → Bool
  few t = leb (greater leq xs t) (half xs)

  few_in : (t : A) → greater leq xs t ≤ half xs → few t ≡ true
  unfolding few
  few_in t h = le-leb (greater leq xs t) (half xs) h

  few_out : (t : A) → few t ≡ true → greater leq xs t ≤ half xs
  unfolding few
  few_out t h = leb-true (greater leq xs t) (half xs) h

  -- the greatest entry has no greater one
  some_few : AllByRecursion (λ x. few x ≡ false) xs → ⊥
  unfolding greater
  some_few none = ⊎_elim empty top (least (λ a b. leq b a) (turned O) (λ x. true) xs)
    where
      empty : AllByRecursion (λ x. true ≡ false) xs → ⊥
      empty h = omega (arith, all_false xs h)

      zero_greater : (t : A) → AllByRecursion (λ x. true ≡ true → leq x t ≡ true) xs → greater leq xs t ≤ half xs
      zero_greater t h = omega (
        arith,
        count_none (λ x. not (leq x t)) xs
            (All-weaker (λ x. true ≡ true → leq x t ≡ true) (λ x. not (leq x t) ≡ false) (λ x f. not_from_true (leq x t) (f refl)) xs h),
      )

      top : Least (λ a b. leq b a) (λ x. true) xs → ⊥
      top l = both_ways (few l.entry) (all-has (λ x. few x ≡ false) xs l.entry none l.has) (few_in l.entry (zero_greater l.entry l.least))

  -- of the entries with few greater ones, the least has few smaller ones: else the greatest of those that are smaller had few greater ones too
  few_smaller : (l : Least leq few xs) → half xs < smaller leq xs l.entry → ⊥
  unfolding greater smaller half
  few_smaller l many = ⊎_elim empty next (least (λ a b. leq b a) (turned O) (λ x. not (leq l.entry x)) xs)
    where
      empty : AllByRecursion (λ x. not (leq l.entry x) ≡ false) xs → ⊥
      empty h = omega (arith, count_none (λ x. not (leq l.entry x)) xs h)

      few_greater : (u : A) → AllByRecursion (λ x. not (leq l.entry x) ≡ true → leq x u ≡ true) xs → greater leq xs u ≤ half xs
      few_greater u h = omega (
        arith,
        count_not (λ x. leq l.entry x) xs,
        count_implies (λ x. not (leq x u)) (λ x. leq l.entry x) xs
            (All-weaker (λ x. not (leq l.entry x) ≡ true → leq x u ≡ true) (λ x. not (leq x u) ≡ true → leq l.entry x ≡ true) turn xs h),
      )
        where
          turn : (x : A) → (not (leq l.entry x) ≡ true → leq x u ≡ true) → not (leq x u) ≡ true → leq l.entry x ≡ true
          turn x f n = ⊎_elim (λ e. e) (λ e. absurd (both_ways (leq x u) (not-true (leq x u) n) (f (not_from_false (leq l.entry x) e)))) (cases_Bool (leq l.entry x))

      next : Least (λ a b. leq b a) (λ x. not (leq l.entry x)) xs → ⊥
      next m = both_ways (leq l.entry m.entry) (not-true (leq l.entry m.entry) m.passes)
          (all-has (λ x. few x ≡ true → leq l.entry x ≡ true) xs m.entry l.least m.has (few_in m.entry (few_greater m.entry m.least)))

  pub middle_exists : (t : A) × ContainsAt xs t × Central leq xs t
  middle_exists = ⊎_elim (λ none. absurd (some_few none)) found (least leq O few xs)
    where
      found : Least leq few xs → (t : A) × ContainsAt xs t × Central leq xs t
      found l = (l.entry, l.has, record { low = ⊎_elim (λ h. h) (λ h. absurd (few_smaller l h)) (cases_le (smaller leq xs l.entry) (half xs)); high = few_out l.entry l.passes })

-- There is only one.

all_of : {A : Type 0} (P : A → Type 0) → ((x : A) → P x) → (xs : List A) → AllByRecursion P xs
all_of P h [] = tt
all_of P h (x ∷ xs) = (h x, all_of P h xs)

module _ {A : Type 0} (leq : A → A → Bool) (O : Order leq) (xs : List A) (some : 0 < length xs) where
  pub middle_le : (a b : A) → Central leq xs a → Central leq xs b → leq a b ≡ true
  unfolding smaller greater half
  middle_le a b f g = ⊎_elim (λ e. e) (λ e. absurd (clash e)) (cases_Bool (leq a b))
    where
      -- where not a ≤ b, each entry is smaller than a or greater than b
      beyond : leq a b ≡ false → (x : A) → leq a x ≡ true → not (leq x b) ≡ true
      beyond e x h = ⊎_elim (λ k. absurd (both_ways (leq a b) e (O.trans a x b h k))) (not_from_false (leq x b)) (cases_Bool (leq x b))

      clash : leq a b ≡ false → ⊥
      clash e = omega (
        arith,
        f.low,
        g.high,
        count_not (λ x. leq a x) xs,
        count_implies (λ x. leq a x) (λ x. not (leq x b)) xs (all_of (λ x. leq a x ≡ true → not (leq x b) ≡ true) (beyond e) xs),
      )

-- The first that passes.

module _ {A : Type 0} (p : A → Bool) (d : A) where
  pub first_passes : (xs : List A) → AllByRecursion (λ x. p x ≡ false) xs ⊎ (ContainsAt xs (first_of p d xs) × (p (first_of p d xs) ≡ true))
  unfolding first_of
  first_passes [] = inl tt
  first_passes (x ∷ xs) = by (p x) refl (first_passes xs)
    where
      by : (b : Bool) → p x ≡ b → AllByRecursion (λ x. p x ≡ false) xs ⊎ (ContainsAt xs (first_of p d xs) × (p (first_of p d xs) ≡ true))
          → AllByRecursion (λ x. p x ≡ false) (x ∷ xs) ⊎ (ContainsAt (x ∷ xs) (cond b x (first_of p d xs)) × (p (cond b x (first_of p d xs)) ≡ true))
      by true e r = inr (has_here x xs, e)
      by false e (inl none) = inl (e, none)
      by false e (inr h) = inr (has_there x xs (first_of p d xs) h.0, h.1)

module _ {A : Type 0} (leq : A → A → Bool) (xs : List A) where
  pub central_in : (t : A) → Central leq xs t → central leq xs t ≡ true
  unfolding central
  central_in t c = and_from _ _ (le-leb _ _ c.low) (le-leb _ _ c.high)

  pub central_out : (t : A) → central leq xs t ≡ true → Central leq xs t
  unfolding central
  central_out t e =
      let h = and_parts (leb (smaller leq xs t) (half xs)) (leb (greater leq xs t) (half xs)) e in
      record { low = leb-true _ _ h.0; high = leb-true _ _ h.1 }

module _ {A : Type 0} (leq : A → A → Bool) (O : Order leq) (d : A) (xs : List A) (odd : length xs % 2 ≡ 1) where
  pub middle_is : ContainsAt xs (middle_by leq d xs) × Central leq xs (middle_by leq d xs)
  unfolding middle_by
  middle_is = ⊎_elim none (λ h. (h.0, central_out leq xs _ h.1)) (first_passes (central leq xs) d xs)
    where
      none : AllByRecursion (λ x. central leq xs x ≡ false) xs → ContainsAt xs (first_of (central leq xs) d xs) × Central leq xs (first_of (central leq xs) d xs)
      none h =
          let m = middle_exists leq O xs odd in
          absurd (both_ways (central leq xs m.0) (all-has (λ x. central leq xs x ≡ false) xs m.0 h m.1) (central_in leq xs m.0 m.2))

-- At the integers.

int_le_order : Order int_le
int_le_order = record {
  total = λ a b. ⊎_elim inl (λ (e : int_le a b ≡ false). inr (sym (omega (arith, ints)))) (cases_Bool (int_le a b));
  trans = λ a b c p q. sym (omega (arith, ints));
}

int_le_antisym : (a b : ℤ) → int_le a b ≡ true → int_le b a ≡ true → a ≡ b
int_le_antisym a b p q = omega (arith, ints)

pub middle_of_lem : (xs : List ℤ) → length xs % 2 ≡ 1 → Middle xs (middle_of xs)
middle_of_lem xs odd =
    let m = middle_is int_le int_le_order (pos 0) xs odd in
    let some : 0 < length xs = omega arith in
    record {
      among = m.0;
      central = m.1;
      only = λ x c. int_le_antisym x (middle_of xs) (middle_le int_le int_le_order xs some x (middle_of xs) c m.1) (middle_le int_le int_le_order xs some (middle_of xs) x m.1 c);
    }
