-- The middle of an odd number of entries, under any total order that is given as a test. Assumes nothing.
use Rattle.std.specs.Prelude.{◌≡◌, ℕ, ◌-◌, ◌/◌, ◌≤◌, Bool, true, cond, not, ◌&&◌, ◌⊎◌, List, [], ◌∷◌, length, ℤ, pos, count_by, int_le, nat_le}
use Rattle.std.specs.List.{ContainsAt}

-- any two entries compare, and the order is transitive
pub record Order {A : Type 0} (leq : A → A → Bool) : Type 0 where
  pub total : (a b : A) → (leq a b ≡ true) ⊎ (leq b a ≡ true)
  pub trans : (a b c : A) → leq a b ≡ true → leq b c ≡ true → leq a c ≡ true

-- half of the entries, but for one
unfoldable pub half : {A : Type 0} → List A → ℕ
half xs = (length xs - 1) / 2

-- how many entries are smaller than t, and how many are greater

unfoldable pub smaller : {A : Type 0} → (A → A → Bool) → List A → A → ℕ
smaller leq xs t = count_by (λ x. not (leq t x)) xs

unfoldable pub greater : {A : Type 0} → (A → A → Bool) → List A → A → ℕ
greater leq xs t = count_by (λ x. not (leq x t)) xs

-- at most half of the others are smaller than t, and at most half greater
pub record Central {A : Type 0} (leq : A → A → Bool) (xs : List A) (t : A) : Type 0 where
  pub low : smaller leq xs t ≤ half xs
  pub high : greater leq xs t ≤ half xs

-- the same as a test
unfoldable pub central : {A : Type 0} → (A → A → Bool) → List A → A → Bool
central leq xs t = nat_le (smaller leq xs t) (half xs) && nat_le (greater leq xs t) (half xs)

-- the first entry that passes, or d
unfoldable pub first_of : {A : Type 0} → (A → Bool) → A → List A → A
first_of p d [] = d
first_of p d (x ∷ xs) = cond (p x) x (first_of p d xs)

-- the first entry that is central, or d
unfoldable pub middle_by : {A : Type 0} → (A → A → Bool) → A → List A → A
middle_by leq d xs = first_of (central leq xs) d xs

-- of integers
abbrev pub middle_of : List ℤ → ℤ
middle_of xs = middle_by int_le (pos 0) xs

-- m is the middle: one of the entries and central, and no other number is
pub record Middle (xs : List ℤ) (m : ℤ) : Type 0 where
  pub among : ContainsAt xs m
  pub central : Central int_le xs m
  pub only : (x : ℤ) → Central int_le xs x → x ≡ m
