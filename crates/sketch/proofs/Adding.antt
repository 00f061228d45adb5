-- A loop that adds a list to the cells, and numbers of 64 bits. Assumes nothing.
use Rattle.std.proofs.Common.{◌≡◌, ℕ, zero, suc, ◌+◌, ◌^◌, ◌<◌, ◌≤◌, List, [], ◌∷◌, length, get_or, set, ℤ, pos, ◌+ℤ◌, nat_abs, sym, refl, ap, ◌∙◌, subst, ap₂, arith, w64, SFits, to_z, of_z}
use Rattle.std.proofs.lemmas.Int.{ints, to_z-of_z}
use Rattle.model.specs.Calls.{add_each}
use Rattle.model.proofs.Ring.{abs_add}
use Rattle.tables.proofs.Swept.{Swept, swept_here, swept_more, swept_all}

-- a number through its bits, as code reads, computes and passes it
abbrev pub bitted : ℤ → ℤ
bitted z = to_z w64 (of_z w64 z)

pub small_fits : (z : ℤ) → nat_abs z < 2 ^ 63 → SFits w64 z
small_fits z h = omega (arith, ints)

pub bitted_is : (z : ℤ) → nat_abs z < 2 ^ 63 → bitted z ≡ z
bitted_is z h = to_z-of_z w64 z (small_fits z h)

length_add : (xs ys : List ℤ) → length (add_each xs ys) ≡ length xs
unfolding add_each
length_add [] ys = refl
length_add (x ∷ xs) [] = refl
length_add (x ∷ xs) (y ∷ ys) = ap suc (length_add xs ys)

get_or_add : (xs ys : List ℤ) (k : ℕ) (d : ℤ) → k < length xs → k < length ys → get_or (add_each xs ys) k d ≡ get_or xs k d +ℤ get_or ys k d
unfolding add_each
get_or_add [] ys k d h g = absurd (let w : ⊥ = omega arith in w)
get_or_add (x ∷ xs) [] k d h g = absurd (let w : ⊥ = omega arith in w)
get_or_add (x ∷ xs) (y ∷ ys) zero d h g = refl
get_or_add (x ∷ xs) (y ∷ ys) (suc k) d h g = get_or_add xs ys k d (omega arith) (omega arith)

-- the cells below k have gained their part of `more`
abbrev pub Added : List ℤ → List ℤ → List ℤ → ℕ → Type 0
Added cells more now k = Swept cells (add_each cells more) now k

pub record Addable (cells more : List ℤ) : Type 0 where
  pub same : length more ≡ length cells
  pub own : (k : ℕ) → k < length cells → nat_abs (get_or cells k (pos 0)) ≤ 2 ^ 26
  pub few : (k : ℕ) → k < length more → nat_abs (get_or more k (pos 0)) ≤ 2 ^ 34

module _ {cells more : List ℤ} (ready : Addable cells more) where
  -- one turn, where x is the gain
  module _ (now : List ℤ) (k : ℕ) (x : ℤ) (h : k < length cells) (is : x ≡ get_or more k (pos 0)) (added : Added cells more now k) where
    there : k < length more
    there = omega (arith, ready.same)

    sum_small : nat_abs (get_or cells k (pos 0) +ℤ get_or more k (pos 0)) < 2 ^ 63
    sum_small = omega (arith, abs_add (get_or cells k (pos 0)) (get_or more k (pos 0)), ready.own k h, ready.few k there)

    sum_is : bitted (get_or now k (pos 0)) +ℤ bitted x ≡ get_or cells k (pos 0) +ℤ get_or more k (pos 0)
    sum_is = ap₂ ◌+ℤ◌
        (ap bitted (swept_here cells (add_each cells more) (length_add cells more) now k (pos 0) h added) ∙ bitted_is (get_or cells k (pos 0)) (omega (arith, ready.own k h)))
        (ap bitted is ∙ bitted_is (get_or more k (pos 0)) (omega (arith, ready.few k there)))

    pub add_fits : SFits w64 (bitted (get_or now k (pos 0)) +ℤ bitted x)
    add_fits = subst (SFits w64) (sym sum_is) (small_fits _ sum_small)

    pub add_more : Added cells more (set now k (bitted (bitted (get_or now k (pos 0)) +ℤ bitted x))) (k + 1)
    add_more =
        let written = ap bitted sum_is ∙ bitted_is _ sum_small ∙ sym (get_or_add cells more k (pos 0) h there) in
        subst (λ z. Added cells more (set now k z) (k + 1)) (sym written) (swept_more cells (add_each cells more) (length_add cells more) now k (pos 0) h added)

  pub add_all : (now : List ℤ) (k : ℕ) → length cells ≤ k → Added cells more now k → now ≡ add_each cells more
  add_all now k h added = swept_all cells (add_each cells more) (length_add cells more) now k h added
