-- Slots moved on round the end, and sums over them. Assumes nothing.
use Rattle.std.specs.Prelude.{◌≡◌, ℕ, suc, ◌+◌, ◌-◌, ◌*◌, ◌/◌, ◌%◌, ◌^◌, ◌<◌, ◌≤◌, ◌≢◌, ◌⊎◌, ℤ, ◌+ℤ◌}
use Rattle.std.proofs.Common.{sym, ap, ◌∙◌, inl, inr, mod-lt, mod-eq_of_lt, div-add-mod', suc-mul, zero-add, arith, pow_pos}
use Rattle.std.proofs.Math.Nat.{mod-add-mod, add-mod_right}
use Rattle.std.proofs.Math.Arith.{digits_mod}
use Rattle.std.proofs.lemmas.Bool.{cases_lt}
use Rattle.signs.specs.Family.{Meaning, Lawful, value, block_sum}
use Rattle.signs.specs.Sums.{sum}
use Rattle.signs.specs.Offset.{shifted}
use Rattle.signs.specs.SumsLemmas.{run, sum_split, sum_ext}

-- what k more does to a remainder: it stays below N, or goes round once
mod_more : (x k N : ℕ) → x % N + k < N → (x + k) % N ≡ x % N + k
mod_more x k N h =
    let p : x / N * N + x % N ≡ x = div-add-mod' x N in
    let q : x + k ≡ x / N * N + (x % N + k) = omega arith in
    ap (λ y. y % N) q ∙ digits_mod (x / N) h

mod_round : (x k N : ℕ) → x % N + k < N + N → N ≤ x % N + k → (x + k) % N ≡ x % N + k - N
mod_round x k N h l =
    let p : x / N * N + x % N ≡ x = div-add-mod' x N in
    let m : suc (x / N) * N ≡ x / N * N + N = suc-mul (x / N) N in
    let q : x + k ≡ suc (x / N) * N + (x % N + k - N) = omega arith in
    let b : x % N + k - N < N = omega arith in
    ap (λ y. y % N) q ∙ digits_mod (suc (x / N)) b

-- slots apart stay apart
apart_by : (N o i k : ℕ) → i < k → k < N → (o + i) % N ≢ (o + k) % N
apart_by N o i k l h e = pick (mod-lt o (omega arith)) (cases_lt (o % N + i) N) (cases_lt (o % N + k) N)
  where
    pick : o % N < N → (o % N + i < N) ⊎ (N ≤ o % N + i) → (o % N + k < N) ⊎ (N ≤ o % N + k) → ⊥
    pick r (inl a) (inl b) = let p = mod_more o i N a in let q = mod_more o k N b in omega arith
    pick r (inl a) (inr b) = let p = mod_more o i N a in let q : (o + k) % N ≡ o % N + k - N = mod_round o k N (omega arith) b in omega arith
    pick r (inr a) (inl b) = omega arith
    pick r (inr a) (inr b) =
        let p : (o + i) % N ≡ o % N + i - N = mod_round o i N (omega arith) a in
        let q : (o + k) % N ≡ o % N + k - N = mod_round o k N (omega arith) b in
        omega arith

apart : (N o i k : ℕ) → i < N → k < N → i ≢ k → (i + o) % N ≢ (k + o) % N
apart N o i k hi hk ne e = pick (cases_lt i k)
  where
    turned : (o + i) % N ≡ (o + k) % N
    turned = ap (λ x. x % N) (let p : o + i ≡ i + o = omega arith in p) ∙ e ∙ ap (λ x. x % N) (let p : k + o ≡ o + k = omega arith in p)

    pick : (i < k) ⊎ (k ≤ i) → ⊥
    pick (inl l) = apart_by N o i k l hk turned
    pick (inr l) = apart_by N o k i (let n : (k ≢ i) = λ p. ne (sym p) in omega arith) hi (sym turned)

-- the layer keeps the laws
pub shifted-Lawful : (F : Meaning) (o : ℕ) → Lawful F → Lawful (shifted F o)
shifted-Lawful F o L = record {
  wide = L.wide;
  narrow = L.narrow;
  some = L.some;
  few = L.few;
  half = λ i k hi hk ne.
      let N = 2 ^ F.width in
      L.half ((i + o) % N) ((k + o) % N) (mod-lt (i + o) (pow_pos F.width)) (mod-lt (k + o) (pow_pos F.width)) (apart N o i k hi hk ne);
}

-- the sum over n slots from r on, round the end at N
abbrev pub round : (ℕ → ℤ) → ℕ → ℕ → ℕ → ℤ
round f N r n = sum n (λ k. f ((r + k) % N))

-- where it stays below the end
pub round_straight : (f : ℕ → ℤ) (N r n : ℕ) → r + n ≤ N → round f N r n ≡ run f r n
round_straight f N r n h = sum_ext n _ _ (λ k l. ap f (mod-eq_of_lt (omega arith)))

-- where it goes round it
pub round_over : (f : ℕ → ℤ) (N r n : ℕ) → r < N → n ≤ N → N < r + n → round f N r n ≡ run f r (N - r) +ℤ run f 0 (r + n - N)
round_over f N r n low few h =
    let e : n ≡ N - r + (r + n - N) = omega arith in
    ap (round f N r) e
    ∙ sum_split (N - r) (r + n - N) (λ k. f ((r + k) % N))
    ∙ ap (λ z. z +ℤ sum (r + n - N) (λ k. f ((r + (N - r + k)) % N))) (round_straight f N r (N - r) (omega arith))
    ∙ ap (λ z. run f r (N - r) +ℤ z) (sum_ext (r + n - N) _ _ (λ k l. ap f (at k l)))
  where
    at : (k : ℕ) → k < r + n - N → (r + (N - r + k)) % N ≡ 0 + k
    at k l = ap (λ x. x % N) (let p : r + (N - r + k) ≡ k + N = omega arith in p) ∙ add-mod_right k N ∙ mod-eq_of_lt (omega arith) ∙ sym (zero-add k)

-- a block of the layer is a run below, round the end
pub block_round : (F : Meaning) (o s j q : ℕ) → round (λ i. value (F.sign s i)) (2 ^ F.width) ((q * 2 ^ j + o) % 2 ^ F.width) (2 ^ j) ≡ block_sum (shifted F o) s j q
block_round F o s j q = sum_ext (2 ^ j) _ _ (λ k l. ap (λ x. value (F.sign s x)) (at k))
  where
    N : ℕ
    N = 2 ^ F.width

    at : (k : ℕ) → ((q * 2 ^ j + o) % N + k) % N ≡ (q * 2 ^ j + k + o) % N
    at k = mod-add-mod (q * 2 ^ j + o) N k ∙ ap (λ x. x % N) (let p : q * 2 ^ j + o + k ≡ q * 2 ^ j + k + o = omega arith in p)
