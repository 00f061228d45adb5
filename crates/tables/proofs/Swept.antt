-- A loop that rewrites a table, place by place. Assumes nothing.
use Rattle.std.proofs.Common.{◌≡◌, ℕ, ◌+◌, ◌<◌, ◌≤◌, List, [], ◌∷◌, ◌++◌, length, get_or, take, drop, set, sym, ap, ◌∙◌, arith}
use Rattle.std.proofs.lemmas.List.{append_assoc, length-take-le, get_or_at, set_at, take_more, drop_more, take_all, drop_all, append-nil}

-- the places below k are those of zs, the others still those of xs
abbrev pub Swept : {A : Type 0} → List A → List A → List A → ℕ → Type 0
Swept xs zs ys k = ys ≡ take k zs ++ drop k xs

module _ {A : Type 0} (xs zs : List A) (same : length zs ≡ length xs) where
  module _ (ys : List A) (k : ℕ) (d : A) (h : k < length xs) (swept : Swept xs zs ys k) where
    cut : ys ≡ take k zs ++ (get_or xs k d ∷ drop (k + 1) xs)
    cut = swept ∙ ap (λ t. take k zs ++ t) (drop_more xs k d h)

    short : length (take k zs) ≡ k
    short = length-take-le k zs (omega arith)

    pub swept_here : get_or ys k d ≡ get_or xs k d
    swept_here = ap (λ l. get_or l k d) cut ∙ get_or_at (take k zs) (get_or xs k d) (drop (k + 1) xs) d k short

    pub swept_more : Swept xs zs (set ys k (get_or zs k d)) (k + 1)
    swept_more =
        let within : k < length zs = omega arith in
        ap (λ l. set l k (get_or zs k d)) cut
        ∙ set_at (take k zs) (get_or xs k d) (drop (k + 1) xs) (get_or zs k d) k short
        ∙ sym (append_assoc (take k zs) (get_or zs k d ∷ []) (drop (k + 1) xs))
        ∙ ap (λ l. l ++ drop (k + 1) xs) (sym (take_more zs k d within))

  pub swept_all : (ys : List A) (k : ℕ) → length xs ≤ k → Swept xs zs ys k → ys ≡ zs
  swept_all ys k h swept =
      let past : length zs ≤ k = omega arith in
      swept ∙ ap (λ l. take k zs ++ l) (drop_all k xs h) ∙ append-nil (take k zs) ∙ take_all k zs past
