-- A group's seeds chosen anew: every opening is accepted as before, and the group's entries are the choice. Assumes nothing.
use Rattle.std.proofs.Common.{◌≡◌, ℕ, suc, ◌+◌, ◌*◌, ◌<◌, ◌≤◌, List, ◌++◌, length, get_or, take, drop, ℤ, None, sym, ap, ◌∙◌, ap₂, mul-le-mul_right, arith}
use Rattle.std.proofs.ByRecursion.{All-append, All-take, All-drop, All-get_or, All-from_get_or}
use Rattle.std.proofs.lemmas.List.{length-append, length-take-le, length-drop, get_or_append_left, get_or-append-add}
use Rattle.std.specs.List.{AllByRecursion}
use Rattle.signs.specs.Family.{Meaning}
use Rattle.model.specs.Calls.{open_refusal}
use Rattle.model.specs.Law.{with_group}
use Rattle.model.proofs.Checks.{Opening, open_passed, open_passes}

-- whatever opens over the seeds opens over others too
abbrev pub OpensToo : Meaning → List ℕ → List ℕ → Type 0
OpensToo F seeds seeds' = (groups columns : ℕ) (found : List ℤ) → open_refusal F groups columns seeds found ≡ None → open_refusal F groups columns seeds' found ≡ None

module _ (F : Meaning) (seeds : List ℕ) {G C : ℕ} (opening : Opening F G C seeds) (group : ℕ) (below : group < G) (choice : List ℕ) (each : length choice ≡ C) where
  abbrev chosen : List ℕ
  chosen = with_group seeds C group choice

  front : suc group * C ≤ G * C
  front = mul-le-mul_right C below

  before : length (take (group * C) seeds) ≡ group * C
  before = length-take-le (group * C) seeds (omega (arith, front, opening.long))

  chosen_long : length chosen ≡ length seeds
  chosen_long =
      length-append (take (group * C) seeds) (choice ++ drop (suc group * C) seeds)
      ∙ ap₂ ◌+◌ before (length-append choice (drop (suc group * C) seeds) ∙ ap₂ ◌+◌ each (length-drop (suc group * C) seeds))
      ∙ omega (arith, front, opening.long)

  -- the group's entries
  pub chosen_at : (j : ℕ) → j < C → get_or chosen (group * C + j) 0 ≡ get_or choice j 0
  chosen_at j h =
      ap (λ n. get_or chosen (n + j) 0) (sym before)
      ∙ get_or-append-add (take (group * C) seeds) (choice ++ drop (suc group * C) seeds) j 0
      ∙ get_or_append_left choice (drop (suc group * C) seeds) 0 j (omega (arith, each))

  pub chosen_there : (j : ℕ) → j < C → group * C + j < length chosen
  chosen_there j h = omega (arith, front, chosen_long, opening.long)

  known_too : AllByRecursion (λ seed. seed < F.seeds) choice → (k : ℕ) → k < length chosen → get_or chosen k 0 < F.seeds
  known_too known k h =
      let P : ℕ → Type 0 = λ seed. seed < F.seeds in
      let all = All-from_get_or P seeds 0 opening.known in
      All-get_or P chosen k 0 h
      (All-append P (take (group * C) seeds) (choice ++ drop (suc group * C) seeds) (All-take P (group * C) seeds all)
      (All-append P choice (drop (suc group * C) seeds) known (All-drop P (suc group * C) seeds all)))

  pub opens_too : AllByRecursion (λ seed. seed < F.seeds) choice → OpensToo F seeds chosen
  opens_too known groups columns found e =
      let o = open_passed F groups columns seeds found e in
      open_passes F groups columns chosen found (record {
        opening = record { shaped = o.opening.shaped; long = chosen_long ∙ o.opening.long; known = known_too known };
        found_long = o.found_long;
      })
