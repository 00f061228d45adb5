-- The law of two runs. Assumes nothing.
use Rattle.std.proofs.Common.{◌≡◌, ℕ, ◌+◌, ◌*◌, ◌%◌, ◌<◌, cond, List, [], ◌∷◌, ◌++◌, map, length, get_or, ℤ, pos, ◌+ℤ◌, ◌-ℤ◌, ◌*ℤ◌, is_some, Some, None, sym, refl, ap, ◌∙◌, subst, ap₂, subst₂, inl, inr, arith}
use mathlib.Core.Path.{fun_ext}
use Rattle.std.proofs.lemmas.List.FromFn.{length-map-range_with_len, get_or-map-range_with_len}
use Rattle.std.proofs.lemmas.List.{get_or-map}
use Rattle.std.proofs.lemmas.Bool.Decides.{nat_tests}
use Rattle.std.specs.List.{AllByRecursion}
use Rattle.signs.specs.declared.reason.Reason.TheVariants.{Table}
use Rattle.signs.specs.Faults.{Refusal, accepts, ◌⨾◌, answer, unless, number_of, sketch_fault}
use Rattle.signs.specs.Sums.{sum}
use Rattle.signs.specs.Family.{Meaning, Lawful}
use Rattle.signs.specs.SumsLemmas.{sum_ext}
use Rattle.model.specs.Calls.{State, mass, entries, own_table, other_table, totals_table, other_cells, same_shape_check, length_check, cells_check, limit_check, booking_check}
use Rattle.model.specs.Choices.{cell_of, overlap_of}
use Rattle.model.specs.Law.{ForCells, NeverForCells, with_group, Compared, UnderChoice, group_entry, Unbiased}
use Rattle.model.specs.Overlap.{group_total, group_totals, estimate, overlap_refusal}
use Rattle.model.specs.Runs.{Run, opened, post, hold, confirm, withdraw, merge, after, fate, fates, accepted, under_option, Permitted}
use Rattle.model.specs.Standing.{groups_of, columns_of, standing, standing_option, gross_of, weight_at, option_weight, option_mass}
use Rattle.model.proofs.Checks.{length_passes}
use Rattle.model.proofs.Choices.{choices_ext, choices_number, choices_totals}
use Rattle.model.proofs.Weights.{orthogonal}
use Rattle.model.proofs.Kept.{told, long, size, own_free}
use Rattle.model.proofs.Faithful.{kept, due, if_for_cells}
use Rattle.model.proofs.Chosen.{OpensToo, chosen_at, chosen_there, opens_too}
use Rattle.model.proofs.Middle.{middle_of_lem}

-- One run over two tables of seeds.

pub record Alike (F : Meaning) (seeds seeds' : List ℕ) (r : Run) : Type 0 where
  pub permitted : Permitted F seeds' r
  pub same : fates F seeds' r ≡ fates F seeds r
  pub gross : gross_of (accepted F seeds') r ≡ gross_of (accepted F seeds) r
  pub option : standing_option (accepted F seeds') r ≡ standing_option (accepted F seeds) r
  pub weights : (i : ℕ) → standing (accepted F seeds') r i ≡ standing (accepted F seeds) r i

module _ (F : Meaning) (seeds seeds' : List ℕ) (opens : OpensToo F seeds seeds') where
  -- whether an option stands is the same
  option_too : (r : Run) → Permitted F seeds r → Alike F seeds seeds' r → under_option F seeds' r ≡ under_option F seeds r
  option_too r ok a =
      ap is_some (ap (λ s. s.option) (kept F seeds' r a.permitted).is ∙ a.option ∙ sym (ap (λ s. s.option) (kept F seeds r ok).is))

  pub alike : (r : Run) → Permitted F seeds r → Alike F seeds seeds' r
  unfolding Permitted fates gross_of standing_option standing
  alike (opened groups columns found) ok =
      let p = opens groups columns found ok in
      record { permitted = p; same = ap (λ x. x ∷ []) (p ∙ sym ok); gross = refl; option = refl; weights = λ i. refl }
  alike (post r b) ok =
      let a = alike r ok.0 in
      let p : Permitted F seeds' (post r b) = (a.permitted, option_too r ok.0 a ∙ ok.1) in
      let e : fate F seeds' (post r b) ≡ fate F seeds (post r b) = due F seeds' (post r b) p ∙ ap (λ n. booking_check F 1 n b) a.gross ∙ sym (due F seeds (post r b) ok) in
      record {
        permitted = p;
        same = ap₂ ◌∷◌ e a.same;
        gross = ap₂ (λ n x. n + cond (accepts x) (mass b) 0) a.gross e;
        option = a.option;
        weights = λ i. ap₂ (λ z x. z +ℤ cond (accepts x) (weight_at b i) (pos 0)) (a.weights i) e;
      }
  alike (hold r b) ok =
      let a = alike r ok.0 in
      let p : Permitted F seeds' (hold r b) = (a.permitted, option_too r ok.0 a ∙ ok.1) in
      let e : fate F seeds' (hold r b) ≡ fate F seeds (hold r b) = due F seeds' (hold r b) p ∙ ap (λ n. booking_check F 2 n b) a.gross ∙ sym (due F seeds (hold r b) ok) in
      record {
        permitted = p;
        same = ap₂ ◌∷◌ e a.same;
        gross = ap₂ (λ n x. n + cond (accepts x) (mass b) 0) a.gross e;
        option = ap₂ (λ q x. cond (accepts x) (Some b) q) a.option e;
        weights = λ i. ap₂ (λ z x. z +ℤ cond (accepts x) (weight_at b i) (pos 0)) (a.weights i) e;
      }
  alike (confirm r) ok =
      let a = alike r ok.0 in
      record { permitted = (a.permitted, option_too r ok.0 a ∙ ok.1); same = ap (λ l. None ∷ l) a.same; gross = a.gross; option = refl; weights = a.weights }
  alike (withdraw r) ok =
      let a = alike r ok.0 in
      let p : Permitted F seeds' (withdraw r) = (a.permitted, option_too r ok.0 a ∙ ok.1) in
      let e : fate F seeds' (withdraw r) ≡ fate F seeds (withdraw r) = due F seeds' (withdraw r) p ∙ sym (due F seeds (withdraw r) ok) in
      record {
        permitted = p;
        same = ap₂ ◌∷◌ e a.same;
        gross = ap₂ (λ n q. n + cond (accepted F seeds' (withdraw r)) (option_mass q) 0) a.gross a.option ∙ ap (λ x. gross_of (accepted F seeds) r + cond (accepts x) (option_mass (standing_option (accepted F seeds) r)) 0) e;
        option = ap₂ (λ q x. cond (accepts x) None q) a.option e;
        weights = λ i. ap₂ (λ z q. z -ℤ cond (accepted F seeds' (withdraw r)) (option_weight q i) (pos 0)) (a.weights i) a.option ∙ ap (λ x. standing (accepted F seeds) r i -ℤ cond (accepts x) (option_weight (standing_option (accepted F seeds) r) i) (pos 0)) e;
      }
  alike (merge r other) ok =
      let a = alike r ok.0 in
      let b = alike other ok.2 in
      let p : Permitted F seeds' (merge r other) = (a.permitted, option_too r ok.0 a ∙ ok.1, b.permitted) in
      let e : fate F seeds' (merge r other) ≡ fate F seeds (merge r other) = due F seeds' (merge r other) p ∙ ap₂ (λ m n. same_shape_check (groups_of r) (columns_of r) (groups_of other) (columns_of other) ⨾ limit_check (m + n)) a.gross b.gross ∙ sym (due F seeds (merge r other) ok) in
      record {
        permitted = p;
        same = ap₂ ◌∷◌ e (ap₂ ◌++◌ a.same b.same);
        gross = ap₂ (λ m n. m + cond (accepted F seeds' (merge r other)) n 0) a.gross b.gross ∙ ap (λ x. gross_of (accepted F seeds) r + cond (accepts x) (gross_of (accepted F seeds) other) 0) e;
        option = a.option;
        weights = λ i. ap₂ (λ y z. y +ℤ cond (accepted F seeds' (merge r other)) z (pos 0)) (a.weights i) (b.weights i) ∙ ap (λ x. standing (accepted F seeds) r i +ℤ cond (accepts x) (standing (accepted F seeds) other i) (pos 0)) e;
      }

-- Overlap.

nothing_after : (r : Refusal) → (r ⨾ (None ⨾ None)) ≡ r
nothing_after None = refl
nothing_after (Some f) = refl

third : ForCells (sketch_fault Table totals_table) → ⊥
third (inl e) = let z : ◌≡◌ {A = ℕ} 10 11 = ap number_of e in omega arith
third (inr e) = elim e.1 [ inl z ↦ omega (arith, z) | inr z ↦ omega (arith, z) ]

same_shape : (g c g' c' : ℕ) → g ≡ g' → c ≡ c' → same_shape_check g c g' c' ≡ None
same_shape g c g' c' e f = grind (arith, nat_tests)

module _ (F : Meaning) (seeds : List ℕ) (r s : Run) (ok : Permitted F seeds r) (ok' : Permitted F seeds s) (groups_same : groups_of r ≡ groups_of s) (columns_same : columns_of r ≡ columns_of s) where
  -- the two sketches, as the calls tell them

  abbrev A : State
  A = told F seeds (groups_of r) (columns_of r) (gross_of (accepted F seeds) r) (standing (accepted F seeds) r) (standing_option (accepted F seeds) r)

  abbrev B : State
  B = told F seeds (groups_of s) (columns_of s) (gross_of (accepted F seeds) s) (standing (accepted F seeds) s) (standing_option (accepted F seeds) s)

  refusal : (table : List ℤ) → overlap_refusal A.tally A.cells B.tally B.cells table ≡ length_check totals_table (groups_of r) table
  refusal table =
      let k = kept F seeds r ok in
      let l = kept F seeds s ok' in
      let n = entries A.tally in
      let totals = length_check totals_table (groups_of r) table in
      let own = cells_check 0 A.tally.gross A.cells in
      let other = cells_check other_cells B.tally.gross B.cells in
      ap (λ x. x ⨾ (length_check own_table n A.cells ⨾ length_check other_table n B.cells ⨾ totals ⨾ own ⨾ other)) (same_shape (groups_of r) (columns_of r) (groups_of s) (columns_of s) groups_same columns_same)
      ∙ ap (λ x. x ⨾ (length_check other_table n B.cells ⨾ totals ⨾ own ⨾ other)) (long k own_table n (size k))
      ∙ ap (λ x. x ⨾ (totals ⨾ own ⨾ other)) (long l other_table n (size k))
      ∙ ap₂ (λ x y. totals ⨾ (x ⨾ y)) (own_free k 0) (own_free l other_cells)
      ∙ nothing_after totals

  taken : (table : List ℤ) → length table ≡ groups_of r → overlap_refusal A.tally A.cells B.tally B.cells table ≡ None
  taken table e = refusal table ∙ length_passes totals_table (groups_of r) table e

  abbrev totals_of : List ℤ
  totals_of = group_totals (groups_of r) (columns_of r) A.cells B.cells

  odd : length totals_of % 2 ≡ 1
  odd = ap (λ n. n % 2) (length-map-range_with_len _ 0 (groups_of r)) ∙ (kept F seeds r ok).opening.shaped.odd

  compared_told : Compared (groups_of r) (columns_of r) A B
  compared_told = record {
    refused = refusal;
    never_for_cells = λ table. subst NeverForCells (sym (refusal table)) (if_for_cells _ (sketch_fault Table totals_table) third);
    answered = λ table e. ap (λ x. answer x (estimate (groups_of r) (columns_of r) A.cells B.cells)) (taken table e);
    totals = λ table e. ap (λ x. unless x table totals_of) (taken table e);
    middle = middle_of_lem totals_of odd;
  }

  pub compared : Compared (groups_of r) (columns_of r) (after F seeds r) (after F seeds s)
  compared = subst₂ (Compared (groups_of r) (columns_of r)) (sym (kept F seeds r ok).is) (sym (kept F seeds s ok').is) compared_told

-- All choices of a group's seeds.

module _ (F : Meaning) (lawful : Lawful F) (seeds : List ℕ) (r s : Run) (ok : Permitted F seeds r) (ok' : Permitted F seeds s) (groups_same : groups_of r ≡ groups_of s) (columns_same : columns_of r ≡ columns_of s) (group : ℕ) (below : group < groups_of r) where
  abbrev C : ℕ
  C = columns_of r

  -- under a choice
  module _ (choice : List ℕ) (each : length choice ≡ C) (known : AllByRecursion (λ seed. seed < F.seeds) choice) where
    abbrev there : List ℕ
    there = with_group seeds C group choice

    opens : OpensToo F seeds there
    opens = opens_too F seeds (kept F seeds r ok).opening group below choice each known

    -- the group's cells are those of the chosen seeds
    cell_at : (q : Run) → Permitted F seeds q → (j : ℕ) → j < C → get_or (after F there q).cells (group * C + j) (pos 0) ≡ cell_of F (standing (accepted F seeds) q) (get_or choice j 0)
    cell_at q okq j h =
        let a = alike F seeds there opens q okq in
        let W = standing (accepted F seeds) q in
        let n = group * C + j in
        ap (λ l. get_or l n (pos 0)) (ap (λ s. s.cells) (kept F there q a.permitted).is ∙ ap (λ V. map (cell_of F V) there) (fun_ext a.weights))
        ∙ get_or-map (cell_of F W) there n 0 (pos 0) (chosen_there F seeds (kept F seeds r ok).opening group below choice each j h)
        ∙ ap (cell_of F W) (chosen_at F seeds (kept F seeds r ok).opening group below choice each j h)

    under : UnderChoice F seeds there r s
    under =
        let a = alike F seeds there opens r ok in
        let b = alike F seeds there opens s ok' in
        record {
          first = record { permitted = a.permitted; same = a.same };
          second = record { permitted = b.permitted; same = b.same };
          compared = compared F there r s a.permitted b.permitted groups_same columns_same;
        }

    -- the group's entry of the table that overlap leaves
    entry_is : (table : List ℤ) → length table ≡ groups_of r → group_entry F there r s table group ≡ sum C (λ k. cell_of F (standing (accepted F seeds) r) (get_or choice k 0) *ℤ cell_of F (standing (accepted F seeds) s) (get_or choice k 0))
    entry_is table e =
        ap (λ l. get_or l group (pos 0)) (under.compared.totals table e)
        ∙ get_or-map-range_with_len (group_total C (after F there r).cells (after F there s).cells) 0 (groups_of r) group group (pos 0) below (omega arith)
        ∙ sum_ext C _ _ (λ j h. ap₂ ◌*ℤ◌ (cell_at r ok j h) (cell_at s ok' j h))

  pub unbiased : Unbiased F seeds r s group
  unbiased =
      let W = standing (accepted F seeds) r in
      let V = standing (accepted F seeds) s in
      record {
        each = λ choice p. under choice p.0 p.1;
        number = choices_number F.seeds C;
        balance = λ table e.
            choices_ext F.seeds C _ _ (λ choice each known. entry_is choice each known table e)
            ∙ choices_totals F.seeds (λ seed. cell_of F W seed *ℤ cell_of F V seed) (overlap_of F W V) (orthogonal F lawful W V) C;
      }
