-- What passed checks of an overlap tell. Assumes nothing.
use Rattle.std.proofs.Common.{◌≡◌, ℕ, ◌<◌, ◌≤◌, List, length, get_or, ℤ, pos, nat_abs, None}
use Rattle.signs.specs.Faults.{◌⨾◌}
use Rattle.signs.proofs.Answers.{first_none, then_none}
use Rattle.model.specs.Calls.{Tally, entries, own_table, other_table, totals_table, other_cells, same_shape_check, length_check, cells_check}
use Rattle.model.specs.Overlap.{overlap_refusal}
use Rattle.model.proofs.Checks.{length_passed, cells_passed}

pub record Comparable (t : Tally) (cells : List ℤ) (u : Tally) (others totals : List ℤ) : Type 0 where
  pub first_long : length cells ≡ entries t
  pub second_long : length others ≡ entries t
  pub totals_long : length totals ≡ t.groups
  pub first_small : (k : ℕ) → k < length cells → nat_abs (get_or cells k (pos 0)) ≤ t.gross
  pub second_small : (k : ℕ) → k < length others → nat_abs (get_or others k (pos 0)) ≤ u.gross

pub overlap_passed : (t : Tally) (cells : List ℤ) (u : Tally) (others totals : List ℤ) → overlap_refusal t cells u others totals ≡ None → Comparable t cells u others totals
overlap_passed t cells u others totals e =
    let n = entries t in
    let shapes = same_shape_check t.groups t.columns u.groups u.columns in
    let own = cells_check 0 t.gross cells in
    let other = cells_check other_cells u.gross others in
    let table = length_check totals_table t.groups totals in
    let a = then_none shapes (length_check own_table n cells ⨾ length_check other_table n others ⨾ table ⨾ own ⨾ other) e in
    let b = then_none (length_check own_table n cells) (length_check other_table n others ⨾ table ⨾ own ⨾ other) a in
    let c = then_none (length_check other_table n others) (table ⨾ own ⨾ other) b in
    let d = then_none table (own ⨾ other) c in
    record {
      first_long = length_passed own_table n cells (first_none (length_check own_table n cells) _ a);
      second_long = length_passed other_table n others (first_none (length_check other_table n others) _ b);
      totals_long = length_passed totals_table t.groups totals (first_none table _ c);
      first_small = cells_passed 0 t.gross cells (first_none own other d);
      second_small = cells_passed other_cells u.gross others (then_none own other d);
    }
