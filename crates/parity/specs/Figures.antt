-- Worked figures: what is asked, and what it gives. Assumes nothing.
use Rattle.std.specs.Prelude.{◌≡◌, ℕ, ◌+◌, ◌-◌, ◌*◌, ◌%◌, ◌^◌, cond, List, [], ◌∷◌, ℤ, pos, negsuc, ◌+ℤ◌, Ok, Result, nat_le}
use Rattle.std.specs.List.{AllByRecursion}
use Rattle.signs.specs.declared.faults.Fault.{Fault}
use Rattle.signs.specs.Family.{block_answer, interval_answer}
use Rattle.signs.specs.Cover.{cover_sum}
use Rattle.signs.specs.Offset.{shifted}
use Rattle.parity.specs.Parity.{bch3, bch3_block_sum, eh3, eh3_block_sum}

pub data Asked : Type 0 where
  -- width, seed, level and number
  bch3_block : ℕ → ℕ → ℕ → ℕ → Asked
  eh3_block : ℕ → ℕ → ℕ → ℕ → Asked
  -- width, seed, first slot and end
  eh3_interval : ℕ → ℕ → ℕ → ℕ → Asked
  -- width, offset, seed, level and number
  offset_block : ℕ → ℕ → ℕ → ℕ → ℕ → Asked

-- a question of some kind, and what it gives
pub record Figure (Q : Type 0) : Type 0 where
  pub asked : Q
  pub gives : ℤ

abbrev pub figure : {Q : Type 0} → Q → ℤ → Figure Q
figure q z = record { asked = q; gives = z }

-- it gives that by the sums of the signs, and by the closed rules
pub record Holds {Q : Type 0} (by_signs : Q → Result ℤ Fault) (by_rules : Q → ℤ) (f : Figure Q) : Type 0 where
  pub signs : by_signs f.asked ≡ Ok f.gives
  pub rules : by_rules f.asked ≡ f.gives

-- `negsuc n` is -(n + 1)
abbrev pub figures : List (Figure Asked)
figures =
    figure (bch3_block 4 9 2 0) (negsuc 3)
    ∷ figure (bch3_block 4 9 2 1) (pos 4)
    ∷ figure (bch3_block 4 9 3 0) (pos 0)
    ∷ figure (bch3_block 4 1 4 0) (negsuc 15)
    ∷ figure (bch3_block 4 10 1 5) (pos 0)
    ∷ figure (eh3_block 4 3 1 0) (negsuc 1)
    ∷ figure (eh3_block 4 3 2 1) (pos 2)
    ∷ figure (eh3_block 4 3 4 0) (pos 4)
    ∷ figure (eh3_interval 4 3 3 13) (pos 4)
    ∷ figure (eh3_interval 4 3 1 7) (pos 0)
    ∷ figure (offset_block 4 3 3 2 1) (pos 2)
    ∷ figure (offset_block 4 2 3 2 3) (negsuc 1)
    ∷ []

-- the answer by the sum of the signs
abbrev pub by_signs : Asked → Result ℤ Fault
by_signs (bch3_block n s j q) = block_answer (bch3 n) s j q
by_signs (eh3_block n s j q) = block_answer (eh3 n) s j q
by_signs (eh3_interval n s a b) = interval_answer (eh3 n) s a b
by_signs (offset_block n o s j q) = block_answer (shifted (eh3 n) o) s j q

-- an interval of EH3 by the closed rule of its blocks
abbrev pub eh3_cover : ℕ → ℕ → ℕ → ℕ → ℤ
eh3_cover n s a b = cover_sum (eh3_block_sum n s) n (2 * n) a b

-- `size` slots of EH3 from `start` on, round the end: one interval or two
abbrev pub eh3_round : ℕ → ℕ → ℕ → ℕ → ℤ
eh3_round n s start size =
    cond (nat_le (start + size) (2 ^ n)) (eh3_cover n s start (start + size)) (eh3_cover n s start (2 ^ n) +ℤ eh3_cover n s 0 (start + size - 2 ^ n))

-- the answer by the closed rules
abbrev pub by_rules : Asked → ℤ
by_rules (bch3_block n s j q) = bch3_block_sum s j q
by_rules (eh3_block n s j q) = eh3_block_sum n s j q
by_rules (eh3_interval n s a b) = eh3_cover n s a b
by_rules (offset_block n o s j q) = eh3_round n s ((q * 2 ^ j + o) % 2 ^ n) (2 ^ j)

abbrev pub FiguresHold : Type 0
FiguresHold = AllByRecursion (Holds by_signs by_rules) figures
