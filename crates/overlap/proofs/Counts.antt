-- The first entry that passes, in the library's words. Assumes nothing.
use Rattle.std.proofs.Common.{◌≡◌, Bool, true, false, cond, List, [], ◌∷◌, Some, Option, refl}
use Rattle.std.specs.List.{find}
use Rattle.std.specs.Option.{unwrap_or}
use Rattle.model.specs.Middle.{first_of}

pub first_found : {A : Type 0} (p : A → Bool) (d : A) (xs : List A) → first_of p d xs ≡ unwrap_or (find p xs) d
unfolding first_of
first_found p d [] = refl
first_found {A} p d (x ∷ xs) = pick (p x) (find p xs) (first_found p d xs)
  where
    pick : (t : Bool) (o : Option A) → first_of p d xs ≡ unwrap_or o d → cond t x (first_of p d xs) ≡ unwrap_or (cond t (Some x) o) d
    pick true o h = refl
    pick false o h = h
