-- Stores one after the other, beyond what `lib.Seq` has.
-- Assumes nothing.
use Prim.Native.Nat.{ℕ, suc, ◌+◌, ◌≤◌}
use mathlib.Core.Path.{◌≡◌, ◌∙◌}
use mathlib.Core.List.{List, [], ◌∷◌, ◌++◌}
use native.Mathlib.Nat.{add-zero, add-suc, suc-add, zero-add}
use lib.ListN.{length, set, drop}
use lib.Seq.{sets, sets-eq}

pub stores_follow_stores : (l : List ℕ) (i : ℕ) (a b : List ℕ) → sets l i (a ++ b) ≡ sets (sets l i a) (i + length a) b
stores_follow_stores l i [] b = rw add-zero
stores_follow_stores l i (x ∷ a) b = rw (add-suc, ← suc-add) (stores_follow_stores (set l i x) (suc i) a b)

pub stores_from_the_start : (written l : List ℕ) → length written ≤ length l → sets l 0 written ≡ written ++ drop (length written) l
stores_from_the_start written l h = sets-eq written l 0 (rw zero-add h) ∙ rw zero-add
