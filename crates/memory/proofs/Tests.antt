-- Two cases of a bound. Assumes nothing.
use mathlib.Core.Path.{◌≡◌, refl}
use mathlib.Core.Bool.{Bool, true, false}
use Prim.Native.Nat.{ℕ, ◌≤◌, ◌<◌}
use borrow.Author.Tests.{leb-true, leb-false}
use lib.Dec.{leb}

-- either side of a bound
pub either_side : {P : Type 0} (a b : ℕ) → (a ≤ b → P) → (b < a → P) → P
either_side {P} a b below above = cases (leb a b) refl
  where
    cases : (t : Bool) → leb a b ≡ t → P
    cases true e = below (leb-true a b e)
    cases false e = above (leb-false a b e)
