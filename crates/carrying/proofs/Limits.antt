-- What a limit is that a bus may set (02, T-06). Assumes nothing.
use mathlib.Core.Path.{◌≡◌, refl, sym, ◌∙◌}
use mathlib.Core.Bool.{Bool, true, false, false≢true}
use Prim.Native.Nat.{ℕ, ◌≤◌}
use borrow.Author.Tests.{leb-true}
use lib.Dec.{leb}
use Rattle.carrying.specs.Ending.{longest_data, least_limit, is_limit}

-- 260 to 1,028
pub within_both_ends : (limit : ℕ) → is_limit limit ≡ true → (least_limit ≤ limit) × (limit ≤ longest_data)
within_both_ends limit e = apart (leb least_limit limit) (leb limit longest_data) refl refl e
  where
    apart : (a b : Bool) → leb least_limit limit ≡ a → leb limit longest_data ≡ b → is_limit limit ≡ true → (least_limit ≤ limit) × (limit ≤ longest_data)
    apart true true ea eb is = (leb-true least_limit limit ea, leb-true limit longest_data eb)
    apart true false ea eb is = let z : false ≡ true = sym (simp (ea, eb)) ∙ is in absurd (false≢true z)
    apart false b ea eb is = let z : false ≡ true = sym (simp ea) ∙ is in absurd (false≢true z)
