-- The place behind a structure, and what a reader that moved, or could not, tells of the list from its place on. Assumes nothing.
use mathlib.Core.Path.{◌≡◌, sym, ap₂, ◌∙◌}
use mathlib.Core.List.{List}
use Prim.Native.Nat.{ℕ, ◌+◌, ◌≤◌, ◌<◌}
use native.Mathlib.Omega.{arith}
use borrow.Author.Tests.{le-ltb}
use lib.ListN.{length, take, drop, get_or}
use Rattle.field.specs.Reading.{past_of, cut, item, structures}
use Rattle.field.proofs.Lists.{list_turn, list_lacks}

pub place_behind : (field : List ℕ) (at width : ℕ) → at + width ≤ length field → past_of field at width ≡ at + width
unfolding past_of
place_behind field at width fits = simp (le-ltb (length field) (at + width) fits)

-- the list that a new reader holds
pub from_the_start : (field left : List ℕ) (at : ℕ) → left ≡ field → at ≡ 0 → drop at left ≡ field
from_the_start field left at same start = ap₂ (λ (n : ℕ) (l : List ℕ). drop n l) start same

module _ (width : ℕ → ℕ) (some : (byte : ℕ) → 0 < width byte) (field : List ℕ) (at size : ℕ) (inside : at < length field)
    (wide : size ≡ width (get_or field at 0)) where
  -- where it moved, over the same field, a structure stands
  pub a_structure_stands : (left : List ℕ) (next : ℕ) → left ≡ field → next ≡ at + size → next ≤ length field
      → structures width (drop at field) ≡ item (take size (drop at field)) (structures width (drop next left))
  a_structure_stands left next same on fits =
      let behind : next ≡ at + width (get_or field at 0) = omega arith in
      list_turn width some field at inside (omega arith)
      ∙ ap₂ (λ (n : ℕ) l. item (take n (drop at field)) (structures width l)) (sym wide) (ap₂ (λ (n : ℕ) (l : List ℕ). drop n l) (sym behind) (sym same))

  -- and where it could not, the list is cut
  pub the_list_is_cut : length field < at + size → structures width (drop at field) ≡ cut
  the_list_is_cut few = list_lacks width some field at inside (omega arith)
