-- One turn over a list of ranges: what is left of the list from a place on, by the reader that comes back. Assumes nothing.
use mathlib.Core.Path.{◌≡◌, refl, sym, ap, ap₂, ◌∙◌}
use mathlib.Core.Bool.{Bool, true, false, ◌&&◌, false≢true}
use mathlib.Core.List.{List}
use Prim.Native.Nat.{ℕ, ◌+◌, ◌-◌, ◌≤◌, ◌<◌}
use native.Mathlib.Omega.{arith}
use borrow.Author.Tests.{le-leb, lt-leb}
use lib.Dec.{leb}
use lib.ListN.{length, take, drop}
use Rattle.field.specs.Fields.{word16_at}
use Rattle.field.specs.Reading.{Listed, ends, cut, item, is_whole}
use Rattle.field.proofs.Lists.{list_ends}
use Rattle.field.proofs.Places.{a_structure_stands}
use Rattle.carrying.proofs.Room.{fits_in_the_rest}
use Rattle.edac_commands.specs.Gather.{ranges, range_holds, ranges_hold, ranges_width}

pub at_least_one : (byte : ℕ) → 0 < 4
at_least_one byte = omega arith

-- the list from a place on: the range that stands there, as the code takes it, and the rest behind it
pub a_range_stands : (field left : List ℕ) (at next : ℕ) → at < length field → left ≡ field → next ≡ at + 4 → next ≤ length field
    → ranges (drop at field) ≡ item (take (next - at) (drop at field)) (ranges (drop next left))
a_range_stands field left at next inside same on fits =
    let four : 4 ≡ next - at = omega arith in
    a_structure_stands (λ _. 4) at_least_one field at 4 inside refl left next same on fits
    ∙ ap (λ (n : ℕ). item (take n (drop at field)) (ranges (drop next left))) four

-- ---- ranges that all hold, with a reply that has room

abbrev pub taken : ℕ → Listed → Bool
taken room l = ranges_hold l && leb (ranges_width l) room

nor_false : (b : Bool) → (b && false) ≡ false
nor_false true = refl
nor_false false = refl

-- what is left is taken with what is free, by the range that stands first
module _ (l rest : Listed) (range : List ℕ) (free count : ℕ) (stands : l ≡ item range rest) (ec : count ≡ word16_at range 2) where
  width_of : ranges_width l ≡ 4 + count + ranges_width rest
  width_of = ap ranges_width stands ∙ ap (λ (n : ℕ). 4 + n + ranges_width rest) (sym ec)

  pub a_range_without_room : free < 4 + count → taken free l ≡ false
  a_range_without_room lacks =
      let width = width_of in
      ap (λ b. ranges_hold l && b) (lt-leb (ranges_width l) free (omega arith)) ∙ nor_false (ranges_hold l)

  module _ (from : ℕ) (ef : from ≡ word16_at range 0) (holds : Bool) (eh : holds ≡ range_holds from count) where
    by_the_first : ranges_hold l ≡ (holds && ranges_hold rest)
    by_the_first = ap ranges_hold stands ∙ ap (λ b. b && ranges_hold rest) (sym (eh ∙ ap₂ range_holds ef ec))

    pub a_range_that_does_not_hold : holds ≡ false → taken free l ≡ false
    a_range_that_does_not_hold not_held = ap (λ b. b && leb (ranges_width l) free) (by_the_first ∙ ap (λ b. b && ranges_hold rest) not_held)

    pub taken_turn : holds ≡ true → 4 + count ≤ free → taken (free - (4 + count)) rest ≡ taken free l
    taken_turn held room =
        ap₂ (λ a b. a && b)
        (sym (by_the_first ∙ ap (λ b. b && ranges_hold rest) held))
        (sym (fits_in_the_rest (4 + count) (ranges_width rest) free room) ∙ ap (λ (n : ℕ). leb n free) (sym width_of))

pub nothing_is_taken : (field : List ℕ) (at free : ℕ) → length field ≤ at → taken free (ranges (drop at field)) ≡ true
nothing_is_taken field at free end = ap (taken free) (list_ends (λ _. 4) field at end) ∙ le-leb 0 free (omega arith)

-- a list of ranges that hold is whole
pub holding_is_whole : (l : Listed) → ranges_hold l ≡ true → is_whole l ≡ true
holding_is_whole ends hold = refl
holding_is_whole cut hold = absurd (false≢true hold)
holding_is_whole (item range rest) hold = holding_is_whole rest (second (range_holds (word16_at range 0) (word16_at range 2)) hold)
  where
    second : (b : Bool) → (b && ranges_hold rest) ≡ true → ranges_hold rest ≡ true
    second true both = both
    second false both = absurd (false≢true both)
