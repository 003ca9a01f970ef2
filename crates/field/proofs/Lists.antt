-- One turn over a list of structures: what is left of the list from a place on, by the structure that stands there. Assumes nothing.
use mathlib.Core.Path.{◌≡◌, refl, sym, ap, ◌∙◌}
use mathlib.Core.Bool.{Bool, true, false, false≢true}
use mathlib.Core.List.{List, [], ◌∷◌}
use Prim.Native.Nat.{ℕ, zero, suc, ◌+◌, ◌-◌, ◌≤◌, ◌<◌}
use native.Mathlib.Nat.{add-zero, le_refl, not-suc-le-zero}
use native.Mathlib.Omega.{arith}
use borrow.Author.Tests.{le-ltb, lt-ltb, leb-true, leb-false}
use lib.Dec.{leb}
use lib.ListN.{length, take, drop, get_or, length-drop, drop_of_length-le}
use lib.Seq.{get_or-drop, drop-drop}
use Rattle.field.specs.Reading.{ends, cut, item, is_whole, listed_from, structures}

-- the first of what is left
first_left : (field : List ℕ) (at : ℕ) → get_or (drop at field) 0 0 ≡ get_or field at 0
first_left field at = get_or-drop at field 0 0 ∙ ap (λ (n : ℕ). get_or field n 0) (add-zero at)

-- the bytes left of a structure are passed
rest_passed : (width : ℕ → ℕ) (passed : ℕ) (l : List ℕ) → listed_from width passed l ≡ structures width (drop passed l)
unfolding listed_from
rest_passed width zero l = refl
rest_passed width (suc passed) [] = refl
rest_passed width (suc passed) (byte ∷ rest) = rest_passed width passed rest

module _ (width : ℕ → ℕ) (some : (byte : ℕ) → 0 < width byte) where
  first_whole : (l : List ℕ) → 0 < length l → width (get_or l 0 0) ≤ length l
      → structures width l ≡ item (take (width (get_or l 0 0)) l) (structures width (drop (width (get_or l 0 0)) l))
  unfolding listed_from
  first_whole [] h fits = absurd (not-suc-le-zero h)
  first_whole (byte ∷ rest) h fits =
      let more : suc (width byte - 1) ≡ width byte = omega (arith, some byte) in
      simp (le-ltb (length (byte ∷ rest)) (width byte) fits)
      (ap (item (take (width byte) (byte ∷ rest))) (rest_passed width (width byte - 1) rest ∙ ap (λ n. structures width (drop n (byte ∷ rest))) more))

  first_cut : (l : List ℕ) → 0 < length l → length l < width (get_or l 0 0) → structures width l ≡ cut
  unfolding listed_from
  first_cut [] h lacks = absurd (not-suc-le-zero h)
  first_cut (byte ∷ rest) h lacks = simp (lt-ltb (length (byte ∷ rest)) (width byte) lacks)

  -- from a place on: the structure that stands there, and the rest
  pub list_turn : (field : List ℕ) (at : ℕ) → at < length field → at + width (get_or field at 0) ≤ length field
      → structures width (drop at field)
      ≡ item (take (width (get_or field at 0)) (drop at field)) (structures width (drop (at + width (get_or field at 0)) field))
  list_turn field at h fits =
      first_whole (drop at field) (simp length-drop (omega arith)) (simp (length-drop, first_left field at) (omega arith))
      ∙ rw (first_left field at, drop-drop (width (get_or field at 0)) at field)

  -- or that the list ends inside it
  pub list_lacks : (field : List ℕ) (at : ℕ) → at < length field → length field < at + width (get_or field at 0) → structures width (drop at field) ≡ cut
  list_lacks field at h few =
      first_cut (drop at field) (simp length-drop (omega arith)) (simp (length-drop, first_left field at) (omega arith))

  -- in a whole list a whole structure stands at each place
  one_stands : (field : List ℕ) (at : ℕ) → at < length field → is_whole (structures width (drop at field)) ≡ true
      → (at + width (get_or field at 0) ≤ length field) × (is_whole (structures width (drop (at + width (get_or field at 0)) field)) ≡ true)
  one_stands field at h all = apart (leb (at + width (get_or field at 0)) (length field)) refl
    where
      apart : (b : Bool) → leb (at + width (get_or field at 0)) (length field) ≡ b
          → (at + width (get_or field at 0) ≤ length field) × (is_whole (structures width (drop (at + width (get_or field at 0)) field)) ≡ true)
      apart true e =
          let fits = leb-true (at + width (get_or field at 0)) (length field) e in
          (fits, sym (ap is_whole (list_turn field at h fits)) ∙ all)
      apart false e =
          let few = leb-false (at + width (get_or field at 0)) (length field) e in
          absurd (false≢true (sym (ap is_whole (list_lacks field at h few)) ∙ all))

  -- what holds at the end of a list, and at each structure where it holds behind it, holds at each place of a whole list
  module _ (field : List ℕ) (P : ℕ → Type 0) (end : (at : ℕ) → length field ≤ at → P at)
      (more : (at : ℕ) → at < length field → at + width (get_or field at 0) ≤ length field → P (at + width (get_or field at 0)) → P at) where
    one_more : (n : ℕ) → ((at : ℕ) → length field - at ≤ n → is_whole (structures width (drop at field)) ≡ true → P at)
        → (at : ℕ) → length field - at ≤ suc n → is_whole (structures width (drop at field)) ≡ true → P at
    one_more n nearer at h all = apart (leb (length field) at) refl
      where
        apart : (b : Bool) → leb (length field) at ≡ b → P at
        apart true e = end at (leb-true (length field) at e)
        apart false e =
            let inside = leb-false (length field) at e in
            let here = one_stands field at inside all in
            more at inside here.0 (nearer (at + width (get_or field at 0)) (omega (arith, some (get_or field at 0))) here.1)

    within : (n at : ℕ) → length field - at ≤ n → is_whole (structures width (drop at field)) ≡ true → P at
    within zero at h all = end at (omega arith)
    within (suc n) at h all = one_more n (within n) at h all

    pub by_structures : (at : ℕ) → is_whole (structures width (drop at field)) ≡ true → P at
    by_structures at = within (length field - at) at (le_refl (length field - at))

pub list_ends : (width : ℕ → ℕ) (field : List ℕ) (at : ℕ) → length field ≤ at → structures width (drop at field) ≡ ends
unfolding listed_from
list_ends width field at h = simp (drop_of_length-le field h)
