-- Walking a list of structures: 01, "Commands". Assumes nothing.
use Rattle.std.specs.Prelude.{ℕ, zero, suc, ◌+◌, ◌-◌, Bool, true, false, cond, List, [], ◌∷◌, ltb, length, take}

-- The place behind a structure of `width` bytes that stands at a place, or the same place where no whole one stands there.
unfoldable pub past_of : List ℕ → ℕ → ℕ → ℕ
past_of field at width = cond (ltb (length field) (at + width)) at (at + width)

-- A list of structures: each item with the structure's own bytes, up to the list's end, or to where it is cut inside a structure.
pub data Listed : Type 0 where
  ends : Listed
  cut : Listed
  item : List ℕ → Listed → Listed

-- It ends between two structures.
abbrev pub is_whole : Listed → Bool
is_whole ends = true
is_whole cut = false
is_whole (item structure rest) = is_whole rest

-- A list taken apart, where a structure has as many bytes, one or more, as `width` tells by its first; the first `passed` bytes are the rest of
-- the structure before.
unfoldable pub listed_from : (ℕ → ℕ) → ℕ → List ℕ → Listed
listed_from width passed [] = ends
listed_from width (suc passed) (byte ∷ rest) = listed_from width passed rest
listed_from width zero (byte ∷ rest) =
    cond (ltb (length (byte ∷ rest)) (width byte)) cut
    (item (take (width byte) (byte ∷ rest)) (listed_from width (width byte - 1) rest))

-- The same of a list that begins with a structure.
abbrev pub structures : (ℕ → ℕ) → List ℕ → Listed
structures width field = listed_from width 0 field
