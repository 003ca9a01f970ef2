-- GATHER 0x0B (01, "Commands"; ICD 11.15). Assumes nothing.
use Rattle.std.specs.Prelude.{ℕ, ◌+◌, Bool, true, false, cond, ◌&&◌, List, [], ◌++◌, eqb, ltb, length}
use Rattle.memory.specs.Bytes.{stretch}
use Rattle.memory.specs.Edac.{inside_edac}
use Rattle.field.specs.Fields.{word16_at}
use Rattle.field.specs.Reading.{Listed, ends, cut, item, structures}
use Rattle.carrying.specs.Ending.{Ending, done, refused}

-- The structures are ranges: address and count, 2 bytes each.
abbrev pub ranges : List ℕ → Listed
ranges field = structures (λ _. 4) field

-- A count is not 0, and the range lies in EDAC memory.
abbrev pub range_holds : ℕ → ℕ → Bool
range_holds address count = cond (eqb count 0) false (inside_edac address count)

-- Ranges that all hold, in a list that ends between two of them.
abbrev pub ranges_hold : Listed → Bool
ranges_hold ends = true
ranges_hold cut = false
ranges_hold (item range rest) = range_holds (word16_at range 0) (word16_at range 2) && ranges_hold rest

-- How many bytes the reply has.
abbrev pub ranges_width : Listed → ℕ
ranges_width ends = 0
ranges_width cut = 0
ranges_width (item range rest) = 4 + word16_at range 2 + ranges_width rest

-- The reply repeats address and count before the bytes of each range.
abbrev pub ranges_shown : List ℕ → Listed → List ℕ
ranges_shown edac ends = []
ranges_shown edac cut = []
ranges_shown edac (item range rest) =
    (range ++ stretch (word16_at range 0) (word16_at range 2) edac) ++ ranges_shown edac rest

-- One range or more, with a reply that has room.
unfoldable pub gather_of : ℕ → List ℕ → List ℕ → Ending (Unit {0})
gather_of room edac field =
    cond (eqb (length field) 0) refused
    (cond (ltb room (ranges_width (ranges field))) refused
    (cond (ranges_hold (ranges field)) (done (ranges_shown edac (ranges field)) tt) refused))
