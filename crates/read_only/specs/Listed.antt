-- What a list of rows says of an address: 02, T-05. A row is its first and its last address, both included; `end` is the address behind the
-- stretch of EDAC memory that the list speaks of. Only the functions that search the list speak of it so: `run_from`, which the stores ask,
-- answers `run_of`. Assumes nothing.
use Rattle.std.specs.Prelude.{ℕ, ◌+◌, ◌-◌, Bool, true, false, cond, ◌&&◌, ◌||◌, List, [], ◌∷◌, leb, ltb, get_or}
use Rattle.memory.specs.Edac.{edac_size}
use Rattle.read_only.specs.declared.rows.Run.{Run}
use Rattle.read_only.specs.ReadOnly.{row}
use Rattle.read_only.specs.Runs.{run}

abbrev pub first : List ℕ → ℕ
first entry = get_or entry 0 0

abbrev pub last : List ℕ → ℕ
last entry = get_or entry 1 0

-- `so`, or that an address is in one of the rows. They are joined from the left, as `read_only` joins its own, so that the two can be compared
-- as they stand.
unfoldable pub in_some_or : Bool → List (List ℕ) → ℕ → Bool
in_some_or so [] at = so
in_some_or so (entry ∷ rows) at = in_some_or (so || row (first entry) (last entry) at) rows at

-- Whether an address is in one of the rows.
abbrev pub in_some : List (List ℕ) → ℕ → Bool
in_some = in_some_or false

-- Whether the rows are in rising order without overlap, from an address on and below `end`: none begins before the one before it has ended,
-- and none ends before it begins.
unfoldable pub rising : ℕ → List (List ℕ) → ℕ → Bool
rising from [] end = leb from end
rising from (entry ∷ rows) end = leb from (first entry) && (leb (first entry) (last entry) && rising (last entry + 1) rows end)

-- Where the first of the rows begins, or `end` where there is none.
abbrev pub begins : List (List ℕ) → ℕ → ℕ
begins [] end = end
begins (entry ∷ rows) end = first entry

-- Where a row, and what touches it, ends: `after` the row, unless the `next` one begins there, and then where that one, and what touches it,
-- ends.
abbrev pub touching : ℕ → ℕ → ℕ → ℕ
touching after next next_ends = cond (ltb after next) after next_ends

-- Where the first of the rows, and what touches it, ends, or `end` where there is none.
unfoldable pub ends : List (List ℕ) → ℕ → ℕ
ends [] end = end
ends (entry ∷ rows) end = touching (last entry + 1) (begins rows end) (ends rows end)

-- Of an address below `end`, by rows in rising order: how it stands, and up to where.
unfoldable pub run_in : List (List ℕ) → ℕ → ℕ → Run
run_in [] end at = run false end
run_in (entry ∷ rows) end at =
    cond (ltb at (first entry))
    (run false (first entry))
    (cond (leb at (last entry)) (run true (ends (entry ∷ rows) end)) (run_in rows end at))

-- Whether the rows may be cut before the one at a place, from 1 on: it is there (of one that is not `first` is 0), and the one before does
-- not touch it.
abbrev pub apart : ℕ → List (List ℕ) → Bool
apart place rows = ltb (last (get_or rows (place - 1) []) + 1) (first (get_or rows place []))

-- What the search asks of a list: rising order, and that it may be cut at three places, so that it has 30 rows at least.
unfoldable pub searchable : List (List ℕ) → Bool
searchable rows = rising 0 rows edac_size && (apart 9 rows && (apart 19 rows && apart 29 rows))
