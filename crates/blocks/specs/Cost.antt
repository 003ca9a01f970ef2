-- What the CRC of a range costs, as a count: 02, T-13. Assumes nothing.
use Rattle.std.specs.Prelude.{ℕ, zero, suc, ◌+◌, ◌/◌, Bool, cond, ◌&&◌, not, leb, ltb}
use Rattle.blocks.specs.Fram.{block_size, covers}

-- How many of the numbers below n are such.
unfoldable pub how_many : (ℕ → Bool) → ℕ → ℕ
how_many such zero = 0
how_many such (suc n) = cond (such n) 1 0 + how_many such n

-- The byte at this place lies in the range from `from` up to `to`, `to` not included, and in a block that the range does not cover wholly.
abbrev pub lies_in_part : ℕ → ℕ → ℕ → Bool
lies_in_part from to at = (leb from at && ltb at to) && not (covers from to (at / block_size))

-- Range bytes lying in blocks only partly covered, plus blocks wholly covered: of both, those with a number below `to` are all that there are.
unfoldable pub range_cost : ℕ → ℕ → ℕ
range_cost from to = how_many (lies_in_part from to) to + how_many (covers from to) to
