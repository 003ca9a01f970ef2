-- What a range costs, in numbers: what is counted below a place, and the ceiling. Assumes nothing.
use mathlib.Core.Path.{◌≡◌}
use Prim.Native.Nat.{ℕ, zero, suc, ◌+◌, ◌-◌, ◌*◌, ◌/◌, ◌%◌, ◌≤◌, ◌<◌, min}
use native.Mathlib.Omega.{arith}
use borrow.Author.Tests.{le-leb, lt-leb, lt-ltb}
use Rattle.memory.proofs.Tests.{either_side}
use Rattle.blocks.specs.Fram.{block_start, covers}
use Rattle.blocks.specs.Cost.{how_many, lies_in_part, range_cost}

-- the first block that starts at `from` or behind it
abbrev pub first_from : ℕ → ℕ
first_from from = from / 256 + (from % 256 + 255) / 256

module _ (from to : ℕ) where
  -- the blocks that are covered, of those below n
  blocks_below : (n : ℕ) → how_many (covers from to) n ≡ min n (to / 256) - first_from from
  unfolding how_many
  blocks_below zero = omega arith
  blocks_below (suc n) =
      let before = blocks_below n in
      either_side from (block_start n)
      (λ early.
      either_side (block_start (suc n)) to
      (λ inside. rw (le-leb from (block_start n) early, le-leb (block_start (suc n)) to inside) (omega (arith, before)))
      (λ late. rw (le-leb from (block_start n) early, lt-leb (block_start (suc n)) to late) (omega (arith, before))))
      (λ late. rw (lt-leb from (block_start n) late) (omega (arith, before)))

  -- the bytes in blocks that are partly covered, of those below n: with those in covered blocks they are all that the range has there
  bytes_below : (n : ℕ) → n ≤ to → how_many (lies_in_part from to) n + (min n (to / 256 * 256) - first_from from * 256) ≡ n - from
  unfolding how_many
  bytes_below zero inside = omega arith
  bytes_below (suc n) inside =
      let before = bytes_below n (omega arith) in
      either_side from n
      (λ begun.
      either_side from (block_start (n / 256))
      (λ early.
      either_side (block_start (suc (n / 256))) to
      (λ whole. rw (le-leb from n begun, lt-ltb n to (omega arith), le-leb from (block_start (n / 256)) early, le-leb (block_start (suc (n / 256))) to whole) (omega (arith, before)))
      (λ late. rw (le-leb from n begun, lt-ltb n to (omega arith), le-leb from (block_start (n / 256)) early, lt-leb (block_start (suc (n / 256))) to late) (omega (arith, before))))
      (λ late. rw (le-leb from n begun, lt-ltb n to (omega arith), lt-leb from (block_start (n / 256)) late) (omega (arith, before))))
      (λ not_begun. rw (lt-leb from n not_begun) (omega (arith, before)))

  -- with 255 more for each covered block it is the size of the range
  pub the_cost_in_numbers : range_cost from to + (to / 256 - first_from from) * 255 ≡ to - from
  unfolding range_cost
  the_cost_in_numbers = omega (arith, blocks_below to, bytes_below to (omega arith))

-- ---- the ceiling (02, T-13)

-- In a memory of so many blocks no range costs more than 508 above their number: of 1,024 blocks, 1,532. (At most two of them are partly covered,
-- with 255 bytes each.)
pub no_range_costs_more : (blocks from to : ℕ) → to ≤ block_start blocks → range_cost from to ≤ blocks + 508
no_range_costs_more blocks from to inside = omega (arith, the_cost_in_numbers from to)

-- And one costs just that, where there are two or more: from the second byte to the last but one.
pub the_range_that_costs_most : (blocks : ℕ) → 2 ≤ blocks → range_cost 1 (block_start blocks - 1) ≡ blocks + 508
the_range_that_costs_most blocks some = omega (arith, the_cost_in_numbers 1 (block_start blocks - 1))

-- Of 262,144 bytes:
pub a_range_that_costs_1532 : range_cost 1 262143 ≡ 1532
a_range_that_costs_1532 = the_range_that_costs_most 1024 (omega arith)

-- Whatever the memory is, by the size of the range.
pub no_range_costs_more_than_by_its_size : (from to : ℕ) → range_cost from to ≤ (to - from) / 256 + 510
no_range_costs_more_than_by_its_size from to = omega (arith, the_cost_in_numbers from to)

-- A range that has a byte costs something.
pub a_range_costs_something : (from to : ℕ) → from < to → 1 ≤ range_cost from to
a_range_costs_something from to some = omega (arith, the_cost_in_numbers from to)
