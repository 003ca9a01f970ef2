-- FRAM with one kept sum for each block of 256 bytes, bootloader or user: 01, "The unit and its neighbours", "Commands" (POKE, CRC) and
-- "How tight the contracts are". Assumes nothing.
use Rattle.std.specs.Prelude.{ℕ, zero, suc, ◌+◌, ◌-◌, ◌*◌, ◌/◌, min, max, Bool, cond, ◌&&◌, List, [], ◌∷◌, map, leb, ltb, length, Option, Some, None}
use Rattle.crc.specs.Sum.{sum_of}
use Rattle.crc.specs.Joining.{part_of, joined_of, join_all}
use Rattle.crc.specs.declared.Part.{Part}
use Rattle.memory.specs.Bytes.{stretch, stored}

abbrev pub block_size : ℕ
block_size = 256

-- Where block k starts; it ends where the next one starts.
abbrev pub block_start : ℕ → ℕ
block_start k = k * block_size

-- The bytes of block k.
abbrev pub block : List ℕ → ℕ → List ℕ
block fram k = stretch (block_start k) block_size fram

-- The CRC of each of n blocks from block k on, worked out afresh.
unfoldable pub fresh_from : ℕ → ℕ → List ℕ → List ℕ
fresh_from k zero fram = []
fresh_from k (suc n) fram = sum_of (block fram k) ∷ fresh_from (suc k) n fram

-- The CRC of each block of the memory, worked out afresh: what set-up computes, and what right sums are.
unfoldable pub fresh_sums : List ℕ → List ℕ
fresh_sums fram = fresh_from 0 (length fram / block_size) fram

-- A run of n bytes from `at` on has a byte in block k.
abbrev pub touches : ℕ → ℕ → ℕ → Bool
touches at n k = ltb (max at (block_start k)) (min (at + n) (block_start (suc k)))

-- Kept sums, of which the first is block k's, with the sum of every touched block set to the CRC of that block as it now
-- stands, and no other sum changed.
unfoldable pub refreshed : List ℕ → ℕ → ℕ → ℕ → List ℕ → List ℕ
refreshed fram at n k [] = []
refreshed fram at n k (sum ∷ sums) = cond (touches at n k) (sum_of (block fram k)) sum ∷ refreshed fram at n (suc k) sums

-- Memory with its kept sums.
pub record Kept : Type 0 where
  pub fram : List ℕ
  pub sums : List ℕ

abbrev pub kept : List ℕ → List ℕ → Kept
kept fram sums = record { fram = fram; sums = sums }

-- A store of bytes anywhere, with the sums of the blocks that it touches.
unfoldable pub store_of : Kept → ℕ → List ℕ → Kept
store_of memory at bytes =
    kept (stored memory.fram at bytes)
    (refreshed (stored memory.fram at bytes) at (length bytes) 0 memory.sums)

-- The range from `from` up to `to`, `to` not included, covers block k wholly.
abbrev pub covers : ℕ → ℕ → ℕ → Bool
covers from to k = leb from (block_start k) && leb (block_start (suc k)) to

-- The bytes of block k that lie in the range.
abbrev pub piece : List ℕ → ℕ → ℕ → ℕ → List ℕ
piece fram from to k = stretch (max from (block_start k)) (min to (block_start (suc k)) - max from (block_start k)) fram

-- A whole block by its sum.
abbrev pub block_part : ℕ → Part
block_part sum = record { sum = sum; len = block_size }

-- What block k is of the range: a block wholly covered enters by its kept sum, any other by its bytes in the range.
abbrev pub enters : List ℕ → ℕ → ℕ → ℕ → ℕ → Part
enters fram from to k sum = cond (covers from to k) (block_part sum) (part_of (piece fram from to k))

-- What each block is of the range, the first of `sums` being block k's.
unfoldable pub parts_from : List ℕ → ℕ → ℕ → ℕ → List ℕ → List Part
parts_from fram from to k [] = []
parts_from fram from to k (sum ∷ sums) = enters fram from to k sum ∷ parts_from fram from to (suc k) sums

-- The CRC of a range.
unfoldable pub range_sum : Kept → ℕ → ℕ → ℕ
range_sum memory from to = (join_all (parts_from memory.fram from to 0 memory.sums)).sum

-- The sum that goes on from another over whole blocks, by their sums. (No length of what came before enters it.)
unfoldable pub joined_blocks : ℕ → List ℕ → ℕ
joined_blocks start sums = (joined_of (record { sum = start; len = 0 }) (join_all (map block_part sums))).sum

-- The place of a range of `count` bytes from `address` on, in a memory of `len` bytes whose first has the address `first`.
-- A range is outside if any byte of it is; addresses do not wrap.
unfoldable pub place_of : ℕ → ℕ → ℕ → ℕ → Option ℕ
place_of first len address count =
    cond (leb first address && leb (address + count) (first + len)) (Some (address - first)) None
