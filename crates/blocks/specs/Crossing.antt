-- The table by which a sum is carried over a block's gap: 01, "Joining" in "The message". Assumes nothing.
use Rattle.std.specs.Prelude.{ℕ, zero, suc, ◌+◌, ◌*◌, List, [], ◌∷◌, ◌++◌}
use Rattle.crc.specs.Sum.{carried}
use Rattle.blocks.specs.Fram.{block_size}

-- The sums `value`, `value` + `apart`, and so on, `count` of them, each carried over the gap.
unfoldable pub crossings : ℕ → ℕ → ℕ → List ℕ
crossings zero apart value = []
crossings (suc count) apart value = carried block_size value ∷ crossings count apart (value + apart)

-- Sixteen entries for each of `digits` digits of four bits, of which the lowest counts `apart`.
unfoldable pub rows : ℕ → ℕ → List ℕ
rows zero apart = []
rows (suc digits) apart = crossings 16 apart 0 ++ rows digits (apart * 16)

-- The four digits of a sum, the lowest first.
unfoldable pub gap_of : List ℕ
gap_of = rows 4 1
