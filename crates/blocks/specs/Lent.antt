-- An FRAM and its sums as they are lent together, and what they hold. Assumes nothing.
use Rattle.std.specs.Prelude.{◌≡◌}
use Rattle.blocks.specs.declared.fram.Fram.{Fram}
use Rattle.blocks.specs.Fram.{Kept, kept}

-- What stands in both.
abbrev pub kept_in : Fram → Kept
kept_in fram = kept fram.bytes.now fram.sums.now

-- They are the same loans: what is written through one is seen through the other.
abbrev pub SameLoans : Fram → Fram → Type 0
SameLoans a b = (a.bytes.ghost_name ≡ b.bytes.ghost_name) × (a.sums.ghost_name ≡ b.sums.ghost_name)
