-- Diagnostics: 31 values, of which some are counts (those of a port: the room ports). 01, "One byte in, one answer out"; 02, T-01. Assumes nothing.
use Rattle.std.specs.Prelude.{ℕ, ◌+◌, min, List, get_or, set}

abbrev pub channels : ℕ
channels = 31

-- A count stays at its largest value.
abbrev pub full_count : ℕ
full_count = 4294967295

-- The diagnostics with one more at a channel.
unfoldable pub counted_up : List ℕ → ℕ → List ℕ
counted_up diagnostics channel = set diagnostics channel (min (get_or diagnostics channel 0 + 1) full_count)
