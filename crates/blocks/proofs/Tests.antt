-- The test of a range in FRAM, one law for each way through the code. Assumes nothing.
use mathlib.Core.Path.{◌≡◌}
use Prim.Native.Nat.{ℕ, ◌+◌, ◌-◌, ◌≤◌, ◌<◌}
use borrow.Author.Tests.{le-leb, lt-leb}
use Rattle.std.specs.Prelude.{Some, None}
use Rattle.blocks.specs.Fram.{place_of}

pub before_the_memory : (first len address count : ℕ) → address < first → None ≡ place_of first len address count
unfolding place_of
before_the_memory first len address count h = simp (lt-leb first address h)

pub past_the_memory : (first len address count : ℕ) → first ≤ address → first + len < address + count
    → None ≡ place_of first len address count
unfolding place_of
past_the_memory first len address count h past = simp (le-leb first address h, lt-leb (address + count) (first + len) past)

pub in_the_memory : (first len address count at : ℕ) → first ≤ address → address + count ≤ first + len → at ≡ address - first
    → Some at ≡ place_of first len address count
unfolding place_of
in_the_memory first len address count at h fits e = simp (le-leb first address h, le-leb (address + count) (first + len) fits, e)
