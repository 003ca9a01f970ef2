-- Joining the sums of parts: 01, "Joining" in "The message". Assumes nothing.
use Rattle.std.specs.Prelude.{ℕ, zero, suc, ◌+◌, ◌/◌, ◌%◌, cond, List, [], ◌∷◌, ◌++◌, leb, length, Result, Ok, Err}
use Rattle.std.proofs.Math.Option.{Option, none, some}
use Rattle.std.specs.Int.Bits.{bit_xor}
use Rattle.crc.specs.Sum.{start, gate, bit_steps, sum_of, carried}
use Rattle.crc.specs.declared.Part.{Part}
use Rattle.crc.specs.declared.JoinError.{JoinError}
use Rattle.crc.specs.declared.JoinError.TheVariants.{TooLong}

-- The part that a list of bytes is.
abbrev pub part_of : List ℕ → Part
part_of bytes = record { sum = sum_of bytes; len = length bytes }

-- The part that is neutral on either side.
abbrev pub neutral : Part
neutral = record { sum = start; len = 0 }

-- Two parts as one: the first sum without its start value, carried over a gap as long as the second part, XOR the
-- second sum; the lengths are added.
unfoldable pub joined_of : Part → Part → Part
joined_of a b = record { sum = bit_xor (carried b.len (bit_xor a.sum start)) b.sum; len = a.len + b.len }

-- Parts joined one after the other; no parts at all are the neutral one.
unfoldable pub join_all : List Part → Part
join_all [] = neutral
join_all (p ∷ ps) = joined_of p (join_all ps)

-- The largest length that a part can have.
abbrev pub longest_part : ℕ
longest_part = 4294967295

-- An answer of joining as 01 has it: its number, and the part where there is one.
pub record Joining : Type 0 where
  pub number : ℕ
  pub part : Option Part

abbrev pub with_part : Part → Joining
with_part p = record { number = 0; part = some p }

abbrev pub too_long : Joining
too_long = record { number = 36; part = none }

-- What each answer of `join` stands for in 01.
abbrev pub joining_of : Result Part JoinError → Joining
joining_of (Ok p) = with_part p
joining_of (Err TooLong) = too_long

-- Joining refuses only with 36, and then gives no part.
unfoldable pub join_of : Part → Part → Joining
join_of a b = cond (leb (a.len + b.len) longest_part) (with_part (joined_of a b)) too_long

-- An order of joining neighbours: any binary tree over parts.
pub data Order : Type 0 where
  only : Part → Order
  both : Order → Order → Order

-- The parts of an order, from left to right.
unfoldable pub parts_of : Order → List Part
parts_of (only p) = p ∷ []
parts_of (both l r) = parts_of l ++ parts_of r

-- What joining in that order gives.
unfoldable pub joined_in : Order → Part
joined_in (only p) = p
joined_in (both l r) = joined_of (joined_in l) (joined_in r)

-- What joining in that order answers: one refusal refuses the whole.
abbrev pub join_parts : Option Part → Option Part → Joining
join_parts none b = too_long
join_parts (some a) none = too_long
join_parts (some a) (some b) = join_of a b

unfoldable pub joining_in : Order → Joining
joining_in (only p) = with_part p
joining_in (both l r) = join_parts (joining_in l).part (joining_in r).part

-- Consecutive pieces as one list of bytes.
unfoldable pub all_bytes : List (List ℕ) → List ℕ
all_bytes [] = []
all_bytes (piece ∷ pieces) = piece ++ all_bytes pieces

-- How a gap is crossed by halving. A 16-bit number stands for a power of the one-bit shift, or a sum of such powers:
-- its digit 15 - i lets the i-th power in. `product k sum power` is over the k low digits, of which the lowest stands
-- for k - 1 bit steps.
unfoldable pub product : ℕ → ℕ → ℕ → ℕ
product zero sum power = 0
product (suc k) sum power = bit_xor (bit_steps k (gate sum (power % 2))) (product k sum (power / 2))

-- The number that stands for no shift at all.
abbrev pub no_shift : ℕ
no_shift = 0x8000

-- The number that stands for a shift by n bytes.
unfoldable pub power_of : ℕ → ℕ
power_of n = carried n no_shift
