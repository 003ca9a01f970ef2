-- The small examples of 01 that speak of sums and of joining, by computation. Assumes nothing.
use mathlib.Core.Path.{◌≡◌, refl}
use mathlib.Core.List.{[], ◌∷◌}
use mathlib.Core.Option.{none}
use Rattle.folding.proofs.Examples.{counting}
use Rattle.crc.specs.Sum.{bit_step, bit_steps, byte_step, sum_from, sum_of, carried}
use Rattle.crc.specs.Joining.{with_part, joined_of, join_of}

pub p1 : sum_of [] ≡ 0xFFFF
unfolding sum_of sum_from
p1 = refl

pub p2 : sum_of (0xFF ∷ []) ≡ 0x00FF
unfolding sum_of sum_from byte_step bit_steps bit_step
p2 = refl

pub p3 : sum_of (0xFF ∷ 0xFF ∷ []) ≡ 0x0000
unfolding sum_of sum_from byte_step bit_steps bit_step
p3 = refl

pub p4 : sum_of (0x00 ∷ []) ≡ 0x0F87
unfolding sum_of sum_from byte_step bit_steps bit_step
p4 = refl

pub p5 : sum_of (0x41 ∷ 0x11 ∷ 0x80 ∷ []) ≡ 0x6DD8
unfolding sum_of sum_from byte_step bit_steps bit_step
p5 = refl

pub p8 : join_of (record { sum = 0x00FF; len = 1 }) (record { sum = 0x00FF; len = 1 }) ≡ with_part (record { sum = 0x0000; len = 2 })
unfolding join_of joined_of carried byte_step bit_steps bit_step
p8 = refl

-- Joining is defined for a zero length with any sum, by the same formula.
pub zero_length : joined_of (record { sum = 0x1234; len = 0 }) (record { sum = 0x5678; len = 0 }) ≡ record { sum = 0xBBB3; len = 0 }
unfolding joined_of carried
zero_length = refl

-- A total of one byte too many is refused, and gives no part; one byte fewer is joined.
pub one_too_many : join_of (record { sum = 0xFFFF; len = 0xFFFFFFFF }) (record { sum = 0xFFFF; len = 1 }) ≡ record { number = 36; part = none }
unfolding join_of
one_too_many = refl

pub the_longest : join_of (record { sum = 0xFFFF; len = 0xFFFFFFFE }) (record { sum = 0xFFFF; len = 1 }) ≡ with_part (record { sum = 0xFFFF; len = 0xFFFFFFFF })
unfolding join_of joined_of carried byte_step bit_steps bit_step
the_longest = refl

-- The bytes 00 to 7F, and from 0 the sixteen that stand for them (`two_chunks_reduced` of folding), have the same sum.
pub the_same_sum : (sum_of (counting 128 0) ≡ 0x0E46)
    × (sum_from 0 (0x15 ∷ 0xA9 ∷ 0x99 ∷ 0xDD ∷ 0xA1 ∷ 0xE5 ∷ 0x3B ∷ 0x05 ∷ 0xC9 ∷ 0xC0 ∷ 0x79 ∷ 0x3F ∷ 0x1C ∷ 0x20 ∷ 0x2D ∷ 0xDC ∷ []) ≡ 0x0E46)
unfolding sum_of sum_from byte_step bit_steps bit_step
the_same_sum = (refl, refl)
