-- Worked examples of what the definitions say, by computation. Assumes nothing.
use mathlib.Core.Path.{◌≡◌, refl}
use mathlib.Core.List.{List, [], ◌∷◌}
use Prim.Native.Nat.{ℕ}
use lib.ListN.{replicate}
use Rattle.crc.specs.Sum.{bit_step, bit_steps, byte_step, sum_from, sum_of, carried}
use Rattle.crc.specs.Joining.{joined_of, join_all}
use Rattle.std.specs.Prelude.{Some, None}
use Rattle.memory.specs.Bytes.{stored}
use Rattle.blocks.specs.Fram.{refreshed, kept, store_of, parts_from, range_sum, place_of}
use Rattle.blocks.specs.Cost.{how_many, range_cost}

-- Two blocks of zeros.
abbrev zeros : List ℕ
zeros = replicate 512 0

-- A store across a block's edge refreshes both sums, though both were altered.
pub a_store_across_an_edge : (store_of (kept zeros (1 ∷ 2 ∷ [])) 255 (0xAB ∷ 0xCD ∷ [])).sums ≡ 0x0C5B ∷ 0x8186 ∷ []
unfolding store_of stored refreshed sum_of sum_from byte_step bit_steps bit_step
a_store_across_an_edge = refl

-- A store that ends at the edge refreshes the one sum.
pub a_store_up_to_an_edge : (store_of (kept zeros (1 ∷ 2 ∷ [])) 255 (0xAB ∷ [])).sums ≡ 0x0C5B ∷ 2 ∷ []
unfolding store_of stored refreshed sum_of sum_from byte_step bit_steps bit_step
a_store_up_to_an_edge = refl

-- A range of exactly one block enters by its kept sum, though that was altered.
pub a_range_of_one_block : range_sum (kept zeros (0x1234 ∷ 0x5678 ∷ [])) 256 512 ≡ 0x5678
unfolding range_sum parts_from join_all joined_of carried sum_of sum_from byte_step bit_steps bit_step
a_range_of_one_block = refl

-- One byte less, and the block enters by its bytes.
pub a_range_of_one_byte_less : range_sum (kept zeros (0x1234 ∷ 0x5678 ∷ [])) 256 511 ≡ 0x3B67
unfolding range_sum parts_from join_all joined_of carried sum_of sum_from byte_step bit_steps bit_step
a_range_of_one_byte_less = refl

-- The fitted memory is inside as a whole, and no byte before or after it is.
pub the_whole_memory : place_of 0x20040000 256 0x20040000 256 ≡ Some 0
unfolding place_of
the_whole_memory = refl

pub its_last_byte : place_of 0x20040000 256 0x200400FF 1 ≡ Some 255
unfolding place_of
its_last_byte = refl

pub one_past_its_last_byte : place_of 0x20040000 256 0x200400FF 2 ≡ None
unfolding place_of
one_past_its_last_byte = refl

pub one_before_its_first_byte : place_of 0x20040000 256 0x2003FFFF 2 ≡ None
unfolding place_of
one_before_its_first_byte = refl

-- Addresses do not wrap.
pub past_the_last_address : place_of 0 256 0xFFFFFFFF 2 ≡ None
unfolding place_of
past_the_last_address = refl

-- A block costs 1 as a whole, and one byte less costs its bytes.
pub a_block_costs_one : range_cost 256 512 ≡ 1
unfolding range_cost how_many
a_block_costs_one = refl

pub one_byte_less_costs_its_bytes : range_cost 256 511 ≡ 255
unfolding range_cost how_many
one_byte_less_costs_its_bytes = refl

-- One byte on each side of an edge: two bytes, and no block.
pub two_bytes_across_an_edge_cost_two : range_cost 255 257 ≡ 2
unfolding range_cost how_many
two_bytes_across_an_edge_cost_two = refl

-- 56 bytes, a block, and 88 bytes.
pub a_block_between_two_parts : range_cost 200 600 ≡ 145
unfolding range_cost how_many
a_block_between_two_parts = refl

-- 255 bytes, two blocks, and 255 bytes: the most that four blocks can cost.
pub the_dearest_of_four_blocks : range_cost 1 1023 ≡ 512
unfolding range_cost how_many
the_dearest_of_four_blocks = refl

pub no_bytes_cost_nothing : range_cost 300 300 ≡ 0
unfolding range_cost how_many
no_bytes_cost_nothing = refl
