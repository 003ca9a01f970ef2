-- What a CRC command costs. Assumes nothing.
use mathlib.Core.Path.{◌≡◌, refl, ap, ap₂, subst, sym, ◌∙◌}
use mathlib.Core.List.{List, ◌++◌}
use Prim.Native.Nat.{ℕ, ◌+◌, ◌-◌, ◌≤◌}
use native.Mathlib.Omega.{arith}
use lib.Dec.{eqb, ltb}
use lib.ListN.{length}
use Rattle.std.proofs.Common.{Option, Some, None}
use Rattle.blocks.specs.Fram.{Kept, block_start, place_of, range_sum}
use Rattle.blocks.specs.Cost.{range_cost}
use Rattle.blocks.proofs.Counting.{no_range_costs_more, a_range_costs_something}
use Rattle.carrying.specs.Ending.{Ending, done, refused, ended_of, at_place}
use Rattle.carrying.specs.Held.{Frams, Which, of_bootloader, of_user, fram_of}
use Rattle.carrying.proofs.Room.{either_way}
use Rattle.field.specs.Fields.{word32_at, bytes16}
use Rattle.fram_commands.specs.Windows.{first_of, which_of, over_border}
use Rattle.fram_commands.specs.Crc.{range_size, crc_of}
use Rattle.fram_commands.specs.ByAddress.{crc_by_address}
use Rattle.fram_commands.specs.Cost.{field_cost, crc_cost}
use Rattle.fram_commands.proofs.Ways.{a_place_is_where_its_address_says}

-- by the code's steps
pub the_cost_by_addresses : (field : List ℕ) (from last first at more cost : ℕ) → from ≡ word32_at field 0 → last ≡ word32_at field 4
    → first ≡ first_of (which_of field) → at ≡ from - first → more ≡ last - from → cost ≡ range_cost at (at + (more + 1)) → cost ≡ field_cost field
unfolding field_cost
the_cost_by_addresses field from last first at more cost ef el eb ea em e =
    let start : at ≡ word32_at field 0 - first_of (which_of field) = ea ∙ ap₂ (λ (a b : ℕ). a - b) ef eb in
    let size : more + 1 ≡ range_size (word32_at field 0) (word32_at field 4) = ap (λ (n : ℕ). n + 1) (em ∙ ap₂ (λ (a b : ℕ). a - b) el ef) in
    let end : at + (more + 1) ≡ at + range_size (word32_at field 0) (word32_at field 4) = omega (arith, size) in
    e ∙ ap (range_cost at) end ∙ ap (λ (n : ℕ). range_cost n (n + range_size (word32_at field 0) (word32_at field 4))) start

-- ---- the ceiling

-- what an ending costs on one FRAM, at most
module _ (first : ℕ) (memory : Kept) (field : List ℕ) (named : first_of (which_of field) ≡ first) (blocks : ℕ) (whole : length memory.fram ≡ block_start blocks) where
  abbrev AtMost : Ending (Unit {0}) → Type 0
  AtMost o = crc_cost (ended_of o) field ≤ blocks + 508

  abbrev size : ℕ
  size = range_size (word32_at field 0) (word32_at field 4)

  inside_costs : (at : ℕ) → place_of first (length memory.fram) (word32_at field 0) size ≡ Some at → field_cost field ≤ blocks + 508
  unfolding field_cost
  inside_costs at found =
      let there = a_place_is_where_its_address_says first (length memory.fram) (word32_at field 0) size at found in
      let start : word32_at field 0 - first_of (which_of field) ≡ at = omega (arith, there.0, named) in
      subst (λ (n : ℕ). range_cost n (n + size) ≤ blocks + 508) (sym start) (no_range_costs_more blocks at (at + size) (omega (arith, there.1, whole)))

  one_fram_costs : AtMost (crc_of first memory field)
  unfolding crc_of
  one_fram_costs =
      either_way AtMost (eqb (length field) 8) _ refused
      (λ _. either_way AtMost (ltb (word32_at field 4) (word32_at field 0)) refused _ (λ _. omega arith)
      (λ _. either_way AtMost (over_border (word32_at field 0) size) refused _ (λ _. omega arith)
      (λ _. placed (place_of first (length memory.fram) (word32_at field 0) size) refl)))
      (λ _. omega arith)
    where
      placed : (p : Option ℕ) → place_of first (length memory.fram) (word32_at field 0) size ≡ p
          → AtMost (at_place p (λ at. done (field ++ bytes16 (range_sum memory at (at + size))) tt))
      placed None e = omega arith
      placed (Some at) e = inside_costs at e

-- A CRC command costs at most 508 above the number of blocks of the FRAM that its address names.
pub what_a_crc_costs_at_most : (now : Frams) (field : List ℕ) → length now.bootloader.fram ≡ block_start (length now.bootloader.sums)
    → length now.user.fram ≡ block_start (length now.user.sums)
    → crc_cost (ended_of (crc_by_address now field)) field ≤ length (fram_of (which_of field) now).sums + 508
unfolding crc_by_address
what_a_crc_costs_at_most now field one two =
    one_fram_costs (first_of (which_of field)) (fram_of (which_of field) now) field refl (length (fram_of (which_of field) now).sums) (by (which_of field))
  where
    by : (which : Which) → length (fram_of which now).fram ≡ block_start (length (fram_of which now).sums)
    by of_bootloader = one
    by of_user = two

-- The range of any data field costs something: none names a range of no bytes.
pub a_field_costs_something : (field : List ℕ) → 1 ≤ field_cost field
unfolding field_cost
a_field_costs_something field =
    let at = word32_at field 0 - first_of (which_of field) in
    a_range_costs_something at (at + range_size (word32_at field 0) (word32_at field 4)) (omega arith)
