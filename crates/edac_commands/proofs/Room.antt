-- The replies to READ EDAC, WRITE EDAC and GATHER have room. Assumes nothing.
use mathlib.Core.Path.{◌≡◌, refl, ap}
use mathlib.Core.Bool.{true}
use mathlib.Core.List.{List, ◌++◌}
use Prim.Native.Nat.{ℕ, ◌+◌, ◌-◌, ◌≤◌}
use native.Mathlib.Omega.{arith}
use borrow.Author.Tests.{ltb-false}
use lib.Dec.{eqb, ltb}
use lib.ListN.{length, take, drop, get_or, length-append}
use Rattle.memory.specs.Bytes.{stretch}
use Rattle.read_only.specs.ReadOnly.{written}
use Rattle.memory.specs.Edac.{inside_edac}
use Rattle.field.specs.Fields.{word16_at, short_count}
use Rattle.field.proofs.Lists.{by_structures, list_ends}
use Rattle.carrying.specs.Ending.{done, refused}
use Rattle.carrying.proofs.Room.{either_way, Roomy, part}
use Rattle.edac_commands.specs.ReadEdac.{read_edac_range_of, read_edac_of}
use Rattle.edac_commands.specs.WriteEdac.{written_edac, write_edac_of}
use Rattle.edac_commands.specs.Gather.{ranges, ranges_hold, ranges_width, ranges_shown, gather_of}
use Rattle.edac_commands.proofs.Lists.{at_least_one, holding_is_whole, a_range_stands}

-- a head of the data field, then bytes of EDAC memory
pub head_then_bytes : (head count : ℕ) (field bytes : List ℕ) → length (take head field ++ take count bytes) ≤ head + count
head_then_bytes head count field bytes =
    let here = part head field in
    let more = part count bytes in
    let both = length-append (take head field) (take count bytes) in
    omega arith

the_ranges_shown : (edac field : List ℕ) → ranges_hold (ranges field) ≡ true → length (ranges_shown edac (ranges field)) ≤ ranges_width (ranges field)
the_ranges_shown edac field hold =
    by_structures (λ _. 4) at_least_one field (λ at. length (ranges_shown edac (ranges (drop at field))) ≤ ranges_width (ranges (drop at field)))
    (λ at h. rw (list_ends (λ _. 4) field at h) (omega arith))
    (λ at h fits more.
    let turn = a_range_stands field field at (at + 4) h refl refl fits in
    let range = take (at + 4 - at) (drop at field) in
    let shown = ap (λ l. length (ranges_shown edac l)) turn in
    let width = ap ranges_width turn in
    let both = length-append (range ++ stretch (word16_at range 0) (word16_at range 2) edac) (ranges_shown edac (ranges (drop (at + 4) field))) in
    let here = head_then_bytes (at + 4 - at) (word16_at range 2) (drop at field) (drop (word16_at range 0) edac) in
    omega arith)
    0 (holding_is_whole (ranges field) hold)

module _ (room : ℕ) (edac field : List ℕ) where
  read_edac_range_fits : (count : ℕ) → Roomy room (read_edac_range_of room edac field count)
  unfolding read_edac_range_of
  read_edac_range_fits count =
      either_way (Roomy room) (eqb count 0) refused _ (λ _. omega arith)
      (λ _. either_way (Roomy room) (ltb room (2 + count)) refused _ (λ _. omega arith)
      (λ e. either_way (Roomy room) (inside_edac (word16_at field 0) count) (done (take 2 field ++ stretch (word16_at field 0) count edac) tt) refused
      (λ _. shown (ltb-false room (2 + count) e)) (λ _. omega arith)))
    where
      shown : 2 + count ≤ room → length (take 2 field ++ stretch (word16_at field 0) count edac) ≤ room
      shown h = let e = head_then_bytes 2 count field (drop (word16_at field 0) edac) in omega arith

  pub read_edac_fits : Roomy room (read_edac_of room edac field)
  unfolding read_edac_of
  read_edac_fits =
      either_way (Roomy room) (eqb (length field) 3) (read_edac_range_of room edac field (short_count (get_or field 2 0))) _
      (λ _. read_edac_range_fits (short_count (get_or field 2 0)))
      (λ _. either_way (Roomy room) (eqb (length field) 4) (read_edac_range_of room edac field (word16_at field 2)) refused
      (λ _. read_edac_range_fits (word16_at field 2)) (λ _. omega arith))

  pub write_edac_fits : Roomy room (write_edac_of room edac field)
  unfolding write_edac_of
  write_edac_fits =
      either_way (Roomy room) (ltb (length field) 3) refused _ (λ _. omega arith)
      (λ short. either_way (Roomy room) (ltb room (length field)) refused _ (λ _. omega arith)
      (λ e. either_way (Roomy room) (inside_edac (word16_at field 0) (length field - 2)) (written_edac edac field) refused
      (λ _. shown (ltb-false (length field) 3 short) (ltb-false room (length field) e)) (λ _. omega arith)))
    where
      shown : 3 ≤ length field → length field ≤ room
          → length (take 2 field ++ stretch (word16_at field 0) (length field - 2) (written edac (word16_at field 0) (drop 2 field))) ≤ room
      shown some h = let e = head_then_bytes 2 (length field - 2) field (drop (word16_at field 0) (written edac (word16_at field 0) (drop 2 field))) in omega arith

  pub gather_fits : Roomy room (gather_of room edac field)
  unfolding gather_of
  gather_fits =
      either_way (Roomy room) (eqb (length field) 0) refused _ (λ _. omega arith)
      (λ _. either_way (Roomy room) (ltb room (ranges_width (ranges field))) refused _ (λ _. omega arith)
      (λ e. either_way (Roomy room) (ranges_hold (ranges field)) (done (ranges_shown edac (ranges field)) tt) refused
      (shown (ltb-false room (ranges_width (ranges field)) e)) (λ _. omega arith)))
    where
      shown : ranges_width (ranges field) ≤ room → ranges_hold (ranges field) ≡ true → length (ranges_shown edac (ranges field)) ≤ room
      shown h hold = let e = the_ranges_shown edac field hold in omega arith
