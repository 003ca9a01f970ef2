-- PEEK after a POKE that was done: of the range that was poked, the bytes poked; byte for byte, those or what stood there. Assumes nothing.
use mathlib.Core.Path.{◌≡◌, refl, sym, ap, ap₂, ◌∙◌}
use mathlib.Core.Bool.{Bool, true, false, cond}
use mathlib.Core.List.{List, ◌++◌}
use Prim.Native.Nat.{ℕ, ◌+◌, ◌-◌, ◌≤◌, ◌<◌}
use native.Mathlib.Omega.{arith}
use borrow.Author.Tests.{ltb-false, eqb-true}
use lib.Dec.{eqb, ltb}
use lib.ListN.{length, take, drop, get_or, length-drop}
use Rattle.memory.specs.Bytes.{stretch, stored, overlaid}
use Rattle.memory.proofs.Stretches.{a_store_keeps_the_length, stretch_of_a_store}
use Rattle.memory.proofs.Overlays.{counted_from_another_place}
use Rattle.blocks.specs.Fram.{Kept, place_of, store_of}
use Rattle.std.proofs.Common.{Option, Some, None}
use Rattle.field.specs.Fields.{word16_at, word32_at, bytes16, bytes32, short_count}
use Rattle.field.proofs.Words.{two_bytes}
use Rattle.carrying.specs.Ending.{done, refused, at_place}
use Rattle.carrying.specs.Storing.{with_data, shown_after}
use Rattle.carrying.proofs.Storing.{either_way_alike, at_any_place_alike, shown_after_a_store}
use Rattle.fram_commands.specs.Windows.{over_border}
use Rattle.fram_commands.specs.Peek.{peek_range_of, peek_of}
use Rattle.fram_commands.specs.Poke.{poke_of}
use Rattle.fram_commands.proofs.Ways.{a_place_is_where_its_address_says, peek_inside, peek_long}

-- what is known of a POKE that was done
pub record Poked (room first : ℕ) (locked : Bool) (memory : Kept) (field reply : List ℕ) (after : Kept) : Type 0 where
  pub some : 5 ≤ length field
  pub fits : length field ≤ room
  pub border : over_border (word32_at field 0) (length field - 4) ≡ false
  pub at : ℕ
  pub found : place_of first (length memory.fram) (word32_at field 0) (length field - 4) ≡ Some at
  pub stores : cond locked memory (store_of memory at (drop 4 field)) ≡ after

pub a_poke_that_was_done : (room first : ℕ) (locked : Bool) (memory : Kept) (field reply : List ℕ) (after : Kept) → poke_of room first locked memory field ≡ done reply after
    → Poked room first locked memory field reply after
unfolding poke_of
a_poke_that_was_done room first locked memory field reply after e =
    apart (ltb (length field) 5) (ltb room (length field)) (over_border (word32_at field 0) (length field - 4))
    (place_of first (length memory.fram) (word32_at field 0) (length field - 4)) refl refl refl refl e
  where
    apart : (short long over : Bool) (p : Option ℕ) → ltb (length field) 5 ≡ short → ltb room (length field) ≡ long
        → over_border (word32_at field 0) (length field - 4) ≡ over
        → place_of first (length memory.fram) (word32_at field 0) (length field - 4) ≡ p
        → cond short refused (cond long refused (cond over refused (at_place p (λ at. done field (cond locked memory (store_of memory at (drop 4 field))))))) ≡ done reply after
        → Poked room first locked memory field reply after
    apart true long over p es el eo ep came = let z : ◌≡◌ {A = ℕ} 0 1 = cc in absurd (omega arith)
    apart false true over p es el eo ep came = let z : ◌≡◌ {A = ℕ} 0 1 = cc in absurd (omega arith)
    apart false false true p es el eo ep came = let z : ◌≡◌ {A = ℕ} 0 1 = cc in absurd (omega arith)
    apart false false false None es el eo ep came = let z : ◌≡◌ {A = ℕ} 0 1 = cc in absurd (omega arith)
    apart false false false (Some at) es el eo ep came = record {
      some = ltb-false (length field) 5 es;
      fits = ltb-false room (length field) el;
      border = eo;
      at = at;
      found = ep;
      stores = cc;
    }

-- A locked POKE, whatever it comes to, leaves the memory and its sums as they were.
pub a_locked_poke_stores_nothing : (room first : ℕ) (memory : Kept) (field reply : List ℕ) (after : Kept) → poke_of room first true memory field ≡ done reply after
    → memory ≡ after
a_locked_poke_stores_nothing room first memory field reply after came = (a_poke_that_was_done room first true memory field reply after came).stores

module _ (room first : ℕ) (memory : Kept) (poke reply : List ℕ) (after : Kept) (came : poke_of room first false memory poke ≡ done reply after) where
  abbrev poked : Poked room first false memory poke reply after
  poked = a_poke_that_was_done room first false memory poke reply after came

  abbrev there : (first + poked.at ≡ word32_at poke 0) × (poked.at + (length poke - 4) ≤ length memory.fram)
  there = a_place_is_where_its_address_says first (length memory.fram) (word32_at poke 0) (length poke - 4) poked.at poked.found

  inside : poked.at + length (drop 4 poke) ≤ length memory.fram
  inside = let size = length-drop 4 poke in omega (arith, there.1)

  fram_after : after.fram ≡ stored memory.fram poked.at (drop 4 poke)
  unfolding store_of
  fram_after = ap (λ k. k.fram) (sym poked.stores)

  size_after : length after.fram ≡ length memory.fram
  size_after = ap length fram_after ∙ a_store_keeps_the_length memory.fram poked.at (drop 4 poke) inside

  -- what a PEEK shows at a place, by the address that it asked for
  shown : (field : List ℕ) (count at : ℕ) → 4 ≤ length field → place_of first (length memory.fram) (word32_at field 0) count ≡ Some at
      → take 4 field ++ stretch at count after.fram
      ≡ shown_after 4 (word32_at poke 0) (drop 4 poke) (word32_at field 0) (take 4 field ++ stretch at count memory.fram)
  shown field count at whole found =
      let here = a_place_is_where_its_address_says first (length memory.fram) (word32_at field 0) count at found in
      let old = drop 4 (take 4 field ++ stretch at count memory.fram) in
      ap (λ l. take 4 field ++ stretch at count l) fram_after
      ∙ shown_after_a_store 4 field memory.fram poked.at (drop 4 poke) at count whole inside here.1
      ∙ ap (λ l. take 4 (take 4 field ++ stretch at count memory.fram) ++ l)
      (sym (counted_from_another_place poked.at (drop 4 poke) at first old)
      ∙ ap₂ (λ (m n : ℕ). overlaid m (drop 4 poke) n old) there.0 here.0)

  abbrev over : List ℕ → List ℕ → List ℕ
  over field = shown_after 4 (word32_at poke 0) (drop 4 poke) (word32_at field 0)

  ranges_alike : (asked : ℕ) (field : List ℕ) (count : ℕ) → 4 ≤ length field
      → peek_range_of asked first after.fram field count ≡ with_data (over field) (peek_range_of asked first memory.fram field count)
  unfolding peek_range_of
  ranges_alike asked field count whole =
      either_way_alike (over field) (eqb count 0) _ _ _ _ (λ _. refl)
      (λ _. either_way_alike (over field) (ltb asked (4 + count)) _ _ _ _ (λ _. refl)
      (λ _. either_way_alike (over field) (over_border (word32_at field 0) count) _ _ _ _ (λ _. refl)
      (λ _.
      ap (λ (n : ℕ). at_place (place_of first n (word32_at field 0) count) (λ at. done (take 4 field ++ stretch at count after.fram) tt)) size_after
      ∙ at_any_place_alike (over field) (place_of first (length memory.fram) (word32_at field 0) count) _ _
      (λ at found. ap (λ l. done l tt) (shown field count at whole found)))))

  -- Any PEEK comes to what it came to before, with the bytes poked where its range meets theirs.
  pub a_peek_after_a_poke : (asked : ℕ) (field : List ℕ) → peek_of asked first after.fram field ≡ with_data (over field) (peek_of asked first memory.fram field)
  unfolding peek_of
  a_peek_after_a_poke asked field =
      either_way_alike (over field) (eqb (length field) 5) _ _ _ _
      (λ five. let size = eqb-true (length field) 5 five in ranges_alike asked field (short_count (get_or field 4 0)) (omega arith))
      (λ _. either_way_alike (over field) (eqb (length field) 6) _ _ _ _
      (λ six. let size = eqb-true (length field) 6 six in ranges_alike asked field (word16_at field 4) (omega arith))
      (λ _. refl))

-- A PEEK of the range that was poked, where its reply has room, shows the bytes poked.
pub what_was_poked_is_peeked : (room first : ℕ) (memory : Kept) (address : ℕ) (bytes reply : List ℕ) (after : Kept)
    → poke_of room first false memory (bytes32 address ++ bytes) ≡ done reply after → length bytes < 65536 → (asked : ℕ) → 4 + length bytes ≤ asked
    → peek_of asked first after.fram (bytes32 address ++ bytes16 (length bytes)) ≡ done (bytes32 address ++ bytes) tt
what_was_poked_is_peeked room first memory address bytes reply after came few asked roomy =
    let poke = bytes32 address ++ bytes in
    let field = bytes32 address ++ bytes16 (length bytes) in
    let known = a_poke_that_was_done room first false memory poke reply after came in
    let size : length poke - 4 ≡ length bytes = omega arith in
    let found : place_of first (length after.fram) (word32_at field 0) (length bytes) ≡ Some known.at
    = ap₂ (λ (l n : ℕ). place_of first l (word32_at field 0) n) (size_after room first memory poke reply after came) (sym size) ∙ known.found in
    let start : known.at ≤ length memory.fram = omega (arith, inside room first memory poke reply after came) in
    peek_long asked first after.fram field (length bytes) (λ e. omega arith) refl (sym (two_bytes (length bytes) few))
    ∙ peek_inside asked first after.fram field (length bytes) (λ e. omega (arith, known.some)) (omega arith)
    (ap (over_border (word32_at field 0)) (sym size) ∙ known.border) known.at found
    ∙ ap (λ l. done (bytes32 address ++ l) tt)
    (ap (stretch known.at (length bytes)) (fram_after room first memory poke reply after came)
    ∙ stretch_of_a_store memory.fram known.at bytes start)
