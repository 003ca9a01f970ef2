-- READ EDAC and GATHER after a WRITE EDAC that was done: byte for byte what was written, where that is writable, and elsewhere what stood
-- there; of the range that was written, what the WRITE EDAC answered. Assumes nothing.
use mathlib.Core.Path.{◌≡◌, refl, sym, ap, ap₂, ◌∙◌}
use mathlib.Core.Bool.{Bool, true, false, cond, ◌&&◌, false≢true}
use mathlib.Core.List.{List, ◌++◌, append-nil}
use mathlib.Core.Logic.{◌⊎◌, inl, inr}
use Prim.Native.Nat.{ℕ, ◌+◌, ◌-◌, ◌≤◌, ◌<◌}
use native.Mathlib.Omega.{arith}
use borrow.Author.Tests.{le-ltb, ltb-false, eqb-true, leb-true, ne_eqb}
use lib.Dec.{eqb, ltb}
use lib.ListN.{length, take, drop, get_or, length-drop, take-append-drop}
use Rattle.memory.specs.Bytes.{stretch, overlaid}
use Rattle.read_only.specs.ReadOnly.{read_only, keeping, written, written_over}
use Rattle.memory.specs.Edac.{edac_size, inside_edac}
use Rattle.memory.proofs.Stretches.{length_of_a_stretch}
use Rattle.memory.proofs.Overlays.{a_range_before_a_store, a_range_after_a_store}
use Rattle.read_only.proofs.Runs.{both}
use Rattle.read_only.proofs.Keeping.{kept_alike, kept_as_it_was, stretch_of_a_write, what_is_read_after_a_write}
use Rattle.field.specs.Fields.{word16_at, bytes16, short_count}
use Rattle.field.specs.Reading.{Listed, ends, cut, item, listed_from}
use Rattle.field.proofs.Words.{two_bytes}
use Rattle.carrying.specs.Ending.{done, refused}
use Rattle.carrying.specs.Storing.{with_data}
use Rattle.carrying.proofs.Storing.{either_way_alike, shown_so}
use Rattle.edac_commands.specs.ReadEdac.{read_edac_range_of, read_edac_of}
use Rattle.edac_commands.specs.WriteEdac.{written_edac, write_edac_of}
use Rattle.edac_commands.specs.Gather.{ranges, range_holds, ranges_hold, ranges_width, ranges_shown, gather_of}
use Rattle.edac_commands.specs.Storing.{edac_after, ranges_after}
use Rattle.edac_commands.proofs.Ways.{edac_read_inside, edac_read_long}

-- what is known of a WRITE EDAC that was done
pub record EdacWritten (room : ℕ) (edac field reply after : List ℕ) : Type 0 where
  pub some : 3 ≤ length field
  pub fits : length field ≤ room
  pub within : inside_edac (word16_at field 0) (length field - 2) ≡ true
  pub shows : take 2 field ++ stretch (word16_at field 0) (length field - 2) after ≡ reply
  pub stores : written edac (word16_at field 0) (drop 2 field) ≡ after

pub a_write_edac_that_was_done : (room : ℕ) (edac field reply after : List ℕ) → write_edac_of room edac field ≡ done reply after → EdacWritten room edac field reply after
unfolding write_edac_of
a_write_edac_that_was_done room edac field reply after e =
    apart (ltb (length field) 3) (ltb room (length field)) (inside_edac (word16_at field 0) (length field - 2)) refl refl refl e
  where
    apart : (short long within : Bool) → ltb (length field) 3 ≡ short → ltb room (length field) ≡ long → inside_edac (word16_at field 0) (length field - 2) ≡ within
        → cond short refused (cond long refused (cond within (written_edac edac field) refused)) ≡ done reply after
        → EdacWritten room edac field reply after
    apart true long within es el ew came = let z : ◌≡◌ {A = ℕ} 0 1 = cc in absurd (omega arith)
    apart false true within es el ew came = let z : ◌≡◌ {A = ℕ} 0 1 = cc in absurd (omega arith)
    apart false false false es el ew came = let z : ◌≡◌ {A = ℕ} 0 1 = cc in absurd (omega arith)
    apart false false true es el ew came =
        let now : written edac (word16_at field 0) (drop 2 field) ≡ after = cc in
        let said : take 2 field ++ stretch (word16_at field 0) (length field - 2) (written edac (word16_at field 0) (drop 2 field)) ≡ reply = cc in
        record {
          some = ltb-false (length field) 3 es;
          fits = ltb-false room (length field) el;
          within = ew;
          shows = ap (λ l. take 2 field ++ stretch (word16_at field 0) (length field - 2) l) (sym now) ∙ said;
          stores = now;
        }

a_range_that_holds : (address count : ℕ) → range_holds address count ≡ true → address + count ≤ edac_size
a_range_that_holds address count h = apart (eqb count 0) h
  where
    apart : (none : Bool) → cond none false (inside_edac address count) ≡ true → address + count ≤ edac_size
    apart true e = absurd (false≢true e)
    apart false e = leb-true (address + count) edac_size e

module _ (room : ℕ) (edac write reply after : List ℕ) (whole : length edac ≡ edac_size) (came : write_edac_of room edac write ≡ done reply after) where
  abbrev wrote : EdacWritten room edac write reply after
  wrote = a_write_edac_that_was_done room edac write reply after came

  abbrev at : ℕ
  at = word16_at write 0

  inside : at + length (drop 2 write) ≤ length edac
  inside = let size = length-drop 2 write in omega (arith, leb-true (at + (length write - 2)) edac_size wrote.within)

  abbrev over : List ℕ → List ℕ → List ℕ
  over field = edac_after at (drop 2 write) (word16_at field 0)

  range_alike : (asked : ℕ) (field : List ℕ) (count : ℕ) → 2 ≤ length field
      → read_edac_range_of asked after field count ≡ with_data (over field) (read_edac_range_of asked edac field count)
  unfolding read_edac_range_of
  range_alike asked field count long =
      either_way_alike (over field) (eqb count 0) _ _ _ _ (λ _. refl)
      (λ _. either_way_alike (over field) (ltb asked (2 + count)) _ _ _ _ (λ _. refl)
      (λ _. either_way_alike (over field) (inside_edac (word16_at field 0) count) _ _ _ _
      (λ within.
      let ends = leb-true (word16_at field 0 + count) edac_size within in
      ap (λ l. done (take 2 field ++ stretch (word16_at field 0) count l) tt) (sym wrote.stores)
      ∙ ap (λ l. done l tt)
      (shown_so 2 field (stretch (word16_at field 0) count edac) (stretch (word16_at field 0) count (written edac at (drop 2 write))) (written_over at (drop 2 write) (word16_at field 0)) long
      (what_is_read_after_a_write edac at (drop 2 write) inside count (word16_at field 0) (omega arith))))
      (λ _. refl)))

  -- Any READ EDAC comes to what it came to before, with the writable bytes that were written where its range meets theirs.
  pub a_read_edac_after_a_write_edac : (asked : ℕ) (field : List ℕ) → read_edac_of asked after field ≡ with_data (over field) (read_edac_of asked edac field)
  unfolding read_edac_of
  a_read_edac_after_a_write_edac asked field =
      either_way_alike (over field) (eqb (length field) 3) _ _ _ _
      (λ three. let size = eqb-true (length field) 3 three in range_alike asked field (short_count (get_or field 2 0)) (omega arith))
      (λ _. either_way_alike (over field) (eqb (length field) 4) _ _ _ _
      (λ four. let size = eqb-true (length field) 4 four in range_alike asked field (word16_at field 2) (omega arith))
      (λ _. refl))

  ranges_alike : (l : Listed) → ranges_hold l ≡ true → ranges_shown after l ≡ ranges_after at (drop 2 write) edac l
  ranges_alike ends hold = refl
  ranges_alike cut hold = refl
  ranges_alike (item range rest) hold =
      let two = both (range_holds (word16_at range 0) (word16_at range 2)) (ranges_hold rest) hold in
      let within = a_range_that_holds (word16_at range 0) (word16_at range 2) two.0 in
      ap₂ (λ shown others. (range ++ shown) ++ others)
      (ap (stretch (word16_at range 0) (word16_at range 2)) (sym wrote.stores)
      ∙ what_is_read_after_a_write edac at (drop 2 write) inside (word16_at range 2) (word16_at range 0) (omega arith))
      (ranges_alike rest two.1)

  -- And so does any GATHER.
  pub a_gather_after_a_write_edac : (asked : ℕ) (field : List ℕ)
      → gather_of asked after field ≡ with_data (λ _. ranges_after at (drop 2 write) edac (ranges field)) (gather_of asked edac field)
  unfolding gather_of
  a_gather_after_a_write_edac asked field =
      either_way_alike (λ _. ranges_after at (drop 2 write) edac (ranges field)) (eqb (length field) 0) _ _ _ _ (λ _. refl)
      (λ _. either_way_alike (λ _. ranges_after at (drop 2 write) edac (ranges field)) (ltb asked (ranges_width (ranges field))) _ _ _ _ (λ _. refl)
      (λ _. either_way_alike (λ _. ranges_after at (drop 2 write) edac (ranges field)) (ranges_hold (ranges field)) _ _ _ _
      (λ hold. ap (λ l. done l tt) (ranges_alike (ranges field) hold)) (λ _. refl)))

-- ---- the range that was written

the_ranges_shown : (room : ℕ) (edac field : List ℕ) → (length field ≡ 0 → ⊥) → ranges_hold (ranges field) ≡ true → ranges_width (ranges field) ≤ room
    → gather_of room edac field ≡ done (ranges_shown edac (ranges field)) tt
unfolding gather_of
the_ranges_shown room edac field some hold fits = simp (ne_eqb (length field) 0 some, le-ltb room (ranges_width (ranges field)) fits, hold)

module _ (room : ℕ) (edac : List ℕ) (address : ℕ) (bytes reply after : List ℕ) (whole : length edac ≡ edac_size)
    (came : write_edac_of room edac (bytes16 address ++ bytes) ≡ done reply after) where
  abbrev asking : List ℕ
  asking = bytes16 address ++ bytes16 (length bytes)

  abbrev known : EdacWritten room edac (bytes16 address ++ bytes) reply after
  known = a_write_edac_that_was_done room edac (bytes16 address ++ bytes) reply after came

  holds_there : inside_edac (word16_at asking 0) (length bytes) ≡ true
  holds_there =
      let size : length (bytes16 address ++ bytes) - 2 ≡ length bytes = omega arith in
      ap (inside_edac (word16_at asking 0)) (sym size) ∙ known.within

  few : length bytes < 65536
  few = omega (arith, leb-true (word16_at asking 0 + length bytes) edac_size holds_there)

  abbrev shown : List ℕ
  shown = stretch (word16_at asking 0) (length bytes) after

  -- The WRITE EDAC answers its address and what memory then holds there.
  pub what_a_write_edac_answers : reply ≡ bytes16 address ++ shown
  what_a_write_edac_answers =
      let size : length (bytes16 address ++ bytes) - 2 ≡ length bytes = omega arith in
      sym known.shows ∙ ap (λ (n : ℕ). bytes16 address ++ stretch (word16_at asking 0) n after) size

  -- Byte for byte that is what stood there, where it is read-only, and elsewhere what was written.
  pub what_memory_then_holds : shown ≡ keeping (word16_at asking 0) (stretch (word16_at asking 0) (length bytes) edac) bytes
  what_memory_then_holds =
      ap (stretch (word16_at asking 0) (length bytes)) (sym known.stores)
      ∙ stretch_of_a_write edac (word16_at asking 0) bytes (omega (arith, inside room edac (bytes16 address ++ bytes) reply after whole came))

  -- So where all of it is writable, the WRITE EDAC answers what was sent.
  pub writable_bytes_are_echoed : ((i : ℕ) → word16_at asking 0 ≤ i → i < word16_at asking 0 + length bytes → read_only i ≡ false) → reply ≡ bytes16 address ++ bytes
  writable_bytes_are_echoed free =
      let fits = inside room edac (bytes16 address ++ bytes) reply after whole came in
      let old = length_of_a_stretch edac (word16_at asking 0) (length bytes) (omega arith) in
      what_a_write_edac_answers
      ∙ ap (λ l. bytes16 address ++ l)
      (what_memory_then_holds ∙ kept_alike false (word16_at asking 0) (stretch (word16_at asking 0) (length bytes) edac) bytes old (λ i low high. free i low (omega arith)))

  -- A READ EDAC of the range that was written answers what the WRITE EDAC answered.
  pub what_was_written_is_read : (asked : ℕ) → 2 + length bytes ≤ asked → read_edac_of asked after asking ≡ done reply tt
  what_was_written_is_read asked roomy =
      edac_read_long asked after asking (length bytes) (λ e. omega arith) refl (sym (two_bytes (length bytes) few))
      ∙ edac_read_inside asked after asking (length bytes) (λ e. omega (arith, known.some)) (omega arith) (word16_at asking 0) refl holds_there
      ∙ ap (λ l. done l tt) (sym what_a_write_edac_answers)

  -- And a GATHER of it shows the same bytes, where the reply has room for its head of four bytes.
  pub what_was_written_is_gathered : (asked : ℕ) → 4 + length bytes ≤ asked → gather_of asked after asking ≡ done (asking ++ drop 2 reply) tt
  unfolding listed_from
  what_was_written_is_gathered asked roomy =
      let count : word16_at asking 2 ≡ length bytes = two_bytes (length bytes) few in
      the_ranges_shown asked after asking (λ e. omega arith)
      (ap (λ (n : ℕ). range_holds (word16_at asking 0) n && true) count ∙ simp (ne_eqb (length bytes) 0 (λ e. omega (arith, known.some)), holds_there))
      (omega (arith, count))
      ∙ ap (λ l. done l tt)
      (append-nil (asking ++ stretch (word16_at asking 0) (word16_at asking 2) after)
      ∙ ap (λ (n : ℕ). asking ++ stretch (word16_at asking 0) n after) count
      ∙ ap (λ l. asking ++ drop 2 l) (sym what_a_write_edac_answers))

-- ---- a range that was not written

-- shows what it showed
pub edac_shown_elsewhere : (at : ℕ) (bytes : List ℕ) (from : ℕ) (reply : List ℕ) → (from + (length reply - 2) ≤ at) ⊎ (at + length bytes ≤ from)
    → edac_after at bytes from reply ≡ reply
edac_shown_elsewhere at bytes from reply apart =
    ap (λ l. take 2 reply ++ keeping from (drop 2 reply) l) (same apart)
    ∙ ap (λ l. take 2 reply ++ l) (kept_as_it_was from (drop 2 reply))
    ∙ take-append-drop 2 reply
  where
    same : (from + (length reply - 2) ≤ at) ⊎ (at + length bytes ≤ from) → overlaid at bytes from (drop 2 reply) ≡ drop 2 reply
    same (inl before) = let size = length-drop 2 reply in a_range_before_a_store at bytes from (drop 2 reply) (omega arith)
    same (inr past) = a_range_after_a_store at bytes from (drop 2 reply) past
