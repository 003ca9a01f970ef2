-- What READ EDAC and WRITE EDAC come to inside EDAC memory, and the reply in two pieces. Assumes nothing.
use mathlib.Core.Path.{◌≡◌, ap, ◌∙◌}
use mathlib.Core.Bool.{true}
use mathlib.Core.List.{List, ◌++◌}
use Prim.Native.Nat.{ℕ, ◌+◌, ◌-◌, ◌≤◌}
use native.Mathlib.Omega.{arith}
use borrow.Author.Tests.{le-ltb, eq-eqb, ne_eqb, leb-true}
use lib.ListN.{length, take, drop}
use Rattle.memory.specs.Bytes.{stretch, stored, begun}
use Rattle.read_only.specs.ReadOnly.{written}
use Rattle.read_only.proofs.Keeping.{a_write_keeps_read_only_bytes}
use Rattle.memory.specs.Edac.{edac_size, inside_edac}
use Rattle.std.proofs.Common.{Ok}
use Rattle.carrying.specs.Ending.{done, left, leaves}
use Rattle.carrying.proofs.Writing.{is_done_storing, the_rest, address_then_bytes, length_of_address_then_bytes}
use Rattle.field.specs.Fields.{word16_at}
use Rattle.edac_commands.specs.ReadEdac.{read_edac_range_of, read_edac_of}
use Rattle.edac_commands.specs.WriteEdac.{write_edac_of}

-- ---- READ EDAC

module _ (room : ℕ) (edac field : List ℕ) (count : ℕ) (some : count ≡ 0 → ⊥) (fits : 2 + count ≤ room) where
  pub edac_read_inside : (at : ℕ) → at ≡ word16_at field 0 → inside_edac at count ≡ true → read_edac_range_of room edac field count ≡ done (take 2 field ++ stretch at count edac) tt
  unfolding read_edac_range_of
  edac_read_inside at e inside = simp (ne_eqb count 0 some, le-ltb room (2 + count) fits, ← e, inside)

pub edac_read_long : (room : ℕ) (edac field : List ℕ) (count : ℕ) → (length field ≡ 3 → ⊥) → length field ≡ 4 → count ≡ word16_at field 2
    → read_edac_of room edac field ≡ read_edac_range_of room edac field count
unfolding read_edac_of
edac_read_long room edac field count other four e = simp (ne_eqb (length field) 3 other, eq-eqb (length field) 4 four, e)

-- ---- WRITE EDAC

module _ (room : ℕ) (edac field : List ℕ) (some : 3 ≤ length field) (fits : length field ≤ room) (at : ℕ) (e : at ≡ word16_at field 0) where
  pub edac_write_inside : inside_edac at (length field - 2) ≡ true
      → write_edac_of room edac field ≡ done (take 2 field ++ stretch at (length field - 2) (written edac at (drop 2 field))) (written edac at (drop 2 field))
  unfolding write_edac_of
  edac_write_inside inside = simp (le-ltb (length field) 3 some, le-ltb room (length field) fits, ← e, inside)

  -- what is stored, and then the reply in two pieces
  pub edac_is_written : (memory first second reply : List ℕ) → inside_edac at (length field - 2) ≡ true → length edac ≡ edac_size
      → memory ≡ written edac at (take (length field - 2) (drop 2 field)) → first ≡ stored reply 0 (take 2 field)
      → second ≡ stored first 2 (stretch at (at + (length field - 2) - at) memory)
      → left (Ok (length field)) second memory ≡ leaves (write_edac_of room edac field) reply edac
  edac_is_written memory first second reply inside whole e e1 e2 =
      let after = written edac at (drop 2 field) in
      let stores : memory ≡ after = e ∙ ap (written edac at) (the_rest 2 field) in
      let ends = leb-true (at + (length field - 2)) edac_size inside in
      let long = (a_write_keeps_read_only_bytes edac at (drop 2 field)).same_length in
      is_done_storing (write_edac_of room edac field) (take 2 field ++ stretch at (length field - 2) after) second reply (length field) memory after edac
      (edac_write_inside inside) stores
      (length_of_address_then_bytes 2 field after at (length field - 2) (omega arith) (omega arith) ∙ omega arith)
      (address_then_bytes 2 field memory reply first second at (length field - 2) (omega arith) e1 e2
      ∙ ap (λ m. begun reply (take 2 field ++ stretch at (length field - 2) m)) stores)

pub it_is_inside_edac : (at count : ℕ) → inside_edac at count ≡ true → at + count ≤ edac_size
it_is_inside_edac at count h = leb-true (at + count) edac_size h
