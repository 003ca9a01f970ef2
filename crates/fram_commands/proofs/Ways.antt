-- One law for each way through a command's function. Assumes nothing.
use mathlib.Core.Path.{◌≡◌, refl}
use mathlib.Core.Bool.{Bool, true, false, cond, ◌&&◌}
use mathlib.Core.List.{List, ◌++◌}
use Prim.Native.Nat.{ℕ, ◌+◌, ◌-◌, ◌≤◌, ◌<◌}
use native.Mathlib.Omega.{arith}
use borrow.Author.Tests.{lt-ltb, le-ltb, eq-eqb, ne_eqb, leb-true}
use lib.Dec.{leb}
use lib.ListN.{length, take, drop, get_or}
use Rattle.memory.specs.Bytes.{stretch}
use Rattle.blocks.specs.Fram.{Kept, place_of, store_of, range_sum}
use Rattle.std.proofs.Common.{Option, Some, None, Err, IsErrAnd, ok_or, ap, ◌∙◌}
use Rattle.std.proofs.lemmas.Result.{err_from_is_err_and}
use Rattle.carrying.specs.declared.CommandError.{CommandError}
use Rattle.carrying.specs.declared.CommandError.TheVariants.{Unfitted}
use Rattle.carrying.specs.Ending.{Ended, done, refused, unfitted}
use Rattle.field.specs.Fields.{word16_at, word32_at, bytes16, short_count}
use Rattle.fram_commands.specs.Windows.{over_border}
use Rattle.fram_commands.specs.Peek.{peek_range_of, peek_of}
use Rattle.fram_commands.specs.Poke.{poke_of}
use Rattle.fram_commands.specs.Crc.{range_size, crc_of}

-- ---- a place in FRAM

-- a place lies inside, as far from the first byte as its address says
pub a_place_is_where_its_address_says : (first len address count at : ℕ) → place_of first len address count ≡ Some at
    → (first + at ≡ address) × (at + count ≤ len)
unfolding place_of
a_place_is_where_its_address_says first len address count at found =
    apart (leb first address) (leb (address + count) (first + len)) refl refl found
  where
    apart : (a b : Bool) → leb first address ≡ a → leb (address + count) (first + len) ≡ b → cond (a && b) (Some (address - first)) None ≡ Some at
        → (first + at ≡ address) × (at + count ≤ len)
    apart true true ea eb e =
        let there : address - first ≡ at = cc in
        let above = leb-true first address ea in
        let below = leb-true (address + count) (first + len) eb in
        (omega arith, omega arith)
    apart true false ea eb e = let z : ◌≡◌ {A = ℕ} 0 1 = cc in absurd (omega arith)
    apart false b ea eb e = let z : ◌≡◌ {A = ℕ} 0 1 = cc in absurd (omega arith)

pub a_place_lies_inside : (first len address count at : ℕ) → place_of first len address count ≡ Some at → at + count ≤ len
a_place_lies_inside first len address count at found = (a_place_is_where_its_address_says first len address count at found).1

-- what a function hands back that asks for a place where there is none
pub is_not_fitted : (r : Ended) (error : CommandError) (place : Option ℕ) → IsErrAnd r (λ given. given ≡ error) → Err error ≡ ok_or place Unfitted → place ≡ None
    → r ≡ Err Unfitted
is_not_fitted r error place hands e none =
    let p = err_from_is_err_and r hands in p.1 ∙ ap Err p.2 ∙ e ∙ ap (λ found. ok_or found Unfitted) none

-- ---- PEEK

pub peek_of_none : (room first : ℕ) (fram field : List ℕ) (count : ℕ) → count ≡ 0 → peek_range_of room first fram field count ≡ refused
unfolding peek_range_of
peek_of_none room first fram field count none = simp (eq-eqb count 0 none)

pub peek_without_room : (room first : ℕ) (fram field : List ℕ) (count : ℕ) → (count ≡ 0 → ⊥) → room < 4 + count → peek_range_of room first fram field count ≡ refused
unfolding peek_range_of
peek_without_room room first fram field count some lacks = simp (ne_eqb count 0 some, lt-ltb room (4 + count) lacks)

module _ (room first : ℕ) (fram field : List ℕ) (count : ℕ) (some : count ≡ 0 → ⊥) (fits : 4 + count ≤ room) where
  pub peek_over_the_border : over_border (word32_at field 0) count ≡ true → peek_range_of room first fram field count ≡ refused
  unfolding peek_range_of
  peek_over_the_border over = simp (ne_eqb count 0 some, le-ltb room (4 + count) fits, over)

  module _ (border : over_border (word32_at field 0) count ≡ false) where
    pub peek_outside : place_of first (length fram) (word32_at field 0) count ≡ None → peek_range_of room first fram field count ≡ unfitted
    unfolding peek_range_of
    peek_outside there = simp (ne_eqb count 0 some, le-ltb room (4 + count) fits, border, there)

    pub peek_inside : (at : ℕ) → place_of first (length fram) (word32_at field 0) count ≡ Some at
        → peek_range_of room first fram field count ≡ done (take 4 field ++ stretch at count fram) tt
    unfolding peek_range_of
    peek_inside at there = simp (ne_eqb count 0 some, le-ltb room (4 + count) fits, border, there)

pub peek_short : (room first : ℕ) (fram field : List ℕ) (count : ℕ) → length field ≡ 5 → count ≡ short_count (get_or field 4 0)
    → peek_of room first fram field ≡ peek_range_of room first fram field count
unfolding peek_of
peek_short room first fram field count five e = simp (eq-eqb (length field) 5 five, e)

pub peek_long : (room first : ℕ) (fram field : List ℕ) (count : ℕ) → (length field ≡ 5 → ⊥) → length field ≡ 6 → count ≡ word16_at field 4
    → peek_of room first fram field ≡ peek_range_of room first fram field count
unfolding peek_of
peek_long room first fram field count other six e = simp (ne_eqb (length field) 5 other, eq-eqb (length field) 6 six, e)

pub peek_neither : (room first : ℕ) (fram field : List ℕ) → (length field ≡ 5 → ⊥) → (length field ≡ 6 → ⊥) → peek_of room first fram field ≡ refused
unfolding peek_of
peek_neither room first fram field other another = simp (ne_eqb (length field) 5 other, ne_eqb (length field) 6 another)

-- ---- POKE

pub poke_too_short : (room first : ℕ) (locked : Bool) (memory : Kept) (field : List ℕ) → length field < 5 → poke_of room first locked memory field ≡ refused
unfolding poke_of
poke_too_short room first locked memory field short = simp (lt-ltb (length field) 5 short)

pub poke_without_room : (room first : ℕ) (locked : Bool) (memory : Kept) (field : List ℕ) → 5 ≤ length field → room < length field
    → poke_of room first locked memory field ≡ refused
unfolding poke_of
poke_without_room room first locked memory field some lacks = simp (le-ltb (length field) 5 some, lt-ltb room (length field) lacks)

module _ (room first : ℕ) (locked : Bool) (memory : Kept) (field : List ℕ) (some : 5 ≤ length field) (fits : length field ≤ room) where
  pub poke_over_the_border : over_border (word32_at field 0) (length field - 4) ≡ true → poke_of room first locked memory field ≡ refused
  unfolding poke_of
  poke_over_the_border over = simp (le-ltb (length field) 5 some, le-ltb room (length field) fits, over)

  module _ (border : over_border (word32_at field 0) (length field - 4) ≡ false) where
    pub poke_outside : place_of first (length memory.fram) (word32_at field 0) (length field - 4) ≡ None → poke_of room first locked memory field ≡ unfitted
    unfolding poke_of
    poke_outside there = simp (le-ltb (length field) 5 some, le-ltb room (length field) fits, border, there)

    pub poke_inside : (at : ℕ) → place_of first (length memory.fram) (word32_at field 0) (length field - 4) ≡ Some at
        → poke_of room first locked memory field ≡ done field (cond locked memory (store_of memory at (drop 4 field)))
    unfolding poke_of
    poke_inside at there = simp (le-ltb (length field) 5 some, le-ltb room (length field) fits, border, there)

-- ---- CRC

pub crc_of_another_length : (first : ℕ) (memory : Kept) (field : List ℕ) → (length field ≡ 8 → ⊥) → crc_of first memory field ≡ refused
unfolding crc_of
crc_of_another_length first memory field other = simp (ne_eqb (length field) 8 other)

pub crc_backwards : (first : ℕ) (memory : Kept) (field : List ℕ) → length field ≡ 8 → word32_at field 4 < word32_at field 0 → crc_of first memory field ≡ refused
unfolding crc_of
crc_backwards first memory field eight before = simp (eq-eqb (length field) 8 eight, lt-ltb (word32_at field 4) (word32_at field 0) before)

module _ (first : ℕ) (memory : Kept) (field : List ℕ) (eight : length field ≡ 8) (forward : word32_at field 0 ≤ word32_at field 4) where
  pub crc_over_the_border : over_border (word32_at field 0) (range_size (word32_at field 0) (word32_at field 4)) ≡ true → crc_of first memory field ≡ refused
  unfolding crc_of
  crc_over_the_border over = simp (eq-eqb (length field) 8 eight, le-ltb (word32_at field 4) (word32_at field 0) forward, over)

  module _ (border : over_border (word32_at field 0) (range_size (word32_at field 0) (word32_at field 4)) ≡ false) where
    pub crc_outside : place_of first (length memory.fram) (word32_at field 0) (range_size (word32_at field 0) (word32_at field 4)) ≡ None → crc_of first memory field ≡ unfitted
    unfolding crc_of
    crc_outside there = simp (eq-eqb (length field) 8 eight, le-ltb (word32_at field 4) (word32_at field 0) forward, border, there)

    pub crc_inside : (at : ℕ) → place_of first (length memory.fram) (word32_at field 0) (range_size (word32_at field 0) (word32_at field 4)) ≡ Some at
        → crc_of first memory field ≡ done (field ++ bytes16 (range_sum memory at (at + range_size (word32_at field 0) (word32_at field 4)))) tt
    unfolding crc_of
    crc_inside at there = simp (eq-eqb (length field) 8 eight, le-ltb (word32_at field 4) (word32_at field 0) forward, border, there)
