-- 02, T-07: a PEEK, POKE or CRC range over the border of the FRAMs is refused, whatever is fitted, locked and lent. Assumes nothing.
use mathlib.Core.Path.{◌≡◌, refl, ap, ap₂, ◌∙◌}
use mathlib.Core.Bool.{Bool, true, false, cond}
use mathlib.Core.List.{List, [], ◌∷◌, ◌++◌}
use Prim.Native.Nat.{ℕ, ◌+◌, ◌-◌, ◌<◌}
use native.Mathlib.Omega.{arith}
use borrow.Author.Tests.{le-leb, lt-ltb}
use lib.Dec.{eqb, ltb}
use lib.ListN.{length}
use Rattle.field.specs.Fields.{word16_at, word32_at, bytes16, bytes32, short_count}
use Rattle.field.proofs.Words.{two_bytes, four_bytes}
use Rattle.blocks.specs.Fram.{Kept}
use Rattle.carrying.specs.Ending.{Ending, refused}
use Rattle.carrying.specs.Held.{one_of, with_fram, inside, reading, on_frams}
use Rattle.fram_commands.specs.Windows.{first_of_bootloader, first_of_user, end_of_user, first_of, which_of, over_border}
use Rattle.fram_commands.specs.Peek.{peek_range_of, peek_of}
use Rattle.fram_commands.specs.Poke.{poke_of}
use Rattle.fram_commands.specs.Crc.{range_size, crc_of}
use Rattle.fram_commands.specs.ByAddress.{peek_by_address, poke_by_address, crc_by_address}
use Rattle.command.proofs.Codes.{in_either_mode}
use Rattle.judging.specs.declared.Unit.{Unit}
use Rattle.replying.specs.Replies.{code_of}
use Rattle.commanding.specs.World.{held_of}
use Rattle.demands.specs.Calls.{Call}
use Rattle.demands.specs.Orders.{came_to, OverTheBorder}

-- whichever test is met, it is refused
refused_by_any : {M : Type 0} (a b c : Bool) (e : Ending M) → c ≡ true → cond a refused (cond b refused (cond c refused e)) ≡ refused
refused_by_any true b c e over = refl
refused_by_any false true c e over = refl
refused_by_any false false true e over = refl
refused_by_any false false false e over = let z : ◌≡◌ {A = ℕ} 0 1 = cc in absurd (omega arith)

-- by the address behind its last byte
over_it : (address count : ℕ) → OverTheBorder address (address + count - 1) → over_border address count ≡ true
over_it address count over =
    let from = over.starts_from in
    let to = over.starts_to in
    let past = over.ends_from in
    let most = over.ends_to in
    simp (
      le-leb first_of_bootloader address from,
      lt-ltb address first_of_user (omega arith),
      lt-ltb first_of_user (address + count) (omega arith),
      le-leb (address + count) end_of_user (omega arith),
    )

module _ (u : Unit) (c : Call) (control : ℕ) where
  peek_range_refused : (room first : ℕ) (fram field : List ℕ) (count : ℕ) → over_border (word32_at field 0) count ≡ true → peek_range_of room first fram field count ≡ refused
  unfolding peek_range_of
  peek_range_refused room first fram field count over = refused_by_any (eqb count 0) (ltb room (4 + count)) (over_border (word32_at field 0) count) _ over

  abbrev peeking : List ℕ → Ending (Prim.Unit {0})
  peeking field = peek_by_address u.limit c.lent.frams.bootloader.fram c.lent.frams.user.fram field

  peeks : code_of control ≡ 0x02 → (field : List ℕ) → peeking field ≡ refused → came_to u c control field ≡ refused
  peeks code field is =
      in_either_mode u.limit (code_of control) (held_of u c.lent) field 0x02 (reading (held_of u c.lent) (peeking field)) code refl
      ∙ ap (reading (held_of u c.lent)) is

  -- A PEEK with a two-byte count, and with a one-byte count, of which 0 is 256;
  pub a_peek_over_the_border_is_refused : code_of control ≡ 0x02 → (address count : ℕ) → address < 4294967296 → count < 65536 → OverTheBorder address (address + count - 1)
      → came_to u c control (bytes32 address ++ bytes16 count) ≡ refused
  unfolding peek_by_address peek_of
  a_peek_over_the_border_is_refused code address count small few over =
      let field = bytes32 address ++ bytes16 count in
      let which = which_of field in
      peeks code field
      (peek_range_refused u.limit (first_of which) (one_of which c.lent.frams.bootloader.fram c.lent.frams.user.fram) field (word16_at field 4)
      (ap₂ (λ (a n : ℕ). over_border a n) (four_bytes address small) (two_bytes count few) ∙ over_it address count over))

  pub a_short_peek_over_the_border_is_refused : code_of control ≡ 0x02 → (address byte : ℕ) → address < 4294967296 → OverTheBorder address (address + short_count byte - 1)
      → came_to u c control (bytes32 address ++ (byte ∷ [])) ≡ refused
  unfolding peek_by_address peek_of
  a_short_peek_over_the_border_is_refused code address byte small over =
      let field = bytes32 address ++ (byte ∷ []) in
      let which = which_of field in
      peeks code field
      (peek_range_refused u.limit (first_of which) (one_of which c.lent.frams.bootloader.fram c.lent.frams.user.fram) field (short_count byte)
      (ap (λ (a : ℕ). over_border a (short_count byte)) (four_bytes address small) ∙ over_it address (short_count byte) over))

  -- a POKE, locked or not;
  pub a_poke_over_the_border_is_refused : code_of control ≡ 0x03 → (address : ℕ) (bytes : List ℕ) → address < 4294967296 → OverTheBorder address (address + length bytes - 1)
      → came_to u c control (bytes32 address ++ bytes) ≡ refused
  unfolding poke_by_address poke_of
  a_poke_over_the_border_is_refused code address bytes small over =
      let field = bytes32 address ++ bytes in
      let which = which_of field in
      let size : length field - 4 ≡ length bytes = omega arith in
      in_either_mode u.limit (code_of control) (held_of u c.lent) field 0x03
      (on_frams (held_of u c.lent) (poke_by_address u.limit u.locked c.lent.frams field)) code refl
      ∙ ap (λ (e : Ending Kept). on_frams (held_of u c.lent) (inside (with_fram which c.lent.frams) e))
      (refused_by_any (ltb (length field) 5) (ltb u.limit (length field)) (over_border (word32_at field 0) (length field - 4)) _
      (ap₂ (λ (a n : ℕ). over_border a n) (four_bytes address small) size ∙ over_it address (length bytes) over))

  -- and a CRC.
  pub a_crc_over_the_border_is_refused : code_of control ≡ 0x06 → (first last : ℕ) → OverTheBorder first last → came_to u c control (bytes32 first ++ bytes32 last) ≡ refused
  unfolding crc_by_address crc_of
  a_crc_over_the_border_is_refused code first last over =
      let field = bytes32 first ++ bytes32 last in
      let to = over.starts_to in
      let past = over.ends_from in
      let most = over.ends_to in
      let one : word32_at field 0 ≡ first = four_bytes first (omega arith) in
      let two : word32_at field 4 ≡ last = four_bytes last (omega arith) in
      let same : first + range_size first last - 1 ≡ last = omega arith in
      in_either_mode u.limit (code_of control) (held_of u c.lent) field 0x06 (reading (held_of u c.lent) (crc_by_address c.lent.frams field)) code refl
      ∙ ap (reading (held_of u c.lent))
      (refused_by_any false (ltb (word32_at field 4) (word32_at field 0)) (over_border (word32_at field 0) (range_size (word32_at field 0) (word32_at field 4))) _
      (ap₂ (λ (f l : ℕ). over_border f (range_size f l)) one two
      ∙ over_it first (range_size first last) (record {
        starts_from = over.starts_from;
        starts_to = to;
        ends_from = omega arith;
        ends_to = omega arith;
      })))
