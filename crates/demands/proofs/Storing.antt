-- Demand 2, on what is stored: a command that reads, sent after one that stored and was done, shows what was stored; and elsewhere what
-- stood there. Between the two, and by them, anything may be lent but the memory that was stored in. Assumes nothing.
use mathlib.Core.Path.{◌≡◌, refl, sym, ap, ◌∙◌, subst}
use mathlib.Core.Bool.{Bool, true, false, cond, false≢true}
use mathlib.Core.List.{List, ◌++◌}
use mathlib.Core.Logic.{◌⊎◌, inl, inr, ⊎_elim}
use Prim.Native.Nat.{ℕ, ◌+◌, ◌-◌, ◌≤◌, ◌<◌}
use native.Mathlib.Omega.{arith}
use borrow.Author.Tests.{le-leb, lt-ltb, ltb-true, ltb-false, eqb-true}
use lib.Dec.{eqb, ltb}
use lib.ListN.{length, take, drop, get_or}
use Rattle.line.specs.Packing.{packed_of}
use Rattle.field.specs.Fields.{word16_at, word32_at, bytes16, bytes32, short_count}
use Rattle.field.proofs.Words.{two_bytes, four_bytes}
use Rattle.memory.specs.Bytes.{stretch}
use Rattle.read_only.specs.ReadOnly.{read_only, keeping}
use Rattle.memory.specs.Edac.{edac_size}
use Rattle.memory.proofs.Tests.{either_side}
use Rattle.blocks.specs.Fram.{Kept, kept, place_of}
use Rattle.std.proofs.Common.{Some}
use Rattle.carrying.specs.declared.Mode.{Mode}
use Rattle.carrying.specs.declared.Mode.TheVariants.{Bootloader, Application}
use Rattle.carrying.specs.Ending.{Ending, done, refused, unfitted}
use Rattle.carrying.specs.Held.{Frams, Which, of_bootloader, of_user, one_of, fram_of, with_fram, standing, Held, held, inside, reading, on_edac, on_frams}
use Rattle.carrying.specs.Storing.{with_data, shown_after}
use Rattle.carrying.proofs.Limits.{within_both_ends}
use Rattle.carrying.proofs.Room.{either_way}
use Rattle.carrying.proofs.Writing.{length_of_address_then_bytes}
use Rattle.carrying.proofs.Storing.{either_way_alike, at_any_place_alike, shown_elsewhere}
use Rattle.fram_commands.specs.Windows.{first_of_bootloader, first_of_user, end_of_user, first_of, which_of, over_border}
use Rattle.fram_commands.specs.Peek.{peek_range_of, peek_of}
use Rattle.fram_commands.specs.Poke.{poke_of}
use Rattle.fram_commands.specs.ByAddress.{peek_by_address, lock_of, poke_by_address}
use Rattle.fram_commands.proofs.Ways.{a_place_is_where_its_address_says}
use Rattle.fram_commands.proofs.Choosing.{a_peek_where_it_is_named, a_poke_where_it_is_named}
use Rattle.fram_commands.proofs.Storing as fram
use Rattle.file_commands.specs.ReadFile.{read_file_of}
use Rattle.file_commands.specs.WriteFile.{listed, files_of, write_file_of}
use Rattle.file_commands.specs.Storing.{files_after}
use Rattle.file_commands.proofs.Storing as files
use Rattle.edac_commands.specs.ReadEdac.{read_edac_of}
use Rattle.edac_commands.specs.WriteEdac.{write_edac_of}
use Rattle.edac_commands.specs.Gather.{ranges, gather_of}
use Rattle.edac_commands.specs.Storing.{edac_after, ranges_after}
use Rattle.edac_commands.proofs.Storing as edac
use Rattle.command.specs.Command.{command_of}
use Rattle.command.proofs.Codes.{in_either_mode, in_application, not_in_bootloader}
use Rattle.answer.specs.Answers.{number_of}
use Rattle.judging.specs.declared.Unit.{Unit}
use Rattle.replying.specs.Replies.{code_of, reply_message}
use Rattle.commanding.specs.World.{held_of}
use Rattle.demands.specs.Calls.{Call, Bytes}
use Rattle.demands.specs.Orders.{Sends, left_by, sent_by, came_to, lending_fram, lending_edac, showing, Way, met, replies}
use Rattle.demands.proofs.Orders.{each_a_byte, a_write_file_comes_to, WasDone, a_command_that_is_done_sends_its_data, edac_is_whole, a_lent_fram_is_no_longer, a_command_answered_so_was_done}

-- ---- a part of what is held

-- a command on a part that is done as a whole was done on the part
record OnThePart {M N : Type 0} (around : M → N) (e : Ending M) (reply : List ℕ) (after : N) : Type 0 where
  part : M
  is : e ≡ done reply part
  whole : around part ≡ after

on_the_part : {M N : Type 0} (around : M → N) (e : Ending M) (reply : List ℕ) (after : N) → inside around e ≡ done reply after → OnThePart around e reply after
on_the_part around (done bytes part) reply after e = record { part = part; is = ap (λ l. done l part) cc; whole = cc }
on_the_part around refused reply after e = let z : ◌≡◌ {A = ℕ} 0 1 = cc in absurd (omega arith)
on_the_part around unfitted reply after e = let z : ◌≡◌ {A = ℕ} 0 1 = cc in absurd (omega arith)

replies_alike : {M : Type 0} {reply reply' : List ℕ} {after after' : M} → done reply after ≡ done reply' after' → reply ≡ reply'
replies_alike e = cc

-- a command that reads, with other data
read_so : (now before : Held) (f : List ℕ → List ℕ) (e : Ending (Prim.Unit {0})) → reading now (with_data f e) ≡ showing now f (reading before e)
read_so now before f (done reply after) = refl
read_so now before f refused = refl
read_so now before f unfitted = refl

-- a command of application mode that was done was in application mode
was_in_application : (room code : ℕ) (now : Held) (field reply : List ℕ) (after : Held) → 0x07 ≤ code
    → command_of room code now field ≡ done reply after → now.standing.mode ≡ Application
was_in_application room code now field reply after above came = apart now.standing.mode refl
  where
    apart : (m : Mode) → now.standing.mode ≡ m → m ≡ Application
    apart Application e = refl
    apart Bootloader e =
        let wrong : refused ≡ done reply after = sym (not_in_bootloader room code now field above e) ∙ came in
        let z : ◌≡◌ {A = ℕ} 0 1 = cc in
        absurd (omega arith)

-- ---- POKE and PEEK

-- one of the two, changed, and the other
put_in : (which : Which) (now : Frams) (memory : Kept) → fram_of which (with_fram which now memory) ≡ memory
put_in of_bootloader now memory = refl
put_in of_user now memory = refl

untouched : (which other : Which) (now : Frams) (memory : Kept) → (other ≡ which → ⊥) → fram_of other (with_fram which now memory) ≡ fram_of other now
untouched of_bootloader of_bootloader now memory apart = absurd (apart refl)
untouched of_bootloader of_user now memory apart = refl
untouched of_user of_bootloader now memory apart = refl
untouched of_user of_user now memory apart = absurd (apart refl)

bytes_of : (which : Which) (now : Frams) → one_of which now.bootloader.fram now.user.fram ≡ (fram_of which now).fram
bytes_of of_bootloader now = refl
bytes_of of_user now = refl

same_or_other : (x y : Which) → (x ≡ y) ⊎ (x ≡ y → ⊥)
same_or_other of_bootloader of_bootloader = inl refl
same_or_other of_bootloader of_user = inr (λ e. let z : ◌≡◌ {A = ℕ} 0 1 = cc in absurd (omega arith))
same_or_other of_user of_bootloader = inr (λ e. let z : ◌≡◌ {A = ℕ} 0 1 = cc in absurd (omega arith))
same_or_other of_user of_user = inl refl

-- where an address lies that names one of them
named_below : (field : List ℕ) → which_of field ≡ of_bootloader → word32_at field 0 < first_of_user
named_below field e = by (ltb (word32_at field 0) first_of_user) refl e
  where
    by : (b : Bool) → ltb (word32_at field 0) first_of_user ≡ b → cond b of_bootloader of_user ≡ of_bootloader → word32_at field 0 < first_of_user
    by true t e = ltb-true (word32_at field 0) first_of_user t
    by false t e = let z : ◌≡◌ {A = ℕ} 0 1 = cc in absurd (omega arith)

named_above : (field : List ℕ) → which_of field ≡ of_user → first_of_user ≤ word32_at field 0
named_above field e = by (ltb (word32_at field 0) first_of_user) refl e
  where
    by : (b : Bool) → ltb (word32_at field 0) first_of_user ≡ b → cond b of_bootloader of_user ≡ of_user → first_of_user ≤ word32_at field 0
    by true t e = let z : ◌≡◌ {A = ℕ} 0 1 = cc in absurd (omega arith)
    by false t e = ltb-false (word32_at field 0) first_of_user t

-- a range of one FRAM that is not over the border does not meet a range inside the other
does_not_meet : (other which : Which) (field : List ℕ) (count address size : ℕ) → (other ≡ which → ⊥) → which_of field ≡ other → first_of other ≤ word32_at field 0
    → over_border (word32_at field 0) count ≡ false → count < 65536 → first_of which ≤ address → address + size ≤ first_of which + 262144
    → (word32_at field 0 + count ≤ address) ⊎ (address + size ≤ word32_at field 0)
does_not_meet of_bootloader of_bootloader field count address size apart named starts clear few there ends = absurd (apart refl)
does_not_meet of_user of_user field count address size apart named starts clear few there ends = absurd (apart refl)
does_not_meet of_user of_bootloader field count address size apart named starts clear few there ends =
    let above = named_above field named in inr (omega arith)
does_not_meet of_bootloader of_user field count address size apart named starts clear few there ends =
    let from = word32_at field 0 in
    let below = named_below field named in
    either_side (from + count) first_of_user (λ early. inl (omega arith))
    (λ late.
    let over : over_border from count ≡ true =
    simp (
      le-leb first_of_bootloader from starts,
      lt-ltb from first_of_user below,
      lt-ltb first_of_user (from + count) late,
      le-leb (from + count) end_of_user (omega arith),
    )
    in
    absurd (false≢true (sym clear ∙ over)))

-- so a PEEK of the other shows what it showed
module _ (other which : Which) (field : List ℕ) (apart : other ≡ which → ⊥) (named : which_of field ≡ other) (small : Bytes field) (address : ℕ) (bytes : List ℕ)
    (there : first_of which ≤ address) (ends : address + length bytes ≤ first_of which + 262144) where
  abbrev as_it_was : List ℕ → List ℕ
  as_it_was = shown_after 4 address bytes (word32_at field 0)

  range_untouched : (room : ℕ) (fram : List ℕ) (count : ℕ) → 4 ≤ length field → count < 65536
      → peek_range_of room (first_of other) fram field count ≡ with_data as_it_was (peek_range_of room (first_of other) fram field count)
  unfolding peek_range_of
  range_untouched room fram count whole few =
      either_way_alike as_it_was (eqb count 0) _ _ _ _ (λ _. refl)
      (λ _. either_way_alike as_it_was (ltb room (4 + count)) _ _ _ _ (λ _. refl)
      (λ _. either_way_alike as_it_was (over_border (word32_at field 0) count) _ _ _ _ (λ _. refl)
      (λ clear. at_any_place_alike as_it_was (place_of (first_of other) (length fram) (word32_at field 0) count) _ _
      (λ at found. ap (λ l. done l tt) (sym (untouched_there at found clear))))))
    where
      untouched_there : (at : ℕ) → place_of (first_of other) (length fram) (word32_at field 0) count ≡ Some at → over_border (word32_at field 0) count ≡ false
          → as_it_was (take 4 field ++ stretch at count fram) ≡ take 4 field ++ stretch at count fram
      untouched_there at found clear =
          let here = a_place_is_where_its_address_says (first_of other) (length fram) (word32_at field 0) count at found in
          let size = length_of_address_then_bytes 4 field fram at count whole here.1 in
          let starts : first_of other ≤ word32_at field 0 = omega (arith, here.0) in
          let long : length (take 4 field ++ stretch at count fram) - 4 ≡ count = omega (arith, size) in
          shown_elsewhere 4 address bytes (word32_at field 0) (take 4 field ++ stretch at count fram)
          (subst (λ (n : ℕ). (word32_at field 0 + n ≤ address) ⊎ (address + length bytes ≤ word32_at field 0)) (sym long)
          (does_not_meet other which field count address (length bytes) apart named starts clear few there ends))

  a_peek_untouched : (room : ℕ) (fram : List ℕ) → peek_of room (first_of other) fram field ≡ with_data as_it_was (peek_of room (first_of other) fram field)
  unfolding peek_of
  a_peek_untouched room fram =
      let one = each_a_byte field small 4 in
      let two = each_a_byte field small 5 in
      either_way_alike as_it_was (eqb (length field) 5) _ _ _ _
      (λ five. let size = eqb-true (length field) 5 five in range_untouched room fram (short_count (get_or field 4 0)) (omega arith) (few_enough (get_or field 4 0) one))
      (λ _. either_way_alike as_it_was (eqb (length field) 6) _ _ _ _
      (λ six. let size = eqb-true (length field) 6 six in range_untouched room fram (word16_at field 4) (omega arith) (omega arith))
      (λ _. refl))
    where
      few_enough : (byte : ℕ) → byte < 256 → short_count byte < 65536
      few_enough byte low = either_way (λ (n : ℕ). n < 65536) (eqb byte 0) 256 byte (λ _. omega arith) (λ _. omega arith)

-- A POKE of bytes at an address was sent, to a FRAM that is not locked, and answered 1 or 2.
module _ (way : Way) (source control address : ℕ) (bytes : List ℕ) (c : Call)
    (sends : Sends way source control (bytes32 address ++ bytes) c) (pokes : code_of control ≡ 0x03)
    (was_done : number_of (left_by way c).answer ≤ 2) (which : Which) (named : which_of (bytes32 address ++ bytes) ≡ which)
    (free : lock_of which (met way).locked ≡ false) where
  abbrev known : WasDone (left_by way c) (came_to (met way) c control (bytes32 address ++ bytes))
  known = a_command_answered_so_was_done way source control (bytes32 address ++ bytes) c sends was_done

  abbrev around : Kept → Held
  around memory = held (standing (met way).mode (met way).locked c.lent.diagnostics) c.lent.edac (with_fram which c.lent.frams memory)

  nested : {M N O : Type 0} (f : N → O) (g : M → N) (e : Ending M) → inside f (inside g e) ≡ inside (λ m. f (g m)) e
  nested f g (done reply after) = refl
  nested f g refused = refl
  nested f g unfitted = refl

  abbrev poked : OnThePart around (poke_of (met way).limit (first_of which) false (fram_of which c.lent.frams) (bytes32 address ++ bytes)) known.reply known.after
  poked =
      on_the_part around (poke_of (met way).limit (first_of which) false (fram_of which c.lent.frams) (bytes32 address ++ bytes)) known.reply known.after
      (sym (in_either_mode (met way).limit (code_of control) (held_of (met way) c.lent) (bytes32 address ++ bytes) 0x03
      (on_frams (held_of (met way) c.lent) (poke_by_address (met way).limit (met way).locked c.lent.frams (bytes32 address ++ bytes))) pokes refl
      ∙ ap (on_frams (held_of (met way) c.lent))
      (a_poke_where_it_is_named (bytes32 address ++ bytes) which named (met way).limit (met way).locked c.lent.frams
      ∙ ap (λ (b : Bool). inside (with_fram which c.lent.frams) (poke_of (met way).limit (first_of which) b (fram_of which c.lent.frams) (bytes32 address ++ bytes))) free)
      ∙ nested (λ both. held (standing (met way).mode (met way).locked c.lent.diagnostics) c.lent.edac both) (with_fram which c.lent.frams)
      (poke_of (met way).limit (first_of which) false (fram_of which c.lent.frams) (bytes32 address ++ bytes)))
      ∙ known.is)

  -- It leaves the other FRAM as it was, with its sums.
  pub a_poke_leaves_the_other_fram : (other : Which) → (other ≡ which → ⊥) → fram_of other (left_by way c).world.frams ≡ fram_of other c.lent.frams
  a_poke_leaves_the_other_fram other apart =
      ap (fram_of other) (known.frams ∙ ap (λ (h : Held). h.frams) (sym poked.whole)) ∙ untouched which other c.lent.frams poked.part apart

  -- Later, a call `d` on a unit `v` lends that FRAM's bytes as the POKE left them.
  module _ (v : Unit) (d : Call) (its_fram : (fram_of which d.lent.frams).fram ≡ (fram_of which (left_by way c).world.frams).fram) where
    fram_then : (fram_of which d.lent.frams).fram ≡ poked.part.fram
    fram_then =
        its_fram
        ∙ ap (λ (f : Frams). (fram_of which f).fram) (known.frams ∙ ap (λ (h : Held). h.frams) (sym poked.whole))
        ∙ ap (λ (k : Kept). k.fram) (put_in which c.lent.frams poked.part)

    peeks : (x : Which) (control' : ℕ) → code_of control' ≡ 0x02 → (e : Call) (field : List ℕ) → which_of field ≡ x
        → came_to v e control' field ≡ reading (held_of v e.lent) (peek_of v.limit (first_of x) (fram_of x e.lent.frams).fram field)
    peeks x control' code e field there =
        in_either_mode v.limit (code_of control') (held_of v e.lent) field 0x02
        (reading (held_of v e.lent) (peek_by_address v.limit e.lent.frams.bootloader.fram e.lent.frams.user.fram field)) code refl
        ∙ ap (reading (held_of v e.lent))
        (a_peek_where_it_is_named field x there v.limit e.lent.frams.bootloader.fram e.lent.frams.user.fram
        ∙ ap (λ l. peek_of v.limit (first_of x) l field) (bytes_of x e.lent.frams))

    -- a PEEK of the same FRAM
    on_its_own : address < 4294967296 → (control' : ℕ) → code_of control' ≡ 0x02 → (field : List ℕ) → which_of field ≡ which
        → came_to v d control' field
        ≡ showing (held_of v d.lent) (shown_after 4 address bytes (word32_at field 0))
        (came_to v (lending_fram which d (fram_of which c.lent.frams).fram) control' field)
    on_its_own small control' code field there =
        let before = (fram_of which c.lent.frams).fram in
        peeks which control' code d field there
        ∙ ap (λ l. reading (held_of v d.lent) (peek_of v.limit (first_of which) l field)) fram_then
        ∙ ap (reading (held_of v d.lent))
        (fram.a_peek_after_a_poke (met way).limit (first_of which) (fram_of which c.lent.frams) (bytes32 address ++ bytes) known.reply poked.part poked.is v.limit field
        ∙ ap (λ (a : ℕ). with_data (shown_after 4 a bytes (word32_at field 0)) (peek_of v.limit (first_of which) before field)) (four_bytes address small))
        ∙ read_so (held_of v d.lent) (held_of v (lending_fram which d before).lent) (shown_after 4 address bytes (word32_at field 0)) (peek_of v.limit (first_of which) before field)
        ∙ ap (showing (held_of v d.lent) (shown_after 4 address bytes (word32_at field 0)))
        (sym (peeks which control' code (lending_fram which d before) field there
        ∙ ap (λ l. reading (held_of v (lending_fram which d before).lent) (peek_of v.limit (first_of which) l field))
        (ap (λ (k : Kept). k.fram) (put_in which d.lent.frams (kept before (fram_of which d.lent.frams).sums)))))

    -- where the bytes poked lie
    lies_there : address < 4294967296 → (first_of which ≤ address) × (address + length bytes ≤ first_of which + 262144)
    lies_there small =
        let poke = bytes32 address ++ bytes in
        let was = fram.a_poke_that_was_done (met way).limit (first_of which) false (fram_of which c.lent.frams) poke known.reply poked.part poked.is in
        let here = a_place_is_where_its_address_says (first_of which) (length (fram_of which c.lent.frams).fram) (word32_at poke 0) (length poke - 4) was.at was.found in
        let most = a_lent_fram_is_no_longer way source control poke c sends which in
        let is = four_bytes address small in
        (omega (arith, here.0), omega (arith, here.0, here.1))

    -- a PEEK of the other one
    on_the_other : address < 4294967296 → (control' : ℕ) → code_of control' ≡ 0x02 → (field : List ℕ) → Bytes field → (other : Which) → (other ≡ which → ⊥) → which_of field ≡ other
        → came_to v d control' field
        ≡ showing (held_of v d.lent) (shown_after 4 address bytes (word32_at field 0))
        (came_to v (lending_fram which d (fram_of which c.lent.frams).fram) control' field)
    on_the_other small control' code field low other apart there =
        let before = (fram_of which c.lent.frams).fram in
        let lent = (fram_of other d.lent.frams).fram in
        let lies = lies_there small in
        peeks other control' code d field there
        ∙ ap (reading (held_of v d.lent)) (a_peek_untouched other which field apart there low address bytes lies.0 lies.1 v.limit lent)
        ∙ read_so (held_of v d.lent) (held_of v (lending_fram which d before).lent) (shown_after 4 address bytes (word32_at field 0)) (peek_of v.limit (first_of other) lent field)
        ∙ ap (showing (held_of v d.lent) (shown_after 4 address bytes (word32_at field 0)))
        (sym (peeks other control' code (lending_fram which d before) field there
        ∙ ap (λ l. reading (held_of v (lending_fram which d before).lent) (peek_of v.limit (first_of other) l field))
        (ap (λ (k : Kept). k.fram) (untouched which other d.lent.frams (kept before (fram_of which d.lent.frams).sums) apart))))

    -- Any PEEK, of either FRAM, comes to what it came to with that FRAM's bytes as they were before the POKE, with the bytes poked where its range meets
    -- theirs.
    pub a_peek_after_a_poke : address < 4294967296 → (control' : ℕ) → code_of control' ≡ 0x02 → (field : List ℕ) → Bytes field
        → came_to v d control' field
        ≡ showing (held_of v d.lent) (shown_after 4 address bytes (word32_at field 0))
        (came_to v (lending_fram which d (fram_of which c.lent.frams).fram) control' field)
    a_peek_after_a_poke small control' code field low =
        ⊎_elim (λ same. on_its_own small control' code field same) (λ apart. on_the_other small control' code field low (which_of field) apart refl) (same_or_other (which_of field) which)

    -- A PEEK whose range does not meet theirs shows what stood there.
    pub a_peek_of_another_range : address < 4294967296 → (control' : ℕ) → code_of control' ≡ 0x02 → (field reply : List ℕ) (now : Held) → Bytes field
        → (word32_at field 0 + (length reply - 4) ≤ address) ⊎ (address + length bytes ≤ word32_at field 0)
        → came_to v (lending_fram which d (fram_of which c.lent.frams).fram) control' field ≡ done reply now → came_to v d control' field ≡ done reply (held_of v d.lent)
    a_peek_of_another_range small control' code field reply now low apart before =
        a_peek_after_a_poke small control' code field low
        ∙ ap (showing (held_of v d.lent) (shown_after 4 address bytes (word32_at field 0))) before
        ∙ ap (λ l. done l (held_of v d.lent)) (shown_elsewhere 4 address bytes (word32_at field 0) reply apart)

    few : length bytes < 65536
    few = omega (arith, sends.short, (within_both_ends way.unit.limit sends.serves.2).1)

    -- A PEEK of the same range, where its reply has room (as it has where the limit is the same), is done, and shows the bytes poked.
    pub what_was_poked_is_peeked : 4 + length bytes ≤ v.limit → (control' : ℕ) → code_of control' ≡ 0x02
        → came_to v d control' (bytes32 address ++ bytes16 (length bytes)) ≡ done (bytes32 address ++ bytes) (held_of v d.lent)
    what_was_poked_is_peeked roomy control' code =
        peeks which control' code d (bytes32 address ++ bytes16 (length bytes)) named
        ∙ ap (λ l. reading (held_of v d.lent) (peek_of v.limit (first_of which) l (bytes32 address ++ bytes16 (length bytes)))) fram_then
        ∙ ap (reading (held_of v d.lent))
        (fram.what_was_poked_is_peeked (met way).limit (first_of which) (fram_of which c.lent.frams) address bytes known.reply poked.part poked.is few v.limit roomy)

    -- And from bytes on the line to bytes on the line: such a PEEK, sent to that unit, where its reply leaves, is answered by the packed reply with those bytes.
    pub what_was_poked_is_sent : 4 + length bytes ≤ v.limit → (way' : Way) → met way' ≡ v → (source' control' : ℕ)
        → Sends way' source' control' (bytes32 address ++ bytes16 (length bytes)) d → code_of control' ≡ 0x02 → replies way' control' d ≡ true
        → sent_by (left_by way' d) ≡ packed_of (reply_message 1 way'.destination source' control' (bytes32 address ++ bytes))
    what_was_poked_is_sent roomy way' same source' control' asks code leaves =
        a_command_that_is_done_sends_its_data way' source' control' (bytes32 address ++ bytes16 (length bytes)) d asks leaves (bytes32 address ++ bytes) (held_of v d.lent)
        (ap (λ x. came_to x d control' (bytes32 address ++ bytes16 (length bytes))) same ∙ what_was_poked_is_peeked roomy control' code)

-- ---- WRITE EDAC, READ EDAC and GATHER

-- a command on EDAC memory that was sent and answered 1 or 2 was done, and left what is left
record Wrote (writes : Ending (List ℕ)) (left : List ℕ) : Type 0 where
  reply : List ℕ
  is : writes ≡ done reply left

wrote_so : (way : Way) (source control : ℕ) (field : List ℕ) (c : Call) → Sends way source control field c
    → number_of (left_by way c).answer ≤ 2 → 0x07 ≤ code_of control → (writes : Ending (List ℕ))
    → ((met way).mode ≡ Application → came_to (met way) c control field ≡ on_edac (held_of (met way) c.lent) writes) → Wrote writes (left_by way c).world.edac
wrote_so way source control field c sends was_done above writes row =
    let known = a_command_answered_so_was_done way source control field c sends was_done in
    let mode = was_in_application (met way).limit (code_of control) (held_of (met way) c.lent) field known.reply known.after above known.is in
    let there = on_the_part (λ l. held (standing (met way).mode (met way).locked c.lent.diagnostics) l c.lent.frams) writes known.reply known.after (sym (row mode) ∙ known.is) in
    record { reply = known.reply; is = there.is ∙ ap (λ l. done known.reply l) (ap (λ (h : Held). h.edac) there.whole ∙ sym known.edac) }

-- A WRITE EDAC of bytes at an address was sent, and answered 1 or 2. Later, a call `d` on a unit `v` in application mode lends EDAC
-- memory as it was left.
module _ (way : Way) (source control address : ℕ) (bytes : List ℕ) (c : Call)
    (sends : Sends way source control (bytes16 address ++ bytes) c) (code : code_of control ≡ 0x0A)
    (was_done : number_of (left_by way c).answer ≤ 2) (v : Unit) (mode : v.mode ≡ Application) (d : Call)
    (its_edac : d.lent.edac ≡ (left_by way c).world.edac) where
  abbrev field : List ℕ
  field = bytes16 address ++ bytes

  abbrev left : List ℕ
  left = (left_by way c).world.edac

  abbrev wrote : Wrote (write_edac_of (met way).limit c.lent.edac field) left
  wrote =
      wrote_so way source control field c sends was_done (omega (arith, code)) (write_edac_of (met way).limit c.lent.edac field)
      (λ application. in_application (met way).limit (code_of control) (held_of (met way) c.lent) field 0x0A
      (on_edac (held_of (met way) c.lent) (write_edac_of (met way).limit c.lent.edac field)) code application refl)

  whole : length c.lent.edac ≡ edac_size
  whole = edac_is_whole way source control field c sends

  reads : (control' : ℕ) → code_of control' ≡ 0x09 → (e : Call) (asked : List ℕ)
      → came_to v e control' asked ≡ reading (held_of v e.lent) (read_edac_of v.limit e.lent.edac asked)
  reads control' is e asked =
      in_application v.limit (code_of control') (held_of v e.lent) asked 0x09
      (reading (held_of v e.lent) (read_edac_of v.limit e.lent.edac asked)) is mode refl

  gathers : (control' : ℕ) → code_of control' ≡ 0x0B → (e : Call) (asked : List ℕ)
      → came_to v e control' asked ≡ reading (held_of v e.lent) (gather_of v.limit e.lent.edac asked)
  gathers control' is e asked =
      in_application v.limit (code_of control') (held_of v e.lent) asked 0x0B
      (reading (held_of v e.lent) (gather_of v.limit e.lent.edac asked)) is mode refl

  -- Any READ EDAC comes to what it came to before the WRITE EDAC, with the writable bytes that were written where its range meets theirs.
  pub a_read_edac_after_a_write_edac : address < 65536 → (control' : ℕ) → code_of control' ≡ 0x09 → (asked : List ℕ)
      → came_to v d control' asked
      ≡ showing (held_of v d.lent) (edac_after address bytes (word16_at asked 0)) (came_to v (lending_edac d c.lent.edac) control' asked)
  a_read_edac_after_a_write_edac small control' is asked =
      reads control' is d asked
      ∙ ap (λ l. reading (held_of v d.lent) (read_edac_of v.limit l asked)) its_edac
      ∙ ap (reading (held_of v d.lent))
      (edac.a_read_edac_after_a_write_edac (met way).limit c.lent.edac field wrote.reply left whole wrote.is v.limit asked
      ∙ ap (λ (a : ℕ). with_data (edac_after a bytes (word16_at asked 0)) (read_edac_of v.limit c.lent.edac asked)) (two_bytes address small))
      ∙ read_so (held_of v d.lent) (held_of v (lending_edac d c.lent.edac).lent) (edac_after address bytes (word16_at asked 0)) (read_edac_of v.limit c.lent.edac asked)
      ∙ ap (showing (held_of v d.lent) (edac_after address bytes (word16_at asked 0))) (sym (reads control' is (lending_edac d c.lent.edac) asked))

  -- A READ EDAC whose range does not meet theirs shows what stood there.
  pub a_read_edac_of_another_range : address < 65536 → (control' : ℕ) → code_of control' ≡ 0x09 → (asked reply : List ℕ) (now : Held)
      → (word16_at asked 0 + (length reply - 2) ≤ address) ⊎ (address + length bytes ≤ word16_at asked 0)
      → came_to v (lending_edac d c.lent.edac) control' asked ≡ done reply now → came_to v d control' asked ≡ done reply (held_of v d.lent)
  a_read_edac_of_another_range small control' is asked reply now apart before =
      a_read_edac_after_a_write_edac small control' is asked
      ∙ ap (showing (held_of v d.lent) (edac_after address bytes (word16_at asked 0))) before
      ∙ ap (λ l. done l (held_of v d.lent)) (edac.edac_shown_elsewhere address bytes (word16_at asked 0) reply apart)

  -- Any GATHER comes to what it came to before, with the writable bytes that were written where one of its ranges meets theirs.
  pub a_gather_after_a_write_edac : address < 65536 → (control' : ℕ) → code_of control' ≡ 0x0B → (asked : List ℕ)
      → came_to v d control' asked
      ≡ showing (held_of v d.lent) (λ _. ranges_after address bytes c.lent.edac (ranges asked)) (came_to v (lending_edac d c.lent.edac) control' asked)
  a_gather_after_a_write_edac small control' is asked =
      gathers control' is d asked
      ∙ ap (λ l. reading (held_of v d.lent) (gather_of v.limit l asked)) its_edac
      ∙ ap (reading (held_of v d.lent))
      (edac.a_gather_after_a_write_edac (met way).limit c.lent.edac field wrote.reply left whole wrote.is v.limit asked
      ∙ ap (λ (a : ℕ). with_data (λ _. ranges_after a bytes c.lent.edac (ranges asked)) (gather_of v.limit c.lent.edac asked)) (two_bytes address small))
      ∙ read_so (held_of v d.lent) (held_of v (lending_edac d c.lent.edac).lent) (λ _. ranges_after address bytes c.lent.edac (ranges asked)) (gather_of v.limit c.lent.edac asked)
      ∙ ap (showing (held_of v d.lent) (λ _. ranges_after address bytes c.lent.edac (ranges asked))) (sym (gathers control' is (lending_edac d c.lent.edac) asked))

  -- What then stands there: byte for byte what stood there, where it is read-only, and elsewhere what was written.
  abbrev now_there : List ℕ
  now_there = keeping address (stretch address (length bytes) c.lent.edac) bytes

  answered_with : address < 65536 → wrote.reply ≡ bytes16 address ++ now_there
  answered_with small =
      edac.what_a_write_edac_answers (met way).limit c.lent.edac address bytes wrote.reply left whole wrote.is
      ∙ ap (λ l. bytes16 address ++ l) (edac.what_memory_then_holds (met way).limit c.lent.edac address bytes wrote.reply left whole wrote.is)
      ∙ ap (λ (a : ℕ). bytes16 address ++ keeping a (stretch a (length bytes) c.lent.edac) bytes) (two_bytes address small)

  -- A READ EDAC of the same range, where its reply has room, is done, and shows it; a GATHER of it too.
  pub what_was_written_is_read : address < 65536 → 2 + length bytes ≤ v.limit → (control' : ℕ) → code_of control' ≡ 0x09
      → came_to v d control' (bytes16 address ++ bytes16 (length bytes)) ≡ done (bytes16 address ++ now_there) (held_of v d.lent)
  what_was_written_is_read small roomy control' is =
      reads control' is d (bytes16 address ++ bytes16 (length bytes))
      ∙ ap (λ l. reading (held_of v d.lent) (read_edac_of v.limit l (bytes16 address ++ bytes16 (length bytes)))) its_edac
      ∙ ap (reading (held_of v d.lent)) (edac.what_was_written_is_read (met way).limit c.lent.edac address bytes wrote.reply left whole wrote.is v.limit roomy)
      ∙ ap (λ l. done l (held_of v d.lent)) (answered_with small)

  pub what_was_written_is_gathered : address < 65536 → 4 + length bytes ≤ v.limit → (control' : ℕ) → code_of control' ≡ 0x0B
      → came_to v d control' (bytes16 address ++ bytes16 (length bytes)) ≡ done ((bytes16 address ++ bytes16 (length bytes)) ++ now_there) (held_of v d.lent)
  what_was_written_is_gathered small roomy control' is =
      gathers control' is d (bytes16 address ++ bytes16 (length bytes))
      ∙ ap (λ l. reading (held_of v d.lent) (gather_of v.limit l (bytes16 address ++ bytes16 (length bytes)))) its_edac
      ∙ ap (reading (held_of v d.lent)) (edac.what_was_written_is_gathered (met way).limit c.lent.edac address bytes wrote.reply left whole wrote.is v.limit roomy)
      ∙ ap (λ l. done ((bytes16 address ++ bytes16 (length bytes)) ++ drop 2 l) (held_of v d.lent)) (answered_with small)

  -- Where all of it is writable, that is what was written.
  pub what_is_writable_is_read_as_it_was_written : address < 65536 → ((n : ℕ) → address ≤ n → n < address + length bytes → read_only n ≡ false) → now_there ≡ bytes
  what_is_writable_is_read_as_it_was_written small free =
      let there = two_bytes address small in
      ap (drop 2)
      (sym (answered_with small)
      ∙ edac.writable_bytes_are_echoed (met way).limit c.lent.edac address bytes wrote.reply left whole wrote.is (λ n low high. free n (omega arith) (omega arith)))

  -- From bytes on the line to bytes on the line.
  pub what_was_written_is_sent : address < 65536 → 2 + length bytes ≤ v.limit → (way' : Way) → met way' ≡ v → (source' control' : ℕ)
      → Sends way' source' control' (bytes16 address ++ bytes16 (length bytes)) d → code_of control' ≡ 0x09 → replies way' control' d ≡ true
      → sent_by (left_by way' d) ≡ packed_of (reply_message 1 way'.destination source' control' (bytes16 address ++ now_there))
  what_was_written_is_sent small roomy way' same source' control' asks is leaves =
      a_command_that_is_done_sends_its_data way' source' control' (bytes16 address ++ bytes16 (length bytes)) d asks leaves (bytes16 address ++ now_there) (held_of v d.lent)
      (ap (λ x. came_to x d control' (bytes16 address ++ bytes16 (length bytes))) same ∙ what_was_written_is_read small roomy control' is)

-- ---- WRITE FILE and READ FILE

-- A WRITE FILE of a list was sent, and answered 1 or 2. Later, a call `d` on a unit `v` in application mode lends EDAC memory as it was
-- left.
module _ (way : Way) (source control : ℕ) (list : List ℕ) (c : Call) (sends : Sends way source control list c)
    (code : code_of control ≡ 0x08) (was_done : number_of (left_by way c).answer ≤ 2) (v : Unit) (mode : v.mode ≡ Application) (d : Call)
    (its_edac : d.lent.edac ≡ (left_by way c).world.edac) where
  abbrev filed : Wrote (write_file_of (met way).limit c.lent.edac list) (left_by way c).world.edac
  filed =
      wrote_so way source control list c sends was_done (omega (arith, code)) (write_file_of (met way).limit c.lent.edac list)
      (a_write_file_comes_to (met way) c control list code)

  reads_files : (control' : ℕ) → code_of control' ≡ 0x07 → (e : Call) (asked : List ℕ)
      → came_to v e control' asked ≡ reading (held_of v e.lent) (read_file_of v.limit e.lent.edac asked)
  reads_files control' is e asked =
      in_application v.limit (code_of control') (held_of v e.lent) asked 0x07
      (reading (held_of v e.lent) (read_file_of v.limit e.lent.edac asked)) is mode refl

  -- Any READ FILE comes to what it came to before the WRITE FILE, with the body that was written last for each writable file that was written.
  pub a_read_file_after_a_write_file : (control' : ℕ) → code_of control' ≡ 0x07 → (asked : List ℕ) → Bytes asked
      → came_to v d control' asked
      ≡ showing (held_of v d.lent) (λ _. files_after (listed list) c.lent.edac asked) (came_to v (lending_edac d c.lent.edac) control' asked)
  a_read_file_after_a_write_file control' is asked small =
      reads_files control' is d asked
      ∙ ap (λ l. reading (held_of v d.lent) (read_file_of v.limit l asked)) its_edac
      ∙ ap (reading (held_of v d.lent))
      (files.a_read_file_after_a_write_file (met way).limit c.lent.edac list filed.reply (left_by way c).world.edac (edac_is_whole way source control list c sends)
      (each_a_byte list sends.bytes.1.1.1) filed.is v.limit asked (each_a_byte asked small))
      ∙ read_so (held_of v d.lent) (held_of v (lending_edac d c.lent.edac).lent) (λ _. files_after (listed list) c.lent.edac asked) (read_file_of v.limit c.lent.edac asked)
      ∙ ap (showing (held_of v d.lent) (λ _. files_after (listed list) c.lent.edac asked)) (sym (reads_files control' is (lending_edac d c.lent.edac) asked))

  -- A READ FILE of the files that were written, where its reply has room, is done, and answers what the WRITE FILE answered.
  pub files_that_were_written_are_read : length list ≤ v.limit → (reply : List ℕ) (after : Held) → came_to (met way) c control list ≡ done reply after → (control' : ℕ) → code_of control' ≡ 0x07
      → came_to v d control' (files_of (listed list)) ≡ done reply (held_of v d.lent)
  unfolding wrote_so
  files_that_were_written_are_read roomy reply after came control' is =
      let known = a_command_answered_so_was_done way source control list c sends was_done in
      let same : known.reply ≡ reply = replies_alike (sym known.is ∙ came) in
      reads_files control' is d (files_of (listed list))
      ∙ ap (λ l. reading (held_of v d.lent) (read_file_of v.limit l (files_of (listed list)))) its_edac
      ∙ ap (reading (held_of v d.lent))
      (files.what_was_written_is_read_back (met way).limit c.lent.edac list filed.reply (left_by way c).world.edac (edac_is_whole way source control list c sends)
      (each_a_byte list sends.bytes.1.1.1) filed.is v.limit roomy)
      ∙ ap (λ l. done l (held_of v d.lent)) same
