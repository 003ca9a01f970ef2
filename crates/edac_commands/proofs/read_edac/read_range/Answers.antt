-- `edac_commands::read_edac::read_range` meets its contract, with the reply in two pieces. Assumes nothing.
use mathlib.Core.Path.{sym, ap, ◌∙◌}
use Prim.Native.Nat.{ℕ}
use native.Mathlib.Omega.{arith}
use Rattle.memory.specs.Edac.{inside_edac}
use Rattle.carrying.proofs.Writing.{it_is_done, address_then_bytes, length_of_address_then_bytes}
use Rattle.edac_commands.specs.ReadEdac.{read_edac_range_of}
use Rattle.edac_commands.proofs.Ways.{edac_read_inside, it_is_inside_edac}
use Rattle.edac_commands.proofs.read_edac.read_range.Goals as goal

pub returns : goal.returns
returns c =
    let a = c.args in
    let at = c.from-at.result in
    let size = c.from-size.result in
    let address = c.from-at.ensures ∙ c.word16-address.ensures in
    let inside = ap (λ (n : ℕ). inside_edac n size) c.from-at.ensures ∙ sym c.holds.ensures ∙ c.if-not-holds.false in
    let ends = it_is_inside_edac at size inside in
    it_is_done _ _ _ _ _ tt tt
    (ap (read_edac_range_of a.room a.edac.now a.field.now) (sym c.from-size.ensures) ∙ edac_read_inside a.room a.edac.now a.field.now size c.if-size-eq0.false c.if-room-size.false at address inside)
    (length_of_address_then_bytes 2 a.field.now a.edac.now at size (omega arith) (omega arith))
    (address_then_bytes 2 a.field.now a.edac.now a.reply.now _ _ at size (omega arith) c.put.ensures c.put-2.ensures)
