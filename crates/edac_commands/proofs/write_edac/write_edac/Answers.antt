-- `edac_commands::write_edac::write_edac` meets its contract, with the reply in two pieces. Assumes nothing.
use mathlib.Core.Path.{sym, ap, ◌∙◌}
use Prim.Native.Nat.{ℕ, ◌-◌}
use lib.ListN.{length}
use Rattle.memory.specs.Edac.{inside_edac}
use Rattle.edac_commands.proofs.Ways.{edac_is_written}
use Rattle.edac_commands.proofs.write_edac.write_edac.Goals as goal

pub returns : goal.returns
returns c =
    let a = c.args in
    let inside = ap (λ (n : ℕ). inside_edac n (length a.field.now - 2)) c.from-at.ensures ∙ sym c.holds.ensures ∙ c.if-not-holds.false in
    edac_is_written a.room a.edac.now a.field.now c.if-size-lt3.false c.if-room-size.false c.from-at.result (c.from-at.ensures ∙ c.word16-address.ensures) _ _ _ a.reply.now
    inside c.requires.1 c.store.ensures c.put.ensures c.put-2.ensures
