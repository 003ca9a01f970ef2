-- `edac_commands::gather::show_range` meets its contract: the range itself, then its bytes. Assumes nothing.
use mathlib.Core.Path.{ap, ap₂, ◌∙◌}
use Prim.Native.Nat.{ℕ, ◌+◌}
use native.Mathlib.Omega.{arith}
use lib.ListN.{length, length-append}
use Rattle.memory.specs.Bytes.{stored, stretch}
use Rattle.memory.proofs.Stretches.{a_store_goes_on}
use Rattle.field.specs.Fields.{word16_at}
use Rattle.edac_commands.proofs.gather.show_range.Goals as goal

pub returns : goal.returns
returns c =
    let range = c.args.range.now in
    let edac = c.args.edac.now in
    let there = c.bytes_of-bytes.ensures ∙ ap₂ (λ (a n : ℕ). stretch a n edac) (c.from.ensures ∙ c.word16.ensures) (c.from-2.ensures ∙ c.word16-2.ensures) in
    let shown = stretch (word16_at range 0) (word16_at range 2) edac in
    let both = length-append range shown in
    let size = ap length there in (
      omega arith,
      c.put-2.ensures
          ∙ ap₂ (λ held l. stored held (c.args.place + length range) l) c.put.ensures there
          ∙ a_store_goes_on c.args.reply.now c.args.place range shown (omega arith),
    )
