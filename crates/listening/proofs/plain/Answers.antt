-- `listening::plain` meets its contract: at each turn one byte of the run is taken (`Along`). Assumes nothing.
use mathlib.Core.Path.{sym, ◌∙◌}
use native.Mathlib.Omega.{arith}
use Rattle.listening.proofs.Going.{a_plain_byte_more}
use Rattle.listening.proofs.plain.Goals as goal

pub loop-taken-preserved : goal.loop-taken-preserved
loop-taken-preserved c =
    a_plain_byte_more _ _ _ _ _ _ _ c.receive-count.result _ c.loop-taken.invariant (omega arith) (sym c.is_plain.ensures ∙ c.if-not-is_plain.false) c.receive-count.ensures
