-- Bytes as they come, on either port: 02, T-01. Assumes nothing.
use Rattle.std.specs.Prelude.{ℕ, List, [], ◌∷◌}
use Rattle.answer.specs.declared.Answer.TheVariants.{Taken}
use Rattle.ports.specs.Ports.{Sending}
use Rattle.judging.specs.declared.Unit.{Unit}
use Rattle.commanding.specs.World.{World, Outcome, outcome}
use Rattle.unit.specs.Steps.{step_of}

-- The number of the port, the byte, and which ports are sending when it comes.
pub record Arrival : Type 0 where
  pub port : ℕ
  pub byte : ℕ
  pub sending : Sending

-- What it comes to on a unit.
abbrev pub arriving : Unit → Arrival → World → Outcome
arriving u a w = step_of u a.port a.byte a.sending w

-- Bytes one after the other, where record and all that is lent pass from call to call: what the last one leaves. (Of no bytes the answer means nothing.)
abbrev pub fed_all : Unit → World → List Arrival → Outcome
fed_all u w [] = outcome u Taken w
fed_all u w (a ∷ arrivals) = let o = arriving u a w in fed_all o.unit o.world arrivals
