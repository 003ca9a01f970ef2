-- What any byte keeps of a port: a count below a bound, and the length of the message buffer. Assumes nothing.
use mathlib.Core.Path.{◌≡◌, refl}
use mathlib.Core.Bool.{Bool, true, false, cond}
use mathlib.Core.List.{List, [], ◌∷◌}
use Prim.Native.Nat.{ℕ, ◌≤◌, ◌<◌}
use native.Mathlib.Omega.{arith}
use lib.Dec.{eqb}
use lib.ListN.{length}
use Rattle.line.specs.Framing.{fend}
use Rattle.line.specs.declared.receiver.Heard.TheVariants as heard
use Rattle.line.specs.Receiver.{opened}
use Rattle.line.proofs.Bounds.{the_count_never_passes_a_bound_above_the_largest, the_buffer_keeps_its_length}
use Rattle.ports.specs.declared.Port.{Port}
use Rattle.ports.specs.declared.Port.TheVariants.{Hearing, Throwing}
use Rattle.ports.specs.Ports.{count_of, AfterByte, hearing, hear_of}

-- of a run that is thrown away, what holds of its FEND and of any other byte
of_a_thrown_byte : (P : AfterByte → Type 0) (count byte : ℕ) (message : List ℕ) → P (hearing (Hearing opened) heard.Empty message) → P (hearing (Throwing count) heard.Taken message)
    → (b : Bool) → P (cond b (hearing (Hearing opened) heard.Empty message) (hearing (Throwing count) heard.Taken message))
of_a_thrown_byte P count byte message shut thrown true = shut
of_a_thrown_byte P count byte message shut thrown false = thrown

pub heard_low : (largest bound : ℕ) → largest < bound → (port : Port) (byte : ℕ) (message : List ℕ) → count_of port ≤ bound → count_of (hear_of largest port byte message).port ≤ bound
unfolding hear_of
heard_low largest bound above (Hearing r) byte message low = the_count_never_passes_a_bound_above_the_largest largest bound above (byte ∷ []) r message low
heard_low largest bound above (Throwing count) byte message low =
    of_a_thrown_byte (λ (h : AfterByte). count_of h.port ≤ bound) count byte message (omega arith) low (eqb byte fend)

pub heard_long : (largest : ℕ) (port : Port) (byte : ℕ) (message : List ℕ) → length (hear_of largest port byte message).message ≡ length message
unfolding hear_of
heard_long largest (Hearing r) byte message = the_buffer_keeps_its_length largest (byte ∷ []) r message
heard_long largest (Throwing count) byte message = of_a_thrown_byte (λ (h : AfterByte). length h.message ≡ length message) count byte message refl refl (eqb byte fend)
