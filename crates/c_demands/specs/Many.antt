-- A call of `wheel_steps`, and the calls of `wheel_step` that it stands for. 01, "One byte in, one answer out". Assumes nothing.
use Rattle.std.specs.Prelude.{ℕ, ◌≡◌, cond, List, [], ◌∷◌, eqb, length, take}
use Rattle.commanding.specs.World.{World}
use Rattle.unit.specs.Steps.{step_of}
use Rattle.streaming.specs.Streams.{steps_of}
use Rattle.face.specs.declared.WheelUnit.{WheelUnit}
use Rattle.face.specs.declared.WheelStepped.{WheelStepped}
use Rattle.face.specs.declared.WheelMany.{WheelMany}
use Rattle.face.specs.Records.{sending_in, unit_in, unit_out, returned_by, returned_many, returned_many_by}
use Rattle.c_demands.specs.FromC.{FromC, Steps, AnyFromC, stepping}

-- A call of `wheel_steps`, apart from its record: the port, the bytes, whether each port was sending, what was lent, what came back, and what was lent as
-- the call left it.
pub record ManyFromC : Type 0 where
  pub port : ℕ
  pub bytes : List ℕ
  pub sending0 : ℕ
  pub sending1 : ℕ
  pub lent : World
  pub back : WheelMany
  pub left : World

-- What the contract of `wheel_steps` says of a call with this record (crates/board/src/lib.rt).
abbrev pub StepsMany : WheelUnit → ManyFromC → Type 0
StepsMany u m = returned_many m.back m.left ≡ returned_many_by (steps_of (unit_in u) m.port m.bytes (sending_in m.sending0 m.sending1) m.lent)

-- A call of `wheel_step` with this byte, as its contract has it.
abbrev pub one_of : WheelUnit → ManyFromC → ℕ → World → FromC
one_of u m byte w =
    let r = returned_by (step_of (unit_in u) m.port byte (sending_in m.sending0 m.sending1) w) in
    record { port = m.port; byte = byte; sending0 = m.sending0; sending1 = m.sending1; lent = w; back = r.stepped; left = r.world }

-- Calls of `wheel_step` with these bytes, on the same port and with the same ports sending, each with the record that the one before gave back and with
-- all that is lent as the one before left it, up to the first that answers something other than 0.
abbrev pub ones_of : WheelUnit → ManyFromC → List ℕ → World → List FromC
ones_of u m [] w = []
ones_of u m (byte ∷ bytes) w = let c = one_of u m byte w in c ∷ cond (eqb c.back.answer 0) (ones_of c.back.unit m bytes c.left) []

-- Each of some calls is one of `wheel_step`, lent what the one before left.
abbrev pub InARow : WheelUnit → World → List FromC → Type 0
InARow u w [] = Prim.Unit {0}
InARow u w (c ∷ calls) = (c.lent ≡ w) × Steps u c × InARow c.back.unit c.left calls

-- Each is on the port of a call of `wheel_steps`, with the same ports sending.
abbrev pub AllLike : ManyFromC → List FromC → Type 0
AllLike m [] = Prim.Unit {0}
AllLike m (c ∷ calls) = (c.port ≡ m.port) × (c.sending0 ≡ m.sending0) × (c.sending1 ≡ m.sending1) × AllLike m calls

-- Their bytes.
abbrev pub bytes_of : List FromC → List ℕ
bytes_of [] = []
bytes_of (c ∷ calls) = c.byte ∷ bytes_of calls

-- Every answer but that of the last is 0.
abbrev pub AllTaken : List FromC → Type 0
AllTaken [] = Prim.Unit {0}
AllTaken (c ∷ []) = Prim.Unit {0}
AllTaken (c ∷ d ∷ calls) = (c.back.answer ≡ 0) × AllTaken (d ∷ calls)

-- What the last of them gave back, and all that was lent as it left it; of none the record as it is read, and 0.
abbrev pub nothing_yet : WheelUnit → WheelStepped
nothing_yet u = record { unit = unit_out (unit_in u); sent = 0; answer = 0; port = 0; cost = 0 }

abbrev pub last_back : WheelStepped → List FromC → WheelStepped
last_back before [] = before
last_back before (c ∷ calls) = last_back c.back calls

abbrev pub last_left : World → List FromC → World
last_left before [] = before
last_left before (c ∷ calls) = last_left c.left calls

-- What a call of `wheel_steps` is, by some calls of `wheel_step`.
pub record OneByOne (u : WheelUnit) (m : ManyFromC) (calls : List FromC) : Type 0 where
  pub in_a_row : InARow u m.lent calls
  pub all_like_it : AllLike m calls
  pub how_many_are : length calls ≡ m.back.taken
  pub their_bytes : bytes_of calls ≡ take m.back.taken m.bytes
  pub taken_but_for_the_last : AllTaken calls
  pub up_to_an_answer : m.back.last.answer ≡ 0 → m.back.taken ≡ length m.bytes
  pub back : m.back.last ≡ last_back (nothing_yet u) calls
  pub left : m.left ≡ last_left m.lent calls

-- Such calls as those that T-02 and T-11 speak of, each with its record.
abbrev pub steppings : WheelUnit → List FromC → List AnyFromC
steppings u [] = []
steppings u (c ∷ calls) = stepping u c ∷ steppings c.back.unit calls
