-- Many bytes in one call of `wheel_steps` are the same bytes by calls of `wheel_step`, one by one. Assumes nothing.
use mathlib.Core.Path.{◌≡◌, refl, sym, ap, ◌∙◌}
use mathlib.Core.Bool.{Bool, true, false, cond, false≢true}
use mathlib.Core.List.{List, [], ◌∷◌}
use Prim.Native.Nat.{ℕ, suc}
use native.Mathlib.Omega.{arith}
use borrow.Author.Tests.{eq-eqb, eqb-true}
use lib.Dec.{eqb}
use lib.ListN.{length, take}
use Rattle.carrying.proofs.Room.{either_way}
use Rattle.ports.specs.Ports.{Sending}
use Rattle.ports.specs.declared.Side.TheVariants.{Zero}
use Rattle.answer.specs.declared.Answer.{Answer}
use Rattle.answer.specs.declared.Answer.TheVariants.{Taken, Acked, Done, Nacked, Refused, Framing, Runt, Oversize, BadCrc, Elsewhere, Unfitted, BadStrap, BadEdac, BadFram, BadSums, BadDiagnostics, BadBuffers, BadCount, BadPort, BadLimit}
use Rattle.answer.specs.Answers.{number_of}
use Rattle.judging.specs.declared.Unit.{Unit}
use Rattle.commanding.specs.World.{World, Outcome, outcome}
use Rattle.unit.specs.Steps.{step_of}
use Rattle.streaming.specs.Streams.{Stream, stream, behind, steps_of}
use Rattle.demands.specs.Leaving.{has_reply}
use Rattle.demands.proofs.DemandOne.{what_every_answer_leaves}
use Rattle.demands.proofs.Costing.{what_every_answer_costs}
use Rattle.face.specs.declared.WheelUnit.{WheelUnit}
use Rattle.face.specs.declared.WheelStepped.{WheelStepped}
use Rattle.face.specs.Records.{sending_in, unit_in, unit_out, stepped_out, ReturnedMany}
use Rattle.face.proofs.Settled.{a_record_comes_back}
use Rattle.c_demands.specs.FromC.{FromC, Follow, OnOneEdac}
use Rattle.c_demands.specs.Many.{ManyFromC, StepsMany, one_of, ones_of, InARow, AllLike, bytes_of, AllTaken, nothing_yet, last_back, last_left, OneByOne, steppings}

-- ---- a byte that is only taken

of_number_0 : (a : Answer) → number_of a ≡ 0 → a ≡ Taken
of_number_0 Taken e = refl
of_number_0 (Acked n) e = absurd (omega arith)
of_number_0 Done e = absurd (omega arith)
of_number_0 (Nacked n) e = absurd (omega arith)
of_number_0 Refused e = absurd (omega arith)
of_number_0 Framing e = absurd (omega arith)
of_number_0 Runt e = absurd (omega arith)
of_number_0 Oversize e = absurd (omega arith)
of_number_0 BadCrc e = absurd (omega arith)
of_number_0 Elsewhere e = absurd (omega arith)
of_number_0 Unfitted e = absurd (omega arith)
of_number_0 BadStrap e = absurd (omega arith)
of_number_0 BadEdac e = absurd (omega arith)
of_number_0 BadFram e = absurd (omega arith)
of_number_0 BadSums e = absurd (omega arith)
of_number_0 BadDiagnostics e = absurd (omega arith)
of_number_0 BadBuffers e = absurd (omega arith)
of_number_0 BadCount e = absurd (omega arith)
of_number_0 BadPort e = absurd (omega arith)
of_number_0 BadLimit e = absurd (omega arith)

-- Where a byte answers 0 there is nothing in the outcome but the unit and what is lent.
only_taken : (u : Unit) (number byte : ℕ) (sending : Sending) (w : World) → let o = step_of u number byte sending w in number_of o.answer ≡ 0 → o ≡ outcome o.unit Taken o.world
only_taken u number byte sending w none =
    let o = step_of u number byte sending w in
    let silent : has_reply (number_of o.answer) ≡ false = ap has_reply none in
    let free : o.cost ≡ 0 = (what_every_answer_costs u number byte sending w).nothing_unless_a_command_is_done (λ one. omega (arith, none, one)) (λ two. omega (arith, none, two)) in
    let nowhere : o.port ≡ Zero = (what_every_answer_leaves u number byte sending w).on_no_port silent in
    rw (of_number_0 o.answer none, free, nowhere)

-- ---- one by one

module _ (m : ManyFromC) where
  abbrev sending : Sending
  sending = sending_in m.sending0 m.sending1

  abbrev streamed : WheelUnit → List ℕ → World → Stream
  streamed v bytes w = steps_of (unit_in v) m.port bytes sending w

  abbrev stepped : Outcome → WheelStepped
  stepped o = stepped_out o.unit o.answer o.cost o.port

  -- what the calls one by one come to
  record Comes (v : WheelUnit) (bytes : List ℕ) (w : World) (calls : List FromC) (s : Stream) : Type 0 where
    many : length calls ≡ s.taken
    their : bytes_of calls ≡ take (length calls) bytes
    all : s.last.answer ≡ Taken → length calls ≡ length bytes
    given : last_back (nothing_yet v) calls ≡ stepped s.last
    there : last_left w calls ≡ s.last.world

  one_more : (v : WheelUnit) (byte : ℕ) (bytes : List ℕ) (w : World)
      → let c = one_of v m byte w in Comes c.back.unit bytes c.left (ones_of c.back.unit m bytes c.left) (streamed c.back.unit bytes c.left)
      → Comes v (byte ∷ bytes) w (ones_of v m (byte ∷ bytes) w) (streamed v (byte ∷ bytes) w)
  one_more v byte bytes w rest = apart (eqb (number_of o.answer) 0) refl
    where
      o : Outcome
      o = step_of (unit_in v) m.port byte sending w

      next : WheelUnit
      next = unit_out o.unit

      calls : List FromC
      calls = ones_of next m bytes o.world

      same : streamed next bytes o.world ≡ steps_of o.unit m.port bytes sending o.world
      same = ap (λ (u : Unit). steps_of u m.port bytes sending o.world) (a_record_comes_back o.unit)

      apart : (b : Bool) → eqb (number_of o.answer) 0 ≡ b
          → Comes v (byte ∷ bytes) w (one_of v m byte w ∷ cond b calls []) (cond b (behind 1 (steps_of o.unit m.port bytes sending o.world)) (stream 1 o))
      apart false e = record {
        many = refl;
        their = refl;
        all = λ taken. let z : eqb (number_of o.answer) 0 ≡ true = eq-eqb (number_of o.answer) 0 (ap number_of taken) in absurd (false≢true (sym e ∙ z));
        given = refl;
        there = refl;
      }
      apart true e =
          let none = eqb-true (number_of o.answer) 0 e in
          let taken = only_taken (unit_in v) m.port byte sending w none in
          let read : stepped o ≡ nothing_yet next
          = ap stepped taken ∙ ap (λ (u : Unit). record { unit = unit_out u; sent = 0; answer = 0; port = 0; cost = 0 }) (sym (a_record_comes_back o.unit)) in
          record {
            many = let n = rest.many ∙ ap (λ (s : Stream). s.taken) same in omega (arith, n);
            their = ap (λ (l : List ℕ). byte ∷ l) rest.their;
            all = λ last. let n = rest.all (ap (λ (s : Stream). s.last.answer) same ∙ last) in ap suc n;
            given = ap (λ (b : WheelStepped). last_back b calls) read ∙ rest.given ∙ ap (λ (s : Stream). stepped s.last) same;
            there = rest.there ∙ ap (λ (s : Stream). s.last.world) same;
          }

  one_by_one : (bytes : List ℕ) (v : WheelUnit) (w : World) → Comes v bytes w (ones_of v m bytes w) (streamed v bytes w)
  one_by_one [] v w = record { many = refl; their = refl; all = λ _. refl; given = refl; there = refl }
  one_by_one (byte ∷ bytes) v w = one_more v byte bytes w (let c = one_of v m byte w in one_by_one bytes c.back.unit c.left)

  -- each is a call of `wheel_step`
  each_a_call : (bytes : List ℕ) (v : WheelUnit) (w : World) → InARow v w (ones_of v m bytes w)
  each_a_call [] v w = tt
  each_a_call (byte ∷ bytes) v w =
      let c = one_of v m byte w in (refl, refl, either_way (InARow c.back.unit c.left) (eqb c.back.answer 0) _ _ (λ _. each_a_call bytes c.back.unit c.left) (λ _. tt))

  -- on its port, with the same ports sending
  each_like_it : (bytes : List ℕ) (v : WheelUnit) (w : World) → AllLike m (ones_of v m bytes w)
  each_like_it [] v w = tt
  each_like_it (byte ∷ bytes) v w =
      let c = one_of v m byte w in (refl, refl, refl, either_way (AllLike m) (eqb c.back.answer 0) _ _ (λ _. each_like_it bytes c.back.unit c.left) (λ _. tt))

  -- and all answer 0, but for the last
  all_but_the_last : (bytes : List ℕ) (v : WheelUnit) (w : World) → AllTaken (ones_of v m bytes w)
  all_but_the_last [] v w = tt
  all_but_the_last (byte ∷ bytes) v w =
      let c = one_of v m byte w in
      either_way (λ calls. AllTaken (c ∷ calls)) (eqb c.back.answer 0) _ _
      (λ none. before_more c (eqb-true c.back.answer 0 none) (ones_of c.back.unit m bytes c.left) (all_but_the_last bytes c.back.unit c.left)) (λ _. tt)
    where
      before_more : (c : FromC) → c.back.answer ≡ 0 → (calls : List FromC) → AllTaken calls → AllTaken (c ∷ calls)
      before_more c none [] rest = tt
      before_more c none (d ∷ calls) rest = (none, rest)

-- What a call of `wheel_steps` takes, gives back and leaves is what calls of `wheel_step` with its bytes one by one do, each with the record and all that
-- is lent as the one before left them, up to the first answer other than 0.
pub many_bytes_from_c_are_bytes_one_by_one : (u : WheelUnit) (m : ManyFromC) → StepsMany u m → OneByOne u m (ones_of u m m.bytes m.lent)
many_bytes_from_c_are_bytes_one_by_one u m is =
    let comes = one_by_one m m.bytes u m.lent in
    let taken : m.back.taken ≡ (streamed m u m.bytes m.lent).taken = ap (λ (r : ReturnedMany). r.many.taken) is in
    let many = comes.many ∙ sym taken in
    record {
      in_a_row = each_a_call m m.bytes u m.lent;
      all_like_it = each_like_it m m.bytes u m.lent;
      how_many_are = many;
      their_bytes = comes.their ∙ ap (λ (n : ℕ). take n m.bytes) many;
      taken_but_for_the_last = all_but_the_last m m.bytes u m.lent;
      up_to_an_answer = λ none. sym many ∙ comes.all (of_number_0 _ (sym (ap (λ (r : ReturnedMany). r.many.last.answer) is) ∙ none));
      back = ap (λ (r : ReturnedMany). r.many.last) is ∙ sym comes.given;
      left = ap (λ (r : ReturnedMany). r.world) is ∙ sym comes.there;
    }

-- One byte in a call of `wheel_steps` is a call of `wheel_step`.
pub one_byte_in_a_call_of_many : (u : WheelUnit) (m : ManyFromC) (byte : ℕ) → m.bytes ≡ byte ∷ [] → StepsMany u m
    → let c = one_of u m byte m.lent in (m.back.last ≡ c.back) × (m.left ≡ c.left) × (m.back.taken ≡ 1)
one_byte_in_a_call_of_many u m byte alone is =
    let ones = many_bytes_from_c_are_bytes_one_by_one u m is in
    let c = one_of u m byte m.lent in
    let calls = ap (λ (l : List ℕ). ones_of u m l m.lent) alone ∙ either_way (λ (l : List FromC). c ∷ l ≡ c ∷ []) (eqb c.back.answer 0) [] [] (λ _. refl) (λ _. refl) in
    (ones.back ∙ ap (last_back (nothing_yet u)) calls, ones.left ∙ ap (last_left m.lent) calls, sym ones.how_many_are ∙ ap length calls)

-- So what is proved of calls that follow one another (demand 3, T-07), and of calls on one EDAC memory (T-02, T-11), is proved of it.
pub calls_in_a_row_follow : (calls : List FromC) (u : WheelUnit) (w : World) → InARow u w calls → Follow u w.frams calls
calls_in_a_row_follow [] u w row = tt
calls_in_a_row_follow (c ∷ calls) u w row = (ap (λ (x : World). x.frams) row.0, row.1, calls_in_a_row_follow calls c.back.unit c.left row.2)

pub calls_in_a_row_are_on_one_edac : (calls : List FromC) (u : WheelUnit) (w : World) → InARow u w calls → OnOneEdac w.edac (steppings u calls)
calls_in_a_row_are_on_one_edac [] u w row = tt
calls_in_a_row_are_on_one_edac (c ∷ calls) u w row = (ap (λ (x : World). x.edac) row.0, row.1, calls_in_a_row_are_on_one_edac calls c.back.unit c.left row.2)
