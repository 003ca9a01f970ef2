-- Bytes that are only heard, and the one after them: what they come to one by one. Assumes nothing.
use mathlib.Core.Path.{◌≡◌, refl, sym, ap, ap₂, ◌∙◌, subst}
use mathlib.Core.Bool.{Bool, true, false, cond}
use mathlib.Core.List.{List, [], ◌∷◌}
use Prim.Native.Nat.{ℕ, suc, ◌+◌, ◌≤◌, ◌<◌}
use native.Mathlib.Omega.{arith}
use borrow.Author.Tests.{ne_eqb}
use lib.Dec.{eqb}
use lib.ListN.{length, get_or, drop, drop_of_length-le}
use lib.Seq.{drop-cons}
use Rattle.std.proofs.Common.{Ok, Err}
use Rattle.ports.specs.declared.Side.{Side}
use Rattle.ports.specs.declared.Side.TheVariants.{Zero, One}
use Rattle.ports.specs.declared.Port.{Port}
use Rattle.ports.specs.declared.Both.{Both}
use Rattle.ports.specs.Sides.{side_of, put}
use Rattle.ports.specs.Ports.{Ports, Sending, port_of, with_port, count_of, AfterByte}
use Rattle.ports.proofs.Sides.{put_there, put_back, put_over}
use Rattle.ports.proofs.Bytes.{heard_low, heard_long}
use Rattle.listening.specs.declared.Listened.{Listened}
use Rattle.listening.specs.Listening.{closes, Listening, listening, listening_of, listen_of, listen_on_of}
use Rattle.listening.proofs.Stopping.{what_a_byte_closes, a_count_stays_low, a_buffer_keeps_its_length, the_next_one_closes}
use Rattle.carrying.proofs.Limits.{within_both_ends}
use Rattle.answer.specs.declared.Answer.{Answer}
use Rattle.answer.specs.declared.Answer.TheVariants.{Taken}
use Rattle.answer.specs.Answers.{number_of}
use Rattle.judging.specs.declared.Unit.{Unit}
use Rattle.judging.specs.declared.Lengths.{Lengths}
use Rattle.judging.specs.Fitting.{largest_count, step_fit}
use Rattle.judging.specs.Judging.{largest_message, with_ports, judge_of}
use Rattle.judging.proofs.Serving.{a_served_record_is_sound, served_with_other_ports}
use Rattle.judging.proofs.Numbers.{a_refused_step_has_its_number}
use Rattle.commanding.specs.World.{World, message_of, lengths_of, Outcome, outcome, stepped_as, with_messages, with_message}
use Rattle.unit.specs.Steps.{served_of, step_of}
use Rattle.unit.proofs.Heard.{heard_on, unit_heard, world_heard, served_so, quietly, loudly}
use Rattle.streaming.specs.declared.Many.{Many}
use Rattle.streaming.specs.declared.Quiet.{Quiet}
use Rattle.streaming.specs.Streams.{Stream, stream, behind, stream_of, steps_of, taken_of, refused_of, Quieting, quieting, quieting_of, quietly_of}

behind_both : (n m : ℕ) (rest : Stream) → behind n (behind m rest) ≡ behind (n + m) rest
behind_both n m rest = let e : n + (m + rest.taken) ≡ n + m + rest.taken = omega arith in ap (λ (k : ℕ). stream k rest.last) e

behind_none : (rest : Stream) → behind 0 rest ≡ rest
behind_none rest = let e : 0 + rest.taken ≡ rest.taken = omega arith in ap (λ (k : ℕ). stream k rest.last) e

-- ---- lengths and ports

-- the lengths of what is lent, with other lengths of the message buffers
abbrev lengths_with : World → ℕ → ℕ → Lengths
lengths_with w message0 message1 = record {
  edac = length w.edac;
  bootloader = length w.frams.bootloader.fram;
  bootloader_sums = length w.frams.bootloader.sums;
  fram = length w.frams.user.fram;
  sums = length w.frams.user.sums;
  diagnostics = length w.diagnostics;
  message0 = message0;
  reply0 = length w.buffers.replies.port0;
  message1 = message1;
  reply1 = length w.buffers.replies.port1;
}

lengths_stay : (side : Side) (w : World) (message : List ℕ) → length message ≡ length (message_of side w) → lengths_of (with_message side w message) ≡ lengths_of w
lengths_stay Zero w message same = ap (λ (n : ℕ). lengths_with w n (length w.buffers.messages.port1)) same
lengths_stay One w message same = ap (λ (n : ℕ). lengths_with w (length w.buffers.messages.port0) n) same

-- a unit that serves goes on serving, with another port whose count is not refused and a message buffer of the same length
still_serves : (u : Unit) (number : ℕ) (w : World) (side : Side) (port : Port) (message : List ℕ) → step_fit u number (lengths_of w) ≡ Ok tt → count_of port ≤ largest_count
    → length message ≡ length (message_of side w) → step_fit (with_ports u (with_port side u.ports port)) number (lengths_of (with_message side w message)) ≡ Ok tt
still_serves u number w side port message fits few same =
    ap (step_fit (with_ports u (with_port side u.ports port)) number) (lengths_stay side w message same)
    ∙ served_with_other_ports u number (lengths_of w) (with_port side u.ports port) fits (low side)
  where
    low : (s t : Side) → count_of (port_of t (with_port s u.ports port)) ≤ largest_count
    low Zero Zero = few
    low Zero One = (a_served_record_is_sound u number (lengths_of w) fits).count_1
    low One Zero = (a_served_record_is_sound u number (lengths_of w) fits).count_0
    low One One = few

module _ (number : ℕ) (sending : Sending) where
  abbrev side : Side
  side = side_of number

  module _ (u : Unit) (w : World) (fits : step_fit u number (lengths_of w) ≡ Ok tt) where
    above : largest_message u.limit < largest_count
    above = omega (arith, (within_both_ends u.limit (a_served_record_is_sound u number (lengths_of w) fits).limit).1)

    few : (s : Side) → count_of (port_of s u.ports) ≤ largest_count
    few Zero = (a_served_record_is_sound u number (lengths_of w) fits).count_0
    few One = (a_served_record_is_sound u number (lengths_of w) fits).count_1

    a_quiet_byte : (byte : ℕ) → closes (port_of side u.ports) byte ≡ false → step_of u number byte sending w ≡ outcome (unit_heard u number byte w) Taken (world_heard u number byte w)
    a_quiet_byte byte none =
        served_so u number byte sending w fits
        ∙ quietly (unit_heard u number byte w) side sending (world_heard u number byte w) (heard_on u number byte w).heard
        (what_a_byte_closes (largest_message u.limit) (port_of side u.ports) byte (message_of side w) ∙ none)

    still_after_a_byte : (byte : ℕ) → step_fit (unit_heard u number byte w) number (lengths_of (world_heard u number byte w)) ≡ Ok tt
    still_after_a_byte byte =
        let largest = largest_message u.limit in
        still_serves u number w side (heard_on u number byte w).port (heard_on u number byte w).message fits
        (heard_low largest largest_count above (port_of side u.ports) byte (message_of side w) (few side)) (heard_long largest (port_of side u.ports) byte (message_of side w))

    a_closing_byte : (byte : ℕ) → closes (port_of side u.ports) byte ≡ true → 1 ≤ number_of (step_of u number byte sending w).answer
    a_closing_byte byte some =
        subst (λ (o : Outcome). 1 ≤ number_of o.answer) (sym (served_so u number byte sending w fits))
        (loudly (unit_heard u number byte w) side sending (world_heard u number byte w) (heard_on u number byte w).heard
        (what_a_byte_closes (largest_message u.limit) (port_of side u.ports) byte (message_of side w) ∙ some))

  -- ---- bytes one by one

  -- what listening leaves of the unit and of what is lent
  abbrev listened : Unit → List ℕ → World → Listening (List ℕ)
  listened u bytes w = listen_of (largest_message u.limit) (port_of side u.ports) bytes (message_of side w)

  abbrev rest : Unit → List ℕ → World → Port → ℕ → List ℕ → Stream
  rest u bytes w port taken message =
      behind taken (steps_of (with_ports u (with_port side u.ports port)) number (drop taken bytes) sending (with_message side w message))

  nothing_heard : (u : Unit) (bytes : List ℕ) (w : World) → steps_of u number bytes sending w ≡ rest u bytes w (port_of side u.ports) 0 (message_of side w)
  nothing_heard u bytes w =
      sym (behind_none _
      ∙ ap₂ (λ p m. steps_of (with_ports u p) number bytes sending (with_messages w m)) (put_back side u.ports) (put_back side w.buffers.messages))

  -- one byte that is only heard, before bytes of which this is known already
  one_heard : (byte : ℕ) (bytes : List ℕ) (u : Unit) (w : World) → step_fit u number (lengths_of w) ≡ Ok tt
      → let v = unit_heard u number byte w in
      let x = world_heard u number byte w in
      let got = listened v bytes x in steps_of v number bytes sending x ≡ rest v bytes x got.port got.taken got.message
      → let all = listened u (byte ∷ bytes) w in steps_of u number (byte ∷ bytes) sending w ≡ rest u (byte ∷ bytes) w all.port all.taken all.message
  one_heard byte bytes u w fits known = apart (closes (port_of side u.ports) byte) refl
    where
      got : AfterByte
      got = heard_on u number byte w

      next : Listening (List ℕ)
      next = listen_of (largest_message u.limit) got.port bytes got.message

      v : Unit
      v = unit_heard u number byte w

      x : World
      x = world_heard u number byte w

      same : listened v bytes x ≡ next
      same =
          ap₂ (λ p m. listen_of (largest_message u.limit) p bytes m) (put_there side u.ports got.port) (put_there side w.buffers.messages got.message)

      further : drop (1 + next.taken) (byte ∷ bytes) ≡ drop next.taken bytes
      further = let e : 1 + next.taken ≡ suc next.taken = omega arith in ap (λ (n : ℕ). drop n (byte ∷ bytes)) e

      apart : (b : Bool) → closes (port_of side u.ports) byte ≡ b
          → let all = cond b (listening (port_of side u.ports) 0 (message_of side w)) (listening next.port (1 + next.taken) next.message) in
          steps_of u number (byte ∷ bytes) sending w ≡ rest u (byte ∷ bytes) w all.port all.taken all.message
      apart true some = nothing_heard u (byte ∷ bytes) w
      apart false none =
          ap (λ (o : Outcome). cond (eqb (number_of o.answer) 0) (behind 1 (steps_of o.unit number bytes sending o.world)) (stream 1 o)) (a_quiet_byte u w fits byte none)
          ∙ ap (behind 1) known
          ∙ ap (λ (g : Listening (List ℕ)). behind 1 (rest v bytes x g.port g.taken g.message)) same
          ∙ behind_both 1 next.taken _
          ∙ ap₂ (λ p m. behind (1 + next.taken) (steps_of (with_ports u p) number (drop next.taken bytes) sending (with_messages w m)))
          (put_over side u.ports got.port next.port) (put_over side w.buffers.messages got.message next.message)
          ∙ ap (λ l. behind (1 + next.taken) (steps_of (with_ports u (with_port side u.ports next.port)) number l sending (with_message side w next.message))) (sym further)

  -- All of them are taken one by one, up to where listening stops.
  quiet_bytes : (bytes : List ℕ) (u : Unit) (w : World) → step_fit u number (lengths_of w) ≡ Ok tt
      → let got = listened u bytes w in steps_of u number bytes sending w ≡ rest u bytes w got.port got.taken got.message
  quiet_bytes [] u w fits = nothing_heard u [] w
  quiet_bytes (byte ∷ bytes) u w fits = one_heard byte bytes u w fits (quiet_bytes bytes (unit_heard u number byte w) (world_heard u number byte w) (still_after_a_byte u w fits byte))

  module _ (u : Unit) (bytes : List ℕ) (w : World) where
    -- a call that is refused
    pub a_refused_call : (answer : Answer) (many : Many) → step_fit u number (lengths_of w) ≡ Err answer → many ≡ refused_of u answer (length bytes) → stream_of many w ≡ steps_of u number bytes sending w
    unfolding step_of judge_of served_of
    a_refused_call answer many e is = ap (λ (r : Many). stream_of r w) is ∙ apart bytes
      where
        apart : (l : List ℕ) → stream_of (refused_of u answer (length l)) w ≡ steps_of u number l sending w
        apart [] = refl
        apart (byte ∷ l) =
            let high = a_refused_step_has_its_number u number (lengths_of w) answer e in
            let o : step_of u number byte sending w ≡ outcome u answer w = simp e in
            let loud = ne_eqb (number_of answer) 0 (λ z. omega (arith, high, z)) in
            ap (λ b. stream_of (cond b (taken_of u 0) (record { last = stepped_as u answer; taken = 1 })) w) (ne_eqb (length (byte ∷ l)) 0 (λ z. omega (arith, z)))
            ∙ sym (ap (λ (o : Outcome). cond (eqb (number_of o.answer) 0) (behind 1 (steps_of o.unit number l sending o.world)) (stream 1 o)) o
            ∙ ap (λ b. cond b (behind 1 (steps_of u number l sending w)) (stream 1 (outcome u answer w))) loud)

    -- one that is not
    module _ (fits : step_fit u number (lengths_of w) ≡ Ok tt) where
      abbrev quiet : Quieting
      quiet = quietly_of u number bytes w.buffers.messages

      -- The bytes that are only heard come first,
      heard_first : steps_of u number bytes sending w ≡ behind quiet.taken (steps_of quiet.unit number (drop quiet.taken bytes) sending (with_messages w quiet.messages))
      unfolding quietly_of
      heard_first = quiet_bytes bytes u w fits

      -- and the one after them has an answer other than 0.
      then_it_speaks : quiet.taken < length bytes → 1 ≤ number_of (step_of quiet.unit number (get_or bytes quiet.taken 0) sending (with_messages w quiet.messages)).answer
      unfolding quietly_of
      then_it_speaks some =
          let largest = largest_message u.limit in
          let got = listened u bytes w in
          let closing = the_next_one_closes largest bytes (port_of side u.ports) (message_of side w) some in
          a_closing_byte (with_ports u (with_port side u.ports got.port)) (with_message side w got.message)
          (still_serves u number w side got.port got.message fits (a_count_stays_low largest largest_count (above u w fits) bytes (port_of side u.ports) (message_of side w) (few u w fits side))
          (a_buffer_keeps_its_length largest bytes (port_of side u.ports) (message_of side w)))
          (get_or bytes got.taken 0)
          (ap (λ p. closes p (get_or bytes got.taken 0)) (put_there side u.ports got.port) ∙ closing)

      -- ---- the two ways in which it ends

      module _ (r : Quiet) (after : Both (List ℕ)) (is : quieting_of r after ≡ quiet) where
        pub up_to_an_answer : (o : Outcome) → r.taken < length bytes → o ≡ step_of r.unit number (get_or bytes r.taken 0) sending (with_messages w after)
            → stream (r.taken + 1) o ≡ steps_of u number bytes sending w
        up_to_an_answer o some e =
            sym (heard_first ∙ ap (λ (q : Quieting). behind q.taken (steps_of q.unit number (drop q.taken bytes) sending (with_messages w q.messages))) (sym is)
            ∙ ap (λ l. behind r.taken (steps_of r.unit number l sending (with_messages w after))) (drop-cons bytes r.taken 0 some)
            ∙ ap (λ b. behind r.taken (cond b (behind 1 (steps_of now.unit number (drop (suc r.taken) bytes) sending now.world)) (stream 1 now))) other
            ∙ ap (stream (r.taken + 1)) (sym e))
          where
            now : Outcome
            now = step_of r.unit number (get_or bytes r.taken 0) sending (with_messages w after)

            loud : 1 ≤ number_of now.answer
            loud =
                subst (λ (q : Quieting). q.taken < length bytes → 1 ≤ number_of (step_of q.unit number (get_or bytes q.taken 0) sending (with_messages w q.messages)).answer) (sym is) then_it_speaks some

            other : eqb (number_of now.answer) 0 ≡ false
            other = ne_eqb (number_of now.answer) 0 (λ z. omega (arith, loud, z))

        pub up_to_the_end : (many : Many) → length bytes ≤ r.taken → many ≡ taken_of r.unit r.taken → stream_of many (with_messages w after) ≡ steps_of u number bytes sending w
        up_to_the_end many none ends =
            ap (λ (x : Many). stream_of x (with_messages w after)) ends
            ∙ sym (heard_first ∙ ap (λ (q : Quieting). behind q.taken (steps_of q.unit number (drop q.taken bytes) sending (with_messages w q.messages))) (sym is)
            ∙ ap (λ l. behind r.taken (steps_of r.unit number l sending (with_messages w after))) (drop_of_length-le bytes none)
            ∙ ap (λ (n : ℕ). stream n (outcome r.unit Taken (with_messages w after))) (omega arith))

-- ---- the way through the bytes that are only heard

pub those_of_a_port : (u : Unit) (number : ℕ) (bytes : List ℕ) (messages : Both (List ℕ)) (side : Side) (port : Port) (r : Listened) (after : Both (List ℕ)) (ports : Ports)
    → side ≡ side_of number → port ≡ port_of side u.ports
    → listening_of r after ≡ listen_on_of side (largest_message u.limit) port bytes messages → ports ≡ with_port side u.ports r.port
    → quieting (with_ports u ports) r.taken after ≡ quietly_of u number bytes messages
unfolding quietly_of
those_of_a_port u number bytes messages side port r after ports is at heard put =
    ap (λ p. quieting (with_ports u p) r.taken after) put
    ∙ ap (λ (g : Listening (Both (List ℕ))). quieting (with_ports u (with_port side u.ports g.port)) g.taken g.message)
    (heard ∙ ap (λ p. listen_on_of side (largest_message u.limit) p bytes messages) at)
    ∙ ap (λ s. let got = listen_on_of s (largest_message u.limit) (port_of s u.ports) bytes messages in
    quieting (with_ports u (with_port s u.ports got.port)) got.taken got.message) is

-- the limit of a call that is not refused
pub no_longer_than_any : (u : Unit) (number : ℕ) (l : Lengths) → step_fit u number l ≡ Ok tt → u.limit ≤ 1028
no_longer_than_any u number l fits = (within_both_ends u.limit (a_served_record_is_sound u number l fits).limit).1
