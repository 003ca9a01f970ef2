-- One law for each way through a closed run, a received byte and a judged one. Assumes nothing.
use mathlib.Core.Path.{◌≡◌, sym, ap, ◌∙◌}
use mathlib.Core.Bool.{true, false}
use mathlib.Core.List.{List}
use Prim.Native.Nat.{ℕ, ◌≤◌, ◌<◌}
use native.Mathlib.Omega.{arith}
use borrow.Author.Tests.{lt-ltb, le-ltb}
use lib.ListN.{length, get_or}
use Rattle.std.proofs.Common.{Ok, Err}
use Rattle.line.specs.Packing.{shortest_message, message_size}
use Rattle.ports.specs.declared.Side.{Side}
use Rattle.ports.specs.declared.Side.TheVariants.{Zero, One}
use Rattle.ports.specs.declared.GotOn.{GotOn}
use Rattle.ports.specs.declared.Both.{Both}
use Rattle.ports.specs.Sides.{side_of, both, of_side, put}
use Rattle.ports.specs.Ports.{port_of, with_port, hear_of, AfterByteOn, hearing_on, hear_on_of}
use Rattle.ports.proofs.Sides.{put_there}
use Rattle.answer.specs.declared.Answer.{Answer}
use Rattle.answer.specs.declared.Answer.TheVariants.{Runt, Oversize, BadCrc}
use Rattle.judging.specs.declared.Unit.{Unit}
use Rattle.judging.specs.declared.Lengths.{Lengths}
use Rattle.judging.specs.declared.Verdict.{Verdict}
use Rattle.judging.specs.declared.Verdict.TheVariants.{Quiet}
use Rattle.judging.specs.Fitting.{step_fit}
use Rattle.judging.specs.Judging.{judging, dropped, largest_message, sound_of, heard_for, run_of, verdict_of, with_ports, received_of, among_both, judge_of}

module _ (largest strap : ℕ) (side : Side) (count : ℕ) (message : List ℕ) where
  pub a_runt : count < shortest_message → dropped side Runt 1 ≡ run_of largest strap side count message
  unfolding run_of
  a_runt short = simp (lt-ltb count shortest_message short)

  module _ (enough : shortest_message ≤ count) where
    pub an_oversize : largest < count → dropped side Oversize 2 ≡ run_of largest strap side count message
    unfolding run_of
    an_oversize long = simp (le-ltb count shortest_message enough, lt-ltb largest count long)

    module _ (fits : count ≤ largest) where
      pub a_bad_crc : sound_of count message ≡ false → dropped side BadCrc 3 ≡ run_of largest strap side count message
      unfolding run_of
      a_bad_crc bad = simp (le-ltb count shortest_message enough, le-ltb largest count fits, bad)

      pub a_sound_message : sound_of count message ≡ true → heard_for strap side (get_or message 0 0) count ≡ run_of largest strap side count message
      unfolding run_of
      a_sound_message sound = sym (simp (le-ltb count shortest_message enough, le-ltb largest count fits, sound))

-- a call refused, and one that is not
pub refused_quietly : (u : Unit) (number byte : ℕ) (l : Lengths) (messages : Both (List ℕ)) (answer : Answer) → step_fit u number l ≡ Err answer
    → judging u (Quiet answer) messages ≡ judge_of u number byte l messages
unfolding judge_of
refused_quietly u number byte l messages answer e = simp e

-- a byte heard on a port, with the verdict on what was heard
pub received_and_judged : (u : Unit) (number byte : ℕ) (l : Lengths) (messages : Both (List ℕ)) (side : Side) (r : GotOn) (after : Both (List ℕ)) (message : List ℕ) (v : Verdict) → step_fit u number l ≡ Ok tt → side ≡ side_of number
    → hearing_on r.ports r.heard after ≡ hear_on_of side (largest_message u.limit) u.ports byte messages
    → message ≡ of_side side after
    → v ≡ verdict_of (largest_message u.limit) u.strap side r.heard message
    → judging (with_ports u r.ports) v after ≡ judge_of u number byte l messages
unfolding judge_of received_of
received_and_judged u number byte l messages side r after message v e is h m says =
    let largest = largest_message u.limit in
    let got = hear_of largest (port_of side u.ports) byte (of_side side messages) in
    ap (λ x. judging (with_ports u r.ports) x after) (says ∙ ap (verdict_of largest u.strap side r.heard) m)
    ∙ ap (λ (g : AfterByteOn). judging (with_ports u g.ports) (verdict_of largest u.strap side g.heard (of_side side g.messages)) g.messages) h
    ∙ ap (λ x. judging (with_ports u (with_port side u.ports got.port)) (verdict_of largest u.strap side got.heard x) (put side messages got.message))
    (put_there side messages got.message)
    ∙ sym (simp e (ap (λ s. among_both s messages (received_of u s byte (of_side s messages))) (sym is)))

-- the message buffer of a port is as long as those that were lent
pub long_enough_of : (side : Side) (lent0 lent1 : ℕ) (left0 left1 message : List ℕ) → ((s : Side) → message_size ≤ of_side s (both lent0 lent1)) → length left0 ≡ lent0 → length left1 ≡ lent1
    → message ≡ of_side side (both left0 left1) → message_size ≤ length message
long_enough_of Zero lent0 lent1 left0 left1 message fits zero one is = omega (arith, fits Zero, zero, ap length is)
long_enough_of One lent0 lent1 left0 left1 message fits zero one is = omega (arith, fits One, one, ap length is)
