-- 02, T-01: which ports are sending decides what becomes of a reply, and nothing else. Assumes nothing.
use mathlib.Core.Path.{◌≡◌, refl, sym, ap, ◌∙◌}
use mathlib.Core.Bool.{Bool, not, ◌&&◌}
use mathlib.Core.List.{List}
use Prim.Native.Nat.{ℕ}
use Rattle.carrying.specs.Ending.{Ending, done, refused, unfitted}
use Rattle.carrying.specs.Held.{Held}
use Rattle.answer.specs.Answers.{number_of}
use Rattle.ports.specs.declared.Side.{Side}
use Rattle.ports.specs.Sides.{side_of, of_side}
use Rattle.ports.specs.Ports.{Sending, is_sending}
use Rattle.judging.specs.declared.Unit.{Unit}
use Rattle.judging.specs.declared.Verdict.{Verdict}
use Rattle.judging.specs.declared.Verdict.TheVariants.{Quiet, Dropped, Command}
use Rattle.judging.specs.Judging.{judge_of}
use Rattle.replying.specs.Replies.{polls}
use Rattle.commanding.specs.World.{World, lengths_of, with_messages}
use Rattle.commanding.specs.Commanded.{answered, commanded_of}
use Rattle.unit.specs.Steps.{served_of, step_of}
use Rattle.demands.specs.Leaving.{without_reply, AlikeButForReplies}
use Rattle.demands.proofs.Answers.{the_number_of_one_done, the_number_of_one_refused, the_number_of_one_unfitted, one_of_two}

-- a command that is answered, by what becomes of its reply
module _ (u : Unit) (telemetry : Side) (destination source control : ℕ) (field : List ℕ) (w : World) where
  said_alike : (o : Ending Held) (s t : Bool)
      → AlikeButForReplies (answered u telemetry s destination source control field o w) (answered u telemetry t destination source control field o w)
  unfolding answered
  said_alike o s t = record { answer = number o s ∙ sym (number o t); cost = refl; memory = (refl, refl); messages = refl; record_but_its_ports = refl }
    where
      -- what the answer would be if nothing were sent
      silent : Ending Held → ℕ
      silent (done reply changed) = 2
      silent refused = 4
      silent unfitted = 10

      number : (o : Ending Held) (s : Bool) → without_reply (number_of (answered u telemetry s destination source control field o w).answer) ≡ silent o
      number (done reply changed) s =
          ap without_reply (the_number_of_one_done u telemetry s destination source control field w reply changed) ∙ one_of_two (λ (n : ℕ). without_reply n ≡ 2) (polls control && not s) 1 2 refl refl
      number refused s =
          ap without_reply (the_number_of_one_refused u telemetry s destination source control field w) ∙ one_of_two (λ (n : ℕ). without_reply n ≡ 4) (polls control && not s) 3 4 refl refl
      number unfitted s = ap without_reply (the_number_of_one_unfitted u telemetry s destination source control field w)

served_alike : (u : Unit) (v : Verdict) (s t : Sending) (message : List ℕ) (w : World) → AlikeButForReplies (served_of u v s message w) (served_of u v t message w)
unfolding served_of commanded_of
served_alike u (Quiet answer) s t message w = record { answer = refl; cost = refl; memory = (refl, refl); messages = refl; record_but_its_ports = refl }
served_alike u (Dropped answer channel) s t message w = record { answer = refl; cost = refl; memory = (refl, refl); messages = refl; record_but_its_ports = refl }
served_alike u (Command count telemetry) s t message w = said_alike u telemetry _ _ _ _ w _ (is_sending telemetry s) (is_sending telemetry t)

-- Whatever two things a call is told of who is sending, its two outcomes are alike in memory, mode, lock, message buffers and cost, and in the answer, but that
-- 1 may be 2 and 3 may be 4.
pub sending_touches_replies_alone : (u : Unit) (number byte : ℕ) (s t : Sending) (w : World) → AlikeButForReplies (step_of u number byte s w) (step_of u number byte t w)
unfolding step_of
sending_touches_replies_alone u number byte s t w =
    let j = judge_of u number byte (lengths_of w) w.buffers.messages in
    served_alike j.unit j.verdict s t (of_side (side_of number) j.message) (with_messages w j.message)
