-- What a command comes to when it is answered: with no reply, with one that is lost, or with one that leaves. Assumes nothing.
use mathlib.Core.Path.{◌≡◌, refl, ap, ◌∙◌}
use mathlib.Core.Bool.{Bool, true, false, cond, not, ◌&&◌}
use mathlib.Core.List.{List}
use Prim.Native.Nat.{ℕ}
use lib.ListN.{length}
use Rattle.line.specs.Packing.{packed_of}
use Rattle.memory.specs.Bytes.{begun}
use Rattle.memory.specs.Counts.{counted_up}
use Rattle.carrying.specs.Ending.{Ending, done, refused, unfitted, ended_of}
use Rattle.carrying.specs.Held.{Held, after}
use Rattle.command.specs.Cost.{command_cost}
use Rattle.answer.specs.declared.Answer.{Answer}
use Rattle.answer.specs.declared.Answer.TheVariants.{Acked, Done, Nacked, Refused, Unfitted}
use Rattle.answer.specs.Answers.{number_of}
use Rattle.ports.specs.declared.Side.{Side}
use Rattle.ports.specs.declared.Side.TheVariants.{Zero}
use Rattle.ports.specs.declared.Fate.{Fate}
use Rattle.ports.specs.declared.Fate.TheVariants.{Nothing, Lost, Leaves}
use Rattle.ports.specs.declared.Both.{Both}
use Rattle.ports.specs.Sides.{of_side, put}
use Rattle.ports.specs.Ports.{Ports, lost_count, settle_of}
use Rattle.judging.specs.declared.Unit.{Unit}
use Rattle.judging.specs.Judging.{with_ports}
use Rattle.replying.specs.Replies.{polls, code_of, reply_message, Said, saying, said_of}
use Rattle.replying.specs.Ports.{fate_of_reply, fate_of, silent_of, SaidOn, said_on, said_on_of}
use Rattle.commanding.specs.World.{World, Outcome, outcome, costing, with_standing, with_diagnostics, with_replies, held_of, with_held}
use Rattle.commanding.specs.Commanded.{leaves_on, answered}
use Rattle.ports.proofs.Sides.{put_back}

-- a command that is spoken of, done or refused: how it is answered aloud and silently, and the message of its reply
pub record Spoken (destination source control : ℕ) (field : List ℕ) (o : Ending Held) (aloud : ℕ → Answer) (silent : Answer) (message : List ℕ) : Type 0 where
  pub fate : (sending : Bool) → fate_of (ended_of o) control sending ≡ fate_of_reply control sending
  pub says : (reply : List ℕ) → said_of destination source control field o reply ≡ saying aloud silent control message reply
  pub silently : silent_of (ended_of o) ≡ silent

pub a_command_done : (destination source control : ℕ) (field bytes : List ℕ) (changed : Held)
    → Spoken destination source control field (done bytes changed) Acked Done (reply_message 1 destination source control bytes)
unfolding fate_of said_of
a_command_done destination source control field bytes changed = record { fate = λ sending. refl; says = λ reply. refl; silently = refl }

pub a_command_refused : (destination source control : ℕ) (field : List ℕ)
    → Spoken destination source control field refused Nacked Refused (reply_message 0 destination source control field)
unfolding fate_of said_of
a_command_refused destination source control field = record { fate = λ sending. refl; says = λ reply. refl; silently = refl }

module _ (u : Unit) (telemetry : Side) (sending : Bool) (destination source control : ℕ) (field : List ℕ) (w : World) (o : Ending Held) where
  -- what is held, what it cost, and the outcome by its ports, answer, reply buffers and diagnostics
  abbrev now : Held
  now = after (held_of u w) o

  abbrev cost : ℕ
  cost = command_cost (code_of control) (ended_of o) field

  abbrev pub left : Ports → Answer → Both (List ℕ) → List ℕ → Outcome
  left ports answer replies diagnostics =
      outcome (with_ports (with_standing u now.standing) ports) answer (with_diagnostics (with_replies (with_held w now) replies) diagnostics)

  by : Fate → SaidOn → Outcome
  by fate s =
      let settled = settle_of fate telemetry u.ports now.standing.diagnostics in
      costing cost (leaves_on fate telemetry) (left settled.ports s.answer s.replies settled.diagnostics)

  is_answered_by : (fate : Fate) (s : SaidOn) → fate_of (ended_of o) control sending ≡ fate → said_on_of fate telemetry destination source control field o w.buffers.replies ≡ s
      → answered u telemetry sending destination source control field o w ≡ by fate s
  unfolding answered by
  is_answered_by fate s f e =
      ap (λ x. by x (said_on_of x telemetry destination source control field o w.buffers.replies)) f ∙ ap (by fate) e

  module _ (aloud : ℕ → Answer) (silent : Answer) (message : List ℕ) (spoken : Spoken destination source control field o aloud silent message) where
    -- poll clear
    pub with_no_reply : polls control ≡ false
        → answered u telemetry sending destination source control field o w ≡ costing cost Zero (left u.ports silent w.buffers.replies now.standing.diagnostics)
    unfolding said_on_of saying settle_of by
    with_no_reply none =
        is_answered_by Nothing (said_on silent w.buffers.replies) (spoken.fate sending ∙ simp none)
        (ap (λ (s : Said). said_on s.answer (put telemetry w.buffers.replies s.reply))
        (spoken.says (of_side telemetry w.buffers.replies) ∙ simp none)
        ∙ ap (said_on silent) (put_back telemetry w.buffers.replies))

    -- poll set, and the port is sending
    pub with_a_lost_reply : polls control ≡ true → sending ≡ true
        → answered u telemetry sending destination source control field o w
        ≡ costing cost Zero (left u.ports silent w.buffers.replies (counted_up now.standing.diagnostics (lost_count telemetry)))
    unfolding said_on_of settle_of by
    with_a_lost_reply polled busy =
        is_answered_by Lost (said_on silent w.buffers.replies) (spoken.fate sending ∙ simp (polled, busy)) (ap (λ a. said_on a w.buffers.replies) spoken.silently)

    -- poll set, and the port is silent
    pub with_a_reply : polls control ≡ true → sending ≡ false
        → let settled = settle_of Leaves telemetry u.ports now.standing.diagnostics in
        answered u telemetry sending destination source control field o w
        ≡ costing cost telemetry
        (left settled.ports (aloud (length (packed_of message))) (put telemetry w.buffers.replies (begun (of_side telemetry w.buffers.replies) (packed_of message))) settled.diagnostics)
    unfolding said_on_of saying by
    with_a_reply polled busy =
        is_answered_by Leaves (said_on (aloud (length (packed_of message))) (put telemetry w.buffers.replies (begun (of_side telemetry w.buffers.replies) (packed_of message))))
        (spoken.fate sending ∙ simp (polled, busy))
        (ap (λ (s : Said). said_on s.answer (put telemetry w.buffers.replies s.reply))
        (spoken.says (of_side telemetry w.buffers.replies) ∙ simp polled))

-- an access to memory not fitted has no reply
pub with_nothing_fitted : (u : Unit) (telemetry : Side) (sending : Bool) (destination source control : ℕ) (field : List ℕ) (w : World)
    → answered u telemetry sending destination source control field unfitted w
    ≡ costing (command_cost (code_of control) (ended_of {M = Held} unfitted) field) Zero (left u telemetry sending destination source control field w unfitted u.ports Unfitted w.buffers.replies w.diagnostics)
unfolding said_on_of said_of settle_of fate_of by
with_nothing_fitted u telemetry sending destination source control field w =
    is_answered_by u telemetry sending destination source control field w unfitted Nothing (said_on Unfitted w.buffers.replies) refl
    (ap (said_on Unfitted) (put_back telemetry w.buffers.replies))

-- ---- the numbers

-- of one that is done or refused, by whether its reply leaves
module _ (u : Unit) (telemetry : Side) (sending : Bool) (destination source control : ℕ) (field : List ℕ) (w : World) (o : Ending Held) (aloud : ℕ → Answer) (silent : Answer) (message : List ℕ)
    (spoken : Spoken destination source control field o aloud silent message) (n m : ℕ) (one : (k : ℕ) → number_of (aloud k) ≡ n) (two : number_of silent ≡ m) where
  number_by : (p b : Bool) → polls control ≡ p → sending ≡ b → number_of (answered u telemetry sending destination source control field o w).answer ≡ cond (p && not b) n m
  number_by false b e f = ap (λ (x : Outcome). number_of x.answer) (with_no_reply u telemetry sending destination source control field w o aloud silent message spoken e) ∙ two
  number_by true true e f = ap (λ (x : Outcome). number_of x.answer) (with_a_lost_reply u telemetry sending destination source control field w o aloud silent message spoken e f) ∙ two
  number_by true false e f = ap (λ (x : Outcome). number_of x.answer) (with_a_reply u telemetry sending destination source control field w o aloud silent message spoken e f) ∙ one (length (packed_of message))

module _ (u : Unit) (telemetry : Side) (sending : Bool) (destination source control : ℕ) (field : List ℕ) (w : World) where
  pub the_number_of_one_done : (bytes : List ℕ) (changed : Held)
      → number_of (answered u telemetry sending destination source control field (done bytes changed) w).answer ≡ cond (polls control && not sending) 1 2
  the_number_of_one_done bytes changed =
      number_by u telemetry sending destination source control field w (done bytes changed) Acked Done _ (a_command_done destination source control field bytes changed) 1 2 (λ k. refl) refl (polls control) sending refl refl

  pub the_number_of_one_refused : number_of (answered u telemetry sending destination source control field refused w).answer ≡ cond (polls control && not sending) 3 4
  the_number_of_one_refused =
      number_by u telemetry sending destination source control field w refused Nacked Refused _ (a_command_refused destination source control field) 3 4 (λ k. refl) refl (polls control) sending refl refl

  pub the_number_of_one_unfitted : number_of (answered u telemetry sending destination source control field unfitted w).answer ≡ 10
  the_number_of_one_unfitted = ap (λ (x : Outcome). number_of x.answer) (with_nothing_fitted u telemetry sending destination source control field w)

-- a number by whether a reply leaves is one of two
pub one_of_two : (P : ℕ → Type 0) (b : Bool) (n m : ℕ) → P n → P m → P (cond b n m)
one_of_two P true n m p q = p
one_of_two P false n m p q = q
