-- The cases of a call, once for all demands: what holds of each of them holds of every call. Assumes nothing.
use mathlib.Core.Path.{◌≡◌, refl, subst}
use mathlib.Core.Bool.{Bool, false, ◌&&◌}
use mathlib.Core.Logic.{inl, inr}
use mathlib.Core.List.{List}
use Prim.Native.Nat.{ℕ, ◌+◌, ◌-◌, ◌≤◌, ◌<◌}
use native.Mathlib.Omega.{arith}
use borrow.Author.Tests.{ltb-false}
use lib.Dec.{ltb}
use lib.ListN.{length, drop, get_or}
use Rattle.std.proofs.Common.{Option, Some, None, Ok, Err}
use Rattle.line.specs.declared.receiver.Heard.{Heard}
use Rattle.line.specs.declared.receiver.Heard.TheVariants as heard
use Rattle.line.specs.Packing.{shortest_message}
use Rattle.ports.specs.declared.Side.{Side}
use Rattle.ports.specs.Sides.{side_of, of_side}
use Rattle.ports.specs.Ports.{Sending, answered_on, first_count, is_sending}
use Rattle.ports.proofs.Sides.{put_there}
use Rattle.judging.proofs.Numbers.{of_any_length}
use Rattle.memory.specs.Bytes.{stretch}
use Rattle.memory.specs.Counts.{counted_up}
use Rattle.carrying.specs.Ending.{is_limit}
use Rattle.carrying.proofs.Room.{either_way, part}
use Rattle.answer.specs.declared.Answer.{Answer}
use Rattle.answer.specs.declared.Answer.TheVariants.{Taken, Framing, Runt, Oversize, BadCrc, Elsewhere, BadLimit}
use Rattle.answer.specs.Answers.{number_of, sent_of}
use Rattle.judging.specs.declared.Unit.{Unit}
use Rattle.judging.specs.declared.Lengths.{Lengths}
use Rattle.judging.specs.declared.Verdict.{Verdict}
use Rattle.judging.specs.Fitting.{Fit, fram_fits, limit_fit, set_up_fit, step_fit}
use Rattle.judging.specs.Judging.{largest_message, sound_of, command_on, run_of, verdict_of, received_of, among_both, unless, judge_of}
use Rattle.command.specs.Command.{is_locking}
use Rattle.replying.specs.Replies.{code_of}
use Rattle.commanding.specs.World.{World, message_of, lengths_of, Outcome, outcome, with_messages, with_diagnostics}
use Rattle.commanding.specs.Commanded.{ordered_of, commanded_of}
use Rattle.unit.specs.Steps.{served_of, step_of}
use Rattle.unit.proofs.Heard.{heard_on, unit_heard, world_heard}
use Rattle.demands.specs.Calls.{comes_to}
use Rattle.demands.specs.Locking.{locks_by, locks}
use Rattle.demands.specs.Leaving.{SetUpRefusal}

-- ---- a call that is not refused

-- a byte taken, a message that is not heard here, a dropped run with its number and its diagnostic, and a command with the address and the control that
-- the message buffer of the byte's port has, heard there, with data of legal length; and of each whether it locks bootloader FRAM
pub record Each (P : Bool → Outcome → Type 0) (u : Unit) (side : Side) (sending : Sending) (w : World) : Type 0 where
  pub taken : P false (outcome u Taken w)
  pub elsewhere : P false (outcome u Elsewhere w)
  pub dropped : (answer : Answer) (which : ℕ) → number_of answer ≡ 5 + which → which < 4 → sent_of answer ≡ 0
      → P false (outcome u answer (with_diagnostics w (counted_up w.diagnostics (first_count side + which))))
  pub commanded : (telemetry : Side) (destination source control : ℕ) (field : List ℕ) → destination ≡ get_or (message_of side w) 0 0 → control ≡ get_or (message_of side w) 2 0
      → answered_on u.strap side destination ≡ Some telemetry → length field ≤ u.limit
      → P (is_locking (code_of control) u.mode field) (ordered_of u telemetry (is_sending telemetry sending) destination source control field w)

module _ (P : Bool → Outcome → Type 0) (u : Unit) (side : Side) (sending : Sending) (w : World) (each : Each P u side sending w) where
  abbrev Served : Verdict → Type 0
  Served v = P (locks_by u v (message_of side w)) (served_of u v sending (message_of side w) w)

  of_any_message : (count : ℕ) → count ≤ largest_message u.limit → (a : Option Side) → answered_on u.strap side (get_or (message_of side w) 0 0) ≡ a → Served (command_on a count)
  unfolding served_of commanded_of
  of_any_message count within (Some telemetry) is =
      let short = part (count - 5) (drop 3 (message_of side w)) in
      each.commanded telemetry _ _ _ (stretch 3 (count - 5) (message_of side w)) refl refl is (omega (arith, short, within))
  of_any_message count within None is = each.elsewhere

  of_any_run : (count : ℕ) → Served (run_of (largest_message u.limit) u.strap side count (message_of side w))
  unfolding served_of run_of
  of_any_run count =
      either_way Served (ltb count shortest_message) _ _ (λ _. each.dropped Runt 1 refl (omega arith) refl)
      (λ _. either_way Served (ltb (largest_message u.limit) count) _ _ (λ _. each.dropped Oversize 2 refl (omega arith) refl)
      (λ within. either_way Served (sound_of count (message_of side w)) _ _
      (λ _. of_any_message count (ltb-false (largest_message u.limit) count within) (answered_on u.strap side (get_or (message_of side w) 0 0)) refl)
      (λ _. each.dropped BadCrc 3 refl (omega arith) refl)))

  pub of_anything_heard : (h : Heard)
      → P (locks_by u (verdict_of (largest_message u.limit) u.strap side h (message_of side w)) (message_of side w)) (comes_to u side h sending w)
  unfolding served_of verdict_of
  of_anything_heard heard.Taken = each.taken
  of_anything_heard heard.Empty = each.taken
  of_anything_heard heard.Framing = each.dropped Framing 0 refl (omega arith) refl
  of_anything_heard (heard.Message count) = of_any_run count

-- ---- any call

pub of_any_call : (P : Bool → Outcome → Type 0) (u : Unit) (number byte : ℕ) (sending : Sending) (w : World)
    → ((answer : Answer) → step_fit u number (lengths_of w) ≡ Err answer → P false (outcome u answer w))
    → (step_fit u number (lengths_of w) ≡ Ok tt → Each P (unit_heard u number byte w) (side_of number) sending (world_heard u number byte w))
    → P (locks u number byte w) (step_of u number byte sending w)
unfolding step_of locks judge_of received_of served_of
of_any_call P u number byte sending w refused served = apart (step_fit u number (lengths_of w)) refl
  where
    apart : (f : Fit) → step_fit u number (lengths_of w) ≡ f
        → let side = side_of number in
        let j = unless f u w.buffers.messages (among_both side w.buffers.messages (received_of u side byte (message_of side w))) in
        P (locks_by j.unit j.verdict (of_side side j.message)) (served_of j.unit j.verdict sending (of_side side j.message) (with_messages w j.message))
    apart (Err answer) e = refused answer e
    apart (Ok _) e =
        let side = side_of number in
        let got = heard_on u number byte w in
        let v = unit_heard u number byte w in
        let lent = world_heard u number byte w in
        subst (λ (m : List ℕ). let verdict = verdict_of (largest_message u.limit) u.strap side got.heard m in P (locks_by v verdict (message_of side lent)) (served_of v verdict sending (message_of side lent) lent))
        (put_there side w.buffers.messages got.message) (of_anything_heard P v side sending lent (served e) got.heard)

-- ---- the number of a refused set-up

-- of set-up 20 to 25, or 29
abbrev Refuses : ℕ → Fit → Type 0
Refuses limit (Ok _) = 0 ≤ 0
Refuses limit (Err answer) = SetUpRefusal limit (number_of answer)

pub a_refused_set_up_has_its_number : (strap limit : ℕ) (l : Lengths) (answer : Answer) → set_up_fit strap limit l ≡ Err answer → SetUpRefusal limit (number_of answer)
unfolding set_up_fit
a_refused_set_up_has_its_number strap limit l answer e =
    subst (Refuses limit) e
    (of_any_length (Refuses limit) strap (fram_fits l.bootloader && fram_fits l.fram) l (limit_fit limit) (λ answer low high. inl (low, high))
    (either_way (Refuses limit) (is_limit limit) (Ok tt) (Err BadLimit) (λ _. omega arith) (λ none. inr (refl, none))))

pub a_refused_set_up_is_no_0 : (limit number : ℕ) → SetUpRefusal limit number → number ≡ 0 → ⊥
a_refused_set_up_is_no_0 limit number (inl between) none = let low = between.0 in omega arith
a_refused_set_up_is_no_0 limit number (inr is) none = let high = is.0 in omega arith
