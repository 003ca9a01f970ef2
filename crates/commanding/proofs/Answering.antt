-- From what a handler leaves to the answer. Assumes nothing.
use mathlib.Core.Path.{◌≡◌, refl, sym, ap, ap₂, ◌∙◌, subst}
use mathlib.Core.Bool.{Bool}
use mathlib.Core.List.{List, ◌++◌, append_assoc}
use Prim.Native.Nat.{ℕ, ◌+◌, ◌-◌, ◌≤◌}
use native.Mathlib.Omega.{arith}
use lib.ListN.{length, take, drop, length-append, length-drop}
use lib.Seq.{take_at, drop_at, length-take-le}
use Rattle.memory.specs.Bytes.{stretch, begun}
use Rattle.std.proofs.Common.{Ok, Err, IfOk}
use Rattle.carrying.specs.declared.CommandError.TheVariants as failed
use Rattle.carrying.specs.Ending.{longest_data, Ended, Ending, done, refused, unfitted, Left, left, leaves}
use Rattle.carrying.specs.Held.{Held}
use Rattle.command.specs.Cost.{command_cost}
use Rattle.ports.specs.declared.Side.{Side}
use Rattle.ports.specs.declared.Fate.{Fate}
use Rattle.ports.specs.declared.Fate.TheVariants.{Nothing, Lost, Leaves}
use Rattle.ports.specs.Ports.{Ports, Settlement, settlement, settle_of}
use Rattle.judging.specs.declared.Unit.{Unit}
use Rattle.judging.specs.Judging.{with_ports}
use Rattle.replying.specs.Replies.{code_of, said_of, ending_of}
use Rattle.replying.specs.Ports.{fate_of, SaidOn, said_on_of}
use Rattle.commanding.specs.World.{World, Outcome, outcome, costing, with_standing, with_diagnostics, with_replies, held_of, with_held}
use Rattle.commanding.specs.Commanded.{leaves_on, answered}

-- the scratch with the handler's part of it back in its place
abbrev pub refilled : List ℕ → List ℕ → List ℕ
refilled made part = take 3 made ++ (part ++ drop longest_data (drop 3 made))

the_data_stands : (made part bytes : List ℕ) → 3 ≤ length made → stretch 3 (length bytes) (refilled made (begun part bytes)) ≡ bytes
unfolding begun
the_data_stands made part bytes h =
    ap (take (length bytes))
    (drop_at (take 3 made) (begun part bytes ++ drop longest_data (drop 3 made)) 3 (length-take-le 3 made h)
    ∙ append_assoc bytes (drop (length bytes) part) (drop longest_data (drop 3 made)))
    ∙ take_at bytes (drop (length bytes) part ++ drop longest_data (drop 3 made)) (length bytes) refl

module _ (u : Unit) (telemetry : Side) (sending : Bool) (w : World) (destination source control : ℕ) (field made part : List ℕ) (h : 3 ≤ length made) where
  -- an outcome by what was said, what became of the reply, and what is held
  composed : ℕ → Side → SaidOn → Settlement → Held → Outcome
  composed cost port s settled changed =
      costing cost port
      (outcome (with_ports (with_standing u changed.standing) settled.ports) s.answer
      (with_diagnostics (with_replies (with_held w changed) s.replies) settled.diagnostics))

  answering : Left Held → Outcome
  answering l =
      let fate = fate_of l.ended control sending in
      composed (command_cost (code_of control) l.ended field) (leaves_on fate telemetry)
      (said_on_of fate telemetry destination source control field (ending_of l.ended (refilled made l.reply)) w.buffers.replies)
      (settle_of fate telemetry u.ports l.memory.standing.diagnostics) l.memory

  -- what is said does not turn on what is held
  the_same_is_said : (fate : Fate) (bytes : List ℕ) (changed : Held)
      → said_on_of fate telemetry destination source control field (done bytes (tt {0})) w.buffers.replies
      ≡ said_on_of fate telemetry destination source control field (done bytes changed) w.buffers.replies
  unfolding said_on_of said_of
  the_same_is_said Nothing bytes changed = refl
  the_same_is_said Lost bytes changed = refl
  the_same_is_said Leaves bytes changed = refl

  a_refusal_said : (fate : Fate)
      → said_on_of {M = Prim.Unit {0}} fate telemetry destination source control field refused w.buffers.replies
      ≡ said_on_of {M = Held} fate telemetry destination source control field refused w.buffers.replies
  unfolding said_on_of said_of
  a_refusal_said Nothing = refl
  a_refusal_said Lost = refl
  a_refusal_said Leaves = refl

  nothing_fitted_said : (fate : Fate)
      → said_on_of {M = Prim.Unit {0}} fate telemetry destination source control field unfitted w.buffers.replies
      ≡ said_on_of {M = Held} fate telemetry destination source control field unfitted w.buffers.replies
  unfolding said_on_of said_of
  nothing_fitted_said Nothing = refl
  nothing_fitted_said Lost = refl
  nothing_fitted_said Leaves = refl

  leaves_the_answer : (o : Ending Held) → answering (leaves o part (held_of u w)) ≡ answered u telemetry sending destination source control field o w
  unfolding answering composed answered
  leaves_the_answer (done bytes changed) =
      let fate = fate_of (Ok (length bytes)) control sending in
      ap (λ s. composed (command_cost (code_of control) (Ok (length bytes)) field) (leaves_on fate telemetry) s (settle_of fate telemetry u.ports changed.standing.diagnostics) changed)
      (ap (λ d. said_on_of fate telemetry destination source control field (done d (tt {0})) w.buffers.replies) (the_data_stands made part bytes h) ∙ the_same_is_said fate bytes changed)
  leaves_the_answer refused =
      let fate = fate_of (Err failed.Refused) control sending in
      ap (λ s. composed (command_cost (code_of control) (Err failed.Refused) field) (leaves_on fate telemetry) s (settle_of fate telemetry u.ports w.diagnostics) (held_of u w)) (a_refusal_said fate)
  leaves_the_answer unfitted =
      let fate = fate_of (Err failed.Unfitted) control sending in
      ap (λ s. composed (command_cost (code_of control) (Err failed.Unfitted) field) (leaves_on fate telemetry) s (settle_of fate telemetry u.ports w.diagnostics) (held_of u w)) (nothing_fitted_said fate)

  pub the_command_is_answered : (o : Ending Held) (s : SaidOn) (cost : ℕ) (port : Side) (fate : Fate) (ports : Ports) (diagnostics : List ℕ) (ended : Ended) (back : List ℕ) (changed : Held)
      → left ended back changed ≡ leaves o part (held_of u w)
      → fate ≡ fate_of ended control sending
      → s ≡ said_on_of fate telemetry destination source control field (ending_of ended (refilled made back)) w.buffers.replies
      → cost ≡ command_cost (code_of control) ended field
      → settlement ports diagnostics ≡ settle_of fate telemetry u.ports changed.standing.diagnostics
      → port ≡ leaves_on fate telemetry
      → costing cost port
      (outcome (with_ports (with_standing u changed.standing) ports) s.answer (with_diagnostics (with_replies (with_held w changed) s.replies) diagnostics))
      ≡ answered u telemetry sending destination source control field o w
  unfolding answering composed
  the_command_is_answered o s cost port fate ports diagnostics ended back changed e f k n settles on =
      ap₂ (λ (m : ℕ) (p : Side). composed m p s (settlement ports diagnostics) changed) n on
      ∙ ap₂ (λ (x : SaidOn) (y : Settlement). composed (command_cost (code_of control) ended field) (leaves_on fate telemetry) x y changed) k settles
      ∙ ap (λ (x : Fate). composed (command_cost (code_of control) ended field) (leaves_on x telemetry)
      (said_on_of x telemetry destination source control field (ending_of ended (refilled made back)) w.buffers.replies) (settle_of x telemetry u.ports changed.standing.diagnostics) changed) f
      ∙ ap answering e
      ∙ leaves_the_answer o

length_of_begun : (part bytes : List ℕ) → length (begun part bytes) ≡ length bytes + (length part - length bytes)
unfolding begun
length_of_begun part bytes = simp (length-append, length-drop)

-- a reply's data has room
pub the_data_has_room : (o : Ending Held) (ended : Ended) (part back : List ℕ) (changed before : Held) → left ended back changed ≡ leaves o part before
    → length part ≡ longest_data → length back ≡ longest_data → IfOk ended (λ n. n ≤ longest_data)
the_data_has_room (done bytes x) ended part back changed before e size kept =
    let written : back ≡ begun part bytes = ap (λ l. l.reply) e in
    let room : length bytes ≤ longest_data = omega (arith, ap length written, length_of_begun part bytes) in
    subst (λ r. IfOk r (λ n. n ≤ longest_data)) (sym (ap (λ l. l.ended) e)) room
the_data_has_room refused ended part back changed before e size kept = subst (λ r. IfOk r (λ n. n ≤ longest_data)) (sym (ap (λ l. l.ended) e)) tt
the_data_has_room unfitted ended part back changed before e size kept = subst (λ r. IfOk r (λ n. n ≤ longest_data)) (sym (ap (λ l. l.ended) e)) tt
