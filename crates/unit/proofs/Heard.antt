-- A call that is not refused, by what was heard: what it comes to, and where its answer is 0. Assumes nothing.
use mathlib.Core.Path.{◌≡◌, refl, sym, ap, ◌∙◌}
use mathlib.Core.Bool.{true, false, false≢true}
use mathlib.Core.List.{List}
use Prim.Native.Nat.{ℕ, ◌≤◌}
use native.Mathlib.Omega.{arith}
use lib.Dec.{ltb}
use lib.ListN.{get_or}
use Rattle.std.proofs.Common.{Option, Some, None, Ok}
use Rattle.line.specs.declared.receiver.Heard.{Heard}
use Rattle.line.specs.declared.receiver.Heard.TheVariants as heard
use Rattle.line.specs.Packing.{shortest_message}
use Rattle.ports.specs.declared.Side.{Side}
use Rattle.ports.specs.declared.Fate.{Fate}
use Rattle.ports.specs.declared.Both.{Both}
use Rattle.ports.specs.Sides.{side_of, of_side}
use Rattle.ports.specs.Ports.{Sending, answered_on, port_of, with_port, AfterByte, hear_of, closes_some}
use Rattle.ports.proofs.Sides.{put_there}
use Rattle.carrying.specs.Ending.{Ending, done, refused, unfitted, ended_of}
use Rattle.carrying.proofs.Room.{either_way}
use Rattle.answer.specs.declared.Answer.TheVariants.{Taken}
use Rattle.answer.specs.Answers.{number_of}
use Rattle.judging.specs.declared.Unit.{Unit}
use Rattle.judging.specs.declared.Verdict.{Verdict}
use Rattle.judging.specs.Fitting.{step_fit}
use Rattle.judging.specs.Judging.{largest_message, sound_of, command_on, run_of, verdict_of, with_ports, received_of, among_both, unless, judge_of}
use Rattle.replying.specs.Replies.{polls, saying, said_of, Said}
use Rattle.replying.specs.Ports.{is_lost, silent_of, SaidOn, said_on_of}
use Rattle.commanding.specs.World.{World, message_of, lengths_of, Outcome, outcome, with_messages, with_message}
use Rattle.commanding.specs.Commanded.{answered, commanded_of}
use Rattle.unit.specs.Steps.{served_of, step_of}

-- ---- what was heard

-- what the byte leaves of its port and its message buffer
abbrev pub heard_on : Unit → ℕ → ℕ → World → AfterByte
heard_on u number byte w = hear_of (largest_message u.limit) (port_of (side_of number) u.ports) byte (message_of (side_of number) w)

-- and the unit and what is lent, once it is received
abbrev pub unit_heard : Unit → ℕ → ℕ → World → Unit
unit_heard u number byte w = with_ports u (with_port (side_of number) u.ports (heard_on u number byte w).port)

abbrev pub world_heard : Unit → ℕ → ℕ → World → World
world_heard u number byte w = with_message (side_of number) w (heard_on u number byte w).message

-- what is heard comes to
abbrev served : Unit → Side → Heard → Sending → World → Outcome
served u side h sending w = served_of u (verdict_of (largest_message u.limit) u.strap side h (message_of side w)) sending (message_of side w) w

pub served_so : (u : Unit) (number byte : ℕ) (sending : Sending) (w : World) → step_fit u number (lengths_of w) ≡ Ok tt
    → step_of u number byte sending w ≡ served (unit_heard u number byte w) (side_of number) (heard_on u number byte w).heard sending (world_heard u number byte w)
unfolding step_of judge_of received_of
served_so u number byte sending w fits =
    let side = side_of number in
    let got = heard_on u number byte w in
    ap (λ f. let j = unless f u w.buffers.messages (among_both side w.buffers.messages (received_of u side byte (message_of side w))) in
    served_of j.unit j.verdict sending (of_side side j.message) (with_messages w j.message)) fits
    ∙ ap (λ m. served_of (unit_heard u number byte w) (verdict_of (largest_message u.limit) u.strap side got.heard m) sending (message_of side (world_heard u number byte w)) (world_heard u number byte w))
    (sym (put_there side w.buffers.messages got.message))

-- ---- where nothing is closed that is to be judged, the byte is only taken

pub quietly : (u : Unit) (side : Side) (sending : Sending) (w : World) (h : Heard) → closes_some h ≡ false → served u side h sending w ≡ outcome u Taken w
unfolding served_of verdict_of
quietly u side sending w heard.Taken none = refl
quietly u side sending w heard.Empty none = refl
quietly u side sending w heard.Framing none = let z : true ≡ false = none in absurd (false≢true (sym z))
quietly u side sending w (heard.Message count) none = let z : true ≡ false = none in absurd (false≢true (sym z))

-- ---- and where anything is, the answer is not 0

abbrev Loud : Outcome → Type 0
Loud o = 1 ≤ number_of o.answer

something_is_said : {M : Type 0} (destination source control : ℕ) (field : List ℕ) (ending : Ending M) (reply : List ℕ) → 1 ≤ number_of (said_of destination source control field ending reply).answer
unfolding said_of saying
something_is_said destination source control field (done bytes after) reply = either_way (λ (s : Said). 1 ≤ number_of s.answer) (polls control) _ _ (λ _. omega arith) (λ _. omega arith)
something_is_said destination source control field refused reply = either_way (λ (s : Said). 1 ≤ number_of s.answer) (polls control) _ _ (λ _. omega arith) (λ _. omega arith)
something_is_said destination source control field unfitted reply = omega arith

silently : {M : Type 0} (ending : Ending M) → 1 ≤ number_of (silent_of (ended_of ending))
silently (done bytes after) = omega arith
silently refused = omega arith
silently unfitted = omega arith

a_command_has_an_answer : {M : Type 0} (fate : Fate) (side : Side) (destination source control : ℕ) (field : List ℕ) (ending : Ending M) (replies : Both (List ℕ))
    → 1 ≤ number_of (said_on_of fate side destination source control field ending replies).answer
unfolding said_on_of
a_command_has_an_answer fate side destination source control field ending replies =
    either_way (λ (s : SaidOn). 1 ≤ number_of s.answer) (is_lost fate) _ _ (λ _. silently ending) (λ _. something_is_said destination source control field ending (of_side side replies))

module _ (u : Unit) (side : Side) (sending : Sending) (w : World) where
  abbrev Spoken : Verdict → Type 0
  Spoken v = Loud (served_of u v sending (message_of side w) w)

  by_address : (count : ℕ) (a : Option Side) → Spoken (command_on a count)
  unfolding served_of commanded_of answered
  by_address count (Some telemetry) = a_command_has_an_answer _ _ _ _ _ _ _ _
  by_address count None = omega arith

  by_its_tests : (count : ℕ) → Spoken (run_of (largest_message u.limit) u.strap side count (message_of side w))
  unfolding served_of run_of
  by_its_tests count =
      either_way Spoken (ltb count shortest_message) _ _ (λ _. omega arith)
      (λ _. either_way Spoken (ltb (largest_message u.limit) count) _ _ (λ _. omega arith)
      (λ _. either_way Spoken (sound_of count (message_of side w)) _ _ (λ _. by_address count (answered_on u.strap side (get_or (message_of side w) 0 0))) (λ _. omega arith)))

  pub loudly : (h : Heard) → closes_some h ≡ true → Loud (served u side h sending w)
  unfolding served_of verdict_of
  loudly heard.Taken some = let z : false ≡ true = some in absurd (false≢true z)
  loudly heard.Empty some = let z : false ≡ true = some in absurd (false≢true z)
  loudly heard.Framing some = omega arith
  loudly (heard.Message count) some = by_its_tests count
