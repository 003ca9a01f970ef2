-- One law for each way through the two calls. Assumes nothing.
use mathlib.Core.Path.{◌≡◌, refl, sym, ap, ap₂, ◌∙◌, subst}
use mathlib.Core.Bool.{Bool}
use mathlib.Core.List.{List}
use Prim.Native.Nat.{ℕ}
use Rattle.std.proofs.Common.{Ok, Err}
use Rattle.memory.specs.Counts.{counted_up}
use Rattle.memory.specs.Status.{status_written}
use Rattle.blocks.specs.Fram.{kept, fresh_sums}
use Rattle.carrying.specs.Held.{frams}
use Rattle.answer.specs.declared.Answer.{Answer}
use Rattle.answer.specs.declared.Answer.TheVariants.{Taken}
use Rattle.ports.specs.declared.Side.{Side}
use Rattle.ports.specs.declared.Both.{Both}
use Rattle.ports.specs.Sides.{side_of, of_side}
use Rattle.ports.specs.Ports.{Ports, Sending, both_fresh, is_sending}
use Rattle.judging.specs.declared.Unit.{Unit}
use Rattle.judging.specs.declared.Judged.{Judged}
use Rattle.judging.specs.declared.Verdict.{Verdict}
use Rattle.judging.specs.declared.Verdict.TheVariants.{Quiet, Dropped, Command}
use Rattle.judging.specs.Fitting.{Fit, set_up_fit}
use Rattle.judging.specs.Judging.{Judging, with_ports, judging_of, judge_of}
use Rattle.judging.proofs.Serving.{Guaranteed, what_a_verdict_guarantees}
use Rattle.commanding.specs.World.{World, lengths_of, Outcome, outcome, with_frams, with_messages, with_diagnostics}
use Rattle.commanding.specs.Commanded.{commanded_of}
use Rattle.unit.specs.Steps.{nobody, somebody, set_up_of, served_of, step_of}

-- what is not refused is served
pub served_where_not_refused : (fit : Fit) → ((answer : Answer) → fit ≡ Err answer → ⊥) → fit ≡ Ok tt
served_where_not_refused (Ok _) never = refl
served_where_not_refused (Err answer) never = absurd (never answer refl)

pub set_up_refused : (strap limit : ℕ) (locked : Bool) (w : World) (ports : Ports) (answer : Answer) → set_up_fit strap limit (lengths_of w) ≡ Err answer → ports ≡ both_fresh
    → outcome (with_ports nobody ports) answer w ≡ set_up_of strap limit locked w
unfolding set_up_of
set_up_refused strap limit locked w ports answer e fresh = simp e (ap (λ p. outcome (with_ports nobody p) answer w) fresh)

pub set_up_served : (strap limit : ℕ) (locked : Bool) (w : World) (ports : Ports) (bootloaders users diagnostics : List ℕ) → set_up_fit strap limit (lengths_of w) ≡ Ok tt
    → ports ≡ both_fresh
    → bootloaders ≡ fresh_sums w.frams.bootloader.fram → users ≡ fresh_sums w.frams.user.fram → diagnostics ≡ status_written locked w.diagnostics
    → outcome (with_ports (somebody strap limit locked w) ports) Taken
    (with_diagnostics (with_frams w (frams (kept w.frams.bootloader.fram bootloaders) (kept w.frams.user.fram users))) diagnostics)
    ≡ set_up_of strap limit locked w
unfolding set_up_of
set_up_served strap limit locked w ports bootloaders users diagnostics e fresh b u d = simp (e, b, u, d, fresh)

-- a byte that was judged
module _ (u : Unit) (number byte : ℕ) (sending : Sending) (w : World) (r : Judged) (messages : Both (List ℕ))
    (e : judging_of r messages ≡ judge_of u number byte (lengths_of w) w.buffers.messages) where
  pub guaranteed_by : (v : Verdict) → r.verdict ≡ v → Guaranteed r.unit.limit (lengths_of w) v
  guaranteed_by v k =
      subst (Guaranteed r.unit.limit (lengths_of w)) k
      (subst (λ (j : Judging (Both (List ℕ))). Guaranteed j.unit.limit (lengths_of w) j.verdict) (sym e) (what_a_verdict_guarantees u number byte (lengths_of w) w.buffers.messages))

  served_as : (v : Verdict) → r.verdict ≡ v → served_of r.unit v sending (of_side (side_of number) messages) (with_messages w messages) ≡ step_of u number byte sending w
  unfolding step_of
  served_as v k =
      ap (λ x. served_of r.unit x sending (of_side (side_of number) messages) (with_messages w messages)) (sym k)
      ∙ ap (λ (j : Judging (Both (List ℕ))). served_of j.unit j.verdict sending (of_side (side_of number) j.message) (with_messages w j.message)) e

  pub an_answer_alone : (answer : Answer) → r.verdict ≡ Quiet answer → outcome r.unit answer (with_messages w messages) ≡ step_of u number byte sending w
  unfolding served_of
  an_answer_alone answer k = served_as (Quiet answer) k

  pub a_drop_is_counted : (answer : Answer) (channel : ℕ) (diagnostics : List ℕ) → r.verdict ≡ Dropped answer channel
      → diagnostics ≡ counted_up w.diagnostics channel
      → outcome r.unit answer (with_diagnostics (with_messages w messages) diagnostics) ≡ step_of u number byte sending w
  unfolding served_of
  a_drop_is_counted answer channel diagnostics k d =
      ap (λ x. outcome r.unit answer (with_diagnostics (with_messages w messages) x)) d ∙ served_as (Dropped answer channel) k

  -- the message buffer of the byte's port, and whether the telemetry port is sending
  pub a_command_is_served : (count : ℕ) (telemetry side : Side) (busy : Bool) (message : List ℕ) (o : Outcome) → r.verdict ≡ Command count telemetry → side ≡ side_of number
      → message ≡ of_side side messages → busy ≡ is_sending telemetry sending
      → o ≡ commanded_of r.unit telemetry busy count message (with_messages w messages) → o ≡ step_of u number byte sending w
  unfolding served_of
  a_command_is_served count telemetry side busy message o k at is says c =
      c
      ∙ ap₂ (λ (b : Bool) (m : List ℕ). commanded_of r.unit telemetry b count m (with_messages w messages)) says (is ∙ ap (λ s. of_side s messages) at)
      ∙ served_as (Command count telemetry) k
