-- The number of a refusal. Assumes nothing.
use mathlib.Core.Path.{◌≡◌, subst}
use mathlib.Core.Bool.{Bool, ◌||◌}
use Prim.Native.Nat.{ℕ, ◌≤◌}
use native.Mathlib.Omega.{arith}
use lib.Dec.{eqb, leb, ltb}
use Rattle.std.proofs.Common.{Ok, Err}
use Rattle.memory.specs.Counts.{channels}
use Rattle.memory.specs.Edac.{edac_size}
use Rattle.ports.specs.Ports.{count_of}
use Rattle.carrying.specs.Ending.{is_limit}
use Rattle.carrying.proofs.Room.{either_way}
use Rattle.answer.specs.declared.Answer.{Answer}
use Rattle.answer.specs.declared.Answer.TheVariants.{BadStrap, BadEdac, BadFram, BadSums, BadDiagnostics, BadBuffers, BadCount, BadPort, BadLimit}
use Rattle.answer.specs.Answers.{number_of}
use Rattle.judging.specs.declared.Unit.{Unit}
use Rattle.judging.specs.declared.Lengths.{Lengths}
use Rattle.judging.specs.Fitting.{Fit, last_strap, sums_fit, frams_as_set_up, too_short, limit_fit, record_fit, largest_count, lengths_fit, step_fit}

-- what holds of each refusal by a length and of what comes after holds of all
pub of_any_length : (P : Fit → Type 0) (strap : ℕ) (fits : Bool) (l : Lengths) (next : Fit)
    → ((answer : Answer) → 20 ≤ number_of answer → number_of answer ≤ 25 → P (Err answer)) → P next → P (lengths_fit strap fits l next)
unfolding lengths_fit
of_any_length P strap fits l next unfit h =
    either_way P (ltb last_strap strap) _ _ (λ _. unfit BadStrap (omega arith) (omega arith))
    (λ _. either_way P (eqb l.edac edac_size) _ _
    (λ _. either_way P fits _ _
    (λ _. either_way P (sums_fit l) _ _
    (λ _. either_way P (eqb l.diagnostics channels) _ _
    (λ _. either_way P (too_short l.message0 l.reply0 || too_short l.message1 l.reply1) _ _ (λ _. unfit BadBuffers (omega arith) (omega arith)) (λ _. h))
    (λ _. unfit BadDiagnostics (omega arith) (omega arith)))
    (λ _. unfit BadSums (omega arith) (omega arith)))
    (λ _. unfit BadFram (omega arith) (omega arith)))
    (λ _. unfit BadEdac (omega arith) (omega arith)))

-- of a byte 20 or more, and it sends nothing
abbrev High : Fit → Type 0
High (Ok _) = 0 ≤ 0
High (Err answer) = 20 ≤ number_of answer

pub a_refused_step_has_its_number : (u : Unit) (number : ℕ) (l : Lengths) (answer : Answer) → step_fit u number l ≡ Err answer → 20 ≤ number_of answer
unfolding step_fit
a_refused_step_has_its_number u number l answer e =
    subst High e
    (of_any_length High u.strap (frams_as_set_up u l) l (record_fit u number) (λ answer low high. low)
    (either_way High (leb (count_of u.ports.port0) largest_count) _ (Err BadCount)
    (λ _. either_way High (leb (count_of u.ports.port1) largest_count) _ (Err BadCount)
    (λ _. either_way High (leb number 1) (limit_fit u.limit) (Err BadPort)
    (λ _. either_way High (is_limit u.limit) (Ok tt) (Err BadLimit) (λ _. omega arith) (λ _. omega arith)) (λ _. omega arith))
    (λ _. omega arith))
    (λ _. omega arith)))
