-- One outcome for each call. Assumes nothing.
use mathlib.Core.Path.{◌≡◌, sym, ap, ◌∙◌}
use Rattle.commanding.specs.declared.Stepped.{Stepped}
use Rattle.commanding.specs.World.{World, Outcome, outcome_of}

handed : Outcome → Stepped
handed o = record { unit = o.unit; answer = o.answer; cost = o.cost; port = o.port }

-- The contracts of `set_up` and `step` are one equation each: what is handed back, with all that was lent, is the outcome that the
-- definition gives. Two that satisfy it are equal in all of it.
pub a_call_allows_one_outcome : (settled : Outcome) (r s : Stepped) (w v : World) → outcome_of r w ≡ settled → outcome_of s v ≡ settled → (r ≡ s) × (w ≡ v)
unfolding handed
a_call_allows_one_outcome settled r s w v e f =
    let same : outcome_of r w ≡ outcome_of s v = e ∙ sym f in (
      ap handed same,
      ap (λ (o : Outcome). o.world) same,
    )
