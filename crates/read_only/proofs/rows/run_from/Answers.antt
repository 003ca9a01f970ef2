-- `read_only::rows::run_from` meets its contract. The list is met here, and tested: by one computation that it is in rising order without overlap
-- and may be cut where the search cuts it, and row for row against the definition. Assumes nothing.
use mathlib.Core.Bool.{true}
use mathlib.Core.List.{List}
use mathlib.Core.Path.{◌≡◌, refl, ap, ◌∙◌}
use Prim.Native.Nat.{ℕ, ◌<◌}
use native.Mathlib.Omega.{arith}
use Rattle.memory.specs.Edac.{edac_size}
use Rattle.read_only.specs.ReadOnly.{read_only}
use Rattle.read_only.specs.Runs.{run_of}
use Rattle.read_only.specs.Listed.{in_some, in_some_or, rising, run_in, searchable}
use Rattle.read_only.proofs.Listed.{what_is_searchable, the_list_gives_the_run}
use Rattle.read_only.proofs.rows.run_from.Goals as goal

-- What a list that may be searched gives, if it is the definition's.
given : (rows : List (List ℕ)) (at : ℕ) → searchable rows ≡ true → ((i : ℕ) → read_only i ≡ in_some rows i) → at < edac_size
    → run_in rows edac_size at ≡ run_of at
given rows at t same inside = the_list_gives_the_run rows at (what_is_searchable rows t).0 same inside

-- The list is in rising order without overlap.
pub searched-requires : goal.searched-requires
unfolding searchable rising
searched-requires c = (refl, omega (arith, c.from.ensures, c.requires))

-- Row for row, it is the definition's.
pub returns : goal.returns
unfolding read_only in_some_or searchable rising
returns c = c.searched.ensures ∙ given _ c.from.result refl (λ (i : ℕ). refl) (omega (arith, c.from.ensures, c.requires)) ∙ ap run_of c.from.ensures
