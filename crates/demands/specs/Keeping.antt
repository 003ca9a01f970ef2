-- Calls one after the other on one EDAC memory, as 02, T-02 speaks of it: no bytes on the line change a read-only byte, nor does a list that is
-- stored (T-11). Assumes nothing.
use Rattle.std.specs.Prelude.{ℕ, Bool, List, [], ◌∷◌}
use Rattle.file_commands.specs.WriteFile.{store_list_of}
use Rattle.judging.specs.declared.Unit.{Unit}
use Rattle.commanding.specs.World.{World, with_edac}
use Rattle.unit.specs.Steps.{set_up_of, step_of}
use Rattle.demands.specs.Calls.{Call}

-- A call of `set_up` for a strap, a limit and a lock, of `step` on a unit, or of `store_list` with a limit and a list. All that it names may be anything, of any
-- length, and another thing at each call, the unit too: a call that is refused is a call. Only EDAC memory is not the one that it names: it is lent
-- the one spoken of. (`judge_list` is lent none.)
pub data EdacCall : Type 0 where
  setting_up : ℕ → ℕ → Bool → World → EdacCall
  stepping : Unit → Call → EdacCall
  storing : ℕ → List ℕ → EdacCall

-- EDAC memory after calls one after the other, where nothing else changes it.
abbrev pub edac_left : List ℕ → List EdacCall → List ℕ
edac_left edac [] = edac
edac_left edac (setting_up strap limit locked w ∷ calls) = edac_left (set_up_of strap limit locked (with_edac w edac)).world.edac calls
edac_left edac (stepping u c ∷ calls) = edac_left (step_of u c.port c.byte c.sending (with_edac c.lent edac)).world.edac calls
edac_left edac (storing limit list ∷ calls) = edac_left (store_list_of limit edac list).edac calls
