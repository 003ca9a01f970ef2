-- One turn and the end of a copy, as the loop's invariant wants them. Assumes nothing.
use mathlib.Core.Path.{◌≡◌, sym, ap, ◌∙◌}
use mathlib.Core.List.{List, ◌++◌}
use Prim.Native.Nat.{ℕ, ◌+◌, ◌≤◌, ◌<◌}
use native.Mathlib.Nat.{le_antisymm}
use native.Mathlib.Numerals.{add-one}
use native.Mathlib.Omega.{arith}
use lib.ListN.{length, take, drop, set, get_or}
use lib.Seq.{paste, paste-suc, take-length}
use Rattle.memory.specs.Bytes.{stored}

-- ---- a copy: `paste` has the first i bytes in place

pub copy_turn : (held₀ : List ℕ) (at : ℕ) (bytes : List ℕ) (i : ℕ) (held : List ℕ) → at + length bytes ≤ length held₀ → i < length bytes
    → held ≡ paste held₀ at bytes i → set held (at + i) (get_or bytes i 0) ≡ paste held₀ at bytes (i + 1)
copy_turn held₀ at bytes i held fits h e =
    ap (λ l. set l (at + i) (get_or bytes i 0)) e
    ∙ paste-suc held₀ at bytes i 0 (omega arith) h
    ∙ ap (paste held₀ at bytes) (sym (add-one i))

pub copy_end : (held₀ : List ℕ) (at : ℕ) (bytes : List ℕ) (i : ℕ) (held : List ℕ) → i ≤ length bytes → length bytes ≤ i
    → held ≡ paste held₀ at bytes i → held ≡ stored held₀ at bytes
unfolding stored
copy_end held₀ at bytes i held h k e =
    e
    ∙ ap (paste held₀ at bytes) (le_antisymm h k)
    ∙ ap (λ b. take at held₀ ++ b ++ drop (at + length bytes) held₀) (take-length bytes)
