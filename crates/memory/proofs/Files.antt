-- Files of EDAC memory: their sizes, and one law for each way through showing one. Assumes nothing.
use mathlib.Core.Path.{◌≡◌, refl, ap, ◌∙◌}
use mathlib.Core.List.{List, ◌∷◌}
use Prim.Native.Nat.{ℕ, zero, suc, ◌+◌, ◌-◌, ◌<◌}
use native.Mathlib.Omega.{arith}
use lib.ListN.{length, take, drop, set, get_or, length-set}
use Rattle.memory.specs.Bytes.{stretch, stored}
use Rattle.memory.specs.Edac.{edac_size, mode_place, byte_address, body_size, shown_size, file_shown}
use Rattle.memory.proofs.Stretches.{length_of_a_stretch, a_byte_then_a_store}

pub size_of_file_0 : (file : ℕ) → file ≡ 0 → body_size file ≡ 5
unfolding body_size
size_of_file_0 file e = ap body_size e

pub size_of_another : (file : ℕ) → (file ≡ 0 → ⊥) → body_size file ≡ 4
unfolding body_size
size_of_another zero other = absurd (other refl)
size_of_another (suc n) other = refl

pub a_file_is_shown_in_its_size : (edac : List ℕ) (file : ℕ) → length edac ≡ edac_size → file < 256 → length (file_shown edac file) ≡ shown_size file
unfolding file_shown body_size
a_file_is_shown_in_its_size edac zero size small = ap (λ (n : ℕ). suc (suc n)) (length_of_a_stretch edac 0 4 (omega arith))
a_file_is_shown_in_its_size edac (suc n) size small = ap suc (length_of_a_stretch edac (byte_address (suc n)) 4 (omega arith))

-- ---- showing

pub show_file_0 : (edac reply : List ℕ) (at file start : ℕ) → file ≡ 0 → at + 1 < length reply → start ≡ byte_address file
    → stored (set (set reply at file) (at + 1) (get_or edac mode_place 0)) (at + 2) (take (start + 4 - start) (drop start edac))
    ≡ stored reply at (file_shown edac file)
unfolding file_shown
show_file_0 edac reply at file start e fits from =
    let next : at + 2 ≡ at + 1 + 1 = omega arith in
    let first : start ≡ 0 = omega arith in
    rw (e, next, first)
    (a_byte_then_a_store (set reply at 0) (at + 1) (get_or edac mode_place 0) (stretch 0 4 edac) (rw length-set fits)
    ∙ a_byte_then_a_store reply at 0 (get_or edac mode_place 0 ∷ stretch 0 4 edac) (omega arith))

pub show_another : (edac reply : List ℕ) (at file start : ℕ) → (file ≡ 0 → ⊥) → at < length reply → start ≡ byte_address file
    → stored (set reply at file) (at + 1) (take (start + 4 - start) (drop start edac)) ≡ stored reply at (file_shown edac file)
unfolding file_shown
show_another edac reply at zero start other fits e = absurd (other refl)
show_another edac reply at (suc n) start other fits e =
    let four : start + 4 - start ≡ 4 = omega arith in
    rw (four, e) (a_byte_then_a_store reply at (suc n) (stretch (byte_address (suc n)) 4 edac) fits)
