-- Stretches of bytes, what a store leaves of them, and how a reply is written step by step. Assumes nothing.
use mathlib.Core.Path.{◌≡◌, refl, sym, ap, ap₂, ◌∙◌}
use mathlib.Core.List.{List, [], ◌∷◌, ◌++◌, append_assoc}
use Prim.Native.Nat.{ℕ, suc, ◌+◌, ◌-◌, ◌≤◌, ◌<◌}
use native.Mathlib.Nat.{zero-add, add_assoc, le_refl}
use native.Mathlib.Numerals.{add-one}
use native.Mathlib.Omega.{arith}
use lib.ListN.{length, take, drop, set, length-append, length-drop, take-append-drop}
use lib.Seq.{length-take-le, take-length, take_at, drop_at, take-add, drop-drop, take-append-le, drop-append-le, drop-append-add, set_split, append_snoc, paste-zero, length-paste}
use Rattle.memory.specs.Bytes.{stretch, stored, begun}

pub length_of_a_stretch : (held : List ℕ) (at count : ℕ) → at + count ≤ length held → length (stretch at count held) ≡ count
length_of_a_stretch held at count fits = length-take-le count (drop at held) (simp length-drop (omega arith))

-- two stretches, one after the other, are one
pub stretches_join : (held : List ℕ) (from mid to : ℕ) → from ≤ mid → mid ≤ to
    → stretch from (mid - from) held ++ stretch mid (to - mid) held ≡ stretch from (to - from) held
stretches_join held from mid to h k =
    let split : to - from ≡ mid - from + (to - mid) = omega arith in
    let there : from + (mid - from) ≡ mid = omega arith in
    rw (split, take-add (mid - from) (to - mid) (drop from held), drop-drop (mid - from) from held, there)

stretch_of_the_first : (xs ys : List ℕ) (from count : ℕ) → from + count ≤ length xs → stretch from count (xs ++ ys) ≡ stretch from count xs
stretch_of_the_first xs ys from count h =
    let start : from ≤ length xs = omega arith in
    let rest : count ≤ length (drop from xs) = simp length-drop (omega arith) in
    rw (drop-append-le from xs ys, take-append-le count (drop from xs) ys)

-- ---- a store

-- what stands before the end of the stored bytes
length_to_the_end : (held : List ℕ) (at : ℕ) (bytes : List ℕ) → at ≤ length held → length (take at held ++ bytes) ≡ at + length bytes
length_to_the_end held at bytes fits = length-append (take at held) bytes ∙ ap (λ (n : ℕ). n + length bytes) (length-take-le at held fits)

-- and what stands after it
after_the_end : (held : List ℕ) (at : ℕ) (bytes : List ℕ) (more : ℕ) → at ≤ length held
    → drop (at + length bytes + more) (stored held at bytes) ≡ drop (at + length bytes + more) held
unfolding stored
after_the_end held at bytes more fits =
    ap (λ (n : ℕ). drop (n + more) (stored held at bytes)) (sym (length_to_the_end held at bytes fits))
    ∙ drop-append-add (take at held ++ bytes) (drop (at + length bytes) held) more
    ∙ drop-drop more (at + length bytes) held

pub a_store_keeps_the_length : (held : List ℕ) (at : ℕ) (bytes : List ℕ) → at + length bytes ≤ length held
    → length (stored held at bytes) ≡ length held
unfolding stored
a_store_keeps_the_length held at bytes fits =
    ap (λ b. length (take at held ++ b ++ drop (at + length bytes) held)) (sym (take-length bytes))
    ∙ length-paste held at bytes (length bytes) fits (le_refl (length bytes))

pub nothing_stored : (held : List ℕ) (at : ℕ) → stored held at [] ≡ held
unfolding stored
nothing_stored held at = sym (paste-zero held at [])

pub a_byte_stored : (held : List ℕ) (at byte : ℕ) → at < length held → set held at byte ≡ stored held at (byte ∷ [])
unfolding stored
a_byte_stored held at byte fits =
    set_split held at byte fits
    ∙ sym (append_snoc (take at held) byte (drop (suc at) held))
    ∙ ap (λ (n : ℕ). take at held ++ (byte ∷ []) ++ drop n held) (sym (add-one at))

pub stretch_before_a_store : (held : List ℕ) (at : ℕ) (bytes : List ℕ) (from count : ℕ) → at ≤ length held → from + count ≤ at
    → stretch from count (stored held at bytes) ≡ stretch from count held
unfolding stored
stretch_before_a_store held at bytes from count fits h =
    let first : from + count ≤ length (take at held) = rw (length-take-le at held fits) h in
    ap (stretch from count) (append_assoc (take at held) bytes (drop (at + length bytes) held))
    ∙ stretch_of_the_first (take at held) (bytes ++ drop (at + length bytes) held) from count first
    ∙ sym (stretch_of_the_first (take at held) (drop at held) from count first)
    ∙ ap (stretch from count) (take-append-drop at held)

pub stretch_after_a_store : (held : List ℕ) (at : ℕ) (bytes : List ℕ) (from count : ℕ) → at ≤ length held → at + length bytes ≤ from
    → stretch from count (stored held at bytes) ≡ stretch from count held
stretch_after_a_store held at bytes from count fits h =
    let there : at + length bytes + (from - (at + length bytes)) ≡ from = omega arith in
    ap (take count) (rw there at (after_the_end held at bytes (from - (at + length bytes)) fits))

pub stretch_of_a_store : (held : List ℕ) (at : ℕ) (bytes : List ℕ) → at ≤ length held
    → stretch at (length bytes) (stored held at bytes) ≡ bytes
unfolding stored
stretch_of_a_store held at bytes fits =
    ap (stretch at (length bytes)) (append_assoc (take at held) bytes (drop (at + length bytes) held))
    ∙ ap (take (length bytes)) (drop_at (take at held) (bytes ++ drop (at + length bytes) held) at (length-take-le at held fits))
    ∙ take_at bytes (drop (at + length bytes) held) (length bytes) refl

-- bytes stored right after others
pub a_store_goes_on : (held : List ℕ) (at : ℕ) (xs ys : List ℕ) → at ≤ length held
    → stored (stored held at xs) (at + length xs) ys ≡ stored held at (xs ++ ys)
unfolding stored
a_store_goes_on held at xs ys fits =
    ap₂ (λ start rest. start ++ ys ++ rest)
    (take_at (take at held ++ xs) (drop (at + length xs) held) (at + length xs) (length_to_the_end held at xs fits))
    (after_the_end held at xs (length ys) fits)
    ∙ ap₂ (λ start n. start ++ drop n held)
    (append_assoc (take at held) xs ys)
    (add_assoc at (length xs) (length ys) ∙ ap (λ (n : ℕ). at + n) (sym (length-append xs ys)))

pub a_byte_then_a_store : (held : List ℕ) (at byte : ℕ) (bytes : List ℕ) → at < length held
    → stored (set held at byte) (at + 1) bytes ≡ stored held at (byte ∷ bytes)
a_byte_then_a_store held at byte bytes fits =
    ap (λ now. stored now (at + 1) bytes) (a_byte_stored held at byte fits) ∙ a_store_goes_on held at (byte ∷ []) bytes (omega arith)

-- ---- a buffer's written first part

pub stored_first_is_begun : (buffer bytes : List ℕ) → stored buffer 0 bytes ≡ begun buffer bytes
unfolding stored begun
stored_first_is_begun buffer bytes = ap (λ (n : ℕ). bytes ++ drop n buffer) (zero-add (length bytes))

-- bytes stored right after the written part are written too
pub a_begun_buffer_goes_on : (buffer xs ys : List ℕ) → stored (begun buffer xs) (length xs) ys ≡ begun buffer (xs ++ ys)
a_begun_buffer_goes_on buffer xs ys =
    ap₂ (λ held n. stored held n ys) (sym (stored_first_is_begun buffer xs)) (sym (zero-add (length xs)))
    ∙ a_store_goes_on buffer 0 xs ys (omega arith)
    ∙ stored_first_is_begun buffer (xs ++ ys)

pub the_written_part_is_handed_back : (buffer bytes : List ℕ) → take (length bytes) (begun buffer bytes) ≡ bytes
unfolding begun
the_written_part_is_handed_back buffer bytes = take_at bytes (drop (length bytes) buffer) (length bytes) refl
