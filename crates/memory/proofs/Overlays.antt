-- What is read after a store: the bytes that were stored, and elsewhere those that stood there. One law for every range, and
-- what it comes to where the range does not meet the store. Assumes nothing.
use mathlib.Core.Path.{◌≡◌, refl, sym, ap, ap₂, ◌∙◌}
use mathlib.Core.Bool.{cond, ◌&&◌}
use mathlib.Core.List.{List, [], ◌∷◌}
use Prim.Native.Nat.{ℕ, zero, suc, ◌+◌, ◌-◌, ◌≤◌, ◌<◌}
use native.Mathlib.Nat.{add-zero, add_assoc}
use native.Mathlib.Omega.{arith}
use borrow.Author.Tests.{le-leb, lt-leb, le-ltb, lt-ltb}
use lib.Dec.{leb, ltb}
use lib.ListN.{length, take, drop, get_or}
use lib.Seq.{drop-cons, get_or-take, get_or-drop}
use Rattle.memory.specs.Bytes.{stretch, stored, overlaid}
use Rattle.memory.proofs.Stretches.{a_store_keeps_the_length, stretch_before_a_store, stretch_after_a_store, stretch_of_a_store}
use Rattle.memory.proofs.Tests.{either_side}

-- a stretch, byte by byte
pub in_a_stretch : (held : List ℕ) (at count i : ℕ) → i < count → get_or (stretch at count held) i 0 ≡ get_or held (at + i) 0
in_a_stretch held at count i h = get_or-take count (drop at held) i 0 h ∙ get_or-drop at held i 0

one_of_a_stretch : (held : List ℕ) (at : ℕ) → get_or (stretch at 1 held) 0 0 ≡ get_or held at 0
one_of_a_stretch held at = in_a_stretch held at 1 0 (omega arith) ∙ ap (λ (n : ℕ). get_or held n 0) (add-zero at)

first_of_a_stretch : (held : List ℕ) (at count : ℕ) → at < length held → stretch at (suc count) held ≡ get_or held at 0 ∷ stretch (suc at) count held
first_of_a_stretch held at count h = ap (take (suc count)) (drop-cons held at 0 h)

-- ---- one byte after a store

pub a_byte_past_a_store : (held : List ℕ) (at : ℕ) (bytes : List ℕ) (n : ℕ) → at ≤ length held → at + length bytes ≤ n
    → get_or (stored held at bytes) n 0 ≡ get_or held n 0
a_byte_past_a_store held at bytes n fits past =
    sym (one_of_a_stretch (stored held at bytes) n)
    ∙ ap (λ s. get_or s 0 0) (stretch_after_a_store held at bytes n 1 fits past)
    ∙ one_of_a_stretch held n

module _ (held : List ℕ) (at : ℕ) (bytes : List ℕ) (fits : at + length bytes ≤ length held) where
  abbrev pub seen : ℕ → ℕ
  seen n = cond (leb at n && ltb n (at + length bytes)) (get_or bytes (n - at) 0) (get_or held n 0)

  pub a_byte_after_a_store : (n : ℕ) → get_or (stored held at bytes) n 0 ≡ seen n
  a_byte_after_a_store n =
      either_side at n
      (λ low. either_side (at + length bytes) n
      (λ past.
      a_byte_past_a_store held at bytes n (omega arith) past
      ∙ sym (simp (le-leb at n low, le-ltb n (at + length bytes) past)))
      (λ within.
      let there : at + (n - at) ≡ n = omega arith in
      ap (λ (m : ℕ). get_or (stored held at bytes) m 0) (sym there)
      ∙ sym (in_a_stretch (stored held at bytes) at (length bytes) (n - at) (omega arith))
      ∙ ap (λ s. get_or s (n - at) 0) (stretch_of_a_store held at bytes (omega arith))
      ∙ sym (simp (le-leb at n low, lt-ltb n (at + length bytes) within))))
      (λ before.
      sym (one_of_a_stretch (stored held at bytes) n)
      ∙ ap (λ s. get_or s 0 0) (stretch_before_a_store held at bytes n 1 (omega arith) (omega arith))
      ∙ one_of_a_stretch held n
      ∙ sym (simp (lt-leb at n before)))

  -- ---- any range

  pub what_is_read_after_a_store : (count from : ℕ) → from + count ≤ length held
      → stretch from count (stored held at bytes) ≡ overlaid at bytes from (stretch from count held)
  unfolding overlaid
  what_is_read_after_a_store zero from inside = refl
  what_is_read_after_a_store (suc count) from inside =
      let kept = a_store_keeps_the_length held at bytes fits in
      first_of_a_stretch (stored held at bytes) from count (omega arith)
      ∙ ap₂ (λ (byte : ℕ) rest. byte ∷ rest) (a_byte_after_a_store from) (what_is_read_after_a_store count (suc from) (omega arith))
      ∙ sym (ap (overlaid at bytes from) (first_of_a_stretch held from count (omega arith)))

-- ---- what was not stored

-- a range that it does not meet: what stood there
pub a_range_before_a_store : (at : ℕ) (bytes : List ℕ) (from : ℕ) (old : List ℕ) → from + length old ≤ at → overlaid at bytes from old ≡ old
unfolding overlaid
a_range_before_a_store at bytes from [] h = refl
a_range_before_a_store at bytes from (before ∷ rest) h =
    ap₂ (λ (byte : ℕ) l. byte ∷ l) (simp (lt-leb at from (omega arith))) (a_range_before_a_store at bytes (suc from) rest (omega arith))

pub a_range_after_a_store : (at : ℕ) (bytes : List ℕ) (from : ℕ) (old : List ℕ) → at + length bytes ≤ from → overlaid at bytes from old ≡ old
unfolding overlaid
a_range_after_a_store at bytes from [] h = refl
a_range_after_a_store at bytes from (before ∷ rest) h =
    ap₂ (λ (byte : ℕ) l. byte ∷ l) (simp (le-leb at from (omega arith), le-ltb from (at + length bytes) h))
    (a_range_after_a_store at bytes (suc from) rest (omega arith))

-- it is the same counted from another place
same_leb : (a b more : ℕ) → leb (more + a) (more + b) ≡ leb a b
same_leb a b more =
    either_side a b
    (λ low. le-leb (more + a) (more + b) (omega arith) ∙ sym (le-leb a b low))
    (λ high. lt-leb (more + a) (more + b) (omega arith) ∙ sym (lt-leb a b high))

same_ltb : (a b more : ℕ) → ltb (more + a) (more + b) ≡ ltb a b
same_ltb a b more =
    either_side b a
    (λ high. le-ltb (more + a) (more + b) (omega arith) ∙ sym (le-ltb a b high))
    (λ low. lt-ltb (more + a) (more + b) (omega arith) ∙ sym (lt-ltb a b low))

pub counted_from_another_place : (at : ℕ) (bytes : List ℕ) (from more : ℕ) (old : List ℕ)
    → overlaid (more + at) bytes (more + from) old ≡ overlaid at bytes from old
unfolding overlaid
counted_from_another_place at bytes from more [] = refl
counted_from_another_place at bytes from more (before ∷ rest) =
    let there : more + from - (more + at) ≡ from - at = omega arith in
    let next : suc (more + from) ≡ more + suc from = omega arith in
    ap₂ (λ (byte : ℕ) l. byte ∷ l)
    (rw there (ap₂ (λ a b. cond (a && b) (get_or bytes (from - at) 0) before) (same_leb at from more) (ap (ltb (more + from)) (add_assoc more at (length bytes)) ∙ same_ltb from (at + length bytes) more)))
    (ap (λ (n : ℕ). overlaid (more + at) bytes n rest) next ∙ counted_from_another_place at bytes (suc from) more rest)
