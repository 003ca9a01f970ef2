-- A store in EDAC memory under way, as the loop's invariant has it: its beginning, one turn, and its end. Assumes nothing.
use mathlib.Core.Path.{◌≡◌, refl, sym, ap, ap₂, ◌∙◌}
use mathlib.Core.Bool.{Bool, true, false, cond, not}
use mathlib.Core.List.{List, ◌++◌}
use Prim.Native.Nat.{ℕ, ◌+◌, ◌-◌, ◌≤◌, ◌<◌, min}
use native.Mathlib.Omega.{arith}
use borrow.Author.Tests.{not-true, not-false}
use lib.ListN.{length, take, drop, length-drop}
use lib.Seq.{length-take-le, take_all, take-add, drop-drop}
use Rattle.memory.specs.Bytes.{stretch, stored}
use Rattle.memory.proofs.Stretches.{length_of_a_stretch, nothing_stored, stretch_after_a_store, a_store_goes_on}
use Rattle.memory.specs.Edac.{edac_size}
use Rattle.read_only.specs.declared.rows.Run.{Run}
use Rattle.read_only.specs.Runs.{run_of}
use Rattle.read_only.specs.ReadOnly.{read_only, keeping, written}
use Rattle.read_only.proofs.Runs.{goes_past, step_alike}
use Rattle.read_only.proofs.Keeping.{kept_as_long, kept_in_parts, kept_alike, what_stands_there_is_stored, a_write_keeps_read_only_bytes}

store_length : (edac : List ℕ) (at : ℕ) (bytes : List ℕ) (i : ℕ) (held : List ℕ) → held ≡ written edac at (take i bytes) → length held ≡ length edac
store_length edac at bytes i held e = ap length e ∙ (a_write_keeps_read_only_bytes edac at (take i bytes)).same_length

module _ (edac : List ℕ) (at : ℕ) (bytes : List ℕ) (i to : ℕ) (held : List ℕ) (fits : at + length bytes ≤ length edac) (forward : i ≤ to) (within : to ≤ length bytes)
    (e : held ≡ written edac at (take i bytes)) where
  abbrev had : List ℕ
  had = stretch (at + i) (to - i) edac

  abbrev next : List ℕ
  next = stretch i (to - i) bytes

  -- one run more
  goes_on : stored held (at + i) (keeping (at + i) had next) ≡ written edac at (take to bytes)
  unfolding written
  goes_on =
      let split : i + (to - i) ≡ to = omega arith in
      let few = length-take-le i bytes (omega arith) in
      let more = length-take-le to bytes within in
      let first = length_of_a_stretch edac at i (omega arith) in
      let done = kept_as_long at (stretch at i edac) (take i bytes) (omega arith) in
      let before : written edac at (take i bytes) ≡ stored edac at (keeping at (stretch at i edac) (take i bytes))
      = ap (λ (n : ℕ). stored edac at (keeping at (stretch at n edac) (take i bytes))) few in
      ap (λ l. stored l (at + i) (keeping (at + i) had next)) (e ∙ before)
      ∙ ap (λ (n : ℕ). stored (stored edac at (keeping at (stretch at i edac) (take i bytes))) (at + n) (keeping (at + i) had next)) (sym (done ∙ first))
      ∙ a_store_goes_on edac at (keeping at (stretch at i edac) (take i bytes)) (keeping (at + i) had next) (omega arith)
      ∙ ap (stored edac at)
      (ap (λ (n : ℕ). keeping at (stretch at i edac) (take i bytes) ++ keeping (at + n) had next) (sym first)
      ∙ sym (kept_in_parts at (stretch at i edac) had (take i bytes) next (first ∙ sym few))
      ∙ ap₂ (keeping at)
      (ap (λ l. stretch at i edac ++ take (to - i) l) (sym (drop-drop i at edac)) ∙ sym (take-add i (to - i) (drop at edac)) ∙ ap (λ (n : ℕ). stretch at n edac) (split ∙ sym more))
      (sym (take-add i (to - i) bytes) ∙ ap (λ (n : ℕ). take n bytes) split))

  alike : (so : Bool) → ((k : ℕ) → at + i ≤ k → k < at + to → read_only k ≡ so) → keeping (at + i) had next ≡ cond so had next
  alike so all =
      let old = length_of_a_stretch edac (at + i) (to - i) (omega arith) in
      let new = length_of_a_stretch bytes i (to - i) (omega arith) in
      kept_alike so (at + i) had next (old ∙ sym new) (λ k low high. all k low (omega arith))

  writable_turn : ((k : ℕ) → at + i ≤ k → k < at + to → read_only k ≡ false) → stored held (at + i) next ≡ written edac at (take to bytes)
  writable_turn all = ap (stored held (at + i)) (sym (alike false all)) ∙ goes_on

  read_only_turn : ((k : ℕ) → at + i ≤ k → k < at + to → read_only k ≡ true) → held ≡ written edac at (take to bytes)
  unfolding written
  read_only_turn all =
      let few = length-take-le i bytes (omega arith) in
      let same = store_length edac at bytes i held e in
      let first = length_of_a_stretch edac at i (omega arith) in
      let done = kept_as_long at (stretch at i edac) (take i bytes) (omega arith) in
      let before : held ≡ stored edac at (keeping at (stretch at i edac) (take i bytes))
      = e ∙ ap (λ (n : ℕ). stored edac at (keeping at (stretch at n edac) (take i bytes))) few in
      let stood : stretch (at + i) (to - i) held ≡ had
      = ap (stretch (at + i) (to - i)) before ∙ stretch_after_a_store edac at (keeping at (stretch at i edac) (take i bytes)) (at + i) (to - i) (omega arith) (omega arith) in
      sym (what_stands_there_is_stored held (at + i) (to - i) (omega arith))
      ∙ ap (stored held (at + i)) (stood ∙ sym (alike true all))
      ∙ goes_on

-- A store of `bytes` from `from` on, that has come to `at`: `rest` are the bytes that are left.
pub record UnderWay (edac : List ℕ) (from : ℕ) (bytes held : List ℕ) (at : ℕ) (rest : List ℕ) : Type 0 where
  pub forward : from ≤ at
  pub left : at + length rest ≡ from + length bytes
  pub rest_is : rest ≡ drop (at - from) bytes
  pub held_is : held ≡ written edac from (take (at - from) bytes)

pub store_starts : (edac : List ℕ) (from : ℕ) (bytes : List ℕ) → UnderWay edac from bytes edac from bytes
unfolding written keeping
store_starts edac from bytes =
    let none : from - from ≡ 0 = omega arith in
    record {
      forward = omega arith;
      left = refl;
      rest_is = rw none;
      held_is = rw none (sym (nothing_stored edac from));
    }

module _ (edac : List ℕ) (from : ℕ) (bytes held : List ℕ) (at : ℕ) (rest : List ℕ) (w : UnderWay edac from bytes held at rest) where
  pub store_ends : length rest ≡ 0 → held ≡ written edac from bytes
  store_ends none =
      let forward = w.forward in
      w.held_is ∙ ap (written edac from) (take_all (at - from) bytes (omega (arith, w.left)))

  pub as_long : length held ≡ length edac
  as_long = store_length edac from bytes (at - from) held w.held_is

  -- one turn, over the bytes that stand as the next one does
  module _ (fits : from + length bytes ≤ edac_size) (long : length edac ≡ edac_size) (some : 0 < length rest) (r : Run) (is : r ≡ run_of at)
      (count : ℕ) (c : count ≡ min (length rest) (r.end - at)) where
    inside : at < edac_size
    inside = omega (arith, w.left)

    pub steps_on : (0 < count) × (count ≤ length rest)
    steps_on = let past = goes_past r at is inside in (omega arith, omega arith)

    here : from + (at - from) ≡ at
    here = let forward = w.forward in omega arith

    to : at - from + count ≡ at + count - from
    to = let forward = w.forward in omega arith

    within : at - from + count ≤ length bytes
    within = let forward = w.forward in omega (arith, w.left, steps_on)

    stands_alike : (k : ℕ) → from + (at - from) ≤ k → k < from + (at - from + count) → read_only k ≡ r.read_only
    stands_alike k low high =
        step_alike r at is inside from (at - from) (length bytes) (at - from + count) (sym here)
        (let forward = w.forward in omega (arith, w.left))
        (let forward = w.forward in let past = goes_past r at is inside in omega (arith, w.left))
        k low high

    these : take count rest ≡ stretch (at - from) (at - from + count - (at - from)) bytes
    these = let same : at - from + count - (at - from) ≡ count = omega arith in rw same (ap (take count) w.rest_is)

    others : drop count rest ≡ drop (at + count - from) bytes
    others = ap (drop count) w.rest_is ∙ drop-drop count (at - from) bytes ∙ ap (λ (n : ℕ). drop n bytes) to

    -- the bytes that stand alike and those behind them, as the code has them
    module _ (alike behind after : List ℕ) (front : alike ≡ take count rest) (back : behind ≡ drop count rest) where
      so_many : at + length alike ≡ at + count
      so_many = ap (λ (n : ℕ). at + n) (ap length front ∙ length-take-le count rest steps_on.1)

      so_far : after ≡ written edac from (take (at - from + count) bytes) → UnderWay edac from bytes after (at + length alike) behind
      so_far e = let forward = w.forward in rw (so_many, back) record {
        forward = omega arith;
        left = simp length-drop (omega (arith, w.left, steps_on));
        rest_is = others;
        held_is = e ∙ ap (λ (n : ℕ). written edac from (take n bytes)) to;
      }

      pub a_writable_turn : not r.read_only ≡ true → after ≡ stored held at alike → UnderWay edac from bytes after (at + length alike) behind
      a_writable_turn so e =
          so_far
          (e
          ∙ ap₂ (stored held) (sym here) (front ∙ these)
          ∙ writable_turn edac from bytes (at - from) (at - from + count) held (omega arith) (omega arith) within w.held_is
          (λ k low high. stands_alike k low high ∙ not-true _ so))

      pub a_read_only_turn : not r.read_only ≡ false → after ≡ held → UnderWay edac from bytes after (at + length alike) behind
      a_read_only_turn so e =
          so_far
          (e
          ∙ read_only_turn edac from bytes (at - from) (at - from + count) held (omega arith) (omega arith) within w.held_is
          (λ k low high. stands_alike k low high ∙ not-false _ so))
