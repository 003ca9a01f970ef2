-- Counting and storing byte after byte: the count stops at one above the largest, and what is stored stands from the count on.
-- Assumes nothing.
use Prim.Native.Nat.{ℕ, zero, suc, ◌+◌, ◌-◌, ◌≤◌, ◌<◌, min}
use mathlib.Core.Path.{◌≡◌, ◌∙◌}
use mathlib.Core.Logic.{⊎_elim}
use mathlib.Core.List.{List, [], ◌∷◌}
use native.Mathlib.Numerals.{add-one}
use native.Mathlib.Omega.{arith}
use lib.ListN.{take}
use lib.Seq.{sets, take-nil}
use Rattle.line.specs.Receiver.{stored_of, counted_of}
use Rattle.line.proofs.Cases.{below_or_not}
use Rattle.line.proofs.Receiving.{
  below_the_largest_a_byte_is_stored,
  from_the_largest_on_nothing_is_stored,
  up_to_the_largest_the_count_rises,
  past_the_largest_the_count_stays,
}

module _ (largest : ℕ) where
  -- `k` bytes more are counted; `bytes` more are stored
  unfoldable pub count_after : ℕ → ℕ → ℕ
  count_after count zero = count
  count_after count (suc k) = count_after (counted_of largest count) k

  unfoldable pub store_after : ℕ → List ℕ → List ℕ → List ℕ
  store_after count [] message = message
  store_after count (byte ∷ bytes) message = store_after (counted_of largest count) bytes (stored_of largest count byte message)

  -- the count stops at one above the largest
  pub one_count : (count : ℕ) → count ≤ largest + 1 → counted_of largest count ≡ min (count + 1) (largest + 1)
  one_count count h =
      ⊎_elim
      (λ l. past_the_largest_the_count_stays largest count l ∙ omega arith)
      (λ l. up_to_the_largest_the_count_rises largest count l ∙ omega arith)
      (below_or_not largest count)

  pub counting_stays_within : (bound count : ℕ) → largest < bound → count ≤ bound → counted_of largest count ≤ bound
  counting_stays_within bound count above h =
      ⊎_elim
      (λ l. omega (arith, past_the_largest_the_count_stays largest count l))
      (λ l. omega (arith, up_to_the_largest_the_count_rises largest count l))
      (below_or_not largest count)

  counting_never_falls : (count : ℕ) → count ≤ counted_of largest count
  counting_never_falls count =
      ⊎_elim
      (λ l. omega (arith, past_the_largest_the_count_stays largest count l))
      (λ l. omega (arith, up_to_the_largest_the_count_rises largest count l))
      (below_or_not largest count)

  pub the_count_stops : (k count : ℕ) → count ≤ largest + 1 → count_after count k ≡ min (count + k) (largest + 1)
  unfolding count_after
  the_count_stops zero count h = omega arith
  the_count_stops (suc k) count h =
      let one = one_count count h in
      the_count_stops k (counted_of largest count) (omega arith) ∙ omega arith

  -- what is stored stands from the count on, up to the largest
  one_store
      : (byte : ℕ) (bytes : List ℕ) (count : ℕ) (message : List ℕ)
      → sets (stored_of largest count byte message) (counted_of largest count) (take (largest - counted_of largest count) bytes)
      ≡ sets message count (take (largest - count) (byte ∷ bytes))
  one_store byte bytes count message =
      ⊎_elim
      (λ l.
      let rest : largest - count ≡ suc (largest - suc count) = omega arith in
      let up : count ≤ largest = omega arith in
      rw (below_the_largest_a_byte_is_stored largest count byte message l, up_to_the_largest_the_count_rises largest count up, add-one, rest))
      (λ l.
      let done : largest - count ≡ 0 = omega arith in
      let still : largest - counted_of largest count ≡ 0 = omega (arith, counting_never_falls count) in
      rw (from_the_largest_on_nothing_is_stored largest count byte message l, done, still))
      (below_or_not count largest)

  pub the_stores_stop
      : (bytes : List ℕ) (count : ℕ) (message : List ℕ) → store_after count bytes message ≡ sets message count (take (largest - count) bytes)
  unfolding store_after
  the_stores_stop [] count message = rw take-nil
  the_stores_stop (byte ∷ bytes) count message =
      the_stores_stop bytes (counted_of largest count) (stored_of largest count byte message) ∙ one_store byte bytes count message
