-- What holds after any bytes at all, from any receiver: the count stays within one above the largest, the bytes of the message buffer
-- at or past the largest never change, and the buffer keeps its length.
-- Assumes nothing.
use Prim.Native.Nat.{ℕ, ◌+◌, ◌<◌, ◌≤◌}
use mathlib.Core.Path.{◌≡◌, refl, ◌∙◌, ap}
use mathlib.Core.Logic.{⊎_elim}
use mathlib.Core.Bool.{Bool, true, false, cond}
use mathlib.Core.List.{List, [], ◌∷◌}
use native.Mathlib.Omega.{arith}
use borrow.Author.Tests.{ne_eqb}
use lib.Dec.{eqb}
use lib.ListN.{length, set, drop, length-set}
use lib.Seq.{drop-set-lt}
use Rattle.line.specs.Framing.{fend, fesc, tfend, tfesc}
use Rattle.line.specs.Receiver.{Reception, opened, unpacked_of, stored_of, counted_of, after_escape_of, inside_of, receive_of, feed_of}
use Rattle.line.specs.declared.receiver.Place.{Place}
use Rattle.line.specs.declared.receiver.Place.TheVariants.{Fresh, Run, Escape, Fault}
use Rattle.line.specs.declared.receiver.Receiver.{Receiver}
use Rattle.line.proofs.Cases.{below_or_not}
use Rattle.line.specs.declared.receiver.Heard.TheVariants.{Taken}
use Rattle.line.proofs.Receiving.{below_the_largest_a_byte_is_stored, from_the_largest_on_nothing_is_stored, past_the_largest_the_count_stays}
use Rattle.line.proofs.Counting.{counting_stays_within}

in_both : (Q : Reception → Type 0) (p : Bool) {x y : Reception} → Q x → Q y → Q (cond p x y)
in_both Q true a b = a
in_both Q false a b = b

-- P holds of receiver and buffer after any bytes, if a FEND keeps it, a byte that is not unpacked, and one that is
module _
    (largest : ℕ)
    (P : Receiver → List ℕ → Type 0)
    (shut : (receiver : Receiver) (message : List ℕ) → P receiver message → P opened message)
    (same
    : (place : Place) (receiver : Receiver) (message : List ℕ)
    → P receiver message
    → P (record { place = place; count = receiver.count }) message)
    (more
    : (byte : ℕ) (receiver : Receiver) (message : List ℕ)
    → P receiver message
    → P (record { place = Run; count = counted_of largest receiver.count }) (stored_of largest receiver.count byte message))
  where
    abbrev Q : Reception → Type 0
    Q o = P o.receiver o.message

    inside
        : (place : Place) (receiver : Receiver) (byte : ℕ) (message : List ℕ)
        → P receiver message
        → Q (inside_of largest place receiver.count byte message)
    unfolding inside_of after_escape_of
    inside Fresh r byte l p = same Fresh r l p
    inside Run r byte l p = in_both Q (eqb byte fesc) (same Escape r l p) (more byte r l p)
    inside Escape r byte l p =
        in_both Q (eqb byte tfend) (more fend r l p) (in_both Q (eqb byte tfesc) (more fesc r l p) (same Fault r l p))
    inside Fault r byte l p = same Fault r l p

    a_byte_keeps
        : (receiver : Receiver) (byte : ℕ) (message : List ℕ) → P receiver message → Q (receive_of largest receiver byte message)
    unfolding receive_of
    a_byte_keeps r byte l p = in_both Q (eqb byte fend) (shut r l p) (inside r.place r byte l p)

    any_bytes_keep
        : (bytes : List ℕ) (receiver : Receiver) (message : List ℕ)
        → P receiver message
        → P (feed_of largest receiver bytes message).receiver (feed_of largest receiver bytes message).message
    any_bytes_keep [] r l p = p
    any_bytes_keep (byte ∷ bytes) r l p = any_bytes_keep bytes _ _ (a_byte_keeps r byte l p)

module _ (largest : ℕ) where
  pub the_count_never_passes_a_bound_above_the_largest
      : (bound : ℕ)
      → largest < bound
      → (bytes : List ℕ) (receiver : Receiver) (message : List ℕ)
      → receiver.count ≤ bound
      → (feed_of largest receiver bytes message).receiver.count ≤ bound
  the_count_never_passes_a_bound_above_the_largest bound above =
      any_bytes_keep largest (λ (r : Receiver) (l : List ℕ). r.count ≤ bound)
      (λ r l h. omega arith)
      (λ place r l h. h)
      (λ byte r l h. counting_stays_within largest bound r.count above h)

  pub the_count_never_passes_one_above_the_largest
      : (bytes : List ℕ) (receiver : Receiver) (message : List ℕ)
      → receiver.count ≤ largest + 1
      → (feed_of largest receiver bytes message).receiver.count ≤ largest + 1
  the_count_never_passes_one_above_the_largest = the_count_never_passes_a_bound_above_the_largest (largest + 1) (omega arith)

  -- a count above the largest, which a caller may have lent: a byte other than FEND leaves it as it is, and is not stored
  pub past_the_largest_a_byte_is_neither_counted_nor_stored
      : (receiver : Receiver) (byte : ℕ) (message : List ℕ)
      → largest < receiver.count
      → (byte ≡ fend → ⊥)
      → ((receive_of largest receiver byte message).receiver.count ≡ receiver.count)
      × ((receive_of largest receiver byte message).heard ≡ Taken)
      × ((receive_of largest receiver byte message).message ≡ message)
  unfolding receive_of inside_of after_escape_of
  past_the_largest_a_byte_is_neither_counted_nor_stored receiver byte message above other =
      rw (ne_eqb byte fend other) (inside_so receiver.place)
    where
      Stays : Reception → Type 0
      Stays o = (o.receiver.count ≡ receiver.count) × (o.heard ≡ Taken) × (o.message ≡ message)

      unpacked : (n : ℕ) → Stays (unpacked_of largest receiver.count n message)
      unpacked n = (
        past_the_largest_the_count_stays largest receiver.count above,
        refl,
        from_the_largest_on_nothing_is_stored largest receiver.count n message (omega arith),
      )

      inside_so : (place : Place) → Stays (inside_of largest place receiver.count byte message)
      inside_so Fresh = (refl, refl, refl)
      inside_so Run = in_both Stays (eqb byte fesc) (refl, refl, refl) (unpacked byte)
      inside_so Escape = in_both Stays (eqb byte tfend) (unpacked fend) (in_both Stays (eqb byte tfesc) (unpacked fesc) (refl, refl, refl))
      inside_so Fault = (refl, refl, refl)

  -- a part of the buffer that no store below the largest changes is changed by no bytes
  untouched
      : {A : Type 0} (part : List ℕ → A)
      → ((message : List ℕ) (count byte : ℕ) → count < largest → part (set message count byte) ≡ part message)
      → (bytes : List ℕ) (receiver : Receiver) (message : List ℕ)
      → part (feed_of largest receiver bytes message).message ≡ part message
  untouched part store bytes receiver message =
      any_bytes_keep largest (λ (r : Receiver) (l : List ℕ). part l ≡ part message)
      (λ r l h. h)
      (λ place r l h. h)
      (λ byte r l h.
      ⊎_elim
      (λ b. ap part (below_the_largest_a_byte_is_stored largest r.count byte l b) ∙ store l r.count byte b ∙ h)
      (λ b. ap part (from_the_largest_on_nothing_is_stored largest r.count byte l b) ∙ h)
      (below_or_not r.count largest))
      bytes
      receiver
      message
      refl

  pub bytes_at_or_past_the_largest_never_change
      : (bytes : List ℕ) (receiver : Receiver) (message : List ℕ)
      → drop largest (feed_of largest receiver bytes message).message ≡ drop largest message
  bytes_at_or_past_the_largest_never_change = untouched (drop largest) (drop-set-lt largest)

  pub the_buffer_keeps_its_length
      : (bytes : List ℕ) (receiver : Receiver) (message : List ℕ)
      → length (feed_of largest receiver bytes message).message ≡ length message
  the_buffer_keeps_its_length = untouched length (λ l count byte b. length-set l count byte)
