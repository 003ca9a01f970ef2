-- One law for each way through the receiver's functions: what was tested on the way gives the case of the definition.
-- Assumes nothing.
use Prim.Native.Nat.{ℕ, ◌+◌, ◌<◌, ◌≤◌}
use mathlib.Core.Path.{◌≡◌}
use mathlib.Core.List.{List}
use borrow.Author.Tests.{ne_eqb, lt-ltb, le-ltb, le-leb, lt-leb}
use lib.ListN.{set}
use Rattle.line.specs.Framing.{fend, fesc, tfend, tfesc}
use Rattle.line.specs.Receiver.{Reception, reception_of, taken_of, closed_of, stored_of, counted_of, unpacked_of, after_escape_of, inside_of, receive_of}
use Rattle.line.specs.declared.receiver.Place.{Place}
use Rattle.line.specs.declared.receiver.Place.TheVariants.{Fresh, Run, Escape, Fault}
use Rattle.line.specs.declared.receiver.Heard.TheVariants.{Message}
use Rattle.line.specs.declared.receiver.Receiver.{Receiver}

pub a_run_with_bytes_is_to_be_judged
    : (place : Place) (count : ℕ)
    → place ≡ Run
    → (count ≡ 0 → ⊥)
    → Message count ≡ closed_of place count
unfolding closed_of
a_run_with_bytes_is_to_be_judged place count p z = rw (p, ne_eqb count 0 z)

-- storing and counting
module _ (largest count byte : ℕ) (message : List ℕ) where
  pub below_the_largest_a_byte_is_stored : count < largest → stored_of largest count byte message ≡ set message count byte
  unfolding stored_of
  below_the_largest_a_byte_is_stored h = rw (lt-ltb count largest h)

  pub from_the_largest_on_nothing_is_stored : largest ≤ count → stored_of largest count byte message ≡ message
  unfolding stored_of
  from_the_largest_on_nothing_is_stored h = rw (le-ltb count largest h)

module _ (largest count : ℕ) where
  pub up_to_the_largest_the_count_rises : count ≤ largest → counted_of largest count ≡ count + 1
  unfolding counted_of
  up_to_the_largest_the_count_rises h = rw (le-leb count largest h)

  pub past_the_largest_the_count_stays : largest < count → counted_of largest count ≡ count
  unfolding counted_of
  past_the_largest_the_count_stays h = rw (lt-leb count largest h)

-- the byte after FESC; `o` is what the callee leaves
module _ (largest count byte : ℕ) (message : List ℕ) (o : Reception) where
  pub an_escaped_fend_is_unpacked
      : byte ≡ tfend
      → o ≡ unpacked_of largest count fend message
      → o ≡ after_escape_of largest count byte message
  unfolding after_escape_of
  an_escaped_fend_is_unpacked b e = rw b e

  pub an_escaped_fesc_is_unpacked
      : byte ≡ tfesc
      → o ≡ unpacked_of largest count fesc message
      → o ≡ after_escape_of largest count byte message
  unfolding after_escape_of
  an_escaped_fesc_is_unpacked b e = rw b e

  pub another_byte_is_a_fault
      : (byte ≡ tfend → ⊥) → (byte ≡ tfesc → ⊥) → o ≡ reception_of (taken_of Fault count) message → o ≡ after_escape_of largest count byte message
  unfolding after_escape_of
  another_byte_is_a_fault p q e = rw (ne_eqb byte tfend p, ne_eqb byte tfesc q) e

-- any byte; `o` is what the callee leaves
module _ (largest : ℕ) (receiver : Receiver) (byte : ℕ) (message : List ℕ) where
  module _ (o : Reception) (b : byte ≡ fend → ⊥) where
    inside : o ≡ inside_of largest receiver.place receiver.count byte message → o ≡ receive_of largest receiver byte message
    unfolding receive_of
    inside e = rw (ne_eqb byte fend b) e

    pub a_fresh_receiver_throws_away
        : receiver.place ≡ Fresh
        → o ≡ reception_of (taken_of receiver.place receiver.count) message
        → o ≡ receive_of largest receiver byte message
    unfolding inside_of
    a_fresh_receiver_throws_away p e = inside (rw p (rw p at e))

    pub a_faulty_run_throws_away
        : receiver.place ≡ Fault
        → o ≡ reception_of (taken_of receiver.place receiver.count) message
        → o ≡ receive_of largest receiver byte message
    unfolding inside_of
    a_faulty_run_throws_away p e = inside (rw p (rw p at e))

    pub a_fesc_is_remembered
        : receiver.place ≡ Run
        → byte ≡ fesc
        → o ≡ reception_of (taken_of Escape receiver.count) message
        → o ≡ receive_of largest receiver byte message
    unfolding inside_of
    a_fesc_is_remembered p f e = inside (rw (p, f) e)

    pub another_byte_is_unpacked
        : receiver.place ≡ Run
        → (byte ≡ fesc → ⊥)
        → o ≡ unpacked_of largest receiver.count byte message
        → o ≡ receive_of largest receiver byte message
    unfolding inside_of
    another_byte_is_unpacked p f e = inside (rw (p, ne_eqb byte fesc f) e)

    pub an_escape_is_completed
        : receiver.place ≡ Escape
        → o ≡ after_escape_of largest receiver.count byte message
        → o ≡ receive_of largest receiver byte message
    unfolding inside_of
    an_escape_is_completed p e = inside (rw p e)
