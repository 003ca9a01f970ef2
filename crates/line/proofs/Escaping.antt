-- What escaping does to a byte and to a message: the three ways, and how long the result is.
-- Assumes nothing.
use Prim.Native.Nat.{ℕ, ◌+◌, ◌*◌, ◌≤◌}
use mathlib.Core.Path.{◌≡◌}
use mathlib.Core.Logic.{⊎_elim}
use mathlib.Core.List.{List, [], ◌∷◌}
use native.Mathlib.Omega.{arith}
use borrow.Author.Tests.{ne_eqb}
use lib.ListN.{length, length-append}
use Rattle.line.specs.Framing.{fend, fesc, tfend, tfesc}
use Rattle.line.specs.Packing.{escaped_of, body_of, packed_of, message_size, reply_size}
use Rattle.line.proofs.Cases.{equal_or_not}

pub fend_is_escaped : (byte : ℕ) → byte ≡ fend → escaped_of byte ≡ fesc ∷ tfend ∷ []
unfolding escaped_of
fend_is_escaped byte e = rw e

pub fesc_is_escaped : (byte : ℕ) → byte ≡ fesc → escaped_of byte ≡ fesc ∷ tfesc ∷ []
unfolding escaped_of
fesc_is_escaped byte e = rw e

pub another_byte_stands_for_itself : (byte : ℕ) → (byte ≡ fend → ⊥) → (byte ≡ fesc → ⊥) → escaped_of byte ≡ byte ∷ []
unfolding escaped_of
another_byte_stands_for_itself byte a b = rw (ne_eqb byte fend a, ne_eqb byte fesc b)

-- whatever holds in each of the three ways holds of the escaped byte
pub a_byte_is_escaped_in_one_of_three_ways
    : (P : List ℕ → Type 0) (byte : ℕ)
    → (byte ≡ fend → P (fesc ∷ tfend ∷ []))
    → (byte ≡ fesc → P (fesc ∷ tfesc ∷ []))
    → ((byte ≡ fend → ⊥) → (byte ≡ fesc → ⊥) → P (byte ∷ []))
    → P (escaped_of byte)
a_byte_is_escaped_in_one_of_three_ways P byte a b z =
    ⊎_elim
    (λ e. rw (fend_is_escaped byte e) (a e))
    (λ f.
    ⊎_elim
    (λ e. rw (fesc_is_escaped byte e) (b e))
    (λ g. rw (another_byte_stands_for_itself byte f g) (z f g))
    (equal_or_not byte fesc))
    (equal_or_not byte fend)

pub an_escaped_byte_is_one_or_two : (byte : ℕ) → (1 ≤ length (escaped_of byte)) × (length (escaped_of byte) ≤ 2)
an_escaped_byte_is_one_or_two byte =
    a_byte_is_escaped_in_one_of_three_ways (λ (l : List ℕ). (1 ≤ length l) × (length l ≤ 2)) byte
    (λ e. omega arith)
    (λ e. omega arith)
    (λ e f. omega arith)

a_body_is_at_most_twice_its_message : (message : List ℕ) → length (body_of message) ≤ 2 * length message
a_body_is_at_most_twice_its_message [] = omega arith
a_body_is_at_most_twice_its_message (byte ∷ message) =
    omega (
      arith,
      length-append (escaped_of byte) (body_of message),
      an_escaped_byte_is_one_or_two byte,
      a_body_is_at_most_twice_its_message message,
    )

pub a_packed_message_is_at_most_twice_its_length_and_two : (message : List ℕ) → length (packed_of message) ≤ 2 * length message + 2
a_packed_message_is_at_most_twice_its_length_and_two message =
    omega (arith, length-append (body_of message) (fend ∷ []), a_body_is_at_most_twice_its_message message)

pub the_room_is_enough_for_the_longest : (message : List ℕ) → length message ≤ message_size → length (packed_of message) ≤ reply_size
the_room_is_enough_for_the_longest message h = omega (arith, a_packed_message_is_at_most_twice_its_length_and_two message)
