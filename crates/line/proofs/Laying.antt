-- Writing a packed message into the reply buffer, byte for byte: what one byte does, what the loop keeps, and what stands there at
-- the end.
-- Assumes nothing.
use Prim.Native.Nat.{ℕ, suc, ◌+◌, ◌<◌, ◌≤◌}
use mathlib.Core.Path.{◌≡◌, sym, ◌∙◌, ap}
use mathlib.Core.List.{List, [], ◌∷◌, ◌++◌, append_assoc}
use native.Mathlib.Numerals.{add-one}
use native.Mathlib.Omega.{arith}
use borrow.Author.Tests.{lt-ltb, le-ltb}
use Rattle.std.proofs.Common.{Ok, Err}
use lib.ListN.{length, get_or, set, drop, length-append, drop_of_length-le}
use lib.Seq.{sets, length-sets, drop-cons}
use Rattle.line.specs.Framing.{fend}
use Rattle.line.specs.Packing.{escaped_of, body_of, packed_of, shortest_message, message_size, reply_size, packing_of, pack_of}
use Rattle.line.specs.declared.packing.PackError.TheVariants.{ShortReply, BadLength}
use Rattle.line.proofs.Stores.{stores_follow_stores, stores_from_the_start}
use Rattle.line.proofs.Escaping.{an_escaped_byte_is_one_or_two, the_room_is_enough_for_the_longest}

-- what is still to be written when `i` bytes of the message are
abbrev pub left_of : List ℕ → ℕ → List ℕ
left_of message i = body_of (drop i message) ++ (fend ∷ [])

-- writing what is left from `at` gives what the whole gives
pub record Laid (message start reply : List ℕ) (at i : ℕ) : Type 0 where
  pub within : i ≤ length message
  pub long : length reply ≡ length start
  pub place : at + length (left_of message i) ≡ length (packed_of message)
  pub left : sets reply at (left_of message i) ≡ sets start 1 (left_of message 0)

next_of
    : (message : List ℕ) (i : ℕ) → i < length message → left_of message i ≡ escaped_of (get_or message i 0) ++ left_of message (i + 1)
next_of message i h =
    rw (drop-cons message i 0 h, add-one)
    (append_assoc (escaped_of (get_or message i 0)) (body_of (drop (suc i) message)) (fend ∷ []))

module _ (message start reply : List ℕ) (at i : ℕ) (laid : Laid message start reply at i) where
  module _ (h : i < length message) where
    pub a_byte_finds_room : length message ≤ message_size → at + 1 < reply_size
    a_byte_finds_room m =
        omega (
          arith,
          laid.place,
          ap length (next_of message i h),
          length-append (escaped_of (get_or message i 0)) (left_of message (i + 1)),
          length-append (body_of (drop (i + 1) message)) (fend ∷ []),
          an_escaped_byte_is_one_or_two (get_or message i 0),
          the_room_is_enough_for_the_longest message m,
        )

    pub a_byte_more_is_laid
        : (next : ℕ) (after : List ℕ)
        → next ≡ at + length (escaped_of (get_or message i 0))
        → after ≡ sets reply at (escaped_of (get_or message i 0))
        → Laid message start after next (i + 1)
    a_byte_more_is_laid next after n a = record {
      within = omega arith;
      long = ap length a ∙ length-sets reply at (escaped_of (get_or message i 0)) ∙ laid.long;
      place =
          omega (
            arith,
            n,
            laid.place,
            ap length (next_of message i h),
            length-append (escaped_of (get_or message i 0)) (left_of message (i + 1)),
          );
      left =
          rw (n, a)
          (sym (stores_follow_stores reply at (escaped_of (get_or message i 0)) (left_of message (i + 1)))
          ∙ ap (sets reply at) (sym (next_of message i h))
          ∙ laid.left);
    }

  module _ (h : length message ≤ i) where
    nothing_is_left : left_of message i ≡ fend ∷ []
    nothing_is_left = rw (drop_of_length-le message h)

    pub the_last_place : at + 1 ≡ length (packed_of message)
    the_last_place = omega (arith, laid.place, ap length nothing_is_left)

    pub the_last_byte_is_within_the_room : length message ≤ message_size → at < reply_size
    the_last_byte_is_within_the_room m = omega (arith, the_last_place, the_room_is_enough_for_the_longest message m)

    pub all_is_laid : set reply at fend ≡ sets start 1 (left_of message 0)
    all_is_laid = ap (sets reply at) (sym nothing_is_left) ∙ laid.left

-- the answers of packing alone, in the order of the tests
module _ (message reply : List ℕ) where
  pub a_short_reply_buffer_is_refused : length reply < reply_size → packing_of (Err ShortReply) reply ≡ pack_of message reply
  unfolding pack_of
  a_short_reply_buffer_is_refused r = rw (lt-ltb (length reply) reply_size r)

  module _ (roomy : reply_size ≤ length reply) where
    pub a_short_message_is_refused : length message < shortest_message → packing_of (Err BadLength) reply ≡ pack_of message reply
    unfolding pack_of
    a_short_message_is_refused s = rw (le-ltb (length reply) reply_size roomy, lt-ltb (length message) shortest_message s)

    module _ (long_enough : shortest_message ≤ length message) where
      pub a_long_message_is_refused : message_size < length message → packing_of (Err BadLength) reply ≡ pack_of message reply
      unfolding pack_of
      a_long_message_is_refused l =
          rw (le-ltb (length reply) reply_size roomy, le-ltb (length message) shortest_message long_enough, lt-ltb message_size (length message) l)

      module _ (short_enough : length message ≤ message_size) where
        pub a_message_of_legal_length_is_packed
            : pack_of message reply
            ≡ record { answer = 0; sent = length (packed_of message); reply = packed_of message ++ drop (length (packed_of message)) reply }
        unfolding pack_of
        a_message_of_legal_length_is_packed =
            rw (le-ltb (length reply) reply_size roomy, le-ltb (length message) shortest_message long_enough, le-ltb message_size (length message) short_enough)

        pub a_laid_message_is_sent
            : (n : ℕ) (written : List ℕ)
            → n ≡ length (packed_of message)
            → written ≡ sets reply 0 (packed_of message)
            → packing_of (Ok n) written ≡ pack_of message reply
        a_laid_message_is_sent n written e w =
            let fits : length (packed_of message) ≤ length reply =
            omega (arith, the_room_is_enough_for_the_longest message short_enough)
            in
            rw (e, w, stores_from_the_start (packed_of message) reply fits) (sym a_message_of_legal_length_is_packed)
