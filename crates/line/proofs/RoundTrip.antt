-- What is packed is received back: a packed message has no FEND between its ends and unpacks to itself, so the receiver, which hears a
-- run as it unpacks, hears the message.
-- Assumes nothing.
use Prim.Native.Nat.{ℕ, ◌+◌, ◌<◌, ◌≤◌, min}
use mathlib.Core.Path.{◌≡◌, refl, ◌∙◌, ap}
use mathlib.Core.Bool.{false}
use mathlib.Core.List.{List, [], ◌∷◌, ◌++◌}
use native.Mathlib.Omega.{arith}
use borrow.Author.Tests.{ne_eqb, eqb-false}
use lib.ListN.{length, take, drop, replicate}
use lib.Seq.{take_all, take-append_seam}
use Rattle.line.specs.Framing.{fend, fesc, tfend, tfesc}
use Rattle.line.specs.Receiver.{opened, closed_of, hearing, feed_of}
use Rattle.line.specs.Unpacking.{Unpacked, first, unpack_of, NoFend, heard_of, kept_of}
use Rattle.line.specs.Packing.{escaped_of, body_of, packed_of, shortest_message, message_size, reply_size, Packing, pack_number_of, pack_sent_of, packing_of, pack_of}
use Rattle.line.specs.Delivery.{delivered_of}
use Rattle.line.specs.declared.receiver.Heard.TheVariants.{Taken, Message}
use Rattle.line.specs.declared.receiver.Receiver.{Receiver}
use Rattle.std.proofs.Common.{Result}
use Rattle.line.specs.declared.packing.PackError.{PackError}
use Rattle.line.proofs.Escaping.{a_byte_is_escaped_in_one_of_three_ways}
use Rattle.line.proofs.Laying.{a_message_of_legal_length_is_packed}
use Rattle.line.proofs.Runs.{
  after_any_fend_what_follows_is_read_without_regard_to_the_run_before,
  a_closed_run_is_heard_counted_and_stored_as_it_unpacks,
}

an_escaped_byte_unpacks_to_itself : (byte : ℕ) (rest : List ℕ) → unpack_of (escaped_of byte ++ rest) ≡ first byte (unpack_of rest)
unfolding unpack_of
an_escaped_byte_unpacks_to_itself byte rest =
    a_byte_is_escaped_in_one_of_three_ways (λ (l : List ℕ). unpack_of (l ++ rest) ≡ first byte (unpack_of rest)) byte
    (λ e. rw e)
    (λ e. rw e)
    (λ f g. rw (ne_eqb byte fesc g))

pub a_body_unpacks_to_its_message : (message : List ℕ) → unpack_of (body_of message) ≡ record { bytes = message; fault = false }
unfolding unpack_of
a_body_unpacks_to_its_message [] = refl
a_body_unpacks_to_its_message (byte ∷ message) =
    an_escaped_byte_unpacks_to_itself byte (body_of message) ∙ ap (first byte) (a_body_unpacks_to_its_message message)

an_escaped_byte_has_no_fend : (byte : ℕ) (rest : List ℕ) → NoFend rest → NoFend (escaped_of byte ++ rest)
an_escaped_byte_has_no_fend byte rest n =
    a_byte_is_escaped_in_one_of_three_ways (λ (l : List ℕ). NoFend (l ++ rest)) byte
    (λ e. (eqb-false fesc fend refl, (eqb-false tfend fend refl, n)))
    (λ e. (eqb-false fesc fend refl, (eqb-false tfesc fend refl, n)))
    (λ f g. (f, n))

pub a_body_has_no_fend : (message : List ℕ) → NoFend (body_of message)
a_body_has_no_fend [] = tt
a_body_has_no_fend (byte ∷ message) = an_escaped_byte_has_no_fend byte (body_of message) (a_body_has_no_fend message)

-- a run that unpacks to bytes is a count to judge
pub sound_at_the_close
    : (largest : ℕ) (run bytes : List ℕ)
    → unpack_of run ≡ record { bytes = bytes; fault = false }
    → 0 < length bytes
    → heard_of largest run ≡ Message (min (length bytes) (largest + 1))
unfolding heard_of unpack_of
sound_at_the_close largest [] bytes e h = absurd (omega (arith, ap (λ (u : Unpacked). length u.bytes) e))
sound_at_the_close largest (byte ∷ run) bytes e h = rw e

module _
    (largest : ℕ)
    (message buffer : List ℕ)
    (some : 0 < length message)
    (within : length message ≤ largest)
    (fits : length message ≤ length buffer)
  where
    -- after the FEND that opens the run, whichever run it closed
    pub a_body_after_any_fend_is_received_as_its_message
        : feed_of largest opened (body_of message ++ (fend ∷ [])) buffer
        ≡ record {
          receiver = opened;
          heard = replicate (length (body_of message)) Taken ++ (Message (length message) ∷ []);
          message = message ++ drop (length message) buffer;
        }
    a_body_after_any_fend_is_received_as_its_message =
        let unpacks = a_body_unpacks_to_its_message message in
        let kept : kept_of largest (body_of message) ≡ message = rw (unpacks, take_all) in
        let counted : min (length message) (largest + 1) ≡ length message = omega arith in
        let heard : heard_of largest (body_of message) ≡ Message (length message) =
        sound_at_the_close largest (body_of message) message unpacks some ∙ rw counted
        in
        a_closed_run_is_heard_counted_and_stored_as_it_unpacks largest (body_of message) buffer (a_body_has_no_fend message) (rw kept fits)
        ∙ rw (kept, heard)

    pub what_is_packed_is_received_back
        : (receiver : Receiver) → feed_of largest receiver (packed_of message) buffer ≡ delivered_of receiver message buffer
    what_is_packed_is_received_back receiver =
        after_any_fend_what_follows_is_read_without_regard_to_the_run_before largest receiver (body_of message ++ (fend ∷ [])) buffer
        ∙ ap (hearing (closed_of receiver.place receiver.count)) a_body_after_any_fend_is_received_as_its_message

-- the contracts one after the other: `packed` and `written` are any answer and reply buffer that `pack` may leave of a message of legal
-- length, and `sent` hands back the first bytes of that buffer, as many as the answer says
module _
    (message reply : List ℕ)
    (long_enough : shortest_message ≤ length message)
    (short_enough : length message ≤ message_size)
    (roomy : reply_size ≤ length reply)
    (packed : Result ℕ PackError)
    (written : List ℕ)
    (allowed : packing_of packed written ≡ pack_of message reply)
  where
    pub what_pack_sends_is_the_packed_message : (pack_number_of packed ≡ 0) × (take (pack_sent_of packed) written ≡ packed_of message)
    what_pack_sends_is_the_packed_message =
        let whole = allowed ∙ a_message_of_legal_length_is_packed message reply roomy long_enough short_enough in (
          ap (λ (p : Packing). p.answer) whole,
          ap (λ (p : Packing). take p.sent p.reply) whole ∙ take-append_seam (packed_of message) (drop (length (packed_of message)) reply),
        )

    pub what_pack_sends_is_received_back
        : (largest : ℕ) (receiver : Receiver) (buffer : List ℕ)
        → length message ≤ largest
        → length message ≤ length buffer
        → feed_of largest receiver (take (pack_sent_of packed) written) buffer ≡ delivered_of receiver message buffer
    what_pack_sends_is_received_back largest receiver buffer within fits =
        rw what_pack_sends_is_the_packed_message.1 (what_is_packed_is_received_back largest message buffer (omega arith) within fits receiver)
