-- The line's share of 01's small examples, and the edges of "The line", by computation, with the largest message of 01.
-- Assumes nothing.
use Prim.Native.Nat.{ℕ}
use mathlib.Core.Path.{◌≡◌, refl}
use mathlib.Core.Bool.{true, false}
use mathlib.Core.List.{List, [], ◌∷◌, ◌++◌}
use lib.ListN.{replicate}
use Rattle.line.specs.Receiver.{fresh, receive_of, inside_of, after_escape_of, closed_of, stored_of, counted_of, feed_of}
use Rattle.line.specs.Unpacking.{unpack_of}
use Rattle.line.specs.Packing.{message_size, escaped_of, packed_of, pack_of}
use Rattle.line.specs.declared.receiver.Heard.{Heard}
use Rattle.line.specs.declared.receiver.Heard.TheVariants.{Taken, Empty, Framing, Message}

-- P7: DB DC, DB DD, DB 00
pub p7
    : (unpack_of (0xDB ∷ 0xDC ∷ []) ≡ record { bytes = 0xC0 ∷ []; fault = false })
    × (unpack_of (0xDB ∷ 0xDD ∷ []) ≡ record { bytes = 0xDB ∷ []; fault = false })
    × (unpack_of (0xDB ∷ 0x00 ∷ []) ≡ record { bytes = []; fault = true })
unfolding unpack_of
p7 = (refl, refl, refl)

-- what a fresh receiver hears of `bytes`, into a buffer of zeros
abbrev heard : List ℕ → List Heard
heard bytes = (feed_of message_size fresh bytes (replicate message_size 0)).heard

-- P9, the line's half: an empty run, and a count of 4, which is a runt
pub p9
    : (heard (0xC0 ∷ 0xC0 ∷ []) ≡ Taken ∷ Empty ∷ [])
    × (heard (0xC0 ∷ 0x01 ∷ 0x02 ∷ 0x03 ∷ 0x04 ∷ 0xC0 ∷ []) ≡ Taken ∷ Taken ∷ Taken ∷ Taken ∷ Taken ∷ Message 4 ∷ [])
unfolding receive_of inside_of closed_of stored_of counted_of
p9 = (refl, refl)

-- "a FEND after FESC is a fault and still closes the run"
pub fesc_fend : heard (0xC0 ∷ 0xDB ∷ 0xC0 ∷ 0xC0 ∷ []) ≡ Taken ∷ Taken ∷ Framing ∷ Empty ∷ []
unfolding receive_of inside_of closed_of
fesc_fend = refl

pub fesc_fesc : heard (0xC0 ∷ 0xDB ∷ 0xDB ∷ 0xDC ∷ 0xC0 ∷ []) ≡ Taken ∷ Taken ∷ Taken ∷ Taken ∷ Framing ∷ []
unfolding receive_of inside_of after_escape_of closed_of
fesc_fesc = refl

-- before the first FEND nothing means anything
pub fesc_before_the_first_fend : heard (0xDB ∷ 0xC0 ∷ 0x01 ∷ 0xC0 ∷ []) ≡ Taken ∷ Taken ∷ Taken ∷ Message 1 ∷ []
unfolding receive_of inside_of closed_of stored_of counted_of
fesc_before_the_first_fend = refl

-- `n` bytes 0x41 and `more`, between FENDs
abbrev run : ℕ → List ℕ → List ℕ
run n more = 0xC0 ∷ (replicate n 0x41 ++ (more ++ (0xC0 ∷ [])))

pub a_message_of_1033 : heard (run 1_033 []) ≡ replicate 1_034 Taken ++ (Message 1_033 ∷ [])
unfolding receive_of inside_of closed_of stored_of counted_of
a_message_of_1033 = refl

pub one_of_1034 : heard (run 1_034 []) ≡ replicate 1_035 Taken ++ (Message 1_034 ∷ [])
unfolding receive_of inside_of closed_of stored_of counted_of
one_of_1034 = refl

pub one_of_1040_counts_no_further : heard (run 1_040 []) ≡ replicate 1_041 Taken ++ (Message 1_034 ∷ [])
unfolding receive_of inside_of closed_of stored_of counted_of
one_of_1040_counts_no_further = refl

pub a_fault_at_the_1035th_byte : heard (run 1_034 (0xDB ∷ 0x00 ∷ [])) ≡ replicate 1_037 Taken ++ (Framing ∷ [])
unfolding receive_of inside_of after_escape_of closed_of stored_of counted_of
a_fault_at_the_1035th_byte = refl

pub the_1034th_byte_is_not_stored
    : (feed_of message_size fresh (run 1_034 []) (replicate 1_040 0)).message ≡ replicate 1_033 0x41 ++ replicate 7 0
unfolding receive_of inside_of closed_of stored_of counted_of
the_1034th_byte_is_not_stored = refl

-- ICD 9.1
pub fend_and_fesc_are_escaped : packed_of (0x41 ∷ 0xC0 ∷ 0xDB ∷ []) ≡ 0xC0 ∷ 0x41 ∷ 0xDB ∷ 0xDC ∷ 0xDB ∷ 0xDD ∷ 0xC0 ∷ []
unfolding escaped_of
fend_and_fesc_are_escaped = refl

pub a_reply_buffer_of_2067_is_25 : (pack_of (replicate 5 0) (replicate 2_067 0)).answer ≡ 25
unfolding pack_of
a_reply_buffer_of_2067_is_25 = refl

pub a_message_of_4_is_35 : (pack_of (replicate 4 0) (replicate 2_068 0)).answer ≡ 35
unfolding pack_of
a_message_of_4_is_35 = refl

pub a_message_of_1034_is_35 : (pack_of (replicate 1_034 0) (replicate 2_068 0)).answer ≡ 35
unfolding pack_of
a_message_of_1034_is_35 = refl

pub the_longest_of_all_fend_fills_the_room : (pack_of (replicate 1_033 0xC0) (replicate 2_068 0)).sent ≡ 2_068
unfolding pack_of escaped_of
the_longest_of_all_fend_fills_the_room = refl
