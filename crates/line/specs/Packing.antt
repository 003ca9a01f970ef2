-- Packing: a message as the line carries it (ICD 9.1), and the answers of packing alone (01, One byte in, one answer out).
use Rattle.std.specs.Prelude.{ℕ, cond, ◌||◌, Result, Ok, Err, List, [], ◌∷◌, ◌++◌, eqb, ltb, length, drop}
use Rattle.line.specs.Framing.{fend, fesc, tfend, tfesc}
use Rattle.line.specs.declared.packing.PackError.{PackError}
use Rattle.line.specs.declared.packing.PackError.TheVariants.{ShortReply, BadLength}

-- ICD 9.1: "Whenever FEND would occur within the message it is replaced by two bytes: FESC TFEND. Whenever FESC would occur within the
-- message it is replaced by FESC TFESC."
unfoldable pub escaped_of : ℕ → List ℕ
escaped_of byte = cond (eqb byte fend) (fesc ∷ tfend ∷ []) (cond (eqb byte fesc) (fesc ∷ tfesc ∷ []) (byte ∷ []))

-- what stands between the two FENDs
abbrev pub body_of : List ℕ → List ℕ
body_of [] = []
body_of (byte ∷ message) = escaped_of byte ++ body_of message

-- 01, The message: "packed with FEND at both ends"
abbrev pub packed_of : List ℕ → List ℕ
packed_of message = fend ∷ (body_of message ++ (fend ∷ []))

-- 01, The unit and its neighbours and The message: the shortest and the longest message, which a message buffer must hold, and the least
-- length of a reply buffer
abbrev pub shortest_message : ℕ
shortest_message = 5

abbrev pub message_size : ℕ
message_size = 1_033

abbrev pub reply_size : ℕ
reply_size = 2_068

-- what packing leaves: the answer's number in 01, the number of bytes sent, and the reply buffer
pub record Packing : Type 0 where
  pub answer : ℕ
  pub sent : ℕ
  pub reply : List ℕ

-- 01's number for each case of what `pack` gives back
abbrev pub pack_number_of : Result ℕ PackError → ℕ
pack_number_of (Ok n) = 0
pack_number_of (Err ShortReply) = 25
pack_number_of (Err BadLength) = 35

-- the bytes sent in each case of it
abbrev pub pack_sent_of : Result ℕ PackError → ℕ
pack_sent_of (Ok n) = n
pack_sent_of (Err ShortReply) = 0
pack_sent_of (Err BadLength) = 0

-- what `pack` gives back, with the reply buffer as it leaves it
abbrev pub packing_of : Result ℕ PackError → List ℕ → Packing
packing_of packed reply = record { answer = pack_number_of packed; sent = pack_sent_of packed; reply = reply }

-- 01, One byte in, one answer out: "Packing alone gives 25 for a reply buffer under 2,068 bytes, then 35, and writes nothing; else it
-- answers 0", and the packed message is the first part of the reply buffer, whose "other bytes .. are unchanged"
unfoldable pub pack_of : List ℕ → List ℕ → Packing
pack_of message reply =
    cond (ltb (length reply) reply_size)
    (record { answer = 25; sent = 0; reply = reply })
    (cond (ltb (length message) shortest_message || ltb message_size (length message))
    (record { answer = 35; sent = 0; reply = reply })
    (record { answer = 0; sent = length (packed_of message); reply = packed_of message ++ drop (length (packed_of message)) reply }))
