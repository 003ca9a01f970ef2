-- The message of a reply, and what is said to a command: 01, "The message" and "One byte in, one answer out"; ICD 10. Assumes nothing.
use Rattle.std.specs.Prelude.{ℕ, ◌+◌, ◌*◌, ◌/◌, ◌%◌, Bool, cond, Ok, Err, List, ◌∷◌, ◌++◌, leb, length}
use Rattle.crc.specs.Sum.{sum_of}
use Rattle.line.specs.Packing.{packed_of}
use Rattle.memory.specs.Bytes.{stretch, begun}
use Rattle.carrying.specs.declared.CommandError.TheVariants as failed
use Rattle.carrying.specs.Ending.{Ended, Ending, done, refused, unfitted}
use Rattle.answer.specs.declared.Answer.{Answer}
use Rattle.answer.specs.declared.Answer.TheVariants.{Acked, Done, Nacked, Refused, Unfitted}
use Rattle.field.specs.Fields.{bytes16}

-- Control: bit 7 poll/final, bit 6 B, bit 5 ACK, low five bits the code.
abbrev pub polls : ℕ → Bool
polls control = leb 128 control

abbrev pub code_of : ℕ → ℕ
code_of control = control % 32

-- Set bit 7, copy B and code. The ACK bit is 1 or 0.
abbrev pub reply_control : ℕ → ℕ → ℕ
reply_control ack control = 128 + control / 64 % 2 * 64 + ack * 32 + code_of control

-- Bytes with their CRC on them, low byte first.
unfoldable pub sealed : List ℕ → List ℕ
sealed bytes = bytes ++ bytes16 (sum_of bytes)

-- The reply to a message: the two addresses exchanged.
unfoldable pub reply_message : ℕ → ℕ → ℕ → ℕ → List ℕ → List ℕ
reply_message ack destination source control reply = sealed (source ∷ destination ∷ reply_control ack control ∷ reply)

-- The answer, and the reply buffer afterwards.
pub record Said : Type 0 where
  pub answer : Answer
  pub reply : List ℕ

abbrev pub said : Answer → List ℕ → Said
said answer reply = record { answer = answer; reply = reply }

-- Poll set: the message is packed, and is the written first part of the reply buffer. Poll clear: nothing is sent.
unfoldable pub saying : (ℕ → Answer) → Answer → ℕ → List ℕ → List ℕ → Said
saying sent silent control message reply =
    cond (polls control) (said (sent (length (packed_of message))) (begun reply (packed_of message))) (said silent reply)

-- What is said to a command, by what it comes to. `destination`, `source`, `control` and `field` are the command's. A NACK carries
-- the command's data with ACK clear.
unfoldable pub said_of : {M : Type 0} → ℕ → ℕ → ℕ → List ℕ → Ending M → List ℕ → Said
said_of destination source control field (done bytes after) reply = saying Acked Done control (reply_message 1 destination source control bytes) reply
said_of destination source control field refused reply = saying Nacked Refused control (reply_message 0 destination source control field) reply
said_of destination source control field unfitted reply = said Unfitted reply

-- What a handler came to, as an ending: the reply's data stands in `made` from place 3 on.
abbrev pub ending_of : Ended → List ℕ → Ending (Unit {0})
ending_of (Ok size) made = done (stretch 3 size made) tt
ending_of (Err failed.Refused) made = refused
ending_of (Err failed.Unfitted) made = unfitted
