-- What one byte from the line does: the next receiver, what was heard, and the message buffer afterwards. `largest` is the length of the
-- largest message that is taken, 1,033 in 01. What stands in quotes is 01, The line.
use Rattle.std.specs.Prelude.{ℕ, ◌+◌, cond, List, [], ◌∷◌, eqb, leb, ltb, set}
use Rattle.line.specs.Framing.{fend, fesc, tfend, tfesc}
use Rattle.line.specs.declared.receiver.Place.{Place}
use Rattle.line.specs.declared.receiver.Place.TheVariants.{Fresh, Run, Escape, Fault}
use Rattle.line.specs.declared.receiver.Heard.{Heard}
use Rattle.line.specs.declared.receiver.Heard.TheVariants.{Taken, Empty, Framing, Message}
use Rattle.line.specs.declared.receiver.Receiver.{Receiver}
use Rattle.line.specs.declared.receiver.Received.{Received}

-- what one byte leaves
pub record Reception : Type 0 where
  pub receiver : Receiver
  pub heard : Heard
  pub message : List ℕ

-- what `receive` gives back, with the message buffer as it leaves it
abbrev pub reception_of : Received → List ℕ → Reception
reception_of r message = record { receiver = r.receiver; heard = r.heard; message = message }

-- "a fresh receiver": no FEND has come
abbrev pub fresh : Receiver
fresh = record { place = Fresh; count = 0 }

-- the receiver after any FEND
abbrev pub opened : Receiver
opened = record { place = Run; count = 0 }

-- a byte that closes no run
abbrev pub taken_of : Place → ℕ → Received
taken_of place count = record { receiver = record { place = place; count = count }; heard = Taken }

-- "Each later FEND closes one run and opens the next", and what it closes is empty, framing, or a count to judge: "Empty means that no
-- byte at all came between the two FENDs"; "a FEND after FESC is a fault and still closes the run". The first FEND closes nothing.
unfoldable pub closed_of : Place → ℕ → Heard
closed_of Fresh count = Taken
closed_of Run count = cond (eqb count 0) Empty (Message count)
closed_of Escape count = Framing
closed_of Fault count = Framing

-- "The message buffer takes unpacked bytes from its start; the 1,034th and later ones .. are not stored." A buffer that is too short
-- for a byte is left as it is: `set` past the end changes nothing.
unfoldable pub stored_of : ℕ → ℕ → ℕ → List ℕ → List ℕ
stored_of largest count byte message = cond (ltb count largest) (set message count byte) message

-- "The count stops at 1,034"; a count that is higher still stays
unfoldable pub counted_of : ℕ → ℕ → ℕ
counted_of largest count = cond (leb count largest) (count + 1) count

-- one unpacked byte, counted and stored
abbrev pub unpacked_of : ℕ → ℕ → ℕ → List ℕ → Reception
unpacked_of largest count byte message = reception_of (taken_of Run (counted_of largest count)) (stored_of largest count byte message)

-- "FESC TFEND is the byte 0xC0, FESC TFESC is 0xDB; FESC and anything else is a framing fault"; the count stops at the fault
unfoldable pub after_escape_of : ℕ → ℕ → ℕ → List ℕ → Reception
after_escape_of largest count byte message =
    cond (eqb byte tfend)
    (unpacked_of largest count fend message)
    (cond (eqb byte tfesc)
    (unpacked_of largest count fesc message)
    (reception_of (taken_of Fault count) message))

-- a byte other than FEND: "a fresh receiver throws away everything before the first FEND, uncounted"; bytes "after a framing fault, are
-- not stored", and nothing in them means anything
unfoldable pub inside_of : ℕ → Place → ℕ → ℕ → List ℕ → Reception
inside_of largest Fresh count byte message = reception_of (taken_of Fresh count) message
inside_of largest Run count byte message =
    cond (eqb byte fesc) (reception_of (taken_of Escape count) message) (unpacked_of largest count byte message)
inside_of largest Escape count byte message = after_escape_of largest count byte message
inside_of largest Fault count byte message = reception_of (taken_of Fault count) message

-- one byte: "closing a run stores nothing in the message buffer. After any FEND, what follows is read without regard to the run before it."
unfoldable pub receive_of : ℕ → Receiver → ℕ → List ℕ → Reception
receive_of largest receiver byte message =
    cond (eqb byte fend)
    (record { receiver = opened; heard = closed_of receiver.place receiver.count; message = message })
    (inside_of largest receiver.place receiver.count byte message)

-- what bytes one after the other leave, into a message buffer that nobody else alters, with what was heard at each
pub record Feed : Type 0 where
  pub receiver : Receiver
  pub heard : List Heard
  pub message : List ℕ

-- the same, after one byte more at which this was heard
abbrev pub hearing : Heard → Feed → Feed
hearing heard rest = record { receiver = rest.receiver; heard = heard ∷ rest.heard; message = rest.message }

-- the bytes one by one, each from where the one before it left the receiver and the buffer
abbrev pub feed_of : ℕ → Receiver → List ℕ → List ℕ → Feed
feed_of largest receiver [] message = record { receiver = receiver; heard = []; message = message }
feed_of largest receiver (byte ∷ bytes) message =
    let next = receive_of largest receiver byte message in
    hearing next.heard (feed_of largest next.receiver bytes next.message)
