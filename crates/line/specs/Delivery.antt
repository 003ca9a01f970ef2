-- What the round trip promises (01, The message): a packed message "received from a fresh start, or after any FEND, into a message buffer
-- nobody else alters, .. stands there byte for byte when the closing FEND comes, with its length as the count".
use Rattle.std.specs.Prelude.{ℕ, List, [], ◌∷◌, ◌++◌, length, drop, replicate}
use Rattle.line.specs.Receiver.{opened, closed_of, Feed}
use Rattle.line.specs.Packing.{body_of}
use Rattle.line.specs.declared.receiver.Heard.TheVariants.{Taken, Message}
use Rattle.line.specs.declared.receiver.Receiver.{Receiver}

-- `message` packed, fed to `receiver`, into `buffer`: its first FEND closes what `receiver` had open, or opens the first run of a fresh
-- one; all is taken up to the last FEND, which hears the whole message; and no byte of the buffer behind it changes
abbrev pub delivered_of : Receiver → List ℕ → List ℕ → Feed
delivered_of receiver message buffer = record {
  receiver = opened;
  heard = closed_of receiver.place receiver.count ∷ (replicate (length (body_of message)) Taken ++ (Message (length message) ∷ []));
  message = message ++ drop (length message) buffer;
}
