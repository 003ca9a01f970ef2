-- What a command comes to, and what its handler leaves: 01, "Commands" and "One byte in, one answer out". Assumes nothing.
use Rattle.std.specs.Prelude.{ℕ, Bool, ◌&&◌, List, leb, length, Option, Some, None, Result, Ok, Err}
use Rattle.memory.specs.Bytes.{begun}
use Rattle.carrying.specs.declared.CommandError.{CommandError}
use Rattle.carrying.specs.declared.CommandError.TheVariants.{Refused, Unfitted}

-- The longest data field of a message, and so of a reply, on any bus.
abbrev pub longest_data : ℕ
longest_data = 1028

-- A bus may allow less (02, T-06): its limit is 260 to 1,028, and the unit passes it to the commands as `room`. No less than 260, since a one-byte
-- count of 0 asks for 256 bytes behind an address of four.
abbrev pub least_limit : ℕ
least_limit = 260

abbrev pub is_limit : ℕ → Bool
is_limit limit = leb least_limit limit && leb limit longest_data

-- Done, with the reply's data and M afterwards; refused (answer 3 or 4); or an access to memory not fitted (answer 10). M is what
-- the command can change.
pub data Ending (M : Type 0) : Type 0 where
  done : List ℕ → M → Ending M
  refused : Ending M
  unfitted : Ending M

-- What a command comes to, as a handler says it: of what is done, how many bytes the reply's data has.
abbrev pub Ended : Type 0
Ended = Result ℕ CommandError

-- Which of the three.
abbrev pub ended_of : {M : Type 0} → Ending M → Ended
ended_of (done bytes after) = Ok (length bytes)
ended_of refused = Err Refused
ended_of unfitted = Err Unfitted

-- What a handler leaves: what its command came to, the reply buffer and the memory that was lent to it.
pub record Left (M : Type 0) : Type 0 where
  pub ended : Ended
  pub reply : List ℕ
  pub memory : M

abbrev pub left : {M : Type 0} → Ended → List ℕ → M → Left M
left ended reply memory = record { ended = ended; reply = reply; memory = memory }

-- The reply's data is the written first part of the reply buffer. Where a command is not done, nothing is written.
abbrev pub leaves : {M : Type 0} → Ending M → List ℕ → M → Left M
leaves (done bytes after) reply before = left (Ok (length bytes)) (begun reply bytes) after
leaves refused reply before = left (Err Refused) reply before
leaves unfitted reply before = left (Err Unfitted) reply before

-- A range of memory that must be fitted.
abbrev pub at_place : {M : Type 0} → Option ℕ → (ℕ → Ending M) → Ending M
at_place None f = unfitted
at_place (Some at) f = f at
