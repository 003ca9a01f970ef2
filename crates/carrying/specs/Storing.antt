-- What a command that reads comes to after another has stored, said by what it came to before: 01, "Commands" and "How tight the
-- contracts are" (one that never stores). Assumes nothing.
use Rattle.std.specs.Prelude.{ℕ, List, ◌++◌, take, drop}
use Rattle.memory.specs.Bytes.{overlaid}
use Rattle.carrying.specs.Ending.{Ending, done, refused, unfitted}

-- The same ending, with other data in the reply of a command that is done.
abbrev pub with_data : {M : Type 0} → (List ℕ → List ℕ) → Ending M → Ending M
with_data f (done reply after) = done (f reply) after
with_data f refused = refused
with_data f unfitted = unfitted

-- A reply's data that shows an address, in `head` bytes, and what stands from that address, `from`, on: the bytes that were stored from `at` on,
-- and elsewhere those that stood there.
abbrev pub shown_after : ℕ → ℕ → List ℕ → ℕ → List ℕ → List ℕ
shown_after head at bytes from reply = take head reply ++ overlaid at bytes from (drop head reply)
