-- What is said to a command that was carried out: one law for each way. Assumes nothing.
use mathlib.Core.Path.{◌≡◌, sym, ap, ◌∙◌}
use mathlib.Core.List.{List}
use Rattle.std.proofs.Common.{Err}
use Prim.Native.Nat.{ℕ, ◌-◌, ◌≤◌}
use native.Mathlib.Omega.{arith}
use borrow.Author.Tests.{le-leb}
use lib.ListN.{length, take, drop}
use Rattle.line.specs.Packing.{packed_of}
use Rattle.memory.specs.Bytes.{stretch, stored, begun}
use Rattle.memory.proofs.Stretches.{stretch_of_a_store, length_of_a_stretch}
use Rattle.carrying.specs.declared.CommandError.TheVariants as failed
use Rattle.carrying.specs.Ending.{Ended}
use Rattle.answer.specs.declared.Answer.TheVariants.{Nacked}
use Rattle.replying.specs.Replies.{reply_message, said, saying, said_of, ending_of}

module _ (ended : Ended) (destination source control : ℕ) (field made reply : List ℕ) where
  pub refused_aloud : (n : ℕ) (after : List ℕ) → ended ≡ Err failed.Refused → 128 ≤ control → n ≡ length (packed_of (reply_message 0 destination source control field))
      → after ≡ begun reply (packed_of (reply_message 0 destination source control field))
      → said (Nacked n) after ≡ said_of destination source control field (ending_of ended made) reply
  unfolding said_of saying
  refused_aloud n after e polled size written = simp (e, le-leb 128 control polled, size, written)

-- the command's data, put into the scratch, stands there
pub the_field_stands : (made message filled : List ℕ) (count : ℕ) → 5 ≤ count → count ≤ length message → 3 ≤ length made
    → filled ≡ stored made 3 (take (count - 2 - 3) (drop 3 message)) → stretch 3 (count - 2 - 3) filled ≡ stretch 3 (count - 5) message
the_field_stands made message filled count enough fits room e =
    let size : count - 2 - 3 ≡ count - 5 = omega arith in
    let whole : length (stretch 3 (count - 5) message) ≡ count - 5 = length_of_a_stretch message 3 (count - 5) (omega arith) in
    ap (λ (n : ℕ). stretch 3 n filled) size
    ∙ ap (stretch 3 (count - 5)) (e ∙ ap (λ (n : ℕ). stored made 3 (take n (drop 3 message))) size)
    ∙ ap (λ (n : ℕ). stretch 3 n (stored made 3 (stretch 3 (count - 5) message))) (sym whole)
    ∙ stretch_of_a_store made 3 (stretch 3 (count - 5) message) room
