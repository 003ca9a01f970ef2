-- A run, from the FEND that opens it to the FEND that closes it: what is heard, counted and stored is what unpacking says on lists.
-- Assumes nothing.
use Prim.Native.Nat.{ℕ, ◌+◌, ◌<◌, ◌≤◌, min}
use mathlib.Core.Path.{◌≡◌, refl, sym, ◌∙◌, ap}
use mathlib.Core.Bool.{Bool, true, false, cond, true≢false}
use mathlib.Core.List.{List, [], ◌∷◌, ◌++◌}
use native.Mathlib.Nat.{zero-add, sub-zero}
use native.Mathlib.Omega.{arith}
use borrow.Author.Tests.{eqb-true, eqb-false}
use lib.Dec.{eqb}
use lib.ListN.{length, drop, replicate}
use Rattle.line.specs.Framing.{fend, fesc, tfend, tfesc}
use Rattle.line.specs.Receiver.{Reception, fresh, opened, closed_of, stored_of, counted_of, after_escape_of, receive_of, hearing, feed_of}
use Rattle.line.specs.Unpacking.{Unpacked, faulty, first, unpack_of, unpack_escaped_of, NoFend, heard_of, kept_of}
use Rattle.line.specs.declared.receiver.Place.{Place}
use Rattle.line.specs.declared.receiver.Place.TheVariants.{Run, Escape, Fault}
use Rattle.line.specs.declared.receiver.Heard.TheVariants.{Taken, Framing, Message}
use Rattle.line.specs.declared.receiver.Receiver.{Receiver}
use Rattle.line.proofs.Stores.{stores_from_the_start}
use Rattle.line.proofs.Receiving.{
  a_run_with_bytes_is_to_be_judged,
  an_escaped_fend_is_unpacked,
  an_escaped_fesc_is_unpacked,
  another_byte_is_a_fault,
  a_fresh_receiver_throws_away,
  a_faulty_run_throws_away,
  a_fesc_is_remembered,
  another_byte_is_unpacked,
  an_escape_is_completed,
}
use Rattle.line.proofs.Counting.{count_after, store_after, the_count_stops, the_stores_stop}

-- whatever the receiver was, what follows a FEND is read from one and the same record; what the FEND itself hears alone looks back
pub after_any_fend_what_follows_is_read_without_regard_to_the_run_before
    : (largest : ℕ) (receiver : Receiver) (bytes message : List ℕ)
    → feed_of largest receiver (fend ∷ bytes) message
    ≡ hearing (closed_of receiver.place receiver.count) (feed_of largest opened bytes message)
unfolding receive_of
after_any_fend_what_follows_is_read_without_regard_to_the_run_before largest receiver bytes message = refl

-- a run that came to its end without a fault has a byte to count, unless nothing came
abbrev Counted : Unpacked → Type 0
Counted unpacked = unpacked.fault ≡ false → 0 < length unpacked.bytes

either : (p : Bool) (x y : Unpacked) → Counted x → Counted y → Counted (cond p x y)
either true x y a b = a
either false x y a b = b

after_a_fault : Counted faulty
after_a_fault e = absurd (true≢false e)

after_a_byte : (byte : ℕ) (rest : Unpacked) → Counted (first byte rest)
after_a_byte byte rest e = omega arith

after_fesc_a_byte_or_a_fault : (run : List ℕ) → Counted (unpack_escaped_of run)
unfolding unpack_escaped_of
after_fesc_a_byte_or_a_fault [] = after_a_fault
after_fesc_a_byte_or_a_fault (byte ∷ run) =
    either (eqb byte tfend) _ _ (after_a_byte fend (unpack_of run))
    (either (eqb byte tfesc) _ _ (after_a_byte fesc (unpack_of run)) after_a_fault)

a_byte_or_a_fault : (byte : ℕ) (run : List ℕ) → Counted (unpack_of (byte ∷ run))
unfolding unpack_of
a_byte_or_a_fault byte run = either (eqb byte fesc) _ _ (after_fesc_a_byte_or_a_fault run) (after_a_byte byte (unpack_of run))

module _ (largest : ℕ) where
  -- what is left of a run and its FEND, from a place and a count
  abbrev Closes : Place → ℕ → List ℕ → List ℕ → Unpacked → Type 0
  Closes place count message run unpacked =
      feed_of largest (record { place = place; count = count }) (run ++ (fend ∷ [])) message
      ≡ record {
        receiver = opened;
        heard =
            replicate (length run) Taken
            ++ (cond unpacked.fault Framing (closed_of Run (count_after largest count (length unpacked.bytes))) ∷ []);
        message = store_after largest count unpacked.bytes message;
      }

  pub a_fresh_receiver_throws_away_everything_before_the_first_fend
      : (bytes : List ℕ)
      → NoFend bytes
      → (message : List ℕ)
      → feed_of largest fresh bytes message ≡ record { receiver = fresh; heard = replicate (length bytes) Taken; message = message }
  a_fresh_receiver_throws_away_everything_before_the_first_fend [] n message = refl
  a_fresh_receiver_throws_away_everything_before_the_first_fend (byte ∷ bytes) n message =
      rw (← a_fresh_receiver_throws_away largest fresh byte message _ n.0 refl refl)
      (ap (hearing Taken) (a_fresh_receiver_throws_away_everything_before_the_first_fend bytes n.1 message))

  from_a_fault : (run : List ℕ) → NoFend run → (count : ℕ) (message : List ℕ) → Closes Fault count message run faulty
  unfolding closed_of count_after store_after
  from_a_fault [] n count message = after_any_fend_what_follows_is_read_without_regard_to_the_run_before largest _ [] message
  from_a_fault (byte ∷ run) n count message =
      rw (← a_faulty_run_throws_away largest (record { place = Fault; count = count }) byte message _ n.0 refl refl)
      (ap (hearing Taken) (from_a_fault run n.1 count message))

  -- one byte more, from the place after FESC and from the place within a run
  module _ (byte : ℕ) (run : List ℕ) (n : NoFend (byte ∷ run)) (count : ℕ) (message : List ℕ) where
    abbrev Next : ℕ → Type 0
    Next unpacked = Closes Run (counted_of largest count) (stored_of largest count unpacked message) run (unpack_of run)

    completed
        : (o : Reception)
        → o ≡ after_escape_of largest count byte message
        → o ≡ receive_of largest (record { place = Escape; count = count }) byte message
    completed o e = an_escape_is_completed largest (record { place = Escape; count = count }) byte message o n.0 refl e

    not_tfend
        : (q : Bool)
        → eqb byte tfesc ≡ q
        → (byte ≡ tfend → ⊥)
        → Next fesc
        → Closes Escape count message (byte ∷ run) (cond q (first fesc (unpack_of run)) faulty)
    unfolding count_after store_after
    not_tfend true e f next =
        rw (← completed _ (an_escaped_fesc_is_unpacked largest count byte message _ (eqb-true byte tfesc e) refl))
        (ap (hearing Taken) next)
    not_tfend false e f next =
        rw (← completed _ (another_byte_is_a_fault largest count byte message _ f (eqb-false byte tfesc e) refl))
        (ap (hearing Taken) (from_a_fault run n.1 count message))

    after_fesc
        : (p : Bool)
        → eqb byte tfend ≡ p
        → Next fend
        → Next fesc
        → Closes Escape count message (byte ∷ run)
        (cond p (first fend (unpack_of run)) (cond (eqb byte tfesc) (first fesc (unpack_of run)) faulty))
    unfolding count_after store_after
    after_fesc true e next other =
        rw (← completed _ (an_escaped_fend_is_unpacked largest count byte message _ (eqb-true byte tfend e) refl))
        (ap (hearing Taken) next)
    after_fesc false e next other = not_tfend (eqb byte tfesc) refl (eqb-false byte tfend e) other

    within_a_run
        : (p : Bool)
        → eqb byte fesc ≡ p
        → Closes Escape count message run (unpack_escaped_of run)
        → Next byte
        → Closes Run count message (byte ∷ run) (cond p (unpack_escaped_of run) (first byte (unpack_of run)))
    unfolding count_after store_after
    within_a_run true e escape next =
        rw (← a_fesc_is_remembered largest (record { place = Run; count = count }) byte message _ n.0 refl (eqb-true byte fesc e) refl)
        (ap (hearing Taken) escape)
    within_a_run false e escape next =
        rw (← another_byte_is_unpacked largest (record { place = Run; count = count }) byte message _ n.0 refl (eqb-false byte fesc e) refl)
        (ap (hearing Taken) next)

  mutual
    unfolding closed_of count_after store_after unpack_of

    from_a_run : (run : List ℕ) → NoFend run → (count : ℕ) (message : List ℕ) → Closes Run count message run (unpack_of run)
    from_a_run [] n count message = after_any_fend_what_follows_is_read_without_regard_to_the_run_before largest _ [] message
    from_a_run (byte ∷ run) n count message =
        within_a_run byte run n count message (eqb byte fesc) refl
        (from_an_escape run n.1 count message)
        (from_a_run run n.1 (counted_of largest count) (stored_of largest count byte message))

    from_an_escape : (run : List ℕ) → NoFend run → (count : ℕ) (message : List ℕ) → Closes Escape count message run (unpack_escaped_of run)
    from_an_escape [] n count message = after_any_fend_what_follows_is_read_without_regard_to_the_run_before largest _ [] message
    from_an_escape (byte ∷ run) n count message =
        after_fesc byte run n count message (eqb byte tfend) refl
        (from_a_run run n.1 (counted_of largest count) (stored_of largest count fend message))
        (from_a_run run n.1 (counted_of largest count) (stored_of largest count fesc message))

  -- from the opening FEND on
  at_the_close
      : (fault : Bool) (k : ℕ)
      → (fault ≡ false → 0 < k)
      → cond fault Framing (closed_of Run (count_after largest 0 k)) ≡ cond fault Framing (Message (min k (largest + 1)))
  at_the_close true k h = refl
  at_the_close false k h =
      let some : 0 < k = h refl in
      let counts : count_after largest 0 k ≡ min k (largest + 1) = the_count_stops largest k 0 (omega arith) ∙ rw zero-add in
      rw counts (sym (a_run_with_bytes_is_to_be_judged Run (min k (largest + 1)) refl (λ z. omega arith)))

  heard_at_the_close
      : (run : List ℕ) → cond (unpack_of run).fault Framing (closed_of Run (count_after largest 0 (length (unpack_of run).bytes))) ≡ heard_of largest run
  unfolding heard_of unpack_of closed_of count_after
  heard_at_the_close [] = refl
  heard_at_the_close (byte ∷ run) = at_the_close _ _ (a_byte_or_a_fault byte run)

  pub a_closed_run_is_heard_counted_and_stored_as_it_unpacks
      : (run message : List ℕ)
      → NoFend run
      → length (kept_of largest run) ≤ length message
      → feed_of largest opened (run ++ (fend ∷ [])) message
      ≡ record {
        receiver = opened;
        heard = replicate (length run) Taken ++ (heard_of largest run ∷ []);
        message = kept_of largest run ++ drop (length (kept_of largest run)) message;
      }
  a_closed_run_is_heard_counted_and_stored_as_it_unpacks run message n h =
      from_a_run run n 0 message
      ∙ rw (heard_at_the_close run, the_stores_stop largest (unpack_of run).bytes 0 message, sub-zero, stores_from_the_start (kept_of largest run) message h)
