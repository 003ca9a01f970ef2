-- What becomes of a reply, and what is said on which port: 02, T-01. What stands in quotes is 02. Assumes nothing.
use Rattle.std.specs.Prelude.{ℕ, Bool, true, false, cond, Ok, Err, List}
use Rattle.carrying.specs.declared.CommandError.TheVariants as failed
use Rattle.carrying.specs.Ending.{Ended, Ending, ended_of}
use Rattle.answer.specs.declared.Answer.{Answer}
use Rattle.answer.specs.declared.Answer.TheVariants.{Done, Refused, Unfitted}
use Rattle.ports.specs.declared.Side.{Side}
use Rattle.ports.specs.declared.Fate.{Fate}
use Rattle.ports.specs.declared.Fate.TheVariants.{Nothing, Lost, Leaves}
use Rattle.ports.specs.declared.Both.{Both}
use Rattle.ports.specs.Sides.{of_side, put}
use Rattle.replying.specs.Replies.{polls, said_of}

-- Poll set: "a reply for a sending port is lost", and any other leaves. Poll clear: there is none.
abbrev pub fate_of_reply : ℕ → Bool → Fate
fate_of_reply control sending = cond (polls control) (cond sending Lost Leaves) Nothing

-- An access to memory not fitted has no reply either.
unfoldable pub fate_of : Ended → ℕ → Bool → Fate
fate_of (Ok size) control sending = fate_of_reply control sending
fate_of (Err failed.Refused) control sending = fate_of_reply control sending
fate_of (Err failed.Unfitted) control sending = Nothing

-- The answer where nothing is sent: "a command done then answers 2 and a refused one 4".
abbrev pub silent_of : Ended → Answer
silent_of (Ok size) = Done
silent_of (Err failed.Refused) = Refused
silent_of (Err failed.Unfitted) = Unfitted

-- The answer, and the reply buffers of both ports afterwards.
pub record SaidOn : Type 0 where
  pub answer : Answer
  pub replies : Both (List ℕ)

abbrev pub said_on : Answer → Both (List ℕ) → SaidOn
said_on answer replies = record { answer = answer; replies = replies }

-- What is said on a port, in its own reply buffer.
abbrev pub said_by_of : {M : Type 0} → Side → ℕ → ℕ → ℕ → List ℕ → Ending M → Both (List ℕ) → SaidOn
said_by_of side destination source control field ending replies =
    let s = said_of destination source control field ending (of_side side replies) in said_on s.answer (put side replies s.reply)

abbrev pub is_lost : Fate → Bool
is_lost Nothing = false
is_lost Lost = true
is_lost Leaves = false

-- A reply that is lost writes nothing.
unfoldable pub said_on_of : {M : Type 0} → Fate → Side → ℕ → ℕ → ℕ → List ℕ → Ending M → Both (List ℕ) → SaidOn
said_on_of fate side destination source control field ending replies =
    cond (is_lost fate) (said_on (silent_of (ended_of ending)) replies) (said_by_of side destination source control field ending replies)
