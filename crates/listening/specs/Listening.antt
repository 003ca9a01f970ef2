-- Bytes that come in on a port one after the other, as long as none closes a run that is to be judged. 01, "The line"; 02, T-01. Assumes nothing.
use Rattle.std.specs.Prelude.{ℕ, ◌+◌, Bool, cond, ◌&&◌, List, [], ◌∷◌, eqb}
use Rattle.line.specs.Framing.{fend}
use Rattle.ports.specs.declared.Port.{Port}
use Rattle.ports.specs.declared.Side.{Side}
use Rattle.ports.specs.declared.Both.{Both}
use Rattle.ports.specs.Sides.{of_side, put}
use Rattle.ports.specs.Ports.{is_open, hear_of}
use Rattle.listening.specs.declared.Listened.{Listened}

-- The FEND of a run in which any byte came: its answer is another than 0.
abbrev pub closes : Port → ℕ → Bool
closes port byte = eqb byte fend && is_open port

-- What such bytes leave: the port, how many there were, and the message buffer of the port, or of both (`M`).
pub record Listening (M : Type 0) : Type 0 where
  pub port : Port
  pub taken : ℕ
  pub message : M

abbrev pub listening : {M : Type 0} → Port → ℕ → M → Listening M
listening port taken message = record { port = port; taken = taken; message = message }

-- What is given back, with the message buffers as they are left.
abbrev pub listening_of : {M : Type 0} → Listened → M → Listening M
listening_of r message = listening r.port r.taken message

-- The same, with so many bytes before it.
abbrev pub behind : ℕ → Listening (List ℕ) → Listening (List ℕ)
behind n rest = listening rest.port (n + rest.taken) rest.message

-- Each byte is heard from where the one before it left the port and the buffer, up to the end or to one that closes such a run, which is not heard.
abbrev pub listen_of : ℕ → Port → List ℕ → List ℕ → Listening (List ℕ)
listen_of largest port [] message = listening port 0 message
listen_of largest port (byte ∷ bytes) message =
    let next = hear_of largest port byte message in
    cond (closes port byte) (listening port 0 message) (behind 1 (listen_of largest next.port bytes next.message))

-- The same with the message buffers of both ports: that of the other stays.
abbrev pub listen_on_of : Side → ℕ → Port → List ℕ → Both (List ℕ) → Listening (Both (List ℕ))
listen_on_of side largest port bytes messages =
    let got = listen_of largest port bytes (of_side side messages) in listening got.port got.taken (put side messages got.message)
