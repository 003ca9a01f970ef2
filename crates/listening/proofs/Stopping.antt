-- What is known of bytes that were heard so: none of them closed a run that is to be judged, and the next one does. Assumes nothing.
use mathlib.Core.Path.{◌≡◌, refl, ap, ◌∙◌}
use mathlib.Core.Bool.{Bool, true, false, cond, ◌&&◌}
use mathlib.Core.List.{List, [], ◌∷◌}
use Prim.Native.Nat.{ℕ, suc, ◌+◌, ◌≤◌, ◌<◌}
use native.Mathlib.Omega.{arith}
use lib.Dec.{eqb}
use lib.ListN.{length, get_or}
use Rattle.line.specs.Framing.{fend, fesc, tfend, tfesc}
use Rattle.line.specs.declared.receiver.Place.{Place}
use Rattle.line.specs.declared.receiver.Place.TheVariants.{Fresh, Run, Escape, Fault}
use Rattle.line.specs.declared.receiver.Heard.TheVariants as heard
use Rattle.line.specs.Receiver.{Reception, opened, closed_of, inside_of, after_escape_of, receive_of}
use Rattle.ports.specs.declared.Port.{Port}
use Rattle.ports.specs.declared.Port.TheVariants.{Hearing, Throwing}
use Rattle.ports.specs.Ports.{count_of, hearing, hear_of, closes_some, is_open}
use Rattle.ports.proofs.Bytes.{heard_low, heard_long}
use Rattle.listening.specs.Listening.{closes, Listening, listen_of}

-- ---- one byte

-- what holds either way holds of the choice
either : {A : Type 0} (P : A → Type 0) (b : Bool) {x y : A} → (b ≡ true → P x) → (b ≡ false → P y) → P (cond b x y)
either P true p q = p refl
either P false p q = q refl

abbrev Silent : Reception → Type 0
Silent r = closes_some r.heard ≡ false

-- a byte other than FEND closes nothing
inside_closes_nothing : (largest : ℕ) (place : Place) (count byte : ℕ) (message : List ℕ) → closes_some (inside_of largest place count byte message).heard ≡ false
unfolding inside_of after_escape_of
inside_closes_nothing largest Fresh count byte message = refl
inside_closes_nothing largest Run count byte message = either Silent (eqb byte fesc) (λ _. refl) (λ _. refl)
inside_closes_nothing largest Escape count byte message = either Silent (eqb byte tfend) (λ _. refl) (λ _. either Silent (eqb byte tfesc) (λ _. refl) (λ _. refl))
inside_closes_nothing largest Fault count byte message = refl

-- What a byte closes is to be judged just where it is the FEND of a run in which any byte came.
pub what_a_byte_closes : (largest : ℕ) (port : Port) (byte : ℕ) (message : List ℕ) → closes_some (hear_of largest port byte message).heard ≡ closes port byte
unfolding hear_of receive_of is_open
what_a_byte_closes largest (Hearing r) byte message = apart (eqb byte fend)
  where
    apart : (b : Bool)
        → closes_some (cond b (record { receiver = opened; heard = closed_of r.place r.count; message = message }) (inside_of largest r.place r.count byte message)).heard
        ≡ (b && closes_some (closed_of r.place r.count))
    apart true = refl
    apart false = inside_closes_nothing largest r.place r.count byte message
what_a_byte_closes largest (Throwing count) byte message = apart (eqb byte fend)
  where
    apart : (b : Bool) → closes_some (cond b (hearing (Hearing opened) heard.Empty message) (hearing (Throwing count) heard.Taken message)).heard ≡ (b && false)
    apart true = refl
    apart false = refl

-- ---- all of them

module _ (largest : ℕ) where
  abbrev after : Port → ℕ → List ℕ → List ℕ → Listening (List ℕ)
  after port byte bytes message = let next = hear_of largest port byte message in listen_of largest next.port bytes next.message

  -- what holds of a port and a buffer and is kept by each byte holds of what is left
  kept_by_all : (P : Port → List ℕ → Type 0) → ((port : Port) (byte : ℕ) (message : List ℕ) → P port message → P (hear_of largest port byte message).port (hear_of largest port byte message).message)
      → (bytes : List ℕ) (port : Port) (message : List ℕ) → P port message → P (listen_of largest port bytes message).port (listen_of largest port bytes message).message
  kept_by_all P each [] port message p = p
  kept_by_all P each (byte ∷ bytes) port message p =
      either (λ (l : Listening (List ℕ)). P l.port l.message) (closes port byte) (λ _. p) (λ _. kept_by_all P each bytes _ _ (each port byte message p))

  pub a_count_stays_low : (bound : ℕ) → largest < bound → (bytes : List ℕ) (port : Port) (message : List ℕ) → count_of port ≤ bound → count_of (listen_of largest port bytes message).port ≤ bound
  a_count_stays_low bound above = kept_by_all (λ port message. count_of port ≤ bound) (λ port byte message low. heard_low largest bound above port byte message low)

  pub a_buffer_keeps_its_length : (bytes : List ℕ) (port : Port) (message : List ℕ) → length (listen_of largest port bytes message).message ≡ length message
  a_buffer_keeps_its_length bytes port message =
      kept_by_all (λ p left. length left ≡ length message) (λ p byte left same. heard_long largest p byte left ∙ same) bytes port message refl

  -- The byte at which they end closes a run that is to be judged.
  pub the_next_one_closes : (bytes : List ℕ) (port : Port) (message : List ℕ)
      → let got = listen_of largest port bytes message in got.taken < length bytes → closes got.port (get_or bytes got.taken 0) ≡ true
  the_next_one_closes [] port message = λ some. absurd (omega arith)
  the_next_one_closes (byte ∷ bytes) port message =
      either (λ (l : Listening (List ℕ)). l.taken < length (byte ∷ bytes) → closes l.port (get_or (byte ∷ bytes) l.taken 0) ≡ true) (closes port byte) (λ shut _. shut)
      (λ _ some. let next = after port byte bytes message in
      let further : 1 + next.taken ≡ suc next.taken = omega arith in
      ap (λ (n : ℕ). closes next.port (get_or (byte ∷ bytes) n 0)) further ∙ the_next_one_closes bytes _ _ (omega (arith, some)))
