-- Unpacking as a rule on lists, with no receiver in it: the bytes that came between two FENDs, unpacked up to their end or to the first
-- framing fault; and what the close of such a run brings. What stands in quotes is 01, The line.
use Rattle.std.specs.Prelude.{ℕ, ◌+◌, min, ◌≡◌, Bool, true, false, cond, List, [], ◌∷◌, eqb, length, take}
use Rattle.line.specs.Framing.{fend, fesc, tfend, tfesc}
use Rattle.line.specs.declared.receiver.Heard.{Heard}
use Rattle.line.specs.declared.receiver.Heard.TheVariants.{Empty, Framing, Message}

-- the bytes up to the end or to the fault, and whether there was one
pub record Unpacked : Type 0 where
  pub bytes : List ℕ
  pub fault : Bool

-- no more bytes
abbrev pub ended : Unpacked
ended = record { bytes = []; fault = false }

-- a fault, and what comes after it is not looked at
abbrev pub faulty : Unpacked
faulty = record { bytes = []; fault = true }

-- one byte before the rest
abbrev pub first : ℕ → Unpacked → Unpacked
first byte rest = record { bytes = byte ∷ rest.bytes; fault = rest.fault }

-- "FESC TFEND is the byte 0xC0, FESC TFESC is 0xDB; FESC and anything else is a framing fault", the end of the run too
unfoldable mutual
  pub unpack_of : List ℕ → Unpacked
  unpack_of [] = ended
  unpack_of (byte ∷ run) = cond (eqb byte fesc) (unpack_escaped_of run) (first byte (unpack_of run))

  pub unpack_escaped_of : List ℕ → Unpacked
  unpack_escaped_of [] = faulty
  unpack_escaped_of (byte ∷ run) =
      cond (eqb byte tfend) (first fend (unpack_of run)) (cond (eqb byte tfesc) (first fesc (unpack_of run)) faulty)

-- what comes between two FENDs has no FEND in it
abbrev pub NoFend : List ℕ → Type 0
NoFend [] = Unit {0}
NoFend (byte ∷ run) = (byte ≡ fend → ⊥) × NoFend run

-- what the FEND that closes `run` brings: "in order: empty .., framing", else a count to judge, and "the count stops at 1,034"
unfoldable pub heard_of : ℕ → List ℕ → Heard
heard_of largest [] = Empty
heard_of largest (byte ∷ run) =
    let whole = unpack_of (byte ∷ run) in
    cond whole.fault Framing (Message (min (length whole.bytes) (largest + 1)))

-- the bytes of `run` that are stored: "the 1,034th and later ones, and those after a framing fault, are not stored"
abbrev pub kept_of : ℕ → List ℕ → List ℕ
kept_of largest run = take largest (unpack_of run).bytes
