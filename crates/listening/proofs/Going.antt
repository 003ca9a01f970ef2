-- What is left of some bytes so far, and how it goes on: what is heard from there on, and one byte more of an open run. Assumes nothing.
use mathlib.Core.Path.{◌≡◌, refl, sym, ap, ◌∙◌, subst}
use mathlib.Core.Bool.{Bool, true, false, cond, not, ◌&&◌, false≢true}
use mathlib.Core.List.{List, ◌∷◌}
use Prim.Native.Nat.{ℕ, suc, ◌+◌, ◌-◌, ◌≤◌, ◌<◌}
use native.Mathlib.Omega.{arith}
use borrow.Author.Tests.{eq-eqb}
use lib.Dec.{eqb}
use lib.ListN.{length, get_or, drop}
use lib.Seq.{drop-cons}
use Rattle.line.specs.Framing.{fend, fesc}
use Rattle.line.specs.declared.receiver.Place.TheVariants.{Run}
use Rattle.line.specs.declared.receiver.Receiver.{Receiver}
use Rattle.line.specs.declared.receiver.Received.{Received}
use Rattle.line.specs.declared.receiver.Heard.{Heard}
use Rattle.line.specs.Receiver.{Reception, reception_of, receive_of, inside_of}
use Rattle.ports.specs.declared.Port.{Port}
use Rattle.ports.specs.declared.Port.TheVariants.{Hearing}
use Rattle.ports.specs.Ports.{AfterByte, hearing, hear_of, is_open}
use Rattle.listening.specs.Listening.{closes, Listening, listening, behind, listen_of}

-- ---- what a byte closes

-- a FEND closes just what is open
pub a_fend_closes_what_is_open : (port : Port) (byte : ℕ) → byte ≡ fend → is_open port ≡ closes port byte
a_fend_closes_what_is_open port byte is = simp (eq-eqb byte fend is)

-- ---- bytes taken

behind_both : (n m : ℕ) (rest : Listening (List ℕ)) → behind n (behind m rest) ≡ behind (n + m) rest
behind_both n m rest = let e : n + (m + rest.taken) ≡ n + m + rest.taken = omega arith in ap (λ (k : ℕ). listening rest.port k rest.message) e

module _ (largest : ℕ) where
  -- `rest` is what is left of the bytes, and from `now` and `left` it goes on to where all of them do from `port` and `message`
  pub record Along (port : Port) (bytes message : List ℕ) (now : Port) (rest left : List ℕ) : Type 0 where
    pub within : length rest ≤ length bytes
    pub goes_on : listen_of largest port bytes message ≡ behind (length bytes - length rest) (listen_of largest now rest left)

  -- what is heard from there on
  module _ (port : Port) (bytes message : List ℕ) (now : Port) (rest left : List ℕ) (along : Along port bytes message now rest left) where
    and_on : (port2 : Port) (rest2 left2 : List ℕ) → Along now rest left port2 rest2 left2 → Along port bytes message port2 rest2 left2
    and_on port2 rest2 left2 further =
        record {
          within = omega (arith, along.within, further.within);
          goes_on =
              along.goes_on ∙ ap (behind (length bytes - length rest)) further.goes_on
              ∙ behind_both (length bytes - length rest) (length rest - length rest2) (listen_of largest port2 rest2 left2)
              ∙ ap (λ (k : ℕ). behind k (listen_of largest port2 rest2 left2)) (omega (arith, along.within, further.within));
        }

  a_byte_heard : (port : Port) (byte : ℕ) (bytes message : List ℕ) (got : Port) (heard : Heard) (after : List ℕ) → closes port byte ≡ false
      → hearing got heard after ≡ hear_of largest port byte message → Along port (byte ∷ bytes) message got bytes after
  a_byte_heard port byte bytes message got heard after stays e =
      let next = hear_of largest port byte message in
      record {
        within = omega arith;
        goes_on =
            ap (λ b. cond b (listening port 0 message) (behind 1 (listen_of largest next.port bytes next.message))) stays
            ∙ ap (λ (h : AfterByte). behind 1 (listen_of largest h.port bytes h.message)) (sym e)
            ∙ ap (λ (k : ℕ). behind k (listen_of largest got bytes after)) (omega arith);
      }

-- ---- a byte that stands for itself

module _ (byte : ℕ) (plain : (not (eqb byte fend) && not (eqb byte fesc)) ≡ true) where
  no_fend : eqb byte fend ≡ false
  no_fend = apart (eqb byte fend) refl plain
    where
      apart : (b : Bool) → eqb byte fend ≡ b → (not b && not (eqb byte fesc)) ≡ true → eqb byte fend ≡ false
      apart true e h = let z : false ≡ true = h in absurd (false≢true z)
      apart false e h = e

  no_fesc : eqb byte fesc ≡ false
  no_fesc = apart (eqb byte fend) (eqb byte fesc) refl plain
    where
      apart : (a b : Bool) → eqb byte fesc ≡ b → (not a && not b) ≡ true → eqb byte fesc ≡ false
      apart true b e h = let z : false ≡ true = h in absurd (false≢true z)
      apart false true e h = let z : false ≡ true = h in absurd (false≢true z)
      apart false false e h = e

  module _ (largest count : ℕ) (message : List ℕ) where
    abbrev run : Receiver
    run = record { place = Run; count = count }

    the_run_goes_on : (receive_of largest run byte message).receiver.place ≡ Run
    unfolding receive_of inside_of
    the_run_goes_on = simp (no_fend, no_fesc)

    heard_in_the_run : (r : Received) (after : List ℕ) → reception_of r after ≡ receive_of largest run byte message
        → hearing (Hearing (record { place = Run; count = r.receiver.count })) r.heard after ≡ hear_of largest (Hearing run) byte message
    unfolding hear_of
    heard_in_the_run r after e =
        ap (λ p. hearing (Hearing (record { place = p; count = r.receiver.count })) r.heard after) (sym (ap (λ (got : Reception). got.receiver.place) e ∙ the_run_goes_on))
        ∙ ap (λ (got : Reception). hearing (Hearing got.receiver) got.heard got.message) e

-- one byte more of the bytes of an open run
pub a_plain_byte_more : (largest : ℕ) (port : Port) (bytes message : List ℕ) (count taken : ℕ) (left : List ℕ) (r : Received) (after : List ℕ)
    → Along largest port bytes message (Hearing (record { place = Run; count = count })) (drop taken bytes) left → taken < length bytes
    → (not (eqb (get_or bytes taken 0) fend) && not (eqb (get_or bytes taken 0) fesc)) ≡ true
    → reception_of r after ≡ receive_of largest (record { place = Run; count = count }) (get_or bytes taken 0) left
    → Along largest port bytes message (Hearing (record { place = Run; count = r.receiver.count })) (drop (taken + 1) bytes) after
a_plain_byte_more largest port bytes message count taken left r after along some plain e =
    let byte = get_or bytes taken 0 in
    let run = Hearing (record { place = Run; count = count }) in
    let next : suc taken ≡ taken + 1 = omega arith in
    and_on largest port bytes message run (byte ∷ drop (taken + 1) bytes) left
    (subst (λ l. Along largest port bytes message run l left) (drop-cons bytes taken 0 some ∙ ap (λ (n : ℕ). byte ∷ drop n bytes) next) along) _ _ _
    (a_byte_heard largest run byte (drop (taken + 1) bytes) left _ r.heard after (simp (no_fend byte plain)) (heard_in_the_run byte plain largest count left r after e))
