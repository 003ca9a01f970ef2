-- The contract of each public function allows one outcome: two outcomes that both meet it are equal.
-- Assumes nothing.
use Prim.Native.Nat.{ℕ}
use mathlib.Core.Path.{◌≡◌, refl, sym, ◌∙◌, ap}
use mathlib.Core.List.{List}
use native.Mathlib.Omega.{arith}
use lib.ListN.{take}
use Rattle.line.specs.Receiver.{Reception, reception_of, receive_of}
use Rattle.line.specs.Packing.{Packing, packing_of, pack_of, pack_number_of, pack_sent_of}
use Rattle.line.specs.declared.receiver.Receiver.{Receiver}
use Rattle.line.specs.declared.receiver.Received.{Received}
use Rattle.std.proofs.Common.{Result, Ok, Err}
use Rattle.line.specs.declared.packing.PackError.{PackError}
use Rattle.line.specs.declared.packing.PackError.TheVariants.{ShortReply, BadLength}

pub receive_allows_one_outcome
    : (largest : ℕ) (receiver : Receiver) (byte : ℕ) (message : List ℕ) (r s : Received) (l m : List ℕ)
    → reception_of r l ≡ receive_of largest receiver byte message
    → reception_of s m ≡ receive_of largest receiver byte message
    → (r ≡ s) × (l ≡ m)
receive_allows_one_outcome largest receiver byte message r s l m a b =
    let same = a ∙ sym b in
    (ap (λ (o : Reception). record { receiver = o.receiver; heard = o.heard }) same, ap (λ (o : Reception). o.message) same)

-- number and bytes sent tell the cases of what `pack` gives back apart
one_case : (r s : Result ℕ PackError) → pack_number_of r ≡ pack_number_of s → pack_sent_of r ≡ pack_sent_of s → r ≡ s
one_case (Ok m) (Ok n) a b = ap Ok b
one_case (Ok m) (Err ShortReply) a b = absurd (omega (arith, a))
one_case (Ok m) (Err BadLength) a b = absurd (omega (arith, a))
one_case (Err ShortReply) (Ok n) a b = absurd (omega (arith, a))
one_case (Err ShortReply) (Err ShortReply) a b = refl
one_case (Err ShortReply) (Err BadLength) a b = absurd (omega (arith, a))
one_case (Err BadLength) (Ok n) a b = absurd (omega (arith, a))
one_case (Err BadLength) (Err ShortReply) a b = absurd (omega (arith, a))
one_case (Err BadLength) (Err BadLength) a b = refl

pub pack_allows_one_outcome
    : (message reply : List ℕ) (r s : Result ℕ PackError) (l m : List ℕ)
    → packing_of r l ≡ pack_of message reply
    → packing_of s m ≡ pack_of message reply
    → (r ≡ s) × (l ≡ m)
pack_allows_one_outcome message reply r s l m a b =
    let same = a ∙ sym b in
    (one_case r s (ap (λ (p : Packing). p.answer) same) (ap (λ (p : Packing). p.sent) same), ap (λ (p : Packing). p.reply) same)

pub sent_allows_one_outcome : (reply : List ℕ) (n : ℕ) (r s : List ℕ) → r ≡ take n reply → s ≡ take n reply → r ≡ s
sent_allows_one_outcome reply n r s a b = a ∙ sym b
