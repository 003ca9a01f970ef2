-- How a reply's message is made and packed. Assumes nothing.
use mathlib.Core.Path.{◌≡◌, refl, sym, ap, ap₂, ◌∙◌}
use mathlib.Core.List.{List, [], ◌∷◌, ◌++◌, append_assoc}
use Prim.Native.Nat.{ℕ, suc, ◌+◌, ◌/◌, ◌%◌, ◌≤◌, ◌<◌}
use native.Mathlib.Numerals.{add-one}
use native.Mathlib.Omega.{arith}
use lib.ListN.{length, take, drop, set, length-set, length-append}
use lib.Seq.{take-suc-set}
use Rattle.crc.specs.Sum.{sum_of}
use Rattle.std.proofs.Common.{Result, Ok, Err, IsOk}
use Rattle.line.specs.declared.packing.PackError.{PackError}
use Rattle.line.specs.declared.packing.PackError.TheVariants.{ShortReply, BadLength}
use Rattle.line.specs.Packing.{packed_of, pack_number_of, packing_of, pack_of}
use Rattle.line.proofs.Laying.{a_message_of_legal_length_is_packed}
use Rattle.field.specs.Fields.{bytes16}
use Rattle.memory.specs.Bytes.{stretch, begun}
use Rattle.memory.proofs.Stretches.{length_of_a_stretch}
use Rattle.replying.specs.Replies.{sealed, reply_control, reply_message}

-- a head over the first three places
headed : List ℕ → ℕ → ℕ → ℕ → List ℕ
headed made source destination control = set (set (set made 0 source) 1 destination) 2 control

head_and_data : (made : List ℕ) (size source destination control : ℕ) → 3 ≤ length made
    → take (3 + size) (headed made source destination control) ≡ source ∷ destination ∷ control ∷ stretch 3 size made
unfolding headed
head_and_data [] size source destination control h = absurd (omega arith)
head_and_data (_ ∷ []) size source destination control h = absurd (omega arith)
head_and_data (_ ∷ _ ∷ []) size source destination control h = absurd (omega arith)
head_and_data (a ∷ b ∷ c ∷ rest) size source destination control h =
    let three : 3 + size ≡ suc (suc (suc size)) = omega arith in
    ap (λ (n : ℕ). take n (source ∷ destination ∷ control ∷ rest)) three

-- two bytes after the first `end`
two_more : (l : List ℕ) (end low high : ℕ) → end + 2 ≤ length l → take (end + 2) (set (set l end low) (end + 1) high) ≡ take end l ++ (low ∷ high ∷ [])
two_more l end low high h =
    let two : end + 2 ≡ suc (suc end) = omega arith in
    let here : suc end < length (set l end low) = rw length-set (omega arith) in
    ap₂ (λ (n m : ℕ). take n (set (set l end low) m high)) two (add-one end)
    ∙ take-suc-set (set l end low) (suc end) high here
    ∙ ap (λ t. t ++ (high ∷ [])) (take-suc-set l end low (omega arith))
    ∙ append_assoc (take end l) (low ∷ []) (high ∷ [])

-- the message as the code makes it: the head before the data, the CRC behind it
the_message_is_sealed : (made : List ℕ) (size source destination control sum : ℕ) → length made ≡ 1033 → size ≤ 1028
    → sum ≡ sum_of (take (3 + size) (set (set (set made 0 source) 1 destination) 2 control))
    → take (3 + size + 2)
    (set (set (set (set (set made 0 source) 1 destination) 2 control) (3 + size) (sum % 256)) (3 + size + 1) (sum / 256 % 256))
    ≡ sealed (source ∷ destination ∷ control ∷ stretch 3 size made)
unfolding headed sealed
the_message_is_sealed made size source destination control sum whole fits e =
    let head : take (3 + size) (headed made source destination control) ≡ source ∷ destination ∷ control ∷ stretch 3 size made = head_and_data made size source destination control (omega arith) in
    let total : sum ≡ sum_of (source ∷ destination ∷ control ∷ stretch 3 size made) = e ∙ ap sum_of head in
    let room : 3 + size + 2 ≤ length (headed made source destination control) = simp length-set (omega arith) in
    two_more (headed made source destination control) (3 + size) (sum % 256) (sum / 256 % 256) room
    ∙ ap₂ (λ l (n : ℕ). l ++ bytes16 n) head total

length_of_a_sealed_reply : (made : List ℕ) (size source destination control : ℕ) → length made ≡ 1033 → size ≤ 1028
    → length (sealed (source ∷ destination ∷ control ∷ stretch 3 size made)) ≡ size + 5
unfolding sealed
length_of_a_sealed_reply made size source destination control whole fits =
    let data_size = length_of_a_stretch made 3 size (omega arith) in
    length-append (source ∷ destination ∷ control ∷ stretch 3 size made) (bytes16 (sum_of (source ∷ destination ∷ control ∷ stretch 3 size made))) ∙ omega arith

-- ---- packing

module _ (message reply after : List ℕ) (packed : Result ℕ PackError) (enough : 5 ≤ length message) (fits : length message ≤ 1033) (room : 2068 ≤ length reply)
    (e : packing_of packed after ≡ pack_of message reply) where
  as_sent : packing_of packed after ≡ record { answer = 0; sent = length (packed_of message); reply = packed_of message ++ drop (length (packed_of message)) reply }
  as_sent = e ∙ a_message_of_legal_length_is_packed message reply room enough fits

  it_is_sent : (n : ℕ) → packed ≡ Ok n → (n ≡ length (packed_of message)) × (after ≡ begun reply (packed_of message))
  unfolding begun
  it_is_sent n k = (ap (λ p. (packing_of p after).sent) (sym k) ∙ ap (λ p. p.sent) as_sent, ap (λ p. p.reply) as_sent)

  is_sent : IsOk packed
  is_sent = by_its_number packed (ap (λ p. p.answer) as_sent)
    where
      by_its_number : (p : Result ℕ PackError) → pack_number_of p ≡ 0 → IsOk p
      by_its_number (Ok n) k = refl
      by_its_number (Err ShortReply) k = absurd (omega arith)
      by_its_number (Err BadLength) k = absurd (omega arith)

-- ---- the whole of sending, as the code does it

module _ (made reply after : List ℕ) (size ack destination source control head sum : ℕ) (packed : Result ℕ PackError) (whole : length made ≡ 1033) (fits : size ≤ 1028)
    (room : 2068 ≤ length reply) (eh : head ≡ reply_control ack control)
    (es : sum ≡ sum_of (take (3 + size) (set (set (set made 0 source) 1 destination) 2 head)))
    (ep : packing_of packed after
    ≡ pack_of
    (take (3 + size + 2)
    (set (set (set (set (set made 0 source) 1 destination) 2 head) (3 + size) (sum % 256)) (3 + size + 1) (sum / 256 % 256)))
    reply) where
  whole_reply : packing_of packed after ≡ pack_of (reply_message ack destination source control (stretch 3 size made)) reply
  unfolding reply_message
  whole_reply =
      ep
      ∙ ap (λ m. pack_of m reply)
      (the_message_is_sealed made size source destination head sum whole fits es
      ∙ ap (λ (n : ℕ). sealed (source ∷ destination ∷ n ∷ stretch 3 size made)) eh)

  legal : length (reply_message ack destination source control (stretch 3 size made)) ≡ size + 5
  unfolding reply_message
  legal = length_of_a_sealed_reply made size source destination (reply_control ack control) whole fits

  pub the_reply_is_sent : (n : ℕ) → packed ≡ Ok n
      → (n ≡ length (packed_of (reply_message ack destination source control (stretch 3 size made))))
      × (after ≡ begun reply (packed_of (reply_message ack destination source control (stretch 3 size made))))
  the_reply_is_sent n k =
      it_is_sent (reply_message ack destination source control (stretch 3 size made)) reply after packed (omega (arith, legal)) (omega (arith, legal)) room whole_reply n k

  pub the_reply_has_room : IsOk packed
  the_reply_has_room =
      is_sent (reply_message ack destination source control (stretch 3 size made)) reply after packed (omega (arith, legal)) (omega (arith, legal)) room whole_reply
