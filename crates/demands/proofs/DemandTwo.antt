-- Demand 2: a message that is packed and sent to the unit on a port is judged and carried out as 01 says, whatever comes in on the other port, and what
-- the unit packs is received back. Assumes nothing.
use mathlib.Core.Path.{◌≡◌, refl, sym, ap, ap₂, ◌∙◌, subst}
use mathlib.Core.Bool.{Bool, true, false, cond}
use mathlib.Core.List.{List, [], ◌∷◌, ◌++◌, append_assoc}
use Prim.Native.Nat.{ℕ, suc, ◌+◌, ◌-◌, ◌*◌, ◌/◌, ◌%◌, ◌^◌, ◌≤◌, ◌<◌, min}
use native.Mathlib.Omega.{arith}
use borrow.Author.Tests.{le-ltb, eq-eqb, eqb-true, eqb-false}
use lib.Dec.{ltb, eqb}
use lib.ListN.{length, take, drop, get_or, replicate, length-append}
use lib.Seq.{take-append_seam, get_or-append-add, get_or-append_seam, length-take-le}
use Rattle.std.proofs.Common.{Option, Some, None}
use Rattle.crc.specs.Sum.{start, byte_step, sum_from, sum_of}
use Rattle.crc.proofs.Halving.{byte_step_below}
use Rattle.line.specs.Framing.{fend}
use Rattle.line.specs.Packing.{body_of, packed_of, shortest_message, message_size}
use Rattle.line.specs.declared.receiver.Receiver.{Receiver}
use Rattle.line.specs.declared.receiver.Heard.{Heard}
use Rattle.line.specs.declared.receiver.Heard.TheVariants as heard
use Rattle.line.specs.Receiver.{opened, closed_of, receive_of, Feed, feed_of}
use Rattle.line.proofs.Escaping.{a_packed_message_is_at_most_twice_its_length_and_two}
use Rattle.line.specs.Delivery.{delivered_of}
use Rattle.line.specs.Unpacking.{Unpacked, unpack_of, heard_of, kept_of, NoFend}
use Rattle.line.proofs.Runs.{a_closed_run_is_heard_counted_and_stored_as_it_unpacks}
use Rattle.line.proofs.RoundTrip.{a_body_unpacks_to_its_message, a_body_has_no_fend, sound_at_the_close, a_body_after_any_fend_is_received_as_its_message, what_is_packed_is_received_back}
use Rattle.field.specs.Fields.{word16_at, bytes16}
use Rattle.field.proofs.Words.{two_bytes}
use Rattle.memory.specs.Bytes.{stretch, begun}
use Rattle.memory.specs.Counts.{counted_up}
use Rattle.memory.proofs.Stretches.{the_written_part_is_handed_back}
use Rattle.carrying.specs.Ending.{is_limit, Ending, done, refused, unfitted, ended_of}
use Rattle.carrying.specs.Held.{Held, after}
use Rattle.carrying.proofs.Room.{Roomy, part}
use Rattle.carrying.proofs.Limits.{within_both_ends}
use Rattle.command.specs.Command.{command_of}
use Rattle.command.proofs.Room.{every_reply_has_room}
use Rattle.answer.specs.declared.Answer.{Answer}
use Rattle.answer.specs.declared.Answer.TheVariants.{Taken, Acked, Done, Nacked, Refused, Oversize}
use Rattle.answer.specs.Answers.{sent_of}
use Rattle.ports.specs.declared.Side.{Side}
use Rattle.ports.specs.declared.Side.TheVariants.{Zero, One}
use Rattle.ports.specs.declared.Port.{Port}
use Rattle.ports.specs.declared.Port.TheVariants.{Hearing, Throwing}
use Rattle.ports.specs.declared.Both.{Both}
use Rattle.ports.specs.Sides.{number_of_side, both, of_side, put}
use Rattle.ports.specs.Ports.{Sending, answered_on, port_of, with_port, hear_of, AfterByte, closes_some, is_open, is_sending, lost_count}
use Rattle.ports.proofs.Sides.{put_there}
use Rattle.judging.specs.declared.Unit.{Unit}
use Rattle.judging.specs.Judging.{largest_message, dropped, sound_of, command_on, run_of, verdict_of, with_ports}
use Rattle.judging.proofs.Ways.{an_oversize}
use Rattle.judging.proofs.Serving.{a_served_step_fits, a_served_record_is_sound}
use Rattle.replying.specs.Replies.{code_of, polls, reply_control, sealed, reply_message}
use Rattle.replying.specs.Ports.{silent_of}
use Rattle.commanding.specs.World.{World, message_of, reply_of, lengths_of, Outcome, with_message, held_of}
use Rattle.commanding.specs.Commanded.{answered, ordered_of, commanded_of}
use Rattle.unit.specs.Steps.{served_of, step_of}
use Rattle.demands.specs.Calls.{Call, lent_to, call_on, is_on, Fed, answering, fed_of, reached_by, bytes_on, SendsNothingOn, NoReplyOn, opened_on, delivering, Suits, AllSuit, Serves, Idle, comes_to, answered_by, addressed_of, answer_message, Bytes}
use Rattle.demands.specs.Orders.{sent_by}
use Rattle.demands.proofs.Cases.{of_anything_heard, of_any_call}
use Rattle.unit.proofs.Heard.{unit_heard, world_heard, quietly}
use Rattle.judging.proofs.Numbers.{a_refused_step_has_its_number}
use Rattle.demands.proofs.Answers.{Spoken, a_command_done, a_command_refused, with_no_reply, with_a_lost_reply, with_a_reply, with_nothing_fitted}
use Rattle.demands.proofs.DemandOne.{high_sends}
use Rattle.demands.proofs.Along.{Same, a_call_keeps_the_same, the_same_is_met, suits_still, all_suit_still, a_call_that_suits_fits, got, still_serves, served, idle_port_as_heard, message_as_heard, port_as_it_was, message_as_it_was, all_but_the_last}

-- ---- byte by byte

-- what the limit says of lengths
no_longer_than_any : (limit : ℕ) → is_limit limit ≡ true → largest_message limit ≤ message_size
no_longer_than_any limit limited = omega (arith, (within_both_ends limit limited).1)

at_least_a_ping : (limit : ℕ) → is_limit limit ≡ true → 17 ≤ limit
at_least_a_ping limit limited = omega (arith, (within_both_ends limit limited).0)

-- what is lent suits, and so the message buffer is long enough
long_enough : (side : Side) (u : Unit) (message : List ℕ) (c : Call) → Serves u → Suits side u (length message) c → message_size ≤ length message
long_enough side u message c serves suits =
    by side ((a_served_step_fits u c.port (lengths_of (lent_to side message c)) (a_call_that_suits_fits side u message c serves suits)).message_fits side)
  where
    by : (s : Side) → message_size ≤ of_side s (both (lengths_of (lent_to s message c)).message0 (lengths_of (lent_to s message c)).message1) → message_size ≤ length message
    by Zero h = h
    by One h = h

-- the calls of one run and its FEND, after a FEND
module _ (side : Side) (u : Unit) (message : List ℕ) (calls : List Call) (c : Call) (run : List ℕ) (after : port_of side u.ports ≡ Hearing opened) (serves : Serves u)
    (is : bytes_on side calls ≡ run) (ends : c.byte ≡ fend) (here : c.port ≡ number_of_side side) (all : AllSuit side u (length message) calls) (last : Suits side u (length message) c)
    (none : NoReplyOn side u message calls) where
  -- the unit that its FEND meets
  abbrev there : Unit
  there = reached_by side u message calls

  closed : (f : Feed) → feed_of (largest_message u.limit) opened (run ++ (fend ∷ [])) message ≡ f → f.receiver ≡ opened → (h : Heard)
      → f.heard ≡ replicate (length run) heard.Taken ++ (h ∷ [])
      → fed_of side u message calls c ≡ delivering (length run) (comes_to (opened_on side there) side h c.sending (lent_to side f.message c))
  closed f e opens h hears =
      let same : bytes_on side calls ++ (c.byte ∷ []) ≡ run ++ (fend ∷ []) = ap₂ (λ (l : List ℕ) (n : ℕ). l ++ (n ∷ [])) is ends in
      let whole : feed_of (largest_message u.limit) opened (bytes_on side calls ++ (c.byte ∷ [])) message ≡ f = ap (λ l. feed_of (largest_message u.limit) opened l message) same ∙ e in
      all_but_the_last side c h calls u message opened (largest_message u.limit) refl after serves all last here none
      (ap (λ (g : Feed). g.heard) whole ∙ hears ∙ ap (λ (l : List ℕ). replicate (length l) heard.Taken ++ (h ∷ [])) (sym is))
      ∙ ap₂ (λ (l : List ℕ) (g : Feed). delivering (length l) (comes_to (with_ports there (with_port side there.ports (Hearing g.receiver))) side h c.sending (lent_to side g.message c))) is whole
      ∙ ap (λ (r : Receiver). delivering (length run) (comes_to (with_ports there (with_port side there.ports (Hearing r))) side h c.sending (lent_to side f.message c))) opens

  -- Demand 2, for any bytes at all between two FENDs on a port, by calls that are served and as long as no reply leaves on it. All are taken, and the closing
  -- FEND judges the run as it unpacks: empty, framing, or so many bytes of message as its count says.
  pub any_run_is_judged_as_it_unpacks : NoFend run
      → fed_of side u message calls c
      ≡ delivering (length run)
      (comes_to (opened_on side there) side (heard_of (largest_message u.limit) run) c.sending
      (lent_to side (kept_of (largest_message u.limit) run ++ drop (length (kept_of (largest_message u.limit) run)) message) c))
  any_run_is_judged_as_it_unpacks no_fend =
      let long = long_enough side u message c serves last in
      let enough = no_longer_than_any u.limit serves.2 in
      let short : length (kept_of (largest_message u.limit) run) ≤ largest_message u.limit = part (largest_message u.limit) (unpack_of run).bytes in
      closed _ (a_closed_run_is_heard_counted_and_stored_as_it_unpacks (largest_message u.limit) run message no_fend (omega arith)) refl (heard_of (largest_message u.limit) run) refl

  body_judged : (m : List ℕ) → run ≡ body_of m → 0 < length m → length m ≤ largest_message u.limit
      → fed_of side u message calls c
      ≡ delivering (length run) (comes_to (opened_on side there) side (heard.Message (length m)) c.sending (lent_to side (m ++ drop (length m) message) c))
  body_judged m body some within =
      let long = long_enough side u message c serves last in
      let enough = no_longer_than_any u.limit serves.2 in
      closed _ (ap (λ r. feed_of (largest_message u.limit) opened (r ++ (fend ∷ [])) message) body ∙ a_body_after_any_fend_is_received_as_its_message (largest_message u.limit) m message some within (omega arith))
      refl (heard.Message (length m)) (ap (λ (r : List ℕ). replicate (length r) heard.Taken ++ (heard.Message (length m) ∷ [])) (sym body))

-- ---- a FEND

-- on any port it opens a run, and stores nothing
a_fend_opens : (largest : ℕ) (port : Port) (message : List ℕ) → ((hear_of largest port fend message).port ≡ Hearing opened) × ((hear_of largest port fend message).message ≡ message)
unfolding hear_of receive_of
a_fend_opens largest (Hearing r) message = (refl, refl)
a_fend_opens largest (Throwing count) message = (refl, refl)

-- and where no run is open it closes none
closes_nothing : (largest : ℕ) (port : Port) (message : List ℕ) → is_open port ≡ false → closes_some (hear_of largest port fend message).heard ≡ false
unfolding hear_of receive_of is_open
closes_nothing largest (Hearing r) message idle = idle
closes_nothing largest (Throwing count) message idle = refl

-- A FEND that is served opens a run on its port, whatever it closed, its command's own reply that leaves there included.
pub a_served_fend_opens_a_run : (side : Side) (u : Unit) (message : List ℕ) (c : Call) → Serves u → Suits side u (length message) c → c.port ≡ number_of_side side → c.byte ≡ fend
    → port_of side (call_on side u message c).unit.ports ≡ Hearing opened
unfolding is_open closed_of
a_served_fend_opens_a_run side u message c serves suits here ends =
    let opens : (got side u message c).port ≡ Hearing opened
    = ap (λ (n : ℕ). (hear_of (largest_message u.limit) (port_of side u.ports) n message).port) ends ∙ (a_fend_opens (largest_message u.limit) (port_of side u.ports) message).0 in
    idle_port_as_heard side u message c serves suits here (ap is_open opens) ∙ opens

-- what comes to something after any FEND comes to the same with its FEND before it, where no run is open
module _ (side : Side) (c : Call) (body start : List ℕ) (x : Unit → Outcome) where
  -- after its FEND
  abbrev Then : Unit → Type 0
  Then u = (part : List Call) (v : Unit) (kept : List ℕ) → kept ≡ start → Same u v → port_of side v.ports ≡ Hearing opened → Serves v → AllSuit side v (length kept) part
      → Suits side v (length kept) c → NoReplyOn side v kept part → bytes_on side part ≡ body
      → fed_of side v kept part c ≡ delivering (length body) (x (reached_by side v kept part))

  module _ (d : Call) (calls : List Call) (u : Unit) (message : List ℕ) (idle : Idle (port_of side u.ports)) (serves : Serves u) (suits : is_on side d ≡ true → Suits side u (length message) d)
      (none : SendsNothingOn side (call_on side u message d)) where
    abbrev one : Outcome
    one = call_on side u message d

    abbrev kept : List ℕ
    kept = message_of side one.world

    abbrev due : Outcome
    due = x (reached_by side one.unit kept calls)

    one_more : (b : Bool) → is_on side d ≡ b → cond b (d.byte ∷ bytes_on side calls) (bytes_on side calls) ≡ fend ∷ body
        → (kept ≡ message → port_of side one.unit.ports ≡ Hearing opened → bytes_on side calls ≡ body → fed_of side one.unit kept calls c ≡ delivering (length body) due)
        → (kept ≡ message → Idle (port_of side one.unit.ports) → bytes_on side calls ≡ fend ∷ body → fed_of side one.unit kept calls c ≡ delivering (suc (length body)) due)
        → answering b one.answer (fed_of side one.unit kept calls c) ≡ delivering (suc (length body)) due
    one_more true on e opens goes =
        let at = eqb-true d.port (number_of_side side) on in
        let ends : d.byte ≡ fend = ap (λ l. get_or l 0 0) e in
        let port = port_of side u.ports in
        let largest = largest_message u.limit in
        let as_fend : got side u message d ≡ hear_of largest port fend message = ap (λ (n : ℕ). hear_of largest port n message) ends in
        let open_now = a_fend_opens largest port message in
        let taken : one.answer ≡ Taken
        = ap (λ (o : Outcome). o.answer)
        (served side u message d serves (suits on) at
        ∙ ap (λ (g : AfterByte). comes_to (with_ports u (with_port side u.ports g.port)) side g.heard d.sending (lent_to side g.message d)) as_fend
        ∙ quietly (with_ports u (with_port side u.ports (hear_of largest port fend message).port)) side d.sending (lent_to side (hear_of largest port fend message).message d)
        (hear_of largest port fend message).heard (closes_nothing largest port message idle)) in
        ap₂ (answering true) taken
        (opens (message_as_heard side u message d serves (suits on) at ∙ ap (λ (g : AfterByte). g.message) as_fend ∙ open_now.1)
        (a_served_fend_opens_a_run side u message d serves (suits on) at ends) (ap (drop 1) e))
    one_more false off e opens goes =
        let there = eqb-false d.port (number_of_side side) off in
        goes (message_as_it_was side u message d there) (ap is_open (port_as_it_was side u message d there none) ∙ idle) e

  with_its_fend : (calls : List Call) (u : Unit) (message : List ℕ) → message ≡ start → Idle (port_of side u.ports) → Serves u → AllSuit side u (length message) calls
      → Suits side u (length message) c → NoReplyOn side u message calls → bytes_on side calls ≡ fend ∷ body → Then u
      → fed_of side u message calls c ≡ delivering (suc (length body)) (x (reached_by side u message calls))
  with_its_fend [] u message as_it_was idle serves all last none e then = let z : suc (length body) ≡ 0 = sym (ap length e) in absurd (omega arith)
  with_its_fend (d ∷ calls) u message as_it_was idle serves all last none e then =
      let o = call_on side u message d in
      let kept = message_of side o.world in
      let same = a_call_keeps_the_same side u message d in
      let goes_on = still_serves side u message d serves in
      one_more d calls u message idle serves all.0 none.0 (is_on side d) refl e
      (λ stored on f. then calls o.unit kept (stored ∙ as_it_was) same on goes_on
      (subst (λ n. AllSuit side o.unit n calls) (sym (ap length stored)) (all_suit_still side u o.unit (length message) calls same all.1))
      (subst (λ n. Suits side o.unit n c) (sym (ap length stored)) (suits_still side u o.unit (length message) c same last)) none.1 f)
      (λ stored on f. with_its_fend calls o.unit kept (stored ∙ as_it_was) on goes_on
      (subst (λ n. AllSuit side o.unit n calls) (sym (ap length stored)) (all_suit_still side u o.unit (length message) calls same all.1))
      (subst (λ n. Suits side o.unit n c) (sym (ap length stored)) (suits_still side u o.unit (length message) c same last)) none.1 f
      (λ part v kept k again. then part v kept k (again.0 ∙ same.0, again.1 ∙ same.1, again.2 ∙ same.2, again.3 ∙ same.3)))

-- ---- what a sealed message comes to

sum_below : (bytes : List ℕ) (sum : ℕ) → sum < 2 ^ 16 → Bytes bytes → sum_from sum bytes < 2 ^ 16
unfolding sum_from
sum_below [] sum h b = h
sum_below (byte ∷ bytes) sum h b =
    let small = b.0 in
    sum_below bytes (byte_step sum byte) (byte_step_below sum byte h (omega arith)) b.1

module _ (head tail : List ℕ) (bytes : Bytes head) where
  apart : sealed head ++ tail ≡ head ++ (bytes16 (sum_of head) ++ tail)
  unfolding sealed
  apart = append_assoc head (bytes16 (sum_of head)) tail

  below : sum_of head < 2 ^ 16
  unfolding sum_of
  below = sum_below head start (omega arith) bytes

  sealed_is_sound : (n : ℕ) → n ≡ length head → eqb (sum_of (take n (sealed head ++ tail))) (word16_at (sealed head ++ tail) n) ≡ true
  sealed_is_sound n e =
      let small : sum_of head < 2 ^ 16 = below in
      let low : get_or (head ++ (bytes16 (sum_of head) ++ tail)) (length head) 0 ≡ sum_of head % 256 = get_or-append_seam head (sum_of head % 256) (sum_of head / 256 % 256 ∷ tail) 0 in
      let high : get_or (head ++ (bytes16 (sum_of head) ++ tail)) (length head + 1) 0 ≡ sum_of head / 256 % 256 = get_or-append-add head (bytes16 (sum_of head) ++ tail) 1 0 in
      let word : word16_at (head ++ (bytes16 (sum_of head) ++ tail)) (length head) ≡ sum_of head = ap₂ (λ (a b : ℕ). a + 256 * b) low high ∙ two_bytes (sum_of head) small in
      ap₂ (λ (k : ℕ) l. eqb (sum_of (take k l)) (word16_at l k)) e apart
      ∙ eq-eqb (sum_of (take (length head) (head ++ (bytes16 (sum_of head) ++ tail)))) (word16_at (head ++ (bytes16 (sum_of head) ++ tail)) (length head))
      (ap sum_of (take-append_seam head (bytes16 (sum_of head) ++ tail)) ∙ sym word)

module _ (u : Unit) (side : Side) (w : World) (destination source control : ℕ) (field : List ℕ) (bytes : Bytes (destination ∷ source ∷ control ∷ field)) (short : length field ≤ u.limit) where
  abbrev head : List ℕ
  head = destination ∷ source ∷ control ∷ field

  abbrev lying : World
  lying = with_message side w (sealed head ++ drop (length (sealed head)) (message_of side w))

  sealed_length : length (sealed head) ≡ length field + 5
  unfolding sealed
  sealed_length = length-append head (bytes16 (sum_of head)) ∙ (omega arith)

  field_again : (tail : List ℕ) → stretch 3 (length field) (sealed head ++ tail) ≡ field
  unfolding sealed
  field_again tail = ap (take (length field)) (append_assoc field (bytes16 (sum_of head)) tail) ∙ take-append_seam field (bytes16 (sum_of head) ++ tail)

  module _ (tail : List ℕ) where
    field_size : stretch 3 (length (sealed head) - 5) (sealed head ++ tail) ≡ field
    field_size =
        let long = sealed_length in
        let size : length (sealed head) - 5 ≡ length field = omega arith in
        ap (λ (n : ℕ). stretch 3 n (sealed head ++ tail)) size ∙ field_again tail

    sound : sound_of (length (sealed head)) (sealed head ++ tail) ≡ true
    sound =
        let long = sealed_length in
        sealed_is_sound head tail bytes (length (sealed head) - 2) (omega arith)

  no_runt : ltb (length (sealed head)) shortest_message ≡ false
  no_runt =
      let long = sealed_length in
      le-ltb (length (sealed head)) shortest_message (omega arith)

  not_oversize : ltb (largest_message u.limit) (length (sealed head)) ≡ false
  not_oversize =
      let long = sealed_length in
      le-ltb (largest_message u.limit) (length (sealed head)) (omega arith)

  abbrev laid : List ℕ
  laid = sealed head ++ drop (length (sealed head)) (message_of side w)

  either_one : (sending : Sending) (a : Option Side) → served_of u (command_on a (length (sealed head))) sending laid lying ≡ answered_by a u sending destination source control field lying
  unfolding served_of commanded_of sealed
  either_one sending (Some telemetry) =
      ap (λ (f : List ℕ). ordered_of u telemetry (is_sending telemetry sending) destination source control f lying) (field_size (drop (length (sealed head)) (message_of side w)))
  either_one sending None = refl

  judged : (sending : Sending) → comes_to u side (heard.Message (length (sealed head))) sending lying ≡ addressed_of u side sending destination source control field lying
  unfolding verdict_of run_of sealed
  judged sending =
      let tail = drop (length (sealed head)) (message_of side w) in
      ap (λ l. served_of u (run_of (largest_message u.limit) u.strap side (length (sealed head)) l) sending l lying) (put_there side w.buffers.messages laid)
      ∙ simp (no_runt, not_oversize, sound tail) (either_one sending (answered_on u.strap side destination))

-- ---- demand 2

module _ (side : Side) (u : Unit) (message : List ℕ) (calls : List Call) (c : Call) (serves : Serves u) (all : AllSuit side u (length message) calls)
    (last : Suits side u (length message) c) (ends : c.byte ≡ fend) (here : c.port ≡ number_of_side side) (none : NoReplyOn side u message calls) where
  -- the unit that the last call meets, with a run opened by it
  abbrev open_there : Unit
  open_there = opened_on side (reached_by side u message calls)

  -- A message of more than limit + 5 bytes, whatever it says, is dropped for its length, by calls that are served and as long as no reply leaves on its port. Its
  -- first limit + 5 bytes stand in the message buffer.
  module _ (m : List ℕ) (long : largest_message u.limit < length m) where
    abbrev most : ℕ
    most = largest_message u.limit

    abbrev lying_there : World
    lying_there = lent_to side (take most m ++ drop most message) c

    abbrev dropped_there : Unit → Outcome
    dropped_there v = served_of v (dropped side Oversize 2) c.sending (message_of side lying_there) lying_there

    too_long : (v : Unit) → Same u v → comes_to (opened_on side v) side (heard.Message (most + 1)) c.sending lying_there ≡ dropped_there (opened_on side v)
    unfolding verdict_of
    too_long v same =
        let size : largest_message v.limit ≡ most = ap largest_message same.1 in
        ap (λ x. served_of (opened_on side v) x c.sending (message_of side lying_there) lying_there)
        (sym (an_oversize (largest_message v.limit) v.strap side (most + 1) (message_of side lying_there) (omega arith) (omega (arith, size))))

    pub a_packed_message_too_long_is_dropped : Idle (port_of side u.ports) → bytes_on side calls ≡ fend ∷ body_of m
        → fed_of side u message calls c ≡ delivering (length (fend ∷ body_of m)) (dropped_there open_there)
    a_packed_message_too_long_is_dropped idle is =
        let unpacks = a_body_unpacks_to_its_message m in
        let kept : kept_of most (body_of m) ≡ take most m = ap (λ (p : Unpacked). take most p.bytes) unpacks in
        let size : length (take most m) ≡ most = length-take-le most m (omega arith) in
        let counted : min (length m) (most + 1) ≡ most + 1 = omega arith in
        let heard_so : heard_of most (body_of m) ≡ heard.Message (most + 1) = sound_at_the_close most (body_of m) m unpacks (omega arith) ∙ ap heard.Message counted in
        let laid : kept_of most (body_of m) ++ drop (length (kept_of most (body_of m))) message ≡ take most m ++ drop most message
        = ap (λ l. l ++ drop (length l) message) kept ∙ ap (λ (n : ℕ). take most m ++ drop n message) size in
        with_its_fend side c (body_of m) message (λ v. dropped_there (opened_on side v)) calls u message refl idle serves all last none is
        (λ part v kept as_it_was same opens goes suit suits silent body.
        let met = reached_by side v kept part in
        let again = the_same_is_met side v kept part in
        any_run_is_judged_as_it_unpacks side v kept part c (body_of m) opens goes body ends here suit suits silent (a_body_has_no_fend m)
        ∙ ap₂ (λ (n : ℕ) (l : List ℕ). delivering (length (body_of m)) (comes_to (opened_on side met) side (heard_of n (body_of m)) c.sending (lent_to side (kept_of n (body_of m) ++ drop (length (kept_of n (body_of m))) l) c)))
        (ap largest_message same.1) as_it_was
        ∙ ap₂ (λ h l. delivering (length (body_of m)) (comes_to (opened_on side met) side h c.sending (lent_to side l c))) heard_so laid
        ∙ ap (delivering (length (body_of m))) (too_long met (again.0 ∙ same.0, again.1 ∙ same.1, again.2 ∙ same.2, again.3 ∙ same.3)))

  -- Any message, sound or not, of 5 to limit + 5 bytes (of one byte or more, in fact).
  module _ (m : List ℕ) (some : 0 < length m) (within : length m ≤ largest_message u.limit) where
    abbrev judged_there : Outcome
    judged_there = comes_to open_there side (heard.Message (length m)) c.sending (lent_to side (m ++ drop (length m) message) c)

    -- Demand 2, the round trip at the unit. Packed, it comes after any FEND on a port, by calls that lend what they like in the right lengths, into
    -- a message buffer that nobody else alters; calls on the other port or on none come between as they like, served or refused, as long as no reply
    -- leaves on this one. Every byte of it but the last FEND is taken, and that one judges the message as it was packed, with its length as the count.
    pub after_any_fend_a_packed_message_is_judged : port_of side u.ports ≡ Hearing opened → bytes_on side calls ≡ body_of m
        → fed_of side u message calls c ≡ delivering (length (body_of m)) judged_there
    after_any_fend_a_packed_message_is_judged e is = body_judged side u message calls c (body_of m) e serves is ends here all last none m refl some within

    -- The same with both its FENDs, to a unit that is fresh or has no run open on this port.
    pub a_packed_message_is_judged : Idle (port_of side u.ports) → bytes_on side calls ≡ fend ∷ body_of m → fed_of side u message calls c ≡ delivering (length (fend ∷ body_of m)) judged_there
    a_packed_message_is_judged idle is =
        with_its_fend side c (body_of m) message (λ v. comes_to (opened_on side v) side (heard.Message (length m)) c.sending (lent_to side (m ++ drop (length m) message) c)) calls u message refl
        idle serves all last none is
        (λ part v kept as_it_was same opens goes suit suits silent body.
        let size : largest_message v.limit ≡ largest_message u.limit = ap largest_message same.1 in
        body_judged side v kept part c (body_of m) opens goes body ends here suit suits silent m refl some (omega (arith, size))
        ∙ ap (λ l. delivering (length (body_of m)) (comes_to (opened_on side (reached_by side v kept part)) side (heard.Message (length m)) c.sending (lent_to side (m ++ drop (length m) l) c))) as_it_was)

    -- And it stands at the start of the message buffer byte for byte, the rest of which is as it was.
    pub a_packed_message_stands_in_the_buffer : Idle (port_of side u.ports) → bytes_on side calls ≡ fend ∷ body_of m
        → message_of side (fed_of side u message calls c).last.world ≡ m ++ drop (length m) message
    unfolding answered
    a_packed_message_stands_in_the_buffer idle is =
        ap (λ (f : Fed). message_of side f.last.world) (a_packed_message_is_judged idle is)
        ∙ of_anything_heard (λ _ (o : Outcome). message_of side o.world ≡ m ++ drop (length m) message) open_there side c.sending (lent_to side (m ++ drop (length m) message) c)
        (record { taken = stands; elsewhere = stands; dropped = λ answer which number four silent. stands; commanded = λ telemetry destination source control field to told is short. stands })
        (heard.Message (length m))
      where
        stands : message_of side (lent_to side (m ++ drop (length m) message) c) ≡ m ++ drop (length m) message
        stands = put_there side c.lent.buffers.messages (m ++ drop (length m) message)

  module _ (destination source control : ℕ) (field : List ℕ) (bytes : Bytes (destination ∷ source ∷ control ∷ field)) (short : length field ≤ u.limit) where
    abbrev sent : List ℕ
    sent = sealed (destination ∷ source ∷ control ∷ field)

    abbrev carried_out : Outcome
    carried_out = addressed_of open_there side c.sending destination source control field (lent_to side (sent ++ drop (length sent) message) c)

    same : Same u (reached_by side u message calls)
    same = the_same_is_met side u message calls

    short_there : length field ≤ open_there.limit
    short_there = subst (λ (n : ℕ). length field ≤ n) (sym same.1) short

    long_as_it_is : length sent ≡ length field + 5
    long_as_it_is = sealed_length open_there side (lent_to side message c) destination source control field bytes short_there

    judged_as_a_command : comes_to open_there side (heard.Message (length sent)) c.sending (lent_to side (sent ++ drop (length sent) message) c) ≡ carried_out
    judged_as_a_command =
        subst (λ (l : World). comes_to open_there side (heard.Message (length sent)) c.sending l ≡ addressed_of open_there side c.sending destination source control field l)
        (laid_over side) (judged open_there side (lent_to side message c) destination source control field bytes short_there c.sending)
      where
        laid_over : (s : Side) → with_message s (lent_to s message c) (sent ++ drop (length sent) (message_of s (lent_to s message c))) ≡ lent_to s (sent ++ drop (length sent) message) c
        laid_over Zero = refl
        laid_over One = refl

    -- Demand 2, the way there. A command with any data of legal length, sealed with its CRC and packed, comes after any FEND on a port, by calls that are
    -- served, whatever comes on the other port in between, as long as no reply leaves on this one: every byte but the last FEND is taken, and that one carries the command out on what
    -- it is lent and answers, as its definition says.
    pub after_any_fend_a_packed_command_is_carried_out : port_of side u.ports ≡ Hearing opened → bytes_on side calls ≡ body_of sent
        → fed_of side u message calls c ≡ delivering (length (body_of sent)) carried_out
    after_any_fend_a_packed_command_is_carried_out e is =
        let long = long_as_it_is in
        after_any_fend_a_packed_message_is_judged sent (omega arith) (omega arith) e is ∙ ap (delivering (length (body_of sent))) judged_as_a_command

    -- The same with both its FENDs, to a unit that is fresh or has no run open on this port.
    pub a_packed_command_is_carried_out : Idle (port_of side u.ports) → bytes_on side calls ≡ fend ∷ body_of sent
        → fed_of side u message calls c ≡ delivering (length (fend ∷ body_of sent)) carried_out
    a_packed_command_is_carried_out idle is =
        let long = long_as_it_is in
        a_packed_message_is_judged sent (omega arith) (omega arith) idle is ∙ ap (delivering (length (fend ∷ body_of sent))) judged_as_a_command

-- ---- the way back

-- what a reply sends is written in the reply buffer of its port
written_there : (telemetry : Side) (replies : Both (List ℕ)) (bytes : List ℕ) → take (length bytes) (of_side telemetry (put telemetry replies (begun (of_side telemetry replies) bytes))) ≡ bytes
written_there telemetry replies bytes =
    ap (take (length bytes)) (put_there telemetry replies (begun (of_side telemetry replies) bytes)) ∙ the_written_part_is_handed_back (of_side telemetry replies) bytes

-- Where poll is set, the port that answers is not sending, and the command did not fault, what is sent is the packed message of the answer.
module _ (u : Unit) (telemetry : Side) (sending : Bool) (destination source control : ℕ) (field : List ℕ) (w : World) (polled : polls control ≡ true) (free : sending ≡ false) where
  pub what_is_sent_is_the_packed_answer : (o : Ending Held) → (o ≡ unfitted → ⊥)
      → sent_by (answered u telemetry sending destination source control field o w) ≡ packed_of (answer_message destination source control field o)
  what_is_sent_is_the_packed_answer (done reply changed) answers =
      ap sent_by (with_a_reply u telemetry sending destination source control field w (done reply changed) Acked Done _ (a_command_done destination source control field reply changed) polled free)
      ∙ written_there telemetry w.buffers.replies (packed_of (reply_message 1 destination source control reply))
  what_is_sent_is_the_packed_answer refused answers =
      ap sent_by (with_a_reply u telemetry sending destination source control field w refused Nacked Refused _ (a_command_refused destination source control field) polled free)
      ∙ written_there telemetry w.buffers.replies (packed_of (reply_message 0 destination source control field))
  what_is_sent_is_the_packed_answer unfitted answers = absurd (answers refl)

-- an answer's message is never longer than the limit allows
pub sealed_size : (a b c : ℕ) (l : List ℕ) → length (sealed (a ∷ b ∷ c ∷ l)) ≡ length l + 5
unfolding sealed
sealed_size a b c l = length-append (a ∷ b ∷ c ∷ l) (bytes16 (sum_of (a ∷ b ∷ c ∷ l))) ∙ (omega arith)

legal : (limit destination source control : ℕ) (field : List ℕ) (o : Ending Held) → (o ≡ unfitted → ⊥) → length field ≤ limit → Roomy limit o
    → (5 ≤ length (answer_message destination source control field o)) × (length (answer_message destination source control field o) ≤ largest_message limit)
unfolding reply_message
legal limit destination source control field (done reply changed) answers short fits =
    let long = sealed_size source destination (reply_control 1 control) reply in
    (omega arith, omega arith)
legal limit destination source control field refused answers short fits =
    let long = sealed_size source destination (reply_control 0 control) field in
    (omega arith, omega arith)
legal limit destination source control field unfitted answers short fits = absurd (answers refl)

-- Demand 2, the way back. A command with data of legal length is answered by a message of 5 to limit + 5 bytes; and the bytes sent, given
-- to any receiver that takes messages of that length and has room for one, are received as that message.
module _ (u : Unit) (limited : is_limit u.limit ≡ true) (telemetry : Side) (sending : Bool) (destination source control : ℕ) (field : List ℕ) (w : World) (polled : polls control ≡ true)
    (free : sending ≡ false) (short : length field ≤ u.limit) where
  abbrev came : Ending Held
  came = command_of u.limit (code_of control) (held_of u w) field

  abbrev answer_left : Outcome
  answer_left = answered u telemetry sending destination source control field came w

  pub no_answer_is_longer_than_the_limit_allows : (came ≡ unfitted → ⊥)
      → (5 ≤ length (answer_message destination source control field came)) × (length (answer_message destination source control field came) ≤ largest_message u.limit)
  no_answer_is_longer_than_the_limit_allows answers =
      legal u.limit destination source control field came answers short
      (every_reply_has_room u.limit (at_least_a_ping u.limit limited) (code_of control) (held_of u w) field)

  pub what_is_sent_is_received_back : (came ≡ unfitted → ⊥) → (largest : ℕ) (receiver : Receiver) (theirs : List ℕ) → largest_message u.limit ≤ largest
      → largest_message u.limit ≤ length theirs
      → feed_of largest receiver (sent_by answer_left) theirs ≡ delivered_of receiver (answer_message destination source control field came) theirs
  what_is_sent_is_received_back answers largest receiver theirs takes roomy =
      let fits = no_answer_is_longer_than_the_limit_allows answers in
      let low = fits.0 in
      let high = fits.1 in
      ap (λ l. feed_of largest receiver l theirs) (what_is_sent_is_the_packed_answer u telemetry sending destination source control field w polled free came answers)
      ∙ what_is_packed_is_received_back largest (answer_message destination source control field came) theirs (omega arith) (omega arith) (omega arith) receiver

-- Where poll is clear nothing is sent, lost or thrown away: both reply buffers and both ports are as they were, and so are the diagnostics, but for what the
-- command itself writes there.
pub nothing_is_sent_where_poll_is_clear : (u : Unit) (telemetry : Side) (sending : Bool) (destination source control : ℕ) (field : List ℕ) (w : World) → polls control ≡ false → (o : Ending Held)
    → let left = answered u telemetry sending destination source control field o w in
    (sent_of left.answer ≡ 0) × (left.world.buffers.replies ≡ w.buffers.replies) × (left.unit.ports ≡ u.ports)
    × (left.world.diagnostics ≡ (after (held_of u w) o).standing.diagnostics)
nothing_is_sent_where_poll_is_clear u telemetry sending destination source control field w clear (done reply changed) =
    let is = with_no_reply u telemetry sending destination source control field w (done reply changed) Acked Done _ (a_command_done destination source control field reply changed) clear in
    (ap (λ (o : Outcome). sent_of o.answer) is, ap (λ (o : Outcome). o.world.buffers.replies) is, ap (λ (o : Outcome). o.unit.ports) is, ap (λ (o : Outcome). o.world.diagnostics) is)
nothing_is_sent_where_poll_is_clear u telemetry sending destination source control field w clear refused =
    let is = with_no_reply u telemetry sending destination source control field w refused Nacked Refused _ (a_command_refused destination source control field) clear in
    (ap (λ (o : Outcome). sent_of o.answer) is, ap (λ (o : Outcome). o.world.buffers.replies) is, ap (λ (o : Outcome). o.unit.ports) is, ap (λ (o : Outcome). o.world.diagnostics) is)
nothing_is_sent_where_poll_is_clear u telemetry sending destination source control field w clear unfitted =
    let is = with_nothing_fitted u telemetry sending destination source control field w in
    (ap (λ (o : Outcome). sent_of o.answer) is, ap (λ (o : Outcome). o.world.buffers.replies) is, ap (λ (o : Outcome). o.unit.ports) is, ap (λ (o : Outcome). o.world.diagnostics) is)

-- 02, T-01: a reply for a port that is sending is lost. Nothing is sent, both reply buffers and both ports are as they were, the answer is 2 or
-- 4, and the command's effect stays: what is held is what the command came to.
pub a_lost_reply_undoes_nothing : (u : Unit) (telemetry : Side) (destination source control : ℕ) (field : List ℕ) (w : World) → polls control ≡ true → (o : Ending Held) → (o ≡ unfitted → ⊥)
    → let left = answered u telemetry true destination source control field o w in
    (left.answer ≡ silent_of (ended_of o)) × (left.world.buffers ≡ w.buffers) × (left.unit.ports ≡ u.ports) × (left.world.edac ≡ (after (held_of u w) o).edac)
    × (left.world.frams ≡ (after (held_of u w) o).frams) × (left.unit.mode ≡ (after (held_of u w) o).standing.mode) × (left.unit.locked ≡ (after (held_of u w) o).standing.locked)
    × (left.world.diagnostics ≡ counted_up (after (held_of u w) o).standing.diagnostics (lost_count telemetry))
a_lost_reply_undoes_nothing u telemetry destination source control field w polled (done reply changed) answers =
    let is = with_a_lost_reply u telemetry true destination source control field w (done reply changed) Acked Done _ (a_command_done destination source control field reply changed) polled refl in (
      ap (λ (o : Outcome). o.answer) is,
      ap (λ (o : Outcome). o.world.buffers) is,
      ap (λ (o : Outcome). o.unit.ports) is,
      ap (λ (o : Outcome). o.world.edac) is,
      ap (λ (o : Outcome). o.world.frams) is,
      ap (λ (o : Outcome). o.unit.mode) is,
      ap (λ (o : Outcome). o.unit.locked) is,
      ap (λ (o : Outcome). o.world.diagnostics) is,
    )
a_lost_reply_undoes_nothing u telemetry destination source control field w polled refused answers =
    let is = with_a_lost_reply u telemetry true destination source control field w refused Nacked Refused _ (a_command_refused destination source control field) polled refl in (
      ap (λ (o : Outcome). o.answer) is,
      ap (λ (o : Outcome). o.world.buffers) is,
      ap (λ (o : Outcome). o.unit.ports) is,
      ap (λ (o : Outcome). o.world.edac) is,
      ap (λ (o : Outcome). o.world.frams) is,
      ap (λ (o : Outcome). o.unit.mode) is,
      ap (λ (o : Outcome). o.unit.locked) is,
      ap (λ (o : Outcome). o.world.diagnostics) is,
    )
a_lost_reply_undoes_nothing u telemetry destination source control field w polled unfitted answers = absurd (answers refl)

-- What is sent by any call at all has no more bytes than a message of limit + 5 can take, and has room in the reply buffer of its port.
done_answers : {reply : List ℕ} {changed : Held} → done reply changed ≡ unfitted → ⊥
done_answers e = let z : ◌≡◌ {A = ℕ} 0 1 = cc in absurd (omega arith)

refused_answers : ◌≡◌ {A = Ending Held} refused unfitted → ⊥
refused_answers e = let z : ◌≡◌ {A = ℕ} 0 1 = cc in absurd (omega arith)

module _ (u : Unit) (telemetry : Side) (destination source control : ℕ) (field : List ℕ) (w : World) (short : length field ≤ u.limit) where
  spoken_fits : (o : Ending Held) (aloud : ℕ → Answer) (silent : Answer) (message : List ℕ) → Spoken destination source control field o aloud silent message → ((k : ℕ) → sent_of (aloud k) ≡ k) → sent_of silent ≡ 0
      → length (packed_of message) ≤ 2 * largest_message u.limit + 2 → (sending p : Bool) → polls control ≡ p
      → sent_of (answered u telemetry sending destination source control field o w).answer ≤ 2 * largest_message u.limit + 2
  spoken_fits o aloud silent message spoken sends nothing high sending false e =
      omega (arith, ap (λ (x : Outcome). sent_of x.answer) (with_no_reply u telemetry sending destination source control field w o aloud silent message spoken e), nothing)
  spoken_fits o aloud silent message spoken sends nothing high true true e =
      omega (arith, ap (λ (x : Outcome). sent_of x.answer) (with_a_lost_reply u telemetry true destination source control field w o aloud silent message spoken e refl), nothing)
  spoken_fits o aloud silent message spoken sends nothing high false true e =
      omega (arith, ap (λ (x : Outcome). sent_of x.answer) (with_a_reply u telemetry false destination source control field w o aloud silent message spoken e refl), sends (length (packed_of message)), high)

  answered_fits : (sending : Bool) (o : Ending Held) → Roomy u.limit o → sent_of (answered u telemetry sending destination source control field o w).answer ≤ 2 * largest_message u.limit + 2
  answered_fits sending (done reply changed) fits =
      let high = (legal u.limit destination source control field (done reply changed) done_answers short fits).1 in
      let packed = a_packed_message_is_at_most_twice_its_length_and_two (reply_message 1 destination source control reply) in
      spoken_fits (done reply changed) Acked Done _ (a_command_done destination source control field reply changed) (λ k. refl) refl (omega arith) sending (polls control) refl
  answered_fits sending refused fits =
      let high = (legal u.limit destination source control field refused refused_answers short fits).1 in
      let packed = a_packed_message_is_at_most_twice_its_length_and_two (reply_message 0 destination source control field) in
      spoken_fits refused Nacked Refused _ (a_command_refused destination source control field) (λ k. refl) refl (omega arith) sending (polls control) refl
  answered_fits sending unfitted fits = omega (arith, ap (λ (x : Outcome). sent_of x.answer) (with_nothing_fitted u telemetry sending destination source control field w))

module _ (u : Unit) (number byte : ℕ) (sending : Sending) (w : World) where
  sent_fits : (sent_of (step_of u number byte sending w).answer ≤ 2 * largest_message u.limit + 2)
      × ((side : Side) → sent_of (step_of u number byte sending w).answer ≤ length (reply_of side w))
  sent_fits =
      of_any_call (λ _ (o : Outcome). (sent_of o.answer ≤ 2 * largest_message u.limit + 2) × ((side : Side) → sent_of o.answer ≤ length (reply_of side w))) u number byte sending w
      (λ answer e. let z = high_sends answer (a_refused_step_has_its_number u number (lengths_of w) answer e) in (omega arith, λ side. omega arith))
      (λ e.
      let limited = (a_served_record_is_sound u number (lengths_of w) e).limit in
      let most = no_longer_than_any u.limit limited in
      let room : (side : Side) → 2068 ≤ length (reply_of side w) = long_replies (a_served_step_fits u number (lengths_of w) e).reply_fits in
      let next = unit_heard u number byte w in
      let lent = world_heard u number byte w in
      record {
        taken = (omega arith, λ side. omega arith);
        elsewhere = (omega arith, λ side. omega arith);
        dropped = λ answer which number four silent. (omega arith, λ side. omega arith);
        commanded = λ telemetry destination source control field to told is short.
            let few = answered_fits next telemetry destination source control field lent short (is_sending telemetry sending) (command_of u.limit (code_of control) (held_of next lent) field)
            (every_reply_has_room u.limit (at_least_a_ping u.limit limited) (code_of control) (held_of next lent) field) in
            (few, λ side. let enough = room side in omega arith);
      })
    where
      long_replies : ((side : Side) → 2068 ≤ of_side side (both (length w.buffers.replies.port0) (length w.buffers.replies.port1))) → (side : Side) → 2068 ≤ length (reply_of side w)
      long_replies fits Zero = fits Zero
      long_replies fits One = fits One

  pub no_more_is_sent_than_the_limit_allows : sent_of (step_of u number byte sending w).answer ≤ 2 * largest_message u.limit + 2
  no_more_is_sent_than_the_limit_allows = sent_fits.0

  pub what_is_sent_fits_the_reply_buffer : sent_of (step_of u number byte sending w).answer ≤ length (reply_of (step_of u number byte sending w).port w)
  what_is_sent_fits_the_reply_buffer = sent_fits.1 (step_of u number byte sending w).port
