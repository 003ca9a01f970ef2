-- 02, T-01: a run that is thrown away. It is counted once, as the reply leaves, stores nothing from then on, and its FEND answers 0. Assumes nothing.
use mathlib.Core.Path.{◌≡◌, refl, sym, ap, ap₂, ◌∙◌, subst}
use mathlib.Core.Bool.{Bool, true, false, cond, ◌&&◌, false≢true}
use mathlib.Core.Logic.{◌⊎◌, inl, inr}
use mathlib.Core.List.{List, [], ◌∷◌}
use Prim.Native.Nat.{ℕ, ◌+◌, ◌-◌, ◌≤◌, ◌<◌}
use native.Mathlib.Omega.{arith}
use borrow.Author.Tests.{eq-eqb, ne_eqb, eqb-true, eqb-false, leb-true}
use lib.Dec.{eqb, leb}
use lib.ListN.{length, get_or}
use lib.Seq.{get_or-set_other}
use Rattle.std.proofs.Common.{Option, Some, None, Ok, Err}
use Rattle.line.specs.Framing.{fend, fesc, tfend, tfesc}
use Rattle.line.specs.Unpacking.{NoFend}
use Rattle.line.specs.declared.receiver.Heard.{Heard}
use Rattle.line.specs.declared.receiver.Heard.TheVariants as heard
use Rattle.line.specs.declared.receiver.Place.{Place}
use Rattle.line.specs.declared.receiver.Place.TheVariants.{Fresh, Run, Escape, Fault}
use Rattle.line.specs.Receiver.{Reception, opened, closed_of, after_escape_of, inside_of, receive_of}
use Rattle.memory.specs.Counts.{counted_up}
use Rattle.memory.specs.Status.{fram_status, status_written}
use Rattle.carrying.proofs.Room.{either_way}
use Rattle.answer.specs.declared.Answer.{Answer}
use Rattle.answer.specs.declared.Answer.TheVariants.{Taken}
use Rattle.answer.specs.Answers.{number_of}
use Rattle.ports.specs.declared.Side.{Side}
use Rattle.ports.specs.declared.Side.TheVariants.{Zero, One}
use Rattle.ports.specs.declared.Port.{Port}
use Rattle.ports.specs.declared.Port.TheVariants.{Hearing, Throwing}
use Rattle.ports.specs.Sides.{side_of, number_of_side, of_side}
use Rattle.ports.specs.Ports.{Ports, Sending, answered_on, port_of, with_port, count_of, AfterByte, hearing, hear_of, closes_some, is_open, first_count, thrown_count, lost_count}
use Rattle.ports.proofs.Sides.{put_there}
use Rattle.judging.specs.declared.Unit.{Unit}
use Rattle.judging.specs.Fitting.{Fit, step_fit}
use Rattle.judging.specs.Judging.{largest_message, with_ports, verdict_of, received_of, among_both, unless, judge_of}
use Rattle.judging.proofs.Serving.{both_hold}
use Rattle.replying.specs.Replies.{polls}
use Rattle.commanding.specs.World.{World, message_of, lengths_of, Outcome, outcome, with_messages}
use Rattle.unit.specs.Steps.{served_of, step_of}
use Rattle.demands.specs.Leaving.{heard_ports, heard_messages, has_reply, is_unsaid, one_more_lost, counts_after, shown_locked, ports_after}
use Rattle.demands.specs.Locking.{locks}
use Rattle.demands.specs.Calls.{Call, lent_to, call_on, is_on, Fed, answering, fed_of, reached_by, bytes_on, opened_on, delivering, Suits, AllSuit, Serves, comes_to}
use Rattle.unit.proofs.Heard.{heard_on, unit_heard, world_heard, served_so}
use Rattle.judging.proofs.Numbers.{a_refused_step_has_its_number}
use Rattle.demands.proofs.DemandOne.{heard_of_one, what_every_answer_leaves}
use Rattle.demands.proofs.Along.{a_call_keeps_the_same, suits_still, all_suit_still, still_serves, served, idle_port_as_it_was, message_as_it_was}

-- ---- as the reply leaves

-- a byte inside a run closes none, and a FEND that closes one has opened the next
only_taken : (largest : ℕ) (place : Place) (count byte : ℕ) (message : List ℕ) → (inside_of largest place count byte message).heard ≡ heard.Taken
unfolding inside_of after_escape_of
only_taken largest Fresh count byte message = refl
only_taken largest Run count byte message = either_way (λ (r : Reception). r.heard ≡ heard.Taken) (eqb byte fesc) _ _ (λ _. refl) (λ _. refl)
only_taken largest Escape count byte message =
    either_way (λ (r : Reception). r.heard ≡ heard.Taken) (eqb byte tfend) _ _ (λ _. refl)
    (λ _. either_way (λ (r : Reception). r.heard ≡ heard.Taken) (eqb byte tfesc) _ _ (λ _. refl) (λ _. refl))
only_taken largest Fault count byte message = refl

what_closes_opens : (largest : ℕ) (port : Port) (byte : ℕ) (message : List ℕ) → closes_some (hear_of largest port byte message).heard ≡ true → is_open (hear_of largest port byte message).port ≡ false
unfolding hear_of receive_of is_open closed_of
what_closes_opens largest (Hearing r) byte message =
    either_way (λ (x : Reception). closes_some x.heard ≡ true → is_open (Hearing x.receiver) ≡ false) (eqb byte fend) _ _ (λ _ _. refl)
    (λ _ some. absurd (false≢true (sym (ap closes_some (only_taken largest r.place r.count byte message)) ∙ some)))
what_closes_opens largest (Throwing count) byte message =
    either_way (λ (h : AfterByte). closes_some h.heard ≡ true → is_open h.port ≡ false) (eqb byte fend) _ _ (λ _ _. refl) (λ _ _. refl)

-- a reply leaves at the close of a run only, so no run is open on the port of its command
what_replies_has_closed : (u : Unit) (number byte : ℕ) (sending : Sending) (w : World)
    → let n = number_of (step_of u number byte sending w).answer in
    (n ≡ 1) ⊎ (n ≡ 3) → is_open (port_of (side_of number) (heard_ports u number byte w)) ≡ false
unfolding step_of judge_of served_of verdict_of
what_replies_has_closed u number byte sending w replied = apart (step_fit u number (lengths_of w)) refl
  where
    n : ℕ
    n = number_of (step_of u number byte sending w).answer

    few : (k : ℕ) → (k ≡ 1) ⊎ (k ≡ 3) → (1 ≤ k) × (k ≤ 3)
    few k (inl one) = (omega arith, omega arith)
    few k (inr three) = (omega arith, omega arith)

    not_so : (k : ℕ) → n ≡ k → (k < 1) ⊎ (3 < k) → ⊥
    not_so k is (inl low) = let h = (few n replied).0 in omega arith
    not_so k is (inr high) = let h = (few n replied).1 in omega arith

    so : step_fit u number (lengths_of w) ≡ Ok tt → (h : Heard) → (heard_on u number byte w).heard ≡ h
        → n ≡ number_of (comes_to (unit_heard u number byte w) (side_of number) h sending (world_heard u number byte w)).answer
    so e h is =
        ap (λ (x : Outcome). number_of x.answer) (served_so u number byte sending w e)
        ∙ ap (λ (x : Heard). number_of (comes_to (unit_heard u number byte w) (side_of number) x sending (world_heard u number byte w)).answer) is

    by : step_fit u number (lengths_of w) ≡ Ok tt → (h : Heard) → (heard_on u number byte w).heard ≡ h → is_open (heard_on u number byte w).port ≡ false
    by e (heard.Message count) is = what_closes_opens (largest_message u.limit) (port_of (side_of number) u.ports) byte (message_of (side_of number) w) (ap closes_some is)
    by e heard.Taken is = absurd (not_so 0 (so e heard.Taken is) (inl (omega arith)))
    by e heard.Empty is = absurd (not_so 0 (so e heard.Empty is) (inl (omega arith)))
    by e heard.Framing is = absurd (not_so 5 (so e heard.Framing is) (inr (omega arith)))

    apart : (f : Fit) → step_fit u number (lengths_of w) ≡ f → is_open (port_of (side_of number) (heard_ports u number byte w)) ≡ false
    apart (Err answer) e =
        let high = a_refused_step_has_its_number u number (lengths_of w) answer e in
        absurd (not_so (number_of answer)
        (ap (λ f. let j = unless f u w.buffers.messages (among_both (side_of number) w.buffers.messages (received_of u (side_of number) byte (message_of (side_of number) w))) in
        number_of (served_of j.unit j.verdict sending (of_side (side_of number) j.message) (with_messages w j.message)).answer) e)
        (inr (omega arith)))
    apart (Ok _) e =
        sym (ap (λ (p : Ports). is_open (port_of (side_of number) p)) (heard_of_one u number byte w e).0)
        ∙ ap is_open (put_there (side_of number) u.ports (heard_on u number byte w).port)
        ∙ by e (heard_on u number byte w).heard refl

-- what a reply that leaves does to the ports and the counts, by whether a run is open where it leaves
module _ (port : Side) (ports : Ports) where
  abbrev some : Bool
  some = is_open (port_of port ports)

  ports_by : (n : ℕ) → (n ≡ 1) ⊎ (n ≡ 3) → ports_after n port ports ≡ cond some (with_port port ports (Throwing (count_of (port_of port ports)))) ports
  ports_by n (inl one) = ap (λ (k : ℕ). ports_after k port ports) one
  ports_by n (inr three) = ap (λ (k : ℕ). ports_after k port ports) three

  counts_by : (strap : ℕ) (side : Side) (message d : List ℕ) (n : ℕ) → (n ≡ 1) ⊎ (n ≡ 3)
      → counts_after strap side ports message n port d ≡ cond some (counted_up d (thrown_count port)) d
  counts_by strap side message d n (inl one) = ap (λ (k : ℕ). counts_after strap side ports message k port d) one
  counts_by strap side message d n (inr three) = ap (λ (k : ℕ). counts_after strap side ports message k port d) three

module _ (u : Unit) (number byte : ℕ) (sending : Sending) (w : World) where
  abbrev o : Outcome
  o = step_of u number byte sending w

  abbrev ports : Ports
  ports = heard_ports u number byte w

  abbrev shown : List ℕ
  shown = shown_locked (locks u number byte w) w.diagnostics

  -- A reply leaves: with answer 1 or 3.
  abbrev Replied : Type 0
  Replied = (number_of o.answer ≡ 1) ⊎ (number_of o.answer ≡ 3)

  what_a_reply_leaves : Replied
      → (o.unit.ports ≡ cond (is_open (port_of o.port ports)) (with_port o.port ports (Throwing (count_of (port_of o.port ports)))) ports)
      × (o.world.diagnostics ≡ cond (is_open (port_of o.port ports)) (counted_up shown (thrown_count o.port)) shown)
  what_a_reply_leaves replied =
      let leaves = what_every_answer_leaves u number byte sending w in (
        leaves.ports ∙ ports_by o.port ports (number_of o.answer) replied,
        leaves.counts ∙ counts_by o.port ports u.strap (side_of number) (of_side (side_of number) (heard_messages u number byte w)) shown (number_of o.answer) replied,
      )

  -- It leaves on a port on which a run is open: that port throws it away from then on, the count stays where it stood, the other port is as the byte left it,
  -- and of all counts the one for runs thrown away on that port moves, by one. (An order to lock, where the command was one, is shown besides.)
  pub a_reply_throws_an_open_run_away : Replied → is_open (port_of o.port ports) ≡ true
      → (o.unit.ports ≡ with_port o.port ports (Throwing (count_of (port_of o.port ports)))) × (o.world.diagnostics ≡ counted_up shown (thrown_count o.port))
  a_reply_throws_an_open_run_away replied is =
      let left = what_a_reply_leaves replied in (left.0 ∙ simp is, left.1 ∙ simp is)

  -- And where no run is open there, or one is being thrown away already, no port is thrown into anything, and no count moves.
  pub a_reply_throws_nothing_else_away : Replied → is_open (port_of o.port ports) ≡ false → (o.unit.ports ≡ ports) × (o.world.diagnostics ≡ shown)
  a_reply_throws_nothing_else_away replied is =
      let left = what_a_reply_leaves replied in (left.0 ∙ simp is, left.1 ∙ simp is)

  -- So it is with every reply that leaves on the port that its command came in on: the command's FEND has opened the next run there.
  pub a_reply_on_its_own_port_throws_nothing_away : Replied → o.port ≡ side_of number → (o.unit.ports ≡ ports) × (o.world.diagnostics ≡ shown)
  a_reply_on_its_own_port_throws_nothing_away replied here =
      a_reply_throws_nothing_else_away replied (ap (λ (s : Side). is_open (port_of s ports)) here ∙ what_replies_has_closed u number byte sending w replied)

-- ---- up to its FEND

-- Each byte of such a run, FESC and whatever follows it too, is taken; nothing that is lent changes, no count moves, and the other port is as it was. Its FEND
-- answers 0 and opens the next run.
pub a_byte_of_a_run_thrown_away : (side : Side) (u : Unit) (message : List ℕ) (c : Call) → Serves u → Suits side u (length message) c → c.port ≡ number_of_side side
    → (count : ℕ) → port_of side u.ports ≡ Throwing count
    → call_on side u message c ≡ outcome (with_ports u (with_port side u.ports (cond (eqb c.byte fend) (Hearing opened) (Throwing count)))) Taken (lent_to side message c)
unfolding hear_of served_of verdict_of
a_byte_of_a_run_thrown_away side u message c serves suits here count port =
    served side u message c serves suits here
    ∙ ap (λ (p : Port). let g = hear_of (largest_message u.limit) p c.byte message in
    comes_to (with_ports u (with_port side u.ports g.port)) side g.heard c.sending (lent_to side g.message c)) port
    ∙ by (eqb c.byte fend)
  where
    by : (b : Bool) → (let g = cond b (hearing (Hearing opened) heard.Empty message) (hearing (Throwing count) heard.Taken message) in
        comes_to (with_ports u (with_port side u.ports g.port)) side g.heard c.sending (lent_to side g.message c))
        ≡ outcome (with_ports u (with_port side u.ports (cond b (Hearing opened) (Throwing count)))) Taken (lent_to side message c)
    by true = refl
    by false = refl

-- ---- over calls

-- the calls before the FEND of such a run, of either port
module _ (side : Side) (c : Call) where
  one_thrown : (d : Call) (u : Unit) (message : List ℕ) (count : ℕ) → Serves u → (is_on side d ≡ true → Suits side u (length message) d) → port_of side u.ports ≡ Throwing count
      → (b : Bool) → is_on side d ≡ b → (b ≡ true → d.byte ≡ fend → ⊥)
      → let o = call_on side u message d in
      (port_of side o.unit.ports ≡ Throwing count) × (message_of side o.world ≡ message) × (b ≡ true → o.answer ≡ Taken)
  unfolding is_open
  one_thrown d u message count serves suits port true on other =
      let here = eqb-true d.port (number_of_side side) on in
      let is = a_byte_of_a_run_thrown_away side u message d serves (suits on) here count port
      ∙ ap (λ (b : Bool). outcome (with_ports u (with_port side u.ports (cond b (Hearing opened) (Throwing count)))) Taken (lent_to side message d)) (ne_eqb d.byte fend (other refl)) in (
        ap (λ (o : Outcome). port_of side o.unit.ports) is ∙ there side,
        ap (λ (o : Outcome). message_of side o.world) is ∙ put_there side d.lent.buffers.messages message,
        (λ _. ap (λ (o : Outcome). o.answer) is),
      )
    where
      there : (s : Side) → port_of s (with_port s u.ports (Throwing count)) ≡ Throwing count
      there Zero = refl
      there One = refl
  one_thrown d u message count serves suits port false off other =
      let elsewhere = eqb-false d.port (number_of_side side) off in (
        idle_port_as_it_was side u message d elsewhere (ap is_open port) ∙ port,
        message_as_it_was side u message d elsewhere,
        (λ e. let z : false ≡ true = e in absurd (false≢true z)),
      )

  -- A run is being thrown away on a port. Whatever bytes but FEND come on it by calls that are served, and whatever comes on the other port, served or refused,
  -- replies that leave on this one included: each of its bytes answers 0, its message buffer is as it was, and it is still thrown away with its count; then its
  -- FEND answers 0, changes nothing that is lent, and opens the next run.
  pub a_run_thrown_away_up_to_its_fend : (calls : List Call) (u : Unit) (message : List ℕ) (count : ℕ) → port_of side u.ports ≡ Throwing count → Serves u
      → AllSuit side u (length message) calls → Suits side u (length message) c → c.port ≡ number_of_side side → c.byte ≡ fend → NoFend (bytes_on side calls)
      → (port_of side (reached_by side u message calls).ports ≡ Throwing count)
      × (fed_of side u message calls c ≡ delivering (length (bytes_on side calls)) (outcome (opened_on side (reached_by side u message calls)) Taken (lent_to side message c)))
  a_run_thrown_away_up_to_its_fend [] u message count port serves all last here ends none = (
    port,
    ap (delivering 0)
        (a_byte_of_a_run_thrown_away side u message c serves last here count port
        ∙ ap (λ (b : Bool). outcome (with_ports u (with_port side u.ports (cond b (Hearing opened) (Throwing count)))) Taken (lent_to side message c)) (eq-eqb c.byte fend ends)),
  )
  a_run_thrown_away_up_to_its_fend (d ∷ calls) u message count port serves all last here ends none =
      let o = call_on side u message d in
      let same = a_call_keeps_the_same side u message d in
      let one = one_thrown d u message count serves all.0 port (is_on side d) refl (first_of (is_on side d) none) in
      let kept = message_of side o.world in
      let stored : kept ≡ message = one.1 in
      let rest = a_run_thrown_away_up_to_its_fend calls o.unit kept count one.0 (still_serves side u message d serves)
      (subst (λ n. AllSuit side o.unit n calls) (sym (ap length stored)) (all_suit_still side u o.unit (length message) calls same all.1))
      (subst (λ n. Suits side o.unit n c) (sym (ap length stored)) (suits_still side u o.unit (length message) c same last)) here ends (rest_of (is_on side d) none) in (
        rest.0,
        by (is_on side d) o.answer one.2 (fed_of side o.unit kept calls c) (bytes_on side calls) _
            (rest.1 ∙ ap (λ l. delivering (length (bytes_on side calls)) (outcome (opened_on side (reached_by side o.unit kept calls)) Taken (lent_to side l c))) stored),
      )
    where
      first_of : (b : Bool) → NoFend (cond b (d.byte ∷ bytes_on side calls) (bytes_on side calls)) → b ≡ true → d.byte ≡ fend → ⊥
      first_of true free e = free.0
      first_of false free e = let z : false ≡ true = e in absurd (false≢true z)

      rest_of : (b : Bool) → NoFend (cond b (d.byte ∷ bytes_on side calls) (bytes_on side calls)) → NoFend (bytes_on side calls)
      rest_of true free = free.1
      rest_of false free = free

      by : (b : Bool) (a : Answer) → (b ≡ true → a ≡ Taken) → (f : Fed) (bytes : List ℕ) (x : Outcome) → f ≡ delivering (length bytes) x
          → answering b a f ≡ delivering (length (cond b (d.byte ∷ bytes) bytes)) x
      by true a taken f bytes x e = ap₂ (answering true) (taken refl) e
      by false a taken f bytes x e = e

-- No call moves the count of runs thrown away on a port but one whose reply leaves there while a run is open: so of one run it moves once. (Each count has a
-- channel of its own.)
pub what_moves_the_count_of_runs_thrown_away : (u : Unit) (number byte : ℕ) (sending : Sending) (w : World) (side : Side)
    → let o = step_of u number byte sending w in
    (has_reply (number_of o.answer) ≡ true → o.port ≡ side → is_open (port_of side (heard_ports u number byte w)) ≡ true → ⊥)
    → get_or o.world.diagnostics (thrown_count side) 0 ≡ get_or w.diagnostics (thrown_count side) 0
unfolding counted_up status_written
what_moves_the_count_of_runs_thrown_away u number byte sending w side none =
    let o = step_of u number byte sending w in
    ap (λ l. get_or l (thrown_count side) 0) (what_every_answer_leaves u number byte sending w).counts
    ∙ counted (number_of o.answer) o.port (heard_ports u number byte w) (of_side (side_of number) (heard_messages u number byte w)) none
    ∙ shown (locks u number byte w)
  where
    other : (d : List ℕ) (channel : ℕ) → (channel ≡ thrown_count side → ⊥) → get_or (counted_up d channel) (thrown_count side) 0 ≡ get_or d (thrown_count side) 0
    other d channel apart = get_or-set_other d channel (thrown_count side) _ 0 (λ e. apart (sym e))

    shown : (b : Bool) → get_or (shown_locked b w.diagnostics) (thrown_count side) 0 ≡ get_or w.diagnostics (thrown_count side) 0
    shown true = get_or-set_other w.diagnostics fram_status (thrown_count side) _ 0 (low side)
      where
        low : (s : Side) → thrown_count s ≡ fram_status → ⊥
        low Zero e = omega arith
        low One e = omega arith
    shown false = refl

    no_error : (a s : Side) (n : ℕ) → n ≤ 8 → first_count a + (n - 5) ≡ thrown_count s → ⊥
    no_error Zero Zero n few e = omega arith
    no_error Zero One n few e = omega arith
    no_error One Zero n few e = omega arith
    no_error One One n few e = omega arith

    no_loss : (a s : Side) → lost_count a ≡ thrown_count s → ⊥
    no_loss Zero Zero e = omega arith
    no_loss Zero One e = omega arith
    no_loss One Zero e = omega arith
    no_loss One One e = omega arith

    no_throw : (a s : Side) → (a ≡ s → ⊥) → thrown_count a ≡ thrown_count s → ⊥
    no_throw Zero Zero apart e = apart refl
    no_throw Zero One apart e = omega arith
    no_throw One Zero apart e = omega arith
    no_throw One One apart e = apart refl

    counted : (n : ℕ) (port : Side) (ports : Ports) (message : List ℕ) → (has_reply n ≡ true → port ≡ side → is_open (port_of side ports) ≡ true → ⊥)
        → let d = shown_locked (locks u number byte w) w.diagnostics in
        get_or (counts_after u.strap (side_of number) ports message n port d) (thrown_count side) 0 ≡ get_or d (thrown_count side) 0
    counted n port ports message free =
        let d = shown_locked (locks u number byte w) w.diagnostics in
        either_way (λ l. get_or l (thrown_count side) 0 ≡ get_or d (thrown_count side) 0) (leb 5 n && leb n 8) _ _
        (λ e. other d (first_count (side_of number) + (n - 5)) (no_error (side_of number) side n (leb-true n 8 (both_hold (leb 5 n) (leb n 8) e).1)))
        (λ _. either_way (λ l. get_or l (thrown_count side) 0 ≡ get_or d (thrown_count side) 0) (has_reply n && is_open (port_of port ports)) _ _
        (λ e. other d (thrown_count port) (no_throw port side (λ same.
        let each = both_hold (has_reply n) (is_open (port_of port ports)) e in free each.0 same (ap (λ s. is_open (port_of s ports)) (sym same) ∙ each.1))))
        (λ _. either_way (λ l. get_or l (thrown_count side) 0 ≡ get_or d (thrown_count side) 0) (is_unsaid n && polls (get_or message 2 0)) _ _
        (λ _. lost (answered_on u.strap (side_of number) (get_or message 0 0))) (λ _. refl)))
      where
        lost : (a : Option Side) → let d = shown_locked (locks u number byte w) w.diagnostics in get_or (one_more_lost a d) (thrown_count side) 0 ≡ get_or d (thrown_count side) 0
        lost (Some telemetry) = other (shown_locked (locks u number byte w) w.diagnostics) (lost_count telemetry) (no_loss telemetry side)
        lost None = refl
