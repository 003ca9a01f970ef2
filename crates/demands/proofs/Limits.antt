-- 02, T-06: what a limit means for bytes on the line, and T-01: that there are two ports. (That the round trip and the demands hold under every limit is said
-- where they stand: DemandOne, DemandTwo, DemandThree.) Assumes nothing.
use mathlib.Core.Path.{◌≡◌, refl, sym, ap, ap₂, ◌∙◌}
use mathlib.Core.Bool.{Bool, false, ◌&&◌, false≢true}
use mathlib.Core.Logic.{◌⊎◌, inl, inr}
use mathlib.Core.List.{List, [], ◌∷◌}
use Prim.Native.Nat.{ℕ, ◌≤◌, ◌<◌}
use native.Mathlib.Omega.{arith}
use borrow.Author.Tests.{le-leb, lt-leb, ne_eqb}
use lib.Dec.{eqb}
use lib.ListN.{length, drop}
use Rattle.std.proofs.Common.{Ok, Err}
use Rattle.line.specs.Framing.{fend}
use Rattle.line.specs.declared.receiver.Receiver.{Receiver}
use Rattle.line.specs.declared.receiver.Place.TheVariants.{Fresh, Run, Escape, Fault}
use Rattle.line.specs.declared.receiver.Heard.{Heard}
use Rattle.line.specs.declared.receiver.Heard.TheVariants as heard
use Rattle.line.specs.Receiver.{closed_of, receive_of}
use Rattle.line.proofs.Bounds.{past_the_largest_a_byte_is_neither_counted_nor_stored, bytes_at_or_past_the_largest_never_change}
use Rattle.carrying.proofs.Room.{either_way}
use Rattle.answer.specs.declared.Answer.{Answer}
use Rattle.answer.specs.declared.Answer.TheVariants.{Taken, Oversize, Framing, BadPort, BadLimit}
use Rattle.answer.specs.Answers.{number_of}
use Rattle.ports.specs.declared.Side.{Side}
use Rattle.ports.specs.declared.Side.TheVariants.{Zero, One}
use Rattle.ports.specs.declared.Port.{Port}
use Rattle.ports.specs.declared.Port.TheVariants.{Hearing, Throwing}
use Rattle.ports.specs.Sides.{side_of, number_of_side, of_side}
use Rattle.ports.specs.Ports.{Sending, port_of, with_port, count_of, AfterByte, hear_of}
use Rattle.judging.specs.declared.Unit.{Unit}
use Rattle.carrying.specs.Ending.{longest_data, is_limit}
use Rattle.judging.specs.Fitting.{Fit, fram_fits, frams_as_set_up, largest_count, limit_fit, record_fit, lengths_fit, set_up_fit, step_fit}
use Rattle.judging.specs.Judging.{largest_message, dropped, verdict_of, with_ports, received_of, among_both, unless, judge_of}
use Rattle.judging.proofs.Serving.{a_served_record_is_sound, and_then}
use Rattle.judging.proofs.Ways.{an_oversize}
use Rattle.commanding.specs.World.{World, message_of, lengths_of, Outcome, outcome, with_messages}
use Rattle.unit.specs.Steps.{nobody, set_up_of, served_of, step_of}
use Rattle.demands.specs.Calls.{Call, lent_to, call_on, opened_on, lent_lengths, Suits, Serves, comes_to}
use Rattle.demands.proofs.Cases.{of_any_call}
use Rattle.judging.proofs.Numbers.{a_refused_step_has_its_number}
use Rattle.demands.proofs.DemandOne.{what_every_answer_leaves}
use Rattle.demands.proofs.Along.{lengths_lent, served}

-- one byte on a port
heard_past : (largest : ℕ) (port : Port) (byte : ℕ) (message : List ℕ) → drop largest (hear_of largest port byte message).message ≡ drop largest message
unfolding hear_of
heard_past largest (Hearing r) byte message = bytes_at_or_past_the_largest_never_change largest (byte ∷ []) r message
heard_past largest (Throwing count) byte message = either_way (λ (h : AfterByte). drop largest h.message ≡ drop largest message) (eqb byte fend) _ _ (λ _. refl) (λ _. refl)

-- Whatever the record, the port, the byte and what is lent, no byte of either message buffer behind the first limit + 5 is written.
pub no_byte_is_stored_past_the_limit : (u : Unit) (number byte : ℕ) (sending : Sending) (w : World) (side : Side)
    → drop (largest_message u.limit) (message_of side (step_of u number byte sending w).world) ≡ drop (largest_message u.limit) (message_of side w)
unfolding judge_of received_of
no_byte_is_stored_past_the_limit u number byte sending w side =
    ap (λ m. drop (largest_message u.limit) (of_side side m)) (what_every_answer_leaves u number byte sending w).stored ∙ apart (step_fit u number (lengths_of w))
  where
    one : (a b : Side)
        → drop (largest_message u.limit) (of_side a (among_both b w.buffers.messages (received_of u b byte (message_of b w))).message) ≡ drop (largest_message u.limit) (message_of a w)
    one Zero Zero = heard_past (largest_message u.limit) u.ports.port0 byte (message_of Zero w)
    one Zero One = refl
    one One Zero = refl
    one One One = heard_past (largest_message u.limit) u.ports.port1 byte (message_of One w)

    apart : (f : Fit)
        → let at = side_of number in
        drop (largest_message u.limit) (of_side side (unless f u w.buffers.messages (among_both at w.buffers.messages (received_of u at byte (message_of at w)))).message)
        ≡ drop (largest_message u.limit) (message_of side w)
    apart (Err answer) = refl
    apart (Ok _) = one side (side_of number)

-- ---- 27 and 29

-- a call that is refused for its record
refused_so : (side : Side) (u : Unit) (message : List ℕ) (c : Call) (answer : Answer)
    → lengths_fit u.strap (frams_as_set_up u (lent_lengths side (length message) c)) (lent_lengths side (length message) c) (Ok tt) ≡ Ok tt → record_fit u c.port ≡ Err answer
    → call_on side u message c ≡ outcome u answer (lent_to side message c)
unfolding step_of judge_of step_fit served_of
refused_so side u message c answer suits next =
    let w = lent_to side message c in
    let fits : lengths_fit u.strap (frams_as_set_up u (lengths_of w)) (lengths_of w) (Ok tt) ≡ Ok tt = ap (λ l. lengths_fit u.strap (frams_as_set_up u l) l (Ok tt)) (lengths_lent side message c) ∙ suits in
    let refuses : step_fit u c.port (lengths_of w) ≡ Err answer
    = sym (and_then u.strap (frams_as_set_up u (lengths_of w)) (lengths_of w) (record_fit u c.port) fits) ∙ next in
    let at = side_of c.port in
    ap (λ f. let j = unless f u w.buffers.messages (among_both at w.buffers.messages (received_of u at c.byte (message_of at w))) in
    served_of j.unit j.verdict c.sending (of_side at j.message) (with_messages w j.message)) refuses

-- On a port other than 0 and 1 no byte is served, whatever else is lent, and nothing changes;
pub on_no_port_no_byte_is_served : (u : Unit) (number byte : ℕ) (sending : Sending) (w : World) → 1 < number
    → let o = step_of u number byte sending w in (20 ≤ number_of o.answer) × (o.unit ≡ u) × (o.world ≡ w)
on_no_port_no_byte_is_served u number byte sending w none =
    of_any_call (λ _ (o : Outcome). (20 ≤ number_of o.answer) × (o.unit ≡ u) × (o.world ≡ w)) u number byte sending w
    (λ answer e. (a_refused_step_has_its_number u number (lengths_of w) answer e, refl, refl))
    (λ e. let named = (a_served_record_is_sound u number (lengths_of w) e).port in absurd (omega arith))

-- where nothing of 20 to 26 is due the answer is 27, whatever the limit.
pub on_no_port_a_byte_is_27 : (side : Side) (u : Unit) (message : List ℕ) (c : Call) → count_of u.ports.port0 ≤ largest_count → count_of u.ports.port1 ≤ largest_count
    → lengths_fit u.strap (frams_as_set_up u (lent_lengths side (length message) c)) (lent_lengths side (length message) c) (Ok tt) ≡ Ok tt → 1 < c.port
    → call_on side u message c ≡ outcome u BadPort (lent_to side message c)
on_no_port_a_byte_is_27 side u message c zero one suits none =
    refused_so side u message c BadPort suits
    (simp (le-leb (count_of u.ports.port0) largest_count zero, le-leb (count_of u.ports.port1) largest_count one, lt-leb c.port 1 none))

-- With a limit outside 260 to 1,028 no byte is served, whatever else is lent, and nothing changes;
pub with_no_limit_no_byte_is_served : (u : Unit) (number byte : ℕ) (sending : Sending) (w : World) → is_limit u.limit ≡ false
    → let o = step_of u number byte sending w in (20 ≤ number_of o.answer) × (o.unit ≡ u) × (o.world ≡ w)
with_no_limit_no_byte_is_served u number byte sending w none =
    of_any_call (λ _ (o : Outcome). (20 ≤ number_of o.answer) × (o.unit ≡ u) × (o.world ≡ w)) u number byte sending w
    (λ answer e. (a_refused_step_has_its_number u number (lengths_of w) answer e, refl, refl))
    (λ e. absurd (false≢true (sym none ∙ (a_served_record_is_sound u number (lengths_of w) e).limit)))

-- where nothing of 20 to 27 is due the answer is 29,
pub with_no_limit_a_byte_is_29 : (side : Side) (u : Unit) (message : List ℕ) (c : Call) → count_of u.ports.port0 ≤ largest_count → count_of u.ports.port1 ≤ largest_count
    → Suits side u (length message) c → is_limit u.limit ≡ false → call_on side u message c ≡ outcome u BadLimit (lent_to side message c)
with_no_limit_a_byte_is_29 side u message c zero one suits none =
    refused_so side u message c BadLimit suits.0
    (simp (le-leb (count_of u.ports.port0) largest_count zero, le-leb (count_of u.ports.port1) largest_count one, le-leb c.port 1 suits.1, none))

-- and so it is of a set-up of which, at another limit, nothing is refused.
pub with_no_limit_a_set_up_is_29 : (strap limit : ℕ) (locked : Bool) (w : World) → set_up_fit strap longest_data (lengths_of w) ≡ Ok tt → is_limit limit ≡ false
    → set_up_of strap limit locked w ≡ outcome nobody BadLimit w
unfolding set_up_of set_up_fit
with_no_limit_a_set_up_is_29 strap limit locked w fits none =
    let next : limit_fit limit ≡ Err BadLimit = simp none in
    let refuses : set_up_fit strap limit (lengths_of w) ≡ Err BadLimit
    = sym (and_then strap (fram_fits (length w.frams.bootloader.fram) && fram_fits (length w.frams.user.fram)) (lengths_of w) (limit_fit limit) fits) ∙ next in
    simp refuses

-- ---- counts that were lent

-- A record was lent whose port has a count above limit + 5, which no message on the bus has, and calls on that port that are served:
module _ (side : Side) (u : Unit) (message : List ℕ) (c : Call) (serves : Serves u) (suits : Suits side u (length message) c) (here : c.port ≡ number_of_side side)
    (r : Receiver) (port : port_of side u.ports ≡ Hearing r) (above : largest_message u.limit < r.count) where
  abbrev next : Outcome
  next = call_on side u message c

  as_line : next ≡ (let g = receive_of (largest_message u.limit) r c.byte message in
      comes_to (with_ports u (with_port side u.ports (Hearing g.receiver))) side g.heard c.sending (lent_to side g.message c))
  unfolding hear_of
  as_line =
      served side u message c serves suits here
      ∙ ap (λ (p : Port). let g = hear_of (largest_message u.limit) p c.byte message in comes_to (with_ports u (with_port side u.ports g.port)) side g.heard c.sending (lent_to side g.message c)) port

  -- a byte other than FEND is taken, and is neither stored nor counted;
  pub past_the_limit_a_byte_is_only_taken : (c.byte ≡ fend → ⊥)
      → (next.answer ≡ Taken) × (next.world ≡ lent_to side message c) × (count_of (port_of side next.unit.ports) ≡ r.count)
  unfolding served_of verdict_of
  past_the_limit_a_byte_is_only_taken other =
      let heard_so = past_the_largest_a_byte_is_neither_counted_nor_stored (largest_message u.limit) r c.byte message above other in
      let now = (receive_of (largest_message u.limit) r c.byte message).receiver in
      let is : next ≡ outcome (with_ports u (with_port side u.ports (Hearing now))) Taken (lent_to side message c)
      = as_line ∙ ap₂ (λ (h : Heard) (l : List ℕ). comes_to (with_ports u (with_port side u.ports (Hearing now))) side h c.sending (lent_to side l c)) heard_so.1 heard_so.2 in
      (ap (λ (o : Outcome). o.answer) is, ap (λ (o : Outcome). o.world) is, ap (λ (o : Outcome). count_of (port_of side o.unit.ports)) is ∙ there side now ∙ heard_so.0)
    where
      there : (s : Side) (x : Receiver) → count_of (port_of s (with_port s u.ports (Hearing x))) ≡ x.count
      there Zero x = refl
      there One x = refl

  closes : c.byte ≡ fend → next ≡ comes_to (opened_on side u) side (closed_of r.place r.count) c.sending (lent_to side message c)
  unfolding receive_of
  closes ends =
      as_line
      ∙ ap (λ (n : ℕ). let o = receive_of (largest_message u.limit) r n message in
      comes_to (with_ports u (with_port side u.ports (Hearing o.receiver))) side o.heard c.sending (lent_to side o.message c)) ends

  -- the FEND that closes the run drops it as oversize (7),
  pub past_the_limit_a_run_is_oversize : r.place ≡ Run → c.byte ≡ fend
      → let w = lent_to side message c in next ≡ served_of (opened_on side u) (dropped side Oversize 2) c.sending (message_of side w) w
  unfolding verdict_of closed_of
  past_the_limit_a_run_is_oversize run ends =
      let w = lent_to side message c in
      let some : closed_of Run r.count ≡ heard.Message r.count = simp (ne_eqb r.count 0 (λ none. omega arith)) in
      closes ends
      ∙ ap (λ h. comes_to (opened_on side u) side h c.sending w) (ap (λ place. closed_of place r.count) run ∙ some)
      ∙ ap (λ v. served_of (opened_on side u) v c.sending (message_of side w) w)
      (sym (an_oversize (largest_message u.limit) u.strap side r.count (message_of side w) (omega arith) above))

  -- or as framing (5), where a fault or an open FESC makes it so;
  pub past_the_limit_a_fault_is_framing : (r.place ≡ Escape) ⊎ (r.place ≡ Fault) → c.byte ≡ fend
      → let w = lent_to side message c in next ≡ served_of (opened_on side u) (dropped side Framing 0) c.sending (message_of side w) w
  unfolding verdict_of closed_of
  past_the_limit_a_fault_is_framing (inl escape) ends =
      closes ends ∙ ap (λ place. comes_to (opened_on side u) side (closed_of place r.count) c.sending (lent_to side message c)) escape
  past_the_limit_a_fault_is_framing (inr fault) ends =
      closes ends ∙ ap (λ place. comes_to (opened_on side u) side (closed_of place r.count) c.sending (lent_to side message c)) fault

  -- and before the first FEND there is no run to drop.
  pub past_the_limit_a_first_fend_is_only_taken : r.place ≡ Fresh → c.byte ≡ fend → next ≡ outcome (opened_on side u) Taken (lent_to side message c)
  unfolding verdict_of closed_of served_of
  past_the_limit_a_first_fend_is_only_taken none ends =
      closes ends ∙ ap (λ place. comes_to (opened_on side u) side (closed_of place r.count) c.sending (lent_to side message c)) none
