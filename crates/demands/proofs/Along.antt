-- One port along calls on both: what comes in on a port is heard as the line says, whatever comes in on the other, as long as no reply leaves on it.
-- Assumes nothing.
use mathlib.Core.Path.{◌≡◌, refl, sym, ap, ap₂, ◌∙◌, subst}
use mathlib.Core.Bool.{Bool, true, false, cond, ◌&&◌}
use mathlib.Core.List.{List, [], ◌∷◌, ◌++◌}
use Prim.Native.Nat.{ℕ, ◌≤◌, ◌<◌}
use native.Mathlib.Omega.{arith}
use borrow.Author.Tests.{le-leb, eq-eqb, ne_eqb, eqb-true, eqb-false}
use lib.ListN.{length, replicate}
use Rattle.std.proofs.Common.{Ok, Err}
use Rattle.line.specs.declared.receiver.Receiver.{Receiver}
use Rattle.line.specs.declared.receiver.Heard.{Heard}
use Rattle.line.specs.declared.receiver.Heard.TheVariants as heard
use Rattle.line.specs.Receiver.{receive_of, feed_of}
use Rattle.carrying.specs.Ending.{is_limit}
use Rattle.carrying.proofs.Room.{either_way}
use Rattle.carrying.proofs.Limits.{within_both_ends}
use Rattle.answer.specs.declared.Answer.TheVariants.{Taken}
use Rattle.answer.specs.Answers.{number_of}
use Rattle.ports.specs.declared.Side.{Side}
use Rattle.ports.specs.declared.Side.TheVariants.{Zero, One}
use Rattle.ports.specs.declared.Port.{Port}
use Rattle.ports.specs.declared.Port.TheVariants.{Hearing, Throwing}
use Rattle.ports.specs.declared.Both.{Both}
use Rattle.ports.specs.Sides.{side_of, number_of_side, of_side, put}
use Rattle.ports.specs.Ports.{Ports, Sending, port_of, with_port, count_of, AfterByte, hear_of, is_open}
use Rattle.ports.proofs.Sides.{put_there}
use Rattle.ports.proofs.Bytes.{heard_low, heard_long}
use Rattle.judging.specs.declared.Unit.{Unit}
use Rattle.judging.specs.Fitting.{Fit, fram_as_set_up, frams_as_set_up, record_fit, largest_count, lengths_fit, step_fit}
use Rattle.judging.specs.Judging.{largest_message, verdict_of, with_ports, received_of, among_both, unless, judge_of}
use Rattle.judging.proofs.Serving.{a_served_record_is_sound}
use Rattle.commanding.specs.World.{World, message_of, lengths_of, Outcome, with_message}
use Rattle.unit.specs.Steps.{served_of, step_of}
use Rattle.demands.specs.Locking.{locks}
use Rattle.demands.specs.Leaving.{heard_ports, heard_messages, has_reply, ports_after, Leaves}
use Rattle.demands.specs.Calls.{Call, lent_to, call_on, is_on, answering, fed_of, reached_by, bytes_on, SendsNothingOn, NoReplyOn, delivering, lent_lengths, Suits, AllSuit, Serves, comes_to}
use Rattle.unit.proofs.Heard.{heard_on, served_so}
use Rattle.demands.proofs.DemandOne.{heard_of_one, what_every_answer_leaves}

-- ---- a unit that goes on

-- what no call changes
abbrev pub Same : Unit → Unit → Type 0
Same u v = (v.strap ≡ u.strap) × (v.limit ≡ u.limit) × (v.bootloader_len ≡ u.bootloader_len) × (v.fram_len ≡ u.fram_len)

pub a_call_keeps_the_same : (side : Side) (u : Unit) (message : List ℕ) (c : Call) → Same u (call_on side u message c).unit
a_call_keeps_the_same side u message c =
    let leaves = what_every_answer_leaves u c.port c.byte c.sending (lent_to side message c) in
    (leaves.strap, leaves.limit, leaves.bootloader_length, leaves.fram_length)

pub the_same_is_met : (side : Side) (u : Unit) (message : List ℕ) (calls : List Call) → Same u (reached_by side u message calls)
the_same_is_met side u message [] = (refl, refl, refl, refl)
the_same_is_met side u message (d ∷ calls) =
    let o = call_on side u message d in
    let a = a_call_keeps_the_same side u message d in
    let b = the_same_is_met side o.unit (message_of side o.world) calls in
    (b.0 ∙ a.0, b.1 ∙ a.1, b.2 ∙ a.2, b.3 ∙ a.3)

pub suits_still : (side : Side) (u v : Unit) (size : ℕ) (c : Call) → Same u v → Suits side u size c → Suits side v size c
suits_still side u v size c same suits =
    let l = lent_lengths side size c in (
      ap₂ (λ (s : ℕ) (b : Bool). lengths_fit s b l (Ok tt)) same.0 (ap₂ (λ (b f : ℕ). fram_as_set_up l.bootloader b && fram_as_set_up l.fram f) same.2 same.3) ∙ suits.0,
      suits.1,
    )

pub all_suit_still : (side : Side) (u v : Unit) (size : ℕ) (calls : List Call) → Same u v → AllSuit side u size calls → AllSuit side v size calls
all_suit_still side u v size [] same all = tt
all_suit_still side u v size (d ∷ calls) same all = ((λ on. suits_still side u v size d same (all.0 on)), all_suit_still side u v size calls same all.1)

-- ---- a call that is served

pub lengths_lent : (side : Side) (message : List ℕ) (c : Call) → lengths_of (lent_to side message c) ≡ lent_lengths side (length message) c
lengths_lent Zero message c = refl
lengths_lent One message c = refl

record_fits : (u : Unit) (number : ℕ) → Serves u → number ≤ 1 → record_fit u number ≡ Ok tt
record_fits u number serves named =
    simp (le-leb (count_of u.ports.port0) largest_count serves.0, le-leb (count_of u.ports.port1) largest_count serves.1, le-leb number 1 named, serves.2)

pub a_call_that_suits_fits : (side : Side) (u : Unit) (message : List ℕ) (c : Call) → Serves u → Suits side u (length message) c → step_fit u c.port (lengths_of (lent_to side message c)) ≡ Ok tt
unfolding step_fit
a_call_that_suits_fits side u message c serves suits =
    ap₂ (λ l f. lengths_fit u.strap (frams_as_set_up u l) l f) (lengths_lent side message c) (record_fits u c.port serves suits.1) ∙ suits.0

-- the sides
pub side_named : (side : Side) (number : ℕ) → number ≡ number_of_side side → side_of number ≡ side
side_named Zero number e = simp (eq-eqb number 0 e)
side_named One number e = simp (ne_eqb number 0 (λ z. omega arith))

other_side_named : (side : Side) (number : ℕ) → number ≤ 1 → (number ≡ number_of_side side → ⊥) → side_of number ≡ side → ⊥
other_side_named Zero number few other e =
    let one : number ≡ 1 = omega (arith, few, not_0) in
    let z : One ≡ Zero = sym (simp (ne_eqb number 0 other)) ∙ e in
    let o : ◌≡◌ {A = ℕ} 1 0 = ap number_of_side z in absurd (omega arith)
  where
    not_0 : 1 ≤ number
    not_0 = omega (arith, other)
other_side_named One number few other e =
    let zero : number ≡ 0 = omega (arith, few, other) in
    let z : Zero ≡ One = sym (simp (eq-eqb number 0 zero)) ∙ e in
    let o : ◌≡◌ {A = ℕ} 0 1 = ap number_of_side z in absurd (omega arith)

-- what is done to one port leaves the other
other_port : (side at : Side) (ports : Ports) (port : Port) → (at ≡ side → ⊥) → port_of side (with_port at ports port) ≡ port_of side ports
other_port Zero Zero ports port other = absurd (other refl)
other_port Zero One ports port other = refl
other_port One Zero ports port other = refl
other_port One One ports port other = absurd (other refl)

other_message : (side at : Side) (two : Both (List ℕ)) (l : List ℕ) → (at ≡ side → ⊥) → of_side side (put at two l) ≡ of_side side two
other_message Zero Zero two l other = absurd (other refl)
other_message Zero One two l other = refl
other_message One Zero two l other = refl
other_message One One two l other = absurd (other refl)

-- a reply that does not leave on a port leaves it as it is, and any reply leaves the counts
undisturbed : (side : Side) (number : ℕ) (at : Side) (ports : Ports) → (has_reply number ≡ true → at ≡ side → ⊥) → port_of side (ports_after number at ports) ≡ port_of side ports
undisturbed side number at ports none = by (has_reply number) (is_open (port_of at ports)) refl
  where
    by : (b x : Bool) → has_reply number ≡ b → port_of side (cond (b && x) (with_port at ports (Throwing (count_of (port_of at ports)))) ports) ≡ port_of side ports
    by true true e = other_port side at ports (Throwing (count_of (port_of at ports))) (none e)
    by true false e = refl
    by false x e = refl

-- nor does one that leaves on a port where no run is open
idle_stays : (side : Side) (number : ℕ) (at : Side) (ports : Ports) → is_open (port_of side ports) ≡ false → port_of side (ports_after number at ports) ≡ port_of side ports
idle_stays side number at ports idle = by side at idle (has_reply number)
  where
    by : (s a : Side) → is_open (port_of s ports) ≡ false → (b : Bool)
        → port_of s (cond (b && is_open (port_of a ports)) (with_port a ports (Throwing (count_of (port_of a ports)))) ports) ≡ port_of s ports
    by Zero Zero none true = ap (λ (x : Bool). port_of Zero (cond x (with_port Zero ports (Throwing (count_of ports.port0))) ports)) none
    by One One none true = ap (λ (x : Bool). port_of One (cond x (with_port One ports (Throwing (count_of ports.port1))) ports)) none
    by Zero One none true = either_way (λ (p : Ports). p.port0 ≡ ports.port0) (is_open ports.port1) _ _ (λ _. refl) (λ _. refl)
    by One Zero none true = either_way (λ (p : Ports). p.port1 ≡ ports.port1) (is_open ports.port0) _ _ (λ _. refl) (λ _. refl)
    by s a none false = refl

count_kept : (side : Side) (number : ℕ) (at : Side) (ports : Ports) → count_of (port_of side (ports_after number at ports)) ≡ count_of (port_of side ports)
count_kept side number at ports = either_way (λ p. count_of (port_of side p) ≡ count_of (port_of side ports)) (has_reply number && is_open (port_of at ports)) _ _ (λ _. by side at) (λ _. refl)
  where
    by : (s a : Side) → count_of (port_of s (with_port a ports (Throwing (count_of (port_of a ports))))) ≡ count_of (port_of s ports)
    by Zero Zero = refl
    by Zero One = refl
    by One Zero = refl
    by One One = refl

-- no message on the bus has a count that 26 refuses
pub above_every_message : (limit : ℕ) → is_limit limit ≡ true → largest_message limit < largest_count
above_every_message limit limited = omega (arith, (within_both_ends limit limited).1)

-- any call keeps both counts below a bound, refused or not
heard_ports_low : (u : Unit) (number byte : ℕ) (w : World) (bound : ℕ) → largest_message u.limit < bound → ((s : Side) → count_of (port_of s u.ports) ≤ bound)
    → (s : Side) → count_of (port_of s (heard_ports u number byte w)) ≤ bound
unfolding judge_of received_of
heard_ports_low u number byte w bound above low s = apart (step_fit u number (lengths_of w))
  where
    one : (a b : Side) → count_of (port_of a (with_port b u.ports (hear_of (largest_message u.limit) (port_of b u.ports) byte (message_of b w)).port)) ≤ bound
    one Zero Zero = heard_low (largest_message u.limit) bound above u.ports.port0 byte (message_of Zero w) (low Zero)
    one Zero One = low Zero
    one One Zero = low One
    one One One = heard_low (largest_message u.limit) bound above u.ports.port1 byte (message_of One w) (low One)

    apart : (f : Fit) → let side = side_of number in count_of (port_of s (unless f u w.buffers.messages (among_both side w.buffers.messages (received_of u side byte (message_of side w)))).unit.ports) ≤ bound
    apart (Err answer) = low s
    apart (Ok _) = one s (side_of number)

pub a_call_keeps_the_counts_low : (u : Unit) (number byte : ℕ) (sending : Sending) (w : World) (bound : ℕ) → largest_message u.limit < bound → ((s : Side) → count_of (port_of s u.ports) ≤ bound)
    → (s : Side) → count_of (port_of s (step_of u number byte sending w).unit.ports) ≤ bound
a_call_keeps_the_counts_low u number byte sending w bound above low s =
    let o = step_of u number byte sending w in
    subst (λ (n : ℕ). n ≤ bound)
    (sym (ap (λ p. count_of (port_of s p)) (what_every_answer_leaves u number byte sending w).ports ∙ count_kept s (number_of o.answer) o.port (heard_ports u number byte w)))
    (heard_ports_low u number byte w bound above low s)

module _ (side : Side) (u : Unit) (message : List ℕ) (c : Call) where
  abbrev o : Outcome
  o = call_on side u message c

  abbrev w : World
  w = lent_to side message c

  abbrev pub got : AfterByte
  got = hear_of (largest_message u.limit) (port_of side u.ports) c.byte message

  abbrev heard_by_both : Ports
  heard_by_both = heard_ports u c.port c.byte w

  leaves : Leaves u c.port c.sending heard_by_both (heard_messages u c.port c.byte w) (locks u c.port c.byte w) w o
  leaves = what_every_answer_leaves u c.port c.byte c.sending w

  -- a unit that serves goes on serving, after a call that is refused too
  module _ (serves : Serves u) where
    still_low : (s : Side) → count_of (port_of s o.unit.ports) ≤ largest_count
    still_low = a_call_keeps_the_counts_low u c.port c.byte c.sending w largest_count (above_every_message u.limit serves.2) low
      where
        low : (s : Side) → count_of (port_of s u.ports) ≤ largest_count
        low Zero = serves.0
        low One = serves.1

    pub still_serves : Serves o.unit
    still_serves = (still_low Zero, still_low One, subst (λ (n : ℕ). is_limit n ≡ true) (sym leaves.limit) serves.2)

  -- on this port, served
  module _ (serves : Serves u) (suits : Suits side u (length message) c) (here : c.port ≡ number_of_side side) where
    fits : step_fit u c.port (lengths_of w) ≡ Ok tt
    fits = a_call_that_suits_fits side u message c serves suits

    at : side_of c.port ≡ side
    at = side_named side c.port here

    as_heard : heard_on u c.port c.byte w ≡ got
    as_heard = ap₂ (λ p l. hear_of (largest_message u.limit) p c.byte l) (ap (λ s. port_of s u.ports) at) (ap (λ s. message_of s w) at ∙ put_there side c.lent.buffers.messages message)

    pub served : o ≡ comes_to (with_ports u (with_port side u.ports got.port)) side got.heard c.sending (lent_to side got.message c)
    served =
        served_so u c.port c.byte c.sending w fits
        ∙ ap₂ (λ (s : Side) (g : AfterByte). comes_to (with_ports u (with_port s u.ports g.port)) s g.heard c.sending (with_message s w g.message)) at as_heard
        ∙ ap (λ l. comes_to (with_ports u (with_port side u.ports got.port)) side got.heard c.sending l) (put_over side)
      where
        put_over : (s : Side) → with_message s (lent_to s message c) got.message ≡ lent_to s got.message c
        put_over Zero = refl
        put_over One = refl

    heard_here : port_of side heard_by_both ≡ got.port
    heard_here =
        ap (port_of side) (sym (heard_of_one u c.port c.byte w fits).0)
        ∙ ap₂ (λ (s : Side) (g : AfterByte). port_of side (with_port s u.ports g.port)) at as_heard ∙ put_there side u.ports got.port

    pub port_as_heard : SendsNothingOn side o → port_of side o.unit.ports ≡ got.port
    port_as_heard none = ap (port_of side) leaves.ports ∙ undisturbed side (number_of o.answer) o.port heard_by_both none ∙ heard_here

    -- and where the byte leaves no run open, whatever leaves
    pub idle_port_as_heard : is_open got.port ≡ false → port_of side o.unit.ports ≡ got.port
    idle_port_as_heard idle = ap (port_of side) leaves.ports ∙ idle_stays side (number_of o.answer) o.port heard_by_both (ap is_open heard_here ∙ idle) ∙ heard_here

    pub message_as_heard : message_of side o.world ≡ got.message
    message_as_heard =
        ap (of_side side) (leaves.stored ∙ sym (heard_of_one u c.port c.byte w fits).1)
        ∙ ap₂ (λ (s : Side) (g : AfterByte). of_side side (put s w.buffers.messages g.message)) at as_heard ∙ put_there side w.buffers.messages got.message

    message_long : length (message_of side o.world) ≡ length message
    message_long = ap length message_as_heard ∙ heard_long (largest_message u.limit) (port_of side u.ports) c.byte message

  -- on the other or on none, served or refused
  module _ (there : c.port ≡ number_of_side side → ⊥) where
    heard_elsewhere : (port_of side heard_by_both ≡ port_of side u.ports) × (of_side side (heard_messages u c.port c.byte w) ≡ message_of side w)
    unfolding judge_of received_of
    heard_elsewhere = by (step_fit u c.port (lengths_of w)) refl
      where
        by : (f : Fit) → step_fit u c.port (lengths_of w) ≡ f
            → let at = side_of c.port in
            let j = unless f u w.buffers.messages (among_both at w.buffers.messages (received_of u at c.byte (message_of at w))) in
            (port_of side j.unit.ports ≡ port_of side u.ports) × (of_side side j.message ≡ message_of side w)
        by (Err answer) e = (refl, refl)
        by (Ok _) e =
            let apart = other_side_named side c.port (a_served_record_is_sound u c.port (lengths_of w) e).port there in
            (other_port side (side_of c.port) u.ports _ apart, other_message side (side_of c.port) w.buffers.messages _ apart)

    pub port_as_it_was : SendsNothingOn side o → port_of side o.unit.ports ≡ port_of side u.ports
    port_as_it_was none = ap (port_of side) leaves.ports ∙ undisturbed side (number_of o.answer) o.port heard_by_both none ∙ heard_elsewhere.0

    pub idle_port_as_it_was : is_open (port_of side u.ports) ≡ false → port_of side o.unit.ports ≡ port_of side u.ports
    idle_port_as_it_was idle =
        ap (port_of side) leaves.ports ∙ idle_stays side (number_of o.answer) o.port heard_by_both (ap is_open heard_elsewhere.0 ∙ idle) ∙ heard_elsewhere.0

    pub message_as_it_was : message_of side o.world ≡ message
    message_as_it_was = ap (of_side side) leaves.stored ∙ heard_elsewhere.1 ∙ put_there side c.lent.buffers.messages message

-- ---- along the calls

first_or : Heard → List Heard → Heard
first_or h [] = h
first_or h (x ∷ _) = x

but_first : List Heard → List Heard
but_first [] = []
but_first (_ ∷ l) = l

-- what the last call comes to, by the unit that it meets and by what the line left
module _ (side : Side) (c : Call) (h : Heard) where
  abbrev closing : Unit → Receiver → List ℕ → Outcome
  closing v receiver message = comes_to (with_ports v (with_port side v.ports (Hearing receiver))) side h c.sending (lent_to side message c)

  -- one call more before others
  module _ (d : Call) (calls : List Call) (u : Unit) (message : List ℕ) (receiver : Receiver) (largest : ℕ) (most : largest ≡ largest_message u.limit)
      (port : port_of side u.ports ≡ Hearing receiver) (serves : Serves u) (suits : is_on side d ≡ true → Suits side u (length message) d) (none : SendsNothingOn side (call_on side u message d)) where
    abbrev one : Outcome
    one = call_on side u message d

    abbrev kept : List ℕ
    kept = message_of side one.world

    abbrev met_last : Unit
    met_last = reached_by side one.unit kept calls

    -- what the others come to after it
    abbrev After : Type 0
    After = (r : Receiver) → length kept ≡ length message → port_of side one.unit.ports ≡ Hearing r
        → (feed_of largest r (bytes_on side calls ++ (c.byte ∷ [])) kept).heard ≡ replicate (length (bytes_on side calls)) heard.Taken ++ (h ∷ [])
        → let f = feed_of largest r (bytes_on side calls ++ (c.byte ∷ [])) kept in
        fed_of side one.unit kept calls c ≡ delivering (length (bytes_on side calls)) (closing met_last f.receiver f.message)

    one_more : After → (b : Bool) → is_on side d ≡ b
        → (feed_of largest receiver (cond b (d.byte ∷ bytes_on side calls) (bytes_on side calls) ++ (c.byte ∷ [])) message).heard
        ≡ replicate (length (cond b (d.byte ∷ bytes_on side calls) (bytes_on side calls))) heard.Taken ++ (h ∷ [])
        → let f = feed_of largest receiver (cond b (d.byte ∷ bytes_on side calls) (bytes_on side calls) ++ (c.byte ∷ [])) message in
        answering b one.answer (fed_of side one.unit kept calls c)
        ≡ delivering (length (cond b (d.byte ∷ bytes_on side calls) (bytes_on side calls))) (closing met_last f.receiver f.message)
    unfolding hear_of first_or but_first served_of verdict_of
    one_more after true on k =
        let at = eqb-true d.port (number_of_side side) on in
        let next = receive_of largest receiver d.byte message in
        let as_line : got side u message d ≡ record { port = Hearing next.receiver; heard = next.heard; message = next.message }
        = ap₂ (λ (p : Port) (n : ℕ). hear_of n p d.byte message) port (sym most) in
        let quiet : next.heard ≡ heard.Taken = ap (first_or h) k in
        let stored : kept ≡ next.message = message_as_heard side u message d serves (suits on) at ∙ ap (λ (g : AfterByte). g.message) as_line in
        let open_port : port_of side one.unit.ports ≡ Hearing next.receiver
        = port_as_heard side u message d serves (suits on) at none ∙ ap (λ (g : AfterByte). g.port) as_line in
        let taken : one.answer ≡ Taken
        = ap (λ (x : Outcome). x.answer) (served side u message d serves (suits on) at)
        ∙ ap (λ (x : Heard). (comes_to (with_ports u (with_port side u.ports (got side u message d).port)) side x d.sending (lent_to side (got side u message d).message d)).answer)
        (ap (λ (g : AfterByte). g.heard) as_line ∙ quiet) in
        ap₂ (answering true) taken
        (after next.receiver (message_long side u message d serves (suits on) at) open_port
        (ap (λ l. (feed_of largest next.receiver (bytes_on side calls ++ (c.byte ∷ [])) l).heard) stored ∙ ap but_first k)
        ∙ ap (λ l. let f = feed_of largest next.receiver (bytes_on side calls ++ (c.byte ∷ [])) l in delivering (length (bytes_on side calls)) (closing met_last f.receiver f.message)) stored)
    one_more after false off k =
        let there = eqb-false d.port (number_of_side side) off in
        let stored : kept ≡ message = message_as_it_was side u message d there in
        after receiver (ap length stored) (port_as_it_was side u message d there none ∙ port)
        (ap (λ l. (feed_of largest receiver (bytes_on side calls ++ (c.byte ∷ [])) l).heard) stored ∙ k)
        ∙ ap (λ l. let f = feed_of largest receiver (bytes_on side calls ++ (c.byte ∷ [])) l in delivering (length (bytes_on side calls)) (closing met_last f.receiver f.message)) stored

  -- calls of which those on this port are only taken leave what the last one comes to
  pub all_but_the_last : (calls : List Call) (u : Unit) (message : List ℕ) (receiver : Receiver) (largest : ℕ) → largest ≡ largest_message u.limit
      → port_of side u.ports ≡ Hearing receiver → Serves u → AllSuit side u (length message) calls → Suits side u (length message) c → c.port ≡ number_of_side side
      → NoReplyOn side u message calls
      → (feed_of largest receiver (bytes_on side calls ++ (c.byte ∷ [])) message).heard ≡ replicate (length (bytes_on side calls)) heard.Taken ++ (h ∷ [])
      → let f = feed_of largest receiver (bytes_on side calls ++ (c.byte ∷ [])) message in
      fed_of side u message calls c ≡ delivering (length (bytes_on side calls)) (closing (reached_by side u message calls) f.receiver f.message)
  unfolding hear_of first_or but_first
  all_but_the_last [] u message receiver largest most port serves all last here none e =
      let same : (receive_of largest receiver c.byte message).heard ≡ h = ap (first_or h) e in
      ap (delivering 0)
      (served side u message c serves last here
      ∙ ap₂ (λ (p : Port) (n : ℕ). let g = hear_of n p c.byte message in comes_to (with_ports u (with_port side u.ports g.port)) side g.heard c.sending (lent_to side g.message c)) port (sym most)
      ∙ ap (λ x. comes_to (with_ports u (with_port side u.ports (Hearing (receive_of largest receiver c.byte message).receiver))) side x c.sending (lent_to side (receive_of largest receiver c.byte message).message c)) same)
  all_but_the_last (d ∷ calls) u message receiver largest most port serves all last here none e =
      let o = call_on side u message d in
      let same = a_call_keeps_the_same side u message d in
      one_more d calls u message receiver largest most port serves all.0 none.0
      (λ r size is.
      all_but_the_last calls o.unit (message_of side o.world) r largest (most ∙ ap largest_message (sym same.1)) is (still_serves side u message d serves)
      (subst (λ n. AllSuit side o.unit n calls) (sym size) (all_suit_still side u o.unit (length message) calls same all.1))
      (subst (λ n. Suits side o.unit n c) (sym size) (suits_still side u o.unit (length message) c same last)) here none.1)
      (is_on side d) refl e
