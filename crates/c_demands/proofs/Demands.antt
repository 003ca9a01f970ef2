-- The demands, from C: whoever calls `wheel_set_up` and `wheel_step` and hands the record on from call to call has them as they stand here, and
-- T-11 whoever judges and stores lists by `wheel_judge_list` and `wheel_store_list`.
-- Assumes nothing.
use mathlib.Core.Path.{◌≡◌, refl, sym, ap, ap₂, ◌∙◌, subst}
use mathlib.Core.Bool.{Bool, true, false, cond, false≢true}
use mathlib.Core.Logic.{◌⊎◌, inl, inr}
use mathlib.Core.List.{List, [], ◌∷◌, ◌++◌, map}
use Prim.Native.Nat.{ℕ, zero, suc, ◌+◌, ◌-◌, ◌≤◌, ◌<◌}
use native.Mathlib.Omega.{arith}
use lib.Dec.{eqb}
use lib.ListN.{length, take, drop, get_or, replicate, length-append}
use lib.Seq.{take-append_seam, get_or-append_seam}
use Rattle.std.proofs.Common.{Some, Ok, Err}
use Rattle.crc.specs.Sum.{sum_of}
use Rattle.line.specs.Framing.{fend}
use Rattle.line.specs.Receiver.{opened}
use Rattle.line.specs.Packing.{body_of, packed_of, shortest_message, message_size, reply_size, Packing, pack_of}
use Rattle.line.proofs.Laying.{a_short_reply_buffer_is_refused, a_short_message_is_refused, a_long_message_is_refused, a_message_of_legal_length_is_packed}
use Rattle.field.specs.Fields.{bytes16, bytes32}
use Rattle.memory.specs.Bytes.{stretch, begun}
use Rattle.blocks.specs.Cost.{range_cost}
use Rattle.read_only.specs.ReadOnly.{KeepsReadOnly}
use Rattle.memory.proofs.Tests.{either_side}
use Rattle.read_only.proofs.Keeping.{kept_at_first, also_kept}
use Rattle.carrying.specs.declared.Mode.TheVariants.{Application}
use Rattle.carrying.specs.Ending.{is_limit, done}
use Rattle.carrying.specs.Held.{Frams, Which, fram_of, Held}
use Rattle.fram_commands.specs.Windows.{first_of}
use Rattle.file_commands.specs.WriteFile.{judge_list_of, Storage, storage, store_list_of, StoringLeaves}
use Rattle.file_commands.proofs.Judging.{what_storing_leaves}
use Rattle.answer.specs.Answers.{number_of, sent_of}
use Rattle.answer.specs.declared.Answer.{Answer}
use Rattle.answer.specs.declared.Answer.TheVariants.{Taken}
use Rattle.ports.specs.declared.Side.{Side}
use Rattle.ports.specs.declared.Side.TheVariants.{Zero, One}
use Rattle.ports.specs.declared.Port.TheVariants.{Hearing, Throwing}
use Rattle.ports.specs.Sides.{side_of, number_of_side, of_side}
use Rattle.ports.specs.Ports.{Sending, port_of, count_of, is_sending}
use Rattle.judging.specs.declared.Unit.{Unit}
use Rattle.judging.specs.Fitting.{Fit, set_up_fit}
use Rattle.judging.specs.Judging.{largest_message}
use Rattle.replying.specs.Replies.{code_of, sealed, reply_message}
use Rattle.commanding.specs.World.{World, message_of, reply_of, lengths_of, Outcome, with_frams, with_message}
use Rattle.commanding.specs.Commanded.{answered}
use Rattle.unit.specs.Steps.{nobody, somebody, prepared_for, set_up_as, set_up_of, step_of}
use Rattle.face.specs.declared.WheelUnit.{WheelUnit}
use Rattle.face.specs.declared.WheelStepped.{WheelStepped}
use Rattle.face.specs.declared.WheelPacked.{WheelPacked}
use Rattle.face.specs.Face.{yes_out}
use Rattle.face.specs.Records.{mode_out, place_in, port_in, lock_in, lock_out, sending_in, unit_in, unit_out, Returned, returned, returned_by}
use Rattle.face.proofs.Settled.{a_record_comes_back}
use Rattle.demands.specs.Calls.{lent_to, call_on, is_on, Fed, answering, fed_of, reached_by, bytes_on, NoReplyOn, opened_on, delivering, Suits, AllSuit, Serves, Idle, addressed_of, Bytes, Lending, its_memory, Own, own, own_of, called_of, Right, Inside}
use Rattle.demands.specs.Locking.{locks}
use Rattle.demands.specs.Leaving.{heard_ports, heard_messages, has_reply, is_unsaid, is_commanded, counts_after, shown_locked, ports_after, SetUpRefusal}
use Rattle.demands.specs.Orders.{Way, met, SendsUpTo, Sends, with_its_message, left_by, sent_by, replies, done_answer, came_to}
use Rattle.demands.proofs.Cases.{a_refused_set_up_has_its_number, a_refused_set_up_is_no_0}
use Rattle.demands.proofs.DemandOne.{what_every_answer_leaves, what_set_up_leaves}
use Rattle.demands.proofs.DemandTwo.{a_packed_message_stands_in_the_buffer, a_served_fend_opens_a_run, after_any_fend_a_packed_command_is_carried_out}
use Rattle.demands.proofs.Orders.{a_sent_command_is_carried_out, a_command_that_is_done_sends_its_data}
use Rattle.demands.proofs.DemandThree.{the_limit_stays_and_the_counts_stop_above_it, after_any_calls_the_sums_are_right, the_crc_sent_is_fresh}
use Rattle.demands.proofs.Along.{the_same_is_met}
use Rattle.demands.proofs.Limits.{on_no_port_no_byte_is_served, with_no_limit_no_byte_is_served}
use Rattle.demands.proofs.Keeping.{a_step_keeps_read_only_bytes, storing_keeps_read_only_bytes, a_set_up_keeps_edac}
use Rattle.demands.proofs.Costing.{what_every_answer_costs, a_set_up_costs_nothing, a_crc_sent_costs_its_range, a_crc_that_costs_1532}
use Rattle.demands.proofs.Locked.{once_locked_no_bytes_change_bootloader_fram}
use Rattle.demands.proofs.Asking.{done_exactly_where_judged_fit, the_command_leaves_what_storing_leaves}
use Rattle.c_demands.specs.FromC.{FromC, Steps, SetsUp, call_of, calls_of, sent_from, LeavesInC, CostsInC, OnTheLine, way_of, NoReplyFromC, Packs, bytes_from_c, to_be_sent, numbers_on, Follow, last_unit, last_frams, Judges, Stores, AnyFromC, setting_up, stepping, storing, OnOneEdac, last_edac}

-- ---- lists

-- two lists with one more byte at their ends
last_apart : (xs ys : List ℕ) (x y : ℕ) → xs ++ (x ∷ []) ≡ ys ++ (y ∷ []) → (xs ≡ ys) × (x ≡ y)
last_apart xs ys x y e =
    let more : length xs + 1 ≡ length ys + 1 = sym (length-append xs (x ∷ [])) ∙ ap length e ∙ length-append ys (y ∷ []) in
    let same : length xs ≡ length ys = omega arith in (
      sym (take-append_seam xs (x ∷ [])) ∙ ap₂ (λ (n : ℕ) l. take n l) same e ∙ take-append_seam ys (y ∷ []),
      sym (get_or-append_seam xs x [] 0) ∙ ap₂ (λ (n : ℕ) l. get_or l n 0) same e ∙ get_or-append_seam ys y [] 0,
    )

-- packing that answers 0 had room, and a message of legal length
packed_so : (m before : List ℕ) → (pack_of m before).answer ≡ 0 → (reply_size ≤ length before) × (shortest_message ≤ length m) × (length m ≤ message_size)
packed_so m before none =
    either_side reply_size (length before)
    (λ roomy. either_side shortest_message (length m)
    (λ enough. either_side (length m) message_size (λ fits. (roomy, enough, fits))
    (λ long. let n = ap (λ (p : Packing). p.answer) (a_long_message_is_refused m before roomy enough long) in absurd (omega (arith, none, n))))
    (λ short. let n = ap (λ (p : Packing). p.answer) (a_short_message_is_refused m before roomy short) in absurd (omega (arith, none, n))))
    (λ narrow. let n = ap (λ (p : Packing). p.answer) (a_short_reply_buffer_is_refused m before narrow) in absurd (omega (arith, none, n)))

-- ---- what came back, part by part

-- a side by its number
side_back : (side : Side) → side_of (number_of_side side) ≡ side
side_back Zero = refl
side_back One = refl

-- a message buffer put back where it was
same_buffer : (side : Side) (w : World) → with_message side w (message_of side w) ≡ w
same_buffer Zero w = refl
same_buffer One w = refl

module _ (u : WheelUnit) (c : FromC) (steps : Steps u c) where
  abbrev busy : Sending
  busy = sending_in c.sending0 c.sending1

  abbrev o : Outcome
  o = step_of (unit_in u) c.port c.byte busy c.lent

  left : c.left ≡ o.world
  left = ap (λ (r : Returned). r.world) steps

  back : c.back.unit ≡ unit_out o.unit
  back = ap (λ (r : Returned). r.stepped.unit) steps

  number : c.back.answer ≡ number_of o.answer
  number = ap (λ (r : Returned). r.stepped.answer) steps

  size : c.back.sent ≡ sent_of o.answer
  size = ap (λ (r : Returned). r.stepped.sent) steps

  port_number : c.back.port ≡ number_of_side o.port
  port_number = ap (λ (r : Returned). r.stepped.port) steps

  port : sent_from c ≡ o.port
  port = ap side_of port_number ∙ side_back o.port

  next : unit_in c.back.unit ≡ o.unit
  next = ap unit_in back ∙ a_record_comes_back o.unit

  -- Demand 1. For any record, port, byte and lent buffers of any length.
  pub what_every_call_from_c_leaves : LeavesInC u c
  what_every_call_from_c_leaves =
      let leaves = what_every_answer_leaves (unit_in u) c.port c.byte busy c.lent in
      let side = side_of c.port in
      let heard = heard_ports (unit_in u) c.port c.byte c.lent in
      let message = of_side side (heard_messages (unit_in u) c.port c.byte c.lent) in
      let shown = shown_locked (locks (unit_in u) c.port c.byte c.lent) c.lent.diagnostics in
      record {
        nothing_by_a_refused_call = λ high.
            let both = leaves.nothing_by_a_refused_call (omega (arith, number)) in (back ∙ ap unit_out both.0, left ∙ both.1);
        memory_unless_a_command_is_done = λ one two.
            let all = leaves.memory_unless_a_command_is_done (λ e. one (number ∙ e)) (λ e. two (number ∙ e)) in (
              ap (λ (w : World). w.edac) left ∙ all.0,
              ap (λ (w : World). w.frams) left ∙ all.1,
              ap (λ (r : WheelUnit). r.mode) back ∙ ap mode_out all.2,
              ap (λ (r : WheelUnit). r.locked) back ∙ ap lock_out all.3,
            );
        counts = ap (λ (w : World). w.diagnostics) left ∙ leaves.counts ∙ sym (ap₂ (λ (n : ℕ) (s : Side). counts_after u.strap side heard message n s shown) number port);
        lock = ap (λ (r : WheelUnit). r.locked) back ∙ ap lock_out leaves.lock;
        ports = ap (λ (v : Unit). v.ports) next ∙ leaves.ports ∙ sym (ap₂ (λ (n : ℕ) (s : Side). ports_after n s heard) number port);
        stored = ap (λ (w : World). w.buffers.messages) left ∙ leaves.stored;
        reply = λ s.
            ap (λ (w : World). reply_of s w) left ∙ leaves.reply s
            ∙ sym (ap₂ (λ (n : ℕ) (w : World). begun (reply_of s c.lent) (take n (reply_of s w)))
            (ap₂ (λ (p n : ℕ). cond (eqb (number_of_side s) p) n 0) port_number size) left);
        ours = λ one. leaves.ours (ap is_commanded (sym number) ∙ one);
        leaving = λ loud.
            let all = leaves.leaving (ap has_reply (sym number) ∙ loud) in (all.0 ∙ ap Some (sym port), all.1, ap (λ (s : Side). is_sending s busy) port ∙ all.2);
        losing = λ hushed. leaves.losing (ap is_unsaid (sym number) ∙ hushed);
        on_no_port = λ none. port_number ∙ ap number_of_side (leaves.on_no_port (ap has_reply (sym number) ∙ none));
        strap = ap (λ (r : WheelUnit). r.strap) back ∙ leaves.strap;
        bootloader_length = ap (λ (r : WheelUnit). r.bootloader_len) back ∙ leaves.bootloader_length;
        fram_length = ap (λ (r : WheelUnit). r.fram_len) back ∙ leaves.fram_length;
        limit = ap (λ (r : WheelUnit). r.limit) back ∙ leaves.limit;
      }

  -- 02, T-13. What it says that it cost, for any record, port, byte and lent buffers of any length.
  pub what_every_call_from_c_costs : CostsInC c
  what_every_call_from_c_costs =
      let costs = what_every_answer_costs (unit_in u) c.port c.byte busy c.lent in
      let side = side_of c.port in
      let cost : c.back.cost ≡ o.cost = ap (λ (r : Returned). r.stepped.cost) steps in
      record {
        nothing_unless_a_command_is_done = λ one two. cost ∙ costs.nothing_unless_a_command_is_done (λ e. one (number ∙ e)) (λ e. two (number ∙ e));
        nothing_unless_it_is_crc = λ other.
            cost ∙ costs.nothing_unless_it_is_crc (λ e. other (ap (λ (w : World). code_of (get_or (message_of side w) 2 0)) left ∙ e));
        something_of_a_crc_that_is_done = λ it_is_done code.
            let some = costs.something_of_a_crc_that_is_done (so it_is_done) (ap (λ (w : World). code_of (get_or (message_of side w) 2 0)) (sym left) ∙ code) in omega (arith, cost, some);
        by_the_larger_fram = omega (arith, cost, costs.by_the_larger_fram);
        at_most_1532 = omega (arith, cost, costs.at_most_1532);
      }
    where
      so : (c.back.answer ≡ 1) ⊎ (c.back.answer ≡ 2) → (number_of o.answer ≡ 1) ⊎ (number_of o.answer ≡ 2)
      so (inl one) = inl (sym number ∙ one)
      so (inr two) = inr (sym number ∙ two)

  -- 02, T-06. A record with a limit outside 260 to 1,028 is refused, whatever else is lent, and nothing that was lent changes.
  pub with_no_limit_no_byte_from_c_is_served : is_limit u.limit ≡ false → (20 ≤ c.back.answer) × (c.left ≡ c.lent)
  with_no_limit_no_byte_from_c_is_served none =
      let so = with_no_limit_no_byte_is_served (unit_in u) c.port c.byte busy c.lent none in
      let high = so.0 in
      (omega (arith, number, high), left ∙ so.2)

  -- 02, T-01. So is a byte on a port other than 0 and 1.
  pub on_no_port_no_byte_from_c_is_served : 1 < c.port → (20 ≤ c.back.answer) × (c.left ≡ c.lent)
  on_no_port_no_byte_from_c_is_served none =
      let so = on_no_port_no_byte_is_served (unit_in u) c.port c.byte busy c.lent none in
      let high = so.0 in
      (omega (arith, number, high), left ∙ so.2)

  -- What is to be sent is what the outcome sends.
  sent_so : to_be_sent c ≡ sent_by o
  sent_so = ap₂ (λ (n : ℕ) (l : List ℕ). take n l) size (ap₂ reply_of port left)

-- ---- demand 2

-- A FEND that is served opens a run on its port, whatever it closed.
pub a_fend_from_c_opens_a_run : (side : Side) (u : WheelUnit) (c : FromC) → Steps u c → Serves (unit_in u) → Suits side (unit_in u) (length (message_of side c.lent)) (call_of c)
    → c.port ≡ number_of_side side → c.byte ≡ fend → port_of side (unit_in c.back.unit).ports ≡ Hearing opened
a_fend_from_c_opens_a_run side u c steps serves suits here ends =
    ap (λ (v : Unit). port_of side v.ports) (next u c steps)
    ∙ sym (ap (λ w. port_of side (step_of (unit_in u) c.port c.byte (sending_in c.sending0 c.sending1) w).unit.ports) (same_buffer side c.lent))
    ∙ a_served_fend_opens_a_run side (unit_in u) (message_of side c.lent) (call_of c) serves suits here ends

-- some calls on the line, and one more, leave what demands says of them: the numbers of the answers on this port, and all that the last one gives back
-- and leaves
the_line_from_c : (side : Side) (u : WheelUnit) (message : List ℕ) (calls : List FromC) (c : FromC) → OnTheLine side u message calls c
    → (numbers_on side calls ≡ map number_of (fed_of side (unit_in u) message (calls_of calls) (call_of c)).answers)
    × (returned c.back c.left ≡ returned_by (fed_of side (unit_in u) message (calls_of calls) (call_of c)).last)
    × (reached_by side (unit_in u) message (calls_of calls) ≡ unit_in (last_unit u calls))
the_line_from_c side u message [] c on = (
  refl,
  on.1 ∙ ap (λ w. returned_by (step_of (unit_in u) c.port c.byte (sending_in c.sending0 c.sending1) w)) (sym (same_buffer side c.lent) ∙ ap (with_message side c.lent) on.0),
  refl,
)
the_line_from_c side u message (d ∷ calls) c on =
    let busy = sending_in d.sending0 d.sending1 in
    let x = call_on side (unit_in u) message (call_of d) in
    let lent : step_of (unit_in u) d.port d.byte busy d.lent ≡ x
    = ap (λ w. step_of (unit_in u) d.port d.byte busy w) (sym (same_buffer side d.lent) ∙ ap (with_message side d.lent) on.0) in
    let rest = the_line_from_c side d.back.unit (message_of side d.left) calls c on.2 in
    let unit : unit_in d.back.unit ≡ x.unit = next u d on.1 ∙ ap (λ (y : Outcome). y.unit) lent in
    let kept : message_of side d.left ≡ message_of side x.world = ap (message_of side) (left u d on.1 ∙ ap (λ (y : Outcome). y.world) lent) in
    let same : fed_of side (unit_in d.back.unit) (message_of side d.left) (calls_of calls) (call_of c) ≡ fed_of side x.unit (message_of side x.world) (calls_of calls) (call_of c)
    = ap₂ (λ (v : Unit) (l : List ℕ). fed_of side v l (calls_of calls) (call_of c)) unit kept in
    let told : d.back.answer ≡ number_of x.answer = number u d on.1 ∙ ap (λ (y : Outcome). number_of y.answer) lent in (
      by (is_on side (call_of d)) d.back.answer x.answer told (numbers_on side calls) (fed_of side x.unit (message_of side x.world) (calls_of calls) (call_of c))
          (rest.0 ∙ ap (λ (f : Fed). map number_of f.answers) same),
      rest.1 ∙ ap (λ (f : Fed). returned_by f.last) same ∙ last_of (is_on side (call_of d)) x.answer (fed_of side x.unit (message_of side x.world) (calls_of calls) (call_of c)),
      sym (ap₂ (λ (v : Unit) (l : List ℕ). reached_by side v l (calls_of calls)) unit kept) ∙ rest.2,
    )
  where
    by : (b : Bool) (n : ℕ) (a : Answer) → n ≡ number_of a → (l : List ℕ) (f : Fed) → l ≡ map number_of f.answers → cond b (n ∷ l) l ≡ map number_of (answering b a f).answers
    by true n a e l f k = ap₂ (λ (m : ℕ) ms. m ∷ ms) e k
    by false n a e l f k = k

    last_of : (b : Bool) (a : Answer) (f : Fed) → returned_by f.last ≡ returned_by (answering b a f).last
    last_of true a f = refl
    last_of false a f = refl

-- what came back says that no reply leaves on this port, and so none does
pub no_reply_from_c : (side : Side) (u : WheelUnit) (message : List ℕ) (calls : List FromC) (c : FromC) → OnTheLine side u message calls c → NoReplyFromC side calls
    → NoReplyOn side (unit_in u) message (calls_of calls)
no_reply_from_c side u message [] c on none = tt
no_reply_from_c side u message (d ∷ calls) c on none =
    let busy = sending_in d.sending0 d.sending1 in
    let x = call_on side (unit_in u) message (call_of d) in
    let lent : step_of (unit_in u) d.port d.byte busy d.lent ≡ x
    = ap (λ w. step_of (unit_in u) d.port d.byte busy w) (sym (same_buffer side d.lent) ∙ ap (with_message side d.lent) on.0) in
    let unit : unit_in d.back.unit ≡ x.unit = next u d on.1 ∙ ap (λ (y : Outcome). y.unit) lent in
    let kept : message_of side d.left ≡ message_of side x.world = ap (message_of side) (left u d on.1 ∙ ap (λ (y : Outcome). y.world) lent) in
    let told : d.back.answer ≡ number_of x.answer = number u d on.1 ∙ ap (λ (y : Outcome). number_of y.answer) lent in
    let there : d.back.port ≡ number_of_side x.port = port_number u d on.1 ∙ ap (λ (y : Outcome). number_of_side y.port) lent in (
      (λ loud same. none.0 (ap has_reply told ∙ loud) (there ∙ ap number_of_side same)),
      subst (λ (l : List ℕ). NoReplyOn side x.unit l (calls_of calls)) kept
          (subst (λ (v : Unit). NoReplyOn side v (message_of side d.left) (calls_of calls)) unit (no_reply_from_c side d.back.unit (message_of side d.left) calls c on.2 none.1)),
    )

all_zero : (n : ℕ) → map number_of (replicate n Taken) ≡ replicate n 0
all_zero zero = refl
all_zero (suc n) = ap (λ l. 0 ∷ l) (all_zero n)

module _ (side : Side) (u : WheelUnit) (message : List ℕ) (calls : List FromC) (c : FromC) (on : OnTheLine side u message calls c) where
  -- a delivery, from C
  delivered : (n : ℕ) (x : Outcome) → fed_of side (unit_in u) message (calls_of calls) (call_of c) ≡ delivering n x
      → (numbers_on side calls ≡ replicate n 0) × (returned c.back c.left ≡ returned_by x)
  delivered n x e =
      let both = the_line_from_c side u message calls c on in (
        both.0 ∙ ap (λ (f : Fed). map number_of f.answers) e ∙ all_zero n,
        both.1 ∙ ap (λ (f : Fed). returned_by f.last) e,
      )

  -- what is to be sent after the last of them
  sent_last : to_be_sent c ≡ sent_by (fed_of side (unit_in u) message (calls_of calls) (call_of c)).last
  sent_last =
      let is = (the_line_from_c side u message calls c on).1 in
      let x = (fed_of side (unit_in u) message (calls_of calls) (call_of c)).last in
      ap₂ (λ (n : ℕ) (l : List ℕ). take n l) (ap (λ (r : Returned). r.stepped.sent) is)
      (ap₂ reply_of (ap (λ (r : Returned). side_of r.stepped.port) is ∙ side_back x.port) (ap (λ (r : Returned). r.world) is))

  -- Demand 2. A command for the unit, sealed and packed, is given to `wheel_step` byte by byte on a port where it is heard, the record and the message
  -- buffer of that port going from call to call; bytes of the other port come between as they like, as long as no reply leaves on this one. All its calls
  -- answer 0 but the last, which gives back and leaves what the command comes to, answered.
  module _ (destination : ℕ) (telemetry : Side) (source control : ℕ) (field : List ℕ) (sends : Sends (way_of side u message destination telemetry calls) source control field (call_of c)) where
    abbrev way : Way
    way = way_of side u message destination telemetry calls

    pub a_command_from_c_is_carried_out : (numbers_on side calls ≡ replicate (length (fend ∷ body_of (sealed (destination ∷ source ∷ control ∷ field)))) 0)
        × (returned c.back c.left
        ≡ returned_by
        (answered (opened_on side (met way)) telemetry (is_sending telemetry (sending_in c.sending0 c.sending1)) destination source control field (came_to (met way) (call_of c) control field)
        (with_its_message way source control field (call_of c))))
    a_command_from_c_is_carried_out =
        delivered (length (fend ∷ body_of (sealed (destination ∷ source ∷ control ∷ field)))) _ (a_sent_command_is_carried_out way source control field (call_of c) sends)

    -- The unit that it meets is the record that the call before gave back.
    pub the_unit_met_from_c : met way ≡ unit_in (last_unit u calls)
    the_unit_met_from_c = (the_line_from_c side u message calls c on).2

    -- If it is done, and its reply leaves, then the bytes to be sent are the packed reply with the data that the command came to.
    pub a_command_from_c_is_answered : replies way control (call_of c) ≡ true → (reply : List ℕ) (after : Held) → came_to (met way) (call_of c) control field ≡ done reply after
        → to_be_sent c ≡ packed_of (reply_message 1 destination source control reply)
    a_command_from_c_is_answered leaves reply after came =
        sent_last ∙ a_command_that_is_done_sends_its_data way source control field (call_of c) sends leaves reply after came

  -- The same after any FEND on that port, without one of its own, whatever run that FEND closed (`a_fend_from_c_opens_a_run`); and for an address that the port
  -- does not hear as well, which is 9.
  pub after_any_fend_a_command_from_c_is_carried_out : (destination source control : ℕ) (field : List ℕ) → Bytes (destination ∷ source ∷ control ∷ field) → length field ≤ u.limit
      → port_of side (unit_in u).ports ≡ Hearing opened → Serves (unit_in u) → AllSuit side (unit_in u) (length message) (calls_of calls) → Suits side (unit_in u) (length message) (call_of c)
      → c.byte ≡ fend → c.port ≡ number_of_side side → NoReplyFromC side calls
      → let sent = sealed (destination ∷ source ∷ control ∷ field) in
      bytes_on side (calls_of calls) ≡ body_of sent
      → (numbers_on side calls ≡ replicate (length (body_of sent)) 0)
      × (returned c.back c.left
      ≡ returned_by
      (addressed_of (opened_on side (unit_in (last_unit u calls))) side (sending_in c.sending0 c.sending1) destination source control field (lent_to side (sent ++ drop (length sent) message) (call_of c))))
  after_any_fend_a_command_from_c_is_carried_out destination source control field bytes short after serves all last ends here none is =
      let sent = sealed (destination ∷ source ∷ control ∷ field) in
      let two = delivered (length (body_of sent)) _
      (after_any_fend_a_packed_command_is_carried_out side (unit_in u) message (calls_of calls) (call_of c) serves all last ends here (no_reply_from_c side u message calls c on none)
      destination source control field bytes short after is) in (
        two.0,
        two.1
            ∙ ap (λ (v : Unit). returned_by (addressed_of (opened_on side v) side (sending_in c.sending0 c.sending1) destination source control field (lent_to side (sent ++ drop (length sent) message) (call_of c))))
            (the_line_from_c side u message calls c on).2,
      )

  -- 02, T-13. A CRC command, with poll set or clear, its reply lost or not, for a range inside one of the FRAMs that the last call lends, whatever sums are kept, says beside
  -- its answer what its range costs: its bytes in blocks only partly covered, plus the blocks wholly covered.
  pub a_crc_from_c_costs_its_range : (destination : ℕ) (telemetry : Side) (source control first last : ℕ)
      → Sends (way_of side u message destination telemetry calls) source control (bytes32 first ++ bytes32 last) (call_of c)
      → code_of control ≡ 0x06 → (which : Which) → Inside which c.lent.frams first last → c.back.cost ≡ range_cost (first - first_of which) (last + 1 - first_of which)
  a_crc_from_c_costs_its_range destination telemetry source control first last sends code which range =
      ap (λ (r : Returned). r.stepped.cost) (the_line_from_c side u message calls c on).1
      ∙ a_crc_sent_costs_its_range (way_of side u message destination telemetry calls) source control first last (call_of c) sends code which range

  -- So in an FRAM of 262,144 bytes the range from the second byte to the last but one costs 1,532.
  pub the_dearest_crc_from_c : (destination : ℕ) (telemetry : Side) (source control first last : ℕ)
      → Sends (way_of side u message destination telemetry calls) source control (bytes32 first ++ bytes32 last) (call_of c)
      → code_of control ≡ 0x06 → (which : Which) → Inside which c.lent.frams first last → first ≡ first_of which + 1 → last ≡ first_of which + 262142 → c.back.cost ≡ 1532
  the_dearest_crc_from_c destination telemetry source control first last sends code which range second last_but_one =
      ap (λ (r : Returned). r.stepped.cost) (the_line_from_c side u message calls c on).1
      ∙ a_crc_that_costs_1532 (way_of side u message destination telemetry calls) source control first last (call_of c) sends code which range second last_but_one

  -- The round trip. What `wheel_pack` packs, if it is no longer than the unit's limit allows, given so on a port to a unit that has no run open there, by
  -- calls that are served, with whatever comes on the other port in between as long as no reply leaves on this one, stands in the message buffer byte for
  -- byte when the last byte has come, whether the unit takes it for sound or not.
  pub what_is_packed_from_c_is_received_back : (m before : List ℕ) (said : WheelPacked) (packed : List ℕ) → Packs m before said packed → said.answer ≡ 0
      → bytes_from_c side calls c ≡ take said.sent packed → length m ≤ largest_message u.limit → Serves (unit_in u) → Idle (port_of side (unit_in u).ports)
      → AllSuit side (unit_in u) (length message) (calls_of calls) → Suits side (unit_in u) (length message) (call_of c) → c.port ≡ number_of_side side
      → NoReplyFromC side calls
      → message_of side c.left ≡ m ++ drop (length m) message
  what_is_packed_from_c_is_received_back m before said packed packs none bytes within serves idle all last here undisturbed =
      let legal = packed_so m before (sym (ap (λ (p : Packing). p.answer) packs) ∙ none) in
      let written : take said.sent packed ≡ packed_of m
      = ap (λ (p : Packing). take p.sent p.reply) (packs ∙ a_message_of_legal_length_is_packed m before legal.0 legal.1 legal.2)
      ∙ take-append_seam (packed_of m) (drop (length (packed_of m)) before) in
      let split = last_apart (bytes_on side (calls_of calls)) (fend ∷ body_of m) c.byte fend (bytes ∙ written) in
      let few = legal.1 in
      ap (λ (r : Returned). message_of side r.world) (the_line_from_c side u message calls c on).1
      ∙ a_packed_message_stands_in_the_buffer side (unit_in u) message (calls_of calls) (call_of c) serves all last split.1 here (no_reply_from_c side u message calls c on undisturbed) m (omega arith) within idle split.0

-- ---- demand 3

as_lending : List FromC → List Lending
as_lending [] = []
as_lending (c ∷ calls) = its_memory (call_of c) ∷ as_lending calls

-- the record and the FRAMs that calls from C leave are those that demands speaks of
calls_from_c : (calls : List FromC) (u : WheelUnit) (now : Frams) → Follow u now calls
    → own (unit_in (last_unit u calls)) (last_frams now calls) ≡ called_of (own (unit_in u) now) (as_lending calls)
unfolding as_lending
calls_from_c [] u now follow = refl
calls_from_c (c ∷ calls) u now follow =
    let lent : step_of (unit_in u) c.port c.byte (sending_in c.sending0 c.sending1) c.lent ≡ step_of (unit_in u) c.port c.byte (sending_in c.sending0 c.sending1) (with_frams c.lent now)
    = ap (λ (f : Frams). step_of (unit_in u) c.port c.byte (sending_in c.sending0 c.sending1) (with_frams c.lent f)) follow.0 in
    calls_from_c calls c.back.unit c.left.frams follow.2
    ∙ ap₂ (λ (v : Unit) (w : World). called_of (own v w.frams) (as_lending calls))
    (next u c follow.1 ∙ ap (λ (x : Outcome). x.unit) lent) (left u c follow.1 ∙ ap (λ (x : Outcome). x.world) lent)

-- a set-up that answers 0 is not refused
set_up_so : (strap limit : ℕ) (locked : Bool) (w : World) → number_of (set_up_of strap limit locked w).answer ≡ 0 → set_up_fit strap limit (lengths_of w) ≡ Ok tt
unfolding set_up_of
set_up_so strap limit locked w none = apart (set_up_fit strap limit (lengths_of w)) refl none
  where
    apart : (f : Fit) → set_up_fit strap limit (lengths_of w) ≡ f → number_of (set_up_as f strap limit locked w).answer ≡ 0 → f ≡ Ok tt
    apart (Ok _) e z = refl
    apart (Err answer) e z = absurd (a_refused_set_up_is_no_0 limit (number_of answer) (a_refused_set_up_has_its_number strap limit (lengths_of w) answer e) z)

-- Demand 1, of `wheel_set_up`: 0 computes all sums, writes the low byte of diagnostic 0x06 and changes nothing else that is lent; 20 to 25 and 29
-- change nothing at all. Neither costs anything, and neither sends anything.
pub what_a_set_up_from_c_leaves : (strap limit locked : ℕ) (lent : World) (back : WheelStepped) (after : World) → SetsUp strap limit locked lent back after
    → (back.answer ≡ 0 → (back.unit ≡ unit_out (somebody strap limit (lock_in locked) lent)) × (after ≡ prepared_for (lock_in locked) lent))
    × ((back.answer ≡ 0 → ⊥) → SetUpRefusal limit back.answer × (back.unit ≡ unit_out nobody) × (after ≡ lent)) × (back.cost ≡ 0)
    × (back.sent ≡ 0) × (back.port ≡ 0)
what_a_set_up_from_c_leaves strap limit locked lent back after sets_up =
    let leaves = what_set_up_leaves strap limit (lock_in locked) lent in
    let o = set_up_of strap limit (lock_in locked) lent in
    let number : back.answer ≡ number_of o.answer = ap (λ (r : Returned). r.stepped.answer) sets_up in
    let unit : back.unit ≡ unit_out o.unit = ap (λ (r : Returned). r.stepped.unit) sets_up in
    let left : after ≡ o.world = ap (λ (r : Returned). r.world) sets_up in (
      (λ none. let both = leaves.when_set_up (sym number ∙ none) in (unit ∙ ap unit_out both.0, left ∙ both.1)),
      (λ other.
          let all = leaves.refused (λ none. other (number ∙ none)) in
          (subst (SetUpRefusal limit) (sym number) all.0, unit ∙ ap unit_out all.1, left ∙ all.2)),
      ap (λ (r : Returned). r.stepped.cost) sets_up ∙ a_set_up_costs_nothing strap limit (lock_in locked) lent,
      ap (λ (r : Returned). r.stepped.sent) sets_up ∙ leaves.sends_nothing.0,
      ap (λ (r : Returned). r.stepped.port) sets_up ∙ ap number_of_side leaves.sends_nothing.1,
    )

-- `wheel_set_up` answered 0. After any calls of `wheel_step`, each with the record that the one before gave back, and with FRAMs and sums
-- that nobody else altered:
module _ (strap limit locked : ℕ) (lent : World) (back : WheelStepped) (after : World) (sets_up : SetsUp strap limit locked lent back after) (served : back.answer ≡ 0)
    (calls : List FromC) (follow : Follow back.unit after.frams calls) where
  abbrev frams_now : Frams
  frams_now = last_frams after.frams calls

  abbrev record_now : WheelUnit
  record_now = last_unit back.unit calls

  fits : set_up_fit strap limit (lengths_of lent) ≡ Ok tt
  fits = set_up_so strap limit (lock_in locked) lent (sym (ap (λ (r : Returned). r.stepped.answer) sets_up) ∙ served)

  now : own (unit_in record_now) frams_now ≡ called_of (own_of (set_up_of strap limit (lock_in locked) lent)) (as_lending calls)
  now =
      calls_from_c calls back.unit after.frams follow
      ∙ ap₂ (λ (v : Unit) (w : World). called_of (own v w.frams) (as_lending calls))
      (ap unit_in (ap (λ (r : Returned). r.stepped.unit) sets_up) ∙ a_record_comes_back (set_up_of strap limit (lock_in locked) lent).unit)
      (ap (λ (r : Returned). r.world) sets_up)

  -- The record's limit is the one that was set up, and its counts never pass limit + 6 (02, T-06);
  pub the_limit_stays_from_c_and_the_counts_stop_above_it : (record_now.limit ≡ limit) × (record_now.count0 ≤ limit + 6) × (record_now.count1 ≤ limit + 6)
  unfolding port_in
  the_limit_stays_from_c_and_the_counts_stop_above_it =
      let so = subst (λ (s : Own). (s.unit.limit ≡ limit) × ((side : Side) → count_of (port_of side s.unit.ports) ≤ limit + 6)) (sym now)
      (the_limit_stays_and_the_counts_stop_above_it strap limit (lock_in locked) lent fits (as_lending calls)) in
      (so.0, counted record_now.place0 record_now.count0 (so.1 Zero), counted record_now.place1 record_now.count1 (so.1 One))
    where
      counted : (place count : ℕ) → count_of (port_in place count) ≤ limit + 6 → count ≤ limit + 6
      counted place count low = by (eqb place 4) low
        where
          by : (b : Bool) → count_of (cond b (Throwing count) (Hearing (record { place = place_in place; count = count }))) ≤ limit + 6 → count ≤ limit + 6
          by true h = h
          by false h = h

  -- Demand 3: each kept sum is the CRC of its block as it now stands, in both FRAMs;
  pub after_any_calls_from_c_the_sums_are_right : (which : Which) → Right (fram_of which frams_now)
  after_any_calls_from_c_the_sums_are_right which =
      subst (λ (s : Own). Right (fram_of which s.frams)) (sym now) (after_any_calls_the_sums_are_right strap limit (lock_in locked) lent fits (as_lending calls) which)

  -- and a CRC command for a range inside one of them, given to `wheel_step` byte by byte on a port where it is heard, with the last of these records as the
  -- one that its closing call has, is answered by the packed reply with the CRC of the bytes that are now stored there, worked out afresh. The calls that
  -- bring it may be the last of those before.
  pub the_crc_sent_from_c_is_fresh : (side : Side) (u : WheelUnit) (message : List ℕ) (sending : List FromC) (c : FromC) (destination : ℕ) (telemetry : Side) (source control : ℕ) (which : Which)
      (first last : ℕ) → Inside which frams_now first last
      → OnTheLine side u message sending c → last_unit u sending ≡ record_now
      → Sends (way_of side u message destination telemetry sending) source control (bytes32 first ++ bytes32 last) (call_of c)
      → c.lent.frams ≡ frams_now → code_of control ≡ 0x06 → replies (way_of side u message destination telemetry sending) control (call_of c) ≡ true
      → to_be_sent c
      ≡ packed_of (reply_message 1 destination source control
      ((bytes32 first ++ bytes32 last) ++ bytes16 (sum_of (stretch (first - first_of which) (last - first + 1) (fram_of which frams_now).fram))))
  the_crc_sent_from_c_is_fresh side u message sending c destination telemetry source control which first last range on its_record sends its_own code leaves =
      let way = way_of side u message destination telemetry sending in
      sent_last side u message sending c on
      ∙ subst
      (λ (s : Own). Inside which s.frams first last → met way ≡ s.unit → c.lent.frams ≡ s.frams
      → sent_by (left_by way (call_of c))
      ≡ packed_of (reply_message 1 destination source control
      ((bytes32 first ++ bytes32 last) ++ bytes16 (sum_of (stretch (first - first_of which) (last - first + 1) (fram_of which s.frams).fram)))))
      (sym now)
      (λ inside same own_frams. the_crc_sent_is_fresh strap limit (lock_in locked) lent fits (as_lending calls) way same (call_of c) source control which first last inside sends own_frams code leaves)
      range ((the_line_from_c side u message sending c on).2 ∙ ap unit_in its_record) its_own

-- ---- 02, T-07

-- Once a record says locked, no bytes given to `wheel_step` change bootloader FRAM or its sums, or unlock it: after any calls, each with the record
-- that the one before gave back and with FRAMs and sums that nobody else altered, whatever else they lend, refused or not.
pub once_locked_no_bytes_from_c_change_bootloader_fram : (u : WheelUnit) (before : Frams) (calls : List FromC) → Follow u before calls → lock_in u.locked ≡ true
    → (lock_in (last_unit u calls).locked ≡ true) × ((last_frams before calls).bootloader ≡ before.bootloader)
once_locked_no_bytes_from_c_change_bootloader_fram u before calls follow locked =
    subst (λ (s : Own). (s.unit.locked ≡ true) × (s.frams.bootloader ≡ before.bootloader)) (sym (calls_from_c calls u before follow))
    (once_locked_no_bytes_change_bootloader_fram (as_lending calls) (own (unit_in u) before) locked)

-- And so from its set-up on: `wheel_set_up` was told that it is locked, by any number but 0, and answered 0.
pub set_up_locked_from_c_it_stays_locked : (strap limit locked : ℕ) (lent : World) (back : WheelStepped) (after : World) → SetsUp strap limit locked lent back after
    → back.answer ≡ 0 → lock_in locked ≡ true → (calls : List FromC) → Follow back.unit after.frams calls
    → (lock_in (last_unit back.unit calls).locked ≡ true) × ((last_frams after.frams calls).bootloader ≡ after.frams.bootloader)
set_up_locked_from_c_it_stays_locked strap limit locked lent back after sets_up served told calls follow =
    let is = ((what_a_set_up_from_c_leaves strap limit locked lent back after sets_up).0 served).0 in
    let unit : unit_in back.unit ≡ somebody strap limit (lock_in locked) lent = ap unit_in is ∙ a_record_comes_back (somebody strap limit (lock_in locked) lent) in
    once_locked_no_bytes_from_c_change_bootloader_fram back.unit after.frams calls follow (ap (λ (v : Unit). v.locked) unit ∙ told)

-- ---- 02, T-02 and T-11

-- Let nothing but calls of `wheel_set_up`, `wheel_step` and `wheel_store_list` change EDAC memory, in any order, with whatever records, bytes, lists and
-- buffers, refused or not. After any of them it is as long as it was, and each of its read-only bytes has the value that it had.
pub no_bytes_from_c_change_a_read_only_byte : (edac : List ℕ) (calls : List AnyFromC) → OnOneEdac edac calls → KeepsReadOnly edac (last_edac edac calls)
no_bytes_from_c_change_a_read_only_byte edac [] on = kept_at_first edac
no_bytes_from_c_change_a_read_only_byte edac (setting_up strap limit locked lent back after ∷ calls) on =
    let same : after.edac ≡ edac = ap (λ (r : Returned). r.world.edac) on.1 ∙ a_set_up_keeps_edac strap limit (lock_in locked) lent ∙ on.0 in
    also_kept (subst (KeepsReadOnly edac) (sym same) (kept_at_first edac)) (no_bytes_from_c_change_a_read_only_byte after.edac calls on.2)
no_bytes_from_c_change_a_read_only_byte edac (stepping u c ∷ calls) on =
    let kept_so = a_step_keeps_read_only_bytes (unit_in u) c.port c.byte (sending_in c.sending0 c.sending1) c.lent in
    also_kept
    (subst (λ before. KeepsReadOnly before c.left.edac) on.0
    (subst (KeepsReadOnly c.lent.edac) (sym (ap (λ (w : World). w.edac) (left u c on.1))) kept_so))
    (no_bytes_from_c_change_a_read_only_byte c.left.edac calls on.2)
no_bytes_from_c_change_a_read_only_byte edac (storing limit lent list answer after ∷ calls) on =
    also_kept
    (subst (λ before. KeepsReadOnly before after) on.0
    (subst (KeepsReadOnly lent) (sym (ap (λ (s : Storage). s.edac) on.1)) (storing_keeps_read_only_bytes limit lent list)))
    (no_bytes_from_c_change_a_read_only_byte after calls on.2)

-- ---- 02, T-11

-- What `wheel_store_list` leaves, by its answer: the store of the list that this very call was lent, whatever was judged before, or nothing.
pub what_storing_from_c_leaves : (limit : ℕ) (edac list : List ℕ) (answer : ℕ) (after : List ℕ) → Stores limit edac list answer after
    → StoringLeaves limit edac list (storage answer after)
what_storing_from_c_leaves limit edac list answer after stores = subst (StoringLeaves limit edac list) (sym stores) (what_storing_leaves limit edac list)

yes_is_1 : (b : Bool) → (yes_out b ≡ 1 → b ≡ true) × (b ≡ true → yes_out b ≡ 1)
yes_is_1 true = ((λ _. refl), (λ _. refl))
yes_is_1 false = ((λ e. absurd (omega (arith, e))), (λ e. absurd (false≢true e)))

-- A WRITE FILE of a list is given to `wheel_step` byte by byte, to a unit in application mode. `most` may be any number, so the list may have any length.
module _ (most : ℕ) (side : Side) (u : WheelUnit) (message : List ℕ) (calls : List FromC) (c : FromC) (on : OnTheLine side u message calls c) (destination : ℕ) (telemetry : Side)
    (source control : ℕ) (list : List ℕ) (sends : SendsUpTo most (way_of side u message destination telemetry calls) source control list (call_of c)) (code : code_of control ≡ 0x08)
    (mode : (unit_in (last_unit u calls)).mode ≡ Application) where
  abbrev its_way : Way
  its_way = way_of side u message destination telemetry calls

  came_back : returned c.back c.left ≡ returned_by (left_by its_way (call_of c))
  came_back = (the_line_from_c side u message calls c on).1

  in_application : (met its_way).mode ≡ Application
  in_application = ap (λ (v : Unit). v.mode) (the_line_from_c side u message calls c on).2 ∙ mode

  limit_there : (met its_way).limit ≡ u.limit
  limit_there = (the_same_is_met side (unit_in u) message (calls_of calls)).1

  -- `wheel_judge_list` answers 1 for it exactly where the last byte answers that it is done: 1, or 2 where no reply leaves;
  pub done_exactly_where_judged_fit_from_c : (answer : ℕ) → Judges u.limit list answer
      → (answer ≡ 1 → c.back.answer ≡ done_answer (replies its_way control (call_of c))) × (c.back.answer ≡ done_answer (replies its_way control (call_of c)) → answer ≡ 1)
  done_exactly_where_judged_fit_from_c answer judges =
      let yes = yes_is_1 (judge_list_of (met its_way).limit list) in
      let both = done_exactly_where_judged_fit most its_way source control list (call_of c) sends code in_application in
      let number = ap (λ (r : Returned). r.stepped.answer) came_back in
      let judged : answer ≡ yes_out (judge_list_of (met its_way).limit list) = judges ∙ ap (λ (n : ℕ). yes_out (judge_list_of n list)) (sym limit_there) in
      ((λ one. number ∙ both.0 (yes.0 (sym judged ∙ one))), λ so. judged ∙ yes.1 (both.1 (sym number ∙ so)))

  -- and `wheel_store_list` on the EDAC memory that the last byte was lent leaves what that byte leaves.
  pub storing_from_c_leaves_what_the_command_leaves : (answer : ℕ) (after : List ℕ) → Stores u.limit c.lent.edac list answer after → after ≡ c.left.edac
  storing_from_c_leaves_what_the_command_leaves answer after stores =
      ap (λ (s : Storage). s.edac) (stores ∙ ap (λ (n : ℕ). store_list_of n c.lent.edac list) (sym limit_there))
      ∙ sym (ap (λ (r : Returned). r.world.edac) came_back
      ∙ the_command_leaves_what_storing_leaves most its_way source control list (call_of c) sends code in_application)
