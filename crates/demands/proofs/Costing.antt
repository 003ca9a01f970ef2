-- 02, T-13: what a CRC command costs, beside its answer. Assumes nothing.
use mathlib.Core.Path.{◌≡◌, refl, sym, ap, ap₂, ◌∙◌, subst}
use mathlib.Core.Bool.{Bool, true, false, cond, not, ◌&&◌}
use mathlib.Core.Logic.{◌⊎◌, inl, inr}
use mathlib.Core.List.{List, ◌++◌}
use Prim.Native.Nat.{ℕ, ◌+◌, ◌-◌, ◌≤◌, max}
use native.Mathlib.Omega.{arith}
use borrow.Author.Tests.{eq-eqb, ne_eqb}
use lib.Dec.{eqb}
use lib.ListN.{length, get_or}
use Rattle.std.proofs.Common.{Ok, Err}
use Rattle.field.specs.Fields.{word32_at, bytes16, bytes32}
use Rattle.field.proofs.Words.{four_bytes}
use Rattle.blocks.specs.Fram.{Kept, block_start, range_sum}
use Rattle.blocks.specs.Cost.{range_cost}
use Rattle.blocks.proofs.Counting.{no_range_costs_more, the_range_that_costs_most, a_range_that_costs_1532}
use Rattle.carrying.specs.Ending.{Ending, done, refused, unfitted, ended_of}
use Rattle.carrying.specs.Held.{Which, fram_of, Held, reading}
use Rattle.fram_commands.specs.Windows.{first_of, which_of}
use Rattle.fram_commands.specs.Crc.{range_size}
use Rattle.fram_commands.specs.ByAddress.{crc_by_address}
use Rattle.fram_commands.specs.Cost.{field_cost}
use Rattle.fram_commands.proofs.Costs.{a_field_costs_something}
use Rattle.command.specs.Command.{command_of}
use Rattle.command.specs.Cost.{command_cost}
use Rattle.command.proofs.Codes.{in_either_mode}
use Rattle.command.proofs.Costs.{what_a_command_costs_at_most}
use Rattle.answer.specs.Answers.{number_of}
use Rattle.ports.specs.declared.Side.{Side}
use Rattle.ports.specs.Sides.{side_of}
use Rattle.ports.specs.Ports.{Sending, is_sending}
use Rattle.judging.specs.declared.Unit.{Unit}
use Rattle.judging.specs.declared.Verdict.{Verdict}
use Rattle.judging.specs.declared.Verdict.TheVariants.{Quiet, Dropped, Command}
use Rattle.judging.specs.Fitting.{Fit, set_up_fit, step_fit}
use Rattle.judging.specs.Judging.{judge_of}
use Rattle.judging.proofs.Serving.{passed_step, a_served_step_fits}
use Rattle.replying.specs.Replies.{polls, code_of}
use Rattle.commanding.specs.World.{World, message_of, lengths_of, Outcome, with_messages, held_of}
use Rattle.commanding.specs.Commanded.{answered, commanded_of}
use Rattle.unit.specs.Steps.{set_up_as, set_up_of, served_of, step_of}
use Rattle.demands.specs.Calls.{Call, opened_on, Inside}
use Rattle.demands.specs.Orders.{Way, met, Sends, with_its_message, left_by, came_to}
use Rattle.demands.specs.Costing.{Costs}
use Rattle.demands.proofs.Cases.{of_any_call}
use Rattle.unit.proofs.Heard.{unit_heard, world_heard}
use Rattle.judging.proofs.Numbers.{a_refused_step_has_its_number}
use Rattle.demands.proofs.Answers.{the_number_of_one_done, the_number_of_one_refused, the_number_of_one_unfitted, one_of_two}
use Rattle.demands.proofs.Ranges.{ends_by, a_range_inside_names_its_fram}
use Rattle.demands.proofs.Orders.{as_set_up_no_longer, what_a_sent_command_leaves, a_lent_fram_is_no_longer}
use Rattle.demands.proofs.DemandThree.{a_crc_inside_is_done}

-- ---- any call

-- either way nothing
nothing : (b : Bool) → cond {A = ℕ} b 0 0 ≡ 0
nothing true = refl
nothing false = refl

-- the number of a byte that is only taken is neither 1 nor 2
not_taken : ◌⊎◌ (◌≡◌ {A = ℕ} 0 1) (◌≡◌ {A = ℕ} 0 2) → ⊥
not_taken (inl one) = absurd (omega arith)
not_taken (inr two) = absurd (omega arith)

-- and neither is one from 3 on
neither : (n : ℕ) → 3 ≤ n → (n ≡ 1) ⊎ (n ≡ 2) → ⊥
neither n high (inl one) = absurd (omega arith)
neither n high (inr two) = absurd (omega arith)

module _ (u : Unit) (telemetry : Side) (sending : Bool) (destination source control : ℕ) (field : List ℕ) (w : World) where
  abbrev answering : Ending Held → Outcome
  answering o = answered u telemetry sending destination source control field o w

  -- what a command cost that is answered, whether its reply leaves or not
  answered_at : (o : Ending Held) → (answering o).cost ≡ command_cost (code_of control) (ended_of o) field
  unfolding answered
  answered_at o = refl

  -- one that is not done costs nothing
  answered_costs : (o : Ending Held) → (number_of (answering o).answer ≡ 1 → ⊥) → (number_of (answering o).answer ≡ 2 → ⊥) → (answering o).cost ≡ 0
  answered_costs (done bytes after) one two =
      let is = the_number_of_one_done u telemetry sending destination source control field w bytes after in
      absurd (one_of_two (λ (n : ℕ). (n ≡ 1 → ⊥) → (n ≡ 2 → ⊥) → ⊥) (polls control && not sending) 1 2 (λ a b. a refl) (λ a b. b refl) (λ e. one (is ∙ e)) (λ e. two (is ∙ e)))
  answered_costs refused one two = answered_at refused ∙ nothing (eqb (code_of control) 0x06)
  answered_costs unfitted one two = answered_at unfitted ∙ nothing (eqb (code_of control) 0x06)

  -- a CRC command that is done costs something
  answered_costs_something : (o : Ending Held) → (number_of (answering o).answer ≡ 1) ⊎ (number_of (answering o).answer ≡ 2) → code_of control ≡ 0x06 → 1 ≤ (answering o).cost
  unfolding answered
  answered_costs_something (done bytes after) it_is_done code = rw (eq-eqb (code_of control) 0x06 code) (a_field_costs_something field)
  answered_costs_something refused it_is_done code =
      absurd (neither (number_of (answering refused).answer)
      (subst (λ (n : ℕ). 3 ≤ n) (sym (the_number_of_one_refused u telemetry sending destination source control field w))
      (one_of_two (λ (n : ℕ). 3 ≤ n) (polls control && not sending) 3 4 (omega arith) (omega arith))) it_is_done)
  answered_costs_something unfitted it_is_done code =
      absurd (neither (number_of (answering unfitted).answer) (omega (arith, the_number_of_one_unfitted u telemetry sending destination source control field w)) it_is_done)

-- and one that is not CRC costs nothing
served_costs : (u : Unit) (v : Verdict) (sending : Sending) (side : Side) (w : World)
    → let o = served_of u v sending (message_of side w) w in (code_of (get_or (message_of side o.world) 2 0) ≡ 0x06 → ⊥) → o.cost ≡ 0
unfolding served_of commanded_of answered
served_costs u (Quiet answer) sending side w other = refl
served_costs u (Dropped answer channel) sending side w other = refl
served_costs u (Command count telemetry) sending side w other = rw (ne_eqb (code_of (get_or (message_of side w) 2 0)) 0x06 other)

module _ (u : Unit) (number byte : ℕ) (sending : Sending) (w : World) where
  abbrev most : ℕ
  most = max (length w.frams.bootloader.sums) (length w.frams.user.sums) + 508

  abbrev side : Side
  side = side_of number

  -- a call that is not refused is lent at most 1,024 blocks of each
  blocks_lent : step_fit u number (lengths_of w) ≡ Ok tt → most ≤ 1532
  blocks_lent e =
      let few = as_set_up_no_longer u (lengths_of w) (passed_step u number (lengths_of w) e).fram_tested in
      let fitted = a_served_step_fits u number (lengths_of w) e in
      omega (arith, few.0, few.1, fitted.bootloader_sums_fit, fitted.the_sums_fit)

  -- what is said of the cost by the answer, the code and the blocks
  abbrev ByTheAnswer : Outcome → Type 0
  ByTheAnswer o =
      ((number_of o.answer ≡ 1 → ⊥) → (number_of o.answer ≡ 2 → ⊥) → o.cost ≡ 0)
      × ((number_of o.answer ≡ 1) ⊎ (number_of o.answer ≡ 2) → code_of (get_or (message_of side o.world) 2 0) ≡ 0x06 → 1 ≤ o.cost)
      × (o.cost ≤ most) × (o.cost ≤ 1532)

  by_the_answer : ByTheAnswer (step_of u number byte sending w)
  unfolding answered
  by_the_answer =
      of_any_call (λ _. ByTheAnswer) u number byte sending w
      (λ answer e.
      let high = a_refused_step_has_its_number u number (lengths_of w) answer e in
      ((λ _ _. refl), (λ it_is_done _. absurd (neither (number_of answer) (omega arith) it_is_done)), omega arith, omega arith))
      (λ e.
      let few = blocks_lent e in
      let fitted = a_served_step_fits u number (lengths_of w) e in
      let next = unit_heard u number byte w in
      let lent = world_heard u number byte w in
      record {
        taken = ((λ _ _. refl), (λ it_is_done _. absurd (not_taken it_is_done)), omega arith, omega arith);
        elsewhere = ((λ _ _. refl), (λ it_is_done _. absurd (neither 9 (omega arith) it_is_done)), omega arith, omega arith);
        dropped = λ answer which number four silent.
            ((λ _ _. refl), (λ it_is_done _. absurd (neither (number_of answer) (omega arith) it_is_done)), omega arith, omega arith);
        commanded = λ telemetry destination source control field to told is short.
            let busy = is_sending telemetry sending in
            let ending = command_of u.limit (code_of control) (held_of next lent) field in
            let at = answered_at next telemetry busy destination source control field lent ending in
            let high = what_a_command_costs_at_most u.limit (code_of control) (held_of next lent) field fitted.bootloader_sums_fit fitted.the_sums_fit in (
              answered_costs next telemetry busy destination source control field lent ending,
              (λ it_is_done code. answered_costs_something next telemetry busy destination source control field lent ending it_is_done (ap code_of told ∙ code)),
              omega (arith, at, high),
              omega (arith, at, high, few),
            );
      })

  by_the_code : (code_of (get_or (message_of side (step_of u number byte sending w).world) 2 0) ≡ 0x06 → ⊥) → (step_of u number byte sending w).cost ≡ 0
  unfolding step_of
  by_the_code other =
      let j = judge_of u number byte (lengths_of w) w.buffers.messages in served_costs j.unit j.verdict sending side (with_messages w j.message) other

  -- For any record, port, byte and lent buffers of any length: 0 but for a CRC command that is done, and never above 1,532.
  pub what_every_answer_costs : Costs side w (step_of u number byte sending w)
  what_every_answer_costs = record {
    nothing_unless_a_command_is_done = by_the_answer.0;
    nothing_unless_it_is_crc = by_the_code;
    something_of_a_crc_that_is_done = by_the_answer.1;
    by_the_larger_fram = by_the_answer.2;
    at_most_1532 = by_the_answer.3;
  }

-- Set-up costs nothing.
pub a_set_up_costs_nothing : (strap limit : ℕ) (locked : Bool) (w : World) → (set_up_of strap limit locked w).cost ≡ 0
unfolding set_up_of
a_set_up_costs_nothing strap limit locked w = apart (set_up_fit strap limit (lengths_of w))
  where
    apart : (f : Fit) → (set_up_as f strap limit locked w).cost ≡ 0
    apart (Ok _) = refl
    apart (Err answer) = refl

-- ---- a CRC on the line

-- A CRC command, with poll set or clear, its reply lost or not, sent to a unit on either port for a range inside one of the FRAMs that the closing call lends, whatever sums are kept:
module _ (way : Way) (source control first last : ℕ) (c : Call)
    (sends : Sends way source control (bytes32 first ++ bytes32 last) c) (code : code_of control ≡ 0x06) (which : Which)
    (range : Inside which c.lent.frams first last) where
  abbrev asked : List ℕ
  asked = bytes32 first ++ bytes32 last

  abbrev memory : Kept
  memory = fram_of which c.lent.frams

  small : length memory.fram ≤ 262144
  small = a_lent_fram_is_no_longer way source control asked c sends which

  it_came_to : came_to (met way) c control asked
      ≡ done (asked ++ bytes16 (range_sum memory (first - first_of which) (first - first_of which + range_size first last))) (held_of (met way) c.lent)
  it_came_to =
      in_either_mode (met way).limit (code_of control) (held_of (met way) c.lent) asked 0x06 (reading (held_of (met way) c.lent) (crc_by_address c.lent.frams asked)) code refl
      ∙ ap (reading (held_of (met way) c.lent)) (a_crc_inside_is_done which c.lent.frams small first last range)

  -- the range that the data field names
  by_its_place : field_cost asked ≡ range_cost (first - first_of which) (last + 1 - first_of which)
  unfolding field_cost
  by_its_place =
      let starts = range.starts in
      let forward = range.forward in
      let ends = range.ends in
      let high = ends_by which in
      let few = small in
      let one : word32_at asked 0 ≡ first = four_bytes first (omega arith) in
      let two : word32_at asked 4 ≡ last = four_bytes last (omega arith) in
      let named = (a_range_inside_names_its_fram which asked (range_size (word32_at asked 0) (word32_at asked 4)) (length memory.fram) (omega arith) (omega arith) (omega arith) few).0 in
      let start : word32_at asked 0 - first_of (which_of asked) ≡ first - first_of which = ap₂ (λ (n : ℕ) (x : Which). n - first_of x) one named in
      let end : first - first_of which + range_size (word32_at asked 0) (word32_at asked 4) ≡ last + 1 - first_of which = omega arith in
      ap (λ (n : ℕ). range_cost n (n + range_size (word32_at asked 0) (word32_at asked 4))) start ∙ ap (range_cost (first - first_of which)) end

  -- It costs what its range does: its bytes in blocks only partly covered, plus the blocks wholly covered.
  pub a_crc_sent_costs_its_range : (left_by way c).cost ≡ range_cost (first - first_of which) (last + 1 - first_of which)
  a_crc_sent_costs_its_range =
      ap (λ (o : Outcome). o.cost) (what_a_sent_command_leaves way source control asked c sends)
      ∙ answered_at (opened_on way.side (met way)) way.telemetry (is_sending way.telemetry c.sending) way.destination source control asked
      (with_its_message way source control asked c) (came_to (met way) c control asked)
      ∙ ap₂ (λ (n : ℕ) (o : Ending Held). command_cost n (ended_of o) asked) code it_came_to
      ∙ by_its_place

  -- So for one memory it costs at most 508 above the number of its blocks,
  pub a_crc_sent_costs_at_most : (blocks : ℕ) → length memory.fram ≡ block_start blocks → (left_by way c).cost ≤ blocks + 508
  a_crc_sent_costs_at_most blocks whole =
      let starts = range.starts in
      let ends = range.ends in
      omega (arith, a_crc_sent_costs_its_range, no_range_costs_more blocks (first - first_of which) (last + 1 - first_of which) (omega arith))

  -- and from two blocks on the range from the second byte to the last but one costs just that:
  pub the_dearest_crc : (blocks : ℕ) → length memory.fram ≡ block_start blocks → 2 ≤ blocks → first ≡ first_of which + 1 → last + 2 ≡ first_of which + length memory.fram
      → (left_by way c).cost ≡ blocks + 508
  the_dearest_crc blocks whole some second last_but_one =
      let from : first - first_of which ≡ 1 = omega arith in
      let to : last + 1 - first_of which ≡ block_start blocks - 1 = omega arith in
      a_crc_sent_costs_its_range ∙ ap₂ range_cost from to ∙ the_range_that_costs_most blocks some

  -- in an FRAM of 262,144 bytes 1,532.
  pub a_crc_that_costs_1532 : first ≡ first_of which + 1 → last ≡ first_of which + 262142 → (left_by way c).cost ≡ 1532
  a_crc_that_costs_1532 second last_but_one =
      let from : first - first_of which ≡ 1 = omega arith in
      let to : last + 1 - first_of which ≡ 262143 = omega arith in
      a_crc_sent_costs_its_range ∙ ap₂ range_cost from to ∙ a_range_that_costs_1532
