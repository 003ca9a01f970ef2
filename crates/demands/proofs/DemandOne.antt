-- Demand 1: every byte on the line, on either port, in every state, gets a defined answer, and what each answer leaves is settled. That the unit
-- never halts, and that nobody outside has to check first, is what is proved of `unit::step`: it has no `requires`, and gives the
-- outcome that `step_of` says for every record, port, byte and lent buffers of any length. Assumes nothing.
use mathlib.Core.Path.{◌≡◌, refl, sym, ap, ◌∙◌, subst}
use mathlib.Core.Bool.{Bool, true, false, cond, ◌&&◌, false≢true}
use mathlib.Core.Logic.{inl, inr}
use mathlib.Core.List.{List}
use Prim.Native.Nat.{ℕ, ◌+◌, ◌-◌, ◌≤◌, ◌<◌}
use native.Mathlib.Omega.{arith}
use borrow.Author.Tests.{le-leb, lt-leb, ne_eqb}
use lib.Dec.{eqb, leb}
use lib.ListN.{length, take, get_or}
use Rattle.std.proofs.Common.{Option, Some, None, Ok, Err}
use Rattle.line.specs.Packing.{packed_of}
use Rattle.memory.specs.Bytes.{begun}
use Rattle.memory.specs.Counts.{counted_up}
use Rattle.memory.proofs.Stretches.{the_written_part_is_handed_back}
use Rattle.carrying.specs.Ending.{Ending, done, refused, unfitted, ended_of}
use Rattle.carrying.specs.Held.{Held, after}
use Rattle.command.specs.Command.{command_of}
use Rattle.command.specs.Cost.{command_cost}
use Rattle.command.proofs.Locking.{Marks, or_not, what_a_command_marks}
use Rattle.answer.specs.declared.Answer.{Answer}
use Rattle.answer.specs.declared.Answer.TheVariants.{Taken, Acked, Done, Nacked, Refused, Framing, Runt, Oversize, BadCrc, Elsewhere, Unfitted, BadStrap, BadEdac, BadFram, BadSums, BadDiagnostics, BadBuffers, BadCount, BadPort, BadLimit}
use Rattle.answer.specs.Answers.{number_of, sent_of}
use Rattle.ports.specs.declared.Side.{Side}
use Rattle.ports.specs.declared.Side.TheVariants.{Zero, One}
use Rattle.ports.specs.declared.Fate.TheVariants as fate
use Rattle.ports.specs.declared.Port.TheVariants.{Throwing}
use Rattle.ports.specs.declared.Both.{Both}
use Rattle.ports.specs.Sides.{side_of, number_of_side, of_side, put}
use Rattle.ports.specs.Ports.{Ports, Sending, answered_on, port_of, with_port, count_of, hear_of, is_open, is_sending, first_count, thrown_count, lost_count, settlement, settle_of}
use Rattle.judging.specs.declared.Unit.{Unit}
use Rattle.judging.specs.Fitting.{Fit, set_up_fit, lengths_fit, step_fit}
use Rattle.judging.specs.Judging.{largest_message, with_ports, received_of, among_both, unless, judge_of}
use Rattle.replying.specs.Replies.{polls, code_of}
use Rattle.commanding.specs.World.{World, message_of, lengths_of, Outcome, outcome, costing, with_messages, with_diagnostics, held_of}
use Rattle.commanding.specs.Commanded.{answered}
use Rattle.unit.specs.Steps.{nobody, set_up_as, set_up_of, served_of, step_of}
use Rattle.demands.specs.Locking.{locks}
use Rattle.demands.specs.Leaving.{heard_ports, heard_messages, has_reply, is_unsaid, is_commanded, counts_after, shown_locked, one_more_lost, ports_after, Leaves, SetUpRefusal, SetUpLeaves}
use Rattle.demands.proofs.Cases.{Each, of_any_call, a_refused_set_up_has_its_number, a_refused_set_up_is_no_0}
use Rattle.unit.proofs.Heard.{unit_heard, world_heard}
use Rattle.judging.proofs.Numbers.{a_refused_step_has_its_number}
use Rattle.demands.proofs.Answers.{Spoken, a_command_done, a_command_refused, left, with_no_reply, with_a_lost_reply, with_a_reply, with_nothing_fitted}

-- nothing written is the written part of nothing
nothing_sent : (reply : List ℕ) (n : ℕ) → n ≡ 0 → reply ≡ begun reply (take n reply)
unfolding begun
nothing_sent reply n none = ap (λ (k : ℕ). begun reply (take k reply)) (sym none)

-- what is sent is the written part
something_sent : (reply bytes : List ℕ) → begun reply bytes ≡ begun reply (take (length bytes) (begun reply bytes))
something_sent reply bytes = ap (begun reply) (sym (the_written_part_is_handed_back reply bytes))

-- on either port
no_reply_written : (side port : Side) (replies : Both (List ℕ)) (n : ℕ) → n ≡ 0
    → of_side side replies ≡ begun (of_side side replies) (take (cond (eqb (number_of_side side) (number_of_side port)) n 0) (of_side side replies))
no_reply_written side port replies n none = nothing_sent (of_side side replies) _ (either (eqb (number_of_side side) (number_of_side port)))
  where
    either : (b : Bool) → cond b n 0 ≡ 0
    either true = none
    either false = refl

a_reply_written : (side port : Side) (replies : Both (List ℕ)) (bytes : List ℕ)
    → let after = put port replies (begun (of_side port replies) bytes) in
    of_side side after ≡ begun (of_side side replies) (take (cond (eqb (number_of_side side) (number_of_side port)) (length bytes) 0) (of_side side after))
a_reply_written Zero Zero replies bytes = something_sent replies.port0 bytes
a_reply_written Zero One replies bytes = nothing_sent replies.port0 0 refl
a_reply_written One Zero replies bytes = nothing_sent replies.port1 0 refl
a_reply_written One One replies bytes = something_sent replies.port1 bytes

-- ---- the counts and the ports by the answer's number

module _ (strap : ℕ) (side : Side) (ports : Ports) (message : List ℕ) (number : ℕ) (port : Side) (diagnostics : List ℕ) where
  counts_of_none : (leb 5 number && leb number 8) ≡ false → has_reply number ≡ false → is_unsaid number ≡ false
      → diagnostics ≡ counts_after strap side ports message number port diagnostics
  counts_of_none a b c = sym (simp (a, b, c))

  counts_of_a_drop : (which : ℕ) → number ≡ 5 + which → which < 4
      → counted_up diagnostics (first_count side + which) ≡ counts_after strap side ports message number port diagnostics
  counts_of_a_drop which is four =
      let low : leb 5 number ≡ true = le-leb 5 number (omega arith) in
      let high : leb number 8 ≡ true = le-leb number 8 (omega arith) in
      let channel : first_count side + which ≡ first_count side + (number - 5) = omega arith in
      ap (counted_up diagnostics) channel ∙ sym (simp (low, high))

  counts_of_silence : (leb 5 number && leb number 8) ≡ false → has_reply number ≡ false → polls (get_or message 2 0) ≡ false
      → diagnostics ≡ counts_after strap side ports message number port diagnostics
  counts_of_silence a b none = sym (by (is_unsaid number))
    where
      by : (c : Bool) → cond (leb 5 number && leb number 8) (counted_up diagnostics (first_count side + (number - 5)))
          (cond (has_reply number && is_open (port_of port ports)) (counted_up diagnostics (thrown_count port))
          (cond (c && polls (get_or message 2 0)) (one_more_lost (answered_on strap side (get_or message 0 0)) diagnostics) diagnostics))
          ≡ diagnostics
      by true = simp (a, b, none)
      by false = simp (a, b)

  counts_of_a_loss : (telemetry : Side) → (leb 5 number && leb number 8) ≡ false → has_reply number ≡ false → is_unsaid number ≡ true → polls (get_or message 2 0) ≡ true
      → answered_on strap side (get_or message 0 0) ≡ Some telemetry
      → counted_up diagnostics (lost_count telemetry) ≡ counts_after strap side ports message number port diagnostics
  counts_of_a_loss telemetry a b c polled is = sym (simp (a, b, c, polled, is))

  counts_of_a_reply : (leb 5 number && leb number 8) ≡ false → has_reply number ≡ true → is_unsaid number ≡ false
      → (settle_of fate.Leaves port ports diagnostics).diagnostics ≡ counts_after strap side ports message number port diagnostics
  unfolding settle_of
  counts_of_a_reply a b c = by (is_open (port_of port ports)) ∙ sym (simp (a, b, c))
    where
      by : (x : Bool) → (cond x (settlement (with_port port ports (Throwing (count_of (port_of port ports)))) (counted_up diagnostics (thrown_count port))) (settlement ports diagnostics)).diagnostics
          ≡ cond x (counted_up diagnostics (thrown_count port)) diagnostics
      by true = refl
      by false = refl

  ports_of_a_reply : has_reply number ≡ true → (settle_of fate.Leaves port ports diagnostics).ports ≡ ports_after number port ports
  unfolding settle_of
  ports_of_a_reply b = by (is_open (port_of port ports)) ∙ sym (simp b)
    where
      by : (x : Bool) → (cond x (settlement (with_port port ports (Throwing (count_of (port_of port ports)))) (counted_up diagnostics (thrown_count port))) (settlement ports diagnostics)).ports
          ≡ cond x (with_port port ports (Throwing (count_of (port_of port ports)))) ports
      by true = refl
      by false = refl

  ports_of_none : has_reply number ≡ false → ports ≡ ports_after number port ports
  ports_of_none b = sym (simp b)

is_heard : Option Side → Bool
is_heard (Some telemetry) = true
is_heard None = false

-- a command is answered on one port
port_told : Option Side → Side → Side
port_told (Some telemetry) otherwise = telemetry
port_told None otherwise = otherwise

one_port : (a b : Side) → Some a ≡ Some b → a ≡ b
unfolding port_told
one_port a b e = ap (λ x. port_told x a) e

-- a number from 5 to 8 or above 8 has no reply
no_reply_from_5 : (number : ℕ) → 5 ≤ number → has_reply number ≡ false
no_reply_from_5 number high = simp (ne_eqb number 1 (λ e. omega arith), ne_eqb number 3 (λ e. omega arith))

no_silence_from_5 : (number : ℕ) → 5 ≤ number → is_unsaid number ≡ false
no_silence_from_5 number high = simp (ne_eqb number 2 (λ e. omega arith), ne_eqb number 4 (λ e. omega arith))

no_command_from_5 : (number : ℕ) → 5 ≤ number → (number ≡ 10 → ⊥) → is_commanded number ≡ false
no_command_from_5 number high other = simp (no_reply_from_5 number high, no_silence_from_5 number high, ne_eqb number 10 other)

-- ---- each case of a call that is not refused

module _ (u : Unit) (number : ℕ) (sending : Sending) (w : World) (ports : Ports) (messages : Both (List ℕ)) where
  -- the unit and what is lent, once the byte is received
  abbrev next : Unit
  next = with_ports u ports

  abbrev heard : World
  heard = with_messages w messages

  abbrev side : Side
  side = side_of number

  abbrev message : List ℕ
  message = of_side side messages

  -- an answer that counts and sends nothing
  quiet : (answer : Answer) → number_of answer < 20 → (leb 5 (number_of answer) && leb (number_of answer) 8) ≡ false → is_commanded (number_of answer) ≡ false
      → has_reply (number_of answer) ≡ false → is_unsaid (number_of answer) ≡ false → sent_of answer ≡ 0
      → Leaves u number sending ports messages false w (outcome next answer heard)
  quiet answer low a none b c silent =
      record {
        nothing_by_a_refused_call = λ high. absurd (omega arith);
        memory_unless_a_command_is_done = λ _ _. (refl, refl, refl, refl);
        counts = counts_of_none u.strap side ports message (number_of answer) Zero w.diagnostics a b c;
        lock = or_not u.locked;
        ports = ports_of_none u.strap side ports message (number_of answer) Zero w.diagnostics b;
        stored = refl;
        reply = λ s. no_reply_written s Zero w.buffers.replies (sent_of answer) silent;
        ours = λ one. absurd (false≢true (sym none ∙ one));
        leaving = λ loud. absurd (false≢true (sym (b) ∙ loud));
        losing = λ hushed. absurd (false≢true (sym (c) ∙ hushed));
        on_no_port = λ _. refl;
        strap = refl;
        bootloader_length = refl;
        fram_length = refl;
        limit = refl;
      }

  -- a dropped run
  a_drop : (answer : Answer) (which : ℕ) → number_of answer ≡ 5 + which → which < 4 → sent_of answer ≡ 0
      → Leaves u number sending ports messages false w (outcome next answer (with_diagnostics heard (counted_up w.diagnostics (first_count side + which))))
  a_drop answer which is four silent =
      record {
        nothing_by_a_refused_call = λ high. absurd (omega arith);
        memory_unless_a_command_is_done = λ _ _. (refl, refl, refl, refl);
        counts = counts_of_a_drop u.strap side ports message (number_of answer) Zero w.diagnostics which is four;
        lock = or_not u.locked;
        ports = ports_of_none u.strap side ports message (number_of answer) Zero w.diagnostics (no_reply_from_5 (number_of answer) (omega arith));
        stored = refl;
        reply = λ s. no_reply_written s Zero w.buffers.replies (sent_of answer) silent;
        ours = λ one. absurd (false≢true (sym (no_command_from_5 (number_of answer) (omega arith) (λ ten. omega arith)) ∙ one));
        leaving = λ loud. absurd (false≢true (sym (no_reply_from_5 (number_of answer) (omega arith)) ∙ loud));
        losing = λ hushed. absurd (false≢true (sym (no_silence_from_5 (number_of answer) (omega arith)) ∙ hushed));
        on_no_port = λ _. refl;
        strap = refl;
        bootloader_length = refl;
        fram_length = refl;
        limit = refl;
      }

  -- a command answered, that marks what it marks
  module _ (telemetry : Side) (destination source control : ℕ) (field : List ℕ) (to : destination ≡ get_or message 0 0) (told : control ≡ get_or message 2 0)
      (is : answered_on u.strap side destination ≡ Some telemetry) (locking : Bool) where
    abbrev busy : Bool
    busy = is_sending telemetry sending

    abbrev Leaving : Outcome → Type 0
    Leaving o = Leaves u number sending ports messages locking w o

    heard_there : answered_on u.strap side (get_or message 0 0) ≡ Some telemetry
    heard_there = ap (answered_on u.strap side) (sym to) ∙ is

    not_nowhere : answered_on u.strap side (get_or message 0 0) ≡ None → ⊥
    unfolding is_heard
    not_nowhere none = false≢true (ap is_heard (sym none ∙ heard_there))

    -- what is said of a command that is done or refused, with the numbers of its two answers
    module _ (o : Ending Held) (marks : Marks locking (held_of next heard) o) (aloud : ℕ → Answer) (silent : Answer) (bytes : List ℕ)
        (spoken : Spoken destination source control field o aloud silent bytes) (n m : ℕ) (one : (k : ℕ) → number_of (aloud k) ≡ n) (two : number_of silent ≡ m)
        (sends : (k : ℕ) → sent_of (aloud k) ≡ k) (sends_nothing : sent_of silent ≡ 0) (few : n < 5) (fewer : m < 5) (loud : has_reply n ≡ true) (quiet_one : is_unsaid n ≡ false)
        (no_reply : has_reply m ≡ false) (hushed : is_unsaid m ≡ true)
        (memory : (n ≡ 1 → ⊥) → (m ≡ 2 → ⊥)
        → let now = after (held_of next heard) o in (now.edac ≡ w.edac) × (now.frams ≡ w.frams) × (now.standing.mode ≡ u.mode) × (now.standing.locked ≡ u.locked))
        (together : (m ≡ 2 → n ≡ 1) × (n ≡ 1 → m ≡ 2)) where
      abbrev now : Held
      now = after (held_of next heard) o

      abbrev cost : ℕ
      cost = command_cost (code_of control) (ended_of o) field

      no_drop : (k : ℕ) → k < 5 → (leb 5 k && leb k 8) ≡ false
      no_drop k low = simp (lt-leb 5 k low)

      unheard : (x : Bool) → polls control ≡ x → polls (get_or message 2 0) ≡ x
      unheard x e = ap polls (sym told) ∙ e

      silent_one : (polls control ≡ true → busy ≡ true) → (diagnostics : List ℕ) → diagnostics ≡ counts_after u.strap side ports message m Zero (shown_locked locking w.diagnostics)
          → Leaving (costing cost Zero (left next telemetry busy destination source control field heard o ports silent w.buffers.replies diagnostics))
      silent_one only diagnostics counted = record {
        nothing_by_a_refused_call = λ high. absurd (omega (arith, two));
        memory_unless_a_command_is_done = λ a b. memory (λ e. b (two ∙ together.1 e)) (λ e. b (two ∙ e));
        counts = counted ∙ ap (λ (k : ℕ). counts_after u.strap side ports message k Zero (shown_locked locking w.diagnostics)) (sym two);
        lock = marks.0;
        ports = ports_of_none u.strap side ports message (number_of silent) Zero w.diagnostics (ap has_reply two ∙ no_reply);
        stored = refl;
        reply = λ s. no_reply_written s Zero w.buffers.replies (sent_of silent) sends_nothing;
        ours = λ _. not_nowhere;
        leaving = λ loudly. absurd (false≢true (sym (ap has_reply two ∙ no_reply) ∙ loudly));
        losing = λ _ polled t to_t. ap (λ (s : Side). is_sending s sending) (one_port t telemetry (sym to_t ∙ heard_there)) ∙ only (ap polls told ∙ polled);
        on_no_port = λ _. refl;
        strap = refl;
        bootloader_length = refl;
        fram_length = refl;
        limit = refl;
      }

      loud_one : polls control ≡ true → busy ≡ false
          → let settled = settle_of fate.Leaves telemetry ports now.standing.diagnostics in
          Leaving (costing cost telemetry
          (left next telemetry busy destination source control field heard o settled.ports (aloud (length (packed_of bytes)))
          (put telemetry w.buffers.replies (begun (of_side telemetry w.buffers.replies) (packed_of bytes))) settled.diagnostics))
      loud_one polled free =
          let number_is = one (length (packed_of bytes)) in
          record {
            nothing_by_a_refused_call = λ high. absurd (omega (arith, number_is));
            memory_unless_a_command_is_done = λ a b. memory (λ e. a (number_is ∙ e)) (λ e. a (number_is ∙ together.0 e));
            counts =
                ap (λ d. (settle_of fate.Leaves telemetry ports d).diagnostics) marks.1
                ∙ counts_of_a_reply u.strap side ports message n telemetry (shown_locked locking w.diagnostics) (no_drop n few) loud quiet_one
                ∙ ap (λ (k : ℕ). counts_after u.strap side ports message k telemetry (shown_locked locking w.diagnostics)) (sym number_is);
            lock = marks.0;
            ports =
                ports_of_a_reply u.strap side ports message n telemetry now.standing.diagnostics loud
                ∙ ap (λ (k : ℕ). ports_after k telemetry ports) (sym number_is);
            stored = refl;
            reply = λ s.
                a_reply_written s telemetry w.buffers.replies (packed_of bytes)
                ∙ ap (λ (k : ℕ). begun (of_side s w.buffers.replies) (take (cond (eqb (number_of_side s) (number_of_side telemetry)) k 0) (of_side s (put telemetry w.buffers.replies (begun (of_side telemetry w.buffers.replies) (packed_of bytes))))))
                (sym (sends (length (packed_of bytes))));
            ours = λ _. not_nowhere;
            leaving = λ _. (heard_there, unheard true polled, free);
            losing = λ hushed_now. absurd (false≢true (sym (ap is_unsaid number_is ∙ quiet_one) ∙ hushed_now));
            on_no_port = λ none. absurd (false≢true (sym none ∙ ap has_reply number_is ∙ loud));
            strap = refl;
            bootloader_length = refl;
            fram_length = refl;
            limit = refl;
          }

      spoken_of : (p b : Bool) → polls control ≡ p → busy ≡ b → Leaving (answered next telemetry busy destination source control field o heard)
      spoken_of false b polled sends_now =
          subst Leaving (sym (with_no_reply next telemetry busy destination source control field heard o aloud silent bytes spoken polled))
          (silent_one (λ set. absurd (false≢true (sym polled ∙ set))) now.standing.diagnostics (marks.1
          ∙ counts_of_silence u.strap side ports message m Zero (shown_locked locking w.diagnostics) (no_drop m fewer) no_reply (unheard false polled)))
      spoken_of true true polled sends_now =
          subst Leaving (sym (with_a_lost_reply next telemetry busy destination source control field heard o aloud silent bytes spoken polled sends_now))
          (silent_one (λ _. sends_now) (counted_up now.standing.diagnostics (lost_count telemetry)) (ap (λ d. counted_up d (lost_count telemetry)) marks.1
          ∙ counts_of_a_loss u.strap side ports message m Zero (shown_locked locking w.diagnostics) telemetry (no_drop m fewer) no_reply hushed (unheard true polled) heard_there))
      spoken_of true false polled sends_now =
          subst Leaving (sym (with_a_reply next telemetry busy destination source control field heard o aloud silent bytes spoken polled sends_now)) (loud_one polled sends_now)

    a_command : (o : Ending Held) → Marks locking (held_of next heard) o → Leaving (answered next telemetry busy destination source control field o heard)
    a_command (done bytes changed) marks =
        spoken_of (done bytes changed) marks Acked Done _ (a_command_done destination source control field bytes changed) 1 2 (λ k. refl) refl (λ k. refl) refl
        (omega arith) (omega arith) refl refl refl refl (λ a b. absurd (a refl)) ((λ _. refl), (λ _. refl)) (polls control) busy refl refl
    a_command refused marks =
        spoken_of refused marks Nacked Refused _ (a_command_refused destination source control field) 3 4 (λ k. refl) refl (λ k. refl) refl
        (omega arith) (omega arith) refl refl refl refl (λ a b. (refl, refl, refl, refl)) ((λ e. absurd (omega arith)), (λ e. absurd (omega arith))) (polls control) busy refl refl
    a_command unfitted marks =
        subst Leaving (sym (with_nothing_fitted next telemetry busy destination source control field heard)) (record {
          nothing_by_a_refused_call = λ high. absurd (omega arith);
          memory_unless_a_command_is_done = λ _ _. (refl, refl, refl, refl);
          counts = marks.1 ∙ counts_of_none u.strap side ports message 10 Zero (shown_locked locking w.diagnostics) refl refl refl;
          lock = marks.0;
          ports = ports_of_none u.strap side ports message 10 Zero w.diagnostics refl;
          stored = refl;
          reply = λ s. no_reply_written s Zero w.buffers.replies 0 refl;
          ours = λ _. not_nowhere;
          leaving = λ loud. let z : false ≡ true = loud in absurd (false≢true z);
          losing = λ hushed. let z : false ≡ true = hushed in absurd (false≢true z);
          on_no_port = λ _. refl;
          strap = refl;
          bootloader_length = refl;
          fram_length = refl;
          limit = refl;
        })

  each_case : Each (λ locking. Leaves u number sending ports messages locking w) next side sending heard
  each_case =
      record {
        taken = quiet Taken (omega arith) refl refl refl refl refl;
        elsewhere = quiet Elsewhere (omega arith) refl refl refl refl refl;
        dropped = a_drop;
        commanded = λ telemetry destination source control field to told is short.
            a_command telemetry destination source control field to told is _ (command_of u.limit (code_of control) (held_of next heard) field)
            (what_a_command_marks u.limit (code_of control) (held_of next heard) field);
      }

-- ---- a call that is refused

pub high_sends : (answer : Answer) → 20 ≤ number_of answer → sent_of answer ≡ 0
high_sends Taken high = refl
high_sends (Acked n) high = absurd (omega arith)
high_sends Done high = refl
high_sends (Nacked n) high = absurd (omega arith)
high_sends Refused high = refl
high_sends Framing high = refl
high_sends Runt high = refl
high_sends Oversize high = refl
high_sends BadCrc high = refl
high_sends Elsewhere high = refl
high_sends Unfitted high = refl
high_sends BadStrap high = refl
high_sends BadEdac high = refl
high_sends BadFram high = refl
high_sends BadSums high = refl
high_sends BadDiagnostics high = refl
high_sends BadBuffers high = refl
high_sends BadCount high = refl
high_sends BadPort high = refl
high_sends BadLimit high = refl

-- what is heard of a call that is refused, and of one that is not
heard_of_none : (u : Unit) (number byte : ℕ) (w : World) (answer : Answer) → step_fit u number (lengths_of w) ≡ Err answer
    → (u.ports ≡ heard_ports u number byte w) × (w.buffers.messages ≡ heard_messages u number byte w)
unfolding judge_of
heard_of_none u number byte w answer e =
    let side = side_of number in
    let served = among_both side w.buffers.messages (received_of u side byte (message_of side w)) in (
      sym (ap (λ f. (unless f u w.buffers.messages served).unit.ports) e),
      sym (ap (λ f. (unless f u w.buffers.messages served).message) e),
    )

pub heard_of_one : (u : Unit) (number byte : ℕ) (w : World) → step_fit u number (lengths_of w) ≡ Ok tt
    → ((unit_heard u number byte w).ports ≡ heard_ports u number byte w) × ((world_heard u number byte w).buffers.messages ≡ heard_messages u number byte w)
unfolding judge_of received_of
heard_of_one u number byte w e =
    let side = side_of number in
    let served = among_both side w.buffers.messages (received_of u side byte (message_of side w)) in (
      sym (ap (λ f. (unless f u w.buffers.messages served).unit.ports) e),
      sym (ap (λ f. (unless f u w.buffers.messages served).message) e),
    )

-- For any record, port, byte and lent buffers of any length.
pub what_every_answer_leaves : (u : Unit) (number byte : ℕ) (sending : Sending) (w : World)
    → Leaves u number sending (heard_ports u number byte w) (heard_messages u number byte w) (locks u number byte w) w (step_of u number byte sending w)
what_every_answer_leaves u number byte sending w =
    of_any_call (λ locking. Leaves u number sending (heard_ports u number byte w) (heard_messages u number byte w) locking w) u number byte sending w
    (λ answer e.
    let high = a_refused_step_has_its_number u number (lengths_of w) answer e in
    let same = heard_of_none u number byte w answer e in
    let no_drop : (leb 5 (number_of answer) && leb (number_of answer) 8) ≡ false = simp (le-leb 5 (number_of answer) (omega arith), lt-leb (number_of answer) 8 (omega arith)) in
    let no_reply = no_reply_from_5 (number_of answer) (omega arith) in
    record {
      nothing_by_a_refused_call = λ _. (refl, refl);
      memory_unless_a_command_is_done = λ _ _. (refl, refl, refl, refl);
      counts = counts_of_none u.strap (side_of number) (heard_ports u number byte w) (of_side (side_of number) (heard_messages u number byte w)) (number_of answer) Zero w.diagnostics no_drop no_reply
          (no_silence_from_5 (number_of answer) (omega arith));
      lock = or_not u.locked;
      ports = same.0 ∙ ports_of_none u.strap (side_of number) (heard_ports u number byte w) w.buffers.messages.port0 (number_of answer) Zero w.diagnostics no_reply;
      stored = same.1;
      reply = λ s. no_reply_written s Zero w.buffers.replies (sent_of answer) (high_sends answer high);
      ours = λ one. absurd (false≢true (sym (no_command_from_5 (number_of answer) (omega arith) (λ ten. omega arith)) ∙ one));
      leaving = λ loud. absurd (false≢true (sym no_reply ∙ loud));
      losing = λ hushed. absurd (false≢true (sym (no_silence_from_5 (number_of answer) (omega arith)) ∙ hushed));
      on_no_port = λ _. refl;
      strap = refl;
      bootloader_length = refl;
      fram_length = refl;
      limit = refl;
    })
    (λ e.
    let same = heard_of_one u number byte w e in
    subst (λ (p : Ports). Each (λ locking. Leaves u number sending p (heard_messages u number byte w) locking w) (unit_heard u number byte w) (side_of number) sending (world_heard u number byte w)) same.0
    (subst (λ (m : Both (List ℕ)). Each (λ locking. Leaves u number sending (unit_heard u number byte w).ports m locking w) (unit_heard u number byte w) (side_of number) sending (world_heard u number byte w)) same.1
    (each_case u number sending w (unit_heard u number byte w).ports (world_heard u number byte w).buffers.messages)))

-- What a call that is not refused leaves of the ports and of the message buffers before any reply: its port and its buffer are as the receiver's rule says (a
-- run that is thrown away stores nothing, nor does closing a run), and the other port and its buffer are as they were.
pub what_a_served_byte_leaves_of_both_ports : (u : Unit) (number byte : ℕ) (sending : Sending) (w : World) → step_fit u number (lengths_of w) ≡ Ok tt
    → let side = side_of number in
    let got = hear_of (largest_message u.limit) (port_of side u.ports) byte (message_of side w) in
    (heard_ports u number byte w ≡ with_port side u.ports got.port) × ((step_of u number byte sending w).world.buffers.messages ≡ put side w.buffers.messages got.message)
what_a_served_byte_leaves_of_both_ports u number byte sending w fits =
    let same = heard_of_one u number byte w fits in
    (sym same.0, (what_every_answer_leaves u number byte sending w).stored ∙ sym same.1)

-- For any strap, limit and lock, and lent buffers of any length.
pub what_set_up_leaves : (strap limit : ℕ) (locked : Bool) (w : World) → SetUpLeaves strap limit locked w (set_up_of strap limit locked w)
unfolding set_up_of
what_set_up_leaves strap limit locked w = apart (set_up_fit strap limit (lengths_of w)) refl
  where
    high : (number : ℕ) → SetUpRefusal limit number → 20 ≤ number
    high number (inl between) = between.0
    high number (inr is) = let is_29 = is.0 in omega arith

    apart : (f : Fit) → set_up_fit strap limit (lengths_of w) ≡ f → SetUpLeaves strap limit locked w (set_up_as f strap limit locked w)
    apart (Ok _) e = record { when_set_up = λ _. (refl, refl); refused = λ other. absurd (other refl); sends_nothing = (refl, refl) }
    apart (Err answer) e =
        let number = a_refused_set_up_has_its_number strap limit (lengths_of w) answer e in
        record {
          when_set_up = λ none. absurd (a_refused_set_up_is_no_0 limit (number_of answer) number none);
          refused = λ _. (number, refl, refl);
          sends_nothing = (high_sends answer (high (number_of answer) number), refl);
        }

-- A refused set-up hands back a record with which every later call is refused.
pub a_refused_set_up_is_never_served : (strap limit : ℕ) (locked : Bool) (w : World) (answer : Answer) → set_up_fit strap limit (lengths_of w) ≡ Err answer
    → (number byte : ℕ) (sending : Sending) (v : World) → step_of (set_up_of strap limit locked w).unit number byte sending v ≡ outcome nobody BadStrap v
unfolding set_up_of step_of step_fit lengths_fit judge_of served_of
a_refused_set_up_is_never_served strap limit locked w answer e number byte sending v = ap (λ f. step_of (set_up_as f strap limit locked w).unit number byte sending v) e
