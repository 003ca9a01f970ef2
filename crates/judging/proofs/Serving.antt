-- What is known of a call that is not refused, and of each verdict. Assumes nothing.
use mathlib.Core.Path.{◌≡◌, refl, sym, ap, ◌∙◌}
use mathlib.Core.Bool.{Bool, true, false, cond, ◌&&◌, ◌||◌, false≢true}
use mathlib.Core.List.{List}
use Prim.Native.Nat.{ℕ, ◌≤◌}
use native.Mathlib.Omega.{arith}
use borrow.Author.Tests.{le-leb, eqb-true, ltb-false, leb-true}
use lib.Dec.{eqb, leb, ltb}
use lib.ListN.{get_or}
use Rattle.std.proofs.Common.{Option, Some, None, Ok, Err}
use Rattle.line.specs.declared.receiver.Heard.{Heard}
use Rattle.line.specs.declared.receiver.Heard.TheVariants as heard
use Rattle.line.specs.Packing.{shortest_message, message_size, reply_size}
use Rattle.ports.specs.declared.Side.{Side}
use Rattle.ports.specs.declared.Side.TheVariants.{Zero, One}
use Rattle.ports.specs.declared.Both.{Both}
use Rattle.ports.specs.Sides.{side_of, both, of_side}
use Rattle.ports.specs.Ports.{Ports, count_of, answered_on, port_of, hear_of}
use Rattle.memory.specs.Counts.{channels}
use Rattle.memory.specs.Edac.{edac_size}
use Rattle.blocks.specs.Fram.{block_start}
use Rattle.carrying.specs.Ending.{is_limit}
use Rattle.carrying.proofs.Room.{either_way}
use Rattle.answer.specs.declared.Answer.{Answer}
use Rattle.answer.specs.declared.Answer.TheVariants.{BadStrap, BadEdac, BadFram, BadSums, BadDiagnostics, BadBuffers, BadCount, BadPort, BadLimit}
use Rattle.judging.specs.declared.Unit.{Unit}
use Rattle.judging.specs.declared.Lengths.{Lengths}
use Rattle.judging.specs.declared.Verdict.{Verdict}
use Rattle.judging.specs.declared.Verdict.TheVariants.{Quiet, Dropped, Command}
use Rattle.judging.specs.Fitting.{Fit, last_strap, fram_fits, sums_fit, frams_as_set_up, largest_count, too_short, limit_fit, count_fit, port_fit, record_fit, lengths_fit, set_up_fit, step_fit}
use Rattle.judging.specs.Judging.{largest_message, sound_of, command_on, run_of, verdict_of, with_ports, received_of, among_both, unless, judge_of}

-- the tests that a call passed, as equations
pub record Passed (strap : ℕ) (fits : Bool) (l : Lengths) (next : Fit) : Type 0 where
  pub strap_allowed : ltb last_strap strap ≡ false
  pub edac_tested : eqb l.edac edac_size ≡ true
  pub fram_tested : fits ≡ true
  pub sums_tested : sums_fit l ≡ true
  pub diagnostics_tested : eqb l.diagnostics channels ≡ true
  pub port_0_tested : too_short l.message0 l.reply0 ≡ false
  pub port_1_tested : too_short l.message1 l.reply1 ≡ false
  pub next_tested : next ≡ Ok tt

unfit : (answer : Answer) → {X : Type 0} → ◌≡◌ {A = Fit} (Err answer) (Ok tt) → X
unfit answer e = let z : ◌≡◌ {A = ℕ} 0 1 = cc in absurd (omega arith)

pub all_passed : (strap : ℕ) (fits : Bool) (l : Lengths) (next : Fit) → lengths_fit strap fits l next ≡ Ok tt → Passed strap fits l next
unfolding lengths_fit
all_passed strap fits l next =
    tested (ltb last_strap strap) (eqb l.edac edac_size) fits (sums_fit l) (eqb l.diagnostics channels)
    (too_short l.message0 l.reply0) (too_short l.message1 l.reply1) refl refl refl refl refl refl refl
  where
    tested : (a e f s d m r : Bool) → ltb last_strap strap ≡ a → eqb l.edac edac_size ≡ e → fits ≡ f → sums_fit l ≡ s
        → eqb l.diagnostics channels ≡ d → too_short l.message0 l.reply0 ≡ m → too_short l.message1 l.reply1 ≡ r
        → cond a (Err BadStrap)
        (cond e (cond f (cond s (cond d (cond (m || r) (Err BadBuffers) next) (Err BadDiagnostics)) (Err BadSums)) (Err BadFram)) (Err BadEdac))
        ≡ Ok tt
        → Passed strap fits l next
    tested true e f s d m r pa pe pf ps pd pm pr h = unfit BadStrap h
    tested false false f s d m r pa pe pf ps pd pm pr h = unfit BadEdac h
    tested false true false s d m r pa pe pf ps pd pm pr h = unfit BadFram h
    tested false true true false d m r pa pe pf ps pd pm pr h = unfit BadSums h
    tested false true true true false m r pa pe pf ps pd pm pr h = unfit BadDiagnostics h
    tested false true true true true true r pa pe pf ps pd pm pr h = unfit BadBuffers h
    tested false true true true true false true pa pe pf ps pd pm pr h = unfit BadBuffers h
    tested false true true true true false false pa pe pf ps pd pm pr h =
        record {
          strap_allowed = pa;
          edac_tested = pe;
          fram_tested = pf;
          sums_tested = ps;
          diagnostics_tested = pd;
          port_0_tested = pm;
          port_1_tested = pr;
          next_tested = h;
        }

-- 20 to 25 do not look at what comes after them
pub refused_all_the_same : (strap : ℕ) (fits : Bool) (l : Lengths) (next : Fit) (answer : Answer) → lengths_fit strap fits l (Ok tt) ≡ Err answer
    → Err answer ≡ lengths_fit strap fits l next
unfolding lengths_fit
refused_all_the_same strap fits l next answer =
    tested (ltb last_strap strap) (eqb l.edac edac_size) fits (sums_fit l) (eqb l.diagnostics channels)
    (too_short l.message0 l.reply0 || too_short l.message1 l.reply1)
  where
    judged : Bool → Bool → Bool → Bool → Bool → Bool → Fit → Fit
    judged a e f s d b x =
        cond a (Err BadStrap) (cond e (cond f (cond s (cond d (cond b (Err BadBuffers) x) (Err BadDiagnostics)) (Err BadSums)) (Err BadFram)) (Err BadEdac))

    tested : (a e f s d b : Bool) → judged a e f s d b (Ok tt) ≡ Err answer → Err answer ≡ judged a e f s d b next
    tested true e f s d b h = sym h
    tested false false f s d b h = sym h
    tested false true false s d b h = sym h
    tested false true true false d b h = sym h
    tested false true true true false b h = sym h
    tested false true true true true true h = sym h
    tested false true true true true false h = unfit answer (sym h)

pub and_then : (strap : ℕ) (fits : Bool) (l : Lengths) (next : Fit) → lengths_fit strap fits l (Ok tt) ≡ Ok tt → next ≡ lengths_fit strap fits l next
unfolding lengths_fit
and_then strap fits l next h =
    let p = all_passed strap fits l (Ok tt) h in
    simp (p.strap_allowed, p.edac_tested, p.fram_tested, p.sums_tested, p.diagnostics_tested, p.port_0_tested, p.port_1_tested)

-- What is lent has the lengths that a call needs: what is left to say of it when no refusal is due.
pub record Fitted (l : Lengths) : Type 0 where
  pub edac_fits : l.edac ≡ edac_size
  pub bootloader_sums_fit : l.bootloader ≡ block_start l.bootloader_sums
  pub the_sums_fit : l.fram ≡ block_start l.sums
  pub diagnostics_fit : l.diagnostics ≡ channels
  pub message_fits : (side : Side) → message_size ≤ of_side side (both l.message0 l.message1)
  pub reply_fits : (side : Side) → reply_size ≤ of_side side (both l.reply0 l.reply1)

-- what both of two tests say
pub both_hold : (a b : Bool) → (a && b) ≡ true → (a ≡ true) × (b ≡ true)
both_hold true b h = (refl, h)
both_hold false b h = let z : false ≡ true = h in absurd (false≢true z)

-- and neither
neither_holds : (a b : Bool) → (a || b) ≡ false → (a ≡ false) × (b ≡ false)
neither_holds true b h = let z : true ≡ false = h in absurd (false≢true (sym z))
neither_holds false b h = (refl, h)

long_enough : (message reply : ℕ) → too_short message reply ≡ false → (message_size ≤ message) × (reply_size ≤ reply)
long_enough message reply h =
    let each = neither_holds (ltb message message_size) (ltb reply reply_size) h in
    (ltb-false message message_size each.0, ltb-false reply reply_size each.1)

fitted : (strap : ℕ) (fits : Bool) (l : Lengths) (next : Fit) → Passed strap fits l next → Fitted l
fitted strap fits l next p =
    let sums = both_hold (eqb (block_start l.bootloader_sums) l.bootloader) (eqb (block_start l.sums) l.fram) p.sums_tested in
    record {
      edac_fits = eqb-true l.edac edac_size p.edac_tested;
      bootloader_sums_fit = sym (eqb-true (block_start l.bootloader_sums) l.bootloader sums.0);
      the_sums_fit = sym (eqb-true (block_start l.sums) l.fram sums.1);
      diagnostics_fit = eqb-true l.diagnostics channels p.diagnostics_tested;
      message_fits = message;
      reply_fits = reply;
    }
  where
    on_0 : (message_size ≤ l.message0) × (reply_size ≤ l.reply0)
    on_0 = long_enough l.message0 l.reply0 p.port_0_tested

    on_1 : (message_size ≤ l.message1) × (reply_size ≤ l.reply1)
    on_1 = long_enough l.message1 l.reply1 p.port_1_tested

    message : (side : Side) → message_size ≤ of_side side (both l.message0 l.message1)
    message Zero = on_0.0
    message One = on_1.0

    reply : (side : Side) → reply_size ≤ of_side side (both l.reply0 l.reply1)
    reply Zero = on_0.1
    reply One = on_1.1

-- and the limit is one
limited : (limit : ℕ) → limit_fit limit ≡ Ok tt → is_limit limit ≡ true
limited limit e = apart (is_limit limit) refl e
  where
    apart : (b : Bool) → is_limit limit ≡ b → ◌≡◌ {A = Fit} (cond b (Ok tt) (Err BadLimit)) (Ok tt) → is_limit limit ≡ true
    apart true is f = is
    apart false is f = unfit BadLimit f

counted : (count : ℕ) (next : Fit) → count_fit count next ≡ Ok tt → (count ≤ largest_count) × (next ≡ Ok tt)
counted count next e = apart (leb count largest_count) refl e
  where
    apart : (b : Bool) → leb count largest_count ≡ b → cond b next (Err BadCount) ≡ Ok tt → (count ≤ largest_count) × (next ≡ Ok tt)
    apart true is f = (leb-true count largest_count is, f)
    apart false is f = unfit BadCount f

named : (number : ℕ) (next : Fit) → port_fit number next ≡ Ok tt → (number ≤ 1) × (next ≡ Ok tt)
named number next e = apart (leb number 1) refl e
  where
    apart : (b : Bool) → leb number 1 ≡ b → cond b next (Err BadPort) ≡ Ok tt → (number ≤ 1) × (next ≡ Ok tt)
    apart true is f = (leb-true number 1 is, f)
    apart false is f = unfit BadPort f

module _ (strap limit : ℕ) (l : Lengths) (e : set_up_fit strap limit l ≡ Ok tt) where
  pub passed_set_up : Passed strap (fram_fits l.bootloader && fram_fits l.fram) l (limit_fit limit)
  unfolding set_up_fit
  passed_set_up = all_passed strap (fram_fits l.bootloader && fram_fits l.fram) l (limit_fit limit) e

  pub a_served_set_up_fits : Fitted l
  a_served_set_up_fits = fitted strap (fram_fits l.bootloader && fram_fits l.fram) l (limit_fit limit) passed_set_up

  pub a_served_set_up_is_limited : is_limit limit ≡ true
  a_served_set_up_is_limited = limited limit passed_set_up.next_tested

-- what a record is known to have where no refusal is due
pub record Sound (u : Unit) (number : ℕ) : Type 0 where
  pub count_0 : count_of u.ports.port0 ≤ largest_count
  pub count_1 : count_of u.ports.port1 ≤ largest_count
  pub port : number ≤ 1
  pub limit : is_limit u.limit ≡ true

module _ (u : Unit) (number : ℕ) (l : Lengths) (e : step_fit u number l ≡ Ok tt) where
  pub passed_step : Passed u.strap (frams_as_set_up u l) l (record_fit u number)
  unfolding step_fit
  passed_step = all_passed u.strap (frams_as_set_up u l) l (record_fit u number) e

  pub a_served_step_fits : Fitted l
  a_served_step_fits = fitted u.strap (frams_as_set_up u l) l (record_fit u number) passed_step

  pub a_served_record_is_sound : Sound u number
  a_served_record_is_sound =
      let zero = counted (count_of u.ports.port0) _ passed_step.next_tested in
      let one = counted (count_of u.ports.port1) (port_fit number (limit_fit u.limit)) zero.1 in
      let port = named number (limit_fit u.limit) one.1 in
      record { count_0 = zero.0; count_1 = one.0; port = port.0; limit = limited u.limit port.1 }

-- other ports with counts that are not refused change nothing of that
pub served_with_other_ports : (u : Unit) (number : ℕ) (l : Lengths) (ports : Ports) → step_fit u number l ≡ Ok tt → ((side : Side) → count_of (port_of side ports) ≤ largest_count)
    → step_fit (with_ports u ports) number l ≡ Ok tt
unfolding step_fit
served_with_other_ports u number l ports e low =
    let sound = a_served_record_is_sound u number l e in
    let passed = passed_step u number l e in
    let fits : record_fit (with_ports u ports) number ≡ Ok tt
    = simp (le-leb (count_of ports.port0) largest_count (low Zero), le-leb (count_of ports.port1) largest_count (low One), le-leb number 1 sound.port, sound.limit) in
    ap (lengths_fit u.strap (frams_as_set_up u l) l) (fits ∙ sym passed.next_tested) ∙ e

-- ---- what a verdict guarantees

-- a command has a message's length
abbrev Legal : ℕ → Verdict → Type 0
Legal largest (Quiet answer) = 0 ≤ 0
Legal largest (Dropped answer channel) = 0 ≤ 0
Legal largest (Command count telemetry) = (shortest_message ≤ count) × (count ≤ largest)

legal_run : (largest strap : ℕ) (side : Side) (count : ℕ) (message : List ℕ) → Legal largest (run_of largest strap side count message)
unfolding run_of
legal_run largest strap side count message =
    either_way (Legal largest) (ltb count shortest_message) _ _ (λ _. omega arith)
    (λ enough. either_way (Legal largest) (ltb largest count) _ _ (λ _. omega arith)
    (λ fits. either_way (Legal largest) (sound_of count message) _ _
    (λ _. ordered (answered_on strap side (get_or message 0 0)) (ltb-false count shortest_message enough) (ltb-false largest count fits))
    (λ _. omega arith)))
  where
    ordered : (a : Option Side) → shortest_message ≤ count → count ≤ largest → Legal largest (command_on a count)
    ordered (Some telemetry) enough fits = (enough, fits)
    ordered None enough fits = omega arith

legal_verdict : (largest strap : ℕ) (side : Side) (h : Heard) (message : List ℕ) → Legal largest (verdict_of largest strap side h message)
unfolding verdict_of
legal_verdict largest strap side heard.Taken message = omega arith
legal_verdict largest strap side heard.Empty message = omega arith
legal_verdict largest strap side heard.Framing message = omega arith
legal_verdict largest strap side (heard.Message count) message = legal_run largest strap side count message

-- and what is lent to a call that is not refused has the right lengths
abbrev pub Guaranteed : ℕ → Lengths → Verdict → Type 0
Guaranteed limit l (Quiet answer) = 0 ≤ 0
Guaranteed limit l (Dropped answer channel) = 0 ≤ 0
Guaranteed limit l (Command count telemetry) = Fitted l × (is_limit limit ≡ true) × (shortest_message ≤ count) × (count ≤ largest_message limit)

guaranteed : (limit : ℕ) (l : Lengths) (v : Verdict) → Fitted l → is_limit limit ≡ true → Legal (largest_message limit) v → Guaranteed limit l v
guaranteed limit l (Quiet answer) f is legal = omega arith
guaranteed limit l (Dropped answer channel) f is legal = omega arith
guaranteed limit l (Command count telemetry) f is legal = (f, is, legal.0, legal.1)

pub what_a_verdict_guarantees : (u : Unit) (number byte : ℕ) (l : Lengths) (messages : Both (List ℕ))
    → let j = judge_of u number byte l messages in Guaranteed j.unit.limit l j.verdict
unfolding judge_of received_of
what_a_verdict_guarantees u number byte l messages = apart (step_fit u number l) refl
  where
    apart : (f : Fit) → step_fit u number l ≡ f
        → let side = side_of number in
        let j = unless f u messages (among_both side messages (received_of u side byte (of_side side messages))) in Guaranteed j.unit.limit l j.verdict
    apart (Err answer) e = omega arith
    apart (Ok _) e =
        let side = side_of number in
        let largest = largest_message u.limit in
        let got = hear_of largest (port_of side u.ports) byte (of_side side messages) in
        guaranteed u.limit l (verdict_of largest u.strap side got.heard got.message) (a_served_step_fits u number l e) (a_served_record_is_sound u number l e).limit
        (legal_verdict largest u.strap side got.heard got.message)
