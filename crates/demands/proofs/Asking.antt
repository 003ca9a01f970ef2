-- 02, T-11: judging a list says yes exactly where a unit in application mode would ACK it, and storing leaves what the command leaves. For any list of
-- any length, and any memory. Assumes nothing.
use mathlib.Core.Path.{◌≡◌, refl, sym, ap, ◌∙◌, subst}
use mathlib.Core.Bool.{Bool, true, false, cond}
use mathlib.Core.List.{List, ◌∷◌}
use Prim.Native.Nat.{ℕ, ◌≤◌, ◌<◌}
use native.Mathlib.Omega.{arith}
use borrow.Author.Tests.{le-leb, lt-leb}
use lib.ListN.{length}
use Rattle.memory.specs.Edac.{edac_size}
use Rattle.memory.proofs.Tests.{either_side}
use Rattle.carrying.specs.declared.Mode.TheVariants.{Application}
use Rattle.carrying.specs.Ending.{is_limit, done, refused}
use Rattle.carrying.specs.Held.{standing, held, on_edac}
use Rattle.field.specs.Reading.{is_whole}
use Rattle.file_commands.specs.ReadFile.{files_shown}
use Rattle.file_commands.specs.WriteFile.{listed, files_of, files_stored, judge_list_of, Storage, store_list_of}
use Rattle.file_commands.proofs.Judging.{what_is_fit, so_it_is_fit, a_fit_list_is_written, an_unfit_list_is_refused, a_fit_list_is_stored, an_unfit_list_is_not_stored}
use Rattle.answer.specs.Answers.{number_of}
use Rattle.judging.specs.declared.Unit.{Unit}
use Rattle.ports.specs.Ports.{is_sending}
use Rattle.replying.specs.Replies.{code_of, sealed}
use Rattle.judging.proofs.Serving.{a_served_step_fits}
use Rattle.commanding.specs.World.{lengths_of, Outcome, held_of}
use Rattle.commanding.specs.Commanded.{answered}
use Rattle.unit.specs.Steps.{served_of}
use Rattle.demands.specs.Calls.{Call, Fed, lent_to, opened_on}
use Rattle.demands.specs.Orders.{SendsUpTo, Sends, with_its_message, left_by, done_answer, refused_answer, came_to, Way, met, replies}
use Rattle.demands.specs.Asking.{list_answer}
use Rattle.demands.proofs.Answers.{the_number_of_one_refused}
use Rattle.demands.proofs.Along.{the_same_is_met, a_call_that_suits_fits}
use Rattle.demands.proofs.DemandTwo.{sealed_size, a_packed_message_too_long_is_dropped}
use Rattle.demands.proofs.Orders.{a_write_file_comes_to, what_a_sent_command_leaves}
use Rattle.demands.proofs.Doing.{a_command_that_is_done_answers_so}

-- ---- the command, on whatever a call lends

module _ (u : Unit) (c : Call) (control : ℕ) (list : List ℕ) (code : code_of control ≡ 0x08) (mode : u.mode ≡ Application) where
  -- A list that is judged fit is done, and stored as storing stores it;
  pub a_list_judged_fit_is_done : judge_list_of u.limit list ≡ true
      → let after = files_stored c.lent.edac (listed list) in
      came_to u c control list ≡ done (files_shown after (files_of (listed list))) (held (standing u.mode u.locked c.lent.diagnostics) after c.lent.frams)
  a_list_judged_fit_is_done fit = a_write_file_comes_to u c control list code mode ∙ ap (on_edac (held_of u c.lent)) (a_fit_list_is_written u.limit c.lent.edac list fit)

  -- any other is refused.
  pub a_list_judged_unfit_is_refused : judge_list_of u.limit list ≡ false → came_to u c control list ≡ refused
  a_list_judged_unfit_is_refused unfit = a_write_file_comes_to u c control list code mode ∙ ap (on_edac (held_of u c.lent)) (an_unfit_list_is_refused u.limit c.lent.edac list unfit)

-- ---- on the line

-- A WRITE FILE of any list is sent to a unit in application mode. `most` may be any number, so the list may have any length.
module _ (most : ℕ) (way : Way) (source control : ℕ) (list : List ℕ) (c : Call)
    (sends : SendsUpTo most way source control list c) (code : code_of control ≡ 0x08) (mode : (met way).mode ≡ Application) where
  abbrev So : ℕ → List ℕ → Outcome → Type 0
  So number edac o = (number_of o.answer ≡ number) × (o.world.edac ≡ edac)

  -- the limit of the unit that it meets
  limit_there : (met way).limit ≡ way.unit.limit
  limit_there = (the_same_is_met way.side way.unit way.message way.calls).1

  legal : length list ≤ (met way).limit → Sends way source control list c
  legal short = record {
    serves = sends.serves;
    idle = sends.idle;
    heard = sends.heard;
    bytes = sends.bytes;
    short = subst (λ (n : ℕ). length list ≤ n) limit_there short;
    packed = sends.packed;
    ends = sends.ends;
    here = sends.here;
    suiting = sends.suiting;
    suits = sends.suits;
    undisturbed = sends.undisturbed;
  }

  fit_so : judge_list_of (met way).limit list ≡ true → So (done_answer (replies way control c)) (files_stored c.lent.edac (listed list)) (left_by way c)
  fit_so fit =
      let so = a_command_that_is_done_answers_so way source control list c (legal (what_is_fit (met way).limit list fit).short) _ _
      (a_list_judged_fit_is_done (met way) c control list code mode fit) in
      (so.0, so.1)

  refused_so : length list ≤ (met way).limit → judge_list_of (met way).limit list ≡ false → So (refused_answer (replies way control c)) c.lent.edac (left_by way c)
  unfolding answered
  refused_so short unfit =
      let open_there = opened_on way.side (met way) in
      let busy = is_sending way.telemetry c.sending in
      let laid = with_its_message way source control list c in
      let is = what_a_sent_command_leaves way source control list c (legal short)
      ∙ ap (λ e. answered open_there way.telemetry busy way.destination source control list e laid) (a_list_judged_unfit_is_refused (met way) c control list code mode unfit) in (
        ap (λ (o : Outcome). number_of o.answer) is ∙ the_number_of_one_refused open_there way.telemetry busy way.destination source control list laid,
        ap (λ (o : Outcome). o.world.edac) is,
      )

  dropped_so : (met way).limit < length list → So 7 c.lent.edac (left_by way c)
  unfolding served_of
  dropped_so long =
      let m = sealed (way.destination ∷ source ∷ control ∷ list) in
      let size = sealed_size way.destination source control list in
      let there = limit_there in
      let whole = a_packed_message_too_long_is_dropped way.side way.unit way.message way.calls c sends.serves sends.suiting sends.suits sends.ends sends.here sends.undisturbed m
      (omega arith) sends.idle sends.packed in
      (ap (λ (f : Fed). number_of f.last.answer) whole, ap (λ (f : Fed). f.last.world.edac) whole)

  whole : length c.lent.edac ≡ edac_size
  whole =
      (a_served_step_fits way.unit c.port (lengths_of (lent_to way.side way.message c))
      (a_call_that_suits_fits way.side way.unit way.message c sends.serves sends.suits)).edac_fits

  -- T-11. It is answered so,
  pub what_a_write_file_is_answered : number_of (left_by way c).answer ≡ list_answer (met way).limit (replies way control c) list
  what_a_write_file_is_answered = by (judge_list_of (met way).limit list) refl
    where
      by : (fit : Bool) → judge_list_of (met way).limit list ≡ fit → number_of (left_by way c).answer ≡ list_answer (met way).limit (replies way control c) list
      by true e = (fit_so e).0 ∙ sym (simp e)
      by false e =
          either_side (length list) (met way).limit
          (λ short. (refused_so short e).0 ∙ sym (simp (e, le-leb (length list) (met way).limit short)))
          (λ long. (dropped_so long).0 ∙ sym (simp (e, lt-leb (length list) (met way).limit long)))

  -- so judging says yes exactly where it is done, whether its reply leaves or not,
  pub done_exactly_where_judged_fit : (judge_list_of (met way).limit list ≡ true → number_of (left_by way c).answer ≡ done_answer (replies way control c))
      × (number_of (left_by way c).answer ≡ done_answer (replies way control c) → judge_list_of (met way).limit list ≡ true)
  done_exactly_where_judged_fit = ((λ fit. (fit_so fit).0), λ answered_so. by answered_so (judge_list_of (met way).limit list) refl)
    where
      apart : (n : ℕ) (b : Bool) → n ≡ cond b 3 4 → n ≡ cond b 1 2 → ⊥
      apart n true e f = omega arith
      apart n false e f = omega arith

      high : (n : ℕ) (b : Bool) → n ≡ 7 → n ≡ cond b 1 2 → ⊥
      high n true e f = omega arith
      high n false e f = omega arith

      by : number_of (left_by way c).answer ≡ done_answer (replies way control c) → (fit : Bool) → judge_list_of (met way).limit list ≡ fit → judge_list_of (met way).limit list ≡ true
      by so true e = e
      by so false e =
          either_side (length list) (met way).limit
          (λ short. absurd (apart _ (replies way control c) (refused_so short e).0 so))
          (λ long. absurd (high _ (replies way control c) (dropped_so long).0 so))

  -- and, where its reply leaves, exactly where it is ACKed;
  pub acked_exactly_where_judged_fit : replies way control c ≡ true
      → (judge_list_of (met way).limit list ≡ true → number_of (left_by way c).answer ≡ 1)
      × (number_of (left_by way c).answer ≡ 1 → judge_list_of (met way).limit list ≡ true)
  acked_exactly_where_judged_fit polled =
      let one : done_answer (replies way control c) ≡ 1 = ap (λ b. cond b 1 2) polled in
      ((λ fit. done_exactly_where_judged_fit.0 fit ∙ one), λ acked. done_exactly_where_judged_fit.1 (acked ∙ sym one))

  -- which is, in 01's own words: a list that is not empty, has room in a message and does not end inside a structure;
  pub done_exactly_where_01_says :
      (number_of (left_by way c).answer ≡ done_answer (replies way control c) → (0 < length list) × (length list ≤ (met way).limit) × (is_whole (listed list) ≡ true))
      × (0 < length list → length list ≤ (met way).limit → is_whole (listed list) ≡ true → number_of (left_by way c).answer ≡ done_answer (replies way control c))
  done_exactly_where_01_says = (
    (λ so. let fit = what_is_fit (met way).limit list (done_exactly_where_judged_fit.1 so) in (fit.some, fit.short, fit.whole)),
    λ some short ends. done_exactly_where_judged_fit.0
        (so_it_is_fit (met way).limit list (record { limited = subst (λ (n : ℕ). is_limit n ≡ true) (sym limit_there) sends.serves.2; some = some; short = short; whole = ends })),
  )

  -- and what it leaves in EDAC memory is what storing the list leaves there.
  pub the_command_leaves_what_storing_leaves : (left_by way c).world.edac ≡ (store_list_of (met way).limit c.lent.edac list).edac
  the_command_leaves_what_storing_leaves = by (judge_list_of (met way).limit list) refl
    where
      by : (fit : Bool) → judge_list_of (met way).limit list ≡ fit → (left_by way c).world.edac ≡ (store_list_of (met way).limit c.lent.edac list).edac
      by true e = (fit_so e).1 ∙ sym (ap (λ (s : Storage). s.edac) (a_fit_list_is_stored (met way).limit c.lent.edac list whole e))
      by false e =
          either_side (length list) (met way).limit (λ short. (refused_so short e).1) (λ long. (dropped_so long).1)
          ∙ sym (ap (λ (s : Storage). s.edac) (an_unfit_list_is_not_stored (met way).limit c.lent.edac list whole e))
