-- `commanding::commanded` meets its contract: what the handler leaves is answered. Assumes nothing.
use Prim.Native.Nat.{ℕ, ◌-◌, ◌%◌}
use mathlib.Core.Path.{◌≡◌, refl, sym, ap, ◌∙◌}
use mathlib.Core.List.{List}
use native.Mathlib.Omega.{arith}
use borrow.Rule.Slice.PartMut.{same_len_mid}
use lib.ListN.{get_or, take, drop, replicate}
use Rattle.memory.specs.Bytes.{stretch}
use Rattle.blocks.specs.Lent.{kept_in}
use Rattle.line.specs.Packing.{message_size}
use Rattle.carrying.specs.Ending.{longest_data, leaves}
use Rattle.carrying.specs.Held.{frams, standing, held}
use Rattle.carrying.proofs.Limits.{within_both_ends}
use Rattle.command.specs.Command.{command_of}
use Rattle.command.specs.Cost.{command_cost}
use Rattle.ports.specs.Sides.{both}
use Rattle.replying.specs.Ports.{said_on}
use Rattle.commanding.specs.World.{world, held_of}
use Rattle.commanding.specs.Commanded.{commanded_of}
use Rattle.commanding.proofs.Answering.{the_command_is_answered, the_data_has_room}
use Rattle.commanding.proofs.commanded.Goals as goal

-- the unit's own array as it is made, and its part that is lent to the handler
abbrev fresh : List ℕ
fresh = replicate message_size 0

abbrev lent : List ℕ
lent = take longest_data (drop 3 fresh)

pub carry_out-carried-requires : goal.carry_out-carried-requires
carry_out-carried-requires c =
    let p = c.requires in
    let limit = within_both_ends c.args.unit.limit p.5 in
    (omega (arith, limit.0), omega (arith, limit.1), p.0, p.1)

pub slice_bounds-say_on-end : goal.slice_bounds-say_on-end
slice_bounds-say_on-end c = sym (same_len_mid 3 longest_data fresh c.carry_out-carried.new.reply c.carry_out-carried.auto.reply)

pub say_on-answer-requires : goal.say_on-answer-requires
say_on-answer-requires c =
    let p = c.requires in
    record {
      done_fits = the_data_has_room (command_of _ _ _ _) _ lent _ _ _ c.carry_out-carried.ensures.leaves refl c.carry_out-carried.auto.reply;
      lengths = (p.6, p.7, p.2, same_len_mid 3 longest_data fresh c.carry_out-carried.new.reply c.carry_out-carried.auto.reply, p.3, p.4);
    }

pub returns-clause-outcome : goal.returns-clause-outcome
unfolding commanded_of
returns-clause-outcome c =
    λ m0 m1.
    let a = c.args in
    let p = c.requires in
    let u = a.unit in
    let m = a.message.now in
    let w = (world a.edac.now (kept_in a.bootloader.now) (kept_in a.user.now) a.diagnostics.now m0 a.reply0.now m1 a.reply1.now) in
    let size : a.count - 2 - 3 ≡ a.count - 5 = omega (arith, p.6) in
    the_command_is_answered u a.telemetry a.sending w (get_or m 0 0) (get_or m 1 0) (get_or m 2 0) (stretch 3 (a.count - 5) m) fresh lent (omega arith)
    (command_of u.limit (get_or m 2 0 % 32) (held_of u w) (stretch 3 (a.count - 5) m))
    (said_on c.say_on-answer.result (both _ _)) _ _ c.fate_of-fate.result c.settle-ports.result _ _ _ (held (standing c.carry_out-carried.result.mode c.carry_out-carried.result.locked _) _ (frams (kept_in c.carry_out-carried.new.bootloader) (kept_in c.carry_out-carried.new.user)))
    (c.carry_out-carried.ensures.leaves
    ∙ ap (λ (n : ℕ). leaves (command_of u.limit (get_or m 2 0 % 32) (held_of u w) (take n (drop 3 m))) lent (held_of u w)) size)
    c.fate_of-fate.ensures
    c.say_on-answer.ensures
    (c.command_cost-cost.ensures ∙ ap (λ (n : ℕ). command_cost (get_or m 2 0 % 32) c.carry_out-carried.result.ended (take n (drop 3 m))) size)
    c.settle-ports.ensures
    c.leaves_on.ensures
