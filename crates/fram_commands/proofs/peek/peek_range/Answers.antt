-- `fram_commands::peek::peek_range` meets its contract, by one law for each of its five ways. Assumes nothing.
use Rattle.std.proofs.Common.{length, sym, ap, ◌∙◌, arith}
use Rattle.blocks.specs.Fram.{place_of}
use Rattle.fram_commands.specs.Windows.{over_border}
use Rattle.fram_commands.proofs.Ways.{a_place_lies_inside, peek_of_none, peek_without_room, is_not_fitted, peek_over_the_border, peek_outside, peek_inside}
use Rattle.carrying.proofs.Writing.{it_is_done, it_is_refused, is_unfitted, address_then_bytes, length_of_address_then_bytes}
use Rattle.fram_commands.proofs.peek.peek_range.Goals as goal
use Rattle.fram_commands.proofs.peek.peek_range.Goals.{then-count-eq0-via-then-count-eq0, then-count-eq0-via-else-count-eq0+then-room-count, then-count-eq0-via-else-count-eq0+else-room-count+then-is_over_border}

pub returns-then-count-eq0 : goal.returns-then-count-eq0
returns-then-count-eq0 c =
    let a = c.args in
    elim c.then-count-eq0.branch [
      | then-count-eq0-via-then-count-eq0 w ↦ it_is_refused _ _ _ (peek_of_none _ _ _ _ _ w.if-count-eq0.true)
      | then-count-eq0-via-else-count-eq0+then-room-count w ↦ it_is_refused _ _ _ (peek_without_room _ _ _ _ _ w.if-count-eq0.false w.if-room-count.true)
      | then-count-eq0-via-else-count-eq0+else-room-count+then-is_over_border w ↦
          it_is_refused _ _ _
          (peek_over_the_border a.room a.first a.fram.now a.field.now a.count w.if-count-eq0.false w.if-room-count.false
          (ap (λ n. over_border n a.count) (sym c.word32-address.ensures) ∙ sym w.is_over_border.ensures ∙ w.if-is_over_border.true))
    ]

pub returns-in_err-at : goal.returns-in_err-at
returns-in_err-at c =
    let a = c.args in
    let none = c.in_err-at.ensures.ok_part in
    rw (is_not_fitted c.from_residual.result _ _ c.from_residual.ensures.1 c.in_err-at.ensures.value none)
    (is_unfitted _ _ _
    (peek_outside _ _ _ _ _ c.if-count-eq0.false c.if-room-count.false
    (ap (λ n. over_border n a.count) (sym c.word32-address.ensures) ∙ sym c.is_over_border.ensures ∙ c.if-is_over_border.false)
    (ap (λ n. place_of a.first (length a.fram.now) n a.count) (sym c.word32-address.ensures) ∙ sym c.place.ensures ∙ none)))

pub overflow_add-at : goal.overflow_add-at
overflow_add-at c =
    let a = c.args in
    omega (arith, a_place_lies_inside a.first (length a.fram.now) c.word32-address.result a.count c.in_ok-at.at (sym c.place.ensures ∙ c.in_ok-at.ensures.ok_part))

pub slice_bounds-put-end-2 : goal.slice_bounds-put-end-2
slice_bounds-put-end-2 c =
    let a = c.args in
    omega (arith, a_place_lies_inside a.first (length a.fram.now) c.word32-address.result a.count c.in_ok-at.at (sym c.place.ensures ∙ c.in_ok-at.ensures.ok_part))

pub returns : goal.returns
returns c =
    let a = c.args in
    let at = c.in_ok-at.at in
    let there = sym c.place.ensures ∙ c.in_ok-at.ensures.ok_part in
    let ends = a_place_lies_inside a.first (length a.fram.now) c.word32-address.result a.count at there in
    it_is_done _ _ _ _ _ tt tt
    (peek_inside a.room a.first a.fram.now a.field.now a.count c.if-count-eq0.false c.if-room-count.false
    (ap (λ n. over_border n a.count) (sym c.word32-address.ensures) ∙ sym c.is_over_border.ensures ∙ c.if-is_over_border.false) at
    (ap (λ n. place_of a.first (length a.fram.now) n a.count) (sym c.word32-address.ensures) ∙ there))
    (length_of_address_then_bytes 4 a.field.now a.fram.now at a.count (omega arith) (omega arith))
    (address_then_bytes 4 a.field.now a.fram.now a.reply.now _ _ at a.count (omega arith) c.put.ensures c.put-2.ensures)
