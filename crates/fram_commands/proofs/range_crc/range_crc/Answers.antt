-- `fram_commands::range_crc::range_crc` meets its contract, by one law for each of its five ways. Assumes nothing.
use Rattle.std.proofs.Common.{◌+◌, length, sym, ap, ap₂, ◌∙◌, arith}
use lib.ListN.{length-append}
use Rattle.blocks.specs.Fram.{kept, place_of, range_sum}
use Rattle.memory.specs.Bytes.{stored}
use Rattle.field.specs.Fields.{bytes16}
use Rattle.fram_commands.specs.Windows.{over_border}
use Rattle.fram_commands.specs.Crc.{range_size}
use Rattle.carrying.proofs.Writing.{it_is_done, it_is_refused, is_unfitted, addresses_then_sum}
use Rattle.fram_commands.proofs.Ways.{a_place_lies_inside, is_not_fitted, crc_of_another_length, crc_backwards, crc_over_the_border, crc_outside, crc_inside}
use Rattle.fram_commands.proofs.range_crc.range_crc.Goals as goal

pub returns-then-field-ne8 : goal.returns-then-field-ne8
returns-then-field-ne8 c = it_is_refused _ _ _ (crc_of_another_length _ _ c.args.field.now c.if-field-ne8.true)

pub returns-then-last-from : goal.returns-then-last-from
returns-then-last-from c = it_is_refused _ _ _ (crc_backwards _ _ c.args.field.now c.if-field-ne8.false (omega arith))

pub returns-then-is_over_border : goal.returns-then-is_over_border
returns-then-is_over_border c =
    let a = c.args in
    it_is_refused _ _ _
    (crc_over_the_border a.first (kept a.fram.now a.sums.now) a.field.now c.if-field-ne8.false (omega arith)
    (ap₂ (λ from last. over_border from (range_size from last)) (sym c.word32-from.ensures) (sym c.word32-last.ensures) ∙ sym c.if-is_over_border.ensures))

pub returns-in_err-at : goal.returns-in_err-at
returns-in_err-at c =
    let a = c.args in
    let none = c.in_err-at.ensures.ok_part in
    rw (is_not_fitted c.from_residual.result _ _ c.from_residual.ensures.1 c.in_err-at.ensures.value none)
    (is_unfitted _ _ _
    (crc_outside a.first (kept a.fram.now a.sums.now) a.field.now c.if-field-ne8.false (omega arith)
    (ap₂ (λ from last. over_border from (range_size from last)) (sym c.word32-from.ensures) (sym c.word32-last.ensures) ∙ sym c.if-is_over_border.ensures)
    (ap₂ (λ from last. place_of a.first (length a.fram.now) from (range_size from last)) (sym c.word32-from.ensures) (sym c.word32-last.ensures)
    ∙ sym c.place.ensures ∙ none)))

pub overflow_add-at : goal.overflow_add-at
overflow_add-at c =
    let a = c.args in
    omega (arith, a_place_lies_inside a.first (length a.fram.now) c.word32-from.result _ c.in_ok-at.at (sym c.place.ensures ∙ c.in_ok-at.ensures.ok_part))

pub range_sum-sum-requires : goal.range_sum-sum-requires
range_sum-sum-requires c =
    let a = c.args in
    (omega arith, a_place_lies_inside a.first (length a.fram.now) c.word32-from.result _ c.in_ok-at.at (sym c.place.ensures ∙ c.in_ok-at.ensures.ok_part), c.requires.fram_len)

pub returns : goal.returns
returns c =
    let a = c.args in
    let at = c.in_ok-at.at in
    let memory = kept a.fram.now a.sums.now in
    it_is_done _ _ _ _ 10 tt tt
    (crc_inside a.first memory a.field.now c.if-field-ne8.false (omega arith)
    (ap₂ (λ from last. over_border from (range_size from last)) (sym c.word32-from.ensures) (sym c.word32-last.ensures) ∙ sym c.if-is_over_border.ensures) at
    (ap₂ (λ from last. place_of a.first (length a.fram.now) from (range_size from last)) (sym c.word32-from.ensures) (sym c.word32-last.ensures)
    ∙ sym c.place.ensures ∙ c.in_ok-at.ensures.ok_part))
    (length-append a.field.now (bytes16 _) ∙ ap (λ n. n + 2) c.if-field-ne8.false)
    (addresses_then_sum a.field.now a.reply.now _ _ _ _ c.if-field-ne8.false c.put.ensures (c.put-2.ensures ∙ ap (stored c.put.new.held 8) c.to_le_bytes.ensures)
    (c.range_sum-sum.ensures ∙ ap₂ (λ from last. range_sum memory at (at + range_size from last)) c.word32-from.ensures c.word32-last.ensures))
