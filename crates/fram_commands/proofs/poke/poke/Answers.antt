-- `fram_commands::poke::poke` meets its contract, by one law for each of its five ways. Assumes nothing.
use Rattle.std.proofs.Common.{◌≡◌, ◌-◌, cond, inl, inr, length, drop, refl, sym, ap, ◌∙◌}
use Rattle.blocks.specs.Fram.{place_of, store_of}
use Rattle.blocks.specs.Lent.{kept_in}
use Rattle.fram_commands.specs.Windows.{over_border}
use Rattle.carrying.proofs.Writing.{it_is_refused, is_unfitted, is_done_storing, the_rest, length_of_the_rest, one_write}
use Rattle.fram_commands.proofs.Ways.{a_place_lies_inside, is_not_fitted, poke_too_short, poke_without_room, poke_over_the_border, poke_outside, poke_inside}
use Rattle.fram_commands.proofs.poke.poke.Goals as goal
use Rattle.fram_commands.proofs.poke.poke.Goals.{then-not-locked, else-not-locked}

pub returns-then-size-lt5-clause-leaves : goal.returns-then-size-lt5-clause-leaves
returns-then-size-lt5-clause-leaves c =
    elim c.then-size-lt5.either [
      | inl short ↦ it_is_refused _ _ _ (poke_too_short _ _ _ _ c.args.field.now short)
      | inr lacks ↦ it_is_refused _ _ _ (poke_without_room _ _ _ _ c.args.field.now lacks.0 lacks.1)
    ]

pub returns-then-is_over_border-clause-leaves : goal.returns-then-is_over_border-clause-leaves
returns-then-is_over_border-clause-leaves c =
    let a = c.args in
    it_is_refused _ _ _
    (poke_over_the_border a.room a.first a.locked (kept_in a.fram.now) a.field.now c.if-size-lt5.false c.if-room-size.false
    (ap (λ n. over_border n (length a.field.now - 4)) (sym c.word32-address.ensures)
    ∙ ap (over_border c.word32-address.result) (sym (length_of_the_rest 4 a.field.now)) ∙ sym c.if-is_over_border.ensures))

pub returns-in_err-at-clause-leaves : goal.returns-in_err-at-clause-leaves
returns-in_err-at-clause-leaves c =
    let a = c.args in
    let none = c.in_err-at.ensures.ok_part in
    let size = length_of_the_rest 4 a.field.now in
    rw (is_not_fitted c.from_residual.result _ _ c.from_residual.ensures.1 c.in_err-at.ensures.value none)
    (is_unfitted _ _ _
    (poke_outside a.room a.first a.locked (kept_in a.fram.now) a.field.now c.if-size-lt5.false c.if-room-size.false
    (ap (λ n. over_border n (length a.field.now - 4)) (sym c.word32-address.ensures) ∙ ap (over_border c.word32-address.result) (sym size)
    ∙ sym c.if-is_over_border.ensures)
    (ap (λ n. place_of a.first (length a.fram.now.bytes.now) n (length a.field.now - 4)) (sym c.word32-address.ensures)
    ∙ ap (place_of a.first (length a.fram.now.bytes.now) c.word32-address.result) (sym size) ∙ sym c.place.ensures ∙ none)))

pub store-requires : goal.store-requires
store-requires c =
    let a = c.args in
    a_place_lies_inside a.first (length a.fram.now.bytes.now) c.word32-address.result _ c.in_ok-at.at (sym c.place.ensures ∙ c.in_ok-at.ensures.ok_part)

pub returns-clause-leaves : goal.returns-clause-leaves
returns-clause-leaves c =
    let a = c.args in
    let at = c.in_ok-at.at in
    let memory = kept_in a.fram.now in
    let size = length_of_the_rest 4 a.field.now in
    let stores : kept_in c.if-not-locked.fram ≡ cond a.locked memory (store_of memory at (drop 4 a.field.now))
    = elim c.if-not-locked.branch [
      | then-not-locked w ↦ rw w.if-not-locked.true (ap kept_in w.fram-is ∙ w.store.ensures.stored ∙ ap (store_of memory at) (the_rest 4 a.field.now))
      | else-not-locked w ↦ rw w.if-not-locked.false (ap kept_in w.fram-is)
    ] in
    is_done_storing _ _ _ _ _ _ _ _
    (poke_inside a.room a.first a.locked memory a.field.now c.if-size-lt5.false c.if-room-size.false
    (ap (λ n. over_border n (length a.field.now - 4)) (sym c.word32-address.ensures) ∙ ap (over_border c.word32-address.result) (sym size)
    ∙ sym c.if-is_over_border.ensures) at
    (ap (λ n. place_of a.first (length a.fram.now.bytes.now) n (length a.field.now - 4)) (sym c.word32-address.ensures)
    ∙ ap (place_of a.first (length a.fram.now.bytes.now) c.word32-address.result) (sym size) ∙ sym c.place.ensures ∙ c.in_ok-at.ensures.ok_part))
    stores
    refl
    (c.put.ensures ∙ one_write _ _)
