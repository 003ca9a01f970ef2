-- `read_only::rows::searched` meets its contract: of either half, that it may be cut out, and cut again. Assumes nothing.
use mathlib.Core.Path.{◌∙◌}
use native.Mathlib.Omega.{arith}
use borrow.Author.Rules.{rules}
use Rattle.read_only.proofs.Listed.{a_place_to_cut, not_all_before, before_a_cut, behind_a_cut, apart_before, apart_behind, rises_behind, what_is_searchable}
use Rattle.read_only.proofs.rows.searched.Goals as goal

pub split_at-requires : goal.split_at-requires
split_at-requires c = omega (arith, a_place_to_cut 19 c.args.rows.now (what_is_searchable c.args.rows.now c.requires.0).2)

pub bounds-behind-0 : goal.bounds-behind-0
bounds-behind-0 c =
    search (rules, not_all_before 19 _ _ _ c.split_at.ensures.front c.split_at.ensures.back (what_is_searchable c.args.rows.now c.requires.0).2)

pub halved-requires : goal.halved-requires
halved-requires c =
    let ok = what_is_searchable c.args.rows.now c.requires.0 in (
      (before_a_cut 19 _ _ _ c.split_at.ensures.front c.split_at.ensures.back ok.2 _ _ _ ok.0 c.from-middle.ensures c.if-at-middle.true).0,
      apart_before 19 _ _ _ c.split_at.ensures.front c.split_at.ensures.back 9 (omega arith) ok.1,
      c.if-at-middle.true,
    )

pub returns-then-at-middle : goal.returns-then-at-middle
returns-then-at-middle c =
    let ok = what_is_searchable c.args.rows.now c.requires.0 in
    c.halved.ensures ∙ (before_a_cut 19 _ _ _ c.split_at.ensures.front c.split_at.ensures.back ok.2 _ _ _ ok.0 c.from-middle.ensures c.if-at-middle.true).1

pub halved-requires-else-at-middle : goal.halved-requires-else-at-middle
halved-requires-else-at-middle c =
    let ok = what_is_searchable c.args.rows.now c.requires.0 in (
      rises_behind 19 _ _ _ c.split_at.ensures.front c.split_at.ensures.back _ ok.0,
      apart_behind 19 _ _ _ c.split_at.ensures.front c.split_at.ensures.back 10 (omega arith) ok.3,
      c.requires.1,
    )

pub returns-else-at-middle : goal.returns-else-at-middle
returns-else-at-middle c =
    let ok = what_is_searchable c.args.rows.now c.requires.0 in
    c.halved-else-at-middle.ensures ∙ behind_a_cut 19 _ _ _ c.split_at.ensures.front c.split_at.ensures.back ok.2 _ _ _ ok.0 c.from-middle.ensures c.if-at-middle.false
