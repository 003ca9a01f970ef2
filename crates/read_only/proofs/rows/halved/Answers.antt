-- `read_only::rows::halved` meets its contract: of either part, that it may be cut out. Assumes nothing.
use mathlib.Core.Path.{◌∙◌}
use Rattle.read_only.proofs.Listed.{rises_behind, before_a_cut, behind_a_cut}
use Rattle.read_only.proofs.rows.halved.Goals as goal

pub walked-requires : goal.walked-requires
walked-requires c =
    ((before_a_cut _ _ _ _ c.split_at.ensures.front c.split_at.ensures.back c.requires.1 _ _ _ c.requires.0 c.from-middle.ensures c.if-at-middle.true).0, c.if-at-middle.true)

pub returns-then-at-middle : goal.returns-then-at-middle
returns-then-at-middle c =
    c.walked.ensures ∙ (before_a_cut _ _ _ _ c.split_at.ensures.front c.split_at.ensures.back c.requires.1 _ _ _ c.requires.0 c.from-middle.ensures c.if-at-middle.true).1

pub walked-requires-else-at-middle : goal.walked-requires-else-at-middle
walked-requires-else-at-middle c =
    (rises_behind _ _ _ _ c.split_at.ensures.front c.split_at.ensures.back _ c.requires.0, c.requires.2)

pub returns-else-at-middle : goal.returns-else-at-middle
returns-else-at-middle c =
    c.walked-else-at-middle.ensures
    ∙ behind_a_cut _ _ _ _ c.split_at.ensures.front c.split_at.ensures.back c.requires.1 _ _ _ c.requires.0 c.from-middle.ensures c.if-at-middle.false
