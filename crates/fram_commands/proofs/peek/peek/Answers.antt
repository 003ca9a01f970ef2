-- `fram_commands::peek::peek` meets its contract: the two forms by their lengths. Assumes nothing.
use Rattle.std.proofs.Common.{◌∙◌, arith}
use Rattle.carrying.proofs.Writing.{it_is_refused, is_the_same}
use Rattle.fram_commands.proofs.Ways.{peek_short, peek_long, peek_neither}
use Rattle.fram_commands.proofs.peek.peek.Goals as goal
use Rattle.fram_commands.proofs.peek.peek.Goals.{in-5, in-6}

pub returns-in_default : goal.returns-in_default
returns-in_default c = it_is_refused _ _ _ (peek_neither _ _ _ _ (λ e. omega arith) (λ e. omega arith))

pub returns : goal.returns
returns c =
    elim c.match-field.branch [
      | in-5 w ↦
          is_the_same _ _ _ _ tt (peek_short _ _ _ _ _ (omega arith) (w.count-is ∙ w.from-count.ensures ∙ w.short_count.ensures)) c.peek_range.ensures
      | in-6 w ↦
          is_the_same _ _ _ _ tt
          (peek_long _ _ _ _ _ (λ e. omega arith) (omega arith) (w.count-is ∙ w.from-count-in-6.ensures ∙ w.word16.ensures)) c.peek_range.ensures
    ]
