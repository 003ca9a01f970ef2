-- `memory::edac::show_file` meets its contract, by one law for file 0 and one for any other. Assumes nothing.
use mathlib.Core.Path.{◌∙◌}
use borrow.Author.Rules.{rules}
use native.Mathlib.Omega.{arith}
use lib.ListN.{length-set, length-take, length-drop}
use Rattle.memory.proofs.Files.{size_of_file_0, size_of_another, show_file_0, show_another}
use Rattle.memory.proofs.edac.show_file.Goals as goal

pub bounds-reply-at-then-file-eq0 : goal.bounds-reply-at-then-file-eq0
bounds-reply-at-then-file-eq0 c = simp length-set (omega (arith, size_of_file_0 _ c.if-file-eq0.true))

pub put-requires : goal.put-requires
put-requires c =
    simp (length-set, length-take, length-drop) (omega (arith, size_of_file_0 _ c.if-file-eq0.true))

pub returns-then-file-eq0 : goal.returns-then-file-eq0
returns-then-file-eq0 c =
    let size = size_of_file_0 _ c.if-file-eq0.true in (
      omega (arith, size),
      c.put.ensures ∙ show_file_0 _ _ _ _ c.from-start.result c.if-file-eq0.true (omega (arith, size)) (search rules),
    )

pub put-requires-else-file-eq0 : goal.put-requires-else-file-eq0
put-requires-else-file-eq0 c =
    simp (length-set, length-take, length-drop) (omega (arith, size_of_another _ c.if-file-eq0.false))

pub returns-else-file-eq0 : goal.returns-else-file-eq0
returns-else-file-eq0 c =
    let size = size_of_another _ c.if-file-eq0.false in (
      omega (arith, size),
      c.put-else-file-eq0.ensures ∙ show_another _ _ _ _ c.from-start.result c.if-file-eq0.false (omega (arith, size)) (search rules),
    )
