-- What a command on a part of what is held leaves of the whole. Assumes nothing.
use mathlib.Core.Path.{◌≡◌, refl, ap, ◌∙◌}
use mathlib.Core.List.{List}
use Prim.Native.Nat.{ℕ}
use Rattle.carrying.specs.Ending.{Ended, Ending, done, refused, unfitted, Left, left, leaves}
use Rattle.carrying.specs.Held.{inside}

-- what is left of a part, said of the whole
module _ {M N : Type 0} (around : M → N) where
  of_the_whole : Left M → Left N
  of_the_whole l = left l.ended l.reply (around l.memory)

  leaves_the_whole : (o : Ending M) (reply : List ℕ) (before : M) → of_the_whole (leaves o reply before) ≡ leaves (inside around o) reply (around before)
  unfolding of_the_whole
  leaves_the_whole (done bytes after) reply before = refl
  leaves_the_whole refused reply before = refl
  leaves_the_whole unfitted reply before = refl

  pub on_a_part : (o : Ending M) (ended : Ended) (buffer reply : List ℕ) (after before : M) → left ended buffer after ≡ leaves o reply before
      → left ended buffer (around after) ≡ leaves (inside around o) reply (around before)
  unfolding of_the_whole
  on_a_part o ended buffer reply after before e = ap of_the_whole e ∙ leaves_the_whole o reply before
