-- What an example asks of what a command comes to. Assumes nothing.
use mathlib.Core.Bool.{Bool, true, false}
use mathlib.Core.List.{List, []}
use Prim.Native.Nat.{ℕ}
use Rattle.carrying.specs.Ending.{Ending, done, refused, unfitted}

abbrev pub is_done : {M : Type 0} → Ending M → Bool
is_done (done reply after) = true
is_done refused = false
is_done unfitted = false

abbrev pub is_refused : {M : Type 0} → Ending M → Bool
is_refused (done reply after) = false
is_refused refused = true
is_refused unfitted = false

abbrev pub reply_of : {M : Type 0} → Ending M → List ℕ
reply_of (done reply after) = reply
reply_of refused = []
reply_of unfitted = []
