-- A reply has room: what is proved of each command in its own room, and of the table of commands above them. Assumes nothing.
use mathlib.Core.Path.{◌≡◌, refl, sym, ◌∙◌}
use mathlib.Core.Bool.{Bool, true, false, cond}
use mathlib.Core.List.{List}
use Prim.Native.Nat.{ℕ, ◌+◌, ◌-◌, ◌≤◌}
use native.Mathlib.Omega.{arith}
use borrow.Author.Tests.{le-leb, lt-leb, leb-true, leb-false}
use lib.Dec.{leb}
use lib.ListN.{length, take, length-take}
use Rattle.carrying.specs.Ending.{Ending, done, refused, unfitted}
use Rattle.carrying.specs.Held.{inside}

-- what holds either way holds of the choice
pub either_way : {A : Type 0} (P : A → Type 0) (b : Bool) (x y : A) → (b ≡ true → P x) → (b ≡ false → P y) → P (cond b x y)
either_way P true x y p q = p refl
either_way P false x y p q = q refl

-- a reply, if there is one, of `room` bytes at most
abbrev pub Roomy : {M : Type 0} → ℕ → Ending M → Type 0
Roomy room (done reply after) = length reply ≤ room
Roomy room refused = 0 ≤ 0
Roomy room unfitted = 0 ≤ 0

pub roomy_inside : {M N : Type 0} (room : ℕ) (f : M → N) (o : Ending M) → Roomy room o → Roomy room (inside f o)
roomy_inside room f (done reply after) h = h
roomy_inside room f refused h = h
roomy_inside room f unfitted h = h

-- the first bytes of a list are no more than were asked for
pub part : (n : ℕ) (l : List ℕ) → length (take n l) ≤ n
part n l = let e = length-take n l in omega (arith, e)

-- what fits in room of which a part is taken
pub fits_in_the_rest : (size width room : ℕ) → size ≤ room → leb (size + width) room ≡ leb width (room - size)
fits_in_the_rest size width room taken = apart (leb width (room - size)) refl
  where
    apart : (b : Bool) → leb width (room - size) ≡ b → leb (size + width) room ≡ leb width (room - size)
    apart true e = let fits = leb-true width (room - size) e in le-leb (size + width) room (omega arith) ∙ sym e
    apart false e = let lacks = leb-false width (room - size) e in lt-leb (size + width) room (omega arith) ∙ sym e
