-- Things that there are two of, one for each port: 02, T-01. Assumes nothing.
use Rattle.std.specs.Prelude.{ℕ, cond, eqb}
use Rattle.ports.specs.declared.Side.{Side}
use Rattle.ports.specs.declared.Side.TheVariants.{Zero, One}
use Rattle.ports.specs.declared.Both.{Both}

-- The port that a number names. (Numbers other than 0 and 1, which name none, are refused with 27 before anything is done.)
abbrev pub side_of : ℕ → Side
side_of number = cond (eqb number 0) Zero One

abbrev pub number_of_side : Side → ℕ
number_of_side Zero = 0
number_of_side One = 1

-- One for each port, that of one of them, and the two with that of one changed.
abbrev pub both : {A : Type 0} → A → A → Both A
both a b = record { port0 = a; port1 = b }

abbrev pub of_side : {A : Type 0} → Side → Both A → A
of_side Zero two = two.port0
of_side One two = two.port1

abbrev pub put : {A : Type 0} → Side → Both A → A → Both A
put Zero two a = both a two.port1
put One two a = both two.port0 a
