-- PING 0x00 (01, "Commands"; ICD 11.5). Assumes nothing.
use Rattle.std.specs.Prelude.{ℕ, List, [], ◌∷◌}
use Rattle.carrying.specs.Ending.{Ending, done}

-- `WHEEL UNIT NSP 01`, 17 bytes.
abbrev pub ping_text : List ℕ
ping_text = 87 ∷ 72 ∷ 69 ∷ 69 ∷ 76 ∷ 32 ∷ 85 ∷ 78 ∷ 73 ∷ 84 ∷ 32 ∷ 78 ∷ 83 ∷ 80 ∷ 32 ∷ 48 ∷ 49 ∷ []

-- Any data.
abbrev pub ping_of : Ending (Unit {0})
ping_of = done ping_text tt
