-- DIAGNOSTIC 0x04 (01, "Commands"; ICD 11.9 and 12.3). Assumes nothing.
use Rattle.std.specs.Prelude.{ℕ, ◌*◌, Bool, true, cond, ◌&&◌, List, [], ◌∷◌, ◌++◌, eqb, leb, ltb, length, get_or}
use Rattle.carrying.specs.Ending.{Ending, done, refused}
use Rattle.field.specs.Fields.{bytes32}

abbrev pub last_channel : ℕ
last_channel = 0x1E

unfoldable pub all_channels : List ℕ → Bool
all_channels [] = true
all_channels (channel ∷ channels) = leb channel last_channel && all_channels channels

-- Each channel and its value.
unfoldable pub channels_shown : List ℕ → List ℕ → List ℕ
channels_shown diagnostics [] = []
channels_shown diagnostics (channel ∷ channels) =
    channel ∷ bytes32 (get_or diagnostics channel 0) ++ channels_shown diagnostics channels

-- One channel or more, as many as the reply has room for (205 in a room of 1,028); a channel that is none refuses the whole.
unfoldable pub diagnostic_of : ℕ → List ℕ → List ℕ → Ending (Unit {0})
diagnostic_of room diagnostics field =
    cond (eqb (length field) 0) refused
    (cond (ltb room (5 * length field)) refused
    (cond (all_channels field) (done (channels_shown diagnostics field) tt) refused))
