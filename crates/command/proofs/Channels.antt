-- One turn over a list of channels: what is left of the list from a place on, by the channel that stands there.
-- Assumes nothing.
use mathlib.Core.Path.{◌≡◌, refl, sym, ap, ◌∙◌}
use mathlib.Core.Bool.{Bool, true, false, ◌&&◌, false≢true}
use mathlib.Core.List.{List, [], ◌∷◌, ◌++◌}
use Prim.Native.Nat.{ℕ, ◌+◌, ◌*◌, ◌≤◌, ◌<◌}
use native.Mathlib.Numerals.{add-one}
use native.Mathlib.Omega.{arith}
use borrow.Author.Tests.{leb-true}
use lib.Dec.{leb}
use lib.ListN.{length, drop, get_or, drop_of_length-le}
use lib.Seq.{drop-cons}
use Rattle.std.specs.List.{list_all}
use Rattle.field.specs.Fields.{bytes32}
use Rattle.command.specs.Diagnostic.{last_channel, all_channels, channels_shown}

next_left : (field : List ℕ) (at : ℕ) → at < length field → drop at field ≡ get_or field at 0 ∷ drop (at + 1) field
next_left field at h = rw (add-one, drop-cons field at 0)

-- ---- DIAGNOSTIC

pub channels_turn : (field : List ℕ) (at : ℕ) → at < length field
    → all_channels (drop at field) ≡ (leb (get_or field at 0) last_channel && all_channels (drop (at + 1) field))
unfolding all_channels
channels_turn field at h = ap all_channels (next_left field at h)

-- what the code asks of a list, as the definition has it
pub each_is_a_channel : (field : List ℕ) → list_all (λ channel. leb channel last_channel) field ≡ all_channels field
unfolding all_channels
each_is_a_channel [] = refl
each_is_a_channel (channel ∷ field) = ap (λ (b : Bool). leb channel last_channel && b) (each_is_a_channel field)

-- a list of channels alone has one at each place
pub a_channel_stands : (field : List ℕ) (at : ℕ) → at < length field → all_channels (drop at field) ≡ true
    → (get_or field at 0 ≤ last_channel) × (all_channels (drop (at + 1) field) ≡ true)
a_channel_stands field at h all = apart (leb (get_or field at 0) last_channel) refl (sym (channels_turn field at h) ∙ all)
  where
    apart : (b : Bool) → leb (get_or field at 0) last_channel ≡ b → (leb (get_or field at 0) last_channel && all_channels (drop (at + 1) field)) ≡ true
        → (get_or field at 0 ≤ last_channel) × (all_channels (drop (at + 1) field) ≡ true)
    apart true e both = (leb-true (get_or field at 0) last_channel e, rw e at both)
    apart false e both = absurd (false≢true (rw e at both))

pub shown_channels_turn : (diagnostics field : List ℕ) (at : ℕ) → at < length field
    → channels_shown diagnostics (drop at field)
    ≡ (get_or field at 0 ∷ bytes32 (get_or diagnostics (get_or field at 0) 0)) ++ channels_shown diagnostics (drop (at + 1) field)
unfolding channels_shown
shown_channels_turn diagnostics field at h = ap (channels_shown diagnostics) (next_left field at h)

pub length_of_shown_channels : (diagnostics field : List ℕ) → length (channels_shown diagnostics field) ≡ 5 * length field
unfolding channels_shown
length_of_shown_channels diagnostics [] = refl
length_of_shown_channels diagnostics (channel ∷ field) = let h = length_of_shown_channels diagnostics field in omega arith

pub shown_channels_end : (diagnostics field : List ℕ) (at : ℕ) → length field ≤ at → channels_shown diagnostics (drop at field) ≡ []
unfolding channels_shown
shown_channels_end diagnostics field at h = simp (drop_of_length-le field h)
