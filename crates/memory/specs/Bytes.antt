-- Stretches of bytes and what a store of them leaves. Assumes nothing.
use Rattle.std.specs.Prelude.{ℕ, suc, ◌+◌, ◌-◌, cond, ◌&&◌, List, [], ◌∷◌, ◌++◌, leb, ltb, length, take, drop, get_or}

-- `count` bytes from `at` on.
abbrev pub stretch : ℕ → ℕ → List ℕ → List ℕ
stretch at count held = take count (drop at held)

-- `bytes` stored from `at` on; every other byte stays.
unfoldable pub stored : List ℕ → ℕ → List ℕ → List ℕ
stored held at bytes = take at held ++ bytes ++ drop (at + length bytes) held

-- `bytes` as the written first part of a buffer; every other byte stays.
unfoldable pub begun : List ℕ → List ℕ → List ℕ
begun buffer bytes = bytes ++ drop (length bytes) buffer

-- What stands from `from` on after `bytes` were stored from `at` on, byte for byte: the one that was stored there, or the one that
-- stood there before.
unfoldable pub overlaid : ℕ → List ℕ → ℕ → List ℕ → List ℕ
overlaid at bytes from [] = []
overlaid at bytes from (before ∷ rest) =
    cond (leb at from && ltb from (at + length bytes)) (get_or bytes (from - at) 0) before ∷ overlaid at bytes (suc from) rest
