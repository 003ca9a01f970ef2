-- How far EDAC bytes stand alike, all read-only or all writable: what a store asks for, so that it need not ask for each byte.
-- Assumes nothing.
use Rattle.std.specs.Prelude.{ℕ, zero, suc, ◌-◌, Bool, cond}
use Rattle.std.specs.Bool.{beq}
use Rattle.read_only.specs.ReadOnly.{read_only}
use Rattle.memory.specs.Edac.{edac_size}
use Rattle.read_only.specs.declared.rows.Run.{Run}

-- Of the `left` bytes from `from` on, the address of the first that is not read-only, or, where `so` is false, of the first that is; or the
-- address after them.
unfoldable pub stands_to : Bool → ℕ → ℕ → ℕ
stands_to so from zero = from
stands_to so from (suc left) = cond (beq so (read_only from)) (stands_to so (suc from) left) from

abbrev pub run : Bool → ℕ → Run
run so end = record { read_only = so; end = end }

-- Of an address in EDAC memory: whether its byte is read-only, and the first address behind it whose byte is not as it is, or the end of
-- memory.
unfoldable pub run_of : ℕ → Run
run_of at = run (read_only at) (stands_to (read_only at) at (edac_size - at))
