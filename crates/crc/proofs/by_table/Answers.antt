-- `crc::by_table` meets its contract. The invariant: the sum so far goes on over the bytes that are left. Assumes nothing.
use mathlib.Core.Path.{◌≡◌, ap, ◌∙◌}
use Prim.Native.Nat.{ℕ, ◌*◌, ◌/◌}
use native.Mathlib.Omega.{arith}
use lib.ListN.{length, drop}
use Rattle.crc.specs.Sum.{sum_from}
use Rattle.crc.proofs.Turns.{pairs_turn, one_left, none_left}
use Rattle.crc.proofs.by_table.Goals as goal

pub loop-low-preserved : goal.loop-low-preserved
loop-low-preserved c =
    pairs_turn c.args.bytes.now _ c.loop-low.low-index _ _ c.as_chunks.ensures.front (omega (arith, c.as_chunks.ensures.front_len)) c.step_two-sum.ensures
    ∙ c.loop-low.invariant

pub returns-in-len1 : goal.returns-in-len1
returns-in-len1 c =
    let bytes = c.args.bytes.now in
    let all : length bytes / 2 ≡ c.loop-low.low-index = omega (arith, c.as_chunks.ensures.front_len) in
    one_left _ _ _ c.in-len1.len_at_least c.in-len1.len_below c.step.ensures
    ∙ ap (sum_from c.loop-low.sum) (c.as_chunks.ensures.back ∙ ap (λ (n : ℕ). drop (n * 2) bytes) all)
    ∙ c.loop-low.invariant

pub returns-in_default : goal.returns-in_default
returns-in_default c =
    let bytes = c.args.bytes.now in
    let all : length bytes / 2 ≡ c.loop-low.low-index = omega (arith, c.as_chunks.ensures.front_len) in
    none_left _ _ c.in_default.len_below
    ∙ ap (sum_from c.loop-low.sum) (c.as_chunks.ensures.back ∙ ap (λ (n : ℕ). drop (n * 2) bytes) all)
    ∙ c.loop-low.invariant
