-- One turn and the end of each loop, as the loops' invariants want them. Assumes nothing.
use mathlib.Core.Path.{◌≡◌, sym, ap, ap₂, ◌∙◌}
use mathlib.Core.List.{List, ◌++◌, map}
use Prim.Native.Nat.{ℕ, suc, ◌+◌, ◌*◌, ◌/◌, ◌≤◌, ◌<◌, min, max}
use native.Mathlib.Nat.{le_refl, zero-add}
use native.Mathlib.Numerals.{add-one}
use native.Mathlib.Omega.{arith}
use borrow.Author.Tests.{lt-ltb, le-ltb}
use lib.Bits.{bit_xor}
use lib.ListN.{length, take, drop, set, get_or, length-take, drop_of_length-le, take-append-drop}
use lib.Seq.{take-suc-set, drop-set-lt, drop-cons, append_snoc}
use Rattle.crc.specs.Sum.{start, sum_of, carried}
use Rattle.crc.specs.Joining.{joined_of, join_all}
use Rattle.crc.proofs.Joining.{joining_is_associative, neutral_on_the_right}
use Rattle.blocks.proofs.Refreshing.{refreshed_split, untouched_stay}
use Rattle.blocks.specs.Fram.{block_size, block_start, block, block_part, refreshed, joined_blocks}

pub refresh_nothing : (fram : List ℕ) (at n : ℕ) (sums : List ℕ) → n ≡ 0 → sums ≡ refreshed fram at n 0 sums
refresh_nothing fram at n sums none =
    sym
    (untouched_stay fram at n 0 sums
    (λ i _. le-ltb (max at (block_start (0 + i))) (min (at + n) (block_start (suc (0 + i)))) (omega arith)))

pub refresh_start : (fram : List ℕ) (at n : ℕ) (sums : List ℕ)
    → take (at / 256) sums ++ refreshed fram at n (at / 256) (drop (at / 256) sums) ≡ refreshed fram at n 0 sums
refresh_start fram at n sums =
    sym
    (refreshed_split fram at n 0 (at / 256) sums
    ∙ ap₂ ◌++◌
    (untouched_stay fram at n 0 (take (at / 256) sums)
    (λ i h. le-ltb (max at (block_start (0 + i))) (min (at + n) (block_start (suc (0 + i)))) (omega (arith, length-take (at / 256) sums))))
    (rw zero-add))

pub refresh_turn : (fram : List ℕ) (at n k : ℕ) (sums : List ℕ) (sum : ℕ) → k < length sums → at / 256 ≤ k → k * 256 < at + n → 0 < n
    → sum ≡ sum_of (block fram k)
    → take (k + 1) (set sums k sum) ++ refreshed fram at n (k + 1) (drop (k + 1) (set sums k sum)) ≡ take k sums ++ refreshed fram at n k (drop k sums)
unfolding refreshed
refresh_turn fram at n k sums sum h first before some e =
    rw (add-one, take-suc-set sums k sum, drop-set-lt (suc k) sums k sum (le_refl (suc k)), drop-cons sums k 0, e)
    (append_snoc (take k sums) (sum_of (block fram k)) (refreshed fram at n (suc k) (drop (suc k) sums))
    ∙ rw (lt-ltb (max at (block_start k)) (min (at + n) (block_start (suc k))) (omega arith)))

pub refresh_end : (fram : List ℕ) (at n k : ℕ) (sums : List ℕ) → at + n ≤ k * 256 → sums ≡ take k sums ++ refreshed fram at n k (drop k sums)
refresh_end fram at n k sums h =
    sym
    (ap (λ rest. take k sums ++ rest)
    (untouched_stay fram at n k (drop k sums)
    (λ i _. le-ltb (max at (block_start (k + i))) (min (at + n) (block_start (suc (k + i)))) (omega arith)))
    ∙ take-append-drop k sums)

-- ---- joining whole blocks: the sum so far goes on over the blocks that are left

pub join_turn : (sums : List ℕ) (i sum crossed : ℕ) → i < length sums → crossed ≡ carried block_size (bit_xor sum start)
    → joined_blocks (bit_xor crossed (get_or sums i 0)) (drop (i + 1) sums) ≡ joined_blocks sum (drop i sums)
unfolding joined_blocks join_all joined_of
join_turn sums i sum crossed h e =
    rw (add-one, e, drop-cons sums i 0)
    (ap (λ p. p.sum)
    (joining_is_associative (record { sum = sum; len = 0 }) (block_part (get_or sums i 0)) (join_all (map block_part (drop (suc i) sums)))))

pub join_end : (sums : List ℕ) (i sum : ℕ) → length sums ≤ i → sum ≡ joined_blocks sum (drop i sums)
unfolding joined_blocks join_all
join_end sums i sum h = rw (drop_of_length-le sums h) (sym (ap (λ p. p.sum) (neutral_on_the_right (record { sum = sum; len = 0 }))))
