-- Kept sums, place by place: which a store refreshes, and that right sums stay right. Assumes nothing.
use mathlib.Core.Path.{◌≡◌, refl, sym, ap, ap₂, ◌∙◌}
use mathlib.Core.Bool.{Bool, true, false, cond}
use mathlib.Core.List.{List, [], ◌∷◌, ◌++◌}
use Prim.Native.Nat.{ℕ, zero, suc, ◌+◌, ◌/◌, ◌≤◌, ◌<◌, min, max}
use native.Mathlib.Nat.{add-zero, zero-add, suc-add, add-suc, not-suc-le-zero, le_of_suc-le-suc}
use native.Mathlib.Omega.{arith}
use borrow.Author.Tests.{lt-ltb, ltb-false}
use lib.ListN.{length, take, drop, get_or}
use lib.Seq.{ext_get_or}
use Rattle.crc.specs.Sum.{sum_of}
use Rattle.memory.specs.Bytes.{stored}
use Rattle.blocks.specs.Fram.{block_size, block_start, block, touches, fresh_from, fresh_sums, refreshed, Kept, kept, store_of}
use Rattle.memory.proofs.Tests.{either_side}
use Rattle.memory.proofs.Stretches.{a_store_keeps_the_length, nothing_stored, stretch_before_a_store, stretch_after_a_store}

-- ---- place by place

refreshed_length : (fram : List ℕ) (at n k : ℕ) (sums : List ℕ) → length (refreshed fram at n k sums) ≡ length sums
unfolding refreshed
refreshed_length fram at n k [] = refl
refreshed_length fram at n k (sum ∷ sums) = ap suc (refreshed_length fram at n (suc k) sums)

refreshed_at : (fram : List ℕ) (at n k : ℕ) (sums : List ℕ) (i : ℕ) → i < length sums
    → get_or (refreshed fram at n k sums) i 0 ≡ cond (touches at n (k + i)) (sum_of (block fram (k + i))) (get_or sums i 0)
unfolding refreshed
refreshed_at fram at n k [] i h = absurd (not-suc-le-zero h)
refreshed_at fram at n k (sum ∷ sums) zero h = rw add-zero
refreshed_at fram at n k (sum ∷ sums) (suc i) h = rw (add-suc, ← suc-add) (refreshed_at fram at n (suc k) sums i (le_of_suc-le-suc h))

pub refreshed_split : (fram : List ℕ) (at n k j : ℕ) (sums : List ℕ)
    → refreshed fram at n k sums ≡ refreshed fram at n k (take j sums) ++ refreshed fram at n (k + j) (drop j sums)
unfolding refreshed
refreshed_split fram at n k zero sums = rw add-zero
refreshed_split fram at n k (suc j) [] = refl
refreshed_split fram at n k (suc j) (sum ∷ sums) =
    ap₂ ◌∷◌ refl (refreshed_split fram at n (suc k) j sums ∙ rw (suc-add, ← add-suc))

-- the sums of blocks that no byte touches stay
pub untouched_stay : (fram : List ℕ) (at n k : ℕ) (sums : List ℕ) → ((i : ℕ) → i < length sums → touches at n (k + i) ≡ false)
    → refreshed fram at n k sums ≡ sums
untouched_stay fram at n k sums untouched =
    ext_get_or 0 (refreshed fram at n k sums) sums (refreshed_length fram at n k sums)
    (λ i h.
    let inside : i < length sums = rw refreshed_length at h in
    refreshed_at fram at n k sums i inside ∙ rw (untouched i inside))

pub fresh_length : (k n : ℕ) (fram : List ℕ) → length (fresh_from k n fram) ≡ n
unfolding fresh_from
fresh_length k zero fram = refl
fresh_length k (suc n) fram = ap suc (fresh_length (suc k) n fram)

pub fresh_at : (k n : ℕ) (fram : List ℕ) (i : ℕ) → i < n → get_or (fresh_from k n fram) i 0 ≡ sum_of (block fram (k + i))
unfolding fresh_from
fresh_at k zero fram i h = absurd (not-suc-le-zero h)
fresh_at k (suc n) fram zero h = rw add-zero
fresh_at k (suc n) fram (suc i) h = rw (add-suc, ← suc-add) (fresh_at (suc k) n fram i (le_of_suc-le-suc h))

-- ---- what a store leaves

pub put_and_refreshed : (fram sums : List ℕ) (at : ℕ) (bytes fram_now sums_now : List ℕ) → fram_now ≡ stored fram at bytes
    → sums_now ≡ refreshed fram_now at (length bytes) 0 sums → kept fram_now sums_now ≡ store_of (kept fram sums) at bytes
unfolding store_of
put_and_refreshed fram sums at bytes fram_now sums_now ef es =
    ap₂ kept ef (es ∙ ap (λ held. refreshed held at (length bytes) 0 sums) ef)

pub a_store_keeps_the_memory's_length : (memory : Kept) (at : ℕ) (bytes : List ℕ) → at + length bytes ≤ length memory.fram
    → length (store_of memory at bytes).fram ≡ length memory.fram
unfolding store_of
a_store_keeps_the_memory's_length memory at bytes fits = a_store_keeps_the_length memory.fram at bytes fits

-- After a store every touched sum is the CRC of its block as it then stands.
pub a_touched_sum_is_right : (memory : Kept) (at : ℕ) (bytes : List ℕ) (k : ℕ) → k < length memory.sums
    → touches at (length bytes) k ≡ true → get_or (store_of memory at bytes).sums k 0 ≡ sum_of (block (store_of memory at bytes).fram k)
unfolding store_of
a_touched_sum_is_right memory at bytes k h touched =
    refreshed_at (stored memory.fram at bytes) at (length bytes) 0 memory.sums k h ∙ rw (zero-add, touched)

-- And every other sum is as it was.
pub any_other_sum_is_unchanged : (memory : Kept) (at : ℕ) (bytes : List ℕ) (k : ℕ) → k < length memory.sums
    → touches at (length bytes) k ≡ false → get_or (store_of memory at bytes).sums k 0 ≡ get_or memory.sums k 0
unfolding store_of
any_other_sum_is_unchanged memory at bytes k h untouched =
    refreshed_at (stored memory.fram at bytes) at (length bytes) 0 memory.sums k h ∙ rw (zero-add, untouched)

-- a block that no stored byte touches stays
block_kept : (fram : List ℕ) (at : ℕ) (bytes : List ℕ) (k : ℕ) → at + length bytes ≤ length fram → touches at (length bytes) k ≡ false
    → block (stored fram at bytes) k ≡ block fram k
block_kept fram at [] k fits untouched = ap (λ held. block held k) (nothing_stored fram at)
block_kept fram at (byte ∷ bytes) k fits untouched =
    either_side (at + length (byte ∷ bytes)) (block_start k)
    (stretch_after_a_store fram at (byte ∷ bytes) (block_start k) block_size (omega arith))
    (λ early.
    stretch_before_a_store fram at (byte ∷ bytes) (block_start k) block_size (omega arith)
    (omega (arith, ltb-false (max at (block_start k)) (min (at + length (byte ∷ bytes)) (block_start (suc k))) untouched)))

-- a sum that was right is right after a store, whether it is touched or not
right_after : (fram : List ℕ) (at : ℕ) (bytes : List ℕ) (k : ℕ) → at + length bytes ≤ length fram
    → cond (touches at (length bytes) k) (sum_of (block (stored fram at bytes) k)) (sum_of (block fram k)) ≡ sum_of (block (stored fram at bytes) k)
right_after fram at bytes k fits = cases (touches at (length bytes) k) refl
  where
    cases : (touched : Bool) → touches at (length bytes) k ≡ touched
        → cond touched (sum_of (block (stored fram at bytes) k)) (sum_of (block fram k)) ≡ sum_of (block (stored fram at bytes) k)
    cases true e = refl
    cases false e = ap sum_of (sym (block_kept fram at bytes k fits e))

-- Right sums are right after a store.
pub right_sums_stay_right : (fram : List ℕ) (at : ℕ) (bytes : List ℕ) → at + length bytes ≤ length fram
    → (store_of (kept fram (fresh_sums fram)) at bytes).sums ≡ fresh_sums (store_of (kept fram (fresh_sums fram)) at bytes).fram
unfolding store_of fresh_sums
right_sums_stay_right fram at bytes fits =
    rw (a_store_keeps_the_length fram at bytes)
    (ext_get_or 0 (refreshed (stored fram at bytes) at (length bytes) 0 (fresh_from 0 (length fram / block_size) fram))
    (fresh_from 0 (length fram / block_size) (stored fram at bytes))
    (refreshed_length (stored fram at bytes) at (length bytes) 0 (fresh_from 0 (length fram / block_size) fram)
    ∙ fresh_length 0 (length fram / block_size) fram
    ∙ sym (fresh_length 0 (length fram / block_size) (stored fram at bytes)))
    (λ i h.
    let kept_sum : i < length (fresh_from 0 (length fram / block_size) fram) = rw refreshed_length at h in
    let inside : i < length fram / block_size = rw fresh_length at kept_sum in
    refreshed_at (stored fram at bytes) at (length bytes) 0 (fresh_from 0 (length fram / block_size) fram) i kept_sum
    ∙ ap (cond (touches at (length bytes) (0 + i)) (sum_of (block (stored fram at bytes) (0 + i))))
    (fresh_at 0 (length fram / block_size) fram i inside)
    ∙ right_after fram at bytes (0 + i) fits
    ∙ sym (fresh_at 0 (length fram / block_size) (stored fram at bytes) i inside)))

-- ---- the whole memory touches every block

pub all_refreshed_is_fresh : (fram : List ℕ) (sums : List ℕ) → length fram ≡ block_start (length sums)
    → refreshed fram 0 (length fram) 0 sums ≡ fresh_sums fram
unfolding fresh_sums
all_refreshed_is_fresh fram sums e =
    let blocks : length fram / block_size ≡ length sums = omega arith in
    rw blocks
    (ext_get_or 0 (refreshed fram 0 (length fram) 0 sums) (fresh_from 0 (length sums) fram)
    (refreshed_length fram 0 (length fram) 0 sums ∙ sym (fresh_length 0 (length sums) fram))
    (λ i h.
    let inside : i < length sums = rw refreshed_length at h in
    refreshed_at fram 0 (length fram) 0 sums i inside
    ∙ rw (lt-ltb (max 0 (block_start (0 + i))) (min (0 + length fram) (block_start (suc (0 + i)))) (omega arith))
    (sym (fresh_at 0 (length sums) fram i inside))))
