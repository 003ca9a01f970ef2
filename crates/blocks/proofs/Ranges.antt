-- The CRC of a range: what its blocks are joined to, and that under right sums it is the CRC of its bytes. Assumes nothing.
use mathlib.Core.Path.{◌≡◌, refl, sym, ap, ap₂, ◌∙◌}
use mathlib.Core.Bool.{false}
use mathlib.Core.List.{List, [], ◌∷◌, ◌++◌, map, append-nil}
use Prim.Native.Nat.{ℕ, zero, suc, ◌+◌, ◌-◌, ◌*◌, ◌/◌, ◌≤◌, ◌<◌, min, max}
use native.Mathlib.Nat.{add-zero, suc-add, add-suc, zero-lt-suc}
use native.Mathlib.Omega.{arith}
use borrow.Author.Tests.{le-leb, lt-leb}
use lib.Bits.{bit_xor}
use lib.ListN.{length, take, drop, get_or, length-drop}
use lib.Seq.{length-take-le}
use Rattle.crc.specs.declared.Part.{Part}
use Rattle.crc.specs.Sum.{start, sum_from, sum_of}
use Rattle.crc.specs.Joining.{part_of, joined_of, join_all}
use Rattle.crc.proofs.Xor.{xor_twice}
use Rattle.crc.proofs.Linear.{sum_from_linear}
use Rattle.crc.proofs.Joining.{joining_is_associative, joined_parts_are_the_part_of_both, join_all_append}
use Rattle.memory.specs.Bytes.{stretch}
use Rattle.blocks.specs.Fram.{block_size, block_start, block, block_part, fresh_from, fresh_sums, kept, covers, piece, enters, parts_from, range_sum, joined_blocks}
use Rattle.memory.proofs.Tests.{either_side}
use Rattle.memory.proofs.Stretches.{length_of_a_stretch, stretches_join}
use Rattle.blocks.proofs.Refreshing.{fresh_length, fresh_at}

-- ---- pieces

-- the bytes of a range up to a place, and from it on
pieces_meet : (held : List ℕ) (from to first mid end : ℕ) → from ≤ to → first ≤ mid → mid ≤ end
    → stretch (max from first) (min to mid - max from first) held ++ stretch (max from mid) (min to end - max from mid) held
    ≡ stretch (max from first) (min to end - max from first) held
pieces_meet held from to first mid end ordered h k =
    either_side mid from
    (λ late.
    let none : min to mid - max from first ≡ 0 = omega arith in
    let same : max from mid ≡ max from first = omega arith in
    rw (none, same))
    (λ early.
    either_side to mid
    (λ ended.
    let none : min to end - max from mid ≡ 0 = omega arith in
    let same : min to end ≡ min to mid = omega arith in
    ap (λ (n : ℕ). stretch (max from first) (min to mid - max from first) held ++ stretch (max from mid) n held) none
    ∙ append-nil (stretch (max from first) (min to mid - max from first) held)
    ∙ ap (λ (n : ℕ). stretch (max from first) (n - max from first) held) (sym same))
    (λ goes_on.
    let here : max from mid ≡ mid = omega arith in
    let there : min to mid ≡ mid = omega arith in
    rw (here, there) (stretches_join held (max from first) mid (min to end) (omega arith) (omega arith))))

module _ (fram : List ℕ) (from to : ℕ) where
  covered_or_not : {P : Type 0} (k : ℕ) → (from ≤ block_start k → block_start (suc k) ≤ to → P) → (covers from to k ≡ false → P) → P
  covered_or_not k covered not_covered =
      either_side from (block_start k)
      (λ early.
      either_side (block_start (suc k)) to
      (covered early)
      (λ late. not_covered (rw (le-leb from (block_start k) early, lt-leb (block_start (suc k)) to late))))
      (λ late. not_covered (rw (lt-leb from (block_start k) late)))

  -- a block that is not covered enters by its bytes
  enters_by_bytes : (k sum : ℕ) → (from ≤ block_start k → block_start (suc k) ≤ to → ⊥) → enters fram from to k sum ≡ part_of (piece fram from to k)
  enters_by_bytes k sum apart = covered_or_not k (λ early late. absurd (apart early late)) (λ e. rw e)

  enters_by_sum : (k sum : ℕ) → from ≤ block_start k → block_start (suc k) ≤ to → enters fram from to k sum ≡ block_part sum
  enters_by_sum k sum early late = rw (le-leb from (block_start k) early, le-leb (block_start (suc k)) to late)

  covered_piece : (k : ℕ) → from ≤ block_start k → block_start (suc k) ≤ to → piece fram from to k ≡ block fram k
  covered_piece k early late =
      let here : max from (block_start k) ≡ block_start k = omega arith in
      let size : min to (block_start (suc k)) - block_start k ≡ block_size = omega arith in
      rw (here, size)

  -- a block enters with a right sum as its bytes would
  enters_rightly : (k : ℕ) → block_start (suc k) ≤ length fram → enters fram from to k (sum_of (block fram k)) ≡ part_of (piece fram from to k)
  enters_rightly k fits =
      covered_or_not k
      (λ early late.
      enters_by_sum k (sum_of (block fram k)) early late
      ∙ ap (λ (n : ℕ). record { sum = sum_of (block fram k); len = n }) (sym (length_of_a_stretch fram (block_start k) block_size (omega arith)))
      ∙ ap part_of (sym (covered_piece k early late)))
      (λ e. rw e)

  -- parts that are those of the pieces are joined to the part of what they cover
  module _ (ordered : from ≤ to) where
    joined_pieces : (k : ℕ) (sums : List ℕ)
        → ((i : ℕ) → i < length sums → enters fram from to (k + i) (get_or sums i 0) ≡ part_of (piece fram from to (k + i)))
        → join_all (parts_from fram from to k sums)
        ≡ part_of (stretch (max from (block_start k)) (min to (block_start (k + length sums)) - max from (block_start k)) fram)
    unfolding join_all parts_from sum_of sum_from
    joined_pieces k [] right =
        let none : min to (block_start (k + 0)) - max from (block_start k) ≡ 0 = omega arith in
        rw none
    joined_pieces k (sum ∷ sums) right =
        let past : (k + suc (length sums)) * 256 ≡ (suc k + length sums) * 256 = omega arith in
        ap₂ joined_of
        (rw add-zero at (right 0 (zero-lt-suc (length sums))))
        (joined_pieces (suc k) sums (λ i h. rw (suc-add, ← add-suc) (right (suc i) (omega arith))))
        ∙ joined_parts_are_the_part_of_both (piece fram from to k)
        (stretch (max from (block_start (suc k))) (min to (block_start (suc k + length sums)) - max from (block_start (suc k))) fram)
        ∙ ap part_of
        (pieces_meet fram from to (block_start k) (block_start (suc k)) (block_start (suc k + length sums)) ordered (omega arith) (omega arith))
        ∙ ap (λ (n : ℕ). part_of (stretch (max from (block_start k)) (min to n - max from (block_start k)) fram)) (sym past)

    -- ---- the three stretches of a range

    -- blocks before the first that is covered
    joined_head : (sums : List ℕ) → block_start (length sums) < from + block_size → from ≤ block_start (length sums) → block_start (length sums) ≤ to
        → join_all (parts_from fram from to 0 sums) ≡ part_of (stretch from (block_start (length sums) - from) fram)
    joined_head sums near before after =
        let here : max from (block_start 0) ≡ from = omega arith in
        let there : min to (block_start (0 + length sums)) ≡ block_start (length sums) = omega arith in
        joined_pieces 0 sums (λ i h. enters_by_bytes (0 + i) (get_or sums i 0) (λ early late. omega arith)) ∙ rw (here, there)

    -- blocks that are covered
    joined_covered : (k : ℕ) (sums : List ℕ) → from ≤ block_start k → block_start (k + length sums) ≤ to
        → parts_from fram from to k sums ≡ map block_part sums
    unfolding parts_from
    joined_covered k [] early late = refl
    joined_covered k (sum ∷ sums) early late =
        ap₂ ◌∷◌ (enters_by_sum k sum early (omega arith)) (joined_covered (suc k) sums (omega arith) (omega arith))

    -- blocks after the last that is covered
    joined_tail : (k : ℕ) (sums : List ℕ) → from ≤ block_start k → block_start k ≤ to → to < block_start (suc k) → to ≤ block_start (k + length sums)
        → join_all (parts_from fram from to k sums) ≡ part_of (stretch (block_start k) (to - block_start k) fram)
    joined_tail k sums early before after fits =
        let here : max from (block_start k) ≡ block_start k = omega arith in
        let there : min to (block_start (k + length sums)) ≡ to = omega arith in
        joined_pieces k sums (λ i h. enters_by_bytes (k + i) (get_or sums i 0) (λ early late. omega arith)) ∙ rw (here, there)

    joined_range : (sums : List ℕ) → to ≤ block_start (length sums)
        → ((i : ℕ) → i < length sums → enters fram from to (0 + i) (get_or sums i 0) ≡ part_of (piece fram from to (0 + i)))
        → join_all (parts_from fram from to 0 sums) ≡ part_of (stretch from (to - from) fram)
    joined_range sums fits right =
        let here : max from (block_start 0) ≡ from = omega arith in
        let there : min to (block_start (0 + length sums)) ≡ to = omega arith in
        joined_pieces 0 sums right ∙ rw (here, there)

    parts_split : (k j : ℕ) (sums : List ℕ)
        → parts_from fram from to k sums ≡ parts_from fram from to k (take j sums) ++ parts_from fram from to (k + j) (drop j sums)
    unfolding parts_from
    parts_split k zero sums = rw add-zero
    parts_split k (suc j) [] = refl
    parts_split k (suc j) (sum ∷ sums) = ap₂ ◌∷◌ refl (parts_split (suc k) j sums ∙ rw (suc-add, ← add-suc))

    joined_split : (k j : ℕ) (sums : List ℕ)
        → join_all (parts_from fram from to k sums)
        ≡ joined_of (join_all (parts_from fram from to k (take j sums))) (join_all (parts_from fram from to (k + j) (drop j sums)))
    joined_split k j sums =
        ap join_all (parts_split k j sums) ∙ join_all_append (parts_from fram from to k (take j sums)) (parts_from fram from to (k + j) (drop j sums))

    -- a range that covers the blocks from `first` up to `end`
    joined_three : (sums : List ℕ) (first end : ℕ) → to ≤ block_start (length sums) → first ≡ (from + 255) / 256 → end ≡ to / 256 → first < end
        → join_all (parts_from fram from to 0 sums)
        ≡ joined_of (part_of (stretch from (block_start first - from) fram))
        (joined_of (join_all (map block_part (stretch first (end - first) sums))) (part_of (stretch (block_start end) (to - block_start end) fram)))
    joined_three sums first end fits ef ee some =
        let before : length (take first sums) ≡ first = length-take-le first sums (omega arith) in
        let covered : length (stretch first (end - first) sums) ≡ end - first = length_of_a_stretch sums first (end - first) (omega arith) in
        let there : 0 + first + (end - first) ≡ end = omega arith in
        joined_split 0 first sums
        ∙ ap₂ joined_of
        (joined_head (take first sums) (omega arith) (omega arith) (omega arith)
        ∙ ap (λ (n : ℕ). part_of (stretch from (block_start n - from) fram)) before)
        (joined_split (0 + first) (end - first) (drop first sums)
        ∙ ap₂ joined_of
        (ap join_all (joined_covered (0 + first) (stretch first (end - first) sums) (omega arith) (omega arith)))
        (joined_tail (0 + first + (end - first)) (drop (end - first) (drop first sums)) (omega arith) (omega arith) (omega arith)
        (simp length-drop (omega arith))
        ∙ ap (λ (n : ℕ). part_of (stretch (block_start n) (to - block_start n) fram)) there))

-- a sum that goes on over bytes is joined to their part
goes_on : (p : Part) (bytes : List ℕ) → sum_from p.sum bytes ≡ (joined_of p (part_of bytes)).sum
unfolding joined_of sum_of
goes_on p bytes =
    ap (λ (n : ℕ). sum_from n bytes) (sym (xor_twice p.sum start)) ∙ sum_from_linear (bit_xor p.sum start) start bytes

-- ---- the two ways through `range_sum`

pub a_range_that_covers_no_block : (fram sums : List ℕ) (from to : ℕ) → from ≤ to → to ≤ length fram → length fram ≡ block_start (length sums)
    → to / 256 ≤ (from + 255) / 256 → sum_of (stretch from (to - from) fram) ≡ range_sum (kept fram sums) from to
unfolding range_sum
a_range_that_covers_no_block fram sums from to ordered fits blocks none =
    sym
    (ap (λ p. p.sum)
    (joined_range fram from to ordered sums (omega arith)
    (λ i h. enters_by_bytes fram from to (0 + i) (get_or sums i 0) (λ early late. omega arith))))

pub a_range_that_covers_blocks : (fram sums : List ℕ) (from to first end head covered result : ℕ) → from ≤ to → to ≤ length fram
    → length fram ≡ block_start (length sums) → first ≡ (from + 255) / 256 → end ≡ to / 256 → first < end
    → head ≡ sum_of (stretch from (first * 256 - from) fram) → covered ≡ joined_blocks head (stretch first (end - first) sums)
    → result ≡ sum_from covered (stretch (end * 256) (to - end * 256) fram) → result ≡ range_sum (kept fram sums) from to
unfolding range_sum joined_blocks joined_of
a_range_that_covers_blocks fram sums from to first end head covered result ordered fits blocks ef ee some eh ec er =
    er
    ∙ ap (λ (n : ℕ). sum_from n (stretch (end * 256) (to - end * 256) fram))
    (ec ∙ ap (λ (n : ℕ). joined_blocks n (stretch first (end - first) sums)) eh)
    ∙ goes_on (joined_of (part_of (stretch from (first * 256 - from) fram)) (join_all (map block_part (stretch first (end - first) sums))))
    (stretch (end * 256) (to - end * 256) fram)
    ∙ ap (λ p. p.sum)
    (joining_is_associative
    (part_of (stretch from (first * 256 - from) fram))
    (join_all (map block_part (stretch first (end - first) sums)))
    (part_of (stretch (end * 256) (to - end * 256) fram))
    ∙ sym (joined_three fram from to ordered sums first end (omega arith) ef ee some))

-- ---- right sums

-- The CRC of a range under right sums is the CRC of its bytes, worked out afresh.
pub a_range_under_right_sums_is_fresh : (fram : List ℕ) (blocks from to : ℕ) → length fram ≡ block_start blocks → from ≤ to → to ≤ length fram
    → range_sum (kept fram (fresh_sums fram)) from to ≡ sum_of (stretch from (to - from) fram)
unfolding range_sum fresh_sums
a_range_under_right_sums_is_fresh fram blocks from to whole ordered fits =
    let number : length fram / block_size ≡ blocks = omega arith in
    rw number
    (ap (λ p. p.sum)
    (joined_range fram from to ordered (fresh_from 0 blocks fram) (rw fresh_length (omega arith))
    (λ i h.
    let inside : i < blocks = rw fresh_length at h in
    ap (enters fram from to (0 + i)) (fresh_at 0 blocks fram i inside) ∙ enters_rightly fram from to (0 + i) (omega arith))))
