-- The laws of joining, over all sums and all lengths: demand 3's last sentence. Assumes nothing.
use mathlib.Core.Path.{◌≡◌, refl, sym, ap, ap₂, ◌∙◌}
use mathlib.Core.List.{List, [], ◌∷◌, ◌++◌, map}
use mathlib.Core.Option.{some}
use mathlib.Core.Bool.{cond}
use Prim.Native.Nat.{ℕ, ◌+◌, ◌^◌, ◌≤◌, ◌<◌}
use native.Mathlib.Nat.{add-zero, zero-add, add_assoc, le_trans, le-add_right, le-add_left}
use native.Mathlib.Omega.{arith}
use borrow.Author.Tests.{le-leb, lt-leb}
use lib.Bits.{bit_xor, xor_lt}
use lib.Dec.{lit<}
use lib.ListN.{length, length-append}
use Rattle.crc.specs.declared.Part.{Part}
use Rattle.std.proofs.Common.{Result, Ok, Err}
use Rattle.std.specs.Result.{IsErr}
use Rattle.crc.specs.declared.JoinError.{JoinError}
use Rattle.crc.specs.declared.JoinError.TheVariants.{TooLong}
use Rattle.crc.specs.Sum.{start, byte_step, sum_from, sum_of, carried}
use Rattle.crc.specs.Joining.{part_of, neutral, joined_of, join_all, longest_part, joining_of, with_part, too_long, join_of, join_parts, Order, only, both, parts_of, joined_in, joining_in, all_bytes, power_of, product}
use Rattle.crc.proofs.Xor.{xor_assoc, xor_twice}
use Rattle.crc.proofs.Halving.{product_carries}
use Rattle.crc.proofs.Linear.{carried_linear, carried_zero, carried_add, sum_from_linear}

-- a part from its two numbers
part : ℕ → ℕ → Part
part s n = record { sum = s; len = n }

pub joining_is_associative : (a b c : Part) → joined_of (joined_of a b) c ≡ joined_of a (joined_of b c)
unfolding joined_of part
joining_is_associative a b c = ap₂ part sums (add_assoc a.len b.len c.len)
  where
    first : ℕ
    first = carried b.len (bit_xor a.sum start)

    sums : bit_xor (carried c.len (bit_xor (bit_xor first b.sum) start)) c.sum ≡ bit_xor (carried (b.len + c.len) (bit_xor a.sum start)) (bit_xor (carried c.len (bit_xor b.sum start)) c.sum)
    sums =
        ap (λ (x : ℕ). bit_xor (carried c.len x) c.sum) (xor_assoc first b.sum start)
        ∙ ap (λ (x : ℕ). bit_xor x c.sum) (carried_linear c.len first (bit_xor b.sum start))
        ∙ xor_assoc (carried c.len first) (carried c.len (bit_xor b.sum start)) c.sum
        ∙ ap (λ (x : ℕ). bit_xor x (bit_xor (carried c.len (bit_xor b.sum start)) c.sum))
        (sym (carried_add b.len c.len (bit_xor a.sum start)))

pub neutral_on_the_left : (a : Part) → joined_of neutral a ≡ a
unfolding joined_of part
neutral_on_the_left a =
    ap₂ part (ap (λ (x : ℕ). bit_xor x a.sum) (carried_zero a.len)) (zero-add a.len)

pub neutral_on_the_right : (a : Part) → joined_of a neutral ≡ a
unfolding joined_of part carried
neutral_on_the_right a = ap₂ part (xor_twice a.sum start) (add-zero a.len)

-- the sum of two lists, one after the other, goes on from the first
pub sum_from_append : (sum : ℕ) (xs ys : List ℕ) → sum_from sum (xs ++ ys) ≡ sum_from (sum_from sum xs) ys
unfolding sum_from
sum_from_append sum [] ys = refl
sum_from_append sum (x ∷ xs) ys = sum_from_append (byte_step sum x) xs ys

pub joined_parts_are_the_part_of_both : (xs ys : List ℕ) → joined_of (part_of xs) (part_of ys) ≡ part_of (xs ++ ys)
unfolding joined_of part sum_of
joined_parts_are_the_part_of_both xs ys =
    ap₂ part
    (sym
    (sum_from_append start xs ys
    ∙ ap (λ (x : ℕ). sum_from x ys) (sym (xor_twice (sum_from start xs) start))
    ∙ sum_from_linear (bit_xor (sum_from start xs) start) start ys))
    (sym (length-append xs ys))

-- ---- any order

pub join_all_append : (ps qs : List Part) → join_all (ps ++ qs) ≡ joined_of (join_all ps) (join_all qs)
unfolding join_all
join_all_append [] qs = sym (neutral_on_the_left (join_all qs))
join_all_append (p ∷ ps) qs =
    ap (joined_of p) (join_all_append ps qs) ∙ sym (joining_is_associative p (join_all ps) (join_all qs))

order_joins_all : (t : Order) → joined_in t ≡ join_all (parts_of t)
unfolding join_all joined_in parts_of
order_joins_all (only p) = sym (neutral_on_the_right p)
order_joins_all (both l r) = ap₂ joined_of (order_joins_all l) (order_joins_all r) ∙ sym (join_all_append (parts_of l) (parts_of r))

pub join_all_pieces : (pieces : List (List ℕ)) → join_all (map part_of pieces) ≡ part_of (all_bytes pieces)
unfolding join_all all_bytes sum_of sum_from
join_all_pieces [] = refl
join_all_pieces (piece ∷ pieces) =
    ap (joined_of (part_of piece)) (join_all_pieces pieces) ∙ joined_parts_are_the_part_of_both piece (all_bytes pieces)

-- Demand 3, last sentence. Whatever the pieces, empty ones too, and whichever neighbours are joined first, the sums and
-- lengths of the pieces alone give the part of the whole.
pub any_order_gives_the_whole : (pieces : List (List ℕ)) (t : Order) → parts_of t ≡ map part_of pieces → joined_in t ≡ part_of (all_bytes pieces)
any_order_gives_the_whole pieces t e = order_joins_all t ∙ ap join_all e ∙ join_all_pieces pieces

order_answers : (t : Order) → (joined_in t).len ≤ longest_part → joining_in t ≡ with_part (joined_in t)
unfolding joining_in joined_in join_of joined_of
order_answers (only p) h = refl
order_answers (both l r) h =
    ap₂ (λ a b. join_parts a.part b.part)
    (order_answers l (le_trans (le-add_right (joined_in l).len (joined_in r).len) h))
    (order_answers r (le_trans (le-add_left (joined_in r).len (joined_in l).len) h))
    ∙ ap (λ t. cond t (with_part (joined_of (joined_in l) (joined_in r))) too_long) (le-leb _ _ h)

-- The same of the answers of joining: where the whole is not too long, no joining on the way is refused.
pub any_order_answers_the_whole : (pieces : List (List ℕ)) (t : Order) → parts_of t ≡ map part_of pieces → length (all_bytes pieces) ≤ longest_part
    → joining_in t ≡ with_part (part_of (all_bytes pieces))
any_order_answers_the_whole pieces t e h =
    order_answers t (rw (any_order_gives_the_whole pieces t e) h) ∙ ap with_part (any_order_gives_the_whole pieces t e)

-- Two outcomes that the contract of `join` allows are equal.
pub join_has_one_outcome : (a b : Part) (r s : Result Part JoinError) → joining_of r ≡ join_of a b → joining_of s ≡ join_of a b → r ≡ s
join_has_one_outcome a b r s hr hs = same r s (hr ∙ sym hs)
  where
    same : (r s : Result Part JoinError) → joining_of r ≡ joining_of s → r ≡ s
    same (Ok p) (Ok q) e = let h : some p ≡ some q = ap (λ x. x.part) e in cc
    same (Ok p) (Err TooLong) e = let z : ◌≡◌ {A = ℕ} 0 36 = ap (λ x. x.number) e in absurd (omega arith)
    same (Err TooLong) (Ok q) e = let z : ◌≡◌ {A = ℕ} 36 0 = ap (λ x. x.number) e in absurd (omega arith)
    same (Err TooLong) (Err TooLong) e = refl

-- ---- the two ways through `join`

pub join_refuses : (a b : Part) (r : Result Part JoinError) → IsErr r → ¬ (a.len + b.len < 4294967296) → joining_of r ≡ join_of a b
unfolding join_of
join_refuses a b (Ok p) refused h = cc
join_refuses a b (Err TooLong) refused h = simp (lt-leb (a.len + b.len) longest_part (omega arith))

pub join_joins : (a b : Part) (power carried len : ℕ) → a.sum < 2 ^ 16 → a.len + b.len < 4294967296 → len ≡ a.len + b.len → power ≡ power_of b.len
    → carried ≡ product 16 (bit_xor a.sum start) power → with_part (record { sum = bit_xor carried b.sum; len = len }) ≡ join_of a b
unfolding join_of joined_of
join_joins a b power carried len small fits el ep ec =
    simp (le-leb (a.len + b.len) longest_part (omega arith))
    (ap₂ (λ (x n : ℕ). with_part (record { sum = bit_xor x b.sum; len = n }))
    (ec
    ∙ ap (product 16 (bit_xor a.sum start)) ep
    ∙ product_carries b.len (bit_xor a.sum start) (xor_lt 16 a.sum start small (lit< tt)))
    el)
