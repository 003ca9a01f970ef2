-- How far bytes stand alike, and what a store needs of it. Assumes nothing.
use mathlib.Core.Path.{◌≡◌, refl, sym, ap, ap₂, ◌∙◌}
use mathlib.Core.Bool.{Bool, true, false, cond, not, ◌&&◌, beq, false≢true}
use Prim.Native.Nat.{ℕ, zero, suc, ◌+◌, ◌-◌, ◌≤◌, ◌<◌, min}
use native.Mathlib.Omega.{arith}
use mathlib.Core.Logic.{◌⊎◌, inl, inr}
use Rattle.read_only.specs.declared.rows.Run.{Run}
use Rattle.read_only.specs.ReadOnly.{read_only}
use Rattle.memory.specs.Edac.{edac_size}
use Rattle.read_only.specs.Runs.{stands_to, run, run_of}
use Rattle.memory.proofs.Tests.{either_side}

pub both : (a b : Bool) → (a && b) ≡ true → (a ≡ true) × (b ≡ true)
both true b e = (refl, e)
both false b e = absurd (false≢true e)

same : (a b : Bool) → beq a b ≡ true → b ≡ a
same true true e = refl
same true false e = absurd (false≢true e)
same false true e = absurd (false≢true e)
same false false e = refl

beq_same : (a : Bool) → beq a a ≡ true
beq_same true = refl
beq_same false = refl

beq_other : (a : Bool) → beq a (not a) ≡ false
beq_other true = refl
beq_other false = refl

-- ---- what a run has

-- from a place on, up to where it ends, every byte stands so
stands_so : (so : Bool) (left from i : ℕ) → from ≤ i → i < stands_to so from left → read_only i ≡ so
unfolding stands_to
stands_so so zero from i low high = absurd (omega arith)
stands_so so (suc left) from i low high = apart (beq so (read_only from)) refl high (λ later below. stands_so so left (suc from) i later below)
  where
    apart : (b : Bool) → beq so (read_only from) ≡ b → i < cond b (stands_to so (suc from) left) from
        → (suc from ≤ i → i < stands_to so (suc from) left → read_only i ≡ so) → read_only i ≡ so
    apart false e below others = absurd (omega arith)
    apart true e below others =
        either_side (suc from) i (λ later. others later below)
        (λ here. let first : i ≡ from = omega arith in ap read_only first ∙ same so (read_only from) e)

stands_from : (so : Bool) (left from : ℕ) → from ≤ stands_to so from left
unfolding stands_to
stands_from so zero from = omega arith
stands_from so (suc left) from = apart (beq so (read_only from)) (stands_from so left (suc from))
  where
    apart : (b : Bool) → suc from ≤ stands_to so (suc from) left → from ≤ cond b (stands_to so (suc from) left) from
    apart true more = omega arith
    apart false more = omega arith

pub a_run_has_its_byte : (at : ℕ) → at < edac_size → at < (run_of at).end
unfolding run_of stands_to
a_run_has_its_byte at inside =
    let left : edac_size - at ≡ suc (edac_size - suc at) = omega arith in
    let more = stands_from (read_only at) (edac_size - suc at) (suc at) in
    let first : stands_to (read_only at) at (edac_size - at) ≡ stands_to (read_only at) (suc at) (edac_size - suc at)
    = ap (stands_to (read_only at) at) left ∙ ap (λ b. cond b (stands_to (read_only at) (suc at) (edac_size - suc at)) at) (beq_same (read_only at)) in
    omega arith

pub a_run_stands_alike : (at i : ℕ) → at ≤ i → i < (run_of at).end → read_only i ≡ (run_of at).read_only
unfolding run_of
a_run_stands_alike at i low high = stands_so (read_only at) (edac_size - at) at i low high

-- ---- where a run ends

-- whether each of `count` bytes from an address on stands so
abbrev pub are_all_so : Bool → ℕ → ℕ → Bool
are_all_so so from zero = true
are_all_so so from (suc count) = beq so (read_only from) && are_all_so so (suc from) count

pub all_so : (so : Bool) (count from : ℕ) → are_all_so so from count ≡ true → (i : ℕ) → from ≤ i → i < from + count → read_only i ≡ so
all_so so zero from e i low high = absurd (omega arith)
all_so so (suc count) from e i low high =
    let two = both (beq so (read_only from)) (are_all_so so (suc from) count) e in
    either_side (suc from) i (λ later. all_so so count (suc from) two.1 i later (omega arith))
    (λ here. let first : i ≡ from = omega arith in ap read_only first ∙ same so (read_only from) two.0)

-- A run of an address, told by what it is, where `says` is how bytes stand up to `end`: it has the address, up to where it stops bytes stand
-- as it says, and it stops at `end` or before a byte that stands otherwise.
pub record Stands (says : ℕ → Bool) (end at : ℕ) (r : Run) : Type 0 where
  pub past : at < r.end
  pub within : r.end ≤ end
  pub alike : (i : ℕ) → at ≤ i → i < r.end → says i ≡ r.read_only
  pub stops : (r.end ≡ end) ⊎ (says r.end ≡ not r.read_only)

it_stands_to : (so : Bool) (left from end : ℕ) → from + left ≡ edac_size → from ≤ end → end ≤ edac_size → ((i : ℕ) → from ≤ i → i < end → read_only i ≡ so)
    → (end ≡ edac_size) ⊎ (read_only end ≡ not so) → stands_to so from left ≡ end
unfolding stands_to
it_stands_to so zero from end all low high alike stop = omega arith
it_stands_to so (suc left) from end all low high alike stop =
    either_side (suc from) end
    (λ more.
    ap (λ b. cond b (stands_to so (suc from) left) from) (ap (beq so) (alike from (omega arith) more) ∙ beq_same so)
    ∙ it_stands_to so left (suc from) end (omega arith) more high (λ i above below. alike i (omega arith) below) stop)
    (λ ended. let here : from ≡ end = omega arith in there here stop)
  where
    there : from ≡ end → (end ≡ edac_size) ⊎ (read_only end ≡ not so) → cond (beq so (read_only from)) (stands_to so (suc from) left) from ≡ end
    there here (inl e) = absurd (omega arith)
    there here (inr e) = ap (λ b. cond b (stands_to so (suc from) left) from) (ap (λ (n : ℕ). beq so (read_only n)) here ∙ ap (beq so) e ∙ beq_other so) ∙ here

-- There is only one such run, `run_of`.
pub the_run : (at : ℕ) (r : Run) → Stands read_only edac_size at r → r ≡ run_of at
unfolding run_of
the_run at r s =
    let past = s.past in
    let within = s.within in
    let here = s.alike at (omega arith) past in
    sym (ap₂ run here (ap (λ b. stands_to b at (edac_size - at)) here ∙ it_stands_to r.read_only (edac_size - at) at r.end (omega arith) (omega arith) within s.alike s.stops))

-- the byte that was asked for
pub asked_of_a_run : (r : Run) (at : ℕ) → r ≡ run_of at → r.read_only ≡ read_only at
unfolding run_of
asked_of_a_run r at is = ap (λ (run : Run). run.read_only) is

-- ---- one step of a store: to the end of the run, or of the bytes

module _ (r : Run) (here : ℕ) (is : r ≡ run_of here) (inside : here < edac_size) where
  pub goes_past : here < r.end
  goes_past = let past = a_run_has_its_byte here inside in let same : r.end ≡ (run_of here).end = ap (λ (run : Run). run.end) is in omega arith

  pub step_alike : (at i n to : ℕ) → here ≡ at + i → i < n → to ≡ min (r.end - at) n → (k : ℕ) → at + i ≤ k → k < at + to → read_only k ≡ r.read_only
  step_alike at i n to e more t k low high =
      let past = goes_past in
      let same : r.end ≡ (run_of here).end = ap (λ (run : Run). run.end) is in
      a_run_stands_alike here k (omega arith) (omega arith) ∙ sym (ap (λ (run : Run). run.read_only) is)
