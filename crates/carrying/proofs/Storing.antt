-- What a command that reads comes to after another has stored: the tests on the way are the same, and only the data shown differs. Assumes
-- nothing.
use mathlib.Core.Path.{◌≡◌, refl, sym, ap, ap₂, ◌∙◌}
use mathlib.Core.Bool.{Bool, true, false, cond}
use mathlib.Core.List.{List, ◌++◌}
use mathlib.Core.Logic.{◌⊎◌, inl, inr}
use Prim.Native.Nat.{ℕ, ◌+◌, ◌-◌, ◌≤◌}
use native.Mathlib.Omega.{arith}
use lib.ListN.{length, take, drop, length-drop, take-append-drop}
use lib.Seq.{length-take-le, take_at, drop_at}
use Rattle.memory.specs.Bytes.{stretch, stored, overlaid}
use Rattle.memory.proofs.Overlays.{what_is_read_after_a_store, a_range_before_a_store, a_range_after_a_store}
use Rattle.std.proofs.Common.{Option, Some, None}
use Rattle.carrying.specs.Ending.{Ending, at_place}
use Rattle.carrying.specs.Storing.{with_data, shown_after}

-- either way of a test
pub either_way_alike : {M : Type 0} (f : List ℕ → List ℕ) (b : Bool) (x y x' y' : Ending M) → (b ≡ true → x ≡ with_data f x') → (b ≡ false → y ≡ with_data f y')
    → cond b x y ≡ with_data f (cond b x' y')
either_way_alike f true x y x' y' p q = p refl
either_way_alike f false x y x' y' p q = q refl

-- wherever a range lies
pub at_any_place_alike : {M : Type 0} (f : List ℕ → List ℕ) (p : Option ℕ) (g g' : ℕ → Ending M) → ((at : ℕ) → p ≡ Some at → g at ≡ with_data f (g' at))
    → at_place p g ≡ with_data f (at_place p g')
at_any_place_alike f None g g' each = refl
at_any_place_alike f (Some at) g g' each = each at refl

-- what is shown behind an address, said by what was shown there before
pub shown_so : (head : ℕ) (field before after : List ℕ) (over : List ℕ → List ℕ) → head ≤ length field → after ≡ over before
    → take head field ++ after ≡ take head (take head field ++ before) ++ over (drop head (take head field ++ before))
shown_so head field before after over whole e =
    let size = length-take-le head field whole in
    ap (λ l. take head field ++ l) e
    ∙ ap₂ (λ h l. h ++ over l) (sym (take_at (take head field) before head size)) (sym (drop_at (take head field) before head size))

-- an address, and what stands at its place, in a memory that was stored in
pub shown_after_a_store : (head : ℕ) (field held : List ℕ) (at : ℕ) (bytes : List ℕ) (from count : ℕ) → head ≤ length field
    → at + length bytes ≤ length held → from + count ≤ length held
    → take head field ++ stretch from count (stored held at bytes) ≡ shown_after head at bytes from (take head field ++ stretch from count held)
shown_after_a_store head field held at bytes from count whole fits inside =
    shown_so head field (stretch from count held) (stretch from count (stored held at bytes)) (overlaid at bytes from) whole
    (what_is_read_after_a_store held at bytes fits count from inside)

-- and of a range that the store does not meet
pub shown_elsewhere : (head at : ℕ) (bytes : List ℕ) (from : ℕ) (reply : List ℕ) → (from + (length reply - head) ≤ at) ⊎ (at + length bytes ≤ from)
    → shown_after head at bytes from reply ≡ reply
shown_elsewhere head at bytes from reply (inl before) =
    let size = length-drop head reply in
    ap (λ l. take head reply ++ l) (a_range_before_a_store at bytes from (drop head reply) (omega arith)) ∙ take-append-drop head reply
shown_elsewhere head at bytes from reply (inr after) =
    ap (λ l. take head reply ++ l) (a_range_after_a_store at bytes from (drop head reply) after) ∙ take-append-drop head reply
