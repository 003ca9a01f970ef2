-- A handler's contract allows one outcome: two that both meet it are equal. Assumes nothing.
use Prim.Native.Nat.{ℕ}
use mathlib.Core.Path.{◌≡◌, sym, ◌∙◌, ap, ap₂}
use mathlib.Core.List.{List}
use Rattle.carrying.specs.declared.Carried.{Carried}
use Rattle.carrying.specs.Ending.{Ended, Ending, Left, left, leaves}

-- for the definition `o` of any command, the reply buffer and the memory that were lent to its handler
pub a_handler_allows_one_outcome
    : {M : Type 0} (o : Ending M) (reply : List ℕ) (before : M) (r s : Ended) (l m : List ℕ) (a b : M)
    → left r l a ≡ leaves o reply before
    → left s m b ≡ leaves o reply before
    → (r ≡ s) × (l ≡ m) × (a ≡ b)
a_handler_allows_one_outcome {M} o reply before r s l m a b e f =
    let same = e ∙ sym f in
    (ap (λ (x : Left M). x.ended) same, ap (λ (x : Left M). x.reply) same, ap (λ (x : Left M). x.memory) same)

-- what a command came to, with the mode and the lock afterwards, is one value
pub carried_as_one : (r s : Carried) → r.ended ≡ s.ended → r.mode ≡ s.mode → r.locked ≡ s.locked → r ≡ s
carried_as_one r s e f g =
    ap₂ (λ ended mode. record { ended = ended; mode = mode; locked = r.locked }) e f
    ∙ ap (λ locked. record { ended = s.ended; mode = s.mode; locked = locked }) g
