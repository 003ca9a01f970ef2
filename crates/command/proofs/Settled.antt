-- The contracts of INIT and of `carry_out` allow one outcome each: two that both meet it are equal. Assumes nothing.
use Prim.Native.Nat.{ℕ}
use mathlib.Core.Path.{◌≡◌, ap}
use mathlib.Core.List.{List}
use Rattle.carrying.specs.declared.Carried.{Carried}
use Rattle.carrying.specs.Ending.{left, leaves}
use Rattle.carrying.specs.Held.{Frams, Standing, standing, Held, held}
use Rattle.carrying.proofs.Settled.{a_handler_allows_one_outcome, carried_as_one}
use Rattle.command.specs.Init.{init_of}
use Rattle.command.specs.Command.{command_of}

pub init_allows_one_outcome
    : (now : Standing) (field reply : List ℕ) (r s : Carried) (l m diagnostics diagnostics' : List ℕ)
    → left r.ended l (standing r.mode r.locked diagnostics) ≡ leaves (init_of now field) reply now
    → left s.ended m (standing s.mode s.locked diagnostics') ≡ leaves (init_of now field) reply now
    → (r ≡ s) × (l ≡ m) × (diagnostics ≡ diagnostics')
init_allows_one_outcome now field reply r s l m diagnostics diagnostics' e f =
    let same = a_handler_allows_one_outcome (init_of now field) reply now r.ended s.ended l m _ _ e f in (
      carried_as_one r s same.0 (ap (λ (x : Standing). x.mode) same.2) (ap (λ (x : Standing). x.locked) same.2),
      same.1,
      ap (λ (x : Standing). x.diagnostics) same.2,
    )

pub carry_out_allows_one_outcome
    : (room code : ℕ) (field reply : List ℕ) (now : Held) (r s : Carried) (l m diagnostics diagnostics' edac edac' : List ℕ) (both both' : Frams)
    → left r.ended l (held (standing r.mode r.locked diagnostics) edac both) ≡ leaves (command_of room code now field) reply now
    → left s.ended m (held (standing s.mode s.locked diagnostics') edac' both') ≡ leaves (command_of room code now field) reply now
    → (r ≡ s) × (l ≡ m) × (diagnostics ≡ diagnostics') × (edac ≡ edac') × (both ≡ both')
carry_out_allows_one_outcome room code field reply now r s l m diagnostics diagnostics' edac edac' both both' e f =
    let same = a_handler_allows_one_outcome (command_of room code now field) reply now r.ended s.ended l m _ _ e f in (
      carried_as_one r s same.0 (ap (λ (h : Held). h.standing.mode) same.2) (ap (λ (h : Held). h.standing.locked) same.2),
      same.1,
      ap (λ (h : Held). h.standing.diagnostics) same.2,
      ap (λ (h : Held). h.edac) same.2,
      ap (λ (h : Held). h.frams) same.2,
    )
