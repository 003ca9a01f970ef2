-- The contract of `store_list` allows one outcome: two outcomes that both meet it are equal. (Those of `judge_list` and the handlers equal a function of
-- what is lent.) Assumes nothing.
use mathlib.Core.Path.{◌≡◌, refl, sym, ap, ◌∙◌}
use mathlib.Core.List.{List}
use Prim.Native.Nat.{ℕ}
use native.Mathlib.Omega.{arith}
use Rattle.std.proofs.Common.{Result, Ok, Err}
use Rattle.file_commands.specs.declared.write_file.StoreError.{StoreError}
use Rattle.file_commands.specs.declared.write_file.StoreError.TheVariants.{Unfit, BadEdac}
use Rattle.file_commands.specs.WriteFile.{Storage, store_number_of, storage_of, store_list_of}

-- the number tells what storing comes to apart
one_case : (r s : Result (Unit {0}) StoreError) → store_number_of r ≡ store_number_of s → r ≡ s
one_case (Ok _) (Ok _) e = refl
one_case (Ok _) (Err Unfit) e = absurd (omega (arith, e))
one_case (Ok _) (Err BadEdac) e = absurd (omega (arith, e))
one_case (Err Unfit) (Ok _) e = absurd (omega (arith, e))
one_case (Err Unfit) (Err Unfit) e = refl
one_case (Err Unfit) (Err BadEdac) e = absurd (omega (arith, e))
one_case (Err BadEdac) (Ok _) e = absurd (omega (arith, e))
one_case (Err BadEdac) (Err Unfit) e = absurd (omega (arith, e))
one_case (Err BadEdac) (Err BadEdac) e = refl

pub store_list_allows_one_outcome : (limit : ℕ) (edac list : List ℕ) (r s : Result (Unit {0}) StoreError) (l m : List ℕ)
    → storage_of r l ≡ store_list_of limit edac list → storage_of s m ≡ store_list_of limit edac list → (r ≡ s) × (l ≡ m)
store_list_allows_one_outcome limit edac list r s l m a b =
    let same = a ∙ sym b in
    (one_case r s (ap (λ (p : Storage). p.answer) same), ap (λ (p : Storage). p.edac) same)
