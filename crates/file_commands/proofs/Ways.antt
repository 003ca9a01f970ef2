-- What WRITE FILE comes to, by what storing the list answered. Assumes nothing.
use mathlib.Core.Path.{◌≡◌, refl, sym, ap, ◌∙◌, subst}
use mathlib.Core.List.{List}
use Prim.Native.Nat.{ℕ, ◌≤◌}
use native.Mathlib.Omega.{arith}
use lib.ListN.{length}
use Rattle.std.proofs.Common.{Result, Ok}
use Rattle.memory.specs.Bytes.{begun}
use Rattle.carrying.specs.Ending.{left, leaves}
use Rattle.carrying.proofs.Writing.{is_done_storing}
use Rattle.file_commands.specs.declared.write_file.StoreError.{StoreError}
use Rattle.file_commands.specs.ReadFile.{files_shown, files_width}
use Rattle.file_commands.specs.WriteFile.{listed, files_of, storage_of, store_list_of, StoringLeaves, write_file_of}
use Rattle.file_commands.proofs.Room.{listed_width}
use Rattle.file_commands.proofs.Judging.{what_is_fit, what_storing_leaves, a_fit_list_is_written}

-- the room that a list has which was stored
pub room_for_the_list : (room : ℕ) (edac field reply memory : List ℕ) → storage_of (Ok tt) memory ≡ store_list_of room edac field → room ≤ length reply
    → files_width (files_of (listed field)) ≤ length reply
room_for_the_list room edac field reply memory said roomy =
    let leaves = subst (StoringLeaves room edac field) (sym said) (what_storing_leaves room edac field) in
    let fit = what_is_fit room field (leaves.stored refl).1 in
    omega (arith, fit.short, listed_width field fit.whole)

-- a list that was stored is shown: the command is done, with memory as storing left it
pub files_are_written : (room : ℕ) (edac field reply : List ℕ) (storing : Result (Unit {0}) StoreError) (memory : List ℕ)
    → storage_of storing memory ≡ store_list_of room edac field → storing ≡ Ok tt → (n : ℕ) (buffer : List ℕ)
    → (n ≡ length (files_shown memory (files_of (listed field)))) × (buffer ≡ begun reply (files_shown memory (files_of (listed field))))
    → left (Ok n) buffer memory ≡ leaves (write_file_of room edac field) reply edac
files_are_written room edac field reply storing memory said is n buffer shown =
    let told = subst (StoringLeaves room edac field) (sym (ap (λ s. storage_of s memory) (sym is) ∙ said)) (what_storing_leaves room edac field) in
    let so = told.stored refl in
    is_done_storing (write_file_of room edac field) _ buffer reply n memory _ edac
    (a_fit_list_is_written room edac field so.1)
    so.2
    (sym (shown.0 ∙ ap (λ l. length (files_shown l (files_of (listed field)))) so.2))
    (shown.1 ∙ ap (λ l. begun reply (files_shown l (files_of (listed field)))) so.2)
