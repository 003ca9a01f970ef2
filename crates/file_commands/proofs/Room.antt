-- The replies to READ FILE and WRITE FILE have room. Assumes nothing.
use mathlib.Core.Path.{◌≡◌, ap, ◌∙◌}
use mathlib.Core.Bool.{true}
use mathlib.Core.List.{List, [], ◌∷◌}
use Prim.Native.Nat.{ℕ, zero, suc, ◌-◌, ◌≤◌}
use native.Mathlib.Omega.{arith}
use borrow.Author.Tests.{ltb-false}
use lib.Dec.{eqb, ltb}
use lib.ListN.{length, drop, length-append}
use Rattle.memory.specs.Edac.{byte_address, body_size, shown_size, file_shown}
use Rattle.field.specs.Reading.{is_whole}
use Rattle.field.proofs.Lists.{by_structures, list_ends}
use Rattle.carrying.specs.Ending.{done, refused}
use Rattle.carrying.proofs.Room.{either_way, Roomy, part}
use Rattle.file_commands.specs.ReadFile.{files_shown, files_width, read_file_of}
use Rattle.file_commands.specs.WriteFile.{listed, files_of, files_stored, judge_list_of, write_file_of}
use Rattle.file_commands.proofs.Lists.{at_least_one, listed_turn}
use Rattle.file_commands.proofs.Judging.{Fit, what_is_fit}

the_file_shown : (edac : List ℕ) (file : ℕ) → length (file_shown edac file) ≤ shown_size file
unfolding file_shown body_size
the_file_shown edac zero = let h = part 4 (drop 0 edac) in omega arith
the_file_shown edac (suc n) = let h = part 4 (drop (byte_address (suc n)) edac) in omega arith

the_files_shown : (edac files : List ℕ) → length (files_shown edac files) ≤ files_width files
unfolding files_shown files_width
the_files_shown edac [] = omega arith
the_files_shown edac (file ∷ files) =
    let here = the_file_shown edac file in
    let more = the_files_shown edac files in
    let both = length-append (file_shown edac file) (files_shown edac files) in
    omega arith

-- the files of a whole list are shown in as many bytes as the list has
pub listed_width : (field : List ℕ) → is_whole (listed field) ≡ true → files_width (files_of (listed field)) ≡ length field
unfolding files_width
listed_width field all =
    by_structures shown_size at_least_one field (λ at. files_width (files_of (listed (drop at field))) ≡ length field - at)
    (λ at h. ap (λ l. files_width (files_of l)) (list_ends shown_size field at h) ∙ omega arith)
    (λ at h fits more. ap (λ l. files_width (files_of l)) (listed_turn field at h fits) ∙ omega arith)
    0 all
    ∙ omega arith

module _ (room : ℕ) (edac field : List ℕ) where
  pub read_file_fits : Roomy room (read_file_of room edac field)
  unfolding read_file_of
  read_file_fits =
      either_way (Roomy room) (eqb (length field) 0) refused _ (λ _. omega arith)
      (λ _. either_way (Roomy room) (ltb room (files_width field)) refused (done (files_shown edac field) tt) (λ _. omega arith)
      (λ e. shown (ltb-false room (files_width field) e)))
    where
      shown : files_width field ≤ room → length (files_shown edac field) ≤ room
      shown h = let e = the_files_shown edac field in omega arith

  pub write_file_fits : Roomy room (write_file_of room edac field)
  unfolding write_file_of
  write_file_fits =
      either_way (Roomy room) (judge_list_of room field) _ refused (λ e. shown (what_is_fit room field e)) (λ _. omega arith)
    where
      shown : Fit room field → length (files_shown (files_stored edac (listed field)) (files_of (listed field))) ≤ room
      shown fit =
          let here = the_files_shown (files_stored edac (listed field)) (files_of (listed field)) in
          let width = listed_width field fit.whole in
          omega (arith, fit.short)
