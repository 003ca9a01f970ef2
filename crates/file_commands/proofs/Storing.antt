-- READ FILE after a WRITE FILE that was done: of each writable file the body that was written last, or what it showed before; of a read-only
-- file what it showed before. Assumes nothing.
use mathlib.Core.Path.{◌≡◌, refl, sym, ap, ap₂, ◌∙◌}
use mathlib.Core.Bool.{Bool, true, false, cond}
use mathlib.Core.List.{List, [], ◌∷◌, ◌++◌}
use Prim.Native.Nat.{ℕ, suc, ◌+◌, ◌≤◌, ◌<◌}
use native.Mathlib.Omega.{arith}
use borrow.Author.Tests.{le-ltb, ne_eqb}
use lib.Dec.{eqb, ltb}
use lib.ListN.{length, drop, get_or}
use Rattle.memory.specs.Bytes.{stretch}
use Rattle.read_only.specs.ReadOnly.{KeepsReadOnly}
use Rattle.memory.specs.Edac.{edac_size, body_size, shown_size, file_shown}
use Rattle.read_only.specs.Files.{file_stored, file_read_only, of_file}
use Rattle.memory.proofs.Stretches.{length_of_a_stretch}
use Rattle.read_only.proofs.Keeping.{kept_at_first, also_kept}
use Rattle.read_only.proofs.Files.{a_stored_file_keeps_read_only_bytes, neither, a_byte_of_another_file_stays, an_address_and_a_body, a_file_after_a_store}
use Rattle.field.specs.Reading.{Listed, ends, cut, item, is_whole}
use Rattle.field.proofs.Lists.{by_structures, list_ends}
use Rattle.carrying.specs.Ending.{done, refused}
use Rattle.carrying.specs.Storing.{with_data}
use Rattle.carrying.proofs.Storing.{either_way_alike}
use Rattle.file_commands.specs.ReadFile.{files_shown, files_width, read_file_of}
use Rattle.file_commands.specs.WriteFile.{listed, files_of, files_stored, judge_list_of, write_file_of}
use Rattle.file_commands.specs.Storing.{last_body, files_after, of_files}
use Rattle.file_commands.proofs.Lists.{at_least_one, listed_turn}
use Rattle.file_commands.proofs.Judging.{Fit, what_is_fit, a_fit_list_is_written, an_unfit_list_is_refused}
use Rattle.file_commands.proofs.Room.{listed_width}

-- what is known of a WRITE FILE that was done
pub record FilesWritten (room : ℕ) (edac field reply after : List ℕ) : Type 0 where
  pub fit : Fit room field
  pub shows : files_shown (files_stored edac (listed field)) (files_of (listed field)) ≡ reply
  pub stores : files_stored edac (listed field) ≡ after

pub a_write_file_that_was_done : (room : ℕ) (edac field reply after : List ℕ) → write_file_of room edac field ≡ done reply after → FilesWritten room edac field reply after
a_write_file_that_was_done room edac field reply after e = apart (judge_list_of room field) refl
  where
    apart : (b : Bool) → judge_list_of room field ≡ b → FilesWritten room edac field reply after
    apart true fit =
        let came : done (files_shown (files_stored edac (listed field)) (files_of (listed field))) (files_stored edac (listed field)) ≡ done reply after
        = sym (a_fit_list_is_written room edac field fit) ∙ e in
        record { fit = what_is_fit room field fit; shows = cc; stores = cc }
    apart false unfit =
        let came : refused ≡ done reply after = sym (an_unfit_list_is_refused room edac field unfit) ∙ e in
        let z : ◌≡◌ {A = ℕ} 0 1 = cc in
        absurd (omega arith)

-- ---- no list changes a read-only byte

pub files_keep_read_only_bytes : (edac : List ℕ) (l : Listed) → KeepsReadOnly edac (files_stored edac l)
files_keep_read_only_bytes edac ends = kept_at_first edac
files_keep_read_only_bytes edac cut = kept_at_first edac
files_keep_read_only_bytes edac (item file rest) =
    also_kept (a_stored_file_keeps_read_only_bytes edac (get_or file 0 0) (drop 1 file))
    (files_keep_read_only_bytes (file_stored edac (get_or file 0 0) (drop 1 file)) rest)

-- ---- what files show afterwards

same_either_way : (b : Bool) (l : List ℕ) → cond b l l ≡ l
same_either_way true l = refl
same_either_way false l = refl

-- the body that a file is left with by one that is stored, and then by the rest
and_then : (b : Bool) (had body : List ℕ) (rest : List ℕ → List ℕ) → cond b (cond b had body) (rest (cond b had body)) ≡ cond b had (rest body)
and_then true had body rest = refl
and_then false had body rest = refl

-- a list of files, stored from a place on
module _ (field : List ℕ) (bytes : (i : ℕ) → get_or field i 0 < 256) where
  abbrev left : List ℕ → ℕ → ℕ → List ℕ
  left edac file at =
      let had = drop 1 (file_shown edac file) in cond (file_read_only file) had (last_body file (listed (drop at field)) had)

  abbrev Shows : ℕ → Type 0
  Shows at = (edac : List ℕ) → length edac ≡ edac_size → (file : ℕ) → file < 256 → file_shown (files_stored edac (listed (drop at field))) file ≡ file ∷ left edac file at

  shows_at_the_end : (at : ℕ) → length field ≤ at → Shows at
  shows_at_the_end at past edac size file small =
      let had = drop 1 (file_shown edac file) in
      ap (λ l. file_shown (files_stored edac l) file) (list_ends shown_size field at past)
      ∙ an_address_and_a_body edac file
      ∙ sym
      (ap (λ l. file ∷ cond (file_read_only file) had (last_body file l had)) (list_ends shown_size field at past)
      ∙ ap (λ l. file ∷ l) (same_either_way (file_read_only file) had))

  shows_one_more : (at : ℕ) → at < length field → at + shown_size (get_or field at 0) ≤ length field → Shows (at + shown_size (get_or field at 0)) → Shows at
  shows_one_more at inside fits others edac size file small =
      let named = get_or field at 0 in
      let next = at + shown_size named in
      let had = drop 1 (file_shown edac file) in
      let body = stretch (at + 1) (body_size named) field in
      let long : length body ≡ body_size named = length_of_a_stretch field (at + 1) (body_size named) (omega arith) in
      let turn = listed_turn field at inside fits in
      let first = a_file_after_a_store edac named body file size (bytes at) small long in
      ap (λ l. file_shown (files_stored edac l) file) turn
      ∙ others (file_stored edac named body) ((a_stored_file_keeps_read_only_bytes edac named body).same_length ∙ size) file small
      ∙ ap (λ shown. file ∷ cond (file_read_only file) (drop 1 shown) (last_body file (listed (drop next field)) (drop 1 shown))) first
      ∙ ap (λ l. file ∷ l) (and_then (file_read_only file) had (cond (eqb named file) body had) (last_body file (listed (drop next field))))
      ∙ sym (ap (λ l. file ∷ cond (file_read_only file) had (last_body file l had)) turn)

  pub each_file_after : is_whole (listed field) ≡ true → Shows 0
  each_file_after whole = by_structures shown_size at_least_one field Shows shows_at_the_end shows_one_more 0 whole

  -- ---- and every byte that is of none of them stays

  abbrev Stays : ℕ → Type 0
  Stays at = (edac : List ℕ) (n : ℕ) → of_files (listed (drop at field)) n ≡ false → get_or (files_stored edac (listed (drop at field))) n 0 ≡ get_or edac n 0

  stays_at_the_end : (at : ℕ) → length field ≤ at → Stays at
  stays_at_the_end at past edac n none = ap (λ l. get_or (files_stored edac l) n 0) (list_ends shown_size field at past)

  stays_one_more : (at : ℕ) → at < length field → at + shown_size (get_or field at 0) ≤ length field → Stays (at + shown_size (get_or field at 0)) → Stays at
  stays_one_more at inside fits others edac n none =
      let named = get_or field at 0 in
      let rest = listed (drop (at + shown_size named) field) in
      let body = stretch (at + 1) (body_size named) field in
      let long : length body ≡ body_size named = length_of_a_stretch field (at + 1) (body_size named) (omega arith) in
      let turn = listed_turn field at inside fits in
      let two = neither (of_file named n) (of_files rest n) (sym (ap (λ l. of_files l n) turn) ∙ none) in
      ap (λ l. get_or (files_stored edac l) n 0) turn
      ∙ others (file_stored edac named body) n two.1
      ∙ a_byte_of_another_file_stays edac named body n long two.0

  pub a_byte_of_no_file_stays : is_whole (listed field) ≡ true → Stays 0
  a_byte_of_no_file_stays whole = by_structures shown_size at_least_one field Stays stays_at_the_end stays_one_more 0 whole

module _ (room : ℕ) (edac field reply after : List ℕ) (size : length edac ≡ edac_size) (bytes : (i : ℕ) → get_or field i 0 < 256)
    (came : write_file_of room edac field ≡ done reply after) where
  abbrev written : FilesWritten room edac field reply after
  written = a_write_file_that_was_done room edac field reply after came

  files_alike : (files : List ℕ) → ((i : ℕ) → get_or files i 0 < 256) → files_shown after files ≡ files_after (listed field) edac files
  unfolding files_shown
  files_alike [] small = refl
  files_alike (file ∷ files) small =
      ap₂ (λ shown others. shown ++ others)
      (ap (λ l. file_shown l file) (sym written.stores) ∙ each_file_after field bytes written.fit.whole edac size file (small 0))
      (files_alike files (λ i. small (suc i)))

  -- Any READ FILE comes to what it came to before, with the body written last for each writable file that was written.
  pub a_read_file_after_a_write_file : (asked : ℕ) (files : List ℕ) → ((i : ℕ) → get_or files i 0 < 256)
      → read_file_of asked after files ≡ with_data (λ _. files_after (listed field) edac files) (read_file_of asked edac files)
  unfolding read_file_of
  a_read_file_after_a_write_file asked files small =
      either_way_alike (λ _. files_after (listed field) edac files) (eqb (length files) 0) _ _ _ _ (λ _. refl)
      (λ _. either_way_alike (λ _. files_after (listed field) edac files) (ltb asked (files_width files)) _ _ _ _ (λ _. refl)
      (λ _. ap (λ l. done l tt) (files_alike files small)))

  none_but_none : (files : List ℕ) → 0 < files_width files → eqb (length files) 0 ≡ false
  unfolding files_width
  none_but_none [] some = absurd (omega arith)
  none_but_none (file ∷ files) some = ne_eqb (suc (length files)) 0 (λ e. omega arith)

  -- A READ FILE of the files that were written, where its reply has room, answers what the WRITE FILE answered.
  pub what_was_written_is_read_back : (asked : ℕ) → length field ≤ asked → read_file_of asked after (files_of (listed field)) ≡ done reply tt
  unfolding read_file_of
  what_was_written_is_read_back asked roomy =
      let width = listed_width field written.fit.whole in
      simp (
        none_but_none (files_of (listed field)) (omega (arith, written.fit.some)),
        le-ltb asked (files_width (files_of (listed field))) (omega arith),
      )
      (ap (λ l. done l tt) (ap (λ l. files_shown l (files_of (listed field))) (sym written.stores) ∙ written.shows))
