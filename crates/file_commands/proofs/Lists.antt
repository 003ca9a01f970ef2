-- One turn over each list of structures: what is left of the list from a place on, by the reader that comes back. Assumes nothing.
use mathlib.Core.Path.{◌≡◌, refl, sym, ap, ap₂, ◌∙◌}
use mathlib.Core.Bool.{true, false}
use mathlib.Core.List.{List, [], ◌∷◌, ◌++◌}
use Prim.Native.Nat.{ℕ, suc, ◌+◌, ◌-◌, ◌≤◌, ◌<◌}
use native.Mathlib.Numerals.{add-one}
use native.Mathlib.Omega.{arith}
use borrow.Author.Tests.{le-leb, lt-leb, le-ltb}
use lib.Dec.{leb}
use lib.ListN.{length, take, drop, get_or, drop_of_length-le}
use lib.Seq.{drop-cons}
use Rattle.memory.specs.Bytes.{stretch}
use Rattle.memory.specs.Edac.{body_size, shown_size, file_shown}
use Rattle.field.specs.Reading.{past_of, cut, item, listed_from, structures}
use Rattle.field.proofs.Lists.{list_turn, list_ends}
use Rattle.field.proofs.Places.{place_behind, a_structure_stands}
use Rattle.carrying.proofs.Room.{fits_in_the_rest}
use Rattle.file_commands.specs.ReadFile.{address_size, files_shown, files_width}
use Rattle.file_commands.specs.WriteFile.{listed, files_of}

next_left : (field : List ℕ) (at : ℕ) → at < length field → drop at field ≡ get_or field at 0 ∷ drop (at + 1) field
next_left field at h = rw (add-one, drop-cons field at 0)

-- ---- files one after the other, in structures of any size

-- the files from a place on: the one that stands there, and the rest
module _ (width : ℕ → ℕ) (some : (byte : ℕ) → 0 < width byte) (field left : List ℕ) (at size next : ℕ) (inside : at < length field)
    (wide : size ≡ width (get_or field at 0)) (same : left ≡ field) (on : next ≡ at + size) (fits : next ≤ length field) where
  files_turn : files_of (structures width (drop at field)) ≡ get_or field at 0 ∷ files_of (structures width (drop next left))
  files_turn =
      let more : size ≡ suc (size - 1) = omega (arith, some (get_or field at 0)) in
      ap files_of (a_structure_stands width some field at size inside wide left next same on fits)
      ∙ ap₂ (λ (n : ℕ) l. get_or (take n l) 0 0 ∷ files_of (structures width (drop next left))) more (next_left field at inside)

  pub files_width_turn : files_width (files_of (structures width (drop at field))) ≡ shown_size (get_or field at 0) + files_width (files_of (structures width (drop next left)))
  unfolding files_width
  files_width_turn = ap files_width files_turn

  pub files_shown_turn : (edac : List ℕ) → files_shown edac (files_of (structures width (drop at field)))
      ≡ file_shown edac (get_or field at 0) ++ files_shown edac (files_of (structures width (drop next left)))
  unfolding files_shown
  files_shown_turn edac = ap (files_shown edac) files_turn

pub no_files_left : (width : ℕ → ℕ) (edac field : List ℕ) (at : ℕ) → length field ≤ at → files_shown edac (files_of (structures width (drop at field))) ≡ []
unfolding files_shown
no_files_left width edac field at h = ap (λ l. files_shown edac (files_of l)) (list_ends width field at h)

pub no_files_in_a_cut_list : (width : ℕ → ℕ) (edac field : List ℕ) (at : ℕ) → structures width (drop at field) ≡ cut
    → files_shown edac (files_of (structures width (drop at field))) ≡ []
unfolding files_shown
no_files_in_a_cut_list width edac field at e = ap (λ l. files_shown edac (files_of l)) e

-- ---- READ FILE: a structure is one byte

-- so the files are the bytes
pub all_are_files : (field : List ℕ) → files_of (structures address_size field) ≡ field
unfolding listed_from
all_are_files [] = refl
all_are_files (file ∷ rest) = simp (le-ltb (suc (length rest)) 1 (omega arith)) (ap (λ l. file ∷ l) (all_are_files rest))

-- whether what is left fits in what is free, by the file that stands first
module _ (field : List ℕ) (at size free : ℕ) (inside : at < length field) (wide : size ≡ shown_size (get_or field at 0)) where
  width_turn : files_width (drop at field) ≡ size + files_width (drop (at + 1) field)
  unfolding files_width
  width_turn = ap files_width (next_left field at inside) ∙ ap (λ (n : ℕ). n + files_width (drop (at + 1) field)) (sym wide)

  pub fit_turn : (left : List ℕ) (next : ℕ) → left ≡ field → next ≡ past_of field at 1 → size ≤ free
      → leb (files_width (drop next left)) (free - size) ≡ leb (files_width (drop at field)) free
  fit_turn left next same on taken =
      let behind : next ≡ at + 1 = on ∙ place_behind field at 1 (omega arith) in
      ap (λ (n : ℕ). leb n (free - size)) (ap files_width (ap₂ (λ (n : ℕ) (l : List ℕ). drop n l) behind same))
      ∙ sym (fits_in_the_rest size (files_width (drop (at + 1) field)) free taken)
      ∙ ap (λ (n : ℕ). leb n free) (sym width_turn)

  pub the_first_does_not_fit : free < size → leb (files_width (drop at field)) free ≡ false
  the_first_does_not_fit lacks = let turn = width_turn in lt-leb (files_width (drop at field)) free (omega arith)

pub nothing_fits : (field : List ℕ) (at free : ℕ) → length field ≤ at → leb (files_width (drop at field)) free ≡ true
unfolding files_width
nothing_fits field at free h = simp (drop_of_length-le field h) (le-leb 0 free (omega arith))

-- ---- WRITE FILE

pub at_least_one : (file : ℕ) → 0 < shown_size file
at_least_one file = omega arith

-- the list from a place on: the file that stands there with its body, and the rest
pub listed_turn : (field : List ℕ) (at : ℕ) → at < length field → at + shown_size (get_or field at 0) ≤ length field
    → listed (drop at field)
    ≡ item (get_or field at 0 ∷ stretch (at + 1) (body_size (get_or field at 0)) field) (listed (drop (at + shown_size (get_or field at 0)) field))
listed_turn field at h fits =
    list_turn shown_size at_least_one field at h fits
    ∙ ap₂ (λ (n : ℕ) left. item (take n left) (listed (drop (at + shown_size (get_or field at 0)) field))) (add-one (body_size (get_or field at 0))) (next_left field at h)

-- the same by the reader that comes back, with the body as the code takes it
pub a_file_stands : (field left : List ℕ) (at size next : ℕ) → at < length field → size ≡ shown_size (get_or field at 0) → left ≡ field → next ≡ at + size → next ≤ length field
    → listed (drop at field) ≡ item (get_or field at 0 ∷ take (next - (at + 1)) (drop (at + 1) field)) (listed (drop next left))
a_file_stands field left at size next inside wide same on fits =
    let behind : at + shown_size (get_or field at 0) ≡ next = omega arith in
    let body : body_size (get_or field at 0) ≡ next - (at + 1) = omega arith in
    listed_turn field at inside (omega arith)
    ∙ ap₂ (λ (n : ℕ) l. item (get_or field at 0 ∷ stretch (at + 1) n field) (listed l)) body (ap₂ (λ (n : ℕ) (l : List ℕ). drop n l) behind (sym same))
