-- READ FILE 0x07 (01, "Commands"; ICD 11.11). Assumes nothing.
use Rattle.std.specs.Prelude.{ℕ, ◌+◌, cond, List, [], ◌∷◌, ◌++◌, eqb, ltb, length}
use Rattle.memory.specs.Edac.{shown_size, file_shown}
use Rattle.carrying.specs.Ending.{Ending, done, refused}

-- The files of a list, one after the other.
unfoldable pub files_shown : List ℕ → List ℕ → List ℕ
files_shown edac [] = []
files_shown edac (file ∷ files) = file_shown edac file ++ files_shown edac files

-- How many bytes the reply has.
unfoldable pub files_width : List ℕ → ℕ
files_width [] = 0
files_width (file ∷ files) = shown_size file + files_width files

-- A list of file addresses: of each file one byte.
abbrev pub address_size : ℕ → ℕ
address_size file = 1

-- An empty list is refused, and so is one whose reply has no room.
unfoldable pub read_file_of : ℕ → List ℕ → List ℕ → Ending (Unit {0})
read_file_of room edac field =
    cond (eqb (length field) 0) refused
    (cond (ltb room (files_width field)) refused (done (files_shown edac field) tt))
