-- What READ FILE shows after files were stored in order, and which bytes they have (01, "Commands"; 02, T-02; ICD 11.11 and 11.12).
-- Assumes nothing.
use Rattle.std.specs.Prelude.{ℕ, Bool, false, cond, ◌||◌, List, [], ◌∷◌, ◌++◌, eqb, get_or, drop}
use Rattle.memory.specs.Edac.{file_shown}
use Rattle.read_only.specs.Files.{file_read_only, of_file}
use Rattle.field.specs.Reading.{Listed, ends, cut, item}

-- The body that a list names last for a file, or else the one that the file had.
abbrev pub last_body : ℕ → Listed → List ℕ → List ℕ
last_body file ends body = body
last_body file cut body = body
last_body file (item named rest) body = last_body file rest (cond (eqb (get_or named 0 0) file) (drop 1 named) body)

-- Each file's address and body: of a read-only file the body that it had, of another the one that the list names last, or else the one
-- that it had.
abbrev pub files_after : Listed → List ℕ → List ℕ → List ℕ
files_after list edac [] = []
files_after list edac (file ∷ files) =
    let had = drop 1 (file_shown edac file) in
    (file ∷ cond (file_read_only file) had (last_body file list had)) ++ files_after list edac files

-- Whether a byte is one of a file that the list names.
abbrev pub of_files : Listed → ℕ → Bool
of_files ends at = false
of_files cut at = false
of_files (item named rest) at = of_file (get_or named 0 0) at || of_files rest at
