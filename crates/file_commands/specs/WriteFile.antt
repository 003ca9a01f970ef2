-- WRITE FILE 0x08 (01, "Commands"; 02, T-02 and T-11; ICD 11.12): judging a list, storing a judged one, and the command. Assumes nothing.
use Rattle.std.specs.Prelude.{ℕ, ◌≡◌, Bool, true, false, cond, ◌&&◌, ◌⊎◌, List, [], ◌∷◌, eqb, ltb, leb, length, get_or, drop, Result, Ok, Err}
use Rattle.memory.specs.Edac.{edac_size, shown_size}
use Rattle.read_only.specs.Files.{file_stored}
use Rattle.field.specs.Reading.{Listed, ends, cut, item, is_whole, structures}
use Rattle.carrying.specs.Ending.{is_limit, Ending, done, refused}
use Rattle.file_commands.specs.declared.write_file.StoreError.{StoreError}
use Rattle.file_commands.specs.declared.write_file.StoreError.TheVariants.{Unfit, BadEdac}
use Rattle.file_commands.specs.ReadFile.{files_shown}

-- The structures are those that READ FILE shows: file 0 with its mode byte and four bytes, any other file with four bytes.
abbrev pub listed : List ℕ → Listed
listed field = structures shown_size field

-- The files of a list, by address: a structure's first byte.
abbrev pub files_of : Listed → List ℕ
files_of ends = []
files_of cut = []
files_of (item file rest) = get_or file 0 0 ∷ files_of rest

-- The files stored in order: what follows the address is the file's body.
abbrev pub files_stored : List ℕ → Listed → List ℕ
files_stored edac ends = edac
files_stored edac cut = edac
files_stored edac (item file rest) = files_stored (file_stored edac (get_or file 0 0) (drop 1 file)) rest

-- ---- judging a list (02, T-11)

-- Whether a WRITE FILE of a list is ACKed in application mode where a data field has at most `limit` bytes: the list is not empty, not longer than
-- that, since its reply is as long as itself, and does not end inside a structure. A limit that no bus may set makes every list unfit.
unfoldable pub judge_list_of : ℕ → List ℕ → Bool
judge_list_of limit list = is_limit limit && (ltb 0 (length list) && (leb (length list) limit && is_whole (listed list)))

-- ---- storing a judged one (02, T-11)

-- What storing leaves: the answer's number in 01, and EDAC memory.
pub record Storage : Type 0 where
  pub answer : ℕ
  pub edac : List ℕ

abbrev pub storage : ℕ → List ℕ → Storage
storage answer edac = record { answer = answer; edac = edac }

-- 01's number for what storing comes to: 0 where all is well and nothing is sent, 4 as for a command that is refused and not answered, 21 for a
-- wrong length of EDAC memory.
abbrev pub store_number_of : Result (Unit {0}) StoreError → ℕ
store_number_of (Ok _) = 0
store_number_of (Err Unfit) = 4
store_number_of (Err BadEdac) = 21

-- What `store_list` gives back, with EDAC memory as it leaves it.
abbrev pub storage_of : Result (Unit {0}) StoreError → List ℕ → Storage
storage_of stored edac = storage (store_number_of stored) edac

-- EDAC memory that is not 1,536 bytes long and, after that, an unfit list change nothing; else every file of the list is stored, in order.
unfoldable pub store_list_of : ℕ → List ℕ → List ℕ → Storage
store_list_of limit edac list =
    cond (eqb (length edac) edac_size)
    (cond (judge_list_of limit list) (storage 0 (files_stored edac (listed list))) (storage 4 edac))
    (storage 21 edac)

-- The same by the answer: the store of the very list that was lent, or nothing.
pub record StoringLeaves (limit : ℕ) (edac list : List ℕ) (s : Storage) : Type 0 where
  pub stored : s.answer ≡ 0 → (length edac ≡ edac_size) × (judge_list_of limit list ≡ true) × (s.edac ≡ files_stored edac (listed list))
  pub unfit : s.answer ≡ 4 → (length edac ≡ edac_size) × (judge_list_of limit list ≡ false) × (s.edac ≡ edac)
  pub wrong : s.answer ≡ 21 → (length edac ≡ edac_size → ⊥) × (s.edac ≡ edac)
  pub no_other : (s.answer ≡ 0) ⊎ ((s.answer ≡ 4) ⊎ (s.answer ≡ 21))

-- ---- the command

-- An unfit list is refused and stores nothing. Every reply structure shows memory after the whole command.
unfoldable pub write_file_of : ℕ → List ℕ → List ℕ → Ending (List ℕ)
write_file_of room edac field =
    cond (judge_list_of room field)
    (done (files_shown (files_stored edac (listed field)) (files_of (listed field))) (files_stored edac (listed field)))
    refused
