-- The four bytes with a meaning of their own on the line (01, The line; ICD 9.1, Table 10).
use Rattle.std.specs.Prelude.{ℕ}

abbrev pub fend : ℕ
fend = 0xC0

abbrev pub fesc : ℕ
fesc = 0xDB

abbrev pub tfend : ℕ
tfend = 0xDC

abbrev pub tfesc : ℕ
tfesc = 0xDD
