-- 01, "One byte in, one answer out": 20 to 26, lowest number first; after them 27 and 29. 22 and 23 cover both
-- FRAMs, 25 and 26 both ports (02, T-01, T-06 and T-07). Assumes nothing.
use Rattle.std.specs.Prelude.{ℕ, ◌%◌, Bool, cond, ◌&&◌, ◌||◌, eqb, leb, ltb, Result, Ok, Err, ⊤}
use Rattle.memory.specs.Counts.{channels}
use Rattle.memory.specs.Edac.{edac_size}
use Rattle.blocks.specs.Fram.{block_size, block_start}
use Rattle.carrying.specs.Ending.{is_limit}
use Rattle.judging.specs.declared.Unit.{Unit}
use Rattle.judging.specs.declared.Lengths.{Lengths}
use Rattle.answer.specs.declared.Answer.{Answer}
use Rattle.answer.specs.declared.Answer.TheVariants.{BadStrap, BadEdac, BadFram, BadSums, BadDiagnostics, BadBuffers, BadCount, BadPort, BadLimit}
use Rattle.line.specs.Packing.{message_size, reply_size}
use Rattle.ports.specs.Ports.{count_of}

-- No refusal is due, or the answer of the one that is.
abbrev pub Fit : Type 0
Fit = Result ⊤ Answer

-- 20: "strap above 7" (02, T-01).
abbrev pub last_strap : ℕ
last_strap = 7

-- The least and the most bytes of an FRAM.
abbrev pub least_fram : ℕ
least_fram = 256

abbrev pub most_fram : ℕ
most_fram = 262144

-- 256 to 262,144 bytes, a multiple of 256.
abbrev pub fram_fits : ℕ → Bool
fram_fits size = leb least_fram size && leb size most_fram && eqb (size % block_size) 0

-- The largest count of a receiver: one above the longest message of any bus.
abbrev pub largest_count : ℕ
largest_count = 1034

-- 25 for either port, then what comes after it.
abbrev pub too_short : ℕ → ℕ → Bool
too_short message reply = ltb message message_size || ltb reply reply_size

abbrev pub buffers_fit : Lengths → Fit → Fit
buffers_fit l next = cond (too_short l.message0 l.reply0 || too_short l.message1 l.reply1) (Err BadBuffers) next

-- One sum for each block, of both FRAMs.
abbrev pub sums_fit : Lengths → Bool
sums_fit l = eqb (block_start l.bootloader_sums) l.bootloader && eqb (block_start l.sums) l.fram

-- 20 to 25. `fits` is what is asked of the lengths of both FRAMs, and `next` what comes after.
unfoldable pub lengths_fit : ℕ → Bool → Lengths → Fit → Fit
lengths_fit strap fits l next =
    cond (ltb last_strap strap) (Err BadStrap)
    (cond (eqb l.edac edac_size)
    (cond fits
    (cond (sums_fit l)
    (cond (eqb l.diagnostics channels) (buffers_fit l next) (Err BadDiagnostics))
    (Err BadSums))
    (Err BadFram))
    (Err BadEdac))

-- 29: a limit outside 260 to 1,028.
abbrev pub limit_fit : ℕ → Fit
limit_fit limit = cond (is_limit limit) (Ok tt) (Err BadLimit)

-- Set-up has no 26 and no 27.
unfoldable pub set_up_fit : ℕ → ℕ → Lengths → Fit
set_up_fit strap limit l = lengths_fit strap (fram_fits l.bootloader && fram_fits l.fram) l (limit_fit limit)

-- After set-up, an FRAM length other than the one set up is 22, for either.
abbrev pub fram_as_set_up : ℕ → ℕ → Bool
fram_as_set_up size set_up = fram_fits size && eqb size set_up

abbrev pub frams_as_set_up : Unit → Lengths → Bool
frams_as_set_up u l = fram_as_set_up l.bootloader u.bootloader_len && fram_as_set_up l.fram u.fram_len

-- A count above 1,034 is 26, whatever the limit; then what comes after it.
abbrev pub count_fit : ℕ → Fit → Fit
count_fit count next = cond (leb count largest_count) next (Err BadCount)

-- 27: "port number not 0 or 1".
abbrev pub port_fit : ℕ → Fit → Fit
port_fit number next = cond (leb number 1) next (Err BadPort)

-- 26 for either port, whichever the byte is for, then 27 and 29.
abbrev pub record_fit : Unit → ℕ → Fit
record_fit u number = count_fit (count_of u.ports.port0) (count_fit (count_of u.ports.port1) (port_fit number (limit_fit u.limit)))

unfoldable pub step_fit : Unit → ℕ → Lengths → Fit
step_fit u number l = lengths_fit u.strap (frams_as_set_up u l) l (record_fit u number)
