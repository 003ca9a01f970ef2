-- The read-only bytes, counted, each edge beside which the ICD's rows stand closest, and what a list of three rows says, by computation. Assumes
-- nothing.
use mathlib.Core.Path.{◌≡◌, refl}
use mathlib.Core.Bool.{Bool, true, false, cond}
use mathlib.Core.List.{List, [], ◌∷◌}
use Prim.Native.Nat.{ℕ, zero, suc, ◌+◌}
use lib.ListN.{replicate}
use Rattle.memory.specs.Bytes.{stored}
use Rattle.read_only.specs.ReadOnly.{read_only, keeping, written}
use Rattle.read_only.specs.Runs.{run}
use Rattle.read_only.specs.Listed.{in_some_or, in_some, rising, ends, run_in, apart}

-- how many of the `count` bytes from an address on are read-only
abbrev pub how_many : ℕ → ℕ → ℕ
how_many from zero = 0
how_many from (suc count) = cond (read_only from) 1 0 + how_many (suc from) count

-- 38 rows of four bytes and FLAGS_ACTIVE
pub of_1536_bytes : how_many 0 1536 ≡ 153
unfolding read_only
of_1536_bytes = refl

-- how bytes from an address on stand
abbrev pub stand : ℕ → ℕ → List Bool
stand from zero = []
stand from (suc count) = read_only from ∷ stand (suc from) count

-- file 0's value and mode byte are writable; SPEED and MOMENTUM are read-only, and the bytes on either side are not
pub file_0_and_speed : (stand 0x000 4 ≡ replicate 4 false) × (stand 0x5C3 1 ≡ false ∷ []) × (stand 0x053 10 ≡ false ∷ true ∷ true ∷ true ∷ true ∷ true ∷ true ∷ true ∷ true ∷ false ∷ [])
unfolding read_only
file_0_and_speed = (refl, refl, refl)

-- R_ESTIMATE ends, DV_ESTIMATE is writable, DRY_FRICTION_ESTIMATE begins
pub dv_estimate : stand 0x197 6 ≡ true ∷ false ∷ false ∷ false ∷ false ∷ true ∷ []
unfolding read_only
dv_estimate = refl

-- nine rows from TEMP_R0 to ADC_RAW_CALIBRATE without a gap, TEMP_R3 among them; FAULT_OVERCURRENT, to 0x1D7, is writable
pub temp_r0_to_adc_raw_calibrate : (stand 0x1FF 1 ≡ false ∷ []) × (stand 0x200 36 ≡ replicate 36 true) × (stand 0x224 1 ≡ false ∷ []) × (stand 0x1D4 4 ≡ replicate 4 false)
unfolding read_only
temp_r0_to_adc_raw_calibrate = (refl, refl, refl, refl)

-- IDLE_INHIBIT, FLAGS_ACTIVE and FAULTS_MASK
pub flags_active : stand 0x5D6 3 ≡ false ∷ true ∷ false ∷ []
unfolding read_only
flags_active = refl

-- five bytes written from 0x5D5 on, over FLAGS_ACTIVE
pub a_write_over_flags_active : written (replicate 1536 0) 0x5D5 (1 ∷ 2 ∷ 3 ∷ 4 ∷ 5 ∷ []) ≡ stored (replicate 1536 0) 0x5D5 (1 ∷ 2 ∷ 0 ∷ 4 ∷ 5 ∷ [])
unfolding written keeping read_only
a_write_over_flags_active = refl

-- ---- a list of rows: SPEED and MOMENTUM, which touch, and HALL_DIGITAL

abbrev speed : List ℕ
speed = 0x054 ∷ 0x057 ∷ []

abbrev momentum : List ℕ
momentum = 0x058 ∷ 0x05B ∷ []

abbrev hall : List ℕ
hall = 0x06C ∷ 0x06F ∷ []

abbrev three : List (List ℕ)
three = speed ∷ momentum ∷ hall ∷ []

-- before the rows, in the first, in the second, between, in the third and behind it
pub what_three_rows_say : (run_in three 0x600 0x053 ≡ run false 0x054) × (run_in three 0x600 0x054 ≡ run true 0x05C) × (run_in three 0x600 0x05B ≡ run true 0x05C) × (run_in three 0x600 0x05C ≡ run false 0x06C) × (run_in three 0x600 0x06F ≡ run true 0x070) × (run_in three 0x600 0x070 ≡ run false 0x600)
unfolding run_in ends
what_three_rows_say = (refl, refl, refl, refl, refl, refl)

-- a row that reaches the end, and no rows
pub at_the_end : (run_in three 0x070 0x06C ≡ run true 0x070) × (run_in [] 0x070 0x06C ≡ run false 0x070)
unfolding run_in ends
at_the_end = (refl, refl)

pub in_three_rows : (in_some three 0x053 ≡ false) × (in_some three 0x054 ≡ true) × (in_some three 0x05B ≡ true) × (in_some three 0x05C ≡ false) × (in_some three 0x06F ≡ true)
unfolding in_some_or
in_three_rows = (refl, refl, refl, refl, refl)

-- in rising order; two exchanged; one twice; one that overlaps the next by a byte; one that ends before it begins; up to the end, and past it
pub what_rises : (rising 0 three 0x600 ≡ true) × (rising 0 (momentum ∷ speed ∷ hall ∷ []) 0x600 ≡ false) × (rising 0 (speed ∷ speed ∷ []) 0x600 ≡ false) × (rising 0 ((0x054 ∷ 0x058 ∷ []) ∷ momentum ∷ []) 0x600 ≡ false) × (rising 0 ((0x057 ∷ 0x054 ∷ []) ∷ []) 0x600 ≡ false) × (rising 0 three 0x070 ≡ true) × (rising 0 three 0x06F ≡ false)
unfolding rising
what_rises = (refl, refl, refl, refl, refl, refl, refl)

-- MOMENTUM touches SPEED, HALL_DIGITAL touches none, and there is no fourth row
pub where_three_rows_may_be_cut : (apart 1 three ≡ false) × (apart 2 three ≡ true) × (apart 3 three ≡ false)
where_three_rows_may_be_cut = (refl, refl, refl)
