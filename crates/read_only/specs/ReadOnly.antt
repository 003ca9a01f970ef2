-- Read-only bytes of EDAC memory, and what a store leaves of them: 02, T-02. docs/EDAC.md has every row of ICD Table 18 with what the
-- prose of ICD 12.4 says of it. Assumes nothing.
use Rattle.std.specs.Prelude.{ℕ, suc, ◌+◌, ◌-◌, ◌≤◌, ◌<◌, ◌≡◌, Bool, true, false, cond, ◌&&◌, ◌||◌, List, [], ◌∷◌, ◌⊎◌, leb, length, get_or}
use Rattle.memory.specs.Bytes.{stretch, stored, overlaid}

-- Whether an address is one of a row of Table 18, its first and last included.
abbrev pub row : ℕ → ℕ → ℕ → Bool
row first last at = leb first at && leb at last

-- The rows that the prose calls read-only, in the table's order, each beside its section. Every other byte is writable: those of rows that
-- the prose calls read/write, is silent on or does not name, and those in no row.
unfoldable pub read_only : ℕ → Bool
read_only at =
    row 0x00C 0x00F at  -- 12.4.2 VBUS
    || row 0x020 0x023 at  -- 12.4.3 VCC
    || row 0x040 0x043 at  -- 12.4.4 TEMP0
    || row 0x048 0x04B at  -- 12.4.5 TEMP2
    || row 0x04C 0x04F at  -- 12.4.5 TEMP3
    || row 0x054 0x057 at  -- 12.4.7 SPEED
    || row 0x058 0x05B at  -- 12.4.8 MOMENTUM
    || row 0x06C 0x06F at  -- 12.4.9 HALL_DIGITAL
    || row 0x074 0x077 at  -- 12.4.10 ADC_CALIBRATE
    || row 0x080 0x083 at  -- 12.4.11 SPEED_P_GAIN
    || row 0x084 0x087 at  -- 12.4.11 SPEED_I_GAIN
    || row 0x088 0x08B at  -- 12.4.11 SPEED_D_GAIN
    || row 0x100 0x103 at  -- 12.4.23 PREVIOUS_SPEED
    || row 0x108 0x10B at  -- 12.4.25 SPEED_LAST_ERROR
    || row 0x12C 0x12F at  -- 12.4.27 TORQUE_T0
    || row 0x130 0x133 at  -- 12.4.27 TORQUE_T1
    || row 0x134 0x137 at  -- 12.4.27 TORQUE_T2
    || row 0x138 0x13B at  -- 12.4.27 TORQUE_T3
    || row 0x13C 0x13F at  -- 12.4.27 TORQUE_T4
    || row 0x168 0x16B at  -- 12.4.28 SLEEP_DUTY
    || row 0x16C 0x16F at  -- 12.4.29 DCDC_FREQ
    || row 0x184 0x187 at  -- 12.4.31 RESPONSE_AMPLITUDE
    || row 0x188 0x18B at  -- 12.4.31 RESPONSE_PHASE
    || row 0x190 0x193 at  -- 12.4.37 KT_ESTIMATE
    || row 0x194 0x197 at  -- 12.4.37 R_ESTIMATE
    || row 0x19C 0x19F at  -- 12.4.38 DRY_FRICTION_ESTIMATE
    || row 0x1A0 0x1A3 at  -- 12.4.38 WET_FRICTION_ESTIMATE
    || row 0x1A4 0x1A7 at  -- 12.4.38 AERO_FRICTION_ESTIMATE
    || row 0x1A8 0x1AB at  -- 12.4.38 RUNDOWN_TIME
    || row 0x200 0x203 at  -- 12.4.6 TEMP_R0
    || row 0x204 0x207 at  -- 12.4.6 TEMP_R2
    || row 0x208 0x20B at  -- 12.4.6 TEMP_R3, which the table calls TEMP_R4
    || row 0x20C 0x20F at  -- 12.4.49 ADC_RAW_VBUS
    || row 0x210 0x213 at  -- 12.4.49 ADC_RAW_VCC
    || row 0x214 0x217 at  -- 12.4.49 ADC_RAW_TEMP0
    || row 0x218 0x21B at  -- 12.4.49 ADC_RAW_TEMP2
    || row 0x21C 0x21F at  -- 12.4.49 ADC_RAW_TEMP3
    || row 0x220 0x223 at  -- 12.4.49 ADC_RAW_CALIBRATE
    || row 0x5D7 0x5D7 at  -- 12.4.46 FLAGS_ACTIVE

-- What `old` becomes, from address `from` on, where `new` is to be stored: byte for byte, as far as both reach, the old one where it is
-- read-only, and the new one elsewhere.
unfoldable pub keeping : ℕ → List ℕ → List ℕ → List ℕ
keeping from [] new = []
keeping from (before ∷ old) [] = []
keeping from (before ∷ old) (byte ∷ new) = cond (read_only from) before byte ∷ keeping (suc from) old new

-- EDAC memory after a command wrote `bytes` from `at` on: read-only bytes keep their value, the others are stored, and what would lie past
-- the end is left out.
unfoldable pub written : List ℕ → ℕ → List ℕ → List ℕ
written edac at bytes = stored edac at (keeping at (stretch at (length bytes) edac) bytes)

-- The same, of bytes that fit, said address by address, without a word of how it is worked out: EDAC memory before and after a command
-- wrote `bytes` from `at` on.
pub record Writes (before : List ℕ) (at : ℕ) (bytes after : List ℕ) : Type 0 where
  pub same_length : length after ≡ length before
  pub a_read_only_byte_stays : (n : ℕ) → read_only n ≡ true → get_or after n 0 ≡ get_or before n 0
  pub a_writable_byte_is_stored : (n : ℕ) → read_only n ≡ false → at ≤ n → n < at + length bytes → get_or after n 0 ≡ get_or bytes (n - at) 0
  pub any_other_byte_stays : (n : ℕ) → (n < at) ⊎ (at + length bytes ≤ n) → get_or after n 0 ≡ get_or before n 0

-- As long as before, and each of its read-only bytes as before.
pub record KeepsReadOnly (before after : List ℕ) : Type 0 where
  pub same_length : length after ≡ length before
  pub same_bytes : (at : ℕ) → read_only at ≡ true → get_or after at 0 ≡ get_or before at 0

-- What stands from `from` on, where `old` stood, after a command wrote `bytes` in EDAC memory from `at` on.
abbrev pub written_over : ℕ → List ℕ → ℕ → List ℕ → List ℕ
written_over at bytes from old = keeping from old (overlaid at bytes from old)
