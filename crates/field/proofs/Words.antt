-- A value as its bytes, low byte first, reads as itself. Assumes nothing.
use mathlib.Core.Path.{◌≡◌}
use Prim.Native.Nat.{ℕ, ◌+◌, ◌*◌, ◌/◌, ◌%◌, ◌<◌}
use native.Mathlib.Omega.{arith}

pub two_bytes : (n : ℕ) → n < 65536 → n % 256 + 256 * (n / 256 % 256) ≡ n
two_bytes n h =
    let high : n / 256 % 256 ≡ n / 256 = omega arith in
    omega arith

pub four_bytes : (n : ℕ) → n < 4294967296 → n % 256 + 256 * (n / 256 % 256) + 65536 * (n / 65536 % 256 + 256 * (n / 16777216 % 256)) ≡ n
four_bytes n h =
    let second : n / 256 / 256 ≡ n / 65536 = omega arith in
    let third : n / 65536 / 256 ≡ n / 16777216 = omega arith in
    let top : n / 16777216 % 256 ≡ n / 16777216 = omega arith in
    let low : n % 256 + 256 * (n / 256) ≡ n = omega arith in
    let middle : n / 256 % 256 + 256 * (n / 256 / 256) ≡ n / 256 = omega arith in
    let high : n / 65536 % 256 + 256 * (n / 65536 / 256) ≡ n / 65536 = omega arith in
    omega arith
