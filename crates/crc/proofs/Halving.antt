-- Carrying over a gap is a product with a power of the one-byte shift, and the powers square. Assumes nothing.
use mathlib.Core.Path.{◌≡◌, refl, sym, ap, ap₂, ◌∙◌}
use mathlib.Core.Bool.{Bool, true, false, cond}
use Prim.Native.Nat.{ℕ, zero, suc, ◌+◌, ◌*◌, ◌/◌, ◌%◌, ◌^◌, ◌<◌}
use native.Mathlib.Nat.{not-suc-le-zero, le_of_suc-le-suc, zero-lt-suc, mod-lt, pow-suc, div-lt_iff_lt-mul, zero-mul, one-mul, mul_comm}
use native.Mathlib.Omega.{arith}
use lib.Arith.{lt-one}
use lib.Dec.{T, eqb, eqb→eq, lit<}
use lib.Pow.{pow_pos}
use lib.Bits.{bit_xor, xor_zero_r, xor_comm, xor_lt}
use Rattle.crc.specs.Sum.{gate, bit_step, bit_steps, byte_step, carried, polynomial}
use Rattle.crc.specs.Joining.{product, no_shift, power_of}
use Rattle.crc.proofs.Xor.{bit_cases, xor_half, xor_across, high_and_low}
use Rattle.crc.proofs.Linear.{gate_linear, bit_step_linear, bit_steps_linear, bit_steps_zero, carried_add}

-- two maps agree at each power of 2 below 2 ^ k
abbrev agreeing : (ℕ → ℕ) → (ℕ → ℕ) → ℕ → Bool
agreeing f g zero = eqb (f 0) (g 0)
agreeing f g (suc k) = cond (eqb (f (2 ^ k)) (g (2 ^ k))) (agreeing f g k) false

abbrev pub Linear : (ℕ → ℕ) → Type 0
Linear f = (a b : ℕ) → f (bit_xor a b) ≡ bit_xor (f a) (f b)

first : (b t : Bool) → T (cond b t false) → T b
first true t h = tt
first false t h = h

second : (b t : Bool) → T (cond b t false) → T t
second true t h = h
second false t h = absurd h

-- two linear maps that agree at 0 and at each power of 2 below 2 ^ k agree on every number below it
module _ (f g : ℕ → ℕ) (hf : Linear f) (hg : Linear g) where
  at_zero : (k : ℕ) → T (agreeing f g k) → f 0 ≡ g 0
  at_zero zero t = eqb→eq (f 0) (g 0) t
  at_zero (suc k) t = at_zero k (second (eqb (f (2 ^ k)) (g (2 ^ k))) (agreeing f g k) t)

  at_top : (k : ℕ) → T (agreeing f g (suc k)) → (q : ℕ) → q < 2 → f (q * 2 ^ k) ≡ g (q * 2 ^ k)
  at_top k t zero h = rw zero-mul (at_zero (suc k) t)
  at_top k t (suc zero) h =
      rw one-mul (eqb→eq (f (2 ^ k)) (g (2 ^ k)) (first (eqb (f (2 ^ k)) (g (2 ^ k))) (agreeing f g k) t))
  at_top k t (suc (suc q)) h = absurd (not-suc-le-zero (le_of_suc-le-suc (le_of_suc-le-suc h)))

  pub agree : (k : ℕ) → T (agreeing f g k) → (a : ℕ) → a < 2 ^ k → f a ≡ g a
  agree zero t a below = ap f (lt-one below) ∙ eqb→eq (f 0) (g 0) t ∙ ap g (sym (lt-one below))
  agree (suc k) t a below =
      ap f (high_and_low k a)
      ∙ hf (a / 2 ^ k * 2 ^ k) (a % 2 ^ k)
      ∙ ap₂ bit_xor
      (at_top k t (a / 2 ^ k) ((div-lt_iff_lt-mul (pow_pos k)).1 (rw (mul_comm 2 (2 ^ k), ← pow-suc 2 k) below)))
      (agree k (second (eqb (f (2 ^ k)) (g (2 ^ k))) (agreeing f g k) t) (a % 2 ^ k) (mod-lt a (pow_pos k)))
      ∙ sym (hg (a / 2 ^ k * 2 ^ k) (a % 2 ^ k))
      ∙ ap g (sym (high_and_low k a))

-- ---- the product, in each of its two places

gate_of_xor : (a b digit : ℕ) → gate (bit_xor a b) (digit % 2) ≡ bit_xor (gate a (digit % 2)) (gate b (digit % 2))
gate_of_xor a b digit = bit_cases (λ d. gate (bit_xor a b) d ≡ bit_xor (gate a d) (gate b d)) refl refl digit

product_linear : (k power : ℕ) → Linear (λ sum. product k sum power)
unfolding product
product_linear zero power a b = refl
product_linear (suc k) power a b =
    ap₂ bit_xor
    (ap (bit_steps k) (gate_of_xor a b power) ∙ bit_steps_linear k (gate a (power % 2)) (gate b (power % 2)))
    (product_linear k (power / 2) a b)
    ∙ xor_across (bit_steps k (gate a (power % 2))) (bit_steps k (gate b (power % 2))) (product k a (power / 2)) (product k b (power / 2))

product_of_xor : (k sum : ℕ) → Linear (product k sum)
unfolding product
product_of_xor zero sum a b = refl
product_of_xor (suc k) sum a b =
    ap₂ bit_xor
    (ap (bit_steps k) (gate_linear sum a b) ∙ bit_steps_linear k (gate sum (a % 2)) (gate sum (b % 2)))
    (ap (product k sum) (xor_half a b) ∙ product_of_xor k sum (a / 2) (b / 2))
    ∙ xor_across (bit_steps k (gate sum (a % 2))) (bit_steps k (gate sum (b % 2))) (product k sum (a / 2)) (product k sum (b / 2))

product_zero : (k sum : ℕ) → product k sum 0 ≡ 0
unfolding product
product_zero zero sum = refl
product_zero (suc k) sum = ap₂ bit_xor (bit_steps_zero k) (product_zero k sum)

-- a last step more
pub steps_last : (k a : ℕ) → bit_steps (suc k) a ≡ bit_step (bit_steps k a)
unfolding bit_steps
steps_last zero a = refl
steps_last (suc k) a = steps_last k (bit_step a)

pub half_below : {a : ℕ} (k : ℕ) → a < 2 ^ suc k → a / 2 < 2 ^ k
half_below k h = (div-lt_iff_lt-mul (zero-lt-suc 1)).1 (rw pow-suc at h)

step_apart : (a : ℕ) → bit_step a ≡ bit_xor (a / 2) (gate polynomial (a % 2))
unfolding bit_step
step_apart a = refl

product_apart : (k sum power : ℕ) → product (suc k) sum power ≡ bit_xor (bit_steps k (gate sum (power % 2))) (product k sum (power / 2))
unfolding product
product_apart k sum power = refl

-- with no digit at the top, one digit more is one step more
product_shifts : (k sum power : ℕ) → power < 2 ^ k → product (suc k) sum power ≡ bit_step (product k sum power)
unfolding product bit_steps bit_step
product_shifts zero sum power below = ap (product 1 sum) (lt-one below)
product_shifts (suc k) sum power below =
    ap₂ bit_xor (steps_last k (gate sum (power % 2))) (product_shifts k sum (power / 2) (half_below k below))
    ∙ sym (bit_step_linear (bit_steps k (gate sum (power % 2))) (product k sum (power / 2)))

-- sixteen steps are the polynomial's
sixteen_steps : (sum : ℕ) → sum < 2 ^ 16 → bit_steps 16 sum ≡ product 16 sum polynomial
unfolding bit_steps bit_step product
sixteen_steps = agree (bit_steps 16) (λ sum. product 16 sum polynomial) (bit_steps_linear 16) (product_linear 16 polynomial) 16 tt

product_of_gate : (sum power : ℕ) → sum < 2 ^ 16 → product 16 sum (gate polynomial (power % 2)) ≡ bit_steps 16 (gate sum (power % 2))
product_of_gate sum power h =
    bit_cases (λ d. product 16 sum (gate polynomial d) ≡ bit_steps 16 (gate sum d))
    (product_zero 16 sum ∙ sym (bit_steps_zero 16))
    (sym (sixteen_steps sum h))
    power

-- a step of the power is a step of the product
product_step : (sum power : ℕ) → sum < 2 ^ 16 → power < 2 ^ 16 → product 16 sum (bit_step power) ≡ bit_step (product 16 sum power)
product_step sum power hs hp =
    ap (product 16 sum) (step_apart power)
    ∙ product_of_xor 16 sum (power / 2) (gate polynomial (power % 2))
    ∙ ap₂ bit_xor
    (product_shifts 15 sum (power / 2) (half_below 15 hp))
    (product_of_gate sum power hs ∙ steps_last 15 (gate sum (power % 2)))
    ∙ xor_comm (bit_step (product 15 sum (power / 2))) (bit_step (bit_steps 15 (gate sum (power % 2))))
    ∙ sym (bit_step_linear (bit_steps 15 (gate sum (power % 2))) (product 15 sum (power / 2)))
    ∙ ap bit_step (sym (product_apart 15 sum power))

-- ---- from bits to bytes, and to any number of them

pub gate_below : (power : ℕ) → gate polynomial (power % 2) < 2 ^ 16
gate_below power = bit_cases (λ d. gate polynomial d < 2 ^ 16) (lit< tt) (lit< tt) power

step_below : (a : ℕ) → a < 2 ^ 16 → bit_step a < 2 ^ 16
unfolding bit_step
step_below a h = xor_lt 16 (a / 2) (gate polynomial (a % 2)) (omega arith) (gate_below a)

product_steps : (k sum power : ℕ) → sum < 2 ^ 16 → power < 2 ^ 16 → product 16 sum (bit_steps k power) ≡ bit_steps k (product 16 sum power)
unfolding bit_steps
product_steps zero sum power hs hp = refl
product_steps (suc k) sum power hs hp =
    product_steps k sum (bit_step power) hs (step_below power hp) ∙ ap (bit_steps k) (product_step sum power hs hp)

pub steps_below : (k a : ℕ) → a < 2 ^ 16 → bit_steps k a < 2 ^ 16
unfolding bit_steps
steps_below zero a h = h
steps_below (suc k) a h = steps_below k (bit_step a) (step_below a h)

-- a byte step with a zero byte is eight bit steps
pub byte_step_zero : (a : ℕ) → byte_step a 0 ≡ bit_steps 8 a
unfolding byte_step
byte_step_zero a = ap (bit_steps 8) (xor_zero_r a)

pub byte_step_below : (a byte : ℕ) → a < 2 ^ 16 → byte < 2 ^ 16 → byte_step a byte < 2 ^ 16
unfolding byte_step
byte_step_below a byte h hb = steps_below 8 (bit_xor a byte) (xor_lt 16 a byte h hb)

pub carried_below : (n a : ℕ) → a < 2 ^ 16 → carried n a < 2 ^ 16
unfolding carried
carried_below zero a h = h
carried_below (suc n) a h = carried_below n (byte_step a 0) (byte_step_below a 0 h (lit< tt))

product_carried : (n sum power : ℕ) → sum < 2 ^ 16 → power < 2 ^ 16 → product 16 sum (carried n power) ≡ carried n (product 16 sum power)
unfolding carried
product_carried zero sum power hs hp = refl
product_carried (suc n) sum power hs hp =
    product_carried n sum (byte_step power 0) hs (byte_step_below power 0 hp (lit< tt))
    ∙ ap (carried n)
    (ap (product 16 sum) (byte_step_zero power) ∙ product_steps 8 sum power hs hp ∙ sym (byte_step_zero (product 16 sum power)))

product_one : (sum : ℕ) → product 16 sum no_shift ≡ sum
unfolding product bit_steps bit_step
product_one sum = xor_zero_r sum

-- a sum times the power for n is the sum carried over n zero bytes
pub product_carries : (n sum : ℕ) → sum < 2 ^ 16 → product 16 sum (power_of n) ≡ carried n sum
unfolding power_of
product_carries n sum h = product_carried n sum no_shift h (lit< tt) ∙ ap (carried n) (product_one sum)

pub power_below : (n : ℕ) → power_of n < 2 ^ 16
unfolding power_of
power_below n = carried_below n no_shift (lit< tt)

-- ---- the powers, by halving

pub power_none : (n : ℕ) → n ≡ 0 → no_shift ≡ power_of n
unfolding power_of carried
power_none n e = ap power_of (sym e)

square : (half : ℕ) → product 16 (power_of half) (power_of half) ≡ power_of (half + half)
unfolding power_of
square half = product_carries half (power_of half) (power_below half) ∙ sym (carried_add half half no_shift)

shifted_square : (half : ℕ) → bit_steps 8 (product 16 (power_of half) (power_of half)) ≡ power_of (half + half + 1)
unfolding power_of carried
shifted_square half =
    ap (bit_steps 8) (square half) ∙ sym (byte_step_zero (power_of (half + half))) ∙ sym (carried_add (half + half) 1 no_shift)

pub power_even : (n half squared : ℕ) → n % 2 ≡ 0 → half ≡ power_of (n / 2) → squared ≡ product 16 half half → squared ≡ power_of n
power_even n half squared even eh es =
    let twice : n / 2 + n / 2 ≡ n = omega arith in
    es ∙ ap (λ (x : ℕ). product 16 x x) eh ∙ square (n / 2) ∙ ap power_of twice

pub power_odd : (n half squared shifted : ℕ) → (n % 2 ≡ 0 → ⊥) → half ≡ power_of (n / 2) → squared ≡ product 16 half half → shifted ≡ bit_steps 8 squared → shifted ≡ power_of n
power_odd n half squared shifted odd eh es e =
    let twice : n / 2 + n / 2 + 1 ≡ n = omega arith in
    e ∙ ap (bit_steps 8) (es ∙ ap (λ (x : ℕ). product 16 x x) eh) ∙ shifted_square (n / 2) ∙ ap power_of twice
