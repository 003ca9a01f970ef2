-- How a reply's data comes to stand in the reply buffer. Assumes nothing.
use mathlib.Core.Path.{◌≡◌, refl, sym, ap, ap₂, ◌∙◌, subst}
use mathlib.Core.List.{List, [], ◌++◌}
use Prim.Native.Nat.{ℕ, ◌+◌, ◌-◌, ◌≤◌}
use native.Mathlib.Nat.{le_refl}
use native.Mathlib.Omega.{arith}
use lib.ListN.{length, take, drop, length-append, length-drop}
use lib.Seq.{length-take-le, take-add, drop-drop, take_at, drop_at, take_all}
use Rattle.memory.specs.Bytes.{stretch, stored, begun}
use Rattle.memory.proofs.Stretches.{stored_first_is_begun, a_begun_buffer_goes_on, a_store_goes_on, length_of_a_stretch}
use Rattle.field.specs.Fields.{word16_at, bytes16}
use Rattle.std.proofs.Common.{Ok, Err}
use Rattle.carrying.specs.declared.CommandError.TheVariants.{Refused, Unfitted}
use Rattle.carrying.specs.Ending.{Ending, done, refused, unfitted, Left, left, leaves}

-- a reply written in one piece
pub one_write : (reply xs : List ℕ) → stored reply 0 xs ≡ begun reply xs
one_write = stored_first_is_begun

-- and in two
pub two_writes : (reply xs ys : List ℕ) (n : ℕ) → length xs ≡ n → stored (stored reply 0 xs) n ys ≡ begun reply (xs ++ ys)
two_writes reply xs ys n e =
    ap₂ (λ held (at : ℕ). stored held at ys) (stored_first_is_begun reply xs) (sym e) ∙ a_begun_buffer_goes_on reply xs ys

-- ---- what a handler leaves, by what the command comes to

pub it_is_done : {M : Type 0} (o : Ending M) (bytes buffer reply : List ℕ) (n : ℕ) (after before : M) → o ≡ done bytes after → length bytes ≡ n
    → buffer ≡ begun reply bytes → left (Ok n) buffer after ≡ leaves o reply before
it_is_done o bytes buffer reply n after before comes size written =
    ap₂ (λ (m : ℕ) held. left (Ok m) held after) (sym size) written ∙ ap (λ p. leaves p reply before) (sym comes)

-- the same of a command that stores
pub is_done_storing : {M : Type 0} (o : Ending M) (bytes buffer reply : List ℕ) (n : ℕ) (after shall before : M) → o ≡ done bytes shall → after ≡ shall
    → length bytes ≡ n → buffer ≡ begun reply bytes → left (Ok n) buffer after ≡ leaves o reply before
is_done_storing o bytes buffer reply n after shall before comes stores size written =
    ap (λ m. left (Ok n) buffer m) stores ∙ it_is_done o bytes buffer reply n shall before comes size written

pub it_is_refused : {M : Type 0} (o : Ending M) (reply : List ℕ) (before : M) → o ≡ refused → left (Err Refused) reply before ≡ leaves o reply before
it_is_refused o reply before comes = ap (λ p. leaves p reply before) (sym comes)

pub is_unfitted : {M : Type 0} (o : Ending M) (reply : List ℕ) (before : M) → o ≡ unfitted → left (Err Unfitted) reply before ≡ leaves o reply before
is_unfitted o reply before comes = ap (λ p. leaves p reply before) (sym comes)

-- an outcome that another one is hands on what it leaves
pub is_the_same : {M : Type 0} (o p : Ending M) (l : Left M) (reply : List ℕ) (before : M) → o ≡ p → l ≡ leaves p reply before → l ≡ leaves o reply before
is_the_same o p l reply before comes e = e ∙ ap (λ q. leaves q reply before) (sym comes)

-- ---- a reply written structure by structure

-- what is written of the whole reply so far, and what is left of it
pub record Written (reply whole rest buffer : List ℕ) (place : ℕ) : Type 0 where
  pub so_far : buffer ≡ begun reply (take place whole)
  pub left_over : drop place whole ≡ rest
  pub within : place + length rest ≡ length whole

pub nothing_written : (reply whole : List ℕ) → Written reply whole whole reply 0
unfolding begun
nothing_written reply whole = record { so_far = refl; left_over = refl; within = omega arith }

pub one_more_written : (reply whole shown rest buffer : List ℕ) (place : ℕ) → Written reply whole (shown ++ rest) buffer place
    → Written reply whole rest (stored buffer place shown) (place + length shown)
one_more_written reply whole shown rest buffer place w =
    let size : length (take place whole) ≡ place = length-take-le place whole (omega (arith, w.within)) in
    let next : take (length shown) (drop place whole) ≡ shown = rw w.left_over (take_at shown rest (length shown) refl) in
    record {
      so_far =
          ap₂ (λ held (at : ℕ). stored held at shown) w.so_far (sym size)
          ∙ a_begun_buffer_goes_on reply (take place whole) shown
          ∙ ap (begun reply) (sym (take-add place (length shown) whole ∙ ap (λ s. take place whole ++ s) next));
      left_over =
          sym (drop-drop (length shown) place whole) ∙ rw w.left_over (drop_at shown rest (length shown) refl);
      within = omega (arith, simp length-append at w.within);
    }

pub all_written : (reply whole buffer : List ℕ) (place : ℕ) → Written reply whole [] buffer place → buffer ≡ begun reply whole
all_written reply whole buffer place w =
    w.so_far ∙ ap (begun reply) (take_all place whole (omega (arith, w.within)))

-- one turn of a loop that shows structures, and its end
pub more_of_it : (reply whole rest shown others buffer written : List ℕ) (place next : ℕ) → Written reply whole rest buffer place → rest ≡ shown ++ others
    → written ≡ stored buffer place shown → place + length shown ≡ next → Written reply whole others written next
more_of_it reply whole rest shown others buffer written place next w e stores there =
    subst (λ (n : ℕ). Written reply whole others written n) there
    (subst (λ b. Written reply whole others b (place + length shown)) (sym stores)
    (one_more_written reply whole shown others buffer place (subst (λ r. Written reply whole r buffer place) e w)))

pub end_of_it : (reply whole rest buffer : List ℕ) (place : ℕ) → Written reply whole rest buffer place → rest ≡ [] → buffer ≡ begun reply whole
end_of_it reply whole rest buffer place w e = all_written reply whole buffer place (subst (λ r. Written reply whole r buffer place) e w)

-- the place is then the reply's length
pub size_of_it : (reply whole rest buffer : List ℕ) (place : ℕ) → Written reply whole rest buffer place → rest ≡ [] → place ≡ length whole
size_of_it reply whole rest buffer place w e = let none = ap length e in omega (arith, w.within)

-- a range's head and bytes, as two stores one after the other
pub shown_range : (field edac reply first second bytes : List ℕ) (at place from count : ℕ) → from ≡ word16_at field at → count ≡ word16_at field (at + 2)
    → at + 4 ≤ length field → place + 4 ≤ length reply → bytes ≡ stretch from count edac → first ≡ stored reply place (stretch at (at + 4 - at) field)
    → second ≡ stored first (place + 4) bytes
    → (place + 4 + length bytes ≡ place + length (stretch at 4 field ++ stretch (word16_at field at) (word16_at field (at + 2)) edac))
    × (second ≡ stored reply place (stretch at 4 field ++ stretch (word16_at field at) (word16_at field (at + 2)) edac))
shown_range field edac reply first second bytes at place from count ef ec fits room eb e1 e2 =
    let four : at + 4 - at ≡ 4 = omega arith in
    let head = length_of_a_stretch field at 4 fits in
    let there : bytes ≡ stretch (word16_at field at) (word16_at field (at + 2)) edac = eb ∙ ap₂ (λ (a n : ℕ). stretch a n edac) ef ec in
    let both = length-append (stretch at 4 field) (stretch (word16_at field at) (word16_at field (at + 2)) edac) in
    let size = ap length there in (
      omega arith,
      e2
          ∙ ap₂ (λ held l. stored held (place + 4) l) (e1 ∙ ap (λ (n : ℕ). stored reply place (stretch at n field)) four) there
          ∙ ap (λ (n : ℕ). stored (stored reply place (stretch at 4 field)) (place + n) (stretch (word16_at field at) (word16_at field (at + 2)) edac)) (sym head)
          ∙ a_store_goes_on reply place (stretch at 4 field) (stretch (word16_at field at) (word16_at field (at + 2)) edac) (omega arith),
    )

-- the address as it was sent, and then bytes of a memory
pub address_then_bytes : (head : ℕ) (field held reply first second : List ℕ) (at count : ℕ) → head ≤ length field
    → first ≡ stored reply 0 (take head field) → second ≡ stored first head (stretch at (at + count - at) held)
    → second ≡ begun reply (take head field ++ stretch at count held)
address_then_bytes head field held reply first second at count fits e1 e2 =
    let size : at + count - at ≡ count = omega arith in
    e2
    ∙ ap₂ (λ l (n : ℕ). stored l head (stretch at n held)) e1 size
    ∙ two_writes reply (take head field) (stretch at count held) head (length-take-le head field fits)

pub length_of_address_then_bytes : (head : ℕ) (field held : List ℕ) (at count : ℕ) → head ≤ length field → at + count ≤ length held
    → length (take head field ++ stretch at count held) ≡ head + count
length_of_address_then_bytes head field held at count fits inside =
    length-append (take head field) (stretch at count held)
    ∙ ap₂ (λ (m n : ℕ). m + n) (length-take-le head field fits) (length_of_a_stretch held at count inside)

-- what follows the address in a data field, as the code takes it
pub the_rest : (head : ℕ) (field : List ℕ) → take (length field - head) (drop head field) ≡ drop head field
the_rest head field = take_all (length field - head) (drop head field) (rw length-drop (le_refl (length field - head)))

pub length_of_the_rest : (head : ℕ) (field : List ℕ) → length (take (length field - head) (drop head field)) ≡ length field - head
length_of_the_rest head field = ap length (the_rest head field) ∙ length-drop head field

-- both addresses as they were sent, and then the CRC
pub addresses_then_sum : (field reply first second : List ℕ) (sum shall : ℕ) → length field ≡ 8 → first ≡ stored reply 0 field
    → second ≡ stored first 8 (bytes16 sum) → sum ≡ shall → second ≡ begun reply (field ++ bytes16 shall)
addresses_then_sum field reply first second sum shall eight e1 e2 e =
    e2 ∙ ap₂ (λ l (n : ℕ). stored l 8 (bytes16 n)) e1 e ∙ two_writes reply field (bytes16 shall) 8 eight
