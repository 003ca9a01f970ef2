-- What a store leaves of read-only bytes, and of all others. Assumes nothing.
use mathlib.Core.Path.{◌≡◌, refl, sym, ap, ap₂, ◌∙◌}
use mathlib.Core.Bool.{Bool, true, false, cond, ◌&&◌}
use mathlib.Core.List.{List, [], ◌∷◌, ◌++◌}
use mathlib.Core.Logic.{◌⊎◌, inl, inr}
use Prim.Native.Nat.{ℕ, zero, suc, ◌+◌, ◌-◌, ◌≤◌, ◌<◌}
use native.Mathlib.Nat.{add-zero, zero-add, not-suc-le-zero}
use native.Mathlib.Omega.{arith}
use borrow.Author.Tests.{leb-true, ltb-true, le-leb, lt-leb, lt-ltb, le-ltb}
use lib.Dec.{leb, ltb}
use lib.ListN.{length, take, drop, get_or, length-append, length-drop, length-take, take-append-drop}
use lib.Seq.{length-take-le, take-add}
use Rattle.memory.specs.Bytes.{stretch, stored}
use Rattle.read_only.specs.ReadOnly.{read_only, keeping, written, written_over, Writes, KeepsReadOnly}
use Rattle.memory.proofs.Stretches.{length_of_a_stretch, a_store_keeps_the_length, nothing_stored, stretch_of_a_store}
use Rattle.memory.proofs.Overlays.{in_a_stretch, a_byte_after_a_store, what_is_read_after_a_store}
use Rattle.memory.proofs.Tests.{either_side}

-- ---- byte for byte

pub kept_as_long : (from : ℕ) (old new : List ℕ) → length old ≤ length new → length (keeping from old new) ≡ length old
unfolding keeping
kept_as_long from [] new h = refl
kept_as_long from (before ∷ old) [] h = absurd (not-suc-le-zero h)
kept_as_long from (before ∷ old) (byte ∷ new) h = ap suc (kept_as_long (suc from) old new (omega arith))

pub a_byte_kept : (from : ℕ) (old new : List ℕ) (n : ℕ) → n < length old → length old ≤ length new
    → get_or (keeping from old new) n 0 ≡ cond (read_only (from + n)) (get_or old n 0) (get_or new n 0)
unfolding keeping
a_byte_kept from [] new n some h = absurd (not-suc-le-zero some)
a_byte_kept from (before ∷ old) [] n some h = absurd (not-suc-le-zero h)
a_byte_kept from (before ∷ old) (byte ∷ new) zero some h = ap (λ (a : ℕ). cond (read_only a) before byte) (sym (add-zero from))
a_byte_kept from (before ∷ old) (byte ∷ new) (suc n) some h =
    let next : suc from + n ≡ from + suc n = omega arith in
    a_byte_kept (suc from) old new n (omega arith) (omega arith)
    ∙ ap (λ (a : ℕ). cond (read_only a) (get_or old n 0) (get_or new n 0)) next

-- one part after the other
pub kept_in_parts : (from : ℕ) (xs ys us vs : List ℕ) → length xs ≡ length us
    → keeping from (xs ++ ys) (us ++ vs) ≡ keeping from xs us ++ keeping (from + length xs) ys vs
unfolding keeping
kept_in_parts from [] ys [] vs e = ap (λ (a : ℕ). keeping a ys vs) (sym (add-zero from))
kept_in_parts from [] ys (u ∷ us) vs e = absurd (omega arith)
kept_in_parts from (x ∷ xs) ys [] vs e = absurd (omega arith)
kept_in_parts from (x ∷ xs) ys (u ∷ us) vs e =
    let next : suc from + length xs ≡ from + suc (length xs) = omega arith in
    ap (λ l. cond (read_only from) x u ∷ l)
    (kept_in_parts (suc from) xs ys us vs (omega arith) ∙ ap (λ (n : ℕ). keeping (suc from) xs us ++ keeping n ys vs) next)

-- where all stand alike
pub kept_alike : (so : Bool) (from : ℕ) (old new : List ℕ) → length old ≡ length new → ((i : ℕ) → from ≤ i → i < from + length old → read_only i ≡ so)
    → keeping from old new ≡ cond so old new
unfolding keeping
kept_alike true from [] [] e alike = refl
kept_alike false from [] [] e alike = refl
kept_alike so from [] (a ∷ new) e alike = absurd (omega arith)
kept_alike so from (x ∷ old) [] e alike = absurd (omega arith)
kept_alike so from (x ∷ old) (a ∷ new) e alike =
    ap₂ (λ b l. cond b x a ∷ l) (alike from (omega arith) (omega arith))
    (kept_alike so (suc from) old new (omega arith) (λ i low high. alike i (omega arith) (omega arith)))
    ∙ both so
  where
    both : (b : Bool) → cond b x a ∷ cond b old new ≡ cond b (x ∷ old) (a ∷ new)
    both true = refl
    both false = refl

-- what is stored as it stood
pub kept_as_it_was : (from : ℕ) (l : List ℕ) → keeping from l l ≡ l
unfolding keeping
kept_as_it_was from [] = refl
kept_as_it_was from (x ∷ l) = ap₂ (λ (a : ℕ) r. a ∷ r) (same (read_only from)) (kept_as_it_was (suc from) l)
  where
    same : (b : Bool) → cond b x x ≡ x
    same true = refl
    same false = refl

-- ---- read-only bytes kept, one step after the other

pub kept_at_first : (l : List ℕ) → KeepsReadOnly l l
kept_at_first l = record { same_length = refl; same_bytes = λ at so. refl }

pub also_kept : {before between after : List ℕ} → KeepsReadOnly before between → KeepsReadOnly between after → KeepsReadOnly before after
also_kept first second = record {
  same_length = second.same_length ∙ first.same_length;
  same_bytes = λ at so. second.same_bytes at so ∙ first.same_bytes at so;
}

-- ---- a stretch of it

nothing_to_keep : (from : ℕ) (old : List ℕ) → keeping from old [] ≡ []
unfolding keeping
nothing_to_keep from [] = refl
nothing_to_keep from (x ∷ old) = refl

first_kept : (count from : ℕ) (old new : List ℕ) → take count (keeping from old new) ≡ keeping from (take count old) (take count new)
unfolding keeping
first_kept zero from old new = refl
first_kept (suc count) from [] new = refl
first_kept (suc count) from (x ∷ old) [] = refl
first_kept (suc count) from (x ∷ old) (a ∷ new) = ap (λ l. cond (read_only from) x a ∷ l) (first_kept count (suc from) old new)

rest_kept : (k from : ℕ) (old new : List ℕ) → drop k (keeping from old new) ≡ keeping (from + k) (drop k old) (drop k new)
unfolding keeping
rest_kept zero from old new = ap (λ (a : ℕ). keeping a old new) (sym (add-zero from))
rest_kept (suc k) from [] new = refl
rest_kept (suc k) from (x ∷ old) [] = sym (nothing_to_keep (from + suc k) (drop k old))
rest_kept (suc k) from (x ∷ old) (a ∷ new) =
    let next : suc from + k ≡ from + suc k = omega arith in
    rest_kept k (suc from) old new ∙ ap (λ (n : ℕ). keeping n (drop k old) (drop k new)) next

a_stretch_kept : (k count from : ℕ) (old new : List ℕ) → stretch k count (keeping from old new) ≡ keeping (from + k) (stretch k count old) (stretch k count new)
a_stretch_kept k count from old new = ap (take count) (rest_kept k from old new) ∙ first_kept count (from + k) (drop k old) (drop k new)

-- ---- a store in EDAC memory

no_bytes : (l : List ℕ) → length l ≡ 0 → l ≡ []
no_bytes [] e = refl
no_bytes (x ∷ l) e = absurd (omega arith)

-- storing what stands there changes nothing
pub what_stands_there_is_stored : (held : List ℕ) (at count : ℕ) → at + count ≤ length held → stored held at (stretch at count held) ≡ held
unfolding stored
what_stands_there_is_stored held at count fits =
    ap₂ (λ start (n : ℕ). start ++ drop (at + n) held) (sym (take-add at count held)) (length_of_a_stretch held at count fits)
    ∙ take-append-drop (at + count) held

module _ (edac : List ℕ) (at : ℕ) (bytes : List ℕ) where
  abbrev old : List ℕ
  old = stretch at (length bytes) edac

  abbrev new : List ℕ
  new = keeping at old bytes

  as_many : length new ≡ length old
  as_many = let size = length-take (length bytes) (drop at edac) in kept_as_long at old bytes (omega arith)

  -- Whatever is stored, and wherever, read-only bytes stay as they are.
  pub a_write_keeps_read_only_bytes : KeepsReadOnly edac (written edac at bytes)
  unfolding written
  a_write_keeps_read_only_bytes =
      let rest = length-drop at edac in
      let size = length-take (length bytes) (drop at edac) in
      let many = as_many in
      either_side at (length edac)
      (λ inside.
      let fits : at + length new ≤ length edac = omega arith in
      record {
        same_length = a_store_keeps_the_length edac at new fits;
        same_bytes = λ n so. a_byte_after_a_store edac at new fits n ∙ here n so;
      })
      (λ outside.
      let none : new ≡ [] = no_bytes new (omega arith) in
      let same : stored edac at new ≡ edac = ap (stored edac at) none ∙ nothing_stored edac at in
      record { same_length = ap length same; same_bytes = λ n so. ap (λ l. get_or l n 0) same })
    where
      -- a read-only byte among those that are stored is stored as it stood
      there : (n : ℕ) → read_only n ≡ true → at ≤ n → n < at + length new → get_or new (n - at) 0 ≡ get_or edac n 0
      there n so low high =
          let size = length-take (length bytes) (drop at edac) in
          let many = as_many in
          let place : at + (n - at) ≡ n = omega arith in
          a_byte_kept at old bytes (n - at) (omega arith) (omega arith)
          ∙ ap (λ b. cond b (get_or old (n - at) 0) (get_or bytes (n - at) 0)) (ap read_only place ∙ so)
          ∙ in_a_stretch edac at (length bytes) (n - at) (omega arith)
          ∙ ap (λ (m : ℕ). get_or edac m 0) place

      here : (n : ℕ) → read_only n ≡ true → cond (leb at n && ltb n (at + length new)) (get_or new (n - at) 0) (get_or edac n 0) ≡ get_or edac n 0
      here n so = apart (leb at n) (ltb n (at + length new)) refl refl
        where
          apart : (a b : Bool) → leb at n ≡ a → ltb n (at + length new) ≡ b → cond (a && b) (get_or new (n - at) 0) (get_or edac n 0) ≡ get_or edac n 0
          apart true true ea eb = there n so (leb-true at n ea) (ltb-true n (at + length new) eb)
          apart true false ea eb = refl
          apart false b ea eb = refl

  -- And so does every byte that was not sent.
  pub a_byte_outside_a_write_stays : (n : ℕ) → (n < at) ⊎ (at + length bytes ≤ n) → get_or (written edac at bytes) n 0 ≡ get_or edac n 0
  unfolding written
  a_byte_outside_a_write_stays n apart =
      let rest = length-drop at edac in
      let size = length-take (length bytes) (drop at edac) in
      let many = as_many in
      either_side at (length edac)
      (λ inside. a_byte_after_a_store edac at new (omega arith) n ∙ outside (omega arith) apart)
      (λ past. ap (λ l. get_or l n 0) (ap (stored edac at) (no_bytes new (omega arith)) ∙ nothing_stored edac at))
    where
      outside : length new ≤ length bytes → (n < at) ⊎ (at + length bytes ≤ n)
          → cond (leb at n && ltb n (at + length new)) (get_or new (n - at) 0) (get_or edac n 0) ≡ get_or edac n 0
      outside few (inl before) = simp (lt-leb at n before)
      outside few (inr past) = simp (le-leb at n (omega arith), le-ltb n (at + length new) (omega arith))

  module _ (fits : at + length bytes ≤ length edac) where
    exactly : length old ≡ length bytes
    exactly = length_of_a_stretch edac at (length bytes) fits

    -- Byte for byte over the whole of EDAC memory: the old byte where it is read-only, and elsewhere the one that a plain store leaves.
    pub a_write_is_a_store_that_keeps : written edac at bytes ≡ keeping 0 edac (stored edac at bytes)
    unfolding written stored
    a_write_is_a_store_that_keeps =
        let start = length-take-le at edac (omega arith) in
        let many : length new ≡ length bytes = as_many ∙ exactly in
        let begin : length (take at edac ++ old) ≡ at + length bytes = length-append (take at edac) old ∙ omega (arith, exactly) in
        let began : length (take at edac ++ bytes) ≡ at + length bytes = length-append (take at edac) bytes ∙ omega arith in
        let whole : (take at edac ++ old) ++ drop (at + length bytes) edac ≡ edac
        = ap (λ l. l ++ drop (at + length bytes) edac) (sym (take-add at (length bytes) edac)) ∙ take-append-drop (at + length bytes) edac in
        sym
        (ap (λ l. keeping 0 l (stored edac at bytes)) (sym whole)
        ∙ kept_in_parts 0 (take at edac ++ old) (drop (at + length bytes) edac) (take at edac ++ bytes) (drop (at + length bytes) edac) (begin ∙ sym began)
        ∙ ap₂ (λ a b. a ++ b)
        (kept_in_parts 0 (take at edac) old (take at edac) bytes refl
        ∙ ap₂ (λ a (n : ℕ). a ++ keeping n old bytes) (kept_as_it_was 0 (take at edac)) (omega arith))
        (kept_as_it_was (0 + length (take at edac ++ old)) (drop (at + length bytes) edac))
        ∙ ap (λ (n : ℕ). take at edac ++ new ++ drop (at + n) edac) (sym many))

    writable_there : (n : ℕ) → read_only n ≡ false → at ≤ n → n < at + length bytes → get_or (written edac at bytes) n 0 ≡ get_or bytes (n - at) 0
    writable_there n free low high =
        let same = a_store_keeps_the_length edac at bytes fits in
        ap (λ l. get_or l n 0) a_write_is_a_store_that_keeps
        ∙ a_byte_kept 0 edac (stored edac at bytes) n (omega arith) (omega arith)
        ∙ ap (λ b. cond b (get_or edac n 0) (get_or (stored edac at bytes) n 0)) (ap read_only (zero-add n) ∙ free)
        ∙ a_byte_after_a_store edac at bytes fits n
        ∙ simp (le-leb at n low, lt-ltb n (at + length bytes) high)

    pub a_write_address_by_address : Writes edac at bytes (written edac at bytes)
    a_write_address_by_address =
        let kept = a_write_keeps_read_only_bytes in record {
          same_length = kept.same_length;
          a_read_only_byte_stays = kept.same_bytes;
          a_writable_byte_is_stored = writable_there;
          any_other_byte_stays = a_byte_outside_a_write_stays;
        }

    pub stretch_of_a_write : stretch at (length bytes) (written edac at bytes) ≡ new
    unfolding written
    stretch_of_a_write =
        ap (λ (n : ℕ). stretch at n (stored edac at new)) (sym (as_many ∙ exactly)) ∙ stretch_of_a_store edac at new (omega arith)

    -- What is read after it.
    pub what_is_read_after_a_write : (count from : ℕ) → from + count ≤ length edac
        → stretch from count (written edac at bytes) ≡ written_over at bytes from (stretch from count edac)
    what_is_read_after_a_write count from inside =
        ap (stretch from count) a_write_is_a_store_that_keeps
        ∙ a_stretch_kept from count 0 edac (stored edac at bytes)
        ∙ ap₂ (λ (n : ℕ) l. keeping n (stretch from count edac) l) (zero-add from) (what_is_read_after_a_store edac at bytes fits count from inside)

    -- Where all bytes of it are writable, it is a plain store; where none is, it changes nothing.
    pub a_write_of_writable_bytes : ((i : ℕ) → at ≤ i → i < at + length bytes → read_only i ≡ false) → written edac at bytes ≡ stored edac at bytes
    unfolding written
    a_write_of_writable_bytes free =
        ap (stored edac at) (kept_alike false at old bytes exactly (λ i low high. free i low (omega (arith, exactly))))

    pub a_write_of_read_only_bytes : ((i : ℕ) → at ≤ i → i < at + length bytes → read_only i ≡ true) → written edac at bytes ≡ edac
    unfolding written
    a_write_of_read_only_bytes all =
        ap (stored edac at) (kept_alike true at old bytes exactly (λ i low high. all i low (omega (arith, exactly))))
        ∙ what_stands_there_is_stored edac at (length bytes) fits
