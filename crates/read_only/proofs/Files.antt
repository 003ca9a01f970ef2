-- Files of EDAC memory: which are read-only, and what writing one leaves, and shows. Assumes nothing.
use mathlib.Core.Path.{◌≡◌, refl, sym, ap, ap₂, ◌∙◌}
use mathlib.Core.Bool.{Bool, true, false, cond, ◌&&◌, ◌||◌, false≢true}
use mathlib.Core.List.{List, [], ◌∷◌}
use mathlib.Core.Logic.{inl, inr}
use Prim.Native.Nat.{ℕ, zero, suc, ◌+◌, ◌-◌, ◌≤◌, ◌<◌}
use native.Mathlib.Nat.{not-suc-le-zero}
use native.Mathlib.Omega.{arith}
use borrow.Author.Tests.{ne_eqb, eqb-true, eqb-false, ltb-false, le-leb}
use lib.Dec.{ltb, eqb}
use lib.ListN.{length, take, drop, set, get_or, length-set, length-drop}
use lib.Seq.{length-take-le, take_all, get_or-set_same}
use Rattle.memory.specs.Bytes.{stretch, stored}
use Rattle.memory.specs.Edac.{edac_size, mode_place, byte_address, body_size, file_shown}
use Rattle.memory.proofs.Stretches.{a_byte_stored, stretch_before_a_store, stretch_after_a_store, stretch_of_a_store}
use Rattle.memory.proofs.Overlays.{a_byte_past_a_store}
use Rattle.memory.proofs.Tests.{either_side}
use Rattle.read_only.specs.ReadOnly.{read_only, written, KeepsReadOnly}
use Rattle.read_only.specs.Files.{file_stored, file_read_only, of_file}
use Rattle.read_only.proofs.Keeping.{also_kept, a_write_keeps_read_only_bytes, a_byte_outside_a_write_stays, a_write_of_writable_bytes, a_write_of_read_only_bytes}
use Rattle.read_only.proofs.Runs.{both, are_all_so, all_so}

-- ---- which files are read-only

-- Whether of each file below `count` the four bytes stand alike.
abbrev alike_below : ℕ → Bool
alike_below zero = true
alike_below (suc n) = are_all_so (file_read_only n) (byte_address n) 4 && alike_below n

one_of_them : (count file : ℕ) → alike_below count ≡ true → file < count → are_all_so (file_read_only file) (byte_address file) 4 ≡ true
one_of_them zero file all below = absurd (not-suc-le-zero below)
one_of_them (suc n) file all below =
    let two = both (are_all_so (file_read_only n) (byte_address n) 4) (alike_below n) all in
    either_side n file
    (λ last. let same : file ≡ n = omega arith in ap (λ (m : ℕ). are_all_so (file_read_only m) (byte_address m) 4) same ∙ two.0)
    (λ before. one_of_them n file two.1 before)

-- The four bytes of a file are all read-only, or all writable.
pub a_file_stands_alike : (file : ℕ) → file < 256 → (i : ℕ) → byte_address file ≤ i → i < byte_address file + 4 → read_only i ≡ file_read_only file
unfolding read_only
a_file_stands_alike file small i low high = all_so (file_read_only file) 4 (byte_address file) (one_of_them 256 file refl small) i low high

-- ---- storing

first_byte : (body : List ℕ) → 0 < length body → take 1 body ≡ get_or body 0 0 ∷ []
first_byte [] some = absurd (not-suc-le-zero some)
first_byte (byte ∷ rest) some = refl

-- File 0 as ever: the mode byte and bytes 0 to 3 are writable.
pub file_0_is_stored : (edac body : List ℕ) → length edac ≡ edac_size → length body ≡ body_size 0
    → file_stored edac 0 body ≡ stored (set edac mode_place (get_or body 0 0)) 0 (drop 1 body)
unfolding file_stored body_size read_only
file_0_is_stored edac body size five =
    let four = length-drop 1 body in
    let same = length-set edac mode_place (get_or body 0 0) in
    let one = length-take-le 1 body (omega arith) in
    let mode : written edac mode_place (take 1 body) ≡ set edac mode_place (get_or body 0 0)
    = a_write_of_writable_bytes edac mode_place (take 1 body) (omega arith) (λ i low high. all_so false 1 mode_place refl i low (omega arith))
    ∙ ap (stored edac mode_place) (first_byte body (omega arith))
    ∙ sym (a_byte_stored edac mode_place (get_or body 0 0) (omega arith)) in
    ap (λ l. written l 0 (drop 1 body)) mode
    ∙ a_write_of_writable_bytes (set edac mode_place (get_or body 0 0)) 0 (drop 1 body) (omega arith) (λ i low high. all_so false 4 0 refl i low (omega arith))

-- Any other file is stored where it is writable, and left alone where it is read-only.
pub a_writable_file_is_stored : (edac : List ℕ) (file : ℕ) (body : List ℕ) → length edac ≡ edac_size → file < 255 → length body ≡ 4 → file_read_only (suc file) ≡ false
    → file_stored edac (suc file) body ≡ stored edac (byte_address (suc file)) body
unfolding file_stored
a_writable_file_is_stored edac file body size small four so =
    a_write_of_writable_bytes edac (byte_address (suc file)) body (omega arith)
    (λ i low high. a_file_stands_alike (suc file) (omega arith) i low (omega arith) ∙ so)

pub a_read_only_file_is_left_alone : (edac : List ℕ) (file : ℕ) (body : List ℕ) → length edac ≡ edac_size → file < 255 → length body ≡ 4 → file_read_only (suc file) ≡ true
    → file_stored edac (suc file) body ≡ edac
unfolding file_stored
a_read_only_file_is_left_alone edac file body size small four so =
    a_write_of_read_only_bytes edac (byte_address (suc file)) body (omega arith)
    (λ i low high. a_file_stands_alike (suc file) (omega arith) i low (omega arith) ∙ so)

pub store_file_0 : (edac body : List ℕ) (file : ℕ) → length edac ≡ edac_size → length body ≡ body_size file → file ≡ 0
    → stored (set edac mode_place (get_or body 0 0)) 0 (take (length body - 1) (drop 1 body)) ≡ file_stored edac file body
store_file_0 edac body file size five e =
    ap (stored (set edac mode_place (get_or body 0 0)) 0) (take_all (length body - 1) (drop 1 body) (simp length-drop (omega arith)))
    ∙ sym (ap (λ (f : ℕ). file_stored edac f body) e ∙ file_0_is_stored edac body size (five ∙ ap body_size e))

-- the two ways of any other file, by how its first byte stands
module _ (edac body : List ℕ) (file start : ℕ) (so : Bool) (size : length edac ≡ edac_size) (small : file < 256) (long : length body ≡ body_size file)
    (other : file ≡ 0 → ⊥) (e : start ≡ byte_address file) (stands : so ≡ read_only start) where
  pub store_another : so ≡ false → stored edac start body ≡ file_stored edac file body
  unfolding body_size
  store_another free = by_file file small long other (sym e) (ap read_only (sym e) ∙ sym stands ∙ free)
    where
      by_file : (f : ℕ) → f < 256 → length body ≡ body_size f → (f ≡ 0 → ⊥) → byte_address f ≡ start → file_read_only f ≡ false → stored edac start body ≡ file_stored edac f body
      by_file zero low four none at free = absurd (none refl)
      by_file (suc n) low four none at free =
          ap (λ (a : ℕ). stored edac a body) (sym at) ∙ sym (a_writable_file_is_stored edac n body size (omega arith) four free)

  pub leave_another : so ≡ true → edac ≡ file_stored edac file body
  unfolding body_size
  leave_another kept = by_file file small long other (ap read_only (sym e) ∙ sym stands ∙ kept)
    where
      by_file : (f : ℕ) → f < 256 → length body ≡ body_size f → (f ≡ 0 → ⊥) → file_read_only f ≡ true → edac ≡ file_stored edac f body
      by_file zero low four none kept = absurd (none refl)
      by_file (suc n) low four none kept = sym (a_read_only_file_is_left_alone edac n body size (omega arith) four kept)

pub a_stored_file_keeps_read_only_bytes : (edac : List ℕ) (file : ℕ) (body : List ℕ) → KeepsReadOnly edac (file_stored edac file body)
unfolding file_stored
a_stored_file_keeps_read_only_bytes edac zero body =
    also_kept (a_write_keeps_read_only_bytes edac mode_place (take 1 body)) (a_write_keeps_read_only_bytes (written edac mode_place (take 1 body)) 0 (drop 1 body))
a_stored_file_keeps_read_only_bytes edac (suc n) body = a_write_keeps_read_only_bytes edac (byte_address (suc n)) body

pub neither : (a b : Bool) → (a || b) ≡ false → (a ≡ false) × (b ≡ false)
neither false b e = (refl, e)
neither true b e = absurd (false≢true (sym e))

-- A byte that is not of the file stays.
pub a_byte_of_another_file_stays : (edac : List ℕ) (file : ℕ) (body : List ℕ) (n : ℕ) → length body ≡ body_size file → of_file file n ≡ false
    → get_or (file_stored edac file body) n 0 ≡ get_or edac n 0
unfolding file_stored body_size
a_byte_of_another_file_stays edac zero body n five not =
    let four = length-drop 1 body in
    let one = length-take-le 1 body (omega arith) in
    let two = neither (ltb n 4) (eqb n mode_place) not in
    let past = ltb-false n 4 two.0 in
    let other = eqb-false n mode_place two.1 in
    a_byte_outside_a_write_stays (written edac mode_place (take 1 body)) 0 (drop 1 body) n (inr (omega arith))
    ∙ a_byte_outside_a_write_stays edac mode_place (take 1 body) n
    (either_side (suc n) mode_place (λ before. inl before)
    (λ there. inr (either_side (suc mode_place) n (λ behind. omega arith) (λ here. absurd (other (omega arith))))))
a_byte_of_another_file_stays edac (suc m) body n four not =
    a_byte_outside_a_write_stays edac (byte_address (suc m)) body n
    (either_side (byte_address (suc m)) n
    (λ there. inr (behind (simp (le-leb (byte_address (suc m)) n there) at not)))
    (λ before. inl before))
  where
    behind : ltb n (byte_address (suc m) + 4) ≡ false → byte_address (suc m) + length body ≤ n
    behind e = let past = ltb-false n (byte_address (suc m) + 4) e in omega arith

-- ---- a file shown after one was stored

-- a body of five bytes is its first and the other four
first_and_rest : (body : List ℕ) → 0 < length body → get_or body 0 0 ∷ drop 1 body ≡ body
first_and_rest [] some = absurd (not-suc-le-zero some)
first_and_rest (byte ∷ rest) some = refl

-- a file stored whether it is writable or not
abbrev plainly : List ℕ → ℕ → List ℕ → List ℕ
plainly edac zero body = stored (set edac mode_place (get_or body 0 0)) 0 (drop 1 body)
plainly edac (suc n) body = stored edac (byte_address (suc n)) body

-- files do not meet: what a file then shows is the body that was stored in it, or what it showed before
after_a_plain_store : (edac : List ℕ) (named : ℕ) (body : List ℕ) (file : ℕ) → length edac ≡ edac_size → named < 256 → file < 256 → length body ≡ body_size named
    → file_shown (plainly edac named body) file ≡ file ∷ cond (eqb named file) body (drop 1 (file_shown edac file))
unfolding file_shown body_size
after_a_plain_store edac zero body zero size low small five =
    let four = length-drop 1 body in
    let held = set edac mode_place (get_or body 0 0) in
    let same = length-set edac mode_place (get_or body 0 0) in
    let past : get_or (stored held 0 (drop 1 body)) mode_place 0 ≡ get_or body 0 0
    = a_byte_past_a_store held 0 (drop 1 body) mode_place (omega arith) (omega arith) ∙ get_or-set_same edac mode_place (get_or body 0 0) 0 (omega arith) in
    let long : 4 ≡ length (drop 1 body) = omega arith in
    let bytes : stretch 0 4 (stored held 0 (drop 1 body)) ≡ drop 1 body
    = ap (λ (n : ℕ). stretch 0 n (stored held 0 (drop 1 body))) long ∙ stretch_of_a_store held 0 (drop 1 body) (omega arith) in
    ap (λ l. 0 ∷ l) (ap₂ (λ (m : ℕ) l. m ∷ l) past bytes ∙ first_and_rest body (omega arith))
after_a_plain_store edac (suc n) body zero size low small four =
    ap₂ (λ (m : ℕ) l. 0 ∷ m ∷ l)
    (a_byte_past_a_store edac (byte_address (suc n)) body mode_place (omega arith) (omega arith))
    (stretch_before_a_store edac (byte_address (suc n)) body 0 4 (omega arith) (omega arith))
    ∙ ap (λ b. 0 ∷ cond b body (get_or edac mode_place 0 ∷ stretch 0 4 edac)) (sym (ne_eqb (suc n) 0 (λ e. omega arith)))
after_a_plain_store edac zero body (suc m) size low small five =
    let four = length-drop 1 body in
    let held = set edac mode_place (get_or body 0 0) in
    let same = length-set edac mode_place (get_or body 0 0) in
    ap (λ l. suc m ∷ l)
    (stretch_after_a_store held 0 (drop 1 body) (byte_address (suc m)) 4 (omega arith) (omega arith)
    ∙ ap (stretch (byte_address (suc m)) 4) (a_byte_stored edac mode_place (get_or body 0 0) (omega arith))
    ∙ stretch_before_a_store edac mode_place (get_or body 0 0 ∷ []) (byte_address (suc m)) 4 (omega arith) (omega arith))
    ∙ ap (λ b. suc m ∷ cond b body (stretch (byte_address (suc m)) 4 edac)) (sym (ne_eqb 0 (suc m) (λ e. omega arith)))
after_a_plain_store edac (suc n) body (suc m) size low small four = ap (λ l. suc m ∷ l) (apart (eqb (suc n) (suc m)) refl)
  where
    apart : (b : Bool) → eqb (suc n) (suc m) ≡ b
        → stretch (byte_address (suc m)) 4 (stored edac (byte_address (suc n)) body) ≡ cond b body (stretch (byte_address (suc m)) 4 edac)
    apart true e =
        let there : byte_address (suc m) ≡ byte_address (suc n) = ap byte_address (sym (eqb-true (suc n) (suc m) e)) in
        ap₂ (λ (a k : ℕ). stretch a k (stored edac (byte_address (suc n)) body)) there (sym four)
        ∙ stretch_of_a_store edac (byte_address (suc n)) body (omega arith)
    apart false e =
        either_side (suc n) m
        (λ below. stretch_after_a_store edac (byte_address (suc n)) body (byte_address (suc m)) 4 (omega arith) (omega arith))
        (λ above.
        let other = eqb-false (suc n) (suc m) e in
        let more : suc m < suc n = either_side (suc n) (suc m) (λ low. absurd (other (omega arith))) (λ high. high) in
        stretch_before_a_store edac (byte_address (suc n)) body (byte_address (suc m)) 4 (omega arith) (omega arith))

-- what a file shows is its address and a body
pub an_address_and_a_body : (edac : List ℕ) (file : ℕ) → file_shown edac file ≡ file ∷ drop 1 (file_shown edac file)
unfolding file_shown
an_address_and_a_body edac zero = refl
an_address_and_a_body edac (suc n) = refl

-- What a file shows after one was stored: of a read-only file what it showed before, of another the body that was stored in it, or what
-- it showed before.
module _ (edac : List ℕ) (named : ℕ) (body : List ℕ) (file : ℕ) (size : length edac ≡ edac_size) (low : named < 256) (small : file < 256)
    (long : length body ≡ body_size named) where
  abbrev had : List ℕ
  had = drop 1 (file_shown edac file)

  -- the file that was stored is the only one that may change, and is as it was if it is read-only
  if_read_only : file_read_only named ≡ true → had ≡ cond (file_read_only file) had (cond (eqb named file) body had)
  if_read_only so = apart (eqb named file) (file_read_only file) refl refl
    where
      apart : (same b : Bool) → eqb named file ≡ same → file_read_only file ≡ b → had ≡ cond b had (cond same body had)
      apart true false es eb = absurd (false≢true (sym eb ∙ ap file_read_only (sym (eqb-true named file es)) ∙ so))
      apart true true es eb = refl
      apart false true es eb = refl
      apart false false es eb = refl

  if_writable : file_read_only named ≡ false → cond (eqb named file) body had ≡ cond (file_read_only file) had (cond (eqb named file) body had)
  if_writable so = apart (eqb named file) (file_read_only file) refl refl
    where
      apart : (same b : Bool) → eqb named file ≡ same → file_read_only file ≡ b → cond same body had ≡ cond b had (cond same body had)
      apart true true es eb = absurd (false≢true (sym so ∙ ap file_read_only (eqb-true named file es) ∙ eb))
      apart true false es eb = refl
      apart false true es eb = refl
      apart false false es eb = refl

pub a_file_after_a_store : (edac : List ℕ) (named : ℕ) (body : List ℕ) (file : ℕ) → length edac ≡ edac_size → named < 256 → file < 256 → length body ≡ body_size named
    → file_shown (file_stored edac named body) file
    ≡ file ∷ cond (file_read_only file) (drop 1 (file_shown edac file)) (cond (eqb named file) body (drop 1 (file_shown edac file)))
unfolding body_size read_only
a_file_after_a_store edac zero body file size low small long =
    ap (λ l. file_shown l file) (file_0_is_stored edac body size long)
    ∙ after_a_plain_store edac zero body file size low small long
    ∙ ap (λ l. file ∷ l) (if_writable edac zero body file size low small long refl)
a_file_after_a_store edac (suc n) body file size low small long = apart (file_read_only (suc n)) refl
  where
    apart : (b : Bool) → file_read_only (suc n) ≡ b
        → file_shown (file_stored edac (suc n) body) file
        ≡ file ∷ cond (file_read_only file) (drop 1 (file_shown edac file)) (cond (eqb (suc n) file) body (drop 1 (file_shown edac file)))
    apart true so =
        ap (λ l. file_shown l file) (a_read_only_file_is_left_alone edac n body size (omega arith) long so)
        ∙ an_address_and_a_body edac file
        ∙ ap (λ l. file ∷ l) (if_read_only edac (suc n) body file size low small long so)
    apart false so =
        ap (λ l. file_shown l file) (a_writable_file_is_stored edac n body size (omega arith) long so)
        ∙ after_a_plain_store edac (suc n) body file size low small long
        ∙ ap (λ l. file ∷ l) (if_writable edac (suc n) body file size low small long so)
