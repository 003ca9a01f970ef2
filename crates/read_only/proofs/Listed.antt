-- Rows in rising order: what they say of an address is how it stands, and they may be cut where they do not touch. Assumes nothing.
use mathlib.Core.Path.{◌≡◌, refl, sym, ap, ap₂, subst, ◌∙◌}
use mathlib.Core.Bool.{Bool, true, false, cond, not, ◌&&◌, and-false}
use mathlib.Core.List.{List, [], ◌∷◌, ◌++◌}
use mathlib.Core.Logic.{◌⊎◌, inl, inr}
use Prim.Native.Nat.{ℕ, zero, suc, ◌+◌, ◌-◌, ◌≤◌, ◌<◌}
use native.Mathlib.Nat.{add-zero, not-suc-le-zero}
use native.Mathlib.Omega.{arith}
use borrow.Author.Tests.{lt-ltb, le-ltb, le-leb, lt-leb, leb-true, ltb-true, ltb-false}
use lib.Dec.{leb, ltb}
use lib.ListN.{length, get_or, take, drop, length-append, length-drop, get_or-eq_default}
use native.Mathlib.Numerals.{add-one}
use lib.Seq.{drop-cons, drop-length, drop-nil, get_or-drop, get_or-take, get_or_at, take_all, take_at, take-suc, take-take}
use Rattle.memory.specs.Edac.{edac_size}
use Rattle.memory.proofs.Tests.{either_side}
use Rattle.read_only.specs.declared.rows.Run.{Run}
use Rattle.read_only.specs.ReadOnly.{row, read_only}
use Rattle.read_only.specs.Runs.{run, run_of}
use Rattle.read_only.specs.Listed.{first, last, in_some_or, in_some, rising, begins, touching, ends, run_in, apart, searchable}
use Rattle.read_only.proofs.Runs.{both, Stands, the_run}

-- ---- rows in rising order

rises : (from : ℕ) (entry : List ℕ) (rows : List (List ℕ)) (end : ℕ) → rising from (entry ∷ rows) end ≡ true
    → (from ≤ first entry) × (first entry ≤ last entry) × (rising (last entry + 1) rows end ≡ true)
unfolding rising
rises from entry rows end e =
    let one = both (leb from (first entry)) (leb (first entry) (last entry) && rising (last entry + 1) rows end) e in
    let two = both (leb (first entry) (last entry)) (rising (last entry + 1) rows end) one.1 in
    (leb-true _ _ one.0, leb-true _ _ two.0, two.1)

so_they_rise : (from : ℕ) (entry : List ℕ) (rows : List (List ℕ)) (end : ℕ) → from ≤ first entry → first entry ≤ last entry → rising (last entry + 1) rows end ≡ true
    → rising from (entry ∷ rows) end ≡ true
unfolding rising
so_they_rise from entry rows end low some e = simp (le-leb from (first entry) low, le-leb (first entry) (last entry) some, e)

begin_behind : (from : ℕ) (rows : List (List ℕ)) (end : ℕ) → rising from rows end ≡ true → from ≤ begins rows end
unfolding rising
begin_behind from [] end e = leb-true from end e
begin_behind from (entry ∷ rows) end e = (rises from entry rows end e).0

begin_before_the_end : (from : ℕ) (rows : List (List ℕ)) (end : ℕ) → rising from rows end ≡ true → begins rows end ≤ end
begin_before_the_end from [] end e = omega arith
begin_before_the_end from (entry ∷ rows) end e =
    let up = rises from entry rows end e in
    let behind = begin_behind (last entry + 1) rows end up.2 in
    let before = begin_before_the_end (last entry + 1) rows end up.2 in
    omega (arith, up.1)

-- ---- in a row, or in none

in_one : (rows : List (List ℕ)) (at : ℕ) → in_some_or true rows at ≡ true
unfolding in_some_or
in_one [] at = refl
in_one (entry ∷ rows) at = in_one rows at

in_the_row : (entry : List ℕ) (rows : List (List ℕ)) (at : ℕ) → first entry ≤ at → at ≤ last entry → in_some (entry ∷ rows) at ≡ true
unfolding in_some_or
in_the_row entry rows at low high =
    ap (λ b. in_some_or b rows at) (ap₂ ◌&&◌ (le-leb (first entry) at low) (le-leb at (last entry) high)) ∙ in_one rows at

-- an address that is not in a list's first row
past_the_row : (entry : List ℕ) (rows : List (List ℕ)) (at : ℕ) → row (first entry) (last entry) at ≡ false → in_some (entry ∷ rows) at ≡ in_some rows at
unfolding in_some_or
past_the_row entry rows at e = ap (λ b. in_some_or b rows at) e

before_the_row : (entry : List ℕ) (rows : List (List ℕ)) (at : ℕ) → at < first entry → in_some (entry ∷ rows) at ≡ in_some rows at
before_the_row entry rows at low = past_the_row entry rows at (ap (λ b. b && leb at (last entry)) (lt-leb (first entry) at low))

behind_the_row : (entry : List ℕ) (rows : List (List ℕ)) (at : ℕ) → last entry < at → in_some (entry ∷ rows) at ≡ in_some rows at
behind_the_row entry rows at high = past_the_row entry rows at (ap (λ b. leb (first entry) at && b) (lt-leb at (last entry) high) ∙ and-false (leb (first entry) at))

none_before : (from : ℕ) (rows : List (List ℕ)) (end at : ℕ) → rising from rows end ≡ true → at < begins rows end → in_some rows at ≡ false
unfolding in_some_or
none_before from [] end at e low = refl
none_before from (entry ∷ rows) end at e low =
    let up = rises from entry rows end e in
    let behind = begin_behind (last entry + 1) rows end up.2 in
    before_the_row entry rows at low ∙ none_before (last entry + 1) rows end at up.2 (omega (arith, up.1))

-- ---- how an address stands

-- the first row, with those that touch it
record Touches (rows : List (List ℕ)) (end : ℕ) : Type 0 where
  pub in_order : begins rows end ≤ ends rows end
  pub below : ends rows end ≤ end
  pub all : (i : ℕ) → begins rows end ≤ i → i < ends rows end → in_some rows i ≡ true
  pub no_more : (ends rows end ≡ end) ⊎ (in_some rows (ends rows end) ≡ false)

one_row_more : (entry : List ℕ) (rows : List (List ℕ)) (end : ℕ) → first entry ≤ last entry → rising (last entry + 1) rows end ≡ true → Touches rows end
    → Touches (entry ∷ rows) end
unfolding ends
one_row_more entry rows end some e next = by (ltb (last entry + 1) (begins rows end)) refl
  where
    behind : last entry + 1 ≤ begins rows end
    behind = begin_behind (last entry + 1) rows end e

    before : begins rows end ≤ end
    before = begin_before_the_end (last entry + 1) rows end e

    by : (b : Bool) → ltb (last entry + 1) (begins rows end) ≡ b → Touches (entry ∷ rows) end
    by true t =
        let gap = ltb-true (last entry + 1) (begins rows end) t in
        let stop : ends (entry ∷ rows) end ≡ last entry + 1 = ap (λ b. cond b (last entry + 1) (ends rows end)) t in
        record {
          in_order = omega (arith, behind, before, some);
          below = omega (arith, behind, before);
          all = λ i low high. in_the_row entry rows i low (omega arith);
          no_more = inr (ap (in_some (entry ∷ rows)) stop ∙ behind_the_row entry rows (last entry + 1) (omega arith) ∙ none_before (last entry + 1) rows end (last entry + 1) e gap);
        }
    by false t =
        let meets = ltb-false (last entry + 1) (begins rows end) t in
        let stop : ends (entry ∷ rows) end ≡ ends rows end = ap (λ b. cond b (last entry + 1) (ends rows end)) t in
        let far = next.in_order in
        let near = next.below in
        record {
          in_order = omega (arith, behind, some);
          below = omega arith;
          all = λ i low high. either_side i (last entry) (λ here. in_the_row entry rows i low here)
              (λ later. behind_the_row entry rows i later ∙ next.all i (omega arith) (omega arith));
          no_more = ends_there stop (omega (arith, behind)) next.no_more;
        }
      where
        ends_there : ends (entry ∷ rows) end ≡ ends rows end → last entry < ends rows end → (ends rows end ≡ end) ⊎ (in_some rows (ends rows end) ≡ false)
            → (ends (entry ∷ rows) end ≡ end) ⊎ (in_some (entry ∷ rows) (ends (entry ∷ rows) end) ≡ false)
        ends_there same past (inl there) = inl (same ∙ there)
        ends_there same past (inr free) = inr (ap (in_some (entry ∷ rows)) same ∙ behind_the_row entry rows (ends rows end) past ∙ free)

touches : (from : ℕ) (rows : List (List ℕ)) (end : ℕ) → rising from rows end ≡ true → Touches rows end
unfolding ends
touches from [] end e = record { in_order = omega arith; below = omega arith; all = λ i low high. absurd (omega arith); no_more = inl refl }
touches from (entry ∷ rows) end e =
    let up = rises from entry rows end e in
    one_row_more entry rows end up.1 up.2 (touches (last entry + 1) rows end up.2)

ends_behind : (entry : List ℕ) (rows : List (List ℕ)) (end : ℕ) → rising (last entry + 1) rows end ≡ true → last entry < ends (entry ∷ rows) end
unfolding ends
ends_behind entry rows end e = by (ltb (last entry + 1) (begins rows end))
  where
    by : (b : Bool) → last entry < cond b (last entry + 1) (ends rows end)
    by true = omega arith
    by false =
        let behind = begin_behind (last entry + 1) rows end e in
        let far = (touches (last entry + 1) rows end e).in_order in
        omega arith

-- an address before the rows
before_the_rows : (rows : List (List ℕ)) (end at : ℕ) → at < begins rows end → run_in rows end at ≡ run false (begins rows end)
unfolding run_in
before_the_rows [] end at low = refl
before_the_rows (entry ∷ rows) end at low = simp (lt-ltb at (first entry) low)

-- one in the first row, and one behind it
in_the_first : (entry : List ℕ) (rows : List (List ℕ)) (end at : ℕ) → first entry ≤ at → at ≤ last entry → run_in (entry ∷ rows) end at ≡ run true (ends (entry ∷ rows) end)
unfolding run_in
in_the_first entry rows end at low high = simp (le-ltb at (first entry) low, le-leb at (last entry) high)

behind_the_first : (entry : List ℕ) (rows : List (List ℕ)) (end at : ℕ) → first entry ≤ at → last entry < at → run_in (entry ∷ rows) end at ≡ run_in rows end at
unfolding run_in
behind_the_first entry rows end at low high = simp (le-ltb at (first entry) low, lt-leb at (last entry) high)

-- What rows in rising order say of an address is how it stands.
pub stands : (from : ℕ) (rows : List (List ℕ)) (end at : ℕ) → rising from rows end ≡ true → at < end → Stands (in_some rows) end at (run_in rows end at)
unfolding run_in in_some_or
stands from [] end at e inside = record { past = inside; within = omega arith; alike = λ i low high. refl; stops = inl refl }
stands from (entry ∷ rows) end at e inside =
    let up = rises from entry rows end e in
    either_side (first entry) at
    (λ begun.
    either_side at (last entry)
    (λ here. here_it_stands (touches from (entry ∷ rows) end e) (ends_behind entry rows end up.2) begun here)
    (λ later. subst (Stands (in_some (entry ∷ rows)) end at) (sym (behind_the_first entry rows end at begun later))
    (as_the_others (run_in rows end at) later (stands (last entry + 1) rows end at up.2 inside))))
    (λ early. subst (Stands (in_some (entry ∷ rows)) end at) (sym (before_the_rows (entry ∷ rows) end at early))
    record {
      past = early;
      within = begin_before_the_end from (entry ∷ rows) end e;
      alike = λ i low high. none_before from (entry ∷ rows) end i e high;
      stops = inr (in_the_row entry rows (first entry) (omega arith) up.1);
    })
  where
    here_it_stands : Touches (entry ∷ rows) end → last entry < ends (entry ∷ rows) end → first entry ≤ at → at ≤ last entry
        → Stands (in_some (entry ∷ rows)) end at (run_in (entry ∷ rows) end at)
    here_it_stands t far begun here =
        subst (Stands (in_some (entry ∷ rows)) end at) (sym (in_the_first entry rows end at begun here))
        record {
          past = omega arith;
          within = t.below;
          alike = λ i low high. t.all i (omega arith) high;
          stops = t.no_more;
        }

    as_the_others : (r : Run) → last entry < at → Stands (in_some rows) end at r → Stands (in_some (entry ∷ rows)) end at r
    as_the_others r later s =
        let past = s.past in
        record {
          past = past;
          within = s.within;
          alike = λ i low high. behind_the_row entry rows i (omega arith) ∙ s.alike i low high;
          stops = the_same (omega arith) s.stops;
        }
      where
        the_same : last entry < r.end → (r.end ≡ end) ⊎ (in_some rows r.end ≡ not r.read_only) → (r.end ≡ end) ⊎ (in_some (entry ∷ rows) r.end ≡ not r.read_only)
        the_same past (inl there) = inl there
        the_same past (inr other) = inr (behind_the_row entry rows r.end past ∙ other)

-- So rows in rising order that have the read-only bytes, and no other, give the run of each address.
pub the_list_gives_the_run : (rows : List (List ℕ)) (at : ℕ) → rising 0 rows edac_size ≡ true → ((i : ℕ) → read_only i ≡ in_some rows i) → at < edac_size
    → run_in rows edac_size at ≡ run_of at
the_list_gives_the_run rows at e same inside =
    let s = stands 0 rows edac_size at e inside in
    the_run at (run_in rows edac_size at)
    record { past = s.past; within = s.within; alike = λ i low high. same i ∙ s.alike i low high; stops = there s.stops }
  where
    there : ((run_in rows edac_size at).end ≡ edac_size) ⊎ (in_some rows (run_in rows edac_size at).end ≡ not (run_in rows edac_size at).read_only)
        → ((run_in rows edac_size at).end ≡ edac_size) ⊎ (read_only (run_in rows edac_size at).end ≡ not (run_in rows edac_size at).read_only)
    there (inl end) = inl end
    there (inr other) = inr (same (run_in rows edac_size at).end ∙ other)

-- ---- rows cut into parts

rises_higher : (k : ℕ) (from : ℕ) (rows : List (List ℕ)) (end : ℕ) → rising from rows end ≡ true → k < length rows → from ≤ first (get_or rows k [])
rises_higher k from [] end e short = absurd (not-suc-le-zero short)
rises_higher zero from (entry ∷ rows) end e short = (rises from entry rows end e).0
rises_higher (suc k) from (entry ∷ rows) end e short =
    let up = rises from entry rows end e in
    let far = rises_higher k (last entry + 1) rows end up.2 (omega arith) in
    omega (arith, up.0, up.1)

-- An address at or behind the beginning of a row: the rows before that one say nothing of it.
skipped : (k : ℕ) (from : ℕ) (rows : List (List ℕ)) (end at : ℕ) → rising from rows end ≡ true → k < length rows → first (get_or rows k []) ≤ at
    → run_in rows end at ≡ run_in (drop k rows) end at
skipped k from [] end at e short begun = absurd (not-suc-le-zero short)
skipped zero from (entry ∷ rows) end at e short begun = refl
skipped (suc k) from (entry ∷ rows) end at e short begun =
    let up = rises from entry rows end e in
    let far = rises_higher k (last entry + 1) rows end up.2 (omega arith) in
    behind_the_first entry rows end at (omega (arith, up.1)) (omega arith)
    ∙ skipped k (last entry + 1) rows end at up.2 (omega arith) begun

begins_at : (k : ℕ) (rows : List (List ℕ)) (end : ℕ) → k < length rows → begins (drop k rows) end ≡ first (get_or rows k [])
begins_at k rows end short = ap (λ l. begins l end) (drop-cons rows k [] short)

-- a row before rows that say the same of an address
and_so_with_a_row : (entry : List ℕ) (rows others : List (List ℕ)) (end end' at : ℕ) → ends (entry ∷ rows) end ≡ ends (entry ∷ others) end' → run_in rows end at ≡ run_in others end' at
    → run_in (entry ∷ rows) end at ≡ run_in (entry ∷ others) end' at
unfolding run_in
and_so_with_a_row entry rows others end end' at = ap₂ (λ (n : ℕ) r. cond (ltb at (first entry)) (run false (first entry)) (cond (leb at (last entry)) (run true n) r))

-- rows cut before one that the row before does not touch
module _ (end : ℕ) where
  -- where the part before the cut ends
  abbrev cut_at : ℕ → List (List ℕ) → ℕ
  cut_at k rows = begins (drop (suc k) rows) end

  cut_begins : (k : ℕ) (rows : List (List ℕ)) → k < length rows → begins (take (suc k) rows) (cut_at k rows) ≡ begins rows end
  cut_begins k [] short = absurd (not-suc-le-zero short)
  cut_begins k (entry ∷ rows) short = refl

  cut_ends : (k : ℕ) (rows : List (List ℕ)) → k < length rows → last (get_or rows k []) + 1 < cut_at k rows → ends (take (suc k) rows) (cut_at k rows) ≡ ends rows end
  unfolding ends
  cut_ends k [] short gap = absurd (not-suc-le-zero short)
  cut_ends zero (entry ∷ rows) short gap = simp (lt-ltb (last entry + 1) (begins rows end) gap)
  cut_ends (suc k) (entry ∷ rows) short gap = ap₂ (touching (last entry + 1)) (cut_begins k rows (omega arith)) (cut_ends k rows (omega arith) gap)

  -- An address before the cut: the rows behind it say nothing of it.
  cut : (k : ℕ) (rows : List (List ℕ)) (at : ℕ) → k < length rows → last (get_or rows k []) + 1 < cut_at k rows → at < cut_at k rows
      → run_in rows end at ≡ run_in (take (suc k) rows) (cut_at k rows) at
  unfolding run_in
  cut k [] at short gap low = absurd (not-suc-le-zero short)
  cut zero (entry ∷ rows) at short gap low =
      and_so_with_a_row entry rows [] end (begins rows end) at (sym (cut_ends zero (entry ∷ rows) short gap)) (before_the_rows rows end at low)
  cut (suc k) (entry ∷ rows) at short gap low =
      and_so_with_a_row entry rows (take (suc k) rows) end (cut_at k rows) at (sym (cut_ends (suc k) (entry ∷ rows) short gap)) (cut k rows at (omega arith) gap low)

  rising_before : (k : ℕ) (from : ℕ) (rows : List (List ℕ)) → k < length rows → rising from rows end ≡ true → rising from (take (suc k) rows) (cut_at k rows) ≡ true
  unfolding rising
  rising_before k from [] short e = absurd (not-suc-le-zero short)
  rising_before zero from (entry ∷ rows) short e =
      let up = rises from entry rows end e in
      let behind = begin_behind (last entry + 1) rows end up.2 in
      so_they_rise from entry [] (begins rows end) up.0 up.1 (le-leb (last entry + 1) (begins rows end) behind)
  rising_before (suc k) from (entry ∷ rows) short e =
      let up = rises from entry rows end e in
      so_they_rise from entry (take (suc k) rows) (cut_at k rows) up.0 up.1 (rising_before k (last entry + 1) rows (omega arith) up.2)

rising_from : (from lower : ℕ) (rows : List (List ℕ)) (end : ℕ) → lower ≤ from → rising from rows end ≡ true → rising lower rows end ≡ true
unfolding rising
rising_from from lower [] end less e = let within = leb-true from end e in le-leb lower end (omega arith)
rising_from from lower (entry ∷ rows) end less e =
    let up = rises from entry rows end e in
    so_they_rise lower entry rows end (omega (arith, up.0)) up.1 up.2

rising_behind : (k from : ℕ) (rows : List (List ℕ)) (end : ℕ) → rising from rows end ≡ true → rising 0 (drop k rows) end ≡ true
unfolding rising
rising_behind k from [] end e = ap (λ l. rising 0 l end) (drop-nil k) ∙ le-leb 0 end (omega arith)
rising_behind zero from (entry ∷ rows) end e = rising_from from 0 (entry ∷ rows) end (omega arith) e
rising_behind (suc k) from (entry ∷ rows) end e = rising_behind k (last entry + 1) rows end (rises from entry rows end e).2

pub a_row_lies_below : (k : ℕ) (from : ℕ) (rows : List (List ℕ)) (end : ℕ) → rising from rows end ≡ true → k < length rows
    → (first (get_or rows k []) ≤ last (get_or rows k [])) × (last (get_or rows k []) < end)
a_row_lies_below k from [] end e short = absurd (not-suc-le-zero short)
a_row_lies_below zero from (entry ∷ rows) end e short =
    let up = rises from entry rows end e in
    let behind = begin_behind (last entry + 1) rows end up.2 in
    let before = begin_before_the_end (last entry + 1) rows end up.2 in
    (up.1, omega arith)
a_row_lies_below (suc k) from (entry ∷ rows) end e short = a_row_lies_below k (last entry + 1) rows end (rises from entry rows end e).2 (omega arith)

-- a place where a list may be cut is one of its places
pub a_place_to_cut : (place : ℕ) (rows : List (List ℕ)) → apart place rows ≡ true → place < length rows
a_place_to_cut place rows t =
    let gap = ltb-true (last (get_or rows (place - 1) []) + 1) (first (get_or rows place [])) t in
    either_side (length rows) place
    (λ past. let none : first (get_or rows place []) ≡ 0 = ap first (get_or-eq_default rows [] past) in absurd (omega arith))
    (λ there. there)

-- the part before it
up_to_a_cut : (place : ℕ) (rows : List (List ℕ)) (end at : ℕ) → rising 0 rows end ≡ true → apart place rows ≡ true → at < first (get_or rows place [])
    → (rising 0 (take place rows) (first (get_or rows place [])) ≡ true) × (run_in rows end at ≡ run_in (take place rows) (first (get_or rows place [])) at)
up_to_a_cut zero rows end at e t low =
    let gap = ltb-true (last (get_or rows 0 []) + 1) (first (get_or rows 0 [])) t in
    let there = a_place_to_cut 0 rows t in
    absurd (omega (arith, (a_row_lies_below 0 0 rows end e there).0))
up_to_a_cut (suc k) rows end at e t low =
    let there = a_place_to_cut (suc k) rows t in
    let here = begins_at (suc k) rows end there in
    let gap = ltb-true (last (get_or rows (suc k - 1) []) + 1) (first (get_or rows (suc k) [])) t in
    let before : suc k - 1 ≡ k = omega arith in
    let same : last (get_or rows (suc k - 1) []) ≡ last (get_or rows k []) = ap (λ (j : ℕ). last (get_or rows j [])) before in (
      ap (λ (n : ℕ). rising 0 (take (suc k) rows) n) (sym here) ∙ rising_before end k 0 rows (omega arith) e,
      cut end k rows at (omega arith) (omega arith) (omega arith) ∙ ap (λ (n : ℕ). run_in (take (suc k) rows) n at) here,
    )

-- rows cut at a place, as the code has them
module _ (place : ℕ) (rows before behind : List (List ℕ)) (front : before ≡ take place rows) (back : behind ≡ drop place rows) where
  -- another place, in a part
  pub apart_before : (other : ℕ) → other < place → apart other rows ≡ true → apart other before ≡ true
  apart_before other less so =
      ap (apart other) front
      ∙ ap₂ (λ a b. ltb (last a + 1) (first b)) (get_or-take place rows (other - 1) [] (omega arith)) (get_or-take place rows other [] less)
      ∙ so

  pub apart_behind : (other : ℕ) → 0 < other → apart (place + other) rows ≡ true → apart other behind ≡ true
  apart_behind other some so =
      let same : place + (other - 1) ≡ place + other - 1 = omega arith in
      ap (apart other) back
      ∙ ap₂ (λ a b. ltb (last a + 1) (first b)) (get_or-drop place rows (other - 1) [] ∙ ap (λ (j : ℕ). get_or rows j []) same) (get_or-drop place rows other [])
      ∙ so

  pub rises_behind : (end : ℕ) → rising 0 rows end ≡ true → rising 0 behind end ≡ true
  rises_behind end e = ap (λ l. rising 0 l end) back ∙ rising_behind place 0 rows end e

  module _ (t : apart place rows ≡ true) where
    pub not_all_before : 0 < length behind
    not_all_before = let there = a_place_to_cut place rows t in rw (back, length-drop) (omega arith)

    -- `middle` is where the part behind begins
    module _ (end at middle : ℕ) (e : rising 0 rows end ≡ true) (m : middle ≡ first (get_or behind 0 [])) where
      begins_there : middle ≡ first (get_or rows place [])
      begins_there =
          m
          ∙ ap (λ l. first (get_or l 0 [])) back
          ∙ ap first (get_or-drop place rows 0 [] ∙ ap (λ (j : ℕ). get_or rows j []) (add-zero place))

      pub before_a_cut : at < middle → (rising 0 before middle ≡ true) × (run_in before middle at ≡ run_in rows end at)
      before_a_cut low =
          let so = up_to_a_cut place rows end at e t (omega (arith, begins_there)) in (
            ap₂ (λ l (n : ℕ). rising 0 l n) front begins_there ∙ so.0,
            ap₂ (λ l (n : ℕ). run_in l n at) front begins_there ∙ sym so.1,
          )

      pub behind_a_cut : middle ≤ at → run_in behind end at ≡ run_in rows end at
      behind_a_cut begun =
          ap (λ l. run_in l end at) back ∙ sym (skipped place 0 rows end at e (a_place_to_cut place rows t) (omega (arith, begins_there)))

pub what_is_searchable : (rows : List (List ℕ)) → searchable rows ≡ true
    → (rising 0 rows edac_size ≡ true) × (apart 9 rows ≡ true) × (apart 19 rows ≡ true) × (apart 29 rows ≡ true)
unfolding searchable
what_is_searchable rows t =
    let one = both (rising 0 rows edac_size) (apart 9 rows && (apart 19 rows && apart 29 rows)) t in
    let two = both (apart 9 rows) (apart 19 rows && apart 29 rows) one.1 in
    let three = both (apart 19 rows) (apart 29 rows) two.1 in
    (one.0, two.0, three.0, three.1)

-- ---- a walk over rows, from the last back

-- `rest` are the rows that are still to be walked, the first of all; the address lies before those behind them, of which it is known where they
-- begin, and where the first, with those that touch it, ends.
pub record Walked (rows : List (List ℕ)) (end at : ℕ) (rest : List (List ℕ)) (next stop : ℕ) : Type 0 where
  pub within : length rest ≤ length rows
  pub still : rest ≡ take (length rest) rows
  pub before : at < next
  pub begin : next ≡ begins (drop (length rest) rows) end
  pub stops : stop ≡ ends (drop (length rest) rows) end

pub walk_starts : (rows : List (List ℕ)) (end at : ℕ) → at < end → Walked rows end at rows end end
unfolding ends
walk_starts rows end at inside = record {
  within = omega arith;
  still = sym (take_all (length rows) rows (omega arith));
  before = inside;
  begin = ap (λ l. begins l end) (sym (drop-length rows));
  stops = ap (λ l. ends l end) (sym (drop-length rows));
}

pub the_last_apart : (rest : List (List ℕ)) → 1 ≤ length rest → rest ≡ take (length rest - 1) rest ++ (get_or rest (length rest - 1) [] ∷ [])
the_last_apart rest some =
    let all : length rest ≡ suc (length rest - 1) = omega arith in
    sym (take_all (length rest) rest (omega arith)) ∙ ap (λ (n : ℕ). take n rest) all ∙ take-suc rest (length rest - 1) [] (omega arith)

-- one turn, at the row before those that are walked already
module _ (rows : List (List ℕ)) (end at : ℕ) (rest left : List (List ℕ)) (this : List ℕ) (next stop : ℕ) (e : rising 0 rows end ≡ true)
    (w : Walked rows end at rest next stop) (turn : rest ≡ left ++ (this ∷ [])) where
  shorter : length rest ≡ length left + 1
  shorter = ap length turn ∙ length-append left (this ∷ [])

  it_is_this : get_or rows (length left) [] ≡ this
  it_is_this =
      sym (get_or-take (length rest) rows (length left) [] (omega (arith, shorter)))
      ∙ ap (λ l. get_or l (length left) []) (sym w.still ∙ turn)
      ∙ get_or_at left this [] [] (length left) refl

  one_more : drop (length left) rows ≡ this ∷ drop (length rest) rows
  one_more =
      let within = w.within in
      drop-cons rows (length left) [] (omega (arith, shorter))
      ∙ ap₂ (λ a (n : ℕ). a ∷ drop n rows) it_is_this (sym (shorter ∙ add-one (length left)))

  turn_ends : touching (last this + 1) next stop ≡ ends (drop (length left) rows) end
  unfolding ends
  turn_ends = ap₂ (touching (last this + 1)) w.begin w.stops ∙ ap (λ l. ends l end) (sym one_more)

  skips : first this ≤ at → run_in rows end at ≡ run_in (this ∷ drop (length rest) rows) end at
  skips begun =
      let within = w.within in
      skipped (length left) 0 rows end at e (omega (arith, shorter)) (rw it_is_this begun) ∙ ap (λ l. run_in l end at) one_more

  -- its addresses, and where it ends with those that touch it, as the code has them
  module _ (low high met : ℕ) (lo : low ≡ first this) (hi : high ≡ last this) (m : met ≡ touching (high + 1) next stop) where
    met_so : met ≡ touching (last this + 1) next stop
    met_so = m ∙ ap (λ (n : ℕ). touching (n + 1) next stop) hi

    pub found_in_a_row : low ≤ at → at ≤ high → run (leb at high) met ≡ run_in rows end at
    found_in_a_row begun here =
        ap₂ run (le-leb at high here) (met_so ∙ turn_ends ∙ ap (λ l. ends l end) one_more)
        ∙ sym (skips (omega arith) ∙ in_the_first this (drop (length rest) rows) end at (omega arith) (omega arith))

    pub found_between : low ≤ at → high < at → run (leb at high) next ≡ run_in rows end at
    found_between begun past =
        let before = w.before in
        ap₂ run (lt-leb at high past) w.begin
        ∙ sym (skips (omega arith)
        ∙ behind_the_first this (drop (length rest) rows) end at (omega arith) (omega arith)
        ∙ before_the_rows (drop (length rest) rows) end at (omega (arith, w.begin)))

    pub walks_on : at < low → Walked rows end at left low met
    walks_on early = let within = w.within in record {
      within = omega (arith, shorter);
      still =
          sym (take_at left (this ∷ []) (length left) refl)
          ∙ ap (take (length left)) (sym turn ∙ w.still)
          ∙ take-take (length left) (length rest) rows (omega (arith, shorter));
      before = early;
      begin = lo ∙ ap (λ l. begins l end) (sym one_more);
      stops = met_so ∙ turn_ends;
    }

pub found_before : (rows : List (List ℕ)) (end at : ℕ) (rest : List (List ℕ)) (next stop : ℕ) → Walked rows end at rest next stop → length rest ≡ 0
    → run false next ≡ run_in rows end at
found_before rows end at rest next stop w none =
    let begin : next ≡ begins rows end = w.begin ∙ ap (λ (j : ℕ). begins (drop j rows) end) none in
    let before = w.before in
    ap (run false) begin ∙ sym (before_the_rows rows end at (omega (arith, begin)))
