-- What a list that is judged fit is, and what storing and the command then come to (02, T-11). Assumes nothing.
use mathlib.Core.Path.{◌≡◌, refl, sym, ◌∙◌, subst}
use mathlib.Core.Bool.{Bool, true, false}
use mathlib.Core.Logic.{inl, inr}
use mathlib.Core.List.{List}
use Prim.Native.Nat.{ℕ, ◌-◌, ◌≤◌, ◌<◌}
use native.Mathlib.Omega.{arith}
use borrow.Author.Tests.{ltb-true, leb-true, lt-ltb, le-leb, eqb-true, eqb-false, eq-eqb, ne_eqb}
use lib.Dec.{eqb, ltb, leb}
use lib.ListN.{length, drop, length-drop}
use Rattle.memory.specs.Edac.{edac_size}
use Rattle.read_only.proofs.Runs.{both}
use Rattle.field.specs.Reading.{is_whole}
use Rattle.carrying.specs.Ending.{is_limit, done, refused}
use Rattle.file_commands.specs.ReadFile.{files_shown}
use Rattle.file_commands.specs.WriteFile.{listed, files_of, files_stored, judge_list_of, storage, store_list_of, StoringLeaves, write_file_of}

pub rest_of_a_list : (start : ℕ) (list : List ℕ) → length (drop start list) ≡ length list - start
rest_of_a_list = length-drop

-- what it is to be fit
pub record Fit (limit : ℕ) (list : List ℕ) : Type 0 where
  pub limited : is_limit limit ≡ true
  pub some : 0 < length list
  pub short : length list ≤ limit
  pub whole : is_whole (listed list) ≡ true

module _ (limit : ℕ) (list : List ℕ) where
  pub what_is_fit : judge_list_of limit list ≡ true → Fit limit list
  unfolding judge_list_of
  what_is_fit e =
      let first = both (is_limit limit) _ e in
      let second = both (ltb 0 (length list)) _ first.1 in
      let third = both (leb (length list) limit) (is_whole (listed list)) second.1 in
      record {
        limited = first.0;
        some = ltb-true 0 (length list) second.0;
        short = leb-true (length list) limit third.0;
        whole = third.1;
      }

  -- what is neither empty nor too long is judged by how it ends
  pub judged_by_its_end : is_limit limit ≡ true → 0 < length list → length list ≤ limit → judge_list_of limit list ≡ is_whole (listed list)
  unfolding judge_list_of
  judged_by_its_end limited some short = simp (limited, lt-ltb 0 (length list) some, le-leb (length list) limit short)

  pub so_it_is_fit : Fit limit list → judge_list_of limit list ≡ true
  so_it_is_fit fit = judged_by_its_end fit.limited fit.some fit.short ∙ fit.whole

-- ---- storing

module _ (limit : ℕ) (edac list : List ℕ) where
  pub wrong_edac_memory_is_left : (length edac ≡ edac_size → ⊥) → store_list_of limit edac list ≡ storage 21 edac
  unfolding store_list_of
  wrong_edac_memory_is_left wrong = simp (ne_eqb (length edac) edac_size wrong)

  module _ (size : length edac ≡ edac_size) where
    pub a_fit_list_is_stored : judge_list_of limit list ≡ true → store_list_of limit edac list ≡ storage 0 (files_stored edac (listed list))
    unfolding store_list_of
    a_fit_list_is_stored fit = simp (eq-eqb (length edac) edac_size size, fit)

    pub an_unfit_list_is_not_stored : judge_list_of limit list ≡ false → store_list_of limit edac list ≡ storage 4 edac
    unfolding store_list_of
    an_unfit_list_is_not_stored unfit = simp (eq-eqb (length edac) edac_size size, unfit)

pub what_storing_leaves : (limit : ℕ) (edac list : List ℕ) → StoringLeaves limit edac list (store_list_of limit edac list)
what_storing_leaves limit edac list = by (eqb (length edac) edac_size) (judge_list_of limit list) refl refl
  where
    by : (long fit : Bool) → eqb (length edac) edac_size ≡ long → judge_list_of limit list ≡ fit → StoringLeaves limit edac list (store_list_of limit edac list)
    by true true el ef =
        let size = eqb-true (length edac) edac_size el in
        subst (StoringLeaves limit edac list) (sym (a_fit_list_is_stored limit edac list size ef)) (record {
          stored = λ _. (size, ef, refl);
          unfit = λ e. absurd (omega arith);
          wrong = λ e. absurd (omega arith);
          no_other = inl refl;
        })
    by true false el ef =
        let size = eqb-true (length edac) edac_size el in
        subst (StoringLeaves limit edac list) (sym (an_unfit_list_is_not_stored limit edac list size ef)) (record {
          stored = λ e. absurd (omega arith);
          unfit = λ _. (size, ef, refl);
          wrong = λ e. absurd (omega arith);
          no_other = inr (inl refl);
        })
    by false fit el ef =
        let wrong = eqb-false (length edac) edac_size el in
        subst (StoringLeaves limit edac list) (sym (wrong_edac_memory_is_left limit edac list wrong)) (record {
          stored = λ e. absurd (omega arith);
          unfit = λ e. absurd (omega arith);
          wrong = λ _. (wrong, refl);
          no_other = inr (inr refl);
        })

-- ---- the command

module _ (room : ℕ) (edac field : List ℕ) where
  pub a_fit_list_is_written : judge_list_of room field ≡ true
      → write_file_of room edac field ≡ done (files_shown (files_stored edac (listed field)) (files_of (listed field))) (files_stored edac (listed field))
  unfolding write_file_of
  a_fit_list_is_written fit = simp fit

  pub an_unfit_list_is_refused : judge_list_of room field ≡ false → write_file_of room edac field ≡ refused
  unfolding write_file_of
  an_unfit_list_is_refused unfit = simp unfit
