-- The refusals: one law for each way through the tests, and what is known where none is due. Assumes nothing.
use mathlib.Core.Path.{◌≡◌}
use mathlib.Core.Bool.{Bool, true, false}
use Prim.Native.Nat.{ℕ, ◌≤◌, ◌<◌}
use borrow.Author.Tests.{lt-ltb, le-ltb, eq-eqb, ne_eqb}
use Rattle.std.proofs.Common.{Err}
use Rattle.memory.specs.Edac.{edac_size}
use Rattle.judging.specs.declared.Lengths.{Lengths}
use Rattle.answer.specs.declared.Answer.TheVariants.{BadStrap, BadEdac, BadFram, BadSums, BadDiagnostics, BadBuffers}
use Rattle.judging.specs.Fitting.{Fit, last_strap, sums_fit, too_short, lengths_fit}
use Rattle.memory.specs.Counts.{channels}

-- ---- 20 to 25, lowest number first

module _ (strap : ℕ) (fits : Bool) (l : Lengths) (next : Fit) where
  pub refused_20 : last_strap < strap → Err BadStrap ≡ lengths_fit strap fits l next
  unfolding lengths_fit
  refused_20 a = simp (lt-ltb last_strap strap a)

  module _ (a : strap ≤ last_strap) where
    pub refused_21 : (l.edac ≡ edac_size → ⊥) → Err BadEdac ≡ lengths_fit strap fits l next
    unfolding lengths_fit
    refused_21 e = simp (le-ltb last_strap strap a, ne_eqb l.edac edac_size e)

    module _ (e : l.edac ≡ edac_size) where
      pub refused_22 : fits ≡ false → Err BadFram ≡ lengths_fit strap fits l next
      unfolding lengths_fit
      refused_22 f = simp (le-ltb last_strap strap a, eq-eqb l.edac edac_size e, f)

      module _ (f : fits ≡ true) where
        pub refused_23 : sums_fit l ≡ false → Err BadSums ≡ lengths_fit strap fits l next
        unfolding lengths_fit
        refused_23 s = simp (le-ltb last_strap strap a, eq-eqb l.edac edac_size e, f, s)

        module _ (s : sums_fit l ≡ true) where
          pub refused_24 : (l.diagnostics ≡ channels → ⊥) → Err BadDiagnostics ≡ lengths_fit strap fits l next
          unfolding lengths_fit
          refused_24 d = simp (le-ltb last_strap strap a, eq-eqb l.edac edac_size e, f, s, ne_eqb l.diagnostics channels d)

          module _ (d : l.diagnostics ≡ channels) where
            pub refused_25_on_0 : too_short l.message0 l.reply0 ≡ true → Err BadBuffers ≡ lengths_fit strap fits l next
            unfolding lengths_fit
            refused_25_on_0 m = simp (le-ltb last_strap strap a, eq-eqb l.edac edac_size e, f, s, eq-eqb l.diagnostics channels d, m)

            module _ (m : too_short l.message0 l.reply0 ≡ false) where
              pub refused_25_on_1 : too_short l.message1 l.reply1 ≡ true → Err BadBuffers ≡ lengths_fit strap fits l next
              unfolding lengths_fit
              refused_25_on_1 r = simp (le-ltb last_strap strap a, eq-eqb l.edac edac_size e, f, s, eq-eqb l.diagnostics channels d, m, r)

              pub not_refused : too_short l.message1 l.reply1 ≡ false → next ≡ lengths_fit strap fits l next
              unfolding lengths_fit
              not_refused r = simp (le-ltb last_strap strap a, eq-eqb l.edac edac_size e, f, s, eq-eqb l.diagnostics channels d, m, r)
