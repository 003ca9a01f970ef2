-- `judging::fitting::step_fit` meets its contract where what is lent is refused: what comes after it is not looked at. Assumes nothing.
use mathlib.Core.Path.{sym, ap, ◌∙◌}
use Rattle.std.proofs.Common.{Ok}
use Rattle.std.proofs.lemmas.Result.{err_from_is_err_and}
use Rattle.judging.specs.Fitting.{frams_as_set_up, lengths_fit, step_fit}
use Rattle.judging.proofs.Serving.{refused_all_the_same}
use Rattle.judging.proofs.fitting.step_fit.Goals as goal

pub returns-in_err-lengths_fit : goal.returns-in_err-lengths_fit
unfolding step_fit
returns-in_err-lengths_fit c =
    let a = c.args in
    let same = ap (λ f. lengths_fit a.unit.strap f a.lengths (Ok tt)) c.frams_as_set_up-as_set_up.ensures in
    let p = err_from_is_err_and c.from_residual.result c.from_residual.ensures.1 in
    rw (p.1, p.2)
    (refused_all_the_same a.unit.strap (frams_as_set_up a.unit a.lengths) a.lengths _ _ (sym same ∙ sym c.lengths_fit.ensures ∙ c.in_err-lengths_fit.was))
