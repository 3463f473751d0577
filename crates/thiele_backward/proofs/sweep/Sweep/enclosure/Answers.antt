use Rattle.std.proofs.Common.{◌<◌, ◌∙◌, sym, subst, rules, ap, length, FitsSigned}
use Rattle.std.specs.Prelude.{pos, ◌+ℤ◌}
use Rattle.std.specs.Int.{w128}
use Rattle.std.proofs.lemmas.Int.{to_z-of_z}
use Rattle.thiele_backward.specs.Sweeps.{BackwardSweep, width_of}
use Rattle.thiele_backward.proofs.Enclosed.{EnclosesValues, encloses_values, encloses_reserves}
use Rattle.thiele_backward.proofs.KeptRuns.{numbers_most, width-is}
use Rattle.thiele_backward.proofs.sweep.Sweep.enclosure.Goals as goal

pub number_of-requires : goal.number_of-requires
number_of-requires c =
    rw (c.deref.ensures.value, c.self.invariant.runs.long)
    (subst (λ (s : BackwardSweep). c.args.state < length s.product.states) (sym c.self.view_is) c.requires)

pub around-requires-clause-mid : goal.around-requires-clause-mid
around-requires-clause-mid c =
    let fits : FitsSigned w128 c.number_of.result = search rules in
    simp to_z-of_z (rw (c.number_of.ensures, c.deref.ensures.value)
    (numbers_most _ _ _ _ _ _ c.self.invariant.runs c.args.state))

pub returns-clause-width : goal.returns-clause-width
returns-clause-width c =
    c.around.ensures.width
    ∙ ap (λ w. c.around.result.lo +ℤ pos w)
    (width-is _ _ _ _ _ _ c.self.invariant.runs ∙ ap width_of c.self.view_is)

pub returns-clause-values : goal.returns-clause-values
returns-clause-values c =
    let fits : FitsSigned w128 c.number_of.result = search rules in
    let spares = simp to_z-of_z at c.around.ensures.spares in
    subst (λ (s : BackwardSweep). EnclosesValues s c.args.state c.around.result) c.self.view_is
    (encloses_values _ _ _ _ _ _ c.self.invariant.runs c.args.state
    (subst (λ (s : BackwardSweep). c.args.state < length s.product.states) (sym c.self.view_is) c.requires)
    c.around.result (rw (c.number_of.ensures, c.deref.ensures.value) at spares))

pub returns-clause-reserves : goal.returns-clause-reserves
returns-clause-reserves c =
    encloses_reserves c.args.self.now c.args.state c.around.result (returns-clause-values c)
