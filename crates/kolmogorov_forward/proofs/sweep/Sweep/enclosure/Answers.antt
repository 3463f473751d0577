use Rattle.std.proofs.Common.{◌<◌, ◌≤◌, ◌∙◌, ℕ, sym, subst, rules, ap, length, FitsSigned}
use Rattle.std.specs.Prelude.{pos, ◌+ℤ◌, ◌*◌}
use Rattle.std.specs.Int.{w128}
use Rattle.std.proofs.lemmas.Int.{to_z-of_z}
use Rattle.fixed_interval.specs.Intervals.{LiesIn}
use Rattle.model_specs.specs.Ledgers.{radius_forward}
use Rattle.model_specs.specs.Runs.{probability}
use Rattle.kolmogorov_forward.specs.Sweeps.{ForwardSweep}
use Rattle.kolmogorov_forward.proofs.Enclosed.{encloses_probability}
use Rattle.kolmogorov_forward.proofs.KeptRuns.{number_fits, width-is}
use Rattle.kolmogorov_forward.proofs.sweep.Sweep.enclosure.Goals as goal

pub number_of-requires : goal.number_of-requires
number_of-requires c =
    rw (c.deref.ensures.value, c.self.invariant.long)
    (subst (λ (s : ForwardSweep). c.args.state < length s.product.states) (sym c.self.view_is) c.requires)

pub around-requires-clause-mid : goal.around-requires-clause-mid
around-requires-clause-mid c =
    let fits : FitsSigned w128 c.number_of.result = search rules in
    let inside = subst (λ (s : ForwardSweep). c.args.state < length s.product.states) (sym c.self.view_is) c.requires in
    simp to_z-of_z (rw (c.number_of.ensures, c.deref.ensures.value)
    (number_fits _ _ _ _ _ c.self.invariant c.args.state (rw c.self.invariant.long inside)))

pub returns-clause-width : goal.returns-clause-width
returns-clause-width c =
    c.around.ensures.width
    ∙ ap (λ w. c.around.result.lo +ℤ pos w)
    (width-is _ _ _ _ _ c.self.invariant
    ∙ ap (λ (s : ForwardSweep). 2 * radius_forward s.product s.date) c.self.view_is)

pub returns-clause-probabilities : goal.returns-clause-probabilities
returns-clause-probabilities c =
    let fits : FitsSigned w128 c.number_of.result = search rules in
    let inside = subst (λ (s : ForwardSweep). c.args.state < length s.product.states) (sym c.self.view_is) c.requires in
    let encloses = simp to_z-of_z at c.around.ensures.encloses in
    subst (λ (s : ForwardSweep). (n : ℕ) → s.degree ≤ n
    → LiesIn (probability s.product n s.date c.args.state) c.around.result) c.self.view_is
    (encloses_probability c.self.inside.product.value c.self.inside.degree c.self.inside.date c.self.inside.radius
    c.args.state c.self.inside.mid.items c.around.result c.self.invariant.radius_is c.self.invariant.near
    (rw c.self.invariant.long inside) (rw (c.number_of.ensures, c.deref.ensures.value) at encloses))
