use Rattle.std.proofs.Common.{◌≡◌, refl, ap, ◌∙◌, length}
use Rattle.state_graph.specs.StateGraphs.{StateGraph}
use Rattle.cell_coeffs.specs.declared.job.Job.{Job}
use Rattle.cell_coeffs.specs.declared.job.Job.TheVariants.{First}
use Rattle.cell_coeffs.specs.Jobs.{degree_of}
use Rattle.cell_coeffs.proofs.MadeSystems.{made_for_first}
use Rattle.cell_coeffs.proofs.places.system_for.Goals as goal

degree-is : (job : Job) → degree_of job ≡ 8
degree-is (First which) = refl

pub returns : goal.returns
returns c =
    let states = c.states.ensures.count ∙ ap (λ (g : StateGraph). length g.names) c.graph.ensures.graph in
    let degree = c.degree_of.ensures ∙ degree-is c.args.job in
    made_for_first c.args.p.now c.deref.result.now c.in_ok-system.system c.pairs_agree.ensures
    (c.deref.ensures.value ∙ c.in_ok-links.ensures) (rw (states, degree) at c.in_ok-system.ensures.made)
