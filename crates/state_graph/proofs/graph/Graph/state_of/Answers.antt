use Rattle.std.proofs.Common.{◌≡◌, ◌<◌, length, arith, rules, ap, sym, ◌∙◌}
use Rattle.std.specs.Prelude.{slice_get, Some}
use Rattle.std.proofs.lemmas.Option.{slice_get-get_or}
use Rattle.state_graph.proofs.NamedStates.{state_is_found, no_state_is_found, name_is_unknown}
use Rattle.state_graph.proofs.graph.Graph.state_of.Goals as goal

pub returns-then-eq-clause-found : goal.returns-then-eq-clause-found
returns-then-eq-clause-found c =
    let within : c.loop-i.i < length c.args.self.now.names = omega arith in
    let same : c.name.result.now ≡ c.args.name.now = search rules in
    let here : slice_get c.args.self.now.names c.loop-i.i ≡ Some c.args.name.now =
    slice_get-get_or c.args.self.now.names c.loop-i.i _ within ∙ ap Some (sym c.name.ensures ∙ same) in
    state_is_found _ _ _ c.states-i-end.ensures.lawful.names here

pub returns-clause-found : goal.returns-clause-found
returns-clause-found c = no_state_is_found _ _ (λ k b. c.loop-i.invariant k (omega arith))

pub returns-clause-unknown : goal.returns-clause-unknown
returns-clause-unknown c = name_is_unknown _ _ (λ k b. c.loop-i.invariant k (omega arith))
