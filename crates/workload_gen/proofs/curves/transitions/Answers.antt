use Rattle.std.proofs.Common.{◌≡◌, map, ap, ◌∙◌}
use Rattle.toml.specs.Data.{array}
use Rattle.toml.specs.View.{view, items_of}
use Rattle.workload_gen.specs.Tree.{transitions}
use Rattle.workload_gen.proofs.DrawSteps.{four_transitions}
use Rattle.workload_gen.proofs.curves.transitions.Goals as goal

pub returns : goal.returns
returns c =
    let items : map view c.push-4.new.self.items ≡ transitions c.args.draws.now.state =
    rw (
      c.in_ok-push-4.ensures.items,
      c.in_ok-push-3.ensures.items,
      c.in_ok-push-2.ensures.items,
      c.in_ok-push.ensures.items,
      c.new-items.ensures.items,
    )
    (four_transitions c.args.draws.now.state _ _ _ _ _ _ _ c.in_ok-transition.ensures.state
    c.in_ok-transition-2.ensures.state c.in_ok-transition-3.ensures.state c.in_ok-transition.ensures.value
    c.in_ok-transition-2.ensures.value c.in_ok-transition-3.ensures.value c.in_ok-transition-4.ensures.value) in
    c.from.ensures ∙ ap (λ ds. array (items_of ds)) items
