use Rattle.std.proofs.Common.{◌≡◌, ◌+◌, ap, ◌∙◌}
use Rattle.toml.specs.Data.{string}
use Rattle.toml.specs.View.{members_view}
use Rattle.workload_gen.specs.Draws.{state_after}
use Rattle.workload_gen.specs.Tree.{array_of, lumps, annuity, transitions}
use Rattle.workload_gen.proofs.TopTable.{top_table}
use Rattle.workload_gen.proofs.generate.tree.Goals as goal

pub returns : goal.returns
unfolding state_after
returns c =
    let amount : 100000 + c.draw-amount.result ≡ annuity c.args.seed =
    rw (c.draw-amount.ensures.drawn, c.draw-amount.ensures.state) in
    let drawn : c.draw-amount.new.self.state ≡ state_after c.args.seed 1 = c.draw-amount.ensures.state in
    top_table c.args.seed _ _ _ _ _ _ _ _ _ _ _ _ _ _ _ _ _ _ _ _ _ (ap members_view c.new-tree.ensures.empty)
    c.in_ok-put.ensures c.in_ok-put-2.ensures c.in_ok-put-3.ensures c.in_ok-put-4.ensures c.in_ok-put-5.ensures
    c.in_ok-put-6.ensures c.in_ok-put-7.ensures c.in_ok-put-8.ensures c.in_ok-put-9.ensures c.in_ok-put-10.ensures
    c.from.ensures (c.from-2.ensures ∙ ap string c.in_ok-name.ensures.ok) c.from-3.ensures c.from-4.ensures
    c.in_ok-text.ensures c.in_ok-states.ensures c.in_ok-interest.ensures
    (c.in_ok-lumps.ensures ∙ ap (λ a. array_of (lumps a)) amount) c.in_ok-premium.ensures
    (c.in_ok-transitions.ensures ∙ ap (λ x. array_of (transitions x)) drawn)
