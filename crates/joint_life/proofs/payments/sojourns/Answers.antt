use Rattle.std.proofs.Common.{◌<◌, length, sym, subst, ap, ◌∙◌}
use Rattle.std.specs.Prelude.{All}
use Rattle.std.proofs.lemmas.List.{get_or-map, length-map}
use Rattle.model_specs.specs.Product as model
use Rattle.payment_plan.specs.Payments.{Payments}
use Rattle.payment_plan.specs.Records.{sojourn_of, sojourns_of}
use Rattle.product_reader.proofs.Grown.{one_more_of}
use Rattle.joint_life.proofs.MoveLists.{all_of_map}
use Rattle.joint_life.proofs.Records.{joint_sojourn}
use Rattle.joint_life.proofs.payments.sojourns.Goals as goal

pub sojourn-requires-clause-inside : goal.sojourn-requires-clause-inside
sojourn-requires-clause-inside c =
    let a = c.args.a.now in
    subst (λ s. s.0 < length a.states) (sym c.index-paid-i.is)
    (all_of_map sojourn_of (λ (s : model.Sojourn). s.state < length a.states) c.sojourns-paid.result.now
    (subst (All (λ (s : model.Sojourn). s.state < length a.states))
    (sym (c.sojourns-paid.ensures.sojourns ∙ ap (λ (ps : Payments). ps.sojourns) c.plan.ensures.payments))
    c.requires.first.payments.states) c.loop-i.i c.index-paid-i.result c.loop-i-test.true)

pub loop-i-preserved : goal.loop-i-preserved
loop-i-preserved c =
    let paid = c.sojourns-paid.result.now in
    let joint = joint_sojourn c.args.b.now in
    rw c.in_ok-push.ensures.items (one_more_of sojourn_of joint (sojourns_of paid) c.loop-i.i
    (sojourn_of c.index-paid-i.result) c.loop-i.sojourns.items _ c.loop-i.invariant
    (c.in_ok-sojourn.ensures ∙ ap (λ s. joint (sojourn_of s)) c.index-paid-i.is
    ∙ ap joint (sym (get_or-map sojourn_of paid c.loop-i.i c.index-paid-i.result (sojourn_of c.index-paid-i.result)
    c.loop-i-test.true)))
    (subst (λ n. c.loop-i.i < n) (sym (length-map paid sojourn_of)) c.loop-i-test.true))
