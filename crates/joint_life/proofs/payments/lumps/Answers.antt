use Rattle.std.proofs.Common.{◌<◌, length, sym, subst, ap, ◌∙◌}
use Rattle.std.specs.Prelude.{All, pos}
use Rattle.std.proofs.lemmas.List.{get_or-map, length-map}
use Rattle.model_specs.specs.Product as model
use Rattle.payment_plan.specs.declared.lump.Lump.{Lump}
use Rattle.payment_plan.specs.Payments.{Payments}
use Rattle.payment_plan.specs.Records.{lump_of, lumps_of}
use Rattle.product_reader.proofs.Grown.{one_more_of}
use Rattle.joint_life.proofs.MoveLists.{all_of_map}
use Rattle.joint_life.proofs.Records.{joint_lump}
use Rattle.joint_life.proofs.payments.lumps.Goals as goal

pub lump-requires-clause-inside : goal.lump-requires-clause-inside
lump-requires-clause-inside c =
    let a = c.args.a.now in
    all_of_map lump_of (λ (l : model.Lump). l.state < length a.states) c.lumps-paid.result.now
    (subst (All (λ (l : model.Lump). l.state < length a.states))
    (sym (c.lumps-paid.ensures.lumps ∙ ap (λ (ps : Payments). ps.lumps) c.plan.ensures.payments))
    c.requires.first.lumps.states) c.loop-i.i _ c.loop-i-test.true

pub loop-i-preserved : goal.loop-i-preserved
loop-i-preserved c =
    let paid = c.lumps-paid.result.now in
    let none : Lump = record { month = 0; state = 0; amount = pos 0 } in
    rw c.in_ok-push.ensures.items (one_more_of lump_of (joint_lump c.args.b.now) (lumps_of paid) c.loop-i.i
    (lump_of none) c.loop-i.lumps.items c.lump.result c.loop-i.invariant
    (c.lump.ensures
    ∙ ap (joint_lump c.args.b.now) (sym (get_or-map lump_of paid c.loop-i.i none (lump_of none) c.loop-i-test.true)))
    (subst (λ n. c.loop-i.i < n) (sym (length-map paid lump_of)) c.loop-i-test.true))
