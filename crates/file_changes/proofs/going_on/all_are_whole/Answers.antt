use Rattle.std.proofs.Common.{sym, subst, arith}
use Rattle.std.specs.Prelude.{All, IsTrue}
use Rattle.std.proofs.lemmas.List.{length-map, take_all}
use Rattle.std.proofs.lemmas.List.Elements.{All-more}
use Rattle.model_specs.specs.Product.{Sojourn}
use Rattle.model_specs.specs.RecordRules.{IsPayment}
use Rattle.payment_plan.specs.Records.{sojourn_of, sojourns_of}
use Rattle.payment_plan.specs.Tables.{is_payer}
use Rattle.file_changes.specs.ContinuousAsks.{GoesOnWhole}
use Rattle.file_changes.proofs.OwnSojourns.{Paid}
use Rattle.file_changes.proofs.PaidSojourns.{holds_of_sojourn, sojourn_is, inside_sojourns}
use Rattle.file_changes.proofs.going_on.all_are_whole.Goals as goal

pub is_whole-requires-clause-good : goal.is_whole-requires-clause-good
is_whole-requires-clause-good c =
    subst (λ (s : Paid). IsPayment c.args.months (sojourn_of s).steps) (sym c.index-sojourns-i.is)
    (holds_of_sojourn c.args.sojourns.now c.loop-i.i
    c.index-sojourns-i.result c.loop-i-test.true (λ (s : Sojourn). IsPayment c.args.months s.steps) c.requires.good)

pub returns-then-not-is_whole-clause-not_whole : goal.returns-then-not-is_whole-clause-not_whole
returns-then-not-is_whole-clause-not_whole c =
    let P : Sojourn → Type 0 = λ s. IsTrue (is_payer c.args.rule.now.payers.items s.state)
    → GoesOnWhole c.args.rule.now.until s.steps in
    λ refused all.
    c.is_whole.ensures.not_whole c.if-not-is_whole.true
    (subst (λ (s : Paid). P (sojourn_of s)) (sym c.index-sojourns-i.is)
    (holds_of_sojourn c.args.sojourns.now c.loop-i.i c.index-sojourns-i.result c.loop-i-test.true P all)
    (c.is_whole.ensures.payer c.if-not-is_whole.true))

pub loop-i-preserved : goal.loop-i-preserved
loop-i-preserved c =
    let P : Sojourn → Type 0 = λ s. IsTrue (is_payer c.args.rule.now.payers.items s.state)
    → GoesOnWhole c.args.rule.now.until s.steps in
    All-more P (sojourns_of c.args.sojourns.now) c.loop-i.i (sojourn_of c.index-sojourns-i.result)
    (inside_sojourns c.args.sojourns.now c.loop-i.i c.index-sojourns-i.result c.loop-i-test.true) c.loop-i.invariant
    (subst P (sym (sojourn_is c.args.sojourns.now c.loop-i.i c.index-sojourns-i.result c.loop-i-test.true))
    (subst (λ (s : Paid). P (sojourn_of s)) c.index-sojourns-i.is
    (c.is_whole.ensures.whole c.if-not-is_whole.false)))

pub returns-clause-whole : goal.returns-clause-whole
returns-clause-whole c =
    let P : Sojourn → Type 0 = λ s. IsTrue (is_payer c.args.rule.now.payers.items s.state)
    → GoesOnWhole c.args.rule.now.until s.steps in
    λ passed. subst (All P) (take_all c.loop-i.i (sojourns_of c.args.sojourns.now)
    (omega (arith, c.loop-i-test.false, length-map c.args.sojourns.now sojourn_of))) c.loop-i.invariant
