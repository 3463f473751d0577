use Rattle.std.proofs.Common.{sym, subst, arith, FitsSigned}
use Rattle.std.specs.Int.{w64}
use Rattle.std.proofs.lemmas.Int.{to_z-of_z}
use Rattle.std.proofs.lemmas.List.{length-map}
use Rattle.model_specs.specs.Product.{Sojourn}
use Rattle.model_specs.specs.RecordRules.{IsPayment, IsBoundedPayment}
use Rattle.payment_plan.specs.Records.{pattern_rule_of, sojourn_of, sojourns_of}
use Rattle.product_reader.proofs.Grown.{all_made}
use Rattle.file_changes.specs.ContinuousCharges.{charged_sojourn}
use Rattle.file_changes.proofs.OwnSojourns.{Paid}
use Rattle.file_changes.proofs.PaidSojourns.{holds_of_sojourn, sojourn_more, small_sojourn_more, sojourn_is_too_large}
use Rattle.file_changes.proofs.charged_sojourns.charged_sojourns.Goals as goal

pub charged_sojourn-requires-clause-good : goal.charged_sojourn-requires-clause-good
charged_sojourn-requires-clause-good c =
    subst (λ (s : Paid). IsPayment c.args.months (sojourn_of s).steps) (sym c.index-sojourns-i.is)
    (holds_of_sojourn c.args.sojourns.now c.loop-i.i
    c.index-sojourns-i.result c.loop-i-test.true (λ (s : Sojourn). IsPayment c.args.months s.steps) c.requires.good)

pub charged_sojourn-requires-clause-bounded : goal.charged_sojourn-requires-clause-bounded
charged_sojourn-requires-clause-bounded c =
    subst (λ (s : Paid). IsBoundedPayment c.args.months (sojourn_of s).steps) (sym c.index-sojourns-i.is)
    (holds_of_sojourn c.args.sojourns.now c.loop-i.i
    c.index-sojourns-i.result c.loop-i-test.true (λ (s : Sojourn). IsBoundedPayment c.args.months s.steps)
    c.requires.bounded)

pub returns-in-None-clause-too_large : goal.returns-in-None-clause-too_large
returns-in-None-clause-too_large c =
    let amount : FitsSigned w64 c.args.amount = c.ranges.amount in
    let wide = simp to_z-of_z at (rw c.in-None.is at c.in_ok-sojourn.ensures.too_large) in
    sojourn_is_too_large c.args.amount c.args.months (pattern_rule_of c.args.rule.now) c.args.sojourns.now c.loop-i.i
    c.index-sojourns-i.result c.loop-i-test.true (rw c.index-sojourns-i.is at wide)

pub loop-i-preserved : goal.loop-i-preserved
loop-i-preserved c =
    let next = rw (c.in-Some.is, c.index-sojourns-i.is) at c.in_ok-sojourn.ensures.changed in
    rw c.in_ok-push-in-Some.ensures.items (record {
      made = sojourn_more _ _ (pattern_rule_of c.args.rule.now) c.args.sojourns.now c.loop-i.i
          c.index-sojourns-i.result c.loop-i-test.true c.loop-i.charged.items c.in-Some.sojourn
          c.loop-i.invariant.made next;
      small = small_sojourn_more c.args.months c.loop-i.charged.items c.in-Some.sojourn c.loop-i.invariant.small
          (rw c.in-Some.is at c.in_ok-sojourn.ensures.small);
    })

pub returns-clause-changed : goal.returns-clause-changed
returns-clause-changed c =
    let amount : FitsSigned w64 c.args.amount = c.ranges.amount in
    let made = simp to_z-of_z at c.loop-i.invariant.made in
    all_made (charged_sojourn c.args.amount c.args.months (pattern_rule_of c.args.rule.now))
    (sojourns_of c.args.sojourns.now) c.loop-i.i _ made
    (omega (arith, c.loop-i-test.false, length-map c.args.sojourns.now sojourn_of))
