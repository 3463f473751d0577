use Rattle.std.proofs.Common.{◌≡◌, ℕ, List, map, ap, sym, ◌∙◌, subst, FitsSigned}
use Rattle.std.specs.Int.{w64}
use Rattle.std.proofs.lemmas.Int.{to_z-of_z}
use Rattle.model_specs.specs.Product.{Product, Sojourn, PremiumPattern}
use Rattle.model_specs.specs.RecordRules.{IsWellFormed}
use Rattle.curve_pieces.specs.BrokenRules.{IsFirstBroken}
use Rattle.payment_plan.specs.Payments.{Payments}
use Rattle.payment_plan.specs.Records.{pattern_rule_of, sojourns_of}
use Rattle.file_changes.specs.Asks.{ChargeAsks}
use Rattle.file_changes.specs.Charges.{with_sojourns}
use Rattle.file_changes.specs.ContinuousAsks.{AreSmallSojourns}
use Rattle.file_changes.specs.ContinuousCharges.{charged_sojourn, charged_sojourns, completed_sojourns}
use Rattle.file_changes.specs.declared.breaks.ChangeBreak as breaks
use Rattle.file_changes.proofs.ChargedSojourns.{completed_bounds, completed_payments}
use Rattle.file_changes.proofs.ChargeParts.{all_parts_hold, charged_all_the_time, charged_sojourns_by_parts}
use Rattle.file_changes.proofs.ChargeParts.{first_is_5, first_is_6, small_sojourns}
use Rattle.file_changes.proofs.charging.charge_continuously.Goals as goal

pub charged_sojourns-requires-clause-good : goal.charged_sojourns-requires-clause-good
charged_sojourns-requires-clause-good c =
    let p : Product = c.args.product.now in
    let pattern_is : pattern_rule_of c.pattern-rule.result.now ≡ p.pattern = c.pattern-rule.ensures.pattern
    ∙ ap (λ (ps : Payments). ps.pattern) c.plan-plan.ensures.payments in
    let all_is : sojourns_of c.deref.result.now ≡ completed_sojourns p.sojourns p.pattern =
    ap sojourns_of c.deref.ensures.value ∙ c.in_ok-sojourns.ensures
    ∙ ap (completed_sojourns c.plan-plan.result.now.sojourns) pattern_is
    ∙ ap (λ (ps : Payments). completed_sojourns ps.sojourns p.pattern) c.plan-plan.ensures.payments in
    rw (all_is, c.months-months.ensures.value) (completed_payments p c.plan-plan.ensures.lawful)

pub charged_sojourns-requires-clause-bounded : goal.charged_sojourns-requires-clause-bounded
charged_sojourns-requires-clause-bounded c =
    let p : Product = c.args.product.now in
    let pattern_is : pattern_rule_of c.pattern-rule.result.now ≡ p.pattern = c.pattern-rule.ensures.pattern
    ∙ ap (λ (ps : Payments). ps.pattern) c.plan-plan.ensures.payments in
    let all_is : sojourns_of c.deref.result.now ≡ completed_sojourns p.sojourns p.pattern =
    ap sojourns_of c.deref.ensures.value ∙ c.in_ok-sojourns.ensures
    ∙ ap (completed_sojourns c.plan-plan.result.now.sojourns) pattern_is
    ∙ ap (λ (ps : Payments). completed_sojourns ps.sojourns p.pattern) c.plan-plan.ensures.payments in
    rw (all_is, c.months-months.ensures.value) (completed_bounds p c.plan-plan.ensures.lawful)

pub returns-in_default-clause-refused : goal.returns-in_default-clause-refused
returns-in_default-clause-refused c =
    let p : Product = c.args.product.now in
    let amount : FitsSigned w64 c.args.amount = c.ranges.amount in
    let rule : PremiumPattern = pattern_rule_of c.pattern-rule.result.now in
    let all : List Sojourn = sojourns_of c.deref.result.now in
    let all_is : all ≡ completed_sojourns c.plan-plan.result.now.sojourns rule =
    ap sojourns_of c.deref.ensures.value ∙ c.in_ok-sojourns.ensures in
    let charged_is : map (charged_sojourn c.args.amount c.months-months.result rule) all
    ≡ charged_sojourns c.args.amount p =
    charged_sojourns_by_parts c.args.amount p c.plan-plan.result.now c.months-months.result rule all
    c.plan-plan.ensures.payments c.months-months.ensures.value c.pattern-rule.ensures.pattern all_is in
    let wide : ¬ AreSmallSojourns c.months-months.result
    (map (charged_sojourn c.args.amount c.months-months.result rule) all) =
    simp to_z-of_z at (rw c.in_default.is at c.in_ok-sojourns-2.ensures.too_large) in
    λ broken same.
    let five : record { part = 5 } ≡ broken = cc in
    subst (λ (b : breaks.ChangeBreak). IsFirstBroken (ChargeAsks c.args.amount p) b.part) five
    (first_is_5 c.args.amount p c.requires.payers
    (λ small. wide (subst (AreSmallSojourns c.months-months.result) (sym charged_is)
    (subst (λ n. AreSmallSojourns n (charged_sojourns c.args.amount p)) (sym c.months-months.ensures.value)
    (small.continuous c.requires.continuous)))))

pub returns-then-not-payers_go_on_whole-clause-refused : goal.returns-then-not-payers_go_on_whole-clause-refused
returns-then-not-payers_go_on_whole-clause-refused c =
    let p : Product = c.args.product.now in
    let amount : FitsSigned w64 c.args.amount = c.ranges.amount in
    let rule : PremiumPattern = pattern_rule_of c.pattern-rule.result.now in
    let all : List Sojourn = sojourns_of c.deref.result.now in
    let all_is : all ≡ completed_sojourns c.plan-plan.result.now.sojourns rule =
    ap sojourns_of c.deref.ensures.value ∙ c.in_ok-sojourns.ensures in
    let charged_is : map (charged_sojourn c.args.amount c.months-months.result rule) all
    ≡ charged_sojourns c.args.amount p =
    charged_sojourns_by_parts c.args.amount p c.plan-plan.result.now c.months-months.result rule all
    c.plan-plan.ensures.payments c.months-months.ensures.value c.pattern-rule.ensures.pattern all_is in
    let made : sojourns_of c.in-Some.sojourns.items
    ≡ map (charged_sojourn c.args.amount c.months-months.result rule) all =
    simp to_z-of_z at (rw c.in-Some.is at c.in_ok-sojourns-2.ensures.changed) in
    let sojourns_are : sojourns_of c.in-Some.sojourns.items ≡ charged_sojourns c.args.amount p = made ∙ charged_is in
    let small : AreSmallSojourns p.months (charged_sojourns c.args.amount p) =
    subst (AreSmallSojourns p.months) sojourns_are
    (subst (λ n. AreSmallSojourns n (sojourns_of c.in-Some.sojourns.items)) c.months-months.ensures.value
    (rw c.in-Some.is at c.in_ok-sojourns-2.ensures.small)) in
    λ broken same.
    let six : record { part = 6 } ≡ broken = cc in
    subst (λ (b : breaks.ChangeBreak). IsFirstBroken (ChargeAsks c.args.amount p) b.part) six
    (first_is_6 c.args.amount p c.requires.payers (small_sojourns c.args.amount p c.requires.continuous small)
    c.requires.continuous (c.payers_go_on_whole.ensures.not_whole c.if-not-payers_go_on_whole.true))

pub with_sojourns-requires : goal.with_sojourns-requires
with_sojourns-requires c =
    let p : Product = c.args.product.now in
    let amount : FitsSigned w64 c.args.amount = c.ranges.amount in
    let rule : PremiumPattern = pattern_rule_of c.pattern-rule.result.now in
    let all : List Sojourn = sojourns_of c.deref.result.now in
    let all_is : all ≡ completed_sojourns c.plan-plan.result.now.sojourns rule =
    ap sojourns_of c.deref.ensures.value ∙ c.in_ok-sojourns.ensures in
    let charged_is : map (charged_sojourn c.args.amount c.months-months.result rule) all
    ≡ charged_sojourns c.args.amount p =
    charged_sojourns_by_parts c.args.amount p c.plan-plan.result.now c.months-months.result rule all
    c.plan-plan.ensures.payments c.months-months.ensures.value c.pattern-rule.ensures.pattern all_is in
    let made : sojourns_of c.in-Some.sojourns.items
    ≡ map (charged_sojourn c.args.amount c.months-months.result rule) all =
    simp to_z-of_z at (rw c.in-Some.is at c.in_ok-sojourns-2.ensures.changed) in
    let sojourns_are : sojourns_of c.in-Some.sojourns.items ≡ charged_sojourns c.args.amount p = made ∙ charged_is in
    let small : AreSmallSojourns p.months (charged_sojourns c.args.amount p) =
    subst (AreSmallSojourns p.months) sojourns_are
    (subst (λ n. AreSmallSojourns n (sojourns_of c.in-Some.sojourns.items)) c.months-months.ensures.value
    (rw c.in-Some.is at c.in_ok-sojourns-2.ensures.small)) in
    let parts : (part : ℕ) → ChargeAsks c.args.amount p part =
    all_parts_hold c.args.amount p c.requires.payers (small_sojourns c.args.amount p c.requires.continuous small)
    (λ continuous. c.payers_go_on_whole.ensures.whole c.if-not-payers_go_on_whole.false) in
    subst (λ (ss : List Sojourn). IsWellFormed (with_sojourns ss p)) (sym sojourns_are)
    (subst IsWellFormed (charged_all_the_time c.args.amount p c.requires.continuous)
    (c.charged_products_are_well_formed.ensures p c.plan-plan.ensures.lawful c.args.amount parts))

pub returns-clause-ok : goal.returns-clause-ok
returns-clause-ok c =
    let p : Product = c.args.product.now in
    let amount : FitsSigned w64 c.args.amount = c.ranges.amount in
    let rule : PremiumPattern = pattern_rule_of c.pattern-rule.result.now in
    let all : List Sojourn = sojourns_of c.deref.result.now in
    let all_is : all ≡ completed_sojourns c.plan-plan.result.now.sojourns rule =
    ap sojourns_of c.deref.ensures.value ∙ c.in_ok-sojourns.ensures in
    let charged_is : map (charged_sojourn c.args.amount c.months-months.result rule) all
    ≡ charged_sojourns c.args.amount p =
    charged_sojourns_by_parts c.args.amount p c.plan-plan.result.now c.months-months.result rule all
    c.plan-plan.ensures.payments c.months-months.ensures.value c.pattern-rule.ensures.pattern all_is in
    let made : sojourns_of c.in-Some.sojourns.items
    ≡ map (charged_sojourn c.args.amount c.months-months.result rule) all =
    simp to_z-of_z at (rw c.in-Some.is at c.in_ok-sojourns-2.ensures.changed) in
    let sojourns_are : sojourns_of c.in-Some.sojourns.items ≡ charged_sojourns c.args.amount p = made ∙ charged_is in
    c.in_ok-with_sojourns.ensures ∙ ap (λ (ss : List Sojourn). with_sojourns ss p) sojourns_are
    ∙ sym (charged_all_the_time c.args.amount p c.requires.continuous)

pub returns-clause-keeps : goal.returns-clause-keeps
returns-clause-keeps c =
    let p : Product = c.args.product.now in
    let amount : FitsSigned w64 c.args.amount = c.ranges.amount in
    let rule : PremiumPattern = pattern_rule_of c.pattern-rule.result.now in
    let all : List Sojourn = sojourns_of c.deref.result.now in
    let all_is : all ≡ completed_sojourns c.plan-plan.result.now.sojourns rule =
    ap sojourns_of c.deref.ensures.value ∙ c.in_ok-sojourns.ensures in
    let charged_is : map (charged_sojourn c.args.amount c.months-months.result rule) all
    ≡ charged_sojourns c.args.amount p =
    charged_sojourns_by_parts c.args.amount p c.plan-plan.result.now c.months-months.result rule all
    c.plan-plan.ensures.payments c.months-months.ensures.value c.pattern-rule.ensures.pattern all_is in
    let made : sojourns_of c.in-Some.sojourns.items
    ≡ map (charged_sojourn c.args.amount c.months-months.result rule) all =
    simp to_z-of_z at (rw c.in-Some.is at c.in_ok-sojourns-2.ensures.changed) in
    let sojourns_are : sojourns_of c.in-Some.sojourns.items ≡ charged_sojourns c.args.amount p = made ∙ charged_is in
    let small : AreSmallSojourns p.months (charged_sojourns c.args.amount p) =
    subst (AreSmallSojourns p.months) sojourns_are
    (subst (λ n. AreSmallSojourns n (sojourns_of c.in-Some.sojourns.items)) c.months-months.ensures.value
    (rw c.in-Some.is at c.in_ok-sojourns-2.ensures.small)) in
    let parts : (part : ℕ) → ChargeAsks c.args.amount p part =
    all_parts_hold c.args.amount p c.requires.payers (small_sojourns c.args.amount p c.requires.continuous small)
    (λ continuous. c.payers_go_on_whole.ensures.whole c.if-not-payers_go_on_whole.false) in
    parts
