use Rattle.std.proofs.Common.{◌≡◌, ℕ, List, length, map, ap, sym, ◌∙◌, subst, arith, FitsSigned}
use Rattle.std.specs.Int.{w64}
use Rattle.std.proofs.lemmas.Int.{to_z-of_z}
use Rattle.model_specs.specs.Product.{Product, Lump, PremiumPattern}
use Rattle.model_specs.specs.RecordRules.{IsWellFormed}
use Rattle.curve_pieces.specs.BrokenRules.{IsFirstBroken}
use Rattle.state_graph.specs.StateGraphs.{StateGraph}
use Rattle.payment_plan.specs.Records.{lumps_of, pattern_rule_of}
use Rattle.file_changes.specs.Asks.{ChargeAsks, AreSmallLumps}
use Rattle.file_changes.specs.Charges.{completed_lumps, charged_lump, charged_lumps, with_lumps}
use Rattle.file_changes.specs.declared.breaks.ChangeBreak as breaks
use Rattle.file_changes.proofs.ChargeParts.{first_is_5, all_parts_hold, charged_at_dates, charged_by_parts, small_lumps}
use Rattle.file_changes.proofs.charging.charge_at_dates.Goals as goal

pub returns-in_default-clause-refused : goal.returns-in_default-clause-refused
returns-in_default-clause-refused c =
    let p : Product = c.args.product.now in
    let amount : FitsSigned w64 c.args.amount = c.ranges.amount in
    let rule : PremiumPattern = pattern_rule_of c.pattern-rule.result.now in
    let all : List Lump = lumps_of c.deref.result.now in
    let all_is : all ≡ completed_lumps c.states-states.result (lumps_of c.lumps.result.now) rule =
    ap lumps_of c.deref.ensures.value ∙ c.in_ok-lumps.ensures in
    let charged_is : map (charged_lump c.args.amount rule) all ≡ charged_lumps c.args.amount p =
    charged_by_parts c.args.amount p c.plan-plan.result.now c.states-states.result
    (lumps_of c.lumps.result.now) rule all
    c.plan-plan.ensures.payments
    (c.states-states.ensures.count ∙ ap (λ (g : StateGraph). length g.names) c.graph.ensures.graph)
    c.lumps.ensures.lumps c.pattern-rule.ensures.pattern all_is in
    let wide : ¬ AreSmallLumps (map (charged_lump c.args.amount rule) all) =
    simp to_z-of_z at (rw c.in_default.is at c.in_ok-lumps-2.ensures.too_large) in
    λ broken same.
    let five : record { part = 5 } ≡ broken = cc in
    subst (λ (b : breaks.ChangeBreak). IsFirstBroken (ChargeAsks c.args.amount p) b.part) five
    (first_is_5 c.args.amount p c.requires.payers
    (λ small. wide (subst AreSmallLumps (sym charged_is) (small.dated c.requires.dated))))

pub with_lumps-requires : goal.with_lumps-requires
with_lumps-requires c =
    let p : Product = c.args.product.now in
    let amount : FitsSigned w64 c.args.amount = c.ranges.amount in
    let rule : PremiumPattern = pattern_rule_of c.pattern-rule.result.now in
    let all : List Lump = lumps_of c.deref.result.now in
    let all_is : all ≡ completed_lumps c.states-states.result (lumps_of c.lumps.result.now) rule =
    ap lumps_of c.deref.ensures.value ∙ c.in_ok-lumps.ensures in
    let charged_is : map (charged_lump c.args.amount rule) all ≡ charged_lumps c.args.amount p =
    charged_by_parts c.args.amount p c.plan-plan.result.now c.states-states.result
    (lumps_of c.lumps.result.now) rule all
    c.plan-plan.ensures.payments
    (c.states-states.ensures.count ∙ ap (λ (g : StateGraph). length g.names) c.graph.ensures.graph)
    c.lumps.ensures.lumps c.pattern-rule.ensures.pattern all_is in
    let made : lumps_of c.in-Some.lumps.items ≡ map (charged_lump c.args.amount rule) all =
    simp to_z-of_z at (rw c.in-Some.is at c.in_ok-lumps-2.ensures.changed) in
    let lumps_are : lumps_of c.in-Some.lumps.items ≡ charged_lumps c.args.amount p = made ∙ charged_is in
    let small : AreSmallLumps (charged_lumps c.args.amount p) =
    subst AreSmallLumps lumps_are (rw c.in-Some.is at c.in_ok-lumps-2.ensures.small) in
    let parts : (part : ℕ) → ChargeAsks c.args.amount p part =
    all_parts_hold c.args.amount p c.requires.payers (small_lumps c.args.amount p c.requires.dated small)
    (λ never. absurd (omega (arith, never, c.requires.dated))) in
    subst (λ (ls : List Lump). IsWellFormed (with_lumps ls p)) (sym lumps_are)
    (subst IsWellFormed (charged_at_dates c.args.amount p c.requires.dated)
    (c.charged_products_are_well_formed.ensures p c.plan-plan.ensures.lawful c.args.amount parts))

pub returns-clause-ok : goal.returns-clause-ok
returns-clause-ok c =
    let p : Product = c.args.product.now in
    let amount : FitsSigned w64 c.args.amount = c.ranges.amount in
    let rule : PremiumPattern = pattern_rule_of c.pattern-rule.result.now in
    let all : List Lump = lumps_of c.deref.result.now in
    let all_is : all ≡ completed_lumps c.states-states.result (lumps_of c.lumps.result.now) rule =
    ap lumps_of c.deref.ensures.value ∙ c.in_ok-lumps.ensures in
    let charged_is : map (charged_lump c.args.amount rule) all ≡ charged_lumps c.args.amount p =
    charged_by_parts c.args.amount p c.plan-plan.result.now c.states-states.result
    (lumps_of c.lumps.result.now) rule all
    c.plan-plan.ensures.payments
    (c.states-states.ensures.count ∙ ap (λ (g : StateGraph). length g.names) c.graph.ensures.graph)
    c.lumps.ensures.lumps c.pattern-rule.ensures.pattern all_is in
    let made : lumps_of c.in-Some.lumps.items ≡ map (charged_lump c.args.amount rule) all =
    simp to_z-of_z at (rw c.in-Some.is at c.in_ok-lumps-2.ensures.changed) in
    let lumps_are : lumps_of c.in-Some.lumps.items ≡ charged_lumps c.args.amount p = made ∙ charged_is in
    c.in_ok-with_lumps.ensures ∙ ap (λ (ls : List Lump). with_lumps ls p) lumps_are
    ∙ sym (charged_at_dates c.args.amount p c.requires.dated)

pub returns-clause-keeps : goal.returns-clause-keeps
returns-clause-keeps c =
    let p : Product = c.args.product.now in
    let amount : FitsSigned w64 c.args.amount = c.ranges.amount in
    let rule : PremiumPattern = pattern_rule_of c.pattern-rule.result.now in
    let all : List Lump = lumps_of c.deref.result.now in
    let all_is : all ≡ completed_lumps c.states-states.result (lumps_of c.lumps.result.now) rule =
    ap lumps_of c.deref.ensures.value ∙ c.in_ok-lumps.ensures in
    let charged_is : map (charged_lump c.args.amount rule) all ≡ charged_lumps c.args.amount p =
    charged_by_parts c.args.amount p c.plan-plan.result.now c.states-states.result
    (lumps_of c.lumps.result.now) rule all
    c.plan-plan.ensures.payments
    (c.states-states.ensures.count ∙ ap (λ (g : StateGraph). length g.names) c.graph.ensures.graph)
    c.lumps.ensures.lumps c.pattern-rule.ensures.pattern all_is in
    let made : lumps_of c.in-Some.lumps.items ≡ map (charged_lump c.args.amount rule) all =
    simp to_z-of_z at (rw c.in-Some.is at c.in_ok-lumps-2.ensures.changed) in
    let lumps_are : lumps_of c.in-Some.lumps.items ≡ charged_lumps c.args.amount p = made ∙ charged_is in
    let small : AreSmallLumps (charged_lumps c.args.amount p) =
    subst AreSmallLumps lumps_are (rw c.in-Some.is at c.in_ok-lumps-2.ensures.small) in
    let parts : (part : ℕ) → ChargeAsks c.args.amount p part =
    all_parts_hold c.args.amount p c.requires.payers (small_lumps c.args.amount p c.requires.dated small)
    (λ never. absurd (omega (arith, never, c.requires.dated))) in
    parts
