use Rattle.std.proofs.Common.{◌≡◌, ◌≤◌, pos, ◌*ℤ◌, ap, sym, ◌∙◌, subst, rules, FitsSigned}
use Rattle.std.specs.Prelude.{false, true, IsTrue}
use Rattle.std.specs.List.{list_any}
use Rattle.std.specs.Int.{w128}
use Rattle.std.proofs.lemmas.Int.{to_z-of_z}
use Rattle.named_numbers.specs.Numbers.{most_denominator}
use Rattle.model_specs.specs.Product.{Product}
use Rattle.curve_pieces.specs.BrokenRules.{IsFirstBroken}
use Rattle.file_changes.specs.Asks.{HasSmallCurves, HasTransition, MultiplyAsks}
use Rattle.file_changes.specs.BasisChanges.{finer, leads, multiplied, with_finer_basis}
use Rattle.file_changes.specs.declared.breaks.ChangeBreak as breaks
use Rattle.file_changes.proofs.Parts.{all_hold, first_is_3, multiplied_is}
use Rattle.file_changes.proofs.shifting.multiply.Goals as goal

true_is : IsTrue true
true_is = search rules

false_is_not : IsTrue false → ⊥
false_is_not h = search rules

pub returns-then-has_transition-clause-ok : goal.returns-then-has_transition-clause-ok
returns-then-has_transition-clause-ok c =
    let p : Product = c.args.product.now in
    let units : FitsSigned w128 c.args.units = c.ranges.units in
    let made : c.in-Some-2.changed ≡ with_finer_basis c.args.places (pos 0 *ℤ pos p.den) c.as_bytes.result.now
    c.as_bytes-2.result.now c.args.units p =
    simp to_z-of_z at (rw c.in-Some-2.is at c.in_ok-changed.ensures.changed) in
    made ∙ ap (λ name. with_finer_basis c.args.places (pos 0 *ℤ pos p.den) name c.as_bytes-2.result.now c.args.units p)
    c.as_bytes.ensures.value
    ∙ ap (λ name. with_finer_basis c.args.places (pos 0 *ℤ pos p.den) c.args.from.now name c.args.units p)
    c.as_bytes-2.ensures.value
    ∙ multiplied_is c.args.from.now c.args.to.now c.args.units c.args.places p

pub returns-then-has_transition-clause-keeps : goal.returns-then-has_transition-clause-keeps
returns-then-has_transition-clause-keeps c =
    let p : Product = c.args.product.now in
    let names = ap (λ name. list_any (leads p name c.as_bytes-2.result.now) p.transitions) c.as_bytes.ensures.value
    ∙ ap (λ name. list_any (leads p c.args.from.now name) p.transitions) c.as_bytes-2.ensures.value in
    all_hold (finer c.args.places p)
    (HasSmallCurves (multiplied c.args.from.now c.args.to.now c.args.units c.args.places p))
    (HasTransition c.args.from.now c.args.to.now p)
    (subst (λ n. n ≤ most_denominator) c.in-Some.ensures.den c.in-Some.ensures.small)
    (subst HasSmallCurves (returns-then-has_transition-clause-ok c)
    (rw c.in-Some-2.is at c.in_ok-changed.ensures.small))
    (subst IsTrue (c.if-has_transition.ensures ∙ names) true_is)

pub returns-else-has_transition-clause-refused : goal.returns-else-has_transition-clause-refused
returns-else-has_transition-clause-refused c =
    let p : Product = c.args.product.now in
    let units : FitsSigned w128 c.args.units = c.ranges.units in
    let made : c.in-Some-2.changed ≡ with_finer_basis c.args.places (pos 0 *ℤ pos p.den) c.as_bytes.result.now
    c.as_bytes-2.result.now c.args.units p =
    simp to_z-of_z at (rw c.in-Some-2.is at c.in_ok-changed.ensures.changed) in
    let all : c.in-Some-2.changed ≡ multiplied c.args.from.now c.args.to.now c.args.units c.args.places p =
    made ∙ ap (λ name. with_finer_basis c.args.places (pos 0 *ℤ pos p.den) name c.as_bytes-2.result.now c.args.units p)
    c.as_bytes.ensures.value
    ∙ ap (λ name. with_finer_basis c.args.places (pos 0 *ℤ pos p.den) c.args.from.now name c.args.units p)
    c.as_bytes-2.ensures.value
    ∙ multiplied_is c.args.from.now c.args.to.now c.args.units c.args.places p in
    let names = ap (λ name. list_any (leads p name c.as_bytes-2.result.now) p.transitions) c.as_bytes.ensures.value
    ∙ ap (λ name. list_any (leads p c.args.from.now name) p.transitions) c.as_bytes-2.ensures.value in
    let none : ¬ HasTransition c.args.from.now c.args.to.now p =
    λ some. false_is_not (subst IsTrue (sym (c.if-has_transition.ensures ∙ names)) some) in
    λ broken same.
    let three : record { part = 3 } ≡ broken = cc in
    subst (λ (b : breaks.ChangeBreak). IsFirstBroken
    (MultiplyAsks c.args.from.now c.args.to.now c.args.units c.args.places p)
    b.part) three (first_is_3 (finer c.args.places p)
    (HasSmallCurves (multiplied c.args.from.now c.args.to.now c.args.units c.args.places p))
    (HasTransition c.args.from.now c.args.to.now p)
    (subst (λ n. n ≤ most_denominator) c.in-Some.ensures.den c.in-Some.ensures.small)
    (subst HasSmallCurves all (rw c.in-Some-2.is at c.in_ok-changed.ensures.small)) none)
