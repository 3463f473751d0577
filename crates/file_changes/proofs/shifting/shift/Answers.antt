use Rattle.std.proofs.Common.{◌≡◌, ◌≤◌, pos, ◌*ℤ◌, [], ap, ◌∙◌, subst, rules, FitsSigned}
use Rattle.std.specs.Int.{w128}
use Rattle.std.proofs.lemmas.Int.{to_z-of_z}
use Rattle.named_numbers.specs.Numbers.{most_denominator}
use Rattle.model_specs.specs.Product.{Product}
use Rattle.file_changes.specs.Asks.{HasSmallCurves}
use Rattle.file_changes.specs.BasisChanges.{finer, shifted, with_finer_basis}
use Rattle.file_changes.proofs.Parts.{all_hold, shifted_is}
use Rattle.file_changes.proofs.shifting.shift.Goals as goal

pub returns-in-Some-2-clause-ok : goal.returns-in-Some-2-clause-ok
returns-in-Some-2-clause-ok c =
    let p : Product = c.args.product.now in
    let units : FitsSigned w128 c.args.units = c.ranges.units in
    let power : FitsSigned w128 c.from-power.result = search rules in
    let made : c.in-Some-2.changed ≡ with_finer_basis c.args.places
    (c.args.units *ℤ pos p.den) [] [] c.from-power.result p =
    simp to_z-of_z at (rw c.in-Some-2.is at c.in_ok-changed.ensures.changed) in
    made ∙ ap (λ factor. with_finer_basis c.args.places (c.args.units *ℤ pos p.den) [] [] factor p)
    (c.from-power.ensures ∙ ap pos c.in-Some.ensures.power)
    ∙ shifted_is c.args.units c.args.places p [] []

pub returns-in-Some-2-clause-keeps : goal.returns-in-Some-2-clause-keeps
returns-in-Some-2-clause-keeps c =
    let p : Product = c.args.product.now in
    all_hold (finer c.args.places p) (HasSmallCurves (shifted c.args.units c.args.places p)) (Unit {0})
    (subst (λ n. n ≤ most_denominator) c.in-Some.ensures.den c.in-Some.ensures.small)
    (subst HasSmallCurves (returns-in-Some-2-clause-ok c) (rw c.in-Some-2.is at c.in_ok-changed.ensures.small)) tt
