use Rattle.std.proofs.Common.{◌≡◌, ◌^◌, ◌≤◌, ℤ, pos, ◌*ℤ◌, nat_abs, List, map, ap, sym, ◌∙◌, subst, arith, rules}
use Rattle.std.proofs.Common.{inr, FitsSigned, to_z}
use Rattle.std.specs.Prelude.{All}
use Rattle.std.specs.Int.{w64, w128}
use Rattle.std.proofs.lemmas.Int.{to_z-of_z, to_z_pos}
use Rattle.named_numbers.specs.Numbers.{most_denominator}
use Rattle.model_specs.specs.Product.{Product}
use Rattle.curve_pieces.specs.PiecewiseCurves.{PiecewiseCurve}
use Rattle.product_model.specs.Views.{curve_of}
use Rattle.file_changes.specs.Asks.{IsSmallCurve, HasSmallCurves}
use Rattle.file_changes.specs.BasisChanges.{finer, changed_pieces, changed_rate}
use Rattle.file_changes.proofs.Bases.{power_is_small, basis_is, basis_fits, basis_is_small, basis_rates_are_small}
use Rattle.file_changes.proofs.Bases.{rates_are_small, finer_is_some}
use Rattle.file_changes.proofs.basis.with_finer_basis.Goals as goal

-- a curve with changed pieces
abbrev changed_curve_of : (factor more : ℤ) → PiecewiseCurve → PiecewiseCurve
changed_curve_of factor more curve = record { pieces = changed_pieces factor more curve.pieces; months = curve.months }

pub changed_curve-requires : goal.changed_curve-requires
changed_curve-requires c =
    let p = c.args.product.now in
    let f = c.args.factors.now in
    let some : 1 ≤ p.den = c.den.ensures.lawful.head.some_denominator in
    let power : FitsSigned w128 c.from-power.result = search rules in
    let small : 10 ^ c.args.places ≤ most_denominator = power_is_small p.den (10 ^ c.args.places) most_denominator some
    (subst (λ n. n ≤ most_denominator) c.requires.den c.requires.small) in
    let is : c.from-power.result ≡ pos (10 ^ c.args.places) = c.from-power.ensures ∙ ap pos c.requires.power in
    inr (simp to_z-of_z (subst (λ (z : ℤ). nat_abs z ≤ most_denominator) (sym is) small))

pub returns-in_default-2-clause-too_large : goal.returns-in_default-2-clause-too_large
returns-in_default-2-clause-too_large c =
    let p : Product = c.args.product.now in
    let f = c.args.factors.now in
    let wide : ¬ All (λ t. IsSmallCurve p.months
    (changed_rate p f.from.now f.to.now f.factor f.others t)) p.transitions =
    rw c.in_default-2.is at c.in_ok-rates.ensures.too_large in
    let more : ℤ = c.args.units *ℤ pos p.den in
    λ small. wide (subst
    (λ o. All (λ t. IsSmallCurve p.months (changed_rate p f.from.now f.to.now f.factor o t)) p.transitions)
    (sym c.requires.others)
    (basis_rates_are_small p (finer c.args.places p) (changed_pieces (pos (10 ^ c.args.places)) more p.interest)
    (changed_rate p f.from.now f.to.now f.factor (pos (10 ^ c.args.places))) small))

pub with_basis-requires : goal.with_basis-requires
with_basis-requires c =
    let p : Product = c.args.product.now in
    let f = c.args.factors.now in
    let units : FitsSigned w128 c.args.units = c.ranges.units in
    let power : FitsSigned w128 c.from-power.result = search rules in
    let old : FitsSigned w64 c.den.result = search rules in
    let more : ℤ = c.args.units *ℤ pos p.den in
    let interest : PiecewiseCurve = c.in-Some.interest in
    let made : interest ≡ changed_curve_of c.from-power.result (c.args.units *ℤ c.den.result) c.interest.result.now =
    simp to_z-of_z at (rw c.in-Some.is at c.in_ok-interest.ensures.changed) in
    let interest_is : interest ≡ curve_of p (changed_pieces (pos (10 ^ c.args.places)) more p.interest) = made
    ∙ ap (λ x. changed_curve_of x (c.args.units *ℤ c.den.result) c.interest.result.now)
    (c.from-power.ensures ∙ ap pos c.requires.power)
    ∙ ap (λ x. changed_curve_of (pos (10 ^ c.args.places))
    (c.args.units *ℤ x) c.interest.result.now) c.den.ensures.value
    ∙ ap (changed_curve_of (pos (10 ^ c.args.places)) more) c.interest.ensures.curve in
    let rates : List PiecewiseCurve = c.in-Some-2.rates.items in
    let rates_made : rates ≡ map (λ t. curve_of p
    (changed_rate p f.from.now f.to.now f.factor f.others t)) p.transitions =
    rw c.in-Some-2.is at c.in_ok-rates.ensures.changed in
    let rates_are : rates ≡ map (λ t. curve_of p (changed_rate p f.from.now f.to.now f.factor (pos
    (10 ^ c.args.places)) t))
    p.transitions = rates_made
    ∙ ap (λ o. map (λ t. curve_of p
    (changed_rate p f.from.now f.to.now f.factor o t)) p.transitions) c.requires.others in
    let den_is : to_z w64 c.args.finer.den ≡ pos (finer c.args.places p) =
    to_z_pos w64 c.args.finer.den (omega (arith, c.requires.small)) ∙ ap pos c.requires.den in
    basis_fits p (finer c.args.places p) (to_z w64 c.args.finer.den) interest rates
    (changed_pieces (pos (10 ^ c.args.places)) more p.interest)
    (changed_rate p f.from.now f.to.now f.factor (pos (10 ^ c.args.places))) den_is interest_is rates_are
    c.den.ensures.lawful
    (finer_is_some p.den c.args.places c.den.ensures.lawful.head.some_denominator)
    (subst (λ n. n ≤ most_denominator) c.requires.den c.requires.small)

pub returns-clause-changed : goal.returns-clause-changed
returns-clause-changed c =
    let p : Product = c.args.product.now in
    let f = c.args.factors.now in
    let units : FitsSigned w128 c.args.units = c.ranges.units in
    let power : FitsSigned w128 c.from-power.result = search rules in
    let old : FitsSigned w64 c.den.result = search rules in
    let more : ℤ = c.args.units *ℤ pos p.den in
    let interest : PiecewiseCurve = c.in-Some.interest in
    let made : interest ≡ changed_curve_of c.from-power.result (c.args.units *ℤ c.den.result) c.interest.result.now =
    simp to_z-of_z at (rw c.in-Some.is at c.in_ok-interest.ensures.changed) in
    let interest_is : interest ≡ curve_of p (changed_pieces (pos (10 ^ c.args.places)) more p.interest) = made
    ∙ ap (λ x. changed_curve_of x (c.args.units *ℤ c.den.result) c.interest.result.now)
    (c.from-power.ensures ∙ ap pos c.requires.power)
    ∙ ap (λ x. changed_curve_of (pos (10 ^ c.args.places))
    (c.args.units *ℤ x) c.interest.result.now) c.den.ensures.value
    ∙ ap (changed_curve_of (pos (10 ^ c.args.places)) more) c.interest.ensures.curve in
    let rates : List PiecewiseCurve = c.in-Some-2.rates.items in
    let rates_made : rates ≡ map (λ t. curve_of p
    (changed_rate p f.from.now f.to.now f.factor f.others t)) p.transitions =
    rw c.in-Some-2.is at c.in_ok-rates.ensures.changed in
    let rates_are : rates ≡ map (λ t. curve_of p (changed_rate p f.from.now f.to.now f.factor (pos
    (10 ^ c.args.places)) t))
    p.transitions = rates_made
    ∙ ap (λ o. map (λ t. curve_of p
    (changed_rate p f.from.now f.to.now f.factor o t)) p.transitions) c.requires.others in
    let den_is : to_z w64 c.args.finer.den ≡ pos (finer c.args.places p) =
    to_z_pos w64 c.args.finer.den (omega (arith, c.requires.small)) ∙ ap pos c.requires.den in
    c.in_ok-with_basis.ensures ∙ basis_is p (finer c.args.places p) (to_z w64 c.args.finer.den) interest rates
    (changed_pieces (pos (10 ^ c.args.places)) more p.interest)
    (changed_rate p f.from.now f.to.now f.factor (pos (10 ^ c.args.places))) den_is interest_is rates_are

pub returns-clause-small : goal.returns-clause-small
returns-clause-small c =
    let p : Product = c.args.product.now in
    let f = c.args.factors.now in
    let units : FitsSigned w128 c.args.units = c.ranges.units in
    let power : FitsSigned w128 c.from-power.result = search rules in
    let old : FitsSigned w64 c.den.result = search rules in
    let more : ℤ = c.args.units *ℤ pos p.den in
    let interest : PiecewiseCurve = c.in-Some.interest in
    let made : interest ≡ changed_curve_of c.from-power.result (c.args.units *ℤ c.den.result) c.interest.result.now =
    simp to_z-of_z at (rw c.in-Some.is at c.in_ok-interest.ensures.changed) in
    let interest_is : interest ≡ curve_of p (changed_pieces (pos (10 ^ c.args.places)) more p.interest) = made
    ∙ ap (λ x. changed_curve_of x (c.args.units *ℤ c.den.result) c.interest.result.now)
    (c.from-power.ensures ∙ ap pos c.requires.power)
    ∙ ap (λ x. changed_curve_of (pos (10 ^ c.args.places))
    (c.args.units *ℤ x) c.interest.result.now) c.den.ensures.value
    ∙ ap (changed_curve_of (pos (10 ^ c.args.places)) more) c.interest.ensures.curve in
    let rates : List PiecewiseCurve = c.in-Some-2.rates.items in
    let rates_made : rates ≡ map (λ t. curve_of p
    (changed_rate p f.from.now f.to.now f.factor f.others t)) p.transitions =
    rw c.in-Some-2.is at c.in_ok-rates.ensures.changed in
    let rates_are : rates ≡ map (λ t. curve_of p (changed_rate p f.from.now f.to.now f.factor (pos
    (10 ^ c.args.places)) t))
    p.transitions = rates_made
    ∙ ap (λ o. map (λ t. curve_of p
    (changed_rate p f.from.now f.to.now f.factor o t)) p.transitions) c.requires.others in
    let den_is : to_z w64 c.args.finer.den ≡ pos (finer c.args.places p) =
    to_z_pos w64 c.args.finer.den (omega (arith, c.requires.small)) ∙ ap pos c.requires.den in
    subst HasSmallCurves (sym (returns-clause-changed c))
    (basis_is_small p (finer c.args.places p) (changed_pieces (pos (10 ^ c.args.places)) more p.interest)
    (changed_rate p f.from.now f.to.now f.factor (pos (10 ^ c.args.places)))
    (subst (λ (q : PiecewiseCurve). IsSmallCurve q.months q.pieces) interest_is
    (rw c.in-Some.is at c.in_ok-interest.ensures.small))
    (rates_are_small p rates (changed_rate p f.from.now f.to.now f.factor (pos (10 ^ c.args.places))) rates_are
    (rw c.in-Some-2.is at c.in_ok-rates.ensures.small)))
