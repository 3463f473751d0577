use Rattle.std.proofs.Common.{◌≡◌, ◌≤◌, ◌<◌, ◌*◌, ◌^◌, pos, ap, sym, ◌∙◌, arith, rules, length}
use Rattle.std.proofs.Common.{FitsSigned, to_z, of_z}
use Rattle.std.specs.Prelude.{unsigned_abs, ◌*ℤ◌, ℤ, negsuc, ◌≤ℤ◌, List}
use Rattle.std.specs.Int.{w64, w128}
use Rattle.std.proofs.lemmas.Int.{ints, to_z-of_z, fits_signed_from_abs}
use Rattle.frac_laws.specs.Fraction.{Fraction, over}
use Rattle.frac_laws.specs.Lists.{number_at}
use Rattle.frac_laws.proofs.QuotientFacts.{over-zero}
use Rattle.model_specs.specs.Cells.{curve_cell, cells_of_32}
use Rattle.curve_pieces.specs.Directions.{direction_of}
use Rattle.cell_coeffs.proofs.Numerators.{at-all_over, fine_within, fine_near}
use Rattle.whole_laws.proofs.Members.{past_end}
use Rattle.cell_coeffs.proofs.numbers.numbers_in.Goals as goal

den_is : (den : ℤ) → pos 1 ≤ℤ den → den *ℤ pos (384 ^ 6) ≡ pos (unsigned_abs den * 384 ^ 6)
den_is (pos n) some = omega (arith, ints)
den_is (negsuc n) some = absurd (omega (arith, ints, some))

den_some : (den : ℤ) → pos 1 ≤ℤ den → 1 ≤ unsigned_abs den
den_some (pos n) some = omega (arith, ints, some)
den_some (negsuc n) some = omega arith

den_small : (den : ℤ) → pos 1 ≤ℤ den → den ≤ℤ pos (10 ^ 12) → unsigned_abs (den *ℤ pos (384 ^ 6)) < 2 ^ 127
den_small (pos n) some most = omega (arith, ints, most)
den_small (negsuc n) some most = absurd (omega (arith, ints, some))

-- the denominator that the program computes
den_computed : (from den : ℤ) → FitsSigned w128 from → from ≡ den → pos 1 ≤ℤ den → den ≤ℤ pos (10 ^ 12)
    → to_z w128 (of_z w128 (to_z w128 (of_z w128 from) *ℤ pos (384 ^ 6))) ≡ pos (unsigned_abs den * 384 ^ 6)
den_computed from den fits is some most =
    let product_fits : FitsSigned w128 (from *ℤ pos (384 ^ 6)) =
    rw is (fits_signed_from_abs w128 (den *ℤ pos (384 ^ 6)) (den_small den some most)) in
    simp to_z-of_z (rw is (den_is den some))

pub fine_all-requires-clause-within : goal.fine_all-requires-clause-within
fine_all-requires-clause-within c =
    let den = unsigned_abs c.args.den in
    let den_fits : FitsSigned w64 c.args.den = search rules in
    let from_fits : FitsSigned w128 c.from.result = search rules in
    let some = den_some c.args.den c.requires.some_den in
    rw (den_computed c.from.result c.args.den from_fits (simp to_z-of_z at c.from.ensures) c.requires.some_den
    c.requires.largest_den)
    (fine_within (number_at (curve_cell (cells_of_32 (direction_of c.args.dir)) den c.args.curve.now.pieces c.args.month
    c.args.cell))
    c.cell_of.result.n c.cell_of.result.n (den * 384 ^ 6) (omega (arith, some))
    (λ m. ap (λ (p : List Fraction). number_at p m) (sym (c.cell_of.ensures.polynomial den some))
    ∙ at-all_over (den * 384 ^ 6) c.cell_of.result.n m)
    c.requires.small)

pub returns-clause-near : goal.returns-clause-near
returns-clause-near c =
    let den = unsigned_abs c.args.den in
    let den_fits : FitsSigned w64 c.args.den = search rules in
    let from_fits : FitsSigned w128 c.from.result = search rules in
    let some = den_some c.args.den c.requires.some_den in
    let value =
    rw (den_computed c.from.result c.args.den from_fits (simp to_z-of_z at c.from.ensures) c.requires.some_den
    c.requires.largest_den) at c.fine_all.ensures.value in
    fine_near (number_at (curve_cell (cells_of_32 (direction_of c.args.dir)) den c.args.curve.now.pieces c.args.month
    c.args.cell))
    c.cell_of.result.n c.fine_all.result (den * 384 ^ 6) (omega (arith, some))
    (λ m. ap (λ (p : List Fraction). number_at p m) (sym (c.cell_of.ensures.polynomial den some))
    ∙ at-all_over (den * 384 ^ 6) c.cell_of.result.n m)
    value c.fine_all.ensures.none

pub returns-clause-beyond : goal.returns-clause-beyond
returns-clause-beyond c =
    let long : length c.cell_of.result.n ≤ 6 = search rules in
    let den = unsigned_abs c.args.den in
    let some = den_some c.args.den c.requires.some_den in
    λ m six. ap (λ (p : List Fraction). number_at p m) (sym (c.cell_of.ensures.polynomial den some))
    ∙ at-all_over (den * 384 ^ 6) c.cell_of.result.n m
    ∙ ap (λ (z : ℤ). over z (den * 384 ^ 6)) (past_end c.cell_of.result.n m (omega (arith, six, long)))
    ∙ over-zero (den * 384 ^ 6)
