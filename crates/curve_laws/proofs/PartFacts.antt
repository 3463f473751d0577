-- The laws in the form of their statements.
use Rattle.std.proofs.Common.{pos, List, sym, subst}
use Rattle.frac_laws.specs.Fraction.{Fraction, whole, size, ◌≤ℚ◌}
use Rattle.frac_laws.specs.Lists.{number_at}
use Rattle.curve_laws.specs.PartLaws.{PartsHaveSmallCoefficients, PartsKeepMeans}
use Rattle.curve_laws.specs.PartLaws.{PartsKeepSigns, coefficient_bound, mean_of}
use Rattle.curve_laws.proofs.ControlLists.{part_of-bernstein}
use Rattle.curve_laws.proofs.PartBounds.{part_bound}
use Rattle.curve_laws.proofs.PartMeans.{mean_above, mean_below}

pub small_coefficients : PartsHaveSmallCoefficients
small_coefficients p s d h most apart six low high near sizes spread m =
    let P : List Fraction → Type 0 = λ q. size (number_at q m) ≤ℚ coefficient_bound 5 h most apart m in
    subst P (sym (part_of-bernstein p s d six))
    (part_bound 5 s d h most apart _ low high near (record { sizes = sizes; spread = spread }) m)

pub means : PartsKeepMeans
means p s d low high six start_low start_high end_low end_high above below =
    let P : List Fraction → Type 0 = λ q. (low ≤ℚ mean_of q) × (mean_of q ≤ℚ high) in
    subst P (sym (part_of-bernstein p s d six)) (
      mean_above s d low _
          (record { start_low = start_low; start_high = start_high; end_low = end_low; end_high = end_high }) above,
      mean_below s d high _
          (record { start_low = start_low; start_high = start_high; end_low = end_low; end_high = end_high }) below,
    )

pub signs : PartsKeepSigns
signs p s d six start_low start_high end_low end_high above =
    let P : List Fraction → Type 0 = λ q. whole (pos 0) ≤ℚ mean_of q in
    subst P (sym (part_of-bernstein p s d six))
    (mean_above s d (whole (pos 0)) _
    (record { start_low = start_low; start_high = start_high; end_low = end_low; end_high = end_high }) above)
