use Rattle.std.proofs.Common.{ℕ, ◌<◌, get_or}
use Rattle.curve_pieces.specs.PiecewiseCurves.{PiecewiseCurve}
use Rattle.product_model.specs.LawfulParts.{IsLawfulCurve}
use Rattle.product_model.proofs.lawful.curves_are_lawful.Given as goal

-- the curves so far
abbrev pub invariant-loop-curve : goal.invariant-loop-curve
invariant-loop-curve l =
    (k : ℕ) (d : PiecewiseCurve) → k < l.curve-index → IsLawfulCurve (get_or l.curves k d)
