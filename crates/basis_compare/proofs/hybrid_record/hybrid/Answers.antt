use Rattle.std.proofs.Common.{ap, sym, subst}
use Rattle.curve_pieces.specs.PiecewiseCurves.{PiecewiseCurve}
use Rattle.model_specs.specs.ValuationRules.{IsAdmissible}
use Rattle.basis_compare.proofs.HybridRules.{copy_breaks_the_last}
use Rattle.basis_compare.proofs.hybrid_record.hybrid.Goals as goal

pub returns-in_ok-product_with_interest-in-None-clause-rules
    : goal.returns-in_ok-product_with_interest-in-None-clause-rules
returns-in_ok-product_with_interest-in-None-clause-rules c =
    copy_breaks_the_last c.product-old.result.now c.product-new.result.now _ c.interest.result.now.pieces
    (subst IsAdmissible (sym c.product-old.ensures.product) c.product-old.ensures.admissible)
    (subst IsAdmissible (sym c.product-new.ensures.product) c.product-new.ensures.admissible) c.in-None.ensures
    (ap (λ (curve : PiecewiseCurve). curve.pieces) c.interest.ensures.curve)
    c.in_ok-product_with_interest-in-None.ensures
