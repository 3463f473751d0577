-- What the parts of a product keep by themselves.
use Rattle.std.specs.Prelude.{All}
use Rattle.model_specs.specs.RecordRules.{IsCurve, IsBoundedCurve}
use Rattle.curve_pieces.specs.PiecewiseCurves.{PiecewiseCurve}
use Rattle.state_graph.specs.StateGraphs.{IsGraph}
use Rattle.payment_plan.specs.Payments.{IsAllowed}
use Rattle.product_model.specs.Parts.{Parts}

-- a curve obeys rules 8 and 9
pub record IsLawfulCurve (curve : PiecewiseCurve) : Type 0 where
  pub rule_8 : IsCurve curve.months curve.pieces
  pub rule_9 : IsBoundedCurve curve.months curve.pieces

-- the graph obeys rule 7, the curves rules 8 and 9, and the payments rules 10 to 14
pub record AreLawful (parts : Parts) : Type 0 where
  pub graph : IsGraph parts.graph
  pub interest : IsLawfulCurve parts.interest
  pub rates : All IsLawfulCurve parts.rates
  pub payments : IsAllowed parts.payments
