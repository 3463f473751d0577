use Rattle.std.proofs.Common.{◌≡◌, map, take}
use Rattle.std.specs.Prelude.{All}
use Rattle.product_model.specs.Views.{curve_of}
use Rattle.curve_pieces.specs.PiecewiseCurves.{PiecewiseCurve}
use Rattle.file_changes.specs.Asks.{IsSmallCurve}
use Rattle.file_changes.specs.BasisChanges as basis
use Rattle.file_changes.proofs.rates.changed_rates.Given as goal

abbrev pub invariant-loop-transition : goal.invariant-loop-transition
invariant-loop-transition l = record {
  made : l.rates.items ≡ map (λ t. curve_of l.product (basis.changed_rate l.product l.factors.from.now l.factors.to.now
      l.factors.factor l.factors.others t)) (take l.transition l.product.transitions);
  small : All (λ (rate : PiecewiseCurve). IsSmallCurve rate.months rate.pieces) l.rates.items;
}
