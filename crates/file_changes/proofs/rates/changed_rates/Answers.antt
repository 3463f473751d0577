use Rattle.std.proofs.Common.{[], ◌∷◌, arith}
use Rattle.std.specs.Prelude.{All}
use Rattle.std.proofs.lemmas.List.Elements.{All-append, All-cons}
use Rattle.curve_pieces.specs.PiecewiseCurves.{PiecewiseCurve}
use Rattle.model_specs.specs.Product.{no_transition}
use Rattle.product_model.specs.Views.{curve_of}
use Rattle.product_reader.proofs.Grown.{one_more}
use Rattle.file_changes.specs.Asks.{IsSmallCurve}
use Rattle.file_changes.specs.BasisChanges.{changed_rate}
use Rattle.file_changes.proofs.rates.changed_rates.Goals as goal

-- a curve with small coefficients
abbrev IsSmall : PiecewiseCurve → Type 0
IsSmall curve = IsSmallCurve curve.months curve.pieces

no_more : All IsSmall []
no_more k d below = absurd (omega (arith, below))

pub returns-in-None-clause-too_large : goal.returns-in-None-clause-too_large
returns-in-None-clause-too_large c =
    let wide = rw c.in-None.is at c.in_ok-rate.ensures.too_large in
    λ all. wide (all c.loop-transition.transition no_transition (omega arith))

pub loop-transition-preserved : goal.loop-transition-preserved
loop-transition-preserved c =
    let f = c.args.factors.now in
    let p = c.args.product.now in
    rw c.in_ok-push-in-Some.ensures.items (record {
      made = one_more (λ t. curve_of p (changed_rate p f.from.now f.to.now f.factor f.others t)) p.transitions
          c.loop-transition.transition no_transition c.loop-transition.rates.items c.in-Some.rate
          c.loop-transition.invariant.made (rw c.in-Some.is at c.in_ok-rate.ensures.changed) (omega arith);
      small = All-append IsSmall c.loop-transition.rates.items (c.in-Some.rate ∷ []) c.loop-transition.invariant.small
          (All-cons IsSmall c.in-Some.rate [] (rw c.in-Some.is at c.in_ok-rate.ensures.small) no_more);
    })
