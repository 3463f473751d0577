use Rattle.rate_bounds.specs.MonthTables.{AreCurves}
use Rattle.rate_bounds.proofs.TableSteps.{table_of_more}
use Rattle.rate_bounds.proofs.curves.curves_of_months.Goals as goal

pub loop-month-preserved : goal.loop-month-preserved
loop-month-preserved c =
    table_of_more (AreCurves c.args.product.now) c.loop-month.month c.loop-month.curves.items c.push.new.self.items
    c.month_curves.result c.loop-month.invariant
    (record {
      rho = c.month_curves.ensures.rho;
      high = c.month_curves.ensures.high;
      low = c.month_curves.ensures.low;
      least = c.month_curves.ensures.least;
    })
    c.in_ok-push.ensures.items
