use Rattle.rate_bounds.specs.MonthTables.{AreBounds}
use Rattle.rate_bounds.proofs.TableSteps.{table_of_more}
use Rattle.rate_bounds.proofs.table.bounds_of_months.Goals as goal

pub loop-month-preserved : goal.loop-month-preserved
loop-month-preserved c =
    table_of_more (AreBounds c.args.product.now) c.loop-month.month c.loop-month.bounds.items c.push.new.self.items
    c.bounds_by.result c.loop-month.invariant c.bounds_by.ensures c.in_ok-push.ensures.items
