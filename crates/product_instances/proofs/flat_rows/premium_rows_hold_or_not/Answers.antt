use Rattle.product_instances.proofs.FlatRows.{premium_holds, higher_premium_does_not_hold, no_premium_holds}
use Rattle.product_instances.proofs.flat_rows.premium_rows_hold_or_not.Goals as goal

pub returns-clause-holds : goal.returns-clause-holds
returns-clause-holds c = premium_holds

pub returns-clause-higher : goal.returns-clause-higher
returns-clause-higher c = higher_premium_does_not_hold

pub returns-clause-never : goal.returns-clause-never
returns-clause-never c = no_premium_holds
