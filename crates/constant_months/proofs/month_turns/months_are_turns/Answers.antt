use Rattle.constant_months.proofs.MonthTurns.{months_are_turns, ledgers_leave_spare}
use Rattle.constant_months.proofs.month_turns.months_are_turns.Goals as goal

pub returns-clause-turns : goal.returns-clause-turns
returns-clause-turns c = months_are_turns

pub returns-clause-spare : goal.returns-clause-spare
returns-clause-spare c = ledgers_leave_spare
