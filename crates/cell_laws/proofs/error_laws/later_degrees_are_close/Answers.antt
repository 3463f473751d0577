use Rattle.cell_laws.proofs.Errors.{later_degrees_are_close, stored_later_degrees_are_close}
use Rattle.cell_laws.proofs.Errors.{second_later_degrees_are_close, stored_second_later_degrees_are_close}
use Rattle.cell_laws.proofs.error_laws.later_degrees_are_close.Goals as goal

pub returns-clause-start : goal.returns-clause-start
returns-clause-start c = later_degrees_are_close

pub returns-clause-stored_start : goal.returns-clause-stored_start
returns-clause-stored_start c = stored_later_degrees_are_close

pub returns-clause-second : goal.returns-clause-second
returns-clause-second c = second_later_degrees_are_close

pub returns-clause-stored_second : goal.returns-clause-stored_second
returns-clause-stored_second c = stored_second_later_degrees_are_close
