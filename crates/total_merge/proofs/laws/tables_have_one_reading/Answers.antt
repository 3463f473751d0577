use Rattle.total_merge.proofs.OneReading.{tables_have_one_reading}
use Rattle.total_merge.proofs.laws.tables_have_one_reading.Goals as goal

pub returns : goal.returns
returns c = tables_have_one_reading
