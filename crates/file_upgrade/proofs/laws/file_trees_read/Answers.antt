use Rattle.file_upgrade.proofs.ReadTrees.{file_trees_read}
use Rattle.file_upgrade.proofs.laws.file_trees_read.Goals as goal

pub returns : goal.returns
returns c = file_trees_read
