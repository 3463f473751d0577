use Rattle.std.proofs.Common.{sym}
use Rattle.std.proofs.lemmas.List.{take-map}
use Rattle.toml.specs.View.{view}
use Rattle.file_tree.proofs.table.items_before.Goals as goal

pub returns-clause-items : goal.returns-clause-items
returns-clause-items c = sym (take-map view c.args.i c.args.items.now)
