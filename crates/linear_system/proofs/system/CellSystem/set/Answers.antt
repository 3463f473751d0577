use Rattle.std.specs.Int.{w128}
use Rattle.std.proofs.lemmas.Int.{to_z-of_z}
use Rattle.linear_system.proofs.Writes.{is_set}
use Rattle.linear_system.proofs.system.CellSystem.set.Goals as goal

pub returns : goal.returns
returns c =
    is_set c.args.self.now _ c.args.row c.args.col c.args.m c.args.v _ c.degree-degree.ensures.system
    (record { row_in = c.requires.place.row_in; has_column = c.requires.place.has_column }) c.requires.power
    (to_z-of_z w128 c.args.v c.ranges.v) c.store.ensures
