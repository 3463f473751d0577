use Rattle.std.proofs.Common.{◌∙◌, ap, to_z, of_z}
use Rattle.std.specs.Int.{w128}
use Rattle.std.proofs.lemmas.Int.{to_z-of_z}
use Rattle.linear_system.specs.StoredSystem.{dim_of}
use Rattle.linear_system.specs.Changes.{with_number}
use Rattle.linear_system.proofs.Writes.{is_set}
use Rattle.linear_system.proofs.system.CellSystem.set_free.Goals as goal

pub returns : goal.returns
returns c =
    is_set c.args.self.now _ c.args.row (dim_of c.args.self.now) c.args.m c.args.v _
    c.degree-degree.ensures.system
    (record {
      row_in = c.requires.row;
      has_column = (c.degree-degree.ensures.system.each c.args.row c.requires.row).columns.free;
    }) c.requires.power (to_z-of_z w128 c.args.v c.ranges.v)
    (c.store.ensures ∙ ap (λ d. with_number c.args.self.now c.args.row d c.args.m
    (to_z w128 (of_z w128 c.args.v))) c.dim-dim.ensures)
