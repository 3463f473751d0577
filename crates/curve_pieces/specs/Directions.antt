-- The directions of a cell.
use Rattle.model_specs.specs.Cells as model
use Rattle.curve_pieces.specs.declared.cell.Dir.{Dir}
use Rattle.curve_pieces.specs.declared.cell.Dir.TheVariants.{Forward, Backward}

-- the direction in which x counts
abbrev pub direction_of : Dir → model.Direction
direction_of Forward = model.Forward
direction_of Backward = model.Backward
