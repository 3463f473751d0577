use Rattle.std.proofs.Common.{◌≡◌, ◌*◌, map}
use Rattle.toml.specs.View.{view}
use Rattle.whole_laws.specs.Whole.{list_of}
use Rattle.workload_gen.specs.Draws.{state_after}
use Rattle.workload_gen.specs.Tree.{year_piece, draws_of_piece}
use Rattle.workload_gen.proofs.curves.rate.Given as goal

abbrev pub invariant-loop-year : goal.invariant-loop-year
invariant-loop-year l = record {
  pieces : map view l.pieces.items ≡ list_of l.year (year_piece l.transition l.fn.draws.state);
  state : l.draws.state ≡ state_after l.fn.draws.state (draws_of_piece * l.year);
}
