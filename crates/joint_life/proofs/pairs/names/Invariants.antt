use Rattle.std.proofs.Common.{◌≡◌, ◌/◌, ◌%◌}
use Rattle.whole_laws.specs.Whole.{list_of}
use Rattle.state_graph.specs.StateGraphs.{texts_of}
use Rattle.joint_life.specs.JointRecord.{pair_name}
use Rattle.joint_life.proofs.pairs.names.Given as goal

abbrev pub invariant-loop-pair : goal.invariant-loop-pair
invariant-loop-pair l =
    texts_of l.names.items ≡ list_of l.pair (λ pair. pair_name (pair / l.seconds) (pair % l.seconds))
