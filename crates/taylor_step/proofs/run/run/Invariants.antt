use Rattle.std.proofs.Common.{◌≡◌, ◌<◌, ◌≤◌, ◌*◌, ◌+◌, ◌^◌, ℕ, pos, length, get_or}
use Rattle.std.specs.Prelude.{unsigned_abs}
use Rattle.taylor_step.proofs.run.run.Given as goal
use Rattle.taylor_step.specs.Strips.{HasRoom, IsHistory, contents}
use Rattle.taylor_step.specs.Stops.{HoldSizes, NoStopTo}
use Rattle.taylor_step.specs.WholeRun.{value_to}
use Rattle.linear_system.specs.StoredSystem.{dim_of}

abbrev pub invariant-loop-k : goal.invariant-loop-k
invariant-loop-k l = record {
  room : HasRoom l.sys (contents l.strips);
  free : get_or l.newest (dim_of l.sys) (pos 0) ≡ pos 0;
  history : IsHistory l.sys l.initial.mid l.k (contents l.strips);
  sums : (i : ℕ) → i < dim_of l.sys → get_or l.mid i (pos 0) ≡ value_to l.sys l.initial.mid l.k i;
  long : length l.sizes ≡ 25;
  sizes : HoldSizes l.sys l.initial.mid l.sizes l.k;
  none : NoStopTo l.sys l.initial.mid l.k;
  small : (i : ℕ) → unsigned_abs (get_or l.mid i (pos 0)) ≤ 2 ^ 66 + l.k * 2 ^ 63;
}
