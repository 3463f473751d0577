use Rattle.std.proofs.Common.{◌+◌, ◌*◌, ◌<◌, length, refl, arith}
use Rattle.kolmogorov_forward.proofs.Enclosed.{probability_ends}
use Rattle.kolmogorov_forward.proofs.WrittenDates.{state_written, row_kept}
use Rattle.kolmogorov_forward.proofs.occupancy_table.write_date.Goals as goal

pub loop-state-preserved : goal.loop-state-preserved
loop-state-preserved c =
    let s = c.args.sweep.now in
    let state = c.loop-state.state in
    let few : c.loop-state.state < c.args.states = c.loop-state-test.true in
    let ends = c.printed.ensures in
    let right = probability_ends s.product s.degree s.date state c.enclosure.result c.printed.result
    (rw (← c.requires.states) few) c.enclosure.ensures.probabilities c.enclosure.ensures.width ends.lo ends.hi
    ends.ordered ends.small ends.encloses ends.narrow in
    let inside : c.args.row * c.args.states + c.loop-state.state < length c.loop-state.cells =
    omega (arith, c.requires.room, c.loop-state.auto.cells, few) in
    record {
      written = state_written s.product s.degree s.date c.args.row c.args.states state c.loop-state.cells _
          c.printed.result refl inside right c.loop-state.invariant.written;
      kept = row_kept c.args.row c.args.states state c.args.cells.now c.loop-state.cells _ c.printed.result refl
          c.loop-state.invariant.kept;
    }
