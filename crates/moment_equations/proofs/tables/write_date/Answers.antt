use Rattle.std.proofs.Common.{◌≡◌, ◌+◌, ◌*◌, ◌<◌, refl, arith, rules, length}
use Rattle.thiele_backward.proofs.WrittenDates.{row_kept}
use Rattle.moment_equations.proofs.WrittenDates.{state_written, all_written}
use Rattle.moment_equations.proofs.tables.write_date.Goals as goal

pub loop-state-preserved : goal.loop-state-preserved
loop-state-preserved c =
    let few : c.loop-state.state < c.states-states.result = c.loop-state-test.true in
    let states : c.states-states.result ≡ length c.args.adm.now.states = search rules in
    let inside : c.args.row * c.states-states.result + c.loop-state.state < length c.loop-state.cells =
    rw states (omega (arith, rw states at few, c.requires.room, c.loop-state.auto.cells)) in
    record {
      written = λ degree least near. state_written c.args.kind c.args.adm.now degree c.args.date c.args.row
          c.states-states.result c.loop-state.state c.loop-state.cells _ c.ends_in.result refl inside
          (c.ends_in.ensures degree least near) (c.loop-state.invariant.written degree least near);
      kept = row_kept c.args.row c.states-states.result c.loop-state.state c.args.cells.now c.loop-state.cells _
          c.ends_in.result refl few c.loop-state.invariant.kept;
    }

pub returns-clause-written : goal.returns-clause-written
returns-clause-written c degree least near =
    let states : c.states-states.result ≡ length c.args.adm.now.states = search rules in
    let done : c.loop-state.state ≡ c.states-states.result =
    omega (arith, c.loop-state-test.false, c.loop-state.auto.state-end) in
    all_written c.args.kind c.args.adm.now degree c.args.date c.args.row c.states-states.result c.loop-state.state
    c.loop-state.cells states done (c.loop-state.invariant.written degree least near)
