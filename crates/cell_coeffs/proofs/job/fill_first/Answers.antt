use Rattle.cell_bounds.specs.ScaledSystems.{scaling}
use Rattle.cell_coeffs.specs.Rows.{cell_at}
use Rattle.cell_coeffs.proofs.RowSteps.{places_kept, rows_more, none_more}
use Rattle.linear_system.proofs.Made.{same_places_then}
use Rattle.cell_coeffs.proofs.job.fill_first.Goals as goal

pub loop-state-preserved : goal.loop-state-preserved
loop-state-preserved c =
    let cell = cell_at c.args.p.now c.args.at.which c.args.at.month c.args.at.cell in
    let rows = c.fill_row.ensures.rows in
    record {
      done = rows_more cell (scaling c.args.at.g) c.loop-state.state _ _ rows c.loop-state.invariant.done
          c.fill_row.ensures.stands;
      none = none_more c.loop-state.state _ _ rows c.loop-state.invariant.none;
      places = same_places_then _ _ _ c.loop-state.invariant.places rows.places;
      made = places_kept c.args.p.now _ _ rows.places c.loop-state.invariant.made;
    }
