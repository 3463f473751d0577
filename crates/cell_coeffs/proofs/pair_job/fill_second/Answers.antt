use Rattle.std.proofs.Common.{◌∙◌, arith, length}
use Rattle.cell_bounds.specs.ScaledSystems.{scaling}
use Rattle.cell_coeffs.specs.Rows.{cell_at}
use Rattle.cell_coeffs.proofs.PairRowSteps.{moments_kept, second_rows_more}
use Rattle.linear_system.proofs.Made.{same_places_then}
use Rattle.cell_coeffs.proofs.pair_job.fill_second.Goals as goal

pub loop-state-preserved : goal.loop-state-preserved
loop-state-preserved c =
    let cell = cell_at c.args.p.now c.args.at.which c.args.at.month c.args.at.cell in
    let rows = c.fill_second_row.ensures.rows in
    let k = c.loop-state.state in
    let S = length c.args.p.now.states in
    let inv = c.loop-state.invariant in
    record {
      done = second_rows_more cell (scaling c.args.at.g) k _ _ rows inv.done c.fill_second_row.ensures.stands;
      first = λ i d m b. rows.rows i d m (λ e. absurd (omega (arith, e, b))) ∙ inv.first i d m b;
      none = λ i d m past. rows.rows i d m (λ e. absurd (omega (arith, e, past)))
          ∙ inv.none i d m (omega (arith, past));
      places = same_places_then _ _ _ inv.places rows.places;
      made = moments_kept c.args.p.now _ _ rows.places inv.made;
    }
