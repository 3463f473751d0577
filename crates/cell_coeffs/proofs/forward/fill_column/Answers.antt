use Rattle.std.proofs.Common.{length}
use Rattle.model_specs.specs.Systems.{leaving_at}
use Rattle.product_cells.specs.EachCell.{forward_cell}
use Rattle.cell_coeffs.proofs.ForwardSteps.{column_done, columns_then, others_kept, leaving_near}
use Rattle.cell_coeffs.proofs.Near.{near_size}
use Rattle.cell_coeffs.proofs.forward.fill_column.Goals as goal

pub put_diagonal-requires-clause-small : goal.put_diagonal-requires-clause-small
put_diagonal-requires-clause-small c =
    let curves = forward_cell c.args.p.now c.args.month c.args.cell in
    λ m few. near_size (leaving_at curves c.args.state m) _
    (leaving_near (length c.args.p.now.states) m (leaving_at curves c.args.state) c.fill_flows.new.leaving
    c.requires.small.few few c.fill_flows.ensures.leaving)
    (c.requires.small.leaving c.args.state m c.requires.state)

pub returns-clause-stands : goal.returns-clause-stands
returns-clause-stands c =
    let curves = forward_cell c.args.p.now c.args.month c.args.cell in
    column_done curves c.args.state c.fill_flows.new.out c.put_diagonal.new.out c.fill_flows.new.leaving
    c.fill_flows.ensures.flows c.put_diagonal.ensures
    (λ m few. leaving_near (length c.args.p.now.states) m (leaving_at curves c.args.state) c.fill_flows.new.leaving
    c.requires.small.few few c.fill_flows.ensures.leaving)
    (c.requires.small.loop c.args.state) c.requires.small.none

pub returns-clause-columns : goal.returns-clause-columns
returns-clause-columns c =
    columns_then _ _ _ c.args.state c.args.state c.fill_flows.ensures.columns
    (others_kept _ _ c.args.state c.args.state 6 _ c.put_diagonal.ensures)
