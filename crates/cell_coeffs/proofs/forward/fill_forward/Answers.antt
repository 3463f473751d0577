use Rattle.std.proofs.Common.{◌≡◌, ℕ, ◌≤◌, ◌∙◌, ap, arith, length}
use Rattle.state_graph.specs.StateGraphs.{StateGraph}
use Rattle.model_specs.specs.Cells.{Forward, cells_of_32}
use Rattle.model_specs.specs.Payments.{payment_plan}
use Rattle.product_cells.specs.EachCell.{forward_cell}
use Rattle.cell_coeffs.proofs.FlatCells.{flat_cell}
use Rattle.cell_coeffs.proofs.ForwardCells.{small_flows}
use Rattle.cell_coeffs.proofs.ForwardSteps.{made_forward_kept, columns_more, none_after}
use Rattle.cell_coeffs.proofs.StandingForward.{stands_for_kolmogorov, forward_constant}
use Rattle.linear_system.proofs.Made.{same_places_then}
use Rattle.cell_coeffs.proofs.forward.fill_forward.Goals as goal

all_states : (end state states : ℕ) → end ≡ states → end ≤ state → state ≤ end → state ≡ states
all_states end state states is past within = omega (arith, is, past, within)

pub fill_column-requires-clause-small : goal.fill_column-requires-clause-small
fill_column-requires-clause-small c =
    small_flows c.args.p.now c.args.month c.args.cell c.requires.admissible c.requires.month c.requires.cell

pub loop-state-preserved : goal.loop-state-preserved
loop-state-preserved c =
    let columns = c.fill_column.ensures.columns in
    record {
      done = columns_more (forward_cell c.args.p.now c.args.month c.args.cell) c.loop-state.state _ _ columns
          c.loop-state.invariant.done c.fill_column.ensures.stands;
      none = none_after c.loop-state.state _ _ columns c.loop-state.invariant.none;
      places = same_places_then _ _ _ c.loop-state.invariant.places columns.places;
      made = made_forward_kept c.args.p.now _ _ columns.places c.loop-state.invariant.made;
    }

pub returns-clause-stands : goal.returns-clause-stands
returns-clause-stands c =
    let made = c.loop-state.invariant.made in
    let all : c.loop-state.state ≡ length c.args.p.now.states = all_states c.states-state-end.result c.loop-state.state
    (length c.args.p.now.states) (c.states-state-end.ensures.count ∙ ap (λ (g : StateGraph). length g.names)
    c.graph.ensures.graph) c.loop-state-test.false c.loop-state.auto.state-end in
    stands_for_kolmogorov (forward_cell c.args.p.now c.args.month c.args.cell) c.loop-state.out made.dim_is
    (rw all at c.loop-state.invariant.done) (λ j m. c.loop-state.invariant.none j _ m (omega (arith, all, made.dim_is)))
    (small_flows c.args.p.now c.args.month c.args.cell c.requires.admissible c.requires.month c.requires.cell).none

pub returns-clause-constant : goal.returns-clause-constant
returns-clause-constant c = λ constant.
    let made = c.loop-state.invariant.made in
    let all : c.loop-state.state ≡ length c.args.p.now.states = all_states c.states-state-end.result c.loop-state.state
    (length c.args.p.now.states) (c.states-state-end.ensures.count ∙ ap (λ (g : StateGraph). length g.names)
    c.graph.ensures.graph) c.loop-state-test.false c.loop-state.auto.state-end in
    forward_constant (forward_cell c.args.p.now c.args.month c.args.cell) c.loop-state.out made.dim_is
    (rw all at c.loop-state.invariant.done) (λ j m. c.loop-state.invariant.none j _ m (omega (arith, all, made.dim_is)))
    (flat_cell c.args.p.now (payment_plan c.args.p.now) c.args.month constant (cells_of_32 Forward) c.args.cell)
