use Rattle.std.proofs.Common.{ℕ, ◌<◌, arith, length}
use Rattle.model_specs.specs.Cells.{Backward, cells_of_32}
use Rattle.model_specs.specs.Payments.{payment_plan}
use Rattle.cell_bounds.specs.ScaledSystems.{scaling}
use Rattle.product_cells.specs.EachCell.{backward_cell}
use Rattle.cell_coeffs.specs.StoredRows.{IsStoredRow}
use Rattle.cell_coeffs.proofs.FlatCells.{flat_cell}
use Rattle.cell_coeffs.proofs.FlatPairs.{pair_constant}
use Rattle.cell_coeffs.proofs.PairRowSteps.{moments_kept, moments_first, first_row_kept}
use Rattle.cell_coeffs.proofs.SmallPairs.{admissible_pair}
use Rattle.cell_coeffs.proofs.StandingPairs.{stands_for_norberg, no_place_none}
use Rattle.linear_system.proofs.Made.{same_places_then}
use Rattle.cell_coeffs.proofs.pair_job.fill_moments.Goals as goal

pub fill_first-requires-clause-small : goal.fill_first-requires-clause-small
fill_first-requires-clause-small c =
    (admissible_pair c.args.p.now c.args.g c.args.month c.args.cell c.requires.admissible c.requires.scale
    c.requires.month c.requires.cell).first

pub fill_first-requires-clause-made : goal.fill_first-requires-clause-made
fill_first-requires-clause-made c = moments_first c.args.p.now c.args.out.now c.requires.made

pub fill_second-requires-clause-small : goal.fill_second-requires-clause-small
fill_second-requires-clause-small c =
    admissible_pair c.args.p.now c.args.g c.args.month c.args.cell c.requires.admissible c.requires.scale
    c.requires.month c.requires.cell

pub fill_second-requires-clause-made : goal.fill_second-requires-clause-made
fill_second-requires-clause-made c = moments_kept c.args.p.now _ _ c.fill_first.ensures.places c.requires.made

pub returns-clause-first : goal.returns-clause-first
returns-clause-first c i b =
    first_row_kept (backward_cell c.args.p.now (payment_plan c.args.p.now) c.args.month c.args.cell)
    (scaling c.args.g) i c.fill_first.new.out c.fill_second.new.out c.fill_second.ensures.places
    (λ d m. c.fill_second.ensures.first i d m b) (c.fill_first.ensures.stands i b)

pub returns-clause-stands : goal.returns-clause-stands
returns-clause-stands c =
    let cell = backward_cell c.args.p.now (payment_plan c.args.p.now) c.args.month c.args.cell in
    let small = admissible_pair c.args.p.now c.args.g c.args.month c.args.cell c.requires.admissible c.requires.scale
    c.requires.month c.requires.cell in
    let places = same_places_then _ _ _ c.fill_first.ensures.places c.fill_second.ensures.places in
    let made = moments_kept c.args.p.now _ _ places c.requires.made in
    let rows : (i : ℕ) → i < length c.args.p.now.states
    → IsStoredRow (backward_cell c.args.p.now (payment_plan c.args.p.now) c.args.month c.args.cell)
    (scaling c.args.g) i c.fill_second.new.out =
    λ i b. first_row_kept cell
    (scaling c.args.g) i c.fill_first.new.out c.fill_second.new.out c.fill_second.ensures.places
    (λ d m. c.fill_second.ensures.first i d m b) (c.fill_first.ensures.stands i b) in
    stands_for_norberg cell (scaling c.args.g) c.fill_second.new.out small made.dim_is rows c.fill_second.ensures.stands
    (λ row col m b past inside. no_place_none c.fill_second.new.out row col m (omega (arith, b, made.dim_is)) inside
    (made.one_way row col b past))

pub returns-clause-places : goal.returns-clause-places
returns-clause-places c = same_places_then _ _ _ c.fill_first.ensures.places c.fill_second.ensures.places

pub returns-clause-constant : goal.returns-clause-constant
returns-clause-constant c =
    λ constant.
    let product = c.args.p.now in
    let plan = payment_plan product in
    let places = same_places_then _ _ _ c.fill_first.ensures.places c.fill_second.ensures.places in
    let made = moments_kept product _ _ places c.requires.made in
    let cell = backward_cell product plan c.args.month c.args.cell in
    pair_constant cell (flat_cell product plan c.args.month constant (cells_of_32 Backward) c.args.cell)
    (scaling c.args.g) c.fill_second.new.out made.dim_is
    (λ i b. first_row_kept cell (scaling c.args.g) i c.fill_first.new.out c.fill_second.new.out
    c.fill_second.ensures.places (λ d m. c.fill_second.ensures.first i d m b) (c.fill_first.ensures.stands i b))
    c.fill_second.ensures.stands
    (λ row col m b past inside. no_place_none c.fill_second.new.out row col m (omega (arith, b, made.dim_is)) inside
    (made.one_way row col b past))
