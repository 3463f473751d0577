-- How long the lists of a cell's coefficients are.
use Rattle.std.specs.Prelude.{◌≡◌, ℕ, ◌≤◌, ℤ, pos, ◌==◌, nat_le}
use Rattle.std.specs.Prelude.{Option, Some, None, All, find, option_map, unwrap_or, List, []}
use Rattle.std.specs.Prelude.{length}
use Rattle.std.specs.Prelude.{slice_index_or, refl}
use Rattle.std.proofs.Common.{◌∙◌, arith, lit≤}
use Rattle.frac_laws.specs.Polynomials.{all_over}
use Rattle.frac_laws.proofs.ListAlgebra.{length-scale_list}
use Rattle.frac_laws.proofs.Polynomials.{length-shifted, length-stretched}
use Rattle.frac_laws.proofs.Lengths.{length-all_over}
use Rattle.whole_laws.proofs.Found.{last-has, place-has, found-has}
use Rattle.model_specs.specs.Curve.{Piece, piece_at, zero_piece}
use Rattle.model_specs.specs.Product.{Product, Step, no_transition, transition_at}
use Rattle.model_specs.specs.Payments.{Plan, payment_plan, pattern_plan, constant_step, step_at}
use Rattle.model_specs.specs.Payments.{sojourn_at, sum_at}
use Rattle.model_specs.specs.RecordRules.{IsWellFormed}
use Rattle.model_specs.specs.Cells.{Grid, cell_polynomial, curve_cell, amount_cell, cell_curves}
use Rattle.model_specs.specs.Cells.{transition_between}
use Rattle.model_laws.specs.Equations.{IsQuintic}
use Rattle.model_laws.specs.ShapeLaws.{CellsAreQuintic}
use Rattle.model_laws.proofs.PlanSteps.{HasFour, HasFourEach, payment_plan_four, pattern_plan_four}

length-cell_polynomial : (grid : Grid) (den : ℕ) (c : List ℤ) (months cell : ℕ)
    → length (cell_polynomial grid (all_over den c) months cell) ≡ length c
length-cell_polynomial grid den c months cell =
    length-stretched _ _ ∙ length-shifted _ (all_over den c) ∙ length-all_over den c

-- six coefficients and four
abbrev HasSix : List Piece → Type 0
HasSix pieces = All (λ piece. length piece.c ≡ 6) pieces

nothing : {A : Type 0} (P : A → Type 0) → All P []
nothing P = λ k d b. absurd (omega arith)

curve-six : (grid : Grid) (den : ℕ) (pieces : List Piece) (month cell : ℕ) → HasSix pieces
    → length (curve_cell grid den pieces month cell) ≤ 6
curve-six grid den pieces month cell six =
    let short : length (piece_at pieces month).c ≡ 6 =
    last-has (λ piece. length piece.c ≡ 6) (λ piece. nat_le piece.from month) pieces zero_piece refl six in
    rw (
      length-scale_list _ (cell_polynomial grid (all_over den (piece_at pieces month).c) _ cell),
      length-cell_polynomial grid den (piece_at pieces month).c _ cell,
      short,
    ) (lit≤ tt)

amount-four : (grid : Grid) (steps : List Step) (month months cell : ℕ) → HasFour steps
    → length (amount_cell grid (step_at steps month) months cell) ≤ 4
amount-four grid steps month months cell four =
    let short : length (step_at steps month).c ≡ 4 =
    last-has (λ step. length step.c ≡ 4) (λ step. nat_le step.from month) steps
    (constant_step 0 (pos 0)) refl four in
    rw (length-cell_polynomial grid 1 (step_at steps month).c _ cell, short) (lit≤ tt)

-- what is given of the transition between two states, if there is one
between-has : {B : Type 0} (P : B → Type 0) (found : Option ℕ) (f : ℕ → B) (none : B) → P none
    → ((e : ℕ) → P (f e)) → P (unwrap_or (option_map f found) none)
between-has P None f none bare all = bare
between-has P (Some e) f none bare all = all e

plan-quintic : (grid : Grid) (product : Product) (plan : Plan) (month cell : ℕ) → IsWellFormed product
    → HasFourEach plan → IsQuintic (cell_curves grid product plan month cell)
plan-quintic grid product plan month cell formed four = record {
  interest = curve-six grid product.den product.interest month cell formed.curves.interest.six;
  intensity = λ i j. between-has (λ c. length c ≤ 6) (transition_between product i j)
      (λ e. curve_cell grid product.den (transition_at product e).rate month cell) [] (lit≤ tt)
      (λ e. curve-six grid product.den (transition_at product e).rate month cell
      (place-has (λ t. HasSix t.rate) product.transitions e no_transition
      (nothing (λ piece. length piece.c ≡ 6))
      (λ k d b. (formed.curves.rates k d b).six)));
  sojourn = λ i. rw (length-scale_list _ (amount_cell grid (sojourn_at plan i month) month cell))
      (amount-four grid (unwrap_or (option_map (λ s. s.steps) (find (λ s. s.state == i) plan.sojourns)) [])
      month _ cell
      (found-has HasFour (λ s. s.steps) (λ s. s.state == i) plan.sojourns []
      (nothing (λ step. length step.c ≡ 4)) four.sojourns));
  sum = λ i j. between-has (λ c. length c ≤ 4) (transition_between product i j)
      (λ e. amount_cell grid (sum_at plan e month) month cell) [] (lit≤ tt)
      (λ e. amount-four grid (slice_index_or plan.sums e []) month _ cell
      (place-has HasFour plan.sums e [] (nothing (λ step. length step.c ≡ 4)) four.sums));
}

pub cells_are_quintic : CellsAreQuintic
cells_are_quintic grid product month cell formed = (
  plan-quintic grid product (payment_plan product) month cell formed (payment_plan_four product formed),
  plan-quintic grid product (pattern_plan product) month cell formed (pattern_plan_four product),
)
