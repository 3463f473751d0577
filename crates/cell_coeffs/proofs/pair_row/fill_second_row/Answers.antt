use Rattle.std.proofs.Common.{◌≡◌, ℕ, pos, ◌∙◌, length, slice_index_or, rules}
use Rattle.frac_laws.specs.Fraction.{Fraction, over, size, ◌*ℚ◌, ◌+ℚ◌, ◌≤ℚ◌}
use Rattle.frac_laws.specs.Lists.{number_at}
use Rattle.frac_laws.specs.Sums.{sum_to}
use Rattle.std.specs.Prelude.{List, ℤ}
use Rattle.model_specs.specs.Cells.{Backward, cells_of_32, per_cell, amount_cell}
use Rattle.model_specs.specs.Payments.{sojourn_at}
use Rattle.model_specs.specs.Systems.{interest_at, leaving_at, second_payment_at}
use Rattle.payment_plan.specs.Payments.{plan_of}
use Rattle.payment_plan.specs.Records.{record_of}
use Rattle.product_model.specs.Views.{payments_of}
use Rattle.cell_bounds.specs.ScaledSystems.{scaling}
use Rattle.cell_coeffs.specs.Near.{IsNear}
use Rattle.cell_coeffs.specs.Rows.{cell_at}
use Rattle.cell_coeffs.proofs.Cut.{cut_size}
use Rattle.cell_coeffs.proofs.Links.{intensity-none}
use Rattle.cell_coeffs.proofs.Near.{near_size}
use Rattle.cell_coeffs.proofs.PairLinks.{first-none}
use Rattle.cell_coeffs.proofs.PairRowSteps.{second_row_done, second_rows_end, second_leaving_near, second_free_near}
use Rattle.cell_coeffs.proofs.RowSteps.{no_loop}
use Rattle.cell_coeffs.proofs.pair_row.fill_second_row.Goals as goal

small_by : (h : Fraction) (a b : List Fraction) → a ≡ b
    → ((m : ℕ) → size (h *ℚ number_at (per_cell (cells_of_32 Backward) b) m) ≤ℚ over (pos 1) 64)
    → (m : ℕ) → size (h *ℚ number_at (per_cell (cells_of_32 Backward) a) m) ≤ℚ over (pos 1) 64
small_by h a b is small m = rw is (small m)

near_by : (h : Fraction) (a b : List Fraction) (numbers : List ℤ) → a ≡ b
    → ((m : ℕ) → IsNear 2 (h *ℚ number_at (per_cell (cells_of_32 Backward) a) m) (slice_index_or numbers m (pos 0)))
    → (m : ℕ) → IsNear 2 (h *ℚ number_at (per_cell (cells_of_32 Backward) b) m) (slice_index_or numbers m (pos 0))
near_by h a b numbers is near m = rw (← is) (near m)

pub sojourn_numbers-sojourn-requires-clause-small : goal.sojourn_numbers-sojourn-requires-clause-small
sojourn_numbers-sojourn-requires-clause-small c =
    small_by (scaling c.args.at.g)
    (amount_cell (cells_of_32 Backward) (record_of c.sojourn_at-step.result) c.args.at.month c.args.at.cell)
    (amount_cell (cells_of_32 Backward) (sojourn_at (plan_of c.args.at.which (payments_of c.args.p.now)) c.args.state
    c.args.at.month) c.args.at.month c.args.at.cell)
    (rw c.plan.ensures.payments at (c.sojourn_at-step.ensures.amount (cells_of_32 Backward) c.args.at.cell))
    (λ m. c.requires.small.first.sojourn c.args.state m c.requires.state)

pub put_diagonal-requires-clause-small : goal.put_diagonal-requires-clause-small
put_diagonal-requires-clause-small c =
    let cell = cell_at c.args.p.now c.args.at.which c.args.at.month c.args.at.cell in
    λ m few. near_size ((interest_at cell m +ℚ interest_at cell m) +ℚ leaving_at cell c.args.state m) _
    (second_leaving_near (length c.args.p.now.states) m (interest_at cell m) (leaving_at cell c.args.state)
    c.args.interest.now c.add.new.numbers c.fill_second_links.new.leaving c.requires.small.first.few few
    (c.add.ensures m few) c.fill_second_links.ensures.leaving (c.requires.interest m))
    (c.requires.small.diagonal c.args.state m c.requires.state)

pub put_second_free-requires-clause-small : goal.put_second_free-requires-clause-small
put_second_free-requires-clause-small c =
    let cell = cell_at c.args.p.now c.args.at.which c.args.at.month c.args.at.cell in
    let h = scaling c.args.at.g in
    λ m few. cut_size (h *ℚ h *ℚ sum_to (length c.args.p.now.states)
    (λ j. second_payment_at cell c.args.state j m)) _
    (second_free_near (length c.args.p.now.states) m (λ (k : ℕ). h *ℚ h
    *ℚ sum_to (length c.args.p.now.states) (λ j. second_payment_at cell c.args.state j k)) _
    c.fill_second_links.new.free c.requires.small.first.few few (c.zeros-free.ensures m)
    c.fill_second_links.ensures.free)
    (c.requires.small.free c.args.state m c.requires.state few)

pub returns-clause-stands : goal.returns-clause-stands
returns-clause-stands c =
    let cell = cell_at c.args.p.now c.args.at.which c.args.at.month c.args.at.cell in
    let h = scaling c.args.at.g in
    let states : c.states.result ≡ length c.args.p.now.states = search rules in
    let near = near_by (scaling c.args.at.g)
    (amount_cell (cells_of_32 Backward) (record_of c.sojourn_at-step.result) c.args.at.month c.args.at.cell)
    (amount_cell (cells_of_32 Backward) (sojourn_at (plan_of c.args.at.which (payments_of c.args.p.now)) c.args.state
    c.args.at.month) c.args.at.month c.args.at.cell)
    c.sojourn_numbers-sojourn.result
    (rw c.plan.ensures.payments at (c.sojourn_at-step.ensures.amount (cells_of_32 Backward) c.args.at.cell))
    c.sojourn_numbers-sojourn.ensures.near in
    second_row_done cell (scaling c.args.at.g) c.args.state c.fill_second_links.new.out c.put_twice.new.out
    c.put_diagonal.new.out c.put_second_free.new.out c.sojourn_numbers-sojourn.result c.fill_second_links.new.leaving
    c.fill_second_links.new.free c.requires.small c.requires.state
    (c.fill_second_links.ensures.rows.places.dim ∙ c.requires.made.dim_is) c.fill_second_links.ensures.links
    (rw states at c.put_twice.ensures) (rw states at c.put_diagonal.ensures) (rw states at c.put_second_free.ensures)
    near
    (λ m few. second_leaving_near (length c.args.p.now.states) m (interest_at cell m) (leaving_at cell c.args.state)
    c.args.interest.now c.add.new.numbers c.fill_second_links.new.leaving c.requires.small.first.few few
    (c.add.ensures m few) c.fill_second_links.ensures.leaving (c.requires.interest m))
    (λ m few. second_free_near (length c.args.p.now.states) m (λ (k : ℕ). h *ℚ h
    *ℚ sum_to (length c.args.p.now.states) (λ j. second_payment_at cell c.args.state j k)) _
    c.fill_second_links.new.free c.requires.small.first.few few (c.zeros-free.ensures m)
    c.fill_second_links.ensures.free)
    (λ m. intensity-none c.args.p.now c.args.at.which c.args.at.month c.args.at.cell c.args.state c.args.state m
    (no_loop c.args.p.now c.args.state c.plan.ensures.lawful))
    (λ m. first-none c.args.p.now c.args.at.which c.args.at.month c.args.at.cell c.args.state c.args.state
    (no_loop c.args.p.now c.args.state c.plan.ensures.lawful) m)

pub returns-clause-rows : goal.returns-clause-rows
returns-clause-rows c =
    let states : c.states.result ≡ length c.args.p.now.states = search rules in
    second_rows_end _ _ _ _ _ _ _ _ _ _ _ _ _ _ c.fill_second_links.ensures.rows _
    (rw states at c.put_twice.ensures) (rw states at c.put_diagonal.ensures) (rw states at c.put_second_free.ensures)
