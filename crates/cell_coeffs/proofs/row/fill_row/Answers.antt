use Rattle.std.proofs.Common.{◌≡◌, ◌≤◌, ◌<◌, ℕ, ◌*◌, pos, arith, length, slice_index_or}
use Rattle.frac_laws.specs.Fraction.{Fraction, over, size, ◌*ℚ◌, ◌+ℚ◌, ◌≤ℚ◌}
use Rattle.frac_laws.specs.Lists.{number_at}
use Rattle.frac_laws.specs.Sums.{sum_to}
use Rattle.std.specs.Prelude.{List, ℤ}
use Rattle.model_specs.specs.Cells.{Backward, cells_of_32, per_cell, amount_cell}
use Rattle.model_specs.specs.Payments.{sojourn_at}
use Rattle.model_specs.specs.Systems.{interest_at, leaving_at, sojourn_rate_at, first_payment_at}
use Rattle.payment_plan.specs.Payments.{plan_of}
use Rattle.payment_plan.specs.Records.{record_of}
use Rattle.product_model.specs.Views.{payments_of}
use Rattle.cell_bounds.specs.ScaledSystems.{scaling}
use Rattle.cell_coeffs.specs.Near.{IsNear}
use Rattle.cell_coeffs.specs.Rows.{cell_at, AddsNear}
use Rattle.cell_coeffs.proofs.Near.{near_size}
use Rattle.cell_coeffs.proofs.Links.{intensity-none}
use Rattle.cell_coeffs.proofs.RowSteps.{no_loop, row_done, rows_end, near_enough, spread_out}
use Rattle.cell_coeffs.proofs.row.fill_row.Goals as goal

small_by : (h : Fraction) (a b : List Fraction) → a ≡ b
    → ((m : ℕ) → size (h *ℚ number_at (per_cell (cells_of_32 Backward) b) m) ≤ℚ over (pos 1) 64)
    → (m : ℕ) → size (h *ℚ number_at (per_cell (cells_of_32 Backward) a) m) ≤ℚ over (pos 1) 64
small_by h a b is small m = rw is (small m)

near_by : (h : Fraction) (a b : List Fraction) (numbers : List ℤ) → a ≡ b
    → ((m : ℕ) → IsNear 2 (h *ℚ number_at (per_cell (cells_of_32 Backward) a) m) (slice_index_or numbers m (pos 0)))
    → (m : ℕ) → IsNear 2 (h *ℚ number_at (per_cell (cells_of_32 Backward) b) m) (slice_index_or numbers m (pos 0))
near_by h a b numbers is near m = rw (← is) (near m)

leaving_near : (states m : ℕ) (r l : Fraction) (leaving : ℕ → Fraction) (old new : List ℤ) → states ≤ 12 → m < 9
    → AddsNear (2 * states) leaving old new → IsNear 2 r (slice_index_or old m (pos 0))
    → IsNear 62 (r +ℚ leaving m) (slice_index_or new m (pos 0))
leaving_near states m r l leaving old new few below adds near =
    near_enough 2 (2 * states) (r +ℚ leaving m) (slice_index_or new m (pos 0)) (omega (arith, few))
    (adds 2 m r below near)

free_near : (states m : ℕ) (h s : Fraction) (paid : ℕ → Fraction) (old new : List ℤ) → states ≤ 12 → m < 9
    → AddsNear (5 * states) (λ k. h *ℚ paid k) old new → IsNear 2 (h *ℚ s) (slice_index_or old m (pos 0))
    → IsNear 62 (h *ℚ (s +ℚ paid m)) (slice_index_or new m (pos 0))
free_near states m h s paid old new few below adds near =
    rw (← spread_out h s (paid m))
    (near_enough 2 (5 * states) (h *ℚ s +ℚ h *ℚ paid m) (slice_index_or new m (pos 0)) (omega (arith, few))
    (adds 2 m (h *ℚ s) below near))

pub sojourn_numbers-free-requires-clause-small : goal.sojourn_numbers-free-requires-clause-small
sojourn_numbers-free-requires-clause-small c =
    small_by (scaling c.args.at.g)
    (amount_cell (cells_of_32 Backward) (record_of c.sojourn_at-step.result) c.args.at.month c.args.at.cell)
    (amount_cell (cells_of_32 Backward) (sojourn_at (plan_of c.args.at.which (payments_of c.args.p.now)) c.args.state
    c.args.at.month) c.args.at.month c.args.at.cell)
    (rw c.plan.ensures.payments at (c.sojourn_at-step.ensures.amount (cells_of_32 Backward) c.args.at.cell))
    (λ m. c.requires.small.sojourn c.args.state m c.requires.state)

pub put_diagonal-requires-clause-small : goal.put_diagonal-requires-clause-small
put_diagonal-requires-clause-small c =
    let cell = cell_at c.args.p.now c.args.at.which c.args.at.month c.args.at.cell in
    λ m few. near_size (interest_at cell m +ℚ leaving_at cell c.args.state m) _
    (leaving_near (length c.args.p.now.states) m (interest_at cell m) (interest_at cell m)
    (leaving_at cell c.args.state)
    c.args.interest.now c.fill_links.new.leaving c.requires.small.few few c.fill_links.ensures.leaving
    (c.requires.interest m))
    (c.requires.small.diagonal c.args.state m c.requires.state)

pub put_free-requires-clause-small : goal.put_free-requires-clause-small
put_free-requires-clause-small c =
    let cell = cell_at c.args.p.now c.args.at.which c.args.at.month c.args.at.cell in
    let near = near_by (scaling c.args.at.g)
    (amount_cell (cells_of_32 Backward) (record_of c.sojourn_at-step.result) c.args.at.month c.args.at.cell)
    (amount_cell (cells_of_32 Backward) (sojourn_at (plan_of c.args.at.which (payments_of c.args.p.now)) c.args.state
    c.args.at.month) c.args.at.month c.args.at.cell)
    c.sojourn_numbers-free.result
    (rw c.plan.ensures.payments at (c.sojourn_at-step.ensures.amount (cells_of_32 Backward) c.args.at.cell))
    c.sojourn_numbers-free.ensures.near in
    λ m few. near_size (scaling c.args.at.g *ℚ (sojourn_rate_at cell c.args.state m
    +ℚ sum_to (length c.args.p.now.states) (λ j. first_payment_at cell c.args.state j m))) _
    (free_near (length c.args.p.now.states) m (scaling c.args.at.g) (sojourn_rate_at cell c.args.state m)
    (λ (k : ℕ). sum_to (length c.args.p.now.states) (λ j. first_payment_at cell c.args.state j k))
    c.sojourn_numbers-free.result c.fill_links.new.free c.requires.small.few few c.fill_links.ensures.free (near m))
    (c.requires.small.free c.args.state m c.requires.state few)

pub returns-clause-stands : goal.returns-clause-stands
returns-clause-stands c =
    let cell = cell_at c.args.p.now c.args.at.which c.args.at.month c.args.at.cell in
    let near = near_by (scaling c.args.at.g)
    (amount_cell (cells_of_32 Backward) (record_of c.sojourn_at-step.result) c.args.at.month c.args.at.cell)
    (amount_cell (cells_of_32 Backward) (sojourn_at (plan_of c.args.at.which (payments_of c.args.p.now)) c.args.state
    c.args.at.month) c.args.at.month c.args.at.cell)
    c.sojourn_numbers-free.result
    (rw c.plan.ensures.payments at (c.sojourn_at-step.ensures.amount (cells_of_32 Backward) c.args.at.cell))
    c.sojourn_numbers-free.ensures.near in
    row_done cell (scaling c.args.at.g) c.args.state c.fill_links.new.out c.put_diagonal.new.out c.put_free.new.out
    c.fill_links.new.leaving c.fill_links.new.free c.requires.state
    (omega (arith, c.fill_links.ensures.rows.places.dim, c.requires.made.fits)) c.fill_links.ensures.links
    c.put_diagonal.ensures
    c.put_free.ensures
    (λ m few. leaving_near (length c.args.p.now.states) m (interest_at cell m) (interest_at cell m)
    (leaving_at cell c.args.state)
    c.args.interest.now c.fill_links.new.leaving c.requires.small.few few c.fill_links.ensures.leaving
    (c.requires.interest m))
    (λ m few. free_near (length c.args.p.now.states) m (scaling c.args.at.g) (sojourn_rate_at cell c.args.state m)
    (λ (k : ℕ). sum_to (length c.args.p.now.states) (λ j. first_payment_at cell c.args.state j k))
    c.sojourn_numbers-free.result c.fill_links.new.free c.requires.small.few few c.fill_links.ensures.free (near m))
    (λ m. intensity-none c.args.p.now c.args.at.which c.args.at.month c.args.at.cell c.args.state c.args.state m
    (no_loop c.args.p.now c.args.state c.plan.ensures.lawful))
    c.requires.small.interest_none c.requires.small.intensity_none

pub returns-clause-rows : goal.returns-clause-rows
returns-clause-rows c =
    rows_end _ _ _ _ c.args.state _ 6 9 _ _ c.fill_links.ensures.rows c.put_diagonal.ensures c.put_free.ensures
