-- What a forward cell has beyond tameness.
use Rattle.std.specs.Prelude.{◌≡◌, ℕ, pos, ◌+◌, ◌<◌, [], ◌∷◌}
use Rattle.std.proofs.Common.{refl, arith}
use Rattle.frac_laws.specs.Fraction.{Fraction, over, whole, opposite, ◌+ℚ◌, ◌-ℚ◌, ◌*ℚ◌, ◌≤ℚ◌, is_not_negative}
use Rattle.frac_laws.specs.Sums.{sum_to}
use Rattle.frac_laws.specs.Norms.{Sum}
use Rattle.frac_laws.proofs.FractionTerms.{ring, terms}
use Rattle.frac_laws.proofs.Linear.{linear, claims, natural, ◌⊞◌, ◌⊠◌}
use Rattle.frac_laws.proofs.Order.{le_trans, le_of_equal}
use Rattle.frac_laws.proofs.Sums.{sum_to_mono, sum_to_scale}
use Rattle.cell_laws.specs.Tame.{matrix_norm_at}
use Rattle.model_specs.specs.Cells.{CellCurves, Forward}
use Rattle.model_specs.specs.Systems.{kolmogorov_system}
use Rattle.model_specs.specs.Payments.{payment_plan}
use Rattle.ledger_laws.proofs.MonthFacts.{admissible_obeys}
use Rattle.cell_bounds.specs.CellBounds.{rate_bound, interest_bound, of_cell}
use Rattle.probability_laws.specs.ProbabilityLaws.{HasSmallForward, ForwardCellsAreSmall}
use Rattle.cell_bounds.specs.CellBounds.{MonthBounds, IsWithinMonth}
use Rattle.product_cells.specs.MonthFractions.{month_bounds}
use Rattle.product_cells.proofs.CellsWithin.{cell_within}
use Rattle.cell_bounds.proofs.SmallCellsTame.{small_forward_norm, small_forward_factor}
use Rattle.product_cells.specs.EachCell.{forward_cell}
use Rattle.cell_bounds.proofs.TameLinks.{link_bound}

-- K_1 + .. + K_5
rates_later : sum_to 5 (λ m. rate_bound (1 + m)) ≤ℚ over (pos 3) 16
unfolding ◌+ℚ◌ ◌*ℚ◌ ◌-ℚ◌ opposite is_not_negative
rates_later = record { le = refl }

-- without interest
no_interest : (rho iota : Fraction) (m : ℕ)
    → link_bound rho iota (whole (pos 0)) m ≡ of_cell (whole (pos 2) *ℚ rho) *ℚ rate_bound m
no_interest rho iota m = ring (rho ∷ iota ∷ rate_bound m ∷ interest_bound m ∷ []) (hlevel terms) refl

module _ (cell : CellCurves) (b : MonthBounds) (within : IsWithinMonth cell b) where
  norm_within : (m : ℕ) → m < 6 → matrix_norm_at Sum (kolmogorov_system cell).matrices m
      ≤ℚ of_cell (whole (pos 2) *ℚ b.rho) *ℚ rate_bound m
  norm_within m low = le_trans (small_forward_norm cell b within m low) (le_of_equal (no_interest b.rho b.iota m))

  pub forward_small : HasSmallForward (kolmogorov_system cell)
  forward_small =
      let small = within.small in
      let rho = b.rho in
      let norms = matrix_norm_at Sum (kolmogorov_system cell).matrices in
      record {
        first = linear (norms 0 ∷ rho ∷ []) (norm_within 0 (omega arith) ⊞ small.rho_most ⊠ natural 2 384)
            (hlevel claims) refl;
        later = le_trans (sum_to_mono 5 {f = λ m. norms (1 + m)}
            {g = λ m. of_cell (whole (pos 2) *ℚ rho) *ℚ rate_bound (1 + m)} (λ m c. norm_within (1 + m) (omega arith)))
            (le_trans (le_of_equal (sum_to_scale 5 (of_cell (whole (pos 2) *ℚ rho)) (λ m. rate_bound (1 + m))))
            (linear (sum_to 5 (λ m. rate_bound (1 + m)) ∷ rho ∷ [])
            ((rates_later ⊠ small.rho_natural) ⊠ natural 2 384 ⊞ small.rho_most ⊠ natural 6 6144) (hlevel claims)
            refl));
        mean = le_trans (small_forward_factor cell b within)
            (linear (b.nu ∷ []) (natural 0 1) (hlevel claims) refl);
      }

pub forward_cells_are_small : ForwardCellsAreSmall
forward_cells_are_small product month cell admissible below inside =
    let formed = admissible.well_formed in
    let rules = admissible_obeys product admissible month below in
    forward_small (forward_cell product month cell) (month_bounds product month)
    (cell_within Forward product (payment_plan product) month cell formed rules inside)
