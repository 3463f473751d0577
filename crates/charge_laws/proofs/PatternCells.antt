-- What the premium pattern pays in a cell: a constant in a payer's months where it is continuous, and no sums.
use Rattle.std.specs.Prelude.{◌≡◌, ℕ, zero, suc, pos, ◌-◌, ◌==◌, Option, Some, None, List}
use Rattle.std.specs.Prelude.{[], ◌∷◌, refl, true, false, cond}
use Rattle.std.specs.Prelude.{option_map, unwrap_or, slice_index_or}
use Rattle.std.proofs.Common.{ap, ◌∙◌}
use Rattle.frac_laws.specs.Fraction.{whole, ◌*ℚ◌}
use Rattle.frac_laws.specs.Lists.{number_at}
use Rattle.frac_laws.specs.Polynomials.{all_over}
use Rattle.frac_laws.proofs.FractionTerms.{ring, terms}
use Rattle.frac_laws.proofs.Sums.{sum_to_zeros}
use Rattle.model_specs.specs.Product.{Product, Step}
use Rattle.model_specs.specs.Payments.{constant_step, continuous_pattern, dated_pattern, pattern_plan}
use Rattle.model_specs.specs.Payments.{sojourn_at, step_at}
use Rattle.model_specs.specs.Cells.{CellCurves, Grid, cell_curves, cell_polynomial, amount_cell, transition_between}
use Rattle.model_specs.specs.Systems.{first_payment_at, intensity_at, sum_paid_at}
use Rattle.model_laws.proofs.FlatRuns.{constant-number}
use Rattle.payment_plan.specs.Tables.{pays_in_month}
use Rattle.payment_plan.proofs.Patterns.{pattern_rate, unit_amount}
use Rattle.charge_laws.proofs.ContinuedSteps.{paid_number}

module _ (grid : Grid) (product : Product) (month cell : ℕ) where
  abbrev curves : CellCurves
  curves = cell_curves grid product (pattern_plan product) month cell

  -- 1 a year in the months in which the pattern pays continuously
  pub pattern_pays : (i power : ℕ) → paid_number grid month cell power (sojourn_at (pattern_plan product) i month)
      ≡ number_at (whole (unit_amount (pays_in_month product.pattern i month)) ∷ []) power
  pattern_pays i power =
      ap (λ c. number_at (cell_polynomial grid (all_over 1 c)
      (month - (sojourn_at (pattern_plan product) i month).from) cell) power)
      (pattern_rate (record {
        states = 0;
        months = 0;
        sums = [];
        sojourns = [];
        lumps = [];
        pattern = product.pattern;
      }) i month)
      ∙ constant-number _ _ (whole (unit_amount (pays_in_month product.pattern i month))) power

  -- a sum of nothing
  nothing_paid : (power : ℕ) → paid_number grid month cell power (constant_step 0 (pos 0)) ≡ whole (pos 0)
  nothing_paid power = constant-number _ _ (whole (pos 0)) power ∙ only power
    where
      only : (power : ℕ) → number_at (whole (pos 0) ∷ []) power ≡ whole (pos 0)
      only zero = refl
      only (suc power) = refl

  -- neither a continuous pattern nor one of dates has sums
  no_sums : (pattern_plan product).sums ≡ []
  no_sums = elim (product.pattern.every == 0) as (λ b.
      (cond b (continuous_pattern product.pattern) (dated_pattern product.pattern)).sums ≡ [])
      [ true ↦ refl | false ↦ refl ]

  no_sum : (power i j : ℕ) → sum_paid_at curves i j power ≡ whole (pos 0)
  no_sum power i j =
      ap (λ (sums : List (List Step)). number_at (unwrap_or (option_map
      (λ e. amount_cell grid (step_at (slice_index_or sums e []) month) month cell) (transition_between product i j))
      []) power) no_sums
      ∙ by_transition (transition_between product i j)
    where
      by_transition : (o : Option ℕ) → number_at (unwrap_or (option_map
          (λ e. amount_cell grid (constant_step 0 (pos 0)) month cell) o) []) power ≡ whole (pos 0)
      by_transition None = refl
      by_transition (Some e) = nothing_paid power

  pub no_payment : (power i j : ℕ) → first_payment_at curves i j power ≡ whole (pos 0)
  no_payment power i j = sum_to_zeros (suc power) (λ k below.
      ap (λ z. intensity_at curves i j k *ℚ z) (no_sum (power - k) i j)
      ∙ ring (intensity_at curves i j k ∷ []) (hlevel terms) refl)
