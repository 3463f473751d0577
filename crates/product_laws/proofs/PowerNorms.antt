-- The norms of the backward matrices of each cell of an admissible product, power by power.
use Rattle.std.specs.Prelude.{ℕ, zero, suc, pos, ◌^◌, ◌<◌, [], ◌∷◌}
use Rattle.std.proofs.Common.{refl, arith}
use Rattle.frac_laws.specs.Fraction.{Fraction, over, whole, ◌*ℚ◌, ◌≤ℚ◌}
use Rattle.frac_laws.specs.Bernstein.{binomial}
use Rattle.frac_laws.specs.Norms.{Sup}
use Rattle.frac_laws.proofs.Linear.{linear, claims, natural, ◌⊞◌, ◌⊠◌}
use Rattle.frac_laws.proofs.Order.{le_trans}
use Rattle.cell_laws.specs.Tame.{matrix_norm_at}
use Rattle.model_specs.specs.Product.{Product}
use Rattle.model_specs.specs.Payments.{Plan, payment_plan, pattern_plan}
use Rattle.model_specs.specs.RecordRules.{IsWellFormed}
use Rattle.model_specs.specs.Cells.{Backward}
use Rattle.model_specs.specs.Systems.{thiele_system}
use Rattle.ledger_laws.specs.MonthLaws.{ObeysMonthRules}
use Rattle.ledger_laws.proofs.MonthFacts.{admissible_obeys}
use Rattle.cell_bounds.specs.CellBounds.{HasSmallMonth}
use Rattle.product_cells.specs.MonthFractions.{rho_of, iota_of, nu_of}
use Rattle.product_laws.specs.TameCells.{PowersAreSmall}
use Rattle.product_cells.specs.EachCell.{backward_cell}
use Rattle.cell_bounds.proofs.TameLinks.{link_bound}
use Rattle.product_cells.specs.MonthFractions.{month_bounds}
use Rattle.product_cells.proofs.CellsWithin.{cell_within}
use Rattle.cell_bounds.proofs.SmallCellsTame.{small_thiele_norm}
use Rattle.product_cells.proofs.ProductCurves.{small_month}

-- 2 K_m rho + J_m iota is at most 17/4 binomial(5, m) / 16^m
power_bound : (rho iota nu : Fraction) → HasSmallMonth rho iota nu → (m : ℕ) → m < 6
    → link_bound rho iota (whole (pos 1)) m ≤ℚ over (pos 17) 1536 *ℚ over (pos (binomial 5 m)) (16 ^ m)
power_bound rho iota nu small zero b =
    linear (rho ∷ iota ∷ []) (small.rho_most ⊠ natural 2 384 ⊞ small.iota_most ⊠ natural 1 384) (hlevel claims) refl
power_bound rho iota nu small (suc zero) b =
    linear (rho ∷ iota ∷ []) (small.rho_most ⊠ natural 5 6144 ⊞ small.iota_most ⊠ natural 5 6144) (hlevel claims) refl
power_bound rho iota nu small (suc (suc zero)) b =
    linear (rho ∷ iota ∷ []) (small.rho_most ⊠ natural 10 98304 ⊞ small.iota_most ⊠ natural 10 98304) (hlevel claims)
    refl
power_bound rho iota nu small (suc (suc (suc zero))) b =
    linear (rho ∷ iota ∷ []) (small.rho_most ⊠ natural 10 1572864 ⊞ small.iota_most ⊠ natural 10 1572864)
    (hlevel claims) refl
power_bound rho iota nu small (suc (suc (suc (suc zero)))) b =
    linear (rho ∷ iota ∷ []) (small.rho_most ⊠ natural 5 25165824 ⊞ small.iota_most ⊠ natural 5 25165824)
    (hlevel claims) refl
power_bound rho iota nu small (suc (suc (suc (suc (suc zero))))) b =
    linear (rho ∷ iota ∷ []) (small.rho_most ⊠ natural 1 402653184 ⊞ small.iota_most ⊠ natural 1 402653184)
    (hlevel claims) refl
power_bound rho iota nu small (suc (suc (suc (suc (suc (suc m)))))) b = absurd (omega (arith, b))

power_small : (product : Product) (plan : Plan) (month cell : ℕ) → IsWellFormed product → ObeysMonthRules product month
    → cell < 32 → (m : ℕ) → m < 6
    → matrix_norm_at Sup (thiele_system (backward_cell product plan month cell)).matrices m
    ≤ℚ over (pos 17) 1536 *ℚ over (pos (binomial 5 m)) (16 ^ m)
power_small product plan month cell formed rules inside m b =
    le_trans (small_thiele_norm (backward_cell product plan month cell) (month_bounds product month)
    (cell_within Backward product plan month cell formed rules inside) m b)
    (power_bound (rho_of product month) (iota_of product month) (nu_of product month)
    (small_month product month formed rules) m b)

pub powers_are_small : PowersAreSmall
powers_are_small product month cell admissible below inside =
    let formed = admissible.well_formed in
    let rules = admissible_obeys product admissible month below in (
      power_small product (payment_plan product) month cell formed rules inside,
      power_small product (pattern_plan product) month cell formed rules inside,
    )
