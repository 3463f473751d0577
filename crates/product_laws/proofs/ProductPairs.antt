-- Norberg's pair of each cell of an admissible product is a tame pair.
use Rattle.std.specs.Prelude.{ℕ, pos, ◌^◌, ◌<◌, [], ◌∷◌}
use Rattle.std.proofs.Common.{refl, lit≤, pow_pos}
use Rattle.frac_laws.specs.Fraction.{Fraction, over, whole, ◌*ℚ◌, ◌≤ℚ◌}
use Rattle.frac_laws.proofs.Linear.{linear, claims, natural, ◌⊠◌}
use Rattle.frac_laws.proofs.Quotients.{over_is}
use Rattle.cell_laws.specs.Tame.{IsTamePair}
use Rattle.model_specs.specs.Product.{Product}
use Rattle.model_specs.specs.Payments.{Plan, payment_plan}
use Rattle.model_specs.specs.Growth.{kappa40, pay}
use Rattle.model_specs.specs.Ledgers.{scale}
use Rattle.model_specs.specs.RecordRules.{IsWellFormed}
use Rattle.model_specs.specs.Cells.{Backward}
use Rattle.model_specs.specs.Systems.{norberg_pair}
use Rattle.ledger_laws.specs.MonthLaws.{ObeysMonthRules}
use Rattle.ledger_laws.proofs.MonthFacts.{admissible_obeys}
use Rattle.cell_bounds.specs.ScaledSystems.{scaled_pair}
use Rattle.product_cells.specs.EachCell.{backward_cell, plan_scaling}
use Rattle.product_laws.specs.TameCells.{coupling_of, NorbergPairsAreTame}
use Rattle.product_cells.specs.MonthFractions.{most_paid}
use Rattle.model_laws.proofs.PlanSteps.{HasFourEach, payment_plan_four}
use Rattle.product_cells.proofs.ProductCurves.{over_product}
use Rattle.product_cells.proofs.ProductPayments.{scaled_x, pay_covers}
use Rattle.product_cells.specs.MonthFractions.{month_bounds, plan_bounds}
use Rattle.product_cells.proofs.CellsWithin.{cell_within, cell_pays}
use Rattle.cell_bounds.proofs.SmallCellsTame.{small_norberg_pairs_are_tame}
use Rattle.product_cells.proofs.ScaleRoom.{unit_scale, room}

module _ (product : Product) (plan : Plan) (month cell : ℕ) (formed : IsWellFormed product)
    (rules : ObeysMonthRules product month) (below : month < product.months) (inside : cell < 32)
    (four : HasFourEach plan) where
  abbrev h : Fraction
  h = plan_scaling product plan

  abbrev G : ℕ
  G = 2 ^ scale product plan

  cover : over (pos 1) 96 *ℚ (h *ℚ (most_paid product plan month)) ≤ℚ coupling_of product plan month
  cover =
      let p = pay product plan month in
      let parts = over_product 2 p 1024 G (lit≤ tt) (pow_pos (scale product plan)) in
      rw (parts, over_is (pos p) G)
      (linear ((most_paid product plan month) ∷ h ∷ whole (pos p) ∷ [])
      ((pay_covers product plan month formed rules below four ⊠ natural 1 G) ⊠ natural 2 1024) (hlevel claims) refl)

  pub norberg_pair_tame : IsTamePair (kappa40 product month) (coupling_of product plan month)
      (scaled_pair h (norberg_pair (backward_cell product plan month cell)))
  norberg_pair_tame =
      small_norberg_pairs_are_tame (backward_cell product plan month cell) (month_bounds product month)
      (plan_bounds product plan month) h (whole (pos G)) (coupling_of product plan month)
      (cell_within Backward product plan month cell formed rules inside)
      (cell_pays Backward product plan month cell formed rules inside below four) (record {
        h_natural = natural 1 G;
        G_natural = natural G 1;
        unit = unit_scale product plan;
        room = room product plan month formed rules below four;
        most = scaled_x product plan month formed rules below four;
        couples = cover;
      })

pub norberg_pairs_are_tame : NorbergPairsAreTame
norberg_pairs_are_tame product month cell admissible below inside =
    norberg_pair_tame product (payment_plan product) month cell admissible.well_formed
    (admissible_obeys product admissible month below) below inside (payment_plan_four product admissible.well_formed)
