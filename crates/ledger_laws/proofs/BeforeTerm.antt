-- The ledgers by the months that are left to the term.
use Rattle.std.specs.Prelude.{ℕ, suc, ◌+◌, ◌-◌, ◌*◌, ◌<◌, ◌≤◌, length}
use Rattle.std.proofs.Common.{arith}
use Rattle.model_specs.specs.Payments.{lumps_at}
use Rattle.model_specs.specs.Growth.{kappa40, pay}
use Rattle.model_specs.specs.Ledgers.{greatest_lump, bound_before_term, bound1024, radius_before_term}
use Rattle.model_specs.specs.Ledgers.{date_adds, second_before_term}
use Rattle.ledger_laws.specs.GrowthLaws.{greatest_radius}
use Rattle.ledger_laws.specs.BeforeTermLaws.{month_ending, radius_cells, bound_cells, second_cells}
use Rattle.ledger_laws.specs.BeforeTermLaws.{RadiusStaysSmallBeforeTerm, BoundIsGreatestBeforeTerm}
use Rattle.ledger_laws.specs.BeforeTermLaws.{SecondIsFourfoldBeforeTerm}
use Rattle.ledger_laws.proofs.BoundFacts.{months_within}
use Rattle.ledger_laws.proofs.GrowthFacts.{backward_months}
use Rattle.ledger_laws.proofs.Rounding.{never_falls, le_through}
use Rattle.ledger_laws.proofs.SecondFacts.{before_term, kappa_small}
use Rattle.ledger_laws.proofs.SecondSteps.{with_lumps_within, cells_within, fourfold, nearly_fourfold}

pub radius_small : RadiusStaysSmallBeforeTerm
radius_small product well rules = record {
  months = backward_months product well rules;
  cells = λ months cells below within.
      le_through (radius_cells product months cells) (radius_before_term product (suc months)) greatest_radius
      (never_falls (kappa40 product (month_ending product months)) 1024 (radius_before_term product months) cells 32
      within)
      (backward_months product well rules (suc months) below);
}

pub bound_greatest : BoundIsGreatestBeforeTerm
bound_greatest product plan months cells below within =
    let month = month_ending product months in
    le_through (bound_cells product plan months cells) (bound_before_term product plan (suc months))
    (bound1024 product plan)
    (never_falls (kappa40 product month) (pay product plan month)
    (bound_before_term product plan months + 1024 * greatest_lump product plan (suc month)) cells 32 within)
    (months_within product plan (suc months) below)

pub second_fourfold : SecondIsFourfoldBeforeTerm
second_fourfold product plan G well rules some enough = record {
  months = λ months within. fourfold (second_before_term product plan G months) (radius_before_term product months) G
      (bound_before_term product plan months) some
      (le_through (bound_before_term product plan months) (bound1024 product plan) (1024 * G)
      (months_within product plan months within) enough)
      (before_term product plan G well rules some months within);
  cells = λ months cells below within.
      let month = month_ending product months in
      let largest = greatest_lump product plan (suc month) in
      let lumps = lumps_at (length product.states) plan (suc month) in
      let w = radius_before_term product months in
      nearly_fourfold (second_cells product plan G months cells) (radius_cells product months cells) G
      (bound_cells product plan months cells) some
      (le_through (bound_cells product plan months cells) (bound1024 product plan) (1024 * G)
      (bound_greatest product plan months cells below within) enough)
      (cells_within (kappa40 product month) (pay product plan month) G w
      (second_before_term product plan G months + date_adds lumps largest w G)
      (bound_before_term product plan months + 1024 * largest)
      (kappa_small product plan G well rules some month (ends_below product.months months below)) some
      (with_lumps_within lumps (second_before_term product plan G months) largest w G
      (bound_before_term product plan months) some
      (before_term product plan G well rules some months (less product.months months below)))
      cells);
}
  where
    ends_below : (all months : ℕ) → months < all → all - suc months < all
    ends_below all months below = omega arith

    less : (all months : ℕ) → months < all → months ≤ all
    less all months below = omega arith
