-- The growth of a cell from the numbers of its month.
use Rattle.std.specs.Prelude.{ℕ, pos, ◌+◌, ◌*◌, ◌^◌, ◌<◌, ◌≤◌, ◌≤ℤ◌, max, neg_ℤ, unsigned_abs}
use Rattle.std.specs.Int.{div_ceil}
use Rattle.named_numbers.specs.Numbers.{cells_of_half_year, cells_of_two_years}
use Rattle.whole_laws.specs.Whole.{natural_part}
use Rattle.rate_bounds.specs.declared.curves.MonthCurves.{MonthCurves}

-- the greatest size of a Bernstein coefficient of the interest, from the greatest and the least of them
unfoldable pub iota_of : MonthCurves → ℕ
iota_of curves = max (unsigned_abs curves.high) (unsigned_abs curves.low)

-- how far the least of them is below 0
unfoldable pub nu_of : MonthCurves → ℕ
nu_of curves = natural_part (neg_ℤ curves.low)

-- 2^40 (5 rho + 6 iota) / 768, rounded up
unfoldable pub phi_of : MonthCurves → ℕ → ℕ
phi_of curves unit = div_ceil (2 ^ 40 * (5 * natural_part curves.rho + 6 * iota_of curves)) (cells_of_two_years * unit)

-- the growth by it, and that by interest below 0, each rounded up
unfoldable pub kappa_of : MonthCurves → ℕ → ℕ
kappa_of curves unit =
    div_ceil (9 * phi_of curves unit ^ 2) (2 ^ 44) + div_ceil (2 ^ 40 * nu_of curves) (cells_of_half_year * unit)

-- rates of at most 2 and interest of at most 1, whose growth is at most 1/4096
pub record GrowsLittle (curves : MonthCurves) (unit : ℕ) : Type 0 where
  pub some_unit : 1 ≤ unit
  pub unit_most : unit < 2 ^ 62
  pub rho_natural : pos 0 ≤ℤ curves.rho
  pub rho_most : curves.rho ≤ℤ pos (2 * unit)
  pub iota_most : iota_of curves ≤ unit
  pub nu_most : nu_of curves ≤ unit
  pub growth : kappa_of curves unit ≤ 2 ^ 28
