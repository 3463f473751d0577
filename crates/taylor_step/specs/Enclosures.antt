-- What a step promises: its numbers enclose the Taylor values of every start that the old numbers enclosed.
use Rattle.std.specs.Prelude.{ℕ, ◌+◌, ◌≤◌, ℤ, pos, List, take, drop}
use Rattle.frac_laws.specs.Fraction.{Fraction, whole, ◌*ℚ◌, ◌≤ℚ◌}
use Rattle.frac_laws.specs.Ledger.{grow}
use Rattle.frac_laws.specs.Lists.{Vector}
use Rattle.frac_laws.specs.Norms.{Norm, Sup}
use Rattle.cell_laws.specs.ErrorLaws.{distance}
use Rattle.cell_laws.specs.Pairs.{CoupledPair, second_taylor_value}
use Rattle.cell_laws.specs.Systems.{System, taylor_value}
use Rattle.linear_system.specs.StandsFor.{units, in_units}
use Rattle.step_laws.specs.StepLaws.{IsStartNear}

-- the rounding of one step, with what the stored numbers are off and what follows the degree, in units of
-- 2^-64
abbrev pub step_rounding : ℕ
step_rounding = 1023

-- a vector is within a radius, in units of 2^-64, of another
abbrev pub IsWithin : Norm → ℕ → Vector → Vector → Type 0
IsWithin norm radius y mid = distance norm y mid ≤ℚ units (pos radius)

-- every start of norm at most 2 within a radius of the old numbers has its Taylor values, from the degree on,
-- within
-- the grown radius of the new ones
abbrev pub Encloses : Norm → System → ℕ → List ℤ → List ℤ → ℕ → Type 0
Encloses norm e kappa40 old new degree =
    (y : Vector) (radius n : ℕ) → IsStartNear norm e.dimension (whole (pos 2)) radius y (in_units old)
    → degree ≤ n
    → IsWithin norm (grow radius kappa40 step_rounding) (taylor_value e y n) (in_units new)

-- starts of both halves of a pair, each of norm at most 1 and within a radius of its half of the numbers
pub record ArePairStarts (half : ℕ) (old : List ℤ) (w z : Vector) (radius radius2 : ℕ) : Type 0 where
  pub first : IsStartNear Sup half (whole (pos 1)) radius w (take half (in_units old))
  pub second : IsStartNear Sup half (whole (pos 1)) radius2 z (drop half (in_units old))

-- the first half of a pair as in Sup
abbrev pub EnclosesFirst : CoupledPair → ℕ → ℕ → List ℤ → List ℤ → ℕ → Type 0
EnclosesFirst p half kappa40 old new degree =
    (w z : Vector) (radius radius2 n : ℕ) → ArePairStarts half old w z radius radius2 → degree ≤ n
    → IsWithin Sup (grow radius kappa40 step_rounding) (taylor_value p.first w n) (take half (in_units new))

-- the second half, which also takes c times the first half's radius: `taken` is any whole number that is at
-- least
-- that
abbrev pub EnclosesSecond : CoupledPair → ℕ → ℕ → Fraction → List ℤ → List ℤ → ℕ → Type 0
EnclosesSecond p half kappa40 c old new degree =
    (w z : Vector) (radius radius2 n taken : ℕ) → ArePairStarts half old w z radius radius2 → degree ≤ n
    → c *ℚ whole (pos radius) ≤ℚ whole (pos taken)
    → IsWithin Sup (grow radius2 kappa40 (taken + step_rounding)) (second_taylor_value p w z n)
    (drop half (in_units new))
