-- Two degrees of one cell's Taylor value, and the differences that a radius ledger bounds.
use Rattle.std.specs.Prelude.{ℕ, pos, ◌+◌, ◌^◌, ◌≤◌}
use Rattle.frac_laws.specs.Fraction.{Fraction, over, whole, ◌*ℚ◌, ◌≤ℚ◌}
use Rattle.frac_laws.specs.Sums.{power}
use Rattle.frac_laws.specs.Lists.{Vector}
use Rattle.frac_laws.specs.Norms.{Norm, Sup, norm_of_vector}
use Rattle.cell_laws.specs.Systems.{System, taylor_value}
use Rattle.cell_laws.specs.Pairs.{CoupledPair, second_taylor_value}
use Rattle.cell_laws.specs.Tame.{IsTame, IsTamePair}
use Rattle.cell_laws.specs.ErrorLaws.{distance}
use Rattle.cell_laws.specs.DecayLaws.{StartsWithin}

-- 2^13 8^n d is at most a number of a radius ledger
abbrev pub IsWithinRadius : (n w : ℕ) → Fraction → Type 0
IsWithinRadius n w d = whole (pos (2 ^ 13)) *ℚ (power (whole (pos 8)) n *ℚ d) ≤ℚ whole (pos w)

-- from degree 8 on, what a tame system's higher degrees add to a Taylor value is at most (1/8) / 8^n
abbrev pub LaterDegreesAddLittle : Type 0
LaterDegreesAddLittle = (norm : Norm) (kappa40 : ℕ) (s : System) (y : Vector) (n more : ℕ) → IsTame norm kappa40 s
    → norm_of_vector norm y ≤ℚ whole (pos 2) → 8 ≤ n
    → power (whole (pos 8)) n *ℚ distance norm (taylor_value s y (n + more)) (taylor_value s y n) ≤ℚ over (pos 1) 8

-- and so for the second half of a pair
abbrev pub SecondLaterDegreesAddLittle : Type 0
SecondLaterDegreesAddLittle =
    (kappa40 : ℕ) (c : Fraction) (p : CoupledPair) (w z : Vector) (n more : ℕ) → IsTamePair kappa40 c p
    → StartsWithin (whole (pos 1)) w z → 8 ≤ n
    → power (whole (pos 8)) n *ℚ distance Sup (second_taylor_value p w z (n + more)) (second_taylor_value p w z n)
    ≤ℚ over (pos 1) 8
