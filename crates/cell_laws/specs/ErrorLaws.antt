-- How far two Taylor values of one tame system or pair are apart: from two starts, and of two degrees.
use Rattle.std.specs.Prelude.{ℕ, pos, length, ◌≤◌, ◌+◌}
use Rattle.frac_laws.specs.Fraction.{Fraction, over, whole, ◌+ℚ◌, ◌*ℚ◌, ◌≤ℚ◌}
use Rattle.frac_laws.specs.Lists.{Vector, subtract_lists}
use Rattle.frac_laws.specs.Norms.{Norm, Sup, norm_of_vector}
use Rattle.cell_laws.specs.Systems.{System, taylor_value}
use Rattle.cell_laws.specs.Pairs.{CoupledPair, second_taylor_value}
use Rattle.cell_laws.specs.Tame.{growth_of, IsTame, IsTamePair}
use Rattle.cell_laws.specs.DecayLaws.{unit_part, StartsWithin}
use Rattle.cell_laws.specs.GrowthLaws.{growth_factor}

-- |u - v|
abbrev pub distance : Norm → Vector → Vector → Fraction
distance norm u v = norm_of_vector norm (subtract_lists u v)

-- two Taylor values of a tame system are at most (1 + kappa) times as far apart as their starts, but for the
-- further term where an A_m with m at the degree or above is other than 0
abbrev pub ErrorsGrow : Type 0
ErrorsGrow = (norm : Norm) (kappa40 : ℕ) (s : System) (y x : Vector) (n : ℕ) → IsTame norm kappa40 s
    → length y ≤ s.dimension → length x ≤ s.dimension
    → distance norm (taylor_value s y n) (taylor_value s x n)
    ≤ℚ growth_factor norm kappa40 s n *ℚ distance norm y x

-- there is no further term where the degree is above all powers
abbrev pub ErrorsGrowByKappa : Type 0
ErrorsGrowByKappa = (norm : Norm) (kappa40 : ℕ) (s : System) (y x : Vector) (n : ℕ) → IsTame norm kappa40 s
    → length y ≤ s.dimension → length x ≤ s.dimension → length s.matrices ≤ n
    → distance norm (taylor_value s y n) (taylor_value s x n)
    ≤ℚ (whole (pos 1) +ℚ growth_of kappa40) *ℚ distance norm y x

-- the second half's Taylor values also take c times the distance of the first half's starts
abbrev pub SecondErrorsGrow : Type 0
SecondErrorsGrow =
    (kappa40 : ℕ) (c : Fraction) (p : CoupledPair) (w z v x : Vector) (n : ℕ) → IsTamePair kappa40 c p
    → length z ≤ p.second.dimension → length x ≤ p.second.dimension
    → distance Sup (second_taylor_value p w z n) (second_taylor_value p v x n)
    ≤ℚ growth_factor Sup kappa40 p.second n *ℚ distance Sup z x +ℚ c *ℚ distance Sup w v

-- a Taylor value of degree 24 or more is within 1/896 of a unit of that of degree 24
abbrev pub LaterDegreesAreClose : Type 0
LaterDegreesAreClose =
    (norm : Norm) (kappa40 : ℕ) (s : System) (y : Vector) (more : ℕ) → IsTame norm kappa40 s
    → norm_of_vector norm y ≤ℚ whole (pos 2)
    → distance norm (taylor_value s y (24 + more)) (taylor_value s y 24) ≤ℚ unit_part 896

-- from a stored start, which may be of norm up to 17/8, it is within 1/400 of a unit
abbrev pub StoredLaterDegreesAreClose : Type 0
StoredLaterDegreesAreClose =
    (norm : Norm) (kappa40 : ℕ) (s : System) (y : Vector) (more : ℕ) → IsTame norm kappa40 s
    → norm_of_vector norm y ≤ℚ over (pos 17) 8
    → distance norm (taylor_value s y (24 + more)) (taylor_value s y 24) ≤ℚ unit_part 400

-- of the second half of a pair it is within 1/896 of a unit
abbrev pub SecondLaterDegreesAreClose : Type 0
SecondLaterDegreesAreClose =
    (kappa40 : ℕ) (c : Fraction) (p : CoupledPair) (w z : Vector) (more : ℕ) → IsTamePair kappa40 c p
    → StartsWithin (whole (pos 1)) w z
    → distance Sup (second_taylor_value p w z (24 + more)) (second_taylor_value p w z 24) ≤ℚ unit_part 896

-- and from stored starts, which may be of norm up to 17/16, within 1/400 of a unit
abbrev pub StoredSecondLaterDegreesAreClose : Type 0
StoredSecondLaterDegreesAreClose =
    (kappa40 : ℕ) (c : Fraction) (p : CoupledPair) (w z : Vector) (more : ℕ) → IsTamePair kappa40 c p
    → StartsWithin (over (pos 17) 16) w z
    → distance Sup (second_taylor_value p w z (24 + more)) (second_taylor_value p w z 24) ≤ℚ unit_part 400
