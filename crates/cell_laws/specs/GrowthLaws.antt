-- How much an error of the start grows over a cell: the homogeneous Taylor values of tame systems and
-- pairs.
use Rattle.std.specs.Prelude.{ℕ, suc, pos, List, [], length, ◌≤◌, ◌+◌, ◌-◌}
use Rattle.frac_laws.specs.Fraction.{Fraction, over, whole, ◌+ℚ◌, ◌*ℚ◌, ◌≤ℚ◌}
use Rattle.frac_laws.specs.Sums.{sum_to}
use Rattle.frac_laws.specs.Lists.{Vector, Matrix}
use Rattle.frac_laws.specs.Norms.{Norm, Sup, norm_of_vector}
use Rattle.cell_laws.specs.Systems.{System, coefficient, taylor_value, homogeneous}
use Rattle.cell_laws.specs.Pairs.{CoupledPair, second_coefficient, second_taylor_value, homogeneous_pair}
use Rattle.cell_laws.specs.Tame.{matrix_norm_at, growth_of, IsTame, IsTamePair}

-- the sum of |A_m| / (m + 1) over the powers m from n on
abbrev pub later_powers : Norm → List Matrix → ℕ → Fraction
later_powers norm matrices n =
    sum_to (length matrices - n) (λ i. over (pos 1) (suc (n + i)) *ℚ matrix_norm_at norm matrices (n + i))

-- 1 + kappa, with a further term for the powers from n on
abbrev pub growth_factor : Norm → ℕ → System → ℕ → Fraction
growth_factor norm kappa40 s n = whole (pos 1) +ℚ growth_of kappa40 +ℚ later_powers norm s.matrices n

-- the homogeneous Taylor value of degree n of a tame system is at most (1 + kappa) times its start, but for
-- the further term where an A_m with m at n or above is other than 0
abbrev pub CellsGrow : Type 0
CellsGrow = (norm : Norm) (kappa40 : ℕ) (s : System) (e : Vector) (n : ℕ) → IsTame norm kappa40 s
    → length e ≤ s.dimension
    → norm_of_vector norm (taylor_value (homogeneous s) e n)
    ≤ℚ growth_factor norm kappa40 s n *ℚ norm_of_vector norm e

-- whatever the growth, 127 times the sum of the homogeneous coefficients is at most 129 times the start
abbrev pub CellsGrowLittle : Type 0
CellsGrowLittle = (norm : Norm) (kappa40 : ℕ) (s : System) (e : Vector) (n : ℕ) → IsTame norm kappa40 s
    → whole (pos 127) *ℚ sum_to (suc n) (λ k. norm_of_vector norm (coefficient (homogeneous s) e k))
    ≤ℚ whole (pos 129) *ℚ norm_of_vector norm e

-- what the second half's coefficients take from a start e of the first half adds up to at most c |e|
abbrev pub SecondHalvesRespond : Type 0
SecondHalvesRespond =
    (kappa40 : ℕ) (c : Fraction) (p : CoupledPair) (e : Vector) (n : ℕ) → IsTamePair kappa40 c p
    → sum_to (suc n) (λ k. norm_of_vector Sup (second_coefficient (homogeneous_pair p) e [] k))
    ≤ℚ c *ℚ norm_of_vector Sup e

-- the second half of a homogeneous tame pair grows by its own growth, and takes c times the first's start
abbrev pub PairsGrow : Type 0
PairsGrow = (kappa40 : ℕ) (c : Fraction) (p : CoupledPair) (e d : Vector) (n : ℕ) → IsTamePair kappa40 c p
    → length d ≤ p.second.dimension
    → norm_of_vector Sup (second_taylor_value (homogeneous_pair p) e d n)
    ≤ℚ growth_factor Sup kappa40 p.second n *ℚ norm_of_vector Sup d +ℚ c *ℚ norm_of_vector Sup e
