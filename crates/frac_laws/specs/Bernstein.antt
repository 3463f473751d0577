-- Bernstein coefficients of degree five.
use Rattle.std.specs.Prelude.{ℕ, zero, suc, pos, ◌+◌, List, [], ◌∷◌, map}
use Rattle.frac_laws.specs.Fraction.{Fraction, over, ◌*ℚ◌}
use Rattle.frac_laws.specs.Sums.{sum_to}
use Rattle.frac_laws.specs.Lists.{number_at}

-- the binomial coefficient C(n, k), by Pascal's triangle
abbrev pub binomial : ℕ → ℕ → ℕ
binomial n zero = 1
binomial zero (suc k) = 0
binomial (suc n) (suc k) = binomial n k + binomial n (suc k)

-- the coefficient at j of a polynomial a_0 + a_1 u + .. + a_5 u^5 on [0, 1]: the sum over i from 0 to j of
-- C(j, i) a_i / C(5, i)
abbrev pub bernstein_coefficient : List Fraction → ℕ → Fraction
bernstein_coefficient a j =
    sum_to (suc j) (λ i. over (pos (binomial j i)) (binomial 5 i) *ℚ number_at a i)

-- all six of them
abbrev pub bernstein_coefficients : List Fraction → List Fraction
bernstein_coefficients a = map (bernstein_coefficient a) (0 ∷ 1 ∷ 2 ∷ 3 ∷ 4 ∷ 5 ∷ [])
