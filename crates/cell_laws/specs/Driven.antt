-- Sequences of numbers that are driven: what the norms of a system's coefficients are.
use Rattle.std.specs.Prelude.{ℕ, suc, pos, ◌<◌, ◌≤◌}
use Rattle.frac_laws.specs.Fraction.{Fraction, whole, ◌+ℚ◌, ◌*ℚ◌, ◌≤ℚ◌}
use Rattle.frac_laws.specs.Sums.{sum_to}
use Rattle.frac_laws.specs.Convolution.{convolution}
use Rattle.cell_laws.specs.Tame.{weighted}

-- no term is below 0
abbrev pub IsNatural : (ℕ → Fraction) → Type 0
IsNatural f = (k : ℕ) → whole (pos 0) ≤ℚ f k

-- v is driven by a and f up to n: (k + 1) v_(k+1) <= a_0 v_k + .. + a_k v_0 + f_k for each k below n
pub record IsDriven (n : ℕ) (a f v : ℕ → Fraction) : Type 0 where
  pub factors : IsNatural a
  pub values : IsNatural v
  pub step : (k : ℕ) → k < n → whole (pos (suc k)) *ℚ v (suc k) ≤ℚ convolution a v k +ℚ f k

-- bounds under which a driven sequence decays: alpha of the weighted factors, one of f_0, one of the
-- weighted
-- later f_k, one of the start, and the bound that the weighted sequence then keeps
pub record CanDecay (n : ℕ) (a f v : ℕ → Fraction) (alpha first later start bound : Fraction) : Type 0 where
  pub driven : IsDriven n a f v
  pub factors : (k : ℕ) → k < n → sum_to (suc k) (weighted a) ≤ℚ alpha
  pub first_free : f 0 ≤ℚ first
  pub later_free : (k : ℕ) → 1 ≤ k → k < n → weighted f k ≤ℚ later
  pub starts : v 0 ≤ℚ start
  pub within : start ≤ℚ bound
  pub first_step : whole (pos 8) *ℚ (alpha *ℚ start +ℚ first) ≤ℚ bound
  pub later_steps : whole (pos 4) *ℚ (alpha *ℚ bound +ℚ later) ≤ℚ bound
