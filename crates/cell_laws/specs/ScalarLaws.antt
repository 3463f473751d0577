-- The laws of driven sequences. The constants are those that tame systems need.
use Rattle.std.specs.Prelude.{ℕ, suc, pos, ◌<◌, ◌≤◌, ◌-◌}
use Rattle.frac_laws.specs.Fraction.{Fraction, over, whole, ◌+ℚ◌, ◌*ℚ◌, ◌-ℚ◌, ◌≤ℚ◌}
use Rattle.frac_laws.specs.Sums.{sum_to, power}
use Rattle.frac_laws.specs.Convolution.{convolution}
use Rattle.cell_laws.specs.Tame.{weighted}
use Rattle.cell_laws.specs.Driven.{IsNatural, IsDriven, CanDecay}

-- the total of a convolution is at most the product of the two totals
abbrev pub ConvolutionsStayWithin : Type 0
ConvolutionsStayWithin = (n : ℕ) (a b : ℕ → Fraction) → IsNatural a → IsNatural b
    → sum_to n (convolution a b) ≤ℚ sum_to n a *ℚ sum_to n b

-- where the w^m a_m add up to at most alpha and each w^j v_j is at most a bound, w^k times the convolution
-- is
-- at most their product
abbrev pub WeightedRightSidesAreSmall : Type 0
WeightedRightSidesAreSmall = (w alpha bound : Fraction) (a v : ℕ → Fraction) (k : ℕ) → whole (pos 0) ≤ℚ w
    → whole (pos 0) ≤ℚ bound → IsNatural a
    → sum_to (suc k) (λ m. power w m *ℚ a m) ≤ℚ alpha → ((j : ℕ) → j ≤ k → power w j *ℚ v j ≤ℚ bound)
    → power w k *ℚ convolution a v k ≤ℚ alpha *ℚ bound

-- a driven sequence decays: 8^k v_k is at most the bound up to n
abbrev pub DrivenSequencesDecay : Type 0
DrivenSequencesDecay = (n : ℕ) (a f v : ℕ → Fraction) (alpha first later start bound : Fraction)
    → CanDecay n a f v alpha first later start bound → (k : ℕ) → k ≤ n → weighted v k ≤ℚ bound

-- phi_k times k + 1
abbrev pub multiplied : (ℕ → Fraction) → ℕ → Fraction
multiplied phi k = whole (pos (suc k)) *ℚ phi k

-- the total U = v_1 + .. + v_n of a sequence driven by (k + 1) phi_k, where phi_0 + .. + phi_(n-1) = Phi:
-- (2 - F) U <= 2 F v_0 + 2 Phi
abbrev pub DrivenTotals : Type 0
DrivenTotals =
    (n : ℕ) (a phi v : ℕ → Fraction) (f : Fraction) → IsDriven n a (multiplied phi) v → sum_to n a ≤ℚ f
    → (whole (pos 2) -ℚ f) *ℚ sum_to n (λ k. v (suc k))
    ≤ℚ whole (pos 2) *ℚ f *ℚ v 0 +ℚ whole (pos 2) *ℚ sum_to n phi

-- the same where F is at most 1/64
abbrev pub DrivenTotalsAt64 : Type 0
DrivenTotalsAt64 =
    (n : ℕ) (a phi v : ℕ → Fraction) → IsDriven n a (multiplied phi) v → sum_to n a ≤ℚ over (pos 1) 64
    → whole (pos 127) *ℚ sum_to n (λ k. v (suc k))
    ≤ℚ whole (pos 2) *ℚ v 0 +ℚ whole (pos 128) *ℚ sum_to n phi

-- the same where F is at most 1/32
abbrev pub DrivenTotalsAt32 : Type 0
DrivenTotalsAt32 =
    (n : ℕ) (a phi v : ℕ → Fraction) → IsDriven n a (multiplied phi) v → sum_to n a ≤ℚ over (pos 1) 32
    → whole (pos 63) *ℚ sum_to n (λ k. v (suc k))
    ≤ℚ whole (pos 2) *ℚ v 0 +ℚ whole (pos 64) *ℚ sum_to n phi

-- the part h of a driven sequence in which two factors or more act, with
-- (k + 1) h_(k+1) <= a_0 v_k + .. + a_(k-1) v_1, has a total r with (2 - F) r <= F^2 v_0
abbrev pub SecondOrderPartsAreSmall : Type 0
SecondOrderPartsAreSmall =
    (n : ℕ) (a v h : ℕ → Fraction) (f : Fraction) → IsDriven n a (λ k. whole (pos 0)) v → IsNatural h
    → ((k : ℕ) → k < n → whole (pos (suc k)) *ℚ h (suc k) ≤ℚ sum_to k (λ m. a m *ℚ v (k - m)))
    → sum_to n a ≤ℚ f → f ≤ℚ whole (pos 2)
    → (whole (pos 2) -ℚ f) *ℚ sum_to n (λ k. h (suc k)) ≤ℚ f *ℚ f *ℚ v 0
