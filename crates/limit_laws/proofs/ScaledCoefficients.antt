-- The scale of a run goes through each of its coefficients.
use Rattle.std.specs.Prelude.{◌≡◌, ℕ, zero, suc, [], ◌∷◌}
use Rattle.std.proofs.Common.{refl, ap, sym, ◌∙◌}
use mathlib.Core.Path.{ap₂}
use Rattle.frac_laws.specs.Fraction.{Fraction, ◌+ℚ◌, ◌-ℚ◌, ◌*ℚ◌}
use Rattle.frac_laws.specs.Sums.{sum_to}
use Rattle.frac_laws.specs.Lists.{Vector, number_at, scale_list}
use Rattle.frac_laws.proofs.FractionTerms.{ring, terms}
use Rattle.frac_laws.proofs.Vectors.{number_at-scale_list}
use Rattle.cell_laws.specs.Systems.{System, coefficient, taylor_value}
use Rattle.cell_laws.specs.Pairs.{CoupledPair, second_coefficient, second_taylor_value}
use Rattle.cell_laws.proofs.Recurrences.{taylor_value_sums, second_taylor_value_sums}
use Rattle.cell_bounds.specs.ScaledSystems.{scaled_system, scaled_pair}
use Rattle.moment_laws.proofs.ScaledRuns.{taylor_values_scale, second_taylor_values_scale}
use Rattle.limit_laws.specs.WrittenEquations.{◌·ₚ◌}
use Rattle.limit_laws.specs.Defect.{run_polynomial}
use Rattle.limit_laws.proofs.CutRuns.{cut, number_at-scaled_run}

-- sequences whose sums are multiples are multiples
by_sums : (c : Fraction) (f g : ℕ → Fraction) → ((k : ℕ) → sum_to (suc k) f ≡ c *ℚ sum_to (suc k) g) → (k : ℕ)
    → f k ≡ c *ℚ g k
by_sums c f g same k = apart (sum_to k f) (f k) (sum_to k g) (g k) (sums k) (same k)
  where
    sums : (k : ℕ) → sum_to k f ≡ c *ℚ sum_to k g
    sums zero = ring (c ∷ []) (hlevel terms) refl
    sums (suc k) = same k

    apart : (a x b y : Fraction) → a ≡ c *ℚ b → a +ℚ x ≡ c *ℚ (b +ℚ y) → x ≡ c *ℚ y
    apart a x b y h k = ring (a ∷ x ∷ []) (hlevel terms) refl ∙ ap₂ ◌-ℚ◌ k h
        ∙ ring (c ∷ b ∷ y ∷ []) (hlevel terms) refl

-- the coefficients of the scaled system from the scaled start are the scaled ones
coefficient_scales : (c : Fraction) (s : System) (y : Vector) (k i : ℕ)
    → number_at (coefficient (scaled_system c s) (scale_list c y) k) i ≡ c *ℚ number_at (coefficient s y k) i
coefficient_scales c s y k i = by_sums c (λ k. number_at (coefficient (scaled_system c s) (scale_list c y) k) i)
    (λ k. number_at (coefficient s y k) i) (λ n.
    sym (taylor_value_sums (scaled_system c s) (scale_list c y) n i)
    ∙ ap (λ v. number_at v i) (taylor_values_scale c s y n) ∙ number_at-scale_list c (taylor_value s y n) i
    ∙ ap (λ z. c *ℚ z) (taylor_value_sums s y n i)) k

second_coefficient_scales : (c : Fraction) (p : CoupledPair) (w z : Vector) (k i : ℕ)
    → number_at (second_coefficient (scaled_pair c p) (scale_list c w) (scale_list (c *ℚ c) z) k) i
    ≡ (c *ℚ c) *ℚ number_at (second_coefficient p w z k) i
second_coefficient_scales c p w z k i = by_sums (c *ℚ c)
    (λ k. number_at (second_coefficient (scaled_pair c p) (scale_list c w) (scale_list (c *ℚ c) z) k) i)
    (λ k. number_at (second_coefficient p w z k) i) (λ n.
    sym (second_taylor_value_sums (scaled_pair c p) (scale_list c w) (scale_list (c *ℚ c) z) n i)
    ∙ ap (λ v. number_at v i) (second_taylor_values_scale c p w z n)
    ∙ number_at-scale_list (c *ℚ c) (second_taylor_value p w z n) i
    ∙ ap (λ z. (c *ℚ c) *ℚ z) (second_taylor_value_sums p w z n i)) k

-- so the polynomials of the scaled run are the scaled ones
pub first_numbers : (c : Fraction) (s : System) (y : Vector) (n i k : ℕ)
    → number_at (c ·ₚ run_polynomial (coefficient s y) n i) k
    ≡ number_at (cut (coefficient (scaled_system c s) (scale_list c y)) n k) i
first_numbers c s y n i = number_at-scaled_run c
    (coefficient (scaled_system c s) (scale_list c y)) (coefficient s y) n i (λ k. coefficient_scales c s y k i)

pub second_numbers : (c : Fraction) (p : CoupledPair) (w z : Vector) (n i k : ℕ)
    → number_at ((c *ℚ c) ·ₚ run_polynomial (second_coefficient p w z) n i) k
    ≡ number_at (cut (second_coefficient (scaled_pair c p) (scale_list c w) (scale_list (c *ℚ c) z)) n k) i
second_numbers c p w z n i = number_at-scaled_run (c *ℚ c)
    (second_coefficient (scaled_pair c p) (scale_list c w) (scale_list (c *ℚ c) z)) (second_coefficient p w z) n i
    (λ k. second_coefficient_scales c p w z k i)
