-- A shifted polynomial against the run of the cell that starts from its value.
use Rattle.std.specs.Prelude.{◌≡◌, ℕ, suc, pos, List, [], ◌∷◌, length}
use Rattle.std.proofs.Common.{refl, ap, sym, ◌∙◌, inl, inr}
use Rattle.std.proofs.lemmas.Bool.{cases_lt}
use mathlib.Core.Path.{ap₂, fun_ext}
use Rattle.frac_laws.specs.Fraction.{Fraction, whole, ◌+ℚ◌, ◌*ℚ◌, ◌-ℚ◌, ◌≤ℚ◌}
use Rattle.frac_laws.specs.Sums.{sum_to}
use Rattle.frac_laws.specs.Convolution.{convolution}
use Rattle.frac_laws.specs.Lists.{Vector, number_at, vector_at, subtract_lists}
use Rattle.frac_laws.specs.Norms.{Norm, norm_of_vector}
use Rattle.frac_laws.specs.Polynomials.{shifted, value_at}
use Rattle.frac_laws.proofs.FractionTerms.{ring, terms}
use Rattle.frac_laws.proofs.Linear.{linear, equal, claims, natural, ◌⊞◌, ◌⊠◌}
use Rattle.frac_laws.proofs.Order.{le_trans, le_of_equal}
use Rattle.frac_laws.proofs.Sums.{sum_to_ext, sum_to_sub, sum_to_mono, sum_to_zeros}
use Rattle.frac_laws.proofs.Vectors.{number_at-subtract_lists}
use Rattle.frac_laws.proofs.Norms.{norm_natural, norm-same}
use Rattle.cell_laws.specs.Systems.{System, coefficient, taylor_value}
use Rattle.cell_laws.specs.Recurrence.{convolved}
use Rattle.cell_laws.specs.Solutions.{Solves}
use Rattle.cell_laws.specs.Tame.{matrix_norm_at, IsTame}
use Rattle.cell_laws.specs.DecayLaws.{norms}
use Rattle.cell_laws.specs.ErrorLaws.{distance}
use Rattle.cell_laws.proofs.VectorSums.{sum_over, number_at-sum_over, norm-sum_over, norm_of_none}
use Rattle.cell_laws.proofs.Recurrences.{coefficients_recur, taylor_value_sums}
use Rattle.cell_laws.proofs.Solutions.{solutions_are_driven, defects_respond}
use Rattle.cell_laws.proofs.TameSums.{total_within}
use Rattle.shift_laws.specs.Shifts.{size_at}
use Rattle.polynomial_runs.specs.PolynomialSystems.{HasPolynomials, table, values, residual, PolynomialsFollowCells}
use Rattle.shift_laws.proofs.Shifts.{first_of_shifted, sums_of_shifted, shifted_sizes}
use Rattle.polynomial_runs.proofs.Tables.{number_at-shifted_residual, table-at, table-past, values-at, values-past}
use Rattle.polynomial_runs.proofs.Tables.{convolved-subtract, convolved-table, convolved-past, free-past}
use Rattle.polynomial_runs.proofs.Tables.{norms_of_table}

module _ (norm : Norm) (kappa40 : ℕ) (s : System) (d : ℕ) (e : ℕ → ℕ → List Fraction)
    (g p : ℕ → List Fraction) (b : Fraction) (n : ℕ) (t : IsTame norm kappa40 s)
    (h : HasPolynomials s d (λ i j. shifted b (e i j)) (λ i. shifted b (g i))) (hb : whole (pos 0) ≤ℚ b)
    (short : (i : ℕ) → length (p i) ≡ suc n) where
  -- the coefficients of the shifted polynomials, of the run, their difference, and what is missed
  abbrev ahead : ℕ → Vector
  ahead = table d (λ i. shifted b (p i))

  abbrev missed : ℕ → Vector
  missed = table d (λ i. shifted b (residual d e g p i))

  abbrev ran : ℕ → Vector
  ran = coefficient s (values d p b)

  abbrev apart : ℕ → Vector
  apart k = subtract_lists (ahead k) (ran k)

  -- (k + 1) c_(k+1) = sum of A_m c_(k-m) + g_k + R_k
  ahead-recurs : (k i : ℕ) → whole (pos (suc k)) *ℚ number_at (ahead (suc k)) i
      ≡ convolved s.matrices ahead k i +ℚ number_at (vector_at s.free k) i +ℚ number_at (missed k) i
  ahead-recurs k i = elim (cases_lt i d) [
    | inl low ↦ rw (
      table-at d (λ i. shifted b (p i)) (suc k) i low,
      convolved-table s d _ _ h (λ i. shifted b (p i)) k i low,
      h.frees k i low,
      table-at d (λ i. shifted b (residual d e g p i)) k i low,
      number_at-shifted_residual b d e g p i k,
    ) (ring (whole (pos (suc k)) ∷ number_at (shifted b (p i)) (suc k)
        ∷ sum_to d (λ j. convolution (number_at (shifted b (e i j))) (number_at (shifted b (p j))) k)
        ∷ number_at (shifted b (g i)) k ∷ []) (hlevel terms) refl)
    | inr high ↦ rw (
      table-past d (λ i. shifted b (p i)) (suc k) i high,
      convolved-past s d _ _ h ahead k i high,
      free-past s d _ _ h k i high,
      table-past d (λ i. shifted b (residual d e g p i)) k i high,
    ) (ring (whole (pos (suc k)) ∷ []) (hlevel terms) refl)
  ]

  solves : Solves n s.matrices missed apart
  solves k i low = rw (
    number_at-subtract_lists (ahead (suc k)) (ran (suc k)) i,
    convolved-subtract s.matrices ahead ran k i,
  ) (equal (whole (pos (suc k)) ∷ number_at (ahead (suc k)) i ∷ number_at (ran (suc k)) i
      ∷ convolved s.matrices ahead k i ∷ convolved s.matrices ran k i ∷ number_at (vector_at s.free k) i
      ∷ number_at (missed k) i ∷ [])
      (ap₂ ◌-ℚ◌ (ahead-recurs k i) (coefficients_recur s (values d p b) k i)) (hlevel claims) refl)

  start-same : (i : ℕ) → number_at (apart 0) i ≡ number_at [] i
  start-same i = number_at-subtract_lists (ahead 0) (values d p b) i ∙ elim (cases_lt i d) [
    | inl low ↦ rw (
      table-at d (λ i. shifted b (p i)) 0 i low,
      values-at d p b i low,
      first_of_shifted b (p i),
    ) (ring (value_at (p i) b ∷ []) (hlevel terms) refl)
    | inr high ↦ rw (
      table-past d (λ i. shifted b (p i)) 0 i high,
      values-past d p b i high,
    ) (ring [] (hlevel terms) refl)
  ]

  ahead-total : (i : ℕ) → number_at (values d p (b +ℚ whole (pos 1))) i ≡ sum_to (suc n) (λ k. number_at (ahead k) i)
  ahead-total i = elim (cases_lt i d) [
    | inl low ↦ values-at d p (b +ℚ whole (pos 1)) i low ∙ sym (sums_of_shifted b (p i) (suc n) (short i))
        ∙ sum_to_ext (suc n) (λ k c. sym (table-at d (λ i. shifted b (p i)) k i low))
    | inr high ↦ values-past d p (b +ℚ whole (pos 1)) i high
        ∙ sym (sum_to_zeros (suc n) (λ k c. table-past d (λ i. shifted b (p i)) k i high))
  ]

  total-apart : (i : ℕ) → number_at (subtract_lists (values d p (b +ℚ whole (pos 1)))
      (taylor_value s (values d p b) n)) i ≡ number_at (sum_over (suc n) apart) i
  total-apart i =
      number_at-subtract_lists (values d p (b +ℚ whole (pos 1))) (taylor_value s (values d p b) n) i
      ∙ ap₂ ◌-ℚ◌ (ahead-total i) (taylor_value_sums s (values d p b) n i)
      ∙ sym (number_at-sum_over (suc n) apart i
      ∙ ap (sum_to (suc n)) (fun_ext (λ k. number_at-subtract_lists (ahead k) (ran k) i))
      ∙ sum_to_sub (suc n) (λ k. number_at (ahead k) i) (λ k. number_at (ran k) i))

  apart-small : whole (pos 63) *ℚ sum_to (suc n) (norms norm apart)
      ≤ℚ whole (pos 64) *ℚ (norm_of_vector norm (apart 0) +ℚ sum_to n (norms norm missed))
  apart-small = defects_respond n (matrix_norm_at norm s.matrices) (norms norm missed) (norms norm apart)
      (solutions_are_driven norm n s.matrices missed apart solves) (λ k. norm_natural norm (missed k))
      (le_trans (total_within norm s.matrices n) t.total)

  missed-small : sum_to n (norms norm missed) ≤ℚ sum_to d (λ i. size_at (whole (pos 1) +ℚ b) (residual d e g p i))
  missed-small = le_trans (norms_of_table norm d (λ i. shifted b (residual d e g p i)) n)
      (sum_to_mono d (λ i c. shifted_sizes (whole (pos 1)) b (residual d e g p i) (natural 1 1) hb))

  follows : whole (pos 63) *ℚ distance norm (values d p (b +ℚ whole (pos 1))) (taylor_value s (values d p b) n)
      ≤ℚ whole (pos 64) *ℚ sum_to d (λ i. size_at (whole (pos 1) +ℚ b) (residual d e g p i))
  follows = combine (distance norm (values d p (b +ℚ whole (pos 1))) (taylor_value s (values d p b) n))
      (sum_to (suc n) (norms norm apart)) (norm_of_vector norm (apart 0)) (sum_to n (norms norm missed))
      (sum_to d (λ i. size_at (whole (pos 1) +ℚ b) (residual d e g p i)))
      (le_trans (le_of_equal (norm-same norm _ (sum_over (suc n) apart) total-apart))
      (norm-sum_over norm (suc n) apart))
      apart-small (le_trans (le_of_equal (norm-same norm (apart 0) [] start-same)) (norm_of_none norm)) missed-small
    where
      combine : (x y z u v : Fraction) → x ≤ℚ y → whole (pos 63) *ℚ y ≤ℚ whole (pos 64) *ℚ (z +ℚ u)
          → z ≤ℚ whole (pos 0) → u ≤ℚ v → whole (pos 63) *ℚ x ≤ℚ whole (pos 64) *ℚ v
      combine x y z u v h1 h2 h3 h4 = linear (x ∷ y ∷ z ∷ u ∷ v ∷ [])
          (natural 63 1 ⊠ h1 ⊞ h2 ⊞ natural 64 1 ⊠ h3 ⊞ natural 64 1 ⊠ h4) (hlevel claims) refl

pub polynomials_follow_cells : PolynomialsFollowCells
polynomials_follow_cells norm kappa40 s d e g p b n t h hb short =
    follows norm kappa40 s d e g p b n t h hb short
