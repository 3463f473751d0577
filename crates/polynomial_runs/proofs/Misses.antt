-- What the Taylor polynomial of a month misses of the equations.
use Rattle.std.specs.Prelude.{◌≡◌, ℕ, zero, suc, pos, List, [], ◌∷◌, length, ◌<◌, ◌≤◌, ◌+◌, ◌-◌, ◌*◌}
use Rattle.std.proofs.Common.{refl, ap, sym, ◌∙◌, inl, inr, arith}
use Rattle.std.proofs.lemmas.Bool.{cases_lt}
use Rattle.std.proofs.lemmas.List.{get_or_past}
use mathlib.Core.Path.{ap₂, fun_ext}
use Rattle.frac_laws.specs.Fraction.{Fraction, over, whole, size, opposite, ◌+ℚ◌, ◌*ℚ◌, ◌-ℚ◌, ◌≤ℚ◌}
use Rattle.frac_laws.specs.Sums.{sum_to, power}
use Rattle.frac_laws.specs.Convolution.{convolution}
use Rattle.frac_laws.specs.Lists.{Vector, Matrix, number_at, vector_at, matrix_at, image}
use Rattle.frac_laws.specs.Norms.{Norm, norm_of_vector}
use Rattle.frac_laws.proofs.FractionTerms.{ring, terms}
use Rattle.frac_laws.proofs.GeometricTails.{tail_sum}
use Rattle.frac_laws.proofs.Linear.{linear, claims, natural, ◌⊠◌}
use Rattle.frac_laws.proofs.Order.{le_trans, le_of_equal}
use Rattle.frac_laws.proofs.Powers.{power_natural}
use Rattle.frac_laws.proofs.Signs.{mul_natural}
use Rattle.frac_laws.proofs.Sizes.{size_natural, size-opposite}
use Rattle.frac_laws.proofs.Sums.{sum_to_ext, sum_to_first, sum_to_scale, sum_to_split, sum_to_zeros, sum_to_mono}
use Rattle.frac_laws.proofs.Sums.{size-sum_to}
use Rattle.frac_laws.proofs.Norms.{norm-image, number_below_norm, norm_below, size_zero}
use Rattle.cell_laws.specs.Systems.{System, coefficient}
use Rattle.cell_laws.specs.Recurrence.{convolved}
use Rattle.cell_laws.specs.Tame.{matrix_norm_at}
use Rattle.cell_laws.specs.DecayLaws.{norms}
use Rattle.cell_laws.proofs.Decay.{weighted_right_sides_are_small}
use Rattle.cell_laws.proofs.Recurrences.{coefficients_recur}
use Rattle.cell_laws.proofs.TameSums.{matrix_norms_natural}
use Rattle.whole_laws.proofs.ListsByPlace.{at-list_of, past-list_of}
use Rattle.shift_laws.specs.Shifts.{size_at}
use Rattle.polynomial_runs.specs.PolynomialSystems.{HasPolynomials, table, residual}
use Rattle.polynomial_runs.specs.FarDecay.{DecaysFar, run_polynomial, RunsMissLittle}
use Rattle.shift_laws.proofs.Shifts.{size_at-natural}
use Rattle.polynomial_runs.proofs.PowersOf12.{power_of_48_at_32, cancel_sixes}
use Rattle.polynomial_runs.proofs.FarDecay.{far_bound, far_bound_natural, far_coefficients_decay}
use Rattle.polynomial_runs.proofs.Tables.{number_at-residual, table-at, table-past, convolved-is, convolved-table}

-- the weighted sizes of a polynomial as a sum over a range that has them all
pub size_at-sum : (w : Fraction) (p : List Fraction) (m : ℕ) → length p ≤ m
    → size_at w p ≡ sum_to m (λ k. power w k *ℚ size (number_at p k))
size_at-sum w [] m b = sym (sum_to_zeros m (λ k c. ap (λ z. power w k *ℚ z) size_zero
    ∙ ring (power w k ∷ []) (hlevel terms) refl))
size_at-sum w (c ∷ p) zero b = absurd (omega arith)
size_at-sum w (c ∷ p) (suc m) b = ap (λ z. size c +ℚ w *ℚ z) (size_at-sum w p m (omega arith))
    ∙ ring (size c ∷ w ∷ sum_to m (λ k. power w k *ℚ size (number_at p k)) ∷ []) (hlevel terms) refl
    ∙ ap (λ z. whole (pos 1) *ℚ size c +ℚ z) (sym (sum_to_scale m w (λ k. power w k *ℚ size (number_at p k)))
    ∙ ap (sum_to m) (fun_ext (λ k. ring (w ∷ power w k ∷ size (number_at p k) ∷ []) (hlevel terms) refl)))
    ∙ sym (sum_to_first m (λ k. power w k *ℚ size (number_at (c ∷ p) k)))

-- each number of a convolution with matrices
size-convolved : (norm : Norm) (matrices : List Matrix) (y : ℕ → Vector) (k i : ℕ)
    → size (convolved matrices y k i) ≤ℚ convolution (matrix_norm_at norm matrices) (norms norm y) k
size-convolved norm matrices y k i =
    le_trans (size-sum_to (suc k) (λ m. number_at (image (matrix_at matrices m) (y (k - m))) i))
    (sum_to_mono (suc k) (λ m b. le_trans
    (number_below_norm norm (image (matrix_at matrices m) (y (k - m))) i)
    (norm-image norm (matrix_at matrices m) (y (k - m)))))

module _ (norm : Norm) (kappa40 : ℕ) (s : System) (d : ℕ) (e : ℕ → ℕ → List Fraction)
    (g : ℕ → List Fraction) (y : Vector) (n t : ℕ) (far : DecaysFar norm kappa40 s)
    (h : HasPolynomials s d e g) (start : norm_of_vector norm y ≤ℚ whole (pos 2)) (late : 544 ≤ t)
    (high : 7 * t ≤ n) where
  abbrev p : ℕ → List Fraction
  p = run_polynomial s y n

  p-at : (i k : ℕ) → k ≤ n → number_at (p i) k ≡ number_at (coefficient s y k) i
  p-at i k b = at-list_of (suc n) (λ k. number_at (coefficient s y k) i) k (whole (pos 0)) (omega arith)

  p-past : (i k : ℕ) → n < k → number_at (p i) k ≡ whole (pos 0)
  p-past i k b = past-list_of (suc n) (λ k. number_at (coefficient s y k) i) k (whole (pos 0)) (omega arith)

  -- the polynomials' coefficients are no larger than those of the run
  no-larger : (k i : ℕ) → size (number_at (table d p k) i) ≤ℚ size (number_at (coefficient s y k) i)
  no-larger k i = elim (cases_lt i d) [
    | inl low ↦ elim (cases_lt n k) [
      | inl past ↦ rw (table-at d p k i low, p-past i k past, size_zero) (size_natural _)
      | inr within ↦ le_of_equal (ap size (table-at d p k i low ∙ p-at i k within))
    ]
    | inr outside ↦ rw (table-past d p k i outside, size_zero) (size_natural _)
  ]

  held : (j : ℕ) → power (whole (pos 48)) j *ℚ norm_of_vector norm (table d p j) ≤ℚ far_bound t
  held j = le_trans (linear (power (whole (pos 48)) j ∷ norm_of_vector norm (table d p j)
      ∷ norm_of_vector norm (coefficient s y j) ∷ [])
      (power_natural {x = whole (pos 48)} j (natural 48 1)
      ⊠ norm_below norm (table d p j) (coefficient s y j) (no-larger j)) (hlevel claims) refl)
      (far_coefficients_decay norm kappa40 s y t j far start late)

  -- nothing is missed below n
  none-below : (i k : ℕ) → i < d → k < n → number_at (residual d e g p i) k ≡ whole (pos 0)
  none-below i k low b = number_at-residual d e g p i k
      ∙ ap₂ (λ x z. whole (pos (suc k)) *ℚ x -ℚ (z +ℚ number_at (g i) k)) (p-at i (suc k) (omega arith))
      (sum_to_ext d (λ j c. sum_to_ext (suc k)
      (λ m l. ap (λ x. number_at (e i j) m *ℚ x) (p-at j (k - m) (omega arith))))
      ∙ sym (convolved-is s d e g h (coefficient s y) k i low))
      ∙ ap₂ (λ x z. x -ℚ (convolved s.matrices (coefficient s y) k i +ℚ z))
      (coefficients_recur s y k i) (sym (h.frees k i low))
      ∙ ring (convolved s.matrices (coefficient s y) k i ∷ number_at (vector_at s.free k) i ∷ [])
      (hlevel terms) refl

  -- from n on it is what the matrices make of the polynomials
  from-n : (i k : ℕ) → i < d → n ≤ k
      → number_at (residual d e g p i) k ≡ opposite (convolved s.matrices (table d p) k i)
  from-n i k low b = number_at-residual d e g p i k
      ∙ ap₂ (λ x z. whole (pos (suc k)) *ℚ x -ℚ z) (p-past i (suc k) (omega arith))
      (ap₂ ◌+ℚ◌ (sym (convolved-table s d e g h p k i low)) (sym (h.frees k i low) ∙ no_free))
      ∙ ring (whole (pos (suc k)) ∷ convolved s.matrices (table d p) k i ∷ []) (hlevel terms) refl
    where
      no_free : number_at (vector_at s.free k) i ≡ whole (pos 0)
      no_free = let past : length s.free ≤ k = (let c : length s.free ≤ 9 = far.short in omega arith) in
          ap (λ v. number_at v i) (get_or_past s.free k [] past)

  abbrev bound : Fraction
  bound = over (pos 34) 3 *ℚ far_bound t

  small-from-n : (i k : ℕ) → i < d → n ≤ k
      → power (whole (pos 48)) k *ℚ size (number_at (residual d e g p i) k) ≤ℚ bound
  small-from-n i k low b = rw (from-n i k low b, size-opposite (convolved s.matrices (table d p) k i))
      (le_trans (linear (power (whole (pos 48)) k ∷ size (convolved s.matrices (table d p) k i)
      ∷ convolution (matrix_norm_at norm s.matrices) (norms norm (table d p)) k ∷ [])
      (power_natural {x = whole (pos 48)} k (natural 48 1) ⊠ size-convolved norm s.matrices (table d p) k i)
      (hlevel claims) refl)
      (weighted_right_sides_are_small (whole (pos 48)) (over (pos 34) 3) (far_bound t)
      (matrix_norm_at norm s.matrices) (norms norm (table d p)) k (natural 48 1) (far_bound_natural t)
      (matrix_norms_natural norm s.matrices) (far.far (suc k)) (λ j b. held j)))

  abbrev weighted_size : ℕ → ℕ → Fraction
  weighted_size i k = power (whole (pos 32)) k *ℚ size (number_at (residual d e g p i) k)

  tail-small : (i r : ℕ) → i < d → (over (pos 3) 2 -ℚ whole (pos 1)) *ℚ power (over (pos 3) 2) n
      *ℚ sum_to r (λ j. weighted_size i (n + j)) ≤ℚ over (pos 3) 2 *ℚ bound
  tail-small i r low = tail_sum (over (pos 3) 2) (over (pos 2) 3) bound (weighted_size i)
      (ring [] (hlevel terms) refl) (linear [] (natural 1 2) (hlevel claims) refl) (natural 2 3) n r
      (mul_natural (natural 34 3) (far_bound_natural t))
      (λ j b. le_trans (le_of_equal (factors (n + j))) (small-from-n i (n + j) low (omega arith)))
    where
      factors : (k : ℕ) → power (over (pos 3) 2) k *ℚ weighted_size i k
          ≡ power (whole (pos 48)) k *ℚ size (number_at (residual d e g p i) k)
      factors k = ring (power (over (pos 3) 2) k ∷ power (whole (pos 32)) k
          ∷ size (number_at (residual d e g p i) k) ∷ []) (hlevel terms) refl
          ∙ ap (λ z. z *ℚ size (number_at (residual d e g p i) k)) (sym (power_of_48_at_32 k))

  all-missed : (i : ℕ) → i < d → size_at (whole (pos 32)) (residual d e g p i)
      ≡ sum_to (length (residual d e g p i)) (λ j. weighted_size i (n + j))
  all-missed i low = size_at-sum (whole (pos 32)) (residual d e g p i) (n + length (residual d e g p i)) (omega arith)
      ∙ sum_to_split n (length (residual d e g p i)) (weighted_size i)
      ∙ ap (λ z. z +ℚ sum_to (length (residual d e g p i)) (λ j. weighted_size i (n + j)))
      (sum_to_zeros n (λ k b. ap (λ z. power (whole (pos 32)) k *ℚ z)
      (ap size (none-below i k low b) ∙ size_zero) ∙ ring (power (whole (pos 32)) k ∷ []) (hlevel terms) refl))
      ∙ ring (sum_to (length (residual d e g p i)) (λ j. weighted_size i (n + j)) ∷ []) (hlevel terms) refl

  misses-little : (i : ℕ) → i < d
      → power (whole (pos 2)) t *ℚ size_at (whole (pos 32)) (residual d e g p i) ≤ℚ whole (pos 68)
  misses-little i low = cancel_sixes t n (size_at (whole (pos 32)) (residual d e g p i)) (whole (pos 68)) high
      (size_at-natural (whole (pos 32)) (residual d e g p i) (natural 32 1))
      (rw (all-missed i low) (linear (power (over (pos 3) 2) n
      ∷ sum_to (length (residual d e g p i)) (λ j. weighted_size i (n + j)) ∷ power (whole (pos 6)) t ∷ [])
      (natural 2 1 ⊠ tail-small i (length (residual d e g p i)) low) (hlevel claims) refl))

pub runs_miss_little : RunsMissLittle
runs_miss_little norm kappa40 s d e g y n t i far h start late high low =
    misses-little norm kappa40 s d e g y n t far h start late high i low
