-- Runs that are cut after power n: as sequences of vectors, and as polynomials.
use Rattle.std.specs.Prelude.{◌≡◌, ℕ, suc, pos, List, [], ◌∷◌, ◌-◌, ◌<◌, ◌≤◌}
use Rattle.std.proofs.Common.{refl, ap, sym, ◌∙◌, arith, inl, inr}
use Rattle.std.proofs.lemmas.Bool.{cases_lt}
use Rattle.frac_laws.specs.Fraction.{Fraction, whole, ◌*ℚ◌}
use Rattle.frac_laws.specs.Sums.{power}
use Rattle.frac_laws.specs.Lists.{Vector, Matrix, number_at, vector_at, matrix_at, image}
use Rattle.frac_laws.specs.Norms.{Norm, norm_of_vector}
use Rattle.frac_laws.proofs.FractionTerms.{ring, terms}
use Rattle.frac_laws.proofs.Linear.{natural}
use Rattle.frac_laws.proofs.Order.{le_trans, le_of_equal}
use Rattle.frac_laws.proofs.Sums.{sum_to_ext}
use Rattle.frac_laws.proofs.Vectors.{number_at-scale_list}
use Rattle.cell_laws.specs.Recurrence.{convolved}
use Rattle.cell_laws.specs.DecayLaws.{norms, DecaysBelow}
use Rattle.cell_laws.specs.Solutions.{IsHeldTo}
use Rattle.cell_laws.proofs.TameSums.{norm_of_none}
use Rattle.whole_laws.specs.Whole.{list_of}
use Rattle.whole_laws.proofs.ListsByPlace.{at-list_of, past-list_of}
use Rattle.limit_laws.specs.WrittenEquations.{◌·ₚ◌}
use Rattle.limit_laws.specs.Defect.{run_polynomial}

-- y_0, .., y_n, and nothing past y_n
abbrev pub cut : (ℕ → Vector) → ℕ → ℕ → Vector
cut y n k = vector_at (list_of (suc n) y) k

pub cut-is : (y : ℕ → Vector) (n k : ℕ) → k ≤ n → cut y n k ≡ y k
cut-is y n k within = at-list_of (suc n) y k [] (omega (arith, within))

pub cut-past : (y : ℕ → Vector) (n k : ℕ) → n < k → cut y n k ≡ []
cut-past y n k past = past-list_of (suc n) y k [] (omega (arith, past))

-- the norms stay within 2 / 8^k where those of the run do
pub cut_held : (norm : Norm) (y : ℕ → Vector) (n k : ℕ) → DecaysBelow norm (whole (pos 2)) y
    → IsHeldTo k (norms norm (cut y n))
cut_held norm y n k decays j b = elim (cases_lt n j) [
  | inl past ↦ le_trans (le_of_equal (ap (λ u. power (whole (pos 8)) j *ℚ norm_of_vector norm u) (cut-past y n j past)
      ∙ ap (λ z. power (whole (pos 8)) j *ℚ z) (norm_of_none norm)
      ∙ ring (power (whole (pos 8)) j ∷ []) (hlevel terms) refl)) (natural 2 1)
  | inr within ↦ le_trans (le_of_equal (ap (λ u. power (whole (pos 8)) j *ℚ norm_of_vector norm u)
      (cut-is y n j within))) (decays j)
]

-- up to power n the images of the cut run are those of the run
pub convolved-cut : (matrices : List Matrix) (y : ℕ → Vector) (n k i : ℕ) → k ≤ n
    → convolved matrices (cut y n) k i ≡ convolved matrices y k i
convolved-cut matrices y n k i within = sum_to_ext (suc k) (λ m b.
    ap (λ u. number_at (image (matrix_at matrices m) u) i) (cut-is y n (k - m) (omega (arith, within, b))))

-- the polynomials of a run have the numbers of the cut run
pub number_at-run_polynomial : (y : ℕ → Vector) (n i k : ℕ)
    → number_at (run_polynomial y n i) k ≡ number_at (cut y n k) i
number_at-run_polynomial y n i k = elim (cases_lt n k) [
  | inl past ↦ past-list_of (suc n) (λ k. number_at (y k) i) k (whole (pos 0)) (omega (arith, past))
      ∙ ap (λ v. number_at v i) (sym (cut-past y n k past))
  | inr within ↦ at-list_of (suc n) (λ k. number_at (y k) i) k (whole (pos 0)) (omega (arith, within))
      ∙ ap (λ v. number_at v i) (sym (cut-is y n k within))
]

-- and those of c times a run have the numbers of a run that is c times it
pub number_at-scaled_run : (c : Fraction) (x y : ℕ → Vector) (n i : ℕ)
    → ((k : ℕ) → number_at (x k) i ≡ c *ℚ number_at (y k) i) → (k : ℕ)
    → number_at (c ·ₚ run_polynomial y n i) k ≡ number_at (cut x n k) i
number_at-scaled_run c x y n i same k = number_at-scale_list c (run_polynomial y n i) k
    ∙ ap (λ z. c *ℚ z) (number_at-run_polynomial y n i k) ∙ elim (cases_lt n k) [
      | inl past ↦ ap (λ v. c *ℚ number_at v i) (cut-past y n k past) ∙ ring (c ∷ []) (hlevel terms) refl
          ∙ ap (λ v. number_at v i) (sym (cut-past x n k past))
      | inr within ↦ ap (λ v. c *ℚ number_at v i) (cut-is y n k within) ∙ sym (same k)
          ∙ ap (λ v. number_at v i) (sym (cut-is x n k within))
    ]
