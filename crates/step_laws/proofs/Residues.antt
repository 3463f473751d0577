-- What rounding down leaves: a vector of less than k + 1 units in each number.
use Rattle.std.specs.Prelude.{◌≡◌, ℕ, suc, zero, pos, List, [], ◌∷◌, length, ◌<◌, ◌≤◌, ◌-◌, ◌^◌}
use Rattle.std.proofs.Common.{refl, ap, ◌∙◌, inl, inr, arith}
use mathlib.Core.Path.{ap₂}
use Rattle.std.proofs.lemmas.Bool.{cases_lt}
use Rattle.frac_laws.specs.Fraction.{Fraction, whole, ◌+ℚ◌, ◌*ℚ◌, ◌-ℚ◌, ◌≤ℚ◌, size}
use Rattle.frac_laws.specs.Lists.{Vector, Matrix, number_at, matrix_at, add_lists, scale_list}
use Rattle.frac_laws.specs.Lists.{subtract_lists, image}
use Rattle.frac_laws.specs.Norms.{Norm, Sup, Sum, norm_of_vector}
use Rattle.frac_laws.proofs.FractionTerms.{ring, terms}
use Rattle.frac_laws.proofs.Linear.{linear, claims, natural}
use Rattle.frac_laws.proofs.Order.{le_trans, le_of_equal, le_of_lt}
use Rattle.frac_laws.proofs.Sizes.{size_of_natural}
use Rattle.frac_laws.proofs.Signs.{mul_natural}
use Rattle.frac_laws.proofs.Lengths.{add_lists_fits, scale_list_fits, subtract_lists_fits, image_fits}
use Rattle.frac_laws.proofs.Lengths.{number_at-past}
use Rattle.frac_laws.proofs.Vectors.{number_at-add_lists, number_at-scale_list, number_at-subtract_lists}
use Rattle.frac_laws.proofs.Norms.{size_zero}
use Rattle.frac_laws.proofs.SmallNumbers.{AreWithin, sup_of_small, sum_of_small}
use Rattle.cell_laws.specs.Recurrence.{convolved}
use Rattle.cell_laws.proofs.VectorSums.{sum_over}
use Rattle.step_laws.specs.StandsFor.{units}
use Rattle.step_laws.specs.RoundedRuns.{IsRoundedDown}
use Rattle.step_laws.proofs.Images.{images, number_at-images}

-- how many times a bound of each of d numbers bounds the norm
abbrev pub spread : Norm → ℕ → Fraction
spread Sup d = whole (pos 1)
spread Sum d = whole (pos d)

pub norm_of_small : (norm : Norm) (d : ℕ) (r : Fraction) (v : Vector) → whole (pos 0) ≤ℚ r → length v ≤ d
    → AreWithin r v → norm_of_vector norm v ≤ℚ spread norm d *ℚ r
norm_of_small Sup d r v z b h =
    le_trans (sup_of_small r v z h) (le_of_equal (ring (r ∷ []) (hlevel terms) refl))
norm_of_small Sum d r v z b h = sum_of_small d r v z b h

sum_over_fits : (d n : ℕ) (f : ℕ → Vector) → ((k : ℕ) → length (f k) ≤ d) → length (sum_over n f) ≤ d
sum_over_fits d zero f h = nothing_fits d
  where
    nothing_fits : (d : ℕ) → length {A = Fraction} [] ≤ d
    nothing_fits d = omega arith
sum_over_fits d (suc n) f h = add_lists_fits d (sum_over n f) (f n) (sum_over_fits d n f h) (h n)

pub images_fit : (d : ℕ) (matrices : List Matrix) (x : ℕ → Vector) (k : ℕ)
    → ((m : ℕ) → length (matrix_at matrices m) ≤ d) → length (images matrices x k) ≤ d
images_fit d matrices x k h = sum_over_fits d (suc k) (λ m. image (matrix_at matrices m) (x (k - m)))
    (λ m. image_fits d (matrix_at matrices m) (x (k - m)) (h m))

module _ (stored : List Matrix) (h z : ℕ → Vector) (k : ℕ) where
  -- B_0 z_k + .. + B_k z_0 + h_k
  abbrev pub exact_sum : Vector
  exact_sum = add_lists (images stored z k) (h k)

  -- what is left of it
  abbrev pub residue : Vector
  residue = subtract_lists exact_sum (scale_list (whole (pos (suc k))) (z (suc k)))

  pub number_at-residue : (i : ℕ) → number_at residue i
      ≡ (convolved stored z k i +ℚ number_at (h k) i) -ℚ whole (pos (suc k)) *ℚ number_at (z (suc k)) i
  number_at-residue i = number_at-subtract_lists exact_sum (scale_list (whole (pos (suc k))) (z (suc k))) i
      ∙ ap₂ ◌-ℚ◌ (number_at-add_lists (images stored z k) (h k) i
      ∙ ap (λ t. t +ℚ number_at (h k) i) (number_at-images stored z k i))
      (number_at-scale_list (whole (pos (suc k))) (z (suc k)) i)

-- a number that is rounded down leaves less than k + 1 units
module _ (d : ℕ) (stored : List Matrix) (h z : ℕ → Vector) (k : ℕ)
    (rows : (m : ℕ) → length (matrix_at stored m) ≤ d) (right : length (h k) ≤ d)
    (fits : length (z (suc k)) ≤ d)
    (rounded : (i : ℕ) → i < d
    → IsRoundedDown (convolved stored z k i +ℚ number_at (h k) i) (suc k) (number_at (z (suc k)) i)) where
  residue_fits : length (residue stored h z k) ≤ d
  residue_fits = subtract_lists_fits d (exact_sum stored h z k) (scale_list (whole (pos (suc k))) (z (suc k)))
      (add_lists_fits d (images stored z k) (h k) (images_fit d stored z k rows) right)
      (scale_list_fits d (whole (pos (suc k))) (z (suc k)) fits)

  some_units : whole (pos 0) ≤ℚ whole (pos (suc k)) *ℚ units 1
  some_units = mul_natural (natural (suc k) 1) (natural 1 (2 ^ 64))

  residue_within : AreWithin (whole (pos (suc k)) *ℚ units 1) (residue stored h z k)
  residue_within i = elim (cases_lt i d) [
    | inl b ↦ rw (number_at-residue stored h z k i)
        (between (convolved stored z k i +ℚ number_at (h k) i)
        (number_at (z (suc k)) i) (rounded i b))
    | inr b ↦ le_trans (le_of_equal (ap size (number_at-past (residue stored h z k) d i residue_fits b) ∙ size_zero))
        some_units
  ]
    where
      between : (x q : Fraction) → IsRoundedDown x (suc k) q
          → size (x -ℚ whole (pos (suc k)) *ℚ q) ≤ℚ whole (pos (suc k)) *ℚ units 1
      between x q r = le_trans
          (le_of_equal (size_of_natural (linear (x ∷ whole (pos (suc k)) ∷ q ∷ []) r.below (hlevel claims) refl)))
          (linear (x ∷ whole (pos (suc k)) ∷ q ∷ units 1 ∷ []) (le_of_lt r.within) (hlevel claims) refl)

  pub residue_is_small : (norm : Norm)
      → norm_of_vector norm (residue stored h z k) ≤ℚ spread norm d *ℚ (whole (pos (suc k)) *ℚ units 1)
  residue_is_small norm =
      norm_of_small norm d (whole (pos (suc k)) *ℚ units 1) (residue stored h z k) some_units residue_fits
      residue_within
