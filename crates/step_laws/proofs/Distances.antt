-- Distances of vectors: over a third vector, and of two sums.
use Rattle.std.specs.Prelude.{◌≡◌, ℕ, [], ◌∷◌}
use Rattle.std.proofs.Common.{refl, ap, sym, ◌∙◌}
use mathlib.Core.Path.{ap₂}
use Rattle.frac_laws.specs.Fraction.{◌+ℚ◌, ◌-ℚ◌, ◌≤ℚ◌}
use Rattle.frac_laws.specs.Sums.{sum_to}
use Rattle.frac_laws.specs.Lists.{Vector, number_at, add_lists, subtract_lists}
use Rattle.frac_laws.specs.Norms.{Norm, norm_of_vector}
use Rattle.frac_laws.proofs.FractionTerms.{ring, terms}
use Rattle.frac_laws.proofs.Order.{le_trans, le_of_equal}
use Rattle.frac_laws.proofs.Sums.{sum_to_sub, sum_to_ext}
use Rattle.frac_laws.proofs.Vectors.{number_at-add_lists, number_at-subtract_lists}
use Rattle.frac_laws.proofs.Norms.{norm-same, norm-add_lists}
use Rattle.cell_laws.specs.ErrorLaws.{distance}
use Rattle.cell_laws.proofs.VectorSums.{sum_over, number_at-sum_over, norm-sum_over}
use Rattle.step_laws.proofs.Images.{norm-subtract_lists}

pub triangle : (norm : Norm) (u v w : Vector) → distance norm u w ≤ℚ distance norm u v +ℚ distance norm v w
triangle norm u v w = le_trans (le_of_equal (norm-same norm (subtract_lists u w)
    (add_lists (subtract_lists u v) (subtract_lists v w)) (λ i. number_at-subtract_lists u w i
    ∙ ring (number_at u i ∷ number_at v i ∷ number_at w i ∷ []) (hlevel terms) refl
    ∙ sym (number_at-add_lists (subtract_lists u v) (subtract_lists v w) i
    ∙ ap₂ ◌+ℚ◌ (number_at-subtract_lists u v i) (number_at-subtract_lists v w i)))))
    (norm-add_lists norm (subtract_lists u v) (subtract_lists v w))

-- |v| <= |u| + |u - v|
pub norm_by_distance : (norm : Norm) (u v : Vector)
    → norm_of_vector norm v ≤ℚ norm_of_vector norm u +ℚ distance norm u v
norm_by_distance norm u v = le_trans (le_of_equal (norm-same norm v (subtract_lists u (subtract_lists u v))
    (λ i. ring (number_at u i ∷ number_at v i ∷ []) (hlevel terms) refl
    ∙ sym (number_at-subtract_lists u (subtract_lists u v) i
    ∙ ap (λ t. number_at u i -ℚ t) (number_at-subtract_lists u v i)))))
    (norm-subtract_lists norm u (subtract_lists u v))

-- sums of vectors are at most as far apart as their terms are together
pub distance_of_sums : (norm : Norm) (n : ℕ) (y z : ℕ → Vector) (u v : Vector)
    → ((i : ℕ) → number_at u i ≡ sum_to n (λ k. number_at (y k) i))
    → ((i : ℕ) → number_at v i ≡ sum_to n (λ k. number_at (z k) i))
    → distance norm u v ≤ℚ sum_to n (λ k. distance norm (y k) (z k))
distance_of_sums norm n y z u v h k = le_trans
    (le_of_equal (norm-same norm (subtract_lists u v) (sum_over n (λ k. subtract_lists (y k) (z k))) numbers))
    (norm-sum_over norm n (λ k. subtract_lists (y k) (z k)))
  where
    numbers : (i : ℕ) → number_at (subtract_lists u v) i
        ≡ number_at (sum_over n (λ k. subtract_lists (y k) (z k))) i
    numbers i = number_at-subtract_lists u v i ∙ ap₂ ◌-ℚ◌ (h i) (k i)
        ∙ sym (sum_to_sub n (λ k. number_at (y k) i) (λ k. number_at (z k) i))
        ∙ sum_to_ext n (λ k b. sym (number_at-subtract_lists (y k) (z k) i))
        ∙ sym (number_at-sum_over n (λ k. subtract_lists (y k) (z k)) i)
