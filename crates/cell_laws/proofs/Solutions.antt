-- Sequences that obey a recurrence with any right sides.
use Rattle.std.specs.Prelude.{◌≡◌, ℕ, suc, pos, [], ◌∷◌, ◌<◌, ◌-◌}
use Rattle.std.proofs.Common.{refl, ap, sym, ◌∙◌}
use Rattle.frac_laws.specs.Fraction.{Fraction, over, whole, ◌+ℚ◌, ◌*ℚ◌, ◌≤ℚ◌}
use Rattle.frac_laws.specs.Sums.{sum_to, power}
use Rattle.frac_laws.specs.Convolution.{convolution}
use Rattle.frac_laws.specs.Lists.{Vector, SameNumbers, number_at, matrix_at, add_lists, scale_list}
use Rattle.frac_laws.specs.Lists.{image}
use Rattle.frac_laws.specs.Norms.{Sup, norm_of_vector}
use Rattle.frac_laws.proofs.Linear.{linear, claims, natural, ◌⊞◌, ◌⊠◌}
use Rattle.frac_laws.proofs.Order.{le_refl, le_trans, le_of_equal, add_mono}
use Rattle.frac_laws.proofs.Sizes.{size_of_natural}
use Rattle.frac_laws.proofs.Sums.{sum_to_mono}
use Rattle.frac_laws.proofs.Signs.{sum_natural}
use Rattle.frac_laws.proofs.Vectors.{number_at-add_lists, number_at-scale_list}
use Rattle.frac_laws.proofs.Norms.{norm_natural, norm-same, norm-add_lists, norm-scale_list, norm-image}
use Rattle.cell_laws.specs.Tame.{matrix_norm_at, vector_norm_at}
use Rattle.cell_laws.specs.Driven.{IsDriven}
use Rattle.cell_laws.specs.ScalarLaws.{multiplied}
use Rattle.cell_laws.specs.DecayLaws.{norms}
use Rattle.cell_laws.specs.Solutions.{SolutionsAreDriven, DefectsRespond}
use Rattle.cell_laws.specs.Solutions.{TameRightSidesAreSmall, HomogeneousRightSidesAreSmall}
use Rattle.cell_laws.specs.Solutions.{SecondRightSidesAreSmall}
use Rattle.cell_laws.proofs.Cancelling.{one_le_suc}
use Rattle.cell_laws.proofs.VectorSums.{sum_over, number_at-sum_over, norm-sum_over}
use Rattle.cell_laws.proofs.Decay.{weighted_right_sides_are_small}
use Rattle.cell_laws.proofs.Totals.{driven_totals_at_64}
use Rattle.cell_laws.proofs.Growth.{with_start}
use Rattle.cell_laws.proofs.TameSums.{matrix_norms_natural, weighted_within, free_within}

pub solutions_are_driven : SolutionsAreDriven
solutions_are_driven norm n matrices r x h = record {
  factors = matrix_norms_natural norm matrices;
  values = λ k. norm_natural norm (x k);
  step = λ k b. le_trans (le_of_equal (scaled k b))
      (le_trans (norm-add_lists norm (images k) (r k)) (add_mono (images_norm k) (le_refl _)));
}
  where
    images : ℕ → Vector
    images k = sum_over (suc k) (λ m. image (matrix_at matrices m) (x (k - m)))

    numbers : (k : ℕ) → k < n → SameNumbers (scale_list (whole (pos (suc k))) (x (suc k)))
        (add_lists (images k) (r k))
    numbers k b i = number_at-scale_list (whole (pos (suc k))) (x (suc k)) i ∙ h k i b
        ∙ sym (number_at-add_lists (images k) (r k) i
        ∙ ap (λ t. t +ℚ number_at (r k) i)
        (number_at-sum_over (suc k) (λ m. image (matrix_at matrices m) (x (k - m))) i))

    scaled : (k : ℕ) → k < n → whole (pos (suc k)) *ℚ norm_of_vector norm (x (suc k))
        ≡ norm_of_vector norm (add_lists (images k) (r k))
    scaled k b = sym (norm-scale_list norm (whole (pos (suc k))) (x (suc k))
        ∙ ap (λ t. t *ℚ norm_of_vector norm (x (suc k))) (size_of_natural (natural (suc k) 1)))
        ∙ norm-same norm _ _ (numbers k b)

    images_norm : (k : ℕ) → norm_of_vector norm (images k) ≤ℚ convolution (matrix_norm_at norm matrices)
        (norms norm x) k
    images_norm k = le_trans (norm-sum_over norm (suc k) (λ m. image (matrix_at matrices m) (x (k - m))))
        (sum_to_mono (suc k) (λ m b. norm-image norm (matrix_at matrices m) (x (k - m))))

pub defects_respond : DefectsRespond
defects_respond n a r v d hr small =
    combine (sum_to (suc n) v) (v 0) (sum_to n r) (d.values 0) (sum_natural n _ hr)
    (with_start n v (sum_to n r) (driven_totals_at_64 n a r v longer small))
  where
    longer : IsDriven n a (multiplied r) v
    longer = record {
      factors = d.factors;
      values = d.values;
      step = λ k b. le_trans (d.step k b)
          (add_mono (le_refl _) (linear (whole (pos (suc k)) ∷ r k ∷ []) (one_le_suc k ⊠ hr k)
          (hlevel claims) refl));
    }

    combine : (s x t : Fraction) → whole (pos 0) ≤ℚ x → whole (pos 0) ≤ℚ t
        → whole (pos 127) *ℚ s ≤ℚ whole (pos 129) *ℚ x +ℚ whole (pos 128) *ℚ t
        → whole (pos 63) *ℚ s ≤ℚ whole (pos 64) *ℚ (x +ℚ t)
    combine s x t hx ht h = linear (s ∷ x ∷ t ∷ [])
        (natural 63 127 ⊠ h ⊞ natural 1 127 ⊠ hx ⊞ natural 64 127 ⊠ ht) (hlevel claims) refl

pub homogeneous_right_sides_are_small : HomogeneousRightSidesAreSmall
homogeneous_right_sides_are_small norm kappa40 s v k t h = le_trans
    (weighted_right_sides_are_small (whole (pos 8)) (over (pos 1) 16) (whole (pos 2))
    (matrix_norm_at norm s.matrices) v k (natural 8 1) (natural 2 1)
    (matrix_norms_natural norm s.matrices)
    (le_trans (weighted_within norm s.matrices (suc k)) t.matrices) h)
    (linear [] (le_refl (whole (pos 0))) (hlevel claims) refl)

pub tame_right_sides_are_small : TameRightSidesAreSmall
tame_right_sides_are_small norm kappa40 s v k t h = combine (power (whole (pos 8)) k)
    (convolution (matrix_norm_at norm s.matrices) v k) (vector_norm_at norm s.free k)
    (homogeneous_right_sides_are_small norm kappa40 s v k t h) (le_trans (free_within norm s.free k) t.free)
  where
    combine : (e c g : Fraction) → e *ℚ c ≤ℚ over (pos 1) 8 → e *ℚ g ≤ℚ over (pos 1) 8
        → e *ℚ (c +ℚ g) ≤ℚ over (pos 1) 4
    combine e c g h k = linear (e ∷ c ∷ g ∷ []) (h ⊞ k) (hlevel claims) refl

pub second_right_sides_are_small : SecondRightSidesAreSmall
second_right_sides_are_small kappa40 c p v u k t hv hu =
    combine (power (whole (pos 8)) k) (convolution (matrix_norm_at Sup p.second.matrices) u k)
    (convolution (matrix_norm_at Sup p.coupling) v k) (vector_norm_at Sup p.second.free k)
    (homogeneous_right_sides_are_small Sup kappa40 p.second u k t.second hu)
    (weighted_right_sides_are_small (whole (pos 8)) (over (pos 5) 32) (whole (pos 2))
    (matrix_norm_at Sup p.coupling) v k (natural 8 1) (natural 2 1)
    (matrix_norms_natural Sup p.coupling)
    (le_trans (weighted_within Sup p.coupling (suc k)) t.coupling) hv)
    (le_trans (free_within Sup p.second.free k) t.second_free)
  where
    combine : (e x y g : Fraction) → e *ℚ x ≤ℚ over (pos 1) 8 → e *ℚ y ≤ℚ over (pos 5) 32 *ℚ whole (pos 2)
        → e *ℚ g ≤ℚ over (pos 1) 32 → e *ℚ (x +ℚ y +ℚ g) ≤ℚ over (pos 15) 32
    combine e x y g h1 h2 h3 = linear (e ∷ x ∷ y ∷ g ∷ []) (h1 ⊞ h2 ⊞ h3) (hlevel claims) refl
