-- How much the homogeneous Taylor values of tame systems and pairs grow.
use Rattle.std.specs.Prelude.{ℕ, suc, zero, pos, List, [], ◌∷◌, length}
use Rattle.std.proofs.Common.{refl, ap, ◌∙◌}
use Rattle.frac_laws.specs.Fraction.{Fraction, over, whole, ◌+ℚ◌, ◌*ℚ◌, ◌-ℚ◌, ◌≤ℚ◌}
use Rattle.frac_laws.specs.Sums.{sum_to}
use Rattle.frac_laws.specs.Lists.{Vector, Matrix, vector_at}
use Rattle.frac_laws.specs.Lists.{sum_of_vectors}
use Rattle.frac_laws.specs.Norms.{Norm, norm_of_vector, norm_of_matrix}
use Rattle.frac_laws.proofs.FractionTerms.{ring, terms}
use Rattle.frac_laws.proofs.Linear.{linear, claims, natural, ◌⊞◌, ◌⊠◌}
use Rattle.frac_laws.proofs.Order.{le_refl, le_trans, le_of_equal, add_mono}
use Rattle.frac_laws.proofs.Sums.{sum_to_first, sum_to_zero}
use Rattle.frac_laws.proofs.Signs.{sum_natural}
use Rattle.frac_laws.proofs.Norms.{norm_natural}
use Rattle.cell_laws.specs.Systems.{run}
use Rattle.cell_laws.specs.Tame.{matrix_norm_at, total_norm, one_factor_map, growth_of, twice_the_rest}
use Rattle.cell_laws.specs.Driven.{IsNatural, IsDriven}
use Rattle.cell_laws.specs.ScalarLaws.{multiplied}
use Rattle.cell_laws.specs.DecayLaws.{norms}
use Rattle.cell_laws.specs.GrowthLaws.{later_powers, CellsGrow, CellsGrowLittle}
use Rattle.cell_laws.proofs.Cancelling.{cancel_rest}
use Rattle.cell_laws.proofs.Runs.{norms_driven}
use Rattle.cell_laws.proofs.TameSums.{norm_of_none, matrix_norms_natural, total_within}
use Rattle.cell_laws.proofs.Totals.{driven_totals_at_64, second_order_parts_are_small}
use Rattle.cell_laws.proofs.FirstOrder.{homogeneous_at, further_part, total_within_parts, further_part_norm}
use Rattle.cell_laws.proofs.FirstOrder.{one_factor_within}

-- without free vectors the norms are driven by the matrices alone
pub homogeneous_driven : (norm : Norm) (matrices : List Matrix) (e : Vector) (n : ℕ)
    → IsDriven n (matrix_norm_at norm matrices) (λ k. whole (pos 0))
    (norms norm (homogeneous_at matrices e))
homogeneous_driven norm matrices e n = record {
  factors = (norms_driven matrices (vector_at []) e norm n).factors;
  values = (norms_driven matrices (vector_at []) e norm n).values;
  step = λ k b. le_trans ((norms_driven matrices (vector_at []) e norm n).step k b)
      (add_mono (le_refl _) (le_of_equal (norm_of_none norm)));
}

-- the further parts add up to at most F^2 / (2 - F) of the start
abbrev sequence_of : (ℕ → Fraction) → ℕ → Fraction
sequence_of h zero = whole (pos 0)
sequence_of h (suc k) = h k

further_parts_are_small : (norm : Norm) (matrices : List Matrix) (e : Vector) (n : ℕ)
    → total_norm norm matrices ≤ℚ whole (pos 2)
    → (whole (pos 2) -ℚ total_norm norm matrices) *ℚ sum_to n
    (λ k. norm_of_vector norm (further_part matrices e k))
    ≤ℚ total_norm norm matrices *ℚ total_norm norm matrices *ℚ norm_of_vector norm e
further_parts_are_small norm matrices e n small =
    second_order_parts_are_small n (matrix_norm_at norm matrices) (norms norm (homogeneous_at matrices e))
    (sequence_of (λ k. norm_of_vector norm (further_part matrices e k))) (total_norm norm matrices)
    (homogeneous_driven norm matrices e n) natural_sequence (λ k b. further_part_norm matrices e norm k)
    (total_within norm matrices n) small
  where
    natural_sequence : IsNatural (sequence_of (λ k. norm_of_vector norm (further_part matrices e k)))
    natural_sequence zero = le_refl _
    natural_sequence (suc k) = norm_natural norm (further_part matrices e k)

pub cells_grow : CellsGrow
cells_grow norm kappa40 s e n t b = cancel_rest (total_norm norm s.matrices) _ _ t.total
    (combine (total_norm norm s.matrices)
    (norm_of_matrix norm (one_factor_map s.dimension s.matrices (length s.matrices)))
    (later_powers norm s.matrices n)
    (growth_of kappa40) (norm_of_vector norm (sum_of_vectors (run s.matrices (vector_at []) e n)))
    (norm_of_vector norm e) (sum_to n (λ k. norm_of_vector norm (further_part s.matrices e k)))
    t.total (le_trans (sum_natural _ _ (matrix_norms_natural norm s.matrices)) (le_refl _))
    (norm_natural norm e)
    (sum_natural n _ (λ k. norm_natural norm (further_part s.matrices e k)))
    (le_trans (total_within_parts s.matrices e norm s.dimension n b)
    (add_mono (one_factor_within s.matrices e norm s.dimension n) (le_refl _)))
    (further_parts_are_small norm s.matrices e n
    (le_trans t.total (linear [] (le_refl (whole (pos 0))) (hlevel claims) refl))) t.growth)
  where
    combine : (f p q k h x r : Fraction) → f ≤ℚ over (pos 1) 64 → whole (pos 0) ≤ℚ f → whole (pos 0) ≤ℚ x
        → whole (pos 0) ≤ℚ r
        → h ≤ℚ (p +ℚ q) *ℚ x +ℚ r → (whole (pos 2) -ℚ f) *ℚ r ≤ℚ f *ℚ f *ℚ x
        → twice_the_rest f *ℚ p +ℚ f *ℚ f ≤ℚ twice_the_rest f *ℚ (whole (pos 1) +ℚ k)
        → twice_the_rest f *ℚ h ≤ℚ twice_the_rest f *ℚ ((whole (pos 1) +ℚ k +ℚ q) *ℚ x)
    combine f p q k h x r small hf hx hr h1 h2 h3 = linear (f ∷ p ∷ q ∷ k ∷ h ∷ x ∷ r ∷ [])
        (natural 2 1 ⊠ (small ⊠ h1) ⊞ natural 63 32 ⊠ h1 ⊞ h2 ⊞ h3 ⊠ hx ⊞ hf ⊠ hr) (hlevel claims) refl

-- the sum of v_0 and the rest, where 127 times the rest is at most 2 v_0 + 128 phi
pub with_start : (n : ℕ) (v : ℕ → Fraction) (phi : Fraction)
    → whole (pos 127) *ℚ sum_to n (λ k. v (suc k)) ≤ℚ whole (pos 2) *ℚ v 0 +ℚ whole (pos 128) *ℚ phi
    → whole (pos 127) *ℚ sum_to (suc n) v ≤ℚ whole (pos 129) *ℚ v 0 +ℚ whole (pos 128) *ℚ phi
with_start n v phi h = le_trans (le_of_equal (ap (λ z. whole (pos 127) *ℚ z) (sum_to_first n v)))
    (linear (v 0 ∷ sum_to n (λ k. v (suc k)) ∷ phi ∷ []) h (hlevel claims) refl)

pub homogeneous_total : (norm : Norm) (matrices : List Matrix) (e : Vector) (n : ℕ)
    → total_norm norm matrices ≤ℚ over (pos 1) 64
    → whole (pos 127) *ℚ sum_to (suc n) (norms norm (homogeneous_at matrices e)) ≤ℚ whole
    (pos 129) *ℚ norm_of_vector norm e
homogeneous_total norm matrices e n small =
    le_trans (with_start n (norms norm (homogeneous_at matrices e)) (sum_to n (λ k. whole (pos 0)))
    (driven_totals_at_64 n (matrix_norm_at norm matrices) (λ k. whole (pos 0))
    (norms norm (homogeneous_at matrices e)) no_free (le_trans (total_within norm matrices n) small)))
    (le_of_equal (ap (λ z. whole (pos 129) *ℚ norm_of_vector norm e +ℚ whole (pos 128) *ℚ z)
    (sum_to_zero n) ∙ ring (norm_of_vector norm e ∷ []) (hlevel terms) refl))
  where
    no_free : IsDriven n (matrix_norm_at norm matrices) (multiplied (λ k. whole (pos 0)))
        (norms norm (homogeneous_at matrices e))
    no_free = record {
      factors = (homogeneous_driven norm matrices e n).factors;
      values = (homogeneous_driven norm matrices e n).values;
      step = λ k b. le_trans ((homogeneous_driven norm matrices e n).step k b)
          (add_mono (le_refl _) (le_of_equal (ring (whole (pos (suc k)) ∷ []) (hlevel terms) refl)));
    }

pub cells_grow_little : CellsGrowLittle
cells_grow_little norm kappa40 s e n t = homogeneous_total norm s.matrices e n t.total
