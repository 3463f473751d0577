-- What the second half of a pair takes from the first half's start.
use Rattle.std.specs.Prelude.{ℕ, suc, pos, [], ◌∷◌}
use Rattle.std.proofs.Common.{refl, sym, ◌∙◌, arith}
use Rattle.frac_laws.specs.Fraction.{Fraction, over, whole, ◌+ℚ◌, ◌*ℚ◌, ◌≤ℚ◌}
use Rattle.frac_laws.specs.Sums.{sum_to}
use Rattle.frac_laws.specs.Convolution.{convolution}
use Rattle.frac_laws.specs.Lists.{Vector, number_at, vector_at, add_lists, sum_of_vectors}
use Rattle.frac_laws.specs.Norms.{Sup, norm_of_vector}
use Rattle.frac_laws.proofs.FractionTerms.{ring, terms}
use Rattle.frac_laws.proofs.Linear.{linear, claims, natural, ◌⊞◌, ◌⊠◌}
use Rattle.frac_laws.proofs.Order.{le_refl, le_trans, le_of_equal, add_mono}
use Rattle.frac_laws.proofs.Signs.{sum_natural}
use Rattle.frac_laws.proofs.Sums.{sum_to_longer}
use Rattle.frac_laws.proofs.Convolutions.{convolution_natural, convolution_total_le}
use Rattle.frac_laws.proofs.Vectors.{number_at-add_lists}
use Rattle.frac_laws.proofs.Norms.{norm_natural, norm-same, norm-add_lists}
use Rattle.cell_laws.specs.Systems.{run, sum_of_images}
use Rattle.cell_laws.specs.Pairs.{CoupledPair, received, second_coefficient, homogeneous_pair}
use Rattle.cell_laws.specs.Tame.{matrix_norm_at, IsTamePair}
use Rattle.cell_laws.specs.Driven.{IsNatural, IsDriven}
use Rattle.cell_laws.specs.ScalarLaws.{multiplied}
use Rattle.cell_laws.specs.DecayLaws.{norms}
use Rattle.cell_laws.specs.GrowthLaws.{SecondHalvesRespond, PairsGrow}
use Rattle.cell_laws.proofs.Cancelling.{one_le_suc}
use Rattle.cell_laws.proofs.Runs.{norms_driven, norm_of_total-run, norm_of_images-run}
use Rattle.cell_laws.proofs.TameSums.{norm_of_none, matrix_norms_natural, total_within}
use Rattle.cell_laws.proofs.Totals.{driven_totals_at_64}
use Rattle.cell_laws.proofs.FirstOrder.{homogeneous_at}
use Rattle.cell_laws.proofs.Growth.{with_start, homogeneous_total, cells_grow}
use Rattle.cell_laws.proofs.Combinations.{Combines, totals_combine}

module _ (kappa40 : ℕ) (c : Fraction) (p : CoupledPair) (e : Vector) (n : ℕ)
    (t : IsTamePair kappa40 c p) where
  -- the norms of the first half's homogeneous coefficients
  abbrev first_norms : ℕ → Fraction
  first_norms = norms Sup (homogeneous_at p.first.matrices e)

  abbrev coupling_norms : ℕ → Fraction
  coupling_norms = matrix_norm_at Sup p.coupling

  -- the norms of the second half's coefficients from 0
  abbrev answer_norms : ℕ → Fraction
  answer_norms = norms Sup (second_coefficient (homogeneous_pair p) e [])

  driven_by_first : IsDriven n (matrix_norm_at Sup p.second.matrices)
      (multiplied (convolution coupling_norms first_norms)) answer_norms
  driven_by_first = record {
    factors = matrix_norms_natural Sup p.second.matrices;
    values = λ k. norm_natural Sup (second_coefficient (homogeneous_pair p) e [] k);
    step = λ k b. le_trans ((norms_driven p.second.matrices (received (homogeneous_pair p) e)
        [] Sup n).step k b) (add_mono (le_refl _) (le_trans (received_norm k) (more k)));
  }
    where
      received_norm : (k : ℕ) → norm_of_vector Sup (received (homogeneous_pair p) e k)
          ≤ℚ convolution coupling_norms first_norms k
      received_norm k = le_trans (norm-add_lists Sup
          (sum_of_images p.coupling (run p.first.matrices (vector_at []) e k)) [])
          (le_trans (add_mono (norm_of_images-run p.first.matrices (vector_at []) e Sup p.coupling k)
          (le_of_equal (norm_of_none Sup)))
          (linear (convolution coupling_norms first_norms k ∷ []) (le_refl (whole (pos 0)))
          (hlevel claims) refl))

      more : (k : ℕ) → convolution coupling_norms first_norms k ≤ℚ multiplied
          (convolution coupling_norms first_norms) k
      more k = linear (whole (pos (suc k)) ∷ convolution coupling_norms first_norms k ∷ [])
          (one_le_suc k ⊠ convolution_natural (matrix_norms_natural Sup p.coupling)
          (λ j. norm_natural Sup (homogeneous_at p.first.matrices e j)) k) (hlevel claims) refl

  pub responds : sum_to (suc n) answer_norms ≤ℚ c *ℚ norm_of_vector Sup e
  responds = combine (sum_to (suc n) answer_norms) (sum_to n (convolution coupling_norms first_norms))
      (sum_to n coupling_norms) (sum_to n first_norms) (norm_of_vector Sup e)
      (le_trans (with_start n answer_norms (sum_to n (convolution coupling_norms first_norms))
      (driven_totals_at_64 n (matrix_norm_at Sup p.second.matrices)
      (convolution coupling_norms first_norms) answer_norms driven_by_first
      (le_trans (total_within Sup p.second.matrices n) t.second.total)))
      (linear (sum_to n (convolution coupling_norms first_norms) ∷ []) (le_refl (whole (pos 0)))
      (hlevel claims) refl))
      (convolution_total_le n (matrix_norms_natural Sup p.coupling) first_natural)
      (le_trans (total_within Sup p.coupling n) t.total_coupling)
      (le_trans (linear (sum_to n first_norms ∷ sum_to (suc n) first_norms ∷ [])
      (natural 127 1 ⊠ sum_to_longer n (suc n) (λ k b. first_natural k) (omega arith))
      (hlevel claims) refl) (homogeneous_total Sup p.first.matrices e n t.first.total))
      (sum_natural n _ (matrix_norms_natural Sup p.coupling)) (sum_natural n _ first_natural)
      (norm_natural Sup e)
    where
      first_natural : IsNatural first_norms
      first_natural k = norm_natural Sup (homogeneous_at p.first.matrices e k)

      combine : (s g a w x : Fraction) → whole (pos 127) *ℚ s ≤ℚ whole (pos 128) *ℚ g → g ≤ℚ a *ℚ w
          → a ≤ℚ over (pos 15) 16 *ℚ c → whole (pos 127) *ℚ w ≤ℚ whole (pos 129) *ℚ x
          → whole (pos 0) ≤ℚ a → whole (pos 0) ≤ℚ w → whole (pos 0) ≤ℚ x → s ≤ℚ c *ℚ x
      combine s g a w x h1 h2 h3 h4 ha hw hx = linear (s ∷ g ∷ a ∷ w ∷ x ∷ c ∷ [])
          (natural 1 127 ⊠ h1 ⊞ natural 128 127 ⊠ h2 ⊞ natural 128 127 ⊠ (h3 ⊠ hw) ⊞ natural 120 16129 ⊠
          (c_natural ⊠ h4) ⊞ natural 649 16129 ⊠ (c_natural ⊠ hx)) (hlevel claims) refl
        where
          c_natural : whole (pos 0) ≤ℚ c
          c_natural = linear (a ∷ c ∷ []) (natural 16 15 ⊠ (ha ⊞ h3)) (hlevel claims) refl

pub second_halves_respond : SecondHalvesRespond
second_halves_respond kappa40 c p e n t = responds kappa40 c p e n t

-- the second half's coefficients are those of its own homogeneous run and of the answer to the first half
module _ (p : CoupledPair) (e d : Vector) (n : ℕ) where
  abbrev own_total : Vector
  own_total = sum_of_vectors (run p.second.matrices (vector_at []) d n)

  abbrev answer_total : Vector
  answer_total = sum_of_vectors (run p.second.matrices (received (homogeneous_pair p) e) [] n)

  abbrev both_total : Vector
  both_total = sum_of_vectors (run p.second.matrices (received (homogeneous_pair p) e) d n)

  splits : Combines (whole (pos 1)) own_total answer_total both_total
  splits = totals_combine (whole (pos 1)) p.second.matrices (vector_at [])
      (received (homogeneous_pair p) e) (received (homogeneous_pair p) e) d [] d
      (λ k. record {
        numbers = λ i. ring (number_at (received (homogeneous_pair p) e k) i ∷ [])
            (hlevel terms) refl;
      })
      (record { numbers = λ i. ring (number_at d i ∷ []) (hlevel terms) refl }) n

  pub total_of_both : norm_of_vector Sup both_total
      ≤ℚ norm_of_vector Sup own_total +ℚ norm_of_vector Sup answer_total
  total_of_both = le_trans (le_of_equal (norm-same Sup both_total (add_lists own_total answer_total)
      (λ i. splits.numbers i
      ∙ ring (number_at own_total i ∷ number_at answer_total i ∷ []) (hlevel terms) refl
      ∙ sym (number_at-add_lists own_total answer_total i))))
      (norm-add_lists Sup own_total answer_total)

pub pairs_grow : PairsGrow
pairs_grow kappa40 c p e d n t b = le_trans (total_of_both p e d n)
    (add_mono (cells_grow Sup kappa40 p.second d n t.second b)
    (le_trans (norm_of_total-run p.second.matrices (received (homogeneous_pair p) e) [] Sup n)
    (responds kappa40 c p e n t)))
