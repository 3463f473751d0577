-- The norms of what a stored system differs by from the exact one, and sums of tame systems' norms.
use Rattle.std.specs.Prelude.{◌≡◌, ℕ, suc, zero, pos, List, [], ◌∷◌, length, ◌<◌, ◌≤◌, ◌+◌, ◌-◌, ◌^◌}
use Rattle.std.proofs.Common.{refl, ap, ◌∙◌, inl, inr, arith}
use Rattle.std.proofs.lemmas.Bool.{cases_lt}
use Rattle.frac_laws.specs.Fraction.{Fraction, over, whole, ◌+ℚ◌, ◌*ℚ◌, ◌-ℚ◌, ◌≤ℚ◌, size}
use Rattle.frac_laws.specs.Sums.{sum_to, power}
use Rattle.frac_laws.specs.Lists.{Vector, Matrix, number_at, vector_at, matrix_at, subtract_lists}
use Rattle.frac_laws.specs.Norms.{Norm}
use Rattle.frac_laws.proofs.FractionTerms.{ring, terms}
use Rattle.frac_laws.proofs.Linear.{linear, claims, natural, ◌⊞◌, ◌⊠◌}
use Rattle.frac_laws.proofs.Order.{le_refl, le_trans, le_of_equal, le_antisym}
use Rattle.frac_laws.proofs.Sums.{sum_to_ext, sum_to_add, sum_to_mono}
use Rattle.frac_laws.proofs.Convolutions.{sum_to_within}
use Rattle.frac_laws.proofs.Quotients.{inverse}
use Rattle.frac_laws.proofs.Lengths.{subtract_lists_fits, number_at-past}
use Rattle.frac_laws.proofs.Vectors.{number_at-subtract_lists}
use Rattle.frac_laws.proofs.Norms.{norm_natural, size_zero}
use Rattle.frac_laws.proofs.SmallNumbers.{matrix_norm_of_small}
use Rattle.frac_laws.proofs.GeometricTails.{tail_of_eighths}
use Rattle.cell_laws.specs.Tame.{matrix_norm_at, weighted, weighted_norm}
use Rattle.cell_laws.specs.GrowthLaws.{later_powers}
use Rattle.cell_laws.specs.ErrorLaws.{distance}
use Rattle.cell_laws.proofs.Cancelling.{one_le_suc}
use Rattle.cell_laws.proofs.TameSums.{matrix_norms_natural, weighted_within}
use Rattle.step_laws.specs.StandsFor.{units, entry_at, MatricesFit, MatricesStandFor, VectorsStandFor}
use Rattle.step_laws.specs.RoundedRuns.{AreEmptyAbove}
use Rattle.step_laws.proofs.Differences.{change_is_small, no_change_past, both_zero}
use Rattle.step_laws.proofs.Differences.{near_everywhere}
use Rattle.step_laws.proofs.Images.{changes, stored_factors, changes_natural}
use Rattle.step_laws.proofs.Halves.{IsShort, short_total, weighted_short_total}
use Rattle.step_laws.proofs.Residues.{spread, norm_of_small}

-- stored matrices
module _ (norm : Norm) (error d : ℕ) (stored exact : List Matrix) (s : MatricesStandFor error d stored exact)
    (r : Fraction) (most : whole (pos d) *ℚ units error ≤ℚ r) where
  pub changes_are_short : IsShort r (changes norm exact stored)
  changes_are_short = record {
    natural_terms = changes_natural norm exact stored;
    small = λ m. le_trans (change_is_small error d stored exact s norm m) most;
    past = λ m b. no_change_past error d stored exact s norm m b;
  }

  pub stored_total : (n : ℕ) (total : Fraction) → sum_to n (matrix_norm_at norm exact) ≤ℚ total
      → sum_to n (stored_factors norm exact stored) ≤ℚ total +ℚ whole (pos 12) *ℚ r
  stored_total n total h = le_trans
      (le_of_equal (sum_to_add n (matrix_norm_at norm exact) (changes norm exact stored)))
      (linear (sum_to n (matrix_norm_at norm exact) ∷ sum_to n (changes norm exact stored) ∷ total ∷ r ∷ [])
      (h ⊞ short_total r (changes norm exact stored) changes_are_short n) (hlevel claims) refl)

  -- the weighted sum of the stored norms: what is off adds at most (8^12 - 1) / 7 times r
  pub weighted_stored_total : (n : ℕ) → sum_to n (weighted (stored_factors norm exact stored))
      ≤ℚ weighted_norm norm exact +ℚ over (pos (8 ^ 12)) 7 *ℚ r
  weighted_stored_total n = join (sum_to n (weighted (stored_factors norm exact stored)))
      (sum_to n (weighted (matrix_norm_at norm exact))) (sum_to n (weighted (changes norm exact stored)))
      (weighted_norm norm exact) r
      (sum_to_ext n (λ m b. parted (power (whole (pos 8)) m) (matrix_norm_at norm exact m)
      (changes norm exact stored m))
      ∙ sum_to_add n (weighted (matrix_norm_at norm exact)) (weighted (changes norm exact stored)))
      (weighted_within norm exact n) (weighted_short_total r (changes norm exact stored) changes_are_short n)
    where
      parted : (e x y : Fraction) → e *ℚ (x +ℚ y) ≡ e *ℚ x +ℚ e *ℚ y
      parted e x y = ring (e ∷ x ∷ y ∷ []) (hlevel terms) refl

      join : (t x y w r : Fraction) → t ≡ x +ℚ y → x ≤ℚ w → y ≤ℚ over (pos (8 ^ 12)) 7 *ℚ r
          → t ≤ℚ w +ℚ over (pos (8 ^ 12)) 7 *ℚ r
      join t x y w r e h k = linear (t ∷ x ∷ y ∷ w ∷ r ∷ []) (le_of_equal e ⊞ h ⊞ k) (hlevel claims) refl

-- stored free vectors
module _ (norm : Norm) (error d : ℕ) (stored exact : List Vector) (s : VectorsStandFor error d stored exact) where
  abbrev pub free_changes : ℕ → Fraction
  free_changes m = distance norm (vector_at exact m) (vector_at stored m)

  within : (r : Fraction) (m : ℕ) → whole (pos 0) ≤ℚ r
      → ((i : ℕ) → size (number_at (vector_at exact m) i -ℚ number_at (vector_at stored m) i) ≤ℚ r)
      → free_changes m ≤ℚ spread norm d *ℚ r
  within r m z h = norm_of_small norm d r (subtract_lists (vector_at exact m) (vector_at stored m)) z
      (subtract_lists_fits d (vector_at exact m) (vector_at stored m) (s.exact_fit.numbers m)
      (s.stored_fit.numbers m))
      (λ i. rw (number_at-subtract_lists (vector_at exact m) (vector_at stored m) i) (h i))

  free_near_everywhere : (m i : ℕ)
      → size (number_at (vector_at exact m) i -ℚ number_at (vector_at stored m) i) ≤ℚ units error
  free_near_everywhere m i = elim (cases_lt i d) [
    | inl b ↦ s.near m i b
    | inr b ↦ both_zero (number_at-past (vector_at exact m) d i (s.exact_fit.numbers m) b)
        (number_at-past (vector_at stored m) d i (s.stored_fit.numbers m) b) (natural error (2 ^ 64))
  ]

  pub free_changes_are_short : IsShort (spread norm d *ℚ units error) free_changes
  free_changes_are_short = record {
    natural_terms = λ m. norm_natural norm (subtract_lists (vector_at exact m) (vector_at stored m));
    small = λ m. within (units error) m (natural error (2 ^ 64)) (free_near_everywhere m);
    past = λ m b. le_antisym (le_trans (within (whole (pos 0)) m (le_refl _)
        (λ i. both_zero (s.exact_fit.no_more m i b) (s.stored_fit.no_more m i b) (le_refl _)))
        (linear (spread norm d ∷ []) (le_refl (whole (pos 0))) (hlevel claims) refl))
        (norm_natural norm (subtract_lists (vector_at exact m) (vector_at stored m)));
  }

-- an exact matrix beyond power 11 is 0
pub no_norm_past : (norm : Norm) (d : ℕ) (matrices : List Matrix) → MatricesFit d matrices → (m : ℕ) → 12 ≤ m
    → matrix_norm_at norm matrices m ≡ whole (pos 0)
no_norm_past norm d matrices f m b = le_antisym (le_trans
    (matrix_norm_of_small norm d (whole (pos 0)) _ (le_refl _) (record {
      rows = f.rows m;
      columns = f.columns m;
      numbers = λ i j. le_of_equal (ap size (f.no_more m i j b) ∙ size_zero);
    })) (linear (whole (pos d) ∷ []) (le_refl (whole (pos 0))) (hlevel claims) refl))
    (matrix_norms_natural norm matrices m)

-- nor more than 12 r, if from power n on no norm is more than r
pub later_powers_small : (norm : Norm) (d : ℕ) (matrices : List Matrix) → MatricesFit d matrices
    → (r : Fraction) (n : ℕ) → ((m : ℕ) → n ≤ m → matrix_norm_at norm matrices m ≤ℚ r)
    → later_powers norm matrices n ≤ℚ whole (pos 12) *ℚ r
later_powers_small norm d matrices f r n small = le_trans
    (sum_to_mono (length matrices - n) {g = λ i. matrix_norm_at norm matrices (n + i)} (λ i c. each (n + i)))
    (le_trans (sum_to_within 12 (length matrices - n) {f = λ i. matrix_norm_at norm matrices (n + i)}
    (λ i. matrix_norms_natural norm matrices (n + i))
    (λ i c. no_norm_past norm d matrices f (n + i) (omega arith)))
    (le_trans (sum_to_mono 12 {g = λ i. r} (λ i c. small (n + i) (omega arith)))
    (linear (r ∷ []) (le_refl (whole (pos 0))) (hlevel claims) refl)))
  where
    part_le_one : (m : ℕ) → over (pos 1) (suc m) ≤ℚ whole (pos 1)
    part_le_one m = linear (over (pos 1) (suc m) ∷ whole (pos (suc m)) ∷ [])
        (one_le_suc m ⊠ natural 1 (suc m) ⊞ le_of_equal (inverse (suc m) (omega arith))) (hlevel claims) refl

    each : (m : ℕ) → over (pos 1) (suc m) *ℚ matrix_norm_at norm matrices m ≤ℚ matrix_norm_at norm matrices m
    each m = linear (over (pos 1) (suc m) ∷ matrix_norm_at norm matrices m ∷ [])
        (part_le_one m ⊠ matrix_norms_natural norm matrices m) (hlevel claims) refl

-- where above power d nothing is stored, that bound is of one unit for each number
pub later_norm_small : (norm : Norm) (dim d : ℕ) (stored exact : List Matrix)
    → MatricesStandFor 1 dim stored exact → AreEmptyAbove d stored → (m : ℕ) → d < m
    → matrix_norm_at norm exact m ≤ℚ whole (pos dim) *ℚ units 1
later_norm_small norm dim d stored exact s none m b =
    matrix_norm_of_small norm dim (units 1) (matrix_at exact m) (natural 1 (2 ^ 64)) (record {
      rows = s.exact_fit.rows m;
      columns = s.exact_fit.columns m;
      numbers = λ i j. le_trans (le_of_equal (ap size (bare i j))) (near_everywhere 1 dim stored exact s m i j);
    })
  where
    bare : (i j : ℕ) → entry_at exact m i j ≡ entry_at exact m i j -ℚ entry_at stored m i j
    bare i j = rw (none m i j b) (ring (entry_at exact m i j ∷ []) (hlevel terms) refl)

-- what decays by eighths adds up to at most 8/7 of its bound
pub decaying_total : (n : ℕ) (bound : Fraction) (v : ℕ → Fraction) → whole (pos 0) ≤ℚ bound
    → ((k : ℕ) → weighted v k ≤ℚ bound) → whole (pos 7) *ℚ sum_to n v ≤ℚ whole (pos 8) *ℚ bound
decaying_total n bound v z h = plain (sum_to n (λ i. v (0 + i))) (sum_to n v)
    (sum_to_ext n (λ i b. let e : 0 + i ≡ i = omega arith in ap v e))
    (tail_of_eighths bound v 0 n z (λ i b. h (0 + i)))
  where
    plain : (s t : Fraction) → s ≡ t
        → whole (pos 7) *ℚ power (whole (pos 8)) 0 *ℚ s ≤ℚ whole (pos 8) *ℚ bound
        → whole (pos 7) *ℚ t ≤ℚ whole (pos 8) *ℚ bound
    plain s t e k = rw (← e) (linear (s ∷ bound ∷ []) k (hlevel claims) refl)

-- a plain sum is at most the weighted one
pub one_le_eights : (m : ℕ) → whole (pos 1) ≤ℚ power (whole (pos 8)) m
one_le_eights zero = le_refl _
one_le_eights (suc m) = linear (power (whole (pos 8)) m ∷ []) (natural 8 1 ⊠ one_le_eights m ⊞ natural 7 1)
    (hlevel claims) refl

pub plain_within_weighted : (norm : Norm) (matrices : List Matrix) (n : ℕ)
    → sum_to n (matrix_norm_at norm matrices) ≤ℚ weighted_norm norm matrices
plain_within_weighted norm matrices n = le_trans (sum_to_mono n (λ m b. each m))
    (weighted_within norm matrices n)
  where
    each : (m : ℕ) → matrix_norm_at norm matrices m ≤ℚ weighted (matrix_norm_at norm matrices) m
    each m = linear (matrix_norm_at norm matrices m ∷ power (whole (pos 8)) m ∷ [])
        (one_le_eights m ⊠ matrix_norms_natural norm matrices m) (hlevel claims) refl
