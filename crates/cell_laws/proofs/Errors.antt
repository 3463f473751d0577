-- How far two Taylor values are apart.
use Rattle.std.specs.Prelude.{◌≡◌, ℕ, suc, pos, List, [], ◌∷◌, length, ◌≤◌, ◌+◌, ◌-◌}
use Rattle.std.proofs.Common.{refl, ap, sym, ◌∙◌, arith}
use mathlib.Core.Path.{ap₂}
use Rattle.frac_laws.specs.Fraction.{whole, ◌+ℚ◌, ◌*ℚ◌, ◌-ℚ◌, ◌≤ℚ◌}
use Rattle.frac_laws.specs.Sums.{sum_to}
use Rattle.frac_laws.specs.Lists.{Vector, Matrix, number_at, vector_at, subtract_lists}
use Rattle.frac_laws.specs.Lists.{sum_of_vectors}
use Rattle.frac_laws.specs.Norms.{Norm, Sup, norm_of_vector}
use Rattle.frac_laws.proofs.FractionTerms.{ring, terms}
use Rattle.frac_laws.proofs.Order.{le_trans, le_of_equal}
use Rattle.frac_laws.proofs.Sums.{sum_to_split}
use Rattle.frac_laws.proofs.Vectors.{number_at-subtract_lists}
use Rattle.frac_laws.proofs.Lengths.{subtract_lists_fits}
use Rattle.frac_laws.proofs.Norms.{norm-same}
use Rattle.cell_laws.specs.Systems.{run, taylor_value, homogeneous}
use Rattle.cell_laws.specs.Pairs.{received, second_taylor_value, homogeneous_pair}
use Rattle.cell_laws.specs.Tame.{growth_of}
use Rattle.cell_laws.specs.GrowthLaws.{later_powers}
use Rattle.cell_laws.specs.ErrorLaws.{distance, ErrorsGrow, ErrorsGrowByKappa, SecondErrorsGrow}
use Rattle.cell_laws.specs.ErrorLaws.{LaterDegreesAreClose, StoredLaterDegreesAreClose}
use Rattle.cell_laws.specs.ErrorLaws.{SecondLaterDegreesAreClose, StoredSecondLaterDegreesAreClose}
use Rattle.cell_laws.proofs.VectorSums.{sum_over, number_at-sum_over, norm-sum_over}
use Rattle.cell_laws.proofs.Runs.{newest, total-run}
use Rattle.cell_laws.proofs.Superposition.{taylor_values_superpose, second_taylor_values_superpose}
use Rattle.cell_laws.proofs.TameDecay.{tails_are_below_a_unit, stored_tails_are_below_a_unit}
use Rattle.cell_laws.proofs.TameDecay.{second_tails_are_below_a_unit, stored_second_tails_are_below_a_unit}
use Rattle.cell_laws.proofs.Growth.{cells_grow}
use Rattle.cell_laws.proofs.Response.{pairs_grow}

-- a difference whose numbers are those of a vector has its norm
distance_is : (norm : Norm) (u v d : Vector) → ((i : ℕ) → number_at u i -ℚ number_at v i ≡ number_at d i)
    → distance norm u v ≡ norm_of_vector norm d
distance_is norm u v d h = norm-same norm (subtract_lists u v) d (λ i. number_at-subtract_lists u v i ∙ h i)

pub errors_grow : ErrorsGrow
errors_grow norm kappa40 s y x n t hy hx = le_trans
    (le_of_equal (distance_is norm (taylor_value s y n) (taylor_value s x n)
    (taylor_value (homogeneous s) (subtract_lists y x) n) (taylor_values_superpose s y x n)))
    (cells_grow norm kappa40 s (subtract_lists y x) n t (subtract_lists_fits s.dimension y x hy hx))

no_later_powers : (norm : Norm) (matrices : List Matrix) (n : ℕ) → length matrices ≤ n
    → later_powers norm matrices n ≡ whole (pos 0)
no_later_powers norm matrices n b = let z : length matrices - n ≡ 0 = omega arith in rw z refl

pub errors_grow_by_kappa : ErrorsGrowByKappa
errors_grow_by_kappa norm kappa40 s y x n t hy hx b = le_trans (errors_grow norm kappa40 s y x n t hy hx)
    (le_of_equal (ap (λ r. (whole (pos 1) +ℚ growth_of kappa40 +ℚ r) *ℚ distance norm y x)
    (no_later_powers norm s.matrices n b)
    ∙ ring (growth_of kappa40 ∷ distance norm y x ∷ []) (hlevel terms) refl))

pub second_errors_grow : SecondErrorsGrow
second_errors_grow kappa40 c p w z v x n t hz hx = le_trans
    (le_of_equal (distance_is Sup (second_taylor_value p w z n) (second_taylor_value p v x n)
    (second_taylor_value (homogeneous_pair p) (subtract_lists w v) (subtract_lists z x) n)
    (second_taylor_values_superpose p w z v x n)))
    (pairs_grow kappa40 c p (subtract_lists w v) (subtract_lists z x) n t
    (subtract_lists_fits p.second.dimension z x hz hx))

-- the Taylor values of two degrees differ by the coefficients between them
later_coefficients : (norm : Norm) (matrices : List Matrix) (f : ℕ → Vector) (y : Vector) (n more : ℕ)
    → distance norm (sum_of_vectors (run matrices f y (n + more))) (sum_of_vectors (run matrices f y n))
    ≤ℚ sum_to more (λ i. norm_of_vector norm (newest matrices f y (suc n + i)))
later_coefficients norm matrices f y n more = le_trans
    (le_of_equal (distance_is norm (sum_of_vectors (run matrices f y (n + more)))
    (sum_of_vectors (run matrices f y n))
    (sum_over more (λ i. newest matrices f y (suc n + i))) numbers))
    (norm-sum_over norm more (λ i. newest matrices f y (suc n + i)))
  where
    numbers : (i : ℕ) → number_at (sum_of_vectors (run matrices f y (n + more))) i -ℚ number_at
        (sum_of_vectors (run matrices f y n)) i
        ≡ number_at (sum_over more (λ i. newest matrices f y (suc n + i))) i
    numbers i = let e : suc (n + more) ≡ suc n + more = omega arith in
        ap₂ ◌-ℚ◌ (total-run matrices f y (n + more) i
        ∙ ap (λ m. sum_to m (λ k. number_at (newest matrices f y k) i)) e
        ∙ sum_to_split (suc n) more (λ k. number_at (newest matrices f y k) i))
        (total-run matrices f y n i)
        ∙ ring (sum_to (suc n) (λ k. number_at (newest matrices f y k) i) ∷ sum_to more
        (λ j. number_at (newest matrices f y (suc n + j)) i) ∷ []) (hlevel terms) refl
        ∙ sym (number_at-sum_over more (λ i. newest matrices f y (suc n + i)) i)

pub later_degrees_are_close : LaterDegreesAreClose
later_degrees_are_close norm kappa40 s y more t h =
    le_trans (later_coefficients norm s.matrices (vector_at s.free) y 24 more)
    (tails_are_below_a_unit norm kappa40 s y t h more)

pub stored_later_degrees_are_close : StoredLaterDegreesAreClose
stored_later_degrees_are_close norm kappa40 s y more t h =
    le_trans (later_coefficients norm s.matrices (vector_at s.free) y 24 more)
    (stored_tails_are_below_a_unit norm kappa40 s y t h more)

pub second_later_degrees_are_close : SecondLaterDegreesAreClose
second_later_degrees_are_close kappa40 c p w z more t h =
    le_trans (later_coefficients Sup p.second.matrices (received p w) z 24 more)
    (second_tails_are_below_a_unit kappa40 c p w z t h more)

pub stored_second_later_degrees_are_close : StoredSecondLaterDegreesAreClose
stored_second_later_degrees_are_close kappa40 c p w z more t h =
    le_trans (later_coefficients Sup p.second.matrices (received p w) z 24 more)
    (stored_second_tails_are_below_a_unit kappa40 c p w z t h more)
