-- The polynomials of a run have its values at both ends of a cell, and a small defect has small values.
use Rattle.std.specs.Prelude.{◌≡◌, ℕ, zero, suc, pos, [], ◌∷◌, length}
use Rattle.std.proofs.Common.{refl, ap, sym, ◌∙◌}
use Rattle.frac_laws.specs.Fraction.{Fraction, whole, size, ◌+ℚ◌, ◌*ℚ◌, ◌≤ℚ◌}
use Rattle.frac_laws.specs.Sums.{sum_to}
use Rattle.frac_laws.specs.Lists.{Vector, number_at, scale_list}
use Rattle.frac_laws.specs.Polynomials.{value_at}
use Rattle.frac_laws.proofs.FractionTerms.{ring, terms}
use Rattle.frac_laws.proofs.Linear.{linear, claims, ◌⊞◌, ◌⊠◌}
use Rattle.frac_laws.proofs.Norms.{number_below_norm, size_zero}
use Rattle.frac_laws.proofs.Order.{le_trans, le_of_equal}
use Rattle.frac_laws.proofs.Polynomials.{value_at-scale_list}
use Rattle.frac_laws.proofs.Sizes.{size_add, size_mul_natural, size_natural}
use Rattle.frac_laws.proofs.Sums.{sum_to_first, sum_to_mono}
use Rattle.frac_laws.proofs.Vectors.{number_at-scale_list}
use Rattle.cell_laws.specs.Systems.{coefficient, taylor_value}
use Rattle.cell_laws.specs.Pairs.{second_coefficient, second_taylor_value}
use Rattle.cell_laws.proofs.Recurrences.{taylor_value_sums, second_taylor_value_sums}
use Rattle.whole_laws.specs.Whole.{list_of}
use Rattle.model_specs.specs.Payments.{payment_plan}
use Rattle.model_specs.specs.Systems.{thiele_system, norberg_pair, kolmogorov_system}
use Rattle.whole_laws.proofs.ListsByPlace.{at-list_of}
use Rattle.product_cells.specs.EachCell.{plan_scaling, forward_cell}
use Rattle.moment_laws.specs.CellRuns.{first_after_cells}
use Rattle.moment_laws.specs.SecondMomentLaws.{moments_after_cells}
use Rattle.probability_laws.specs.ProbabilityLaws.{probabilities_after}
use Rattle.limit_laws.specs.WrittenEquations.{Polynomial, ◌·ₚ◌}
use Rattle.limit_laws.specs.Defect.{run_polynomial, cell_after, FollowsRun, DefectValuesAreSmall}
use Rattle.limit_laws.specs.Defect.{FirstPolynomialsFollow, SecondPolynomialsFollow, ProbabilityPolynomialsFollow}

-- values at 0 and at 1
value_at_one : (n : ℕ) (f : ℕ → Fraction) → value_at (list_of n f) (whole (pos 1)) ≡ sum_to n f
value_at_one zero f = refl
value_at_one (suc n) f = ap (λ z. f 0 +ℚ whole (pos 1) *ℚ z) (value_at_one n (λ k. f (suc k)))
    ∙ ring (f 0 ∷ sum_to n (λ k. f (suc k)) ∷ []) (hlevel terms) refl ∙ sym (sum_to_first n f)

value_at_zero : (c : Fraction) (p : Polynomial) → value_at (c ∷ p) (whole (pos 0)) ≡ c
value_at_zero c p = ring (c ∷ value_at p (whole (pos 0)) ∷ []) (hlevel terms) refl

-- the polynomials of a sequence whose sum is a vector, scaled
follows : (c : Fraction) (y : ℕ → Vector) (n : ℕ) (after : Vector)
    → ((i : ℕ) → number_at after i ≡ sum_to (suc n) (λ k. number_at (y k) i))
    → FollowsRun (λ i. c ·ₚ run_polynomial y n i) (scale_list c (y 0)) (scale_list c after)
follows c y n after sums = record {
  starts = λ i. value_at-scale_list c (run_polynomial y n i) (whole (pos 0))
      ∙ ap (λ z. c *ℚ z) (value_at_zero (number_at (y 0) i) (list_of n (λ k. number_at (y (suc k)) i)))
      ∙ sym (number_at-scale_list c (y 0) i);
  ends = λ i. value_at-scale_list c (run_polynomial y n i) (whole (pos 1))
      ∙ ap (λ z. c *ℚ z) (value_at_one (suc n) (λ k. number_at (y k) i) ∙ sym (sums i))
      ∙ sym (number_at-scale_list c after i);
}

pub first_polynomials_follow : FirstPolynomialsFollow
first_polynomials_follow product plan n months done =
    let s = thiele_system (cell_after product plan months done) in
    let v = first_after_cells product plan n months done in
    follows (plan_scaling product plan) (coefficient s v) n (taylor_value s v n) (taylor_value_sums s v n)

pub second_polynomials_follow : SecondPolynomialsFollow
second_polynomials_follow product n months done =
    let plan = payment_plan product in
    let h = plan_scaling product plan in
    let p = norberg_pair (cell_after product plan months done) in
    let v = moments_after_cells product plan n months done in
    follows (h *ℚ h) (second_coefficient p v.first v.second) n (second_taylor_value p v.first v.second n)
    (second_taylor_value_sums p v.first v.second n)

pub probability_polynomials_follow : ProbabilityPolynomialsFollow
probability_polynomials_follow product n month cells =
    let s = kolmogorov_system (forward_cell product month cells) in
    let v = probabilities_after product n month cells in
    record {
      starts = λ i. value_at_zero (number_at v i) (list_of n (λ k. number_at (coefficient s v (suc k)) i));
      ends = λ i. value_at_one (suc n) (λ k. number_at (coefficient s v k) i) ∙ sym (taylor_value_sums s v n i);
    }

-- from 0 to 1 a value is within the sizes of the coefficients
value_within : (p : Polynomial) (x : Fraction) → whole (pos 0) ≤ℚ x → x ≤ℚ whole (pos 1)
    → size (value_at p x) ≤ℚ sum_to (length p) (λ k. size (number_at p k))
value_within [] x some small = le_of_equal size_zero
value_within (c ∷ p) x some small = rw (sum_to_first (length p) (λ k. size (number_at (c ∷ p) k)))
    (combine (size (c +ℚ x *ℚ value_at p x)) (size c) (size (x *ℚ value_at p x)) (size (value_at p x))
    (sum_to (length p) (λ k. size (number_at p k))) (size_add c (x *ℚ value_at p x))
    (size_mul_natural (value_at p x) some) (size_natural (value_at p x)) (value_within p x some small))
  where
    combine : (t a b v r : Fraction) → t ≤ℚ a +ℚ b → b ≡ x *ℚ v → whole (pos 0) ≤ℚ v → v ≤ℚ r → t ≤ℚ a +ℚ r
    combine t a b v r h e hv k =
        linear (t ∷ a ∷ b ∷ v ∷ r ∷ x ∷ []) (h ⊞ le_of_equal e ⊞ small ⊠ hv ⊞ k) (hlevel claims) refl

pub defect_values_are_small : DefectValuesAreSmall
defect_values_are_small norm states n defect little state x inside some small =
    let p = defect state in
    le_trans (value_within p x some small)
    (le_trans (sum_to_mono (length p) (λ k b. le_trans (le_of_equal (ap size
    (sym (at-list_of states (λ i. number_at (defect i) k) state (whole (pos 0)) inside))))
    (number_below_norm norm (list_of states (λ i. number_at (defect i) k)) state)))
    (little.total (length p)))
