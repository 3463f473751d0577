-- The errors of a rounded run beside the exact one: their recurrence and their total.
use Rattle.std.specs.Prelude.{◌≡◌, ℕ, suc, pos, List, [], ◌∷◌, ◌<◌}
use Rattle.std.proofs.Common.{refl, ap, sym, ◌∙◌}
use mathlib.Core.Path.{ap₂}
use Rattle.frac_laws.specs.Fraction.{Fraction, over, whole, ◌+ℚ◌, ◌*ℚ◌, ◌-ℚ◌, ◌≤ℚ◌}
use Rattle.frac_laws.specs.Sums.{sum_to}
use Rattle.frac_laws.specs.Convolution.{convolution}
use Rattle.frac_laws.specs.Lists.{Vector, Matrix, SameNumbers, number_at, add_lists, scale_list}
use Rattle.frac_laws.specs.Lists.{subtract_lists}
use Rattle.frac_laws.specs.Norms.{Norm, Sup, Sum, norm_of_vector}
use Rattle.frac_laws.proofs.FractionTerms.{ring, terms}
use Rattle.frac_laws.proofs.Linear.{linear, equal, claims, natural, ◌⊞◌, ◌⊠◌}
use Rattle.frac_laws.proofs.Order.{le_refl, le_trans, le_of_equal}
use Rattle.frac_laws.proofs.Sizes.{size_of_natural}
use Rattle.frac_laws.proofs.Signs.{sum_natural}
use Rattle.frac_laws.proofs.Sums.{sum_to_add}
use Rattle.frac_laws.proofs.Convolutions.{convolution_total_le}
use Rattle.frac_laws.proofs.Vectors.{number_at-add_lists, number_at-scale_list, number_at-subtract_lists}
use Rattle.frac_laws.proofs.Norms.{norm_natural, norm-same, norm-add_lists, norm-scale_list}
use Rattle.cell_laws.specs.Driven.{IsNatural, IsDriven}
use Rattle.cell_laws.specs.ScalarLaws.{multiplied}
use Rattle.cell_laws.specs.Recurrence.{convolved}
use Rattle.cell_laws.specs.DecayLaws.{norms}
use Rattle.cell_laws.specs.ErrorLaws.{distance}
use Rattle.cell_laws.specs.Solutions.{Solves}
use Rattle.cell_laws.proofs.Totals.{driven_totals_at_32}
use Rattle.step_laws.proofs.Images.{images, number_at-images, changes, stored_factors, changes_natural}
use Rattle.step_laws.proofs.Images.{stored_factors_natural, images_are_near}
use Rattle.step_laws.proofs.Halves.{halved, halved_natural, halved_convolution, halved_total, IsShort}
use Rattle.step_laws.proofs.Residues.{residue, number_at-residue}

-- exact coefficients y of a run with the right sides f up to n, and others z of a stored run with the right
-- sides h, whose recurrence leaves at power k a rest of at most k + 1 times rho_k
pub record RunsBeside (norm : Norm) (n : ℕ) (exact stored : List Matrix) (f h y z : ℕ → Vector)
    (rho : ℕ → Fraction) : Type 0 where
  pub solves : Solves n exact f y
  pub leaves : (k : ℕ) → k < n → norm_of_vector norm (residue stored h z k) ≤ℚ whole (pos (suc k)) *ℚ rho k
  pub starts : SameNumbers (y 0) (z 0)

module _ (norm : Norm) (n : ℕ) (exact stored : List Matrix) (f h y z : ℕ → Vector) (rho : ℕ → Fraction)
    (both : RunsBeside norm n exact stored f h y z rho) where
  -- E_k
  abbrev pub errors : ℕ → Fraction
  errors k = distance norm (y k) (z k)

  pub no_first_error : errors 0 ≤ℚ whole (pos 0)
  no_first_error = le_trans (le_of_equal (norm-same norm (subtract_lists (y 0) (z 0)) [] (λ i.
      number_at-subtract_lists (y 0) (z 0) i ∙ ap (λ t. t -ℚ number_at (z 0) i) (both.starts i)
      ∙ ring (number_at (z 0) i ∷ []) (hlevel terms) refl))) (nothing norm)
    where
      nothing : (norm : Norm) → norm_of_vector norm [] ≤ℚ whole (pos 0)
      nothing Sup = le_refl _
      nothing Sum = le_refl _

  module _ (k : ℕ) (b : k < n) where
    -- what (k + 1) (y_(k+1) - z_(k+1)) is made of
    abbrev parts : Vector
    parts = add_lists (subtract_lists (images exact y k) (images stored z k))
        (add_lists (subtract_lists (f k) (h k)) (residue stored h z k))

    parts_are : SameNumbers (scale_list (whole (pos (suc k))) (subtract_lists (y (suc k)) (z (suc k)))) parts
    parts_are i = number_at-scale_list (whole (pos (suc k))) (subtract_lists (y (suc k)) (z (suc k))) i
        ∙ ap (λ t. whole (pos (suc k)) *ℚ t) (number_at-subtract_lists (y (suc k)) (z (suc k)) i)
        ∙ balance (whole (pos (suc k))) (number_at (y (suc k)) i) (number_at (z (suc k)) i)
        (convolved exact y k i) (convolved stored z k i) (number_at (f k) i) (number_at (h k) i)
        (both.solves k i b)
        ∙ sym (number_at-add_lists (subtract_lists (images exact y k) (images stored z k))
        (add_lists (subtract_lists (f k) (h k)) (residue stored h z k)) i
        ∙ ap₂ ◌+ℚ◌ (number_at-subtract_lists (images exact y k) (images stored z k) i
        ∙ ap₂ ◌-ℚ◌ (number_at-images exact y k i) (number_at-images stored z k i))
        (number_at-add_lists (subtract_lists (f k) (h k)) (residue stored h z k) i
        ∙ ap₂ ◌+ℚ◌ (number_at-subtract_lists (f k) (h k) i) (number_at-residue stored h z k i)))
      where
        balance : (n u v a c g r : Fraction) → n *ℚ u ≡ a +ℚ g
            → n *ℚ (u -ℚ v) ≡ (a -ℚ c) +ℚ ((g -ℚ r) +ℚ ((c +ℚ r) -ℚ n *ℚ v))
        balance n u v a c g r e = equal (n ∷ u ∷ v ∷ a ∷ c ∷ g ∷ r ∷ []) e (hlevel claims) refl

    pub errors_recur : whole (pos (suc k)) *ℚ errors (suc k)
        ≤ℚ convolution (stored_factors norm exact stored) errors k
        +ℚ (convolution (changes norm exact stored) (norms norm y) k
        +ℚ distance norm (f k) (h k) +ℚ whole (pos (suc k)) *ℚ rho k)
    errors_recur = join (whole (pos (suc k)) *ℚ errors (suc k)) (norm_of_vector norm parts)
        (distance norm (images exact y k) (images stored z k))
        (norm_of_vector norm (add_lists (subtract_lists (f k) (h k)) (residue stored h z k)))
        (distance norm (f k) (h k)) (norm_of_vector norm (residue stored h z k))
        (convolution (stored_factors norm exact stored) errors k)
        (convolution (changes norm exact stored) (norms norm y) k) (whole (pos (suc k)) *ℚ rho k) scaled
        (norm-add_lists norm (subtract_lists (images exact y k) (images stored z k))
        (add_lists (subtract_lists (f k) (h k)) (residue stored h z k)))
        (norm-add_lists norm (subtract_lists (f k) (h k)) (residue stored h z k))
        (images_are_near norm exact stored y z k) (both.leaves k b)
      where
        scaled : whole (pos (suc k)) *ℚ errors (suc k) ≡ norm_of_vector norm parts
        scaled = sym (norm-scale_list norm (whole (pos (suc k))) (subtract_lists (y (suc k)) (z (suc k)))
            ∙ ap (λ t. t *ℚ errors (suc k)) (size_of_natural (natural (suc k) 1)))
            ∙ norm-same norm _ _ parts_are

        join : (e p q r g l c v s : Fraction) → e ≡ p → p ≤ℚ q +ℚ r → r ≤ℚ g +ℚ l → q ≤ℚ c +ℚ v
            → l ≤ℚ s → e ≤ℚ c +ℚ (v +ℚ g +ℚ s)
        join e p q r g l c v s h1 h2 h3 h4 h5 =
            linear (e ∷ p ∷ q ∷ r ∷ g ∷ l ∷ c ∷ v ∷ s ∷ [])
            (le_of_equal h1 ⊞ h2 ⊞ h3 ⊞ h4 ⊞ h5) (hlevel claims) refl

  -- the total of the errors, where the right sides are apart by at most k + 1 times psi_k
  module _ (r most right rests : Fraction) (psi : ℕ → Fraction) (short : IsShort r (changes norm exact stored))
      (factors : sum_to n (stored_factors norm exact stored) ≤ℚ over (pos 1) 32)
      (sizes : sum_to n (norms norm y) ≤ℚ most)
      (apart : (k : ℕ) → k < n → distance norm (f k) (h k) ≤ℚ multiplied psi k)
      (rights : sum_to n psi ≤ℚ right) (left : sum_to n rho ≤ℚ rests) where
    -- what drives the errors, divided by k + 1
    abbrev defects : ℕ → Fraction
    defects k = convolution (halved (changes norm exact stored)) (norms norm y) k +ℚ psi k +ℚ rho k

    natural_sizes : IsNatural (norms norm y)
    natural_sizes k = norm_natural norm (y k)

    errors_are_driven : IsDriven n (stored_factors norm exact stored) (multiplied defects) errors
    errors_are_driven = record {
      factors = stored_factors_natural norm exact stored;
      values = λ k. norm_natural norm (subtract_lists (y k) (z k));
      step = λ k b. join (whole (pos (suc k))) (errors (suc k))
          (convolution (stored_factors norm exact stored) errors k)
          (convolution (changes norm exact stored) (norms norm y) k)
          (convolution (halved (changes norm exact stored)) (norms norm y) k) (distance norm (f k) (h k))
          (psi k) (rho k) (errors_recur k b)
          (halved_convolution (changes norm exact stored) (norms norm y)
          (changes_natural norm exact stored) natural_sizes k) (apart k b);
    }
      where
        join : (n e c v w g p s : Fraction) → n *ℚ e ≤ℚ c +ℚ (v +ℚ g +ℚ n *ℚ s) → v ≤ℚ n *ℚ w → g ≤ℚ n *ℚ p
            → n *ℚ e ≤ℚ c +ℚ n *ℚ (w +ℚ p +ℚ s)
        join n e c v w g p s h1 h2 h3 =
            linear (n ∷ e ∷ c ∷ v ∷ w ∷ g ∷ p ∷ s ∷ []) (h1 ⊞ h2 ⊞ h3) (hlevel claims) refl

    defects_total : sum_to n defects ≤ℚ over (pos 13) 2 *ℚ r *ℚ most +ℚ right +ℚ rests
    defects_total = join (sum_to n defects)
        (sum_to n (convolution (halved (changes norm exact stored)) (norms norm y)))
        (sum_to n psi) (sum_to n rho) (sum_to n (halved (changes norm exact stored)))
        (sum_to n (norms norm y))
        (sum_to_add n (λ k. convolution (halved (changes norm exact stored)) (norms norm y) k +ℚ psi k) rho
        ∙ ap (λ t. t +ℚ sum_to n rho)
        (sum_to_add n (convolution (halved (changes norm exact stored)) (norms norm y)) psi))
        (convolution_total_le n
        (halved_natural (changes norm exact stored) (changes_natural norm exact stored)) natural_sizes)
        (halved_total r (changes norm exact stored) short n) sizes rights left
        (sum_natural n (norms norm y) natural_sizes)
        (le_trans (changes_natural norm exact stored 0) (short.small 0))
      where
        join : (t c p s a v : Fraction) → t ≡ (c +ℚ p) +ℚ s → c ≤ℚ a *ℚ v
            → a ≤ℚ over (pos 13) 2 *ℚ r → v ≤ℚ most → p ≤ℚ right → s ≤ℚ rests → whole (pos 0) ≤ℚ v
            → whole (pos 0) ≤ℚ r → t ≤ℚ over (pos 13) 2 *ℚ r *ℚ most +ℚ right +ℚ rests
        join t c p s a v e h1 h2 h3 h4 h5 hv hr =
            linear (t ∷ c ∷ p ∷ s ∷ a ∷ v ∷ r ∷ most ∷ right ∷ rests ∷ [])
            (le_of_equal e ⊞ h1 ⊞ h2 ⊠ hv ⊞ natural 13 2 ⊠ (hr ⊠ h3) ⊞ h4 ⊞ h5) (hlevel claims) refl

    pub errors_total : whole (pos 63) *ℚ sum_to n (λ k. errors (suc k)) ≤ℚ whole (pos 64) *ℚ
        (over (pos 13) 2 *ℚ r *ℚ most +ℚ right +ℚ rests)
    errors_total = join (sum_to n (λ k. errors (suc k))) (errors 0) (sum_to n defects) _
        (driven_totals_at_32 n (stored_factors norm exact stored) defects errors errors_are_driven factors)
        no_first_error defects_total
      where
        join : (s e t x : Fraction) → whole (pos 63) *ℚ s ≤ℚ whole (pos 2) *ℚ e +ℚ whole (pos 64) *ℚ t
            → e ≤ℚ whole (pos 0) → t ≤ℚ x → whole (pos 63) *ℚ s ≤ℚ whole (pos 64) *ℚ x
        join s e t x h1 h2 h3 = linear (s ∷ e ∷ t ∷ x ∷ [])
            (h1 ⊞ natural 2 1 ⊠ h2 ⊞ natural 64 1 ⊠ h3) (hlevel claims) refl
