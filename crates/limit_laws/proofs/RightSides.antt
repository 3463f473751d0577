-- The right sides of the recurrences of tame systems and pairs, as vectors, at sequences whose norms stay within
-- 2 / 8^k: 8^k times their norm is at most 15/32.
use Rattle.std.specs.Prelude.{◌≡◌, ℕ, suc, pos, List, [], ◌∷◌, ◌-◌}
use Rattle.std.proofs.Common.{refl, ap, ◌∙◌}
use mathlib.Core.Path.{ap₂}
use Rattle.frac_laws.specs.Fraction.{Fraction, over, whole, ◌+ℚ◌, ◌*ℚ◌, ◌≤ℚ◌}
use Rattle.frac_laws.specs.Sums.{power}
use Rattle.frac_laws.specs.Convolution.{convolution}
use Rattle.frac_laws.specs.Lists.{Vector, Matrix, number_at, vector_at, matrix_at, add_lists, image}
use Rattle.frac_laws.specs.Norms.{Norm, Sup, norm_of_vector}
use Rattle.frac_laws.proofs.Linear.{linear, claims, natural, ◌⊞◌, ◌⊠◌}
use Rattle.frac_laws.proofs.Norms.{norm-add_lists, norm-image}
use Rattle.frac_laws.proofs.Order.{le_refl, le_trans, add_mono}
use Rattle.frac_laws.proofs.Sums.{sum_to_mono}
use Rattle.frac_laws.proofs.Vectors.{number_at-add_lists}
use Rattle.cell_laws.specs.Systems.{System}
use Rattle.cell_laws.specs.Pairs.{CoupledPair}
use Rattle.cell_laws.specs.Tame.{matrix_norm_at, vector_norm_at, weighted, IsTame, IsTamePair}
use Rattle.cell_laws.specs.Recurrence.{convolved}
use Rattle.cell_laws.specs.DecayLaws.{norms}
use Rattle.cell_laws.specs.Solutions.{IsHeldTo, right_side}
use Rattle.cell_laws.proofs.Decay.{eights_natural}
use Rattle.cell_laws.proofs.Solutions.{tame_right_sides_are_small, second_right_sides_are_small}
use Rattle.cell_laws.proofs.VectorSums.{norm-sum_over}
use Rattle.step_laws.proofs.Images.{images, number_at-images}

-- the norm of A_0 x_k + .. + A_k x_0
images_norm : (norm : Norm) (matrices : List Matrix) (x : ℕ → Vector) (k : ℕ)
    → norm_of_vector norm (images matrices x k) ≤ℚ convolution (matrix_norm_at norm matrices) (norms norm x) k
images_norm norm matrices x k = le_trans (norm-sum_over norm (suc k) (λ m. image (matrix_at matrices m) (x (k - m))))
    (sum_to_mono (suc k) (λ m b. norm-image norm (matrix_at matrices m) (x (k - m))))

-- the right side of a system: the images and the free vector
abbrev pub right_vector : System → (ℕ → Vector) → ℕ → Vector
right_vector s x k = add_lists (images s.matrices x k) (vector_at s.free k)

pub right_vector-at : (s : System) (x : ℕ → Vector) (k i : ℕ)
    → number_at (right_vector s x k) i ≡ convolved s.matrices x k i +ℚ number_at (vector_at s.free k) i
right_vector-at s x k i = number_at-add_lists (images s.matrices x k) (vector_at s.free k) i
    ∙ ap (λ z. z +ℚ number_at (vector_at s.free k) i) (number_at-images s.matrices x k i)

pub right_vectors_are_small : (norm : Norm) (kappa40 : ℕ) (s : System) (x : ℕ → Vector) (k : ℕ) → IsTame norm kappa40 s
    → IsHeldTo k (norms norm x) → weighted (norms norm (right_vector s x)) k ≤ℚ over (pos 15) 32
right_vectors_are_small norm kappa40 s x k tame held =
    combine (power (whole (pos 8)) k) (norm_of_vector norm (right_vector s x k)) (right_side norm s (norms norm x) k)
    (eights_natural k)
    (le_trans (norm-add_lists norm (images s.matrices x k) (vector_at s.free k))
    (add_mono (images_norm norm s.matrices x k) (le_refl _)))
    (tame_right_sides_are_small norm kappa40 s (norms norm x) k tame held)
  where
    combine : (e a r : Fraction) → whole (pos 0) ≤ℚ e → a ≤ℚ r → e *ℚ r ≤ℚ over (pos 1) 4 → e *ℚ a ≤ℚ over (pos 15) 32
    combine e a r he h k = linear (e ∷ a ∷ r ∷ []) (he ⊠ h ⊞ k ⊞ natural 7 32) (hlevel claims) refl

-- that of a pair's second half, which also takes images of the first half's coefficients w
abbrev pub second_right_vector : CoupledPair → (w z : ℕ → Vector) → ℕ → Vector
second_right_vector p w z k = add_lists (images p.second.matrices z k)
    (add_lists (images p.coupling w k) (vector_at p.second.free k))

pub second_right_vector-at : (p : CoupledPair) (w z : ℕ → Vector) (k i : ℕ)
    → number_at (second_right_vector p w z k) i ≡ convolved p.second.matrices z k i
    +ℚ (convolved p.coupling w k i +ℚ number_at (vector_at p.second.free k) i)
second_right_vector-at p w z k i =
    number_at-add_lists (images p.second.matrices z k) (add_lists (images p.coupling w k) (vector_at p.second.free k)) i
    ∙ ap₂ ◌+ℚ◌ (number_at-images p.second.matrices z k i)
    (number_at-add_lists (images p.coupling w k) (vector_at p.second.free k) i
    ∙ ap (λ y. y +ℚ number_at (vector_at p.second.free k) i) (number_at-images p.coupling w k i))

pub second_right_vectors_are_small : (kappa40 : ℕ) (c : Fraction) (p : CoupledPair) (w z : ℕ → Vector) (k : ℕ)
    → IsTamePair kappa40 c p → IsHeldTo k (norms Sup w) → IsHeldTo k (norms Sup z)
    → weighted (norms Sup (second_right_vector p w z)) k ≤ℚ over (pos 15) 32
second_right_vectors_are_small kappa40 c p w z k tame held held_too =
    combine (power (whole (pos 8)) k) (norm_of_vector Sup (second_right_vector p w z k))
    (norm_of_vector Sup (add_lists (images p.coupling w k) (vector_at p.second.free k)))
    (convolution (matrix_norm_at Sup p.second.matrices) (norms Sup z) k)
    (convolution (matrix_norm_at Sup p.coupling) (norms Sup w) k) (vector_norm_at Sup p.second.free k)
    (eights_natural k)
    (le_trans (norm-add_lists Sup (images p.second.matrices z k)
    (add_lists (images p.coupling w k) (vector_at p.second.free k)))
    (add_mono (images_norm Sup p.second.matrices z k) (le_refl _)))
    (le_trans (norm-add_lists Sup (images p.coupling w k) (vector_at p.second.free k))
    (add_mono (images_norm Sup p.coupling w k) (le_refl _)))
    (second_right_sides_are_small kappa40 c p (norms Sup w) (norms Sup z) k tame held held_too)
  where
    combine : (e a r x y g : Fraction) → whole (pos 0) ≤ℚ e → a ≤ℚ x +ℚ r → r ≤ℚ y +ℚ g
        → e *ℚ (x +ℚ y +ℚ g) ≤ℚ over (pos 15) 32 → e *ℚ a ≤ℚ over (pos 15) 32
    combine e a r x y g he h1 h2 k = linear (e ∷ a ∷ r ∷ x ∷ y ∷ g ∷ []) (he ⊠ h1 ⊞ he ⊠ h2 ⊞ k) (hlevel claims) refl
