-- What higher degrees add to a cell's Taylor value.
use Rattle.std.specs.Prelude.{◌≡◌, ℕ, suc, pos, [], ◌∷◌, ◌+◌, ◌≤◌}
use Rattle.std.proofs.Common.{refl, ap, sym, ◌∙◌, arith}
use Rattle.std.proofs.lemmas.Int.{ints}
use mathlib.Core.Path.{ap₂}
use Rattle.frac_laws.specs.Fraction.{Fraction, over, whole, ◌+ℚ◌, ◌*ℚ◌, ◌-ℚ◌, ◌≤ℚ◌}
use Rattle.frac_laws.specs.Sums.{sum_to, power}
use Rattle.frac_laws.specs.Lists.{Vector, number_at, scale_list, subtract_lists}
use Rattle.frac_laws.specs.Norms.{Norm, Sup, norm_of_vector}
use Rattle.frac_laws.proofs.FractionTerms.{ring, terms}
use Rattle.frac_laws.proofs.GeometricTails.{tail_of_eighths}
use Rattle.frac_laws.proofs.Linear.{linear, claims, natural, ◌⊞◌, ◌⊠◌}
use Rattle.frac_laws.proofs.Norms.{norm-same, norm-scale_list, norm_natural}
use Rattle.frac_laws.proofs.Order.{le_trans, le_of_equal}
use Rattle.frac_laws.proofs.Quotients.{whole_le}
use Rattle.frac_laws.proofs.Sizes.{size_of_natural}
use Rattle.frac_laws.proofs.Sums.{sum_to_ext, sum_to_split}
use Rattle.frac_laws.proofs.Vectors.{number_at-scale_list, number_at-subtract_lists}
use Rattle.cell_laws.specs.Systems.{coefficient, taylor_value}
use Rattle.cell_laws.specs.Pairs.{second_coefficient, second_taylor_value}
use Rattle.cell_laws.specs.Tame.{weighted}
use Rattle.cell_laws.specs.DecayLaws.{norms}
use Rattle.cell_laws.specs.ErrorLaws.{distance}
use Rattle.cell_laws.proofs.Decay.{eights_natural}
use Rattle.cell_laws.proofs.Recurrences.{coefficients_recur, second_coefficients_recur}
use Rattle.cell_laws.proofs.Recurrences.{taylor_value_sums, second_taylor_value_sums}
use Rattle.cell_laws.proofs.TameDecay.{coefficients_decay, second_halves_decay}
use Rattle.cell_laws.proofs.VectorSums.{sum_over, number_at-sum_over, norm-sum_over}
use Rattle.limit_laws.specs.CellTails.{LaterDegreesAddLittle, SecondLaterDegreesAddLittle}
use Rattle.limit_laws.proofs.RightSides.{right_vector, right_vector-at, right_vectors_are_small}
use Rattle.limit_laws.proofs.RightSides.{second_right_vector, second_right_vector-at, second_right_vectors_are_small}

-- 9 v is at most (k + 1) v for k from 8 on
ninth : (k : ℕ) (e v : Fraction) → 8 ≤ k → whole (pos 0) ≤ℚ e → whole (pos 0) ≤ℚ v
    → e *ℚ (whole (pos (suc k)) *ℚ v) ≤ℚ over (pos 15) 32 → e *ℚ v ≤ℚ over (pos 15) 288
ninth k e v above he hv h = combine (whole (pos (suc k))) (whole_le (omega (arith, ints, above))) h
  where
    combine : (c : Fraction) → whole (pos 9) ≤ℚ c → e *ℚ (c *ℚ v) ≤ℚ over (pos 15) 32 → e *ℚ v ≤ℚ over (pos 15) 288
    combine c nine h = linear (c ∷ e ∷ v ∷ []) (h ⊠ natural 1 9 ⊞ ((nine ⊠ hv) ⊠ he) ⊠ natural 1 9) (hlevel claims) refl

-- a sequence (k + 1) y_(k+1) = r_k whose right sides are at most (15/32) / 8^k, and its sums u and v to two degrees
module _ (norm : Norm) (y right : ℕ → Vector) (n more : ℕ) (above : 8 ≤ n)
    (recur : (k i : ℕ) → whole (pos (suc k)) *ℚ number_at (y (suc k)) i ≡ number_at (right k) i)
    (small : (k : ℕ) → weighted (norms norm right) k ≤ℚ over (pos 15) 32) (u v : Vector)
    (sums : (i : ℕ) → number_at u i ≡ sum_to (suc n) (λ k. number_at (y k) i))
    (later_sums : (i : ℕ) → number_at v i ≡ sum_to (suc (n + more)) (λ k. number_at (y k) i)) where
  -- they differ by the vectors between
  between : distance norm v u ≤ℚ sum_to more (λ i. norm_of_vector norm (y (suc (n + i))))
  between = le_trans
      (le_of_equal (norm-same norm (subtract_lists v u) (sum_over more (λ i. y (suc (n + i)))) numbers))
      (norm-sum_over norm more (λ i. y (suc (n + i))))
    where
      numbers : (i : ℕ) → number_at (subtract_lists v u) i ≡ number_at (sum_over more (λ i. y (suc (n + i)))) i
      numbers i = let e : suc (n + more) ≡ suc n + more = omega arith in
          number_at-subtract_lists v u i
          ∙ ap₂ ◌-ℚ◌ (later_sums i ∙ ap (λ m. sum_to m (λ k. number_at (y k) i)) e
          ∙ sum_to_split (suc n) more (λ k. number_at (y k) i)
          ∙ ap (λ z. sum_to (suc n) (λ k. number_at (y k) i) +ℚ z)
          (sum_to_ext more (λ j b. let place : suc n + j ≡ suc (n + j) = omega arith in
          ap (λ k. number_at (y k) i) place)))
          (sums i)
          ∙ ring (sum_to (suc n) (λ k. number_at (y k) i) ∷ sum_to more (λ j. number_at (y (suc (n + j))) i) ∷ [])
          (hlevel terms) refl
          ∙ sym (number_at-sum_over more (λ i. y (suc (n + i))) i)

  next_norm : (k : ℕ) → whole (pos (suc k)) *ℚ norm_of_vector norm (y (suc k)) ≡ norm_of_vector norm (right k)
  next_norm k =
      ap (λ c. c *ℚ norm_of_vector norm (y (suc k))) (sym (size_of_natural (natural (suc k) 1)))
      ∙ sym (norm-scale_list norm (whole (pos (suc k))) (y (suc k)))
      ∙ norm-same norm (scale_list (whole (pos (suc k))) (y (suc k))) (right k)
      (λ i. number_at-scale_list (whole (pos (suc k))) (y (suc k)) i ∙ recur k i)

  each : (i : ℕ) → power (whole (pos 8)) (n + i) *ℚ norm_of_vector norm (y (suc (n + i))) ≤ℚ over (pos 15) 288
  each i = ninth (n + i) (power (whole (pos 8)) (n + i)) (norm_of_vector norm (y (suc (n + i)))) (omega (arith, above))
      (eights_natural (n + i)) (norm_natural norm (y (suc (n + i))))
      (le_trans (le_of_equal (ap (λ z. power (whole (pos 8)) (n + i) *ℚ z) (next_norm (n + i)))) (small (n + i)))

  pub adds_little : power (whole (pos 8)) n *ℚ distance norm v u ≤ℚ over (pos 1) 8
  adds_little = combine (power (whole (pos 8)) n) (sum_to more (λ i. norm_of_vector norm (y (suc (n + i)))))
      (distance norm v u) (eights_natural n) between
      (tail_of_eighths (over (pos 15) 288) (λ k. norm_of_vector norm (y (suc k))) n more (natural 15 288)
      (λ i b. each i))
    where
      combine : (e s d : Fraction) → whole (pos 0) ≤ℚ e → d ≤ℚ s
          → whole (pos 7) *ℚ e *ℚ s ≤ℚ whole (pos 8) *ℚ over (pos 15) 288 → e *ℚ d ≤ℚ over (pos 1) 8
      combine e s d he less h = linear (e ∷ s ∷ d ∷ []) (he ⊠ less ⊞ h ⊠ natural 1 7) (hlevel claims) refl

pub later_degrees_add_little : LaterDegreesAddLittle
later_degrees_add_little norm kappa40 s y n more tame start above =
    let x = coefficient s y in
    adds_little norm x (right_vector s x) n more above
    (λ k i. coefficients_recur s y k i ∙ sym (right_vector-at s x k i))
    (λ k. right_vectors_are_small norm kappa40 s x k tame (λ j b. coefficients_decay norm kappa40 s y tame start j))
    (taylor_value s y n) (taylor_value s y (n + more)) (taylor_value_sums s y n) (taylor_value_sums s y (n + more))

pub second_later_degrees_add_little : SecondLaterDegreesAddLittle
second_later_degrees_add_little kappa40 c p w z n more tame starts above =
    let first = coefficient p.first w in
    let second = second_coefficient p w z in
    adds_little Sup second (second_right_vector p first second) n more above
    (λ k i. second_coefficients_recur p w z k i ∙ sym (second_right_vector-at p first second k i))
    (λ k. second_right_vectors_are_small kappa40 c p first second k tame
    (λ j b. coefficients_decay Sup kappa40 p.first w tame.first
    (le_trans starts.0 (linear [] (natural 1 1) (hlevel claims) refl)) j)
    (λ j b. second_halves_decay kappa40 c p w z tame starts j))
    (second_taylor_value p w z n) (second_taylor_value p w z (n + more)) (second_taylor_value_sums p w z n)
    (second_taylor_value_sums p w z (n + more))
