-- The defect of a run that is cut at power n is small: of a tame system, and of a tame pair's second half.
use Rattle.std.specs.Prelude.{◌≡◌, ℕ, suc, pos, [], ◌∷◌, ◌+◌, ◌^◌, ◌<◌, ◌≤◌}
use Rattle.std.proofs.Common.{refl, ap, sym, ◌∙◌, arith, inl, inr}
use Rattle.std.proofs.lemmas.Bool.{cases_lt}
use mathlib.Core.Path.{ap₂}
use Rattle.frac_laws.specs.Fraction.{Fraction, over, whole, size, opposite, ◌+ℚ◌, ◌*ℚ◌, ◌-ℚ◌, ◌≤ℚ◌}
use Rattle.frac_laws.specs.Sums.{sum_to, power}
use Rattle.frac_laws.specs.Lists.{Vector, number_at, vector_at}
use Rattle.frac_laws.specs.Norms.{Norm, Sup, norm_of_vector}
use Rattle.frac_laws.proofs.FractionTerms.{ring, terms}
use Rattle.frac_laws.proofs.GeometricTails.{tail_of_eighths}
use Rattle.frac_laws.proofs.Linear.{linear, claims, natural, ◌⊞◌, ◌⊠◌, ◌·◌}
use Rattle.frac_laws.proofs.Norms.{norm-same, norm_below, norm_natural, size_zero}
use Rattle.frac_laws.proofs.Order.{le_trans, le_of_equal}
use Rattle.frac_laws.proofs.Sizes.{size-opposite, size_natural}
use Rattle.frac_laws.proofs.Sums.{sum_to_split, sum_to_longer, sum_to_zeros}
use Rattle.cell_laws.specs.Systems.{System, coefficient}
use Rattle.cell_laws.specs.Pairs.{CoupledPair, second_coefficient}
use Rattle.cell_laws.specs.Tame.{weighted, IsTame, IsTamePair}
use Rattle.cell_laws.specs.Recurrence.{convolved}
use Rattle.cell_laws.specs.DecayLaws.{norms, StartsWithin}
use Rattle.cell_laws.proofs.Decay.{eights_natural}
use Rattle.cell_laws.proofs.Recurrences.{coefficients_recur, second_coefficients_recur}
use Rattle.cell_laws.proofs.TameDecay.{coefficients_decay, second_halves_decay}
use Rattle.cell_laws.proofs.TameSums.{norm_of_none}
use Rattle.whole_laws.proofs.ListsByPlace.{at-list_of, past-list_of}
use Rattle.limit_laws.specs.WrittenEquations.{Polynomial}
use Rattle.limit_laws.specs.Defect.{defect_at, IsSmallDefect}
use Rattle.limit_laws.proofs.RightSides.{right_vector, right_vector-at, right_vectors_are_small}
use Rattle.limit_laws.proofs.RightSides.{second_right_vector, second_right_vector-at, second_right_vectors_are_small}
use Rattle.limit_laws.proofs.CutRuns.{cut, cut-is, cut-past, cut_held, convolved-cut}
use Rattle.limit_laws.proofs.ModulusForms.{eighths_inverse}

-- a sequence that obeys a recurrence below n and is nothing past n, with small right sides; the defect is what its
-- derivative leaves of them
module _ (norm : Norm) (n states : ℕ) (x right : ℕ → Vector) (defect : ℕ → Polynomial)
    (recur : (k i : ℕ) → k < n → whole (pos (suc k)) *ℚ number_at (x (suc k)) i ≡ number_at (right k) i)
    (past : (k : ℕ) → n < k → x k ≡ [])
    (small : (k : ℕ) → weighted (norms norm right) k ≤ℚ over (pos 15) 32)
    (is : (k i : ℕ) → i < states → number_at (defect i) k
    ≡ whole (pos (suc k)) *ℚ number_at (x (suc k)) i -ℚ number_at (right k) i) where
  nothing_below : (k i : ℕ) → k < n → i < states → number_at (defect i) k ≡ whole (pos 0)
  nothing_below k i low b = is k i b ∙ ap (λ z. z -ℚ number_at (right k) i) (recur k i low)
      ∙ ring (number_at (right k) i ∷ []) (hlevel terms) refl

  abbrev row : ℕ → Vector
  row k = defect_at states defect k

  abbrev v : ℕ → Fraction
  v k = norm_of_vector norm (row k)

  none_below : (k : ℕ) → k < n → v k ≡ whole (pos 0)
  none_below k low = norm-same norm (row k) [] (λ i. elim (cases_lt i states) [
    | inl b ↦ at-list_of states (λ i. number_at (defect i) k) i (whole (pos 0)) b ∙ nothing_below k i low b
    | inr b ↦ past-list_of states (λ i. number_at (defect i) k) i (whole (pos 0)) b
  ]) ∙ norm_of_none norm

  later : (k : ℕ) → n ≤ k → power (whole (pos 8)) k *ℚ v k ≤ℚ over (pos 15) 32
  later k high = combine (power (whole (pos 8)) k) (v k) (norm_of_vector norm (right k)) (eights_natural k)
      (norm_below norm (row k) (right k) (λ i. elim (cases_lt i states) [
        | inl b ↦ le_of_equal (ap size (at-list_of states (λ i. number_at (defect i) k) i (whole (pos 0)) b
            ∙ turned i b) ∙ size-opposite (number_at (right k) i))
        | inr b ↦ le_trans (le_of_equal (ap size (past-list_of states (λ i. number_at (defect i) k) i (whole (pos 0)) b)
            ∙ size_zero)) (size_natural (number_at (right k) i))
      ])) (small k)
    where
      turned : (i : ℕ) → i < states → number_at (defect i) k ≡ opposite (number_at (right k) i)
      turned i b = is k i b
          ∙ ap (λ u. whole (pos (suc k)) *ℚ number_at u i -ℚ number_at (right k) i) (past (suc k) (omega (arith, high)))
          ∙ ring (whole (pos (suc k)) ∷ number_at (right k) i ∷ []) (hlevel terms) refl

      combine : (e s r : Fraction) → whole (pos 0) ≤ℚ e → s ≤ℚ r → e *ℚ r ≤ℚ over (pos 15) 32
          → e *ℚ s ≤ℚ over (pos 15) 32
      combine e s r he h k = linear (e ∷ s ∷ r ∷ []) (he ⊠ h ⊞ k) (hlevel claims) refl

  in_all : (powers : ℕ) → sum_to powers v ≤ℚ over (pos 1) (8 ^ n)
  in_all powers = le_trans (sum_to_longer powers (n + powers) (λ k b. norm_natural norm (row k)) (omega arith))
      (le_trans (le_of_equal (sum_to_split n powers v ∙ ap (λ z. z +ℚ rest) (sum_to_zeros n none_below)
      ∙ ring (rest ∷ []) (hlevel terms) refl))
      (combine (power (whole (pos 8)) n) rest (over (pos 1) (8 ^ n)) (natural 1 (8 ^ n)) (eighths_inverse n)
      (tail_of_eighths (over (pos 15) 32) v n powers (natural 15 32) (λ i b. later (n + i) (omega arith)))))
    where
      rest : Fraction
      rest = sum_to powers (λ k. v (n + k))

      combine : (e s part : Fraction) → whole (pos 0) ≤ℚ part → e *ℚ part ≡ whole (pos 1)
          → whole (pos 7) *ℚ e *ℚ s ≤ℚ whole (pos 8) *ℚ over (pos 15) 32 → s ≤ℚ part
      combine e s part hp unit h = linear (e ∷ s ∷ part ∷ [])
          ((h ⊠ hp) ⊠ natural 1 7 ⊞ hp ⊠ natural 13 28 ⊞ s · sym unit) (hlevel claims) refl

  pub small_defect : IsSmallDefect norm states n defect
  small_defect = record { below = nothing_below; total = in_all }

-- a tame system's run from a start of norm at most 2
module _ (norm : Norm) (kappa40 : ℕ) (s : System) (u : Vector) (n : ℕ) (tame : IsTame norm kappa40 s)
    (start : norm_of_vector norm u ≤ℚ whole (pos 2)) where
  abbrev x : ℕ → Vector
  x = cut (coefficient s u) n

  recurs : (k i : ℕ) → k < n → whole (pos (suc k)) *ℚ number_at (x (suc k)) i ≡ number_at (right_vector s x k) i
  recurs k i low =
      ap (λ w. whole (pos (suc k)) *ℚ number_at w i) (cut-is (coefficient s u) n (suc k) (omega (arith, low)))
      ∙ coefficients_recur s u k i
      ∙ ap (λ z. z +ℚ number_at (vector_at s.free k) i)
      (sym (convolved-cut s.matrices (coefficient s u) n k i (omega (arith, low))))
      ∙ sym (right_vector-at s x k i)

  pub system_defect_is_small : (states : ℕ) (defect : ℕ → Polynomial)
      → ((k i : ℕ) → i < states → number_at (defect i) k ≡ whole (pos (suc k)) *ℚ number_at (x (suc k)) i
      -ℚ (convolved s.matrices x k i +ℚ number_at (vector_at s.free k) i))
      → IsSmallDefect norm states n defect
  system_defect_is_small states defect is = small_defect norm n states x (right_vector s x) defect recurs
      (cut-past (coefficient s u) n)
      (λ k. right_vectors_are_small norm kappa40 s x k tame
      (cut_held norm (coefficient s u) n k (coefficients_decay norm kappa40 s u tame start)))
      (λ k i b. is k i b
      ∙ ap (λ z. whole (pos (suc k)) *ℚ number_at (x (suc k)) i -ℚ z) (sym (right_vector-at s x k i)))

-- the second half of a tame pair's run from starts of norm at most 1
module _ (kappa40 : ℕ) (c : Fraction) (p : CoupledPair) (w z : Vector) (n : ℕ) (tame : IsTamePair kappa40 c p)
    (starts : StartsWithin (whole (pos 1)) w z) where
  abbrev first : ℕ → Vector
  first = cut (coefficient p.first w) n

  abbrev second : ℕ → Vector
  second = cut (second_coefficient p w z) n

  second_recurs : (k i : ℕ) → k < n
      → whole (pos (suc k)) *ℚ number_at (second (suc k)) i ≡ number_at (second_right_vector p first second k) i
  second_recurs k i low =
      ap (λ v. whole (pos (suc k)) *ℚ number_at v i) (cut-is (second_coefficient p w z) n (suc k) (omega (arith, low)))
      ∙ second_coefficients_recur p w z k i
      ∙ ap₂ (λ a b. a +ℚ (b +ℚ number_at (vector_at p.second.free k) i))
      (sym (convolved-cut p.second.matrices (second_coefficient p w z) n k i (omega (arith, low))))
      (sym (convolved-cut p.coupling (coefficient p.first w) n k i (omega (arith, low))))
      ∙ sym (second_right_vector-at p first second k i)

  pub pair_defect_is_small : (states : ℕ) (defect : ℕ → Polynomial)
      → ((k i : ℕ) → i < states → number_at (defect i) k ≡ whole (pos (suc k)) *ℚ number_at (second (suc k)) i
      -ℚ (convolved p.second.matrices second k i
      +ℚ (convolved p.coupling first k i +ℚ number_at (vector_at p.second.free k) i)))
      → IsSmallDefect Sup states n defect
  pair_defect_is_small states defect is = small_defect Sup n states second (second_right_vector p first second) defect
      second_recurs (cut-past (second_coefficient p w z) n)
      (λ k. second_right_vectors_are_small kappa40 c p first second k tame
      (cut_held Sup (coefficient p.first w) n k (coefficients_decay Sup kappa40 p.first w tame.first
      (le_trans starts.0 (linear [] (natural 1 1) (hlevel claims) refl))))
      (cut_held Sup (second_coefficient p w z) n k (second_halves_decay kappa40 c p w z tame starts)))
      (λ k i b. is k i b
      ∙ ap (λ y. whole (pos (suc k)) *ℚ number_at (second (suc k)) i -ℚ y)
      (sym (second_right_vector-at p first second k i)))
