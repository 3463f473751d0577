-- A whole month as one cell: its coefficients are those of the last cell times powers, so its Taylor value is the
-- polynomial's value.
use Rattle.std.specs.Prelude.{◌≡◌, ℕ, zero, suc, pos, List, [], ◌∷◌, length, ◌<◌, ◌≤◌, ◌+◌, ◌-◌}
use Rattle.std.proofs.Common.{refl, ap, sym, ◌∙◌, inl, inr, arith}
use Rattle.std.proofs.lemmas.Bool.{cases_lt}
use Rattle.std.proofs.lemmas.List.{get_or_past}
use mathlib.Core.Path.{ap₂, fun_ext}
use Rattle.frac_laws.specs.Fraction.{Fraction, whole, ◌+ℚ◌, ◌*ℚ◌}
use Rattle.frac_laws.specs.Sums.{sum_to, power}
use Rattle.frac_laws.specs.Convolution.{convolution}
use Rattle.frac_laws.specs.Lists.{Vector, number_at, vector_at}
use Rattle.frac_laws.specs.Polynomials.{value_at}
use Rattle.frac_laws.proofs.FractionTerms.{ring, terms}
use Rattle.frac_laws.proofs.Powers.{power_add}
use Rattle.frac_laws.proofs.Order.{le_antisym, le_of_equal}
use Rattle.frac_laws.proofs.Sums.{sum_to_ext, sum_to_first, sum_to_scale}
use Rattle.cell_laws.specs.Systems.{System, coefficient, taylor_value}
use Rattle.cell_laws.specs.Recurrence.{convolved}
use Rattle.cell_laws.proofs.Cancelling.{cancel_suc}
use Rattle.cell_laws.proofs.Dimensions.{taylor_values_keep_dimension}
use Rattle.cell_laws.proofs.Recurrences.{coefficients_recur, taylor_value_sums}
use Rattle.whole_laws.proofs.ListsByPlace.{at-list_of, length-list_of}
use Rattle.whole_laws.proofs.Numbers.{at_most_or_next}
use Rattle.polynomial_runs.specs.PolynomialSystems.{HasPolynomials}
use Rattle.polynomial_runs.specs.FarDecay.{run_polynomial}
use Rattle.polynomial_runs.specs.MonthPolynomials.{IsMagnified, MonthsAreValues}
use Rattle.polynomial_runs.proofs.Tables.{values-at, values-past, convolved-is}

-- k + 1 may be cancelled
same_times_suc : (k : ℕ) (x y : Fraction) → whole (pos (suc k)) *ℚ x ≡ whole (pos (suc k)) *ℚ y → x ≡ y
same_times_suc k x y h = le_antisym (cancel_suc k x y (le_of_equal h)) (cancel_suc k y x (le_of_equal (sym h)))

-- the value of a polynomial as a sum over its places
value_at-sum : (p : List Fraction) (x : Fraction)
    → value_at p x ≡ sum_to (length p) (λ k. power x k *ℚ number_at p k)
value_at-sum [] x = refl
value_at-sum (c ∷ p) x = ap (λ z. c +ℚ x *ℚ z) (value_at-sum p x)
    ∙ ring (c ∷ x ∷ sum_to (length p) (λ k. power x k *ℚ number_at p k) ∷ []) (hlevel terms) refl
    ∙ ap (λ z. whole (pos 1) *ℚ c +ℚ z) (sym (sum_to_scale (length p) x (λ k. power x k *ℚ number_at p k))
    ∙ ap (sum_to (length p)) (fun_ext (λ k. ring (x ∷ power x k ∷ number_at p k ∷ []) (hlevel terms) refl)))
    ∙ sym (sum_to_first (length p) (λ k. power x k *ℚ number_at (c ∷ p) k))

-- a convolution of magnified sequences
pub magnified : (w : Fraction) (a b f h : ℕ → Fraction) (k : ℕ) → ((m : ℕ) → b m ≡ power w (suc m) *ℚ a m)
    → ((j : ℕ) → j ≤ k → h j ≡ power w j *ℚ f j)
    → convolution b h k ≡ power w (suc k) *ℚ convolution a f k
magnified w a b f h k ea eh = sum_to_ext (suc k) (λ m c. each m (omega arith))
    ∙ sum_to_scale (suc k) (power w (suc k)) (λ m. a m *ℚ f (k - m))
  where
    each : (m : ℕ) → m ≤ k → b m *ℚ h (k - m) ≡ power w (suc k) *ℚ (a m *ℚ f (k - m))
    each m c = ap₂ ◌*ℚ◌ (ea m) (eh (k - m) (omega arith))
        ∙ ring (w ∷ power w m ∷ a m ∷ power w (k - m) ∷ f (k - m) ∷ []) (hlevel terms) refl
        ∙ ap (λ z. w *ℚ z *ℚ (a m *ℚ f (k - m))) (sym (power_add w m (k - m))
        ∙ (let e : m + (k - m) ≡ k = omega arith in ap (power w) e))

module _ (s month : System) (d : ℕ) (e l : ℕ → ℕ → List Fraction) (g h : ℕ → List Fraction)
    (w : Fraction) (y : Vector) (n : ℕ) (one : HasPolynomials s d e g) (all : HasPolynomials month d l h)
    (me : (i j : ℕ) → IsMagnified w (e i j) (l i j)) (mg : (i : ℕ) → IsMagnified w (g i) (h i)) where
  abbrev Magnifies : ℕ → Type 0
  Magnifies k = (i : ℕ) → i < d → number_at (coefficient month y k) i ≡ power w k *ℚ number_at (coefficient s y k) i

  first : Magnifies 0
  first i low = ring (number_at y i ∷ []) (hlevel terms) refl

  step : (k : ℕ) → ((j : ℕ) → j ≤ k → Magnifies j) → Magnifies (suc k)
  step k so_far i low = same_times_suc k _ _ (coefficients_recur month y k i
      ∙ ap₂ ◌+ℚ◌ (convolved-is month d l h all (coefficient month y) k i low
      ∙ sum_to_ext d (λ j b. magnified w (number_at (e i j)) (number_at (l i j))
      (λ m. number_at (coefficient s y m) j) (λ m. number_at (coefficient month y m) j) k (me i j)
      (λ m c. so_far m c j b))
      ∙ sum_to_scale d (power w (suc k))
      (λ j. convolution (number_at (e i j)) (λ m. number_at (coefficient s y m) j) k)
      ∙ ap (λ z. power w (suc k) *ℚ z) (sym (convolved-is s d e g one (coefficient s y) k i low)))
      (all.frees k i low ∙ mg i k ∙ ap (λ z. power w (suc k) *ℚ z) (sym (one.frees k i low)))
      ∙ ring (power w k ∷ w ∷ convolved s.matrices (coefficient s y) k i ∷ number_at (vector_at s.free k) i ∷ [])
      (hlevel terms) refl
      ∙ ap (λ z. power w (suc k) *ℚ z) (sym (coefficients_recur s y k i))
      ∙ ring (power w (suc k) ∷ whole (pos (suc k)) ∷ number_at (coefficient s y (suc k)) i ∷ [])
      (hlevel terms) refl)

  upto : (m j : ℕ) → j ≤ m → Magnifies j
  upto zero j b = let c : j ≡ 0 = omega arith in rw c first
  upto (suc m) j b = elim (at_most_or_next j m b) [ inl c ↦ upto m j c | inr c ↦ rw c (step m (upto m)) ]

  value : (i : ℕ) → i < d → number_at (taylor_value month y n) i ≡ value_at (run_polynomial s y n i) w
  value i low = taylor_value_sums month y n i
      ∙ sum_to_ext (suc n) (λ k b. upto k k (omega arith) i low
      ∙ ap (λ z. power w k *ℚ z) (sym (at-list_of (suc n) (λ k. number_at (coefficient s y k) i) k
      (whole (pos 0)) b)))
      ∙ sym (value_at-sum (run_polynomial s y n i) w
      ∙ ap (λ m. sum_to m (λ k. power w k *ℚ number_at (run_polynomial s y n i) k))
      (length-list_of (suc n) (λ k. number_at (coefficient s y k) i)))

pub months_are_values : MonthsAreValues
months_are_values s month d e l g h w y n one all me mg short i = elim (cases_lt i d) [
  | inl low ↦ value s month d e l g h w y n one all me mg i low
      ∙ sym (values-at d (run_polynomial s y n) w i low)
  | inr high ↦ get_or_past (taylor_value month y n) i (whole (pos 0)) (past i high)
      ∙ sym (values-past d (run_polynomial s y n) w i high)
]
  where
    past : (i : ℕ) → d ≤ i → length (taylor_value month y n) ≤ i
    past i high = let b : length (taylor_value month y n) ≤ d = rw (sym all.dimension)
        (taylor_values_keep_dimension month y n all.keeps (rw all.dimension short)) in omega arith
