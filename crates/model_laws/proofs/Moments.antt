-- The run of both moments.
use Rattle.std.specs.Prelude.{◌≡◌, ℕ, zero, suc, ◌-◌, pos, [], ◌∷◌, refl}
use Rattle.std.proofs.Common.{ap, ◌∙◌}
use Rattle.frac_laws.specs.Fraction.{Fraction, whole, opposite, ◌+ℚ◌, ◌*ℚ◌}
use Rattle.frac_laws.specs.Sums.{sum_to}
use Rattle.frac_laws.specs.Lists.{Vector, number_at, add_lists}
use Rattle.frac_laws.proofs.FractionTerms.{ring, terms}
use Rattle.frac_laws.proofs.Sums.{sum_to_zeros}
use Rattle.cell_laws.specs.Systems.{coefficient, taylor_value}
use Rattle.cell_laws.specs.Pairs.{CoupledPair, second_coefficient, second_taylor_value}
use Rattle.cell_laws.proofs.Recurrences.{second_taylor_value_sums}
use Rattle.model_specs.specs.Cells.{CellCurves, Backward, cells_of_32, cell_curves}
use Rattle.model_specs.specs.Systems.{interest_at, intensity_at, sojourn_rate_at, leaving_at}
use Rattle.model_specs.specs.Systems.{first_payment_at}
use Rattle.model_specs.specs.Systems.{second_payment_at, sum_paid_at, thiele_system, norberg_pair}
use Rattle.model_specs.specs.Runs.{Moments, month_back, moments_month_back, moments_before_term}
use Rattle.model_specs.specs.Runs.{before_lumps, lump_vector}
use Rattle.model_laws.specs.MomentLaws.{FirstMomentsAgree}
use Rattle.model_laws.proofs.CellEquations.{norberg_pair_solves}
use Rattle.model_laws.proofs.FlatCells.{IsFlatCell, none_of}

-- over a month the first moments of both are those of the first half alone
pub month-first : (pair : ℕ → CoupledPair) (n cells : ℕ) (v : Moments)
    → (moments_month_back pair n cells v).first ≡ month_back (λ cell. (pair cell).first) n cells v.first
month-first pair n zero v = refl
month-first pair n (suc cells) v = month-first pair n cells (record {
  first = taylor_value (pair cells).first v.first n;
  second = second_taylor_value (pair cells) v.first v.second n;
})

pub first_moments_agree : FirstMomentsAgree
first_moments_agree product plan n zero = refl
first_moments_agree product plan n (suc k) =
    month-first (λ cell. norberg_pair (cell_curves (cells_of_32 Backward) product plan (product.months - suc k) cell))
    n 32 (before_lumps product plan (suc (product.months - suc k)) (moments_before_term product plan n k))
    ∙ ap (λ v. month_back (λ cell. thiele_system
    (cell_curves (cells_of_32 Backward) product plan (product.months - suc k) cell)) n 32
    (add_lists v (lump_vector product plan (suc (product.months - suc k))))) (first_moments_agree product plan n k)

-- a cell without interest, transitions and payments leaves the second moment as it is
module _ (cell : CellCurves) (flat : IsFlatCell cell (whole (pos 0))) (start second : Vector) where
  abbrev z : ℕ → Fraction
  z k = number_at (second_coefficient (norberg_pair cell) start second k) 0

  rate-none : (m : ℕ) → sojourn_rate_at cell 0 m ≡ whole (pos 0)
  rate-none zero = flat.rate
  rate-none (suc m) = flat.constant m

  leaving-none : (m : ℕ) → leaving_at cell 0 m ≡ whole (pos 0)
  leaving-none m = sum_to_zeros cell.states (λ j b. flat.intensity 0 j m)

  first-none : (j k : ℕ) → first_payment_at cell 0 j k ≡ whole (pos 0)
  first-none j k = sum_to_zeros (suc k) (λ m b. rw (flat.intensity 0 j m)
      (ring (sum_paid_at cell 0 j (k - m) ∷ []) (hlevel terms) refl))

  second-none : (j k : ℕ) → second_payment_at cell 0 j k ≡ whole (pos 0)
  second-none j k = sum_to_zeros (suc k) (λ m b. rw (first-none j m)
      (ring (sum_paid_at cell 0 j (k - m) ∷ []) (hlevel terms) refl))

  power-none : (m : ℕ) (v w : ℕ → Fraction)
      → opposite (whole (pos 2) *ℚ interest_at cell m +ℚ leaving_at cell 0 m) *ℚ v 0
      +ℚ whole (pos 2) *ℚ sojourn_rate_at cell 0 m *ℚ w 0
      +ℚ sum_to cell.states (λ j. intensity_at cell 0 j m *ℚ v j
      +ℚ whole (pos 2) *ℚ first_payment_at cell 0 j m *ℚ w j) ≡ whole (pos 0)
  power-none m v w = rw (
    flat.interest m,
    leaving-none m,
    rate-none m,
    sum_to_zeros cell.states {f = λ j. intensity_at cell 0 j m *ℚ v j
        +ℚ whole (pos 2) *ℚ first_payment_at cell 0 j m *ℚ w j}
        (λ j b. rw (first-none j m, flat.intensity 0 j m) (ring (v j ∷ w j ∷ []) (hlevel terms) refl)),
  )
      (ring (v 0 ∷ w 0 ∷ []) (hlevel terms) refl)

  next-none : (k : ℕ) → z (suc k) ≡ whole (pos 0)
  next-none k = none_of k (z (suc k)) (norberg_pair_solves cell start second flat.quintic k 0 flat.some
      ∙ rw (
        sum_to_zeros (suc k) (λ m b. power-none m
            (λ j. number_at (second_coefficient (norberg_pair cell) start second (k - m)) j)
            (λ j. number_at (coefficient (thiele_system cell) start (k - m)) j)),
        sum_to_zeros cell.states (λ j b. second-none j k),
      ) (ring [] (hlevel terms) refl))

  total-keeps : (n : ℕ) → sum_to (suc n) z ≡ number_at second 0
  total-keeps zero = ring (number_at second 0 ∷ []) (hlevel terms) refl
  total-keeps (suc n) = rw (total-keeps n, next-none n) (ring (number_at second 0 ∷ []) (hlevel terms) refl)

  pub cell_keeps_second : (n : ℕ) → number_at (second_taylor_value (norberg_pair cell) start second n) 0
      ≡ number_at second 0
  cell_keeps_second n = second_taylor_value_sums (norberg_pair cell) start second n 0 ∙ total-keeps n

-- and so does a month of such cells
pub month_keeps_second : (pair : ℕ → CoupledPair) (n cells : ℕ)
    → ((cell : ℕ) (w v : Vector) → number_at (second_taylor_value (pair cell) w v n) 0 ≡ number_at v 0)
    → (v : Moments) → number_at (moments_month_back pair n cells v).second 0 ≡ number_at v.second 0
month_keeps_second pair n zero keeps v = refl
month_keeps_second pair n (suc cells) keeps v =
    month_keeps_second pair n cells keeps (record {
      first = taylor_value (pair cells).first v.first n;
      second = second_taylor_value (pair cells) v.first v.second n;
    }) ∙ keeps cells v.first v.second
