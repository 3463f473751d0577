-- A state that is never left, without interest and at a constant rate of paying: each cell adds what it pays, in every
-- degree from 1 on.
use Rattle.std.specs.Prelude.{◌≡◌, ℕ, zero, suc, ◌-◌, ◌<◌, pos, [], ◌∷◌, refl}
use Rattle.std.proofs.Common.{◌∙◌}
use Rattle.frac_laws.specs.Fraction.{Fraction, whole, opposite, ◌+ℚ◌, ◌*ℚ◌}
use Rattle.frac_laws.specs.Sums.{sum_to}
use Rattle.frac_laws.specs.Lists.{Vector, number_at}
use Rattle.frac_laws.proofs.FractionTerms.{ring, terms}
use Rattle.frac_laws.proofs.Sums.{sum_to_zeros}
use Rattle.frac_laws.proofs.Quotients.{whole_suc}
use Rattle.cell_laws.specs.Systems.{System, coefficient, taylor_value}
use Rattle.cell_laws.proofs.Recurrences.{taylor_value_sums}
use Rattle.model_specs.specs.Cells.{CellCurves}
use Rattle.model_specs.specs.Systems.{interest_at, intensity_at, sojourn_rate_at, leaving_at, first_payment_at}
use Rattle.model_specs.specs.Systems.{sum_paid_at, thiele_system}
use Rattle.model_specs.specs.Runs.{month_back}
use Rattle.model_laws.specs.Equations.{IsQuintic}
use Rattle.model_laws.proofs.CellEquations.{thiele_system_solves}
use Rattle.model_laws.proofs.FlatCells.{none_of}

-- what a cell is in such a state
pub record IsFlatIn (cell : CellCurves) (i : ℕ) (paid : Fraction) : Type 0 where
  pub quintic : IsQuintic cell
  pub inside : i < cell.states
  pub interest : (m : ℕ) → interest_at cell m ≡ whole (pos 0)
  pub intensity : (j m : ℕ) → intensity_at cell i j m ≡ whole (pos 0)
  pub rate : sojourn_rate_at cell i 0 ≡ paid
  pub constant : (m : ℕ) → sojourn_rate_at cell i (suc m) ≡ whole (pos 0)

module _ (cell : CellCurves) (i : ℕ) (paid : Fraction) (flat : IsFlatIn cell i paid) (start : Vector) where
  -- the coefficients of the state
  abbrev w : ℕ → Fraction
  w k = number_at (coefficient (thiele_system cell) start k) i

  leaving-none : (m : ℕ) → leaving_at cell i m ≡ whole (pos 0)
  leaving-none m = sum_to_zeros cell.states (λ j b. flat.intensity j m)

  payment-none : (j k : ℕ) → first_payment_at cell i j k ≡ whole (pos 0)
  payment-none j k = sum_to_zeros (suc k) (λ m b. rw (flat.intensity j m)
      (ring (sum_paid_at cell i j (k - m) ∷ []) (hlevel terms) refl))

  links-none : (m : ℕ) (v : ℕ → Fraction)
      → opposite (interest_at cell m +ℚ leaving_at cell i m) *ℚ v i
      +ℚ sum_to cell.states (λ j. intensity_at cell i j m *ℚ v j) ≡ whole (pos 0)
  links-none m v = rw (
    flat.interest m,
    leaving-none m,
    sum_to_zeros cell.states {f = λ j. intensity_at cell i j m *ℚ v j}
        (λ j b. rw (flat.intensity j m) (ring (v j ∷ []) (hlevel terms) refl)),
  )
      (ring (v i ∷ []) (hlevel terms) refl)

  next-is : (k : ℕ) → whole (pos (suc k)) *ℚ w (suc k) ≡ sojourn_rate_at cell i k
  next-is k = thiele_system_solves cell start flat.quintic k i flat.inside
      ∙ rw (
        sum_to_zeros (suc k) (λ m b. links-none m (λ j.
            number_at (coefficient (thiele_system cell) start (k - m)) j)),
        sum_to_zeros cell.states (λ j b. payment-none j k),
      )
      (ring (sojourn_rate_at cell i k ∷ []) (hlevel terms) refl)

  first-is : w 1 ≡ paid
  first-is = ring (w 1 ∷ []) (hlevel terms) refl ∙ next-is 0 ∙ flat.rate

  later-none : (k : ℕ) → w (suc (suc k)) ≡ whole (pos 0)
  later-none k = none_of (suc k) (w (suc (suc k))) (next-is (suc k) ∙ flat.constant k)

  total-is : (n : ℕ) → sum_to (suc (suc n)) w ≡ number_at start i +ℚ paid
  total-is zero = rw first-is (ring (number_at start i ∷ paid ∷ []) (hlevel terms) refl)
  total-is (suc n) = rw (total-is n, later-none n) (ring (number_at start i ∷ paid ∷ []) (hlevel terms) refl)

  pub cell_adds : (n : ℕ) → number_at (taylor_value (thiele_system cell) start (suc n)) i
      ≡ number_at start i +ℚ paid
  cell_adds n = taylor_value_sums (thiele_system cell) start (suc n) i ∙ total-is n

-- cells that each add the same
pub month_adds : (system : ℕ → System) (i : ℕ) (paid : Fraction) (n cells : ℕ)
    → ((cell : ℕ) (v : Vector) → number_at (taylor_value (system cell) v n) i ≡ number_at v i +ℚ paid)
    → (v : Vector) → number_at (month_back system n cells v) i ≡ number_at v i +ℚ whole (pos cells) *ℚ paid
month_adds system i paid n zero adds v = ring (number_at v i ∷ paid ∷ []) (hlevel terms) refl
month_adds system i paid n (suc cells) adds v =
    month_adds system i paid n cells adds (taylor_value (system cells) v n)
    ∙ rw (adds cells v, whole_suc cells)
    (ring (number_at v i ∷ paid ∷ whole (pos cells) ∷ []) (hlevel terms) refl)
