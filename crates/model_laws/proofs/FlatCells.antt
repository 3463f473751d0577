-- A cell without interest and transitions, in which a constant is paid, adds it, in every degree from 1 on.
use Rattle.std.specs.Prelude.{◌≡◌, ℕ, zero, suc, ◌-◌, ◌<◌, pos, [], ◌∷◌, refl}
use Rattle.std.proofs.Common.{ap, sym, ◌∙◌}
use Rattle.frac_laws.specs.Fraction.{Fraction, whole, over, opposite, ◌+ℚ◌, ◌*ℚ◌}
use Rattle.frac_laws.specs.Sums.{sum_to}
use Rattle.frac_laws.specs.Lists.{Vector, number_at}
use Rattle.frac_laws.proofs.FractionTerms.{ring, terms}
use Rattle.frac_laws.proofs.Sums.{sum_to_zeros}
use Rattle.frac_laws.proofs.Quotients.{whole_suc}
use Rattle.cell_laws.specs.Systems.{System, coefficient, taylor_value}
use Rattle.cell_laws.proofs.Runs.{times_part}
use Rattle.cell_laws.proofs.Recurrences.{taylor_value_sums}
use Rattle.model_specs.specs.Cells.{CellCurves}
use Rattle.model_specs.specs.Systems.{interest_at, intensity_at, sojourn_rate_at, leaving_at}
use Rattle.model_specs.specs.Systems.{first_payment_at}
use Rattle.model_specs.specs.Systems.{sum_paid_at, thiele_system}
use Rattle.model_laws.specs.Equations.{IsQuintic}
use Rattle.model_specs.specs.Runs.{month_back}
use Rattle.model_laws.proofs.CellEquations.{thiele_system_solves}

-- no interest, no transition, and a constant rate of paying in state 0
pub record IsFlatCell (cell : CellCurves) (paid : Fraction) : Type 0 where
  pub quintic : IsQuintic cell
  pub some : 0 < cell.states
  pub interest : (m : ℕ) → interest_at cell m ≡ whole (pos 0)
  pub intensity : (i j m : ℕ) → intensity_at cell i j m ≡ whole (pos 0)
  pub rate : sojourn_rate_at cell 0 0 ≡ paid
  pub constant : (m : ℕ) → sojourn_rate_at cell 0 (suc m) ≡ whole (pos 0)

-- what is 0 when it is taken k + 1 times is 0
pub none_of : (k : ℕ) (x : Fraction) → whole (pos (suc k)) *ℚ x ≡ whole (pos 0) → x ≡ whole (pos 0)
none_of k x nothing = sym (times_part k x)
    ∙ ring (whole (pos (suc k)) ∷ over (pos 1) (suc k) ∷ x ∷ []) (hlevel terms) refl
    ∙ ap (λ z. over (pos 1) (suc k) *ℚ z) nothing ∙ ring (over (pos 1) (suc k) ∷ []) (hlevel terms) refl

module _ (cell : CellCurves) (paid : Fraction) (flat : IsFlatCell cell paid) (start : Vector) where
  -- the coefficients of state 0
  abbrev w : ℕ → Fraction
  w k = number_at (coefficient (thiele_system cell) start k) 0

  leaving-none : (m : ℕ) → leaving_at cell 0 m ≡ whole (pos 0)
  leaving-none m = sum_to_zeros cell.states (λ j b. flat.intensity 0 j m)

  -- a transition that does not happen pays nothing
  payment-none : (j k : ℕ) → first_payment_at cell 0 j k ≡ whole (pos 0)
  payment-none j k = sum_to_zeros (suc k) (λ m b. rw (flat.intensity 0 j m)
      (ring (sum_paid_at cell 0 j (k - m) ∷ []) (hlevel terms) refl))

  -- the links between the states give nothing
  links-none : (m : ℕ) (v : ℕ → Fraction)
      → opposite (interest_at cell m +ℚ leaving_at cell 0 m) *ℚ v 0
      +ℚ sum_to cell.states (λ j. intensity_at cell 0 j m *ℚ v j) ≡ whole (pos 0)
  links-none m v = rw (
    flat.interest m,
    leaving-none m,
    sum_to_zeros cell.states {f = λ j. intensity_at cell 0 j m *ℚ v j}
        (λ j b. rw (flat.intensity 0 j m) (ring (v j ∷ []) (hlevel terms) refl)),
  )
      (ring (v 0 ∷ []) (hlevel terms) refl)

  next-is : (k : ℕ) → whole (pos (suc k)) *ℚ w (suc k) ≡ sojourn_rate_at cell 0 k
  next-is k = thiele_system_solves cell start flat.quintic k 0 flat.some
      ∙ rw (
        sum_to_zeros (suc k) (λ m b. links-none m (λ j.
            number_at (coefficient (thiele_system cell) start (k - m)) j)),
        sum_to_zeros cell.states (λ j b. payment-none j k),
      )
      (ring (sojourn_rate_at cell 0 k ∷ []) (hlevel terms) refl)

  first-is : w 1 ≡ paid
  first-is = ring (w 1 ∷ []) (hlevel terms) refl ∙ next-is 0 ∙ flat.rate

  later-none : (k : ℕ) → w (suc (suc k)) ≡ whole (pos 0)
  later-none k = none_of (suc k) (w (suc (suc k))) (next-is (suc k) ∙ flat.constant k)

  total-is : (n : ℕ) → sum_to (suc (suc n)) w ≡ number_at start 0 +ℚ paid
  total-is zero = rw first-is (ring (number_at start 0 ∷ paid ∷ []) (hlevel terms) refl)
  total-is (suc n) = rw (total-is n, later-none n) (ring (number_at start 0 ∷ paid ∷ []) (hlevel terms) refl)

  pub cell_adds : (n : ℕ) → number_at (taylor_value (thiele_system cell) start (suc n)) 0
      ≡ number_at start 0 +ℚ paid
  cell_adds n = taylor_value_sums (thiele_system cell) start (suc n) 0 ∙ total-is n

-- cells that each add the same
pub month_adds : (system : ℕ → System) (paid : Fraction) (n cells : ℕ)
    → ((cell : ℕ) (v : Vector) → number_at (taylor_value (system cell) v n) 0 ≡ number_at v 0 +ℚ paid)
    → (v : Vector) → number_at (month_back system n cells v) 0 ≡ number_at v 0 +ℚ whole (pos cells) *ℚ paid
month_adds system paid n zero adds v = ring (number_at v 0 ∷ paid ∷ []) (hlevel terms) refl
month_adds system paid n (suc cells) adds v =
    month_adds system paid n cells adds (taylor_value (system cells) v n)
    ∙ rw (adds cells v, whole_suc cells)
    (ring (number_at v 0 ∷ paid ∷ whole (pos cells) ∷ []) (hlevel terms) refl)
