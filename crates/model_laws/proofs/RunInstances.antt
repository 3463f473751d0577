-- The small runs, computed.
use Rattle.std.specs.Prelude.{◌≡◌, ◌^◌, pos, List, [], ◌∷◌, refl}
use Rattle.std.proofs.Common.{arith}
use Rattle.std.proofs.lemmas.Bool.{false≢true}
use mathlib.Core.Path.{ap₂}
use mathlib.Core.Quot.{sound}
use Rattle.frac_laws.specs.Fraction.{Fraction, whole, ◌+ℚ◌, ◌*ℚ◌, ◌-ℚ◌, ◌≤ℚ◌, opposite, is_not_negative}
use Rattle.model_laws.specs.RunInstances.{IntensityInCells, ReserveOfLastCell, MomentOfLastCell}
use Rattle.model_laws.specs.RunInstances.{ReserveByWholeMonth}
use Rattle.model_laws.specs.RunInstances.{OccupancyOfFirstCell, PatternPaysAtDates, PatternPaysRate}
use Rattle.model_laws.specs.RunInstances.{EndRowsHold, LowerOccupancyDoesNotHold}

-- two lists of six numbers are one where the numbers are
six : {a b c d e f a' b' c' d' e' f' : Fraction} → a ≡ a' → b ≡ b' → c ≡ c' → d ≡ d' → e ≡ e' → f ≡ f'
    → ◌≡◌ {A = List Fraction} (a ∷ b ∷ c ∷ d ∷ e ∷ f ∷ []) (a' ∷ b' ∷ c' ∷ d' ∷ e' ∷ f' ∷ [])
six p q r s t u = ap₂ (λ x l. x ∷ l) p (ap₂ (λ x l. x ∷ l) q (ap₂ (λ x l. x ∷ l) r
    (ap₂ (λ x l. x ∷ l) s (ap₂ (λ x y. x ∷ y ∷ []) t u))))

pub intensity_in_cells : IntensityInCells
unfolding ◌+ℚ◌ ◌*ℚ◌
intensity_in_cells = (
  six (sound refl) (sound refl) (sound refl) (sound refl) (sound refl) (sound refl),
  six (sound refl) (sound refl) (sound refl) (sound refl) (sound refl) (sound refl),
)

pub reserve_of_last_cell : ReserveOfLastCell
unfolding ◌+ℚ◌ ◌*ℚ◌ opposite
reserve_of_last_cell = (sound refl, sound refl)

pub moment_of_last_cell : MomentOfLastCell
unfolding ◌+ℚ◌ ◌*ℚ◌ opposite
moment_of_last_cell = (sound refl, sound refl)

pub reserve_by_whole_month : ReserveByWholeMonth
unfolding ◌+ℚ◌ ◌*ℚ◌ opposite
reserve_by_whole_month = sound refl

pub occupancy_of_first_cell : OccupancyOfFirstCell
unfolding ◌+ℚ◌ ◌*ℚ◌ opposite
occupancy_of_first_cell = (sound refl, sound refl)

pub pattern_pays_at_dates : PatternPaysAtDates
unfolding ◌+ℚ◌ ◌*ℚ◌ opposite
pattern_pays_at_dates = (sound refl, refl, refl)

pub pattern_pays_rate : PatternPaysRate
pattern_pays_rate = (refl, refl, refl)

pub end_rows_hold : EndRowsHold
unfolding ◌+ℚ◌ ◌*ℚ◌ ◌-ℚ◌ opposite is_not_negative
end_rows_hold = (
  λ n b. record { at_least = record { le = refl }; at_most = record { le = refl } },
  λ n b. record { at_least = record { le = refl }; at_most = record { le = refl } },
)

too_low : ¬ (whole (pos (10 ^ 6)) *ℚ whole (pos 1) ≤ℚ whole (pos 999999))
unfolding ◌+ℚ◌ ◌*ℚ◌ ◌-ℚ◌ opposite is_not_negative
too_low h = false≢true h.le

pub lower_occupancy_does_not_hold : LowerOccupancyDoesNotHold
lower_occupancy_does_not_hold least holds = too_low (holds least (omega arith)).at_most
