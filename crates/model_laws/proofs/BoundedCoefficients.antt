-- The bound on coefficients: its test, and fewer months.
use Rattle.std.specs.Prelude.{◌≡◌, ℕ, ◌-◌, ◌*◌, ◌^◌, true, nat_le, ℤ, List, length, unsigned_abs}
use Rattle.std.proofs.lemmas.Bool.{leb-true}
use Rattle.std.proofs.Common.{◌≤◌, pos, get_or}
use Rattle.model_specs.specs.MonthNumbers.{coefficient_at}
use Rattle.model_specs.specs.RecordRules.{IsBounded, is_bounded}
use Rattle.whole_laws.proofs.ListsByPlace.{holds_at_places}
use Rattle.whole_laws.proofs.Numbers.{shorter_power}
use Rattle.named_numbers.specs.Numbers.{most_coefficient}

-- coefficients whose test holds are bounded
pub bounded_from_test : (c : List ℤ) (s : ℕ) → is_bounded c s ≡ true → IsBounded c s
bounded_from_test c s h i b = leb-true (unsigned_abs (coefficient_at c i) * s ^ i) most_coefficient
    (holds_at_places (length c) (λ i. nat_le (unsigned_abs (coefficient_at c i) * s ^ i) most_coefficient) h i b)

-- and so they are over fewer months
pub bounded_shorter : (c : List ℤ) (s t : ℕ) → s ≤ t → IsBounded c t → IsBounded c s
bounded_shorter c s t h b =
    λ i inside. shorter_power (unsigned_abs (get_or c i (pos 0))) s t i most_coefficient h (b i inside)
