-- The piece of a curve that holds in a month, where pieces start a year apart.
use Rattle.std.proofs.Common.{◌≡◌, ℕ, zero, suc, ◌+◌, ◌*◌, ◌<◌, ◌≤◌, [], arith, refl, inl, inr}
use Rattle.std.specs.Prelude.{nat_le, filter}
use Rattle.std.proofs.lemmas.Bool.{cases_lt}
use Rattle.whole_laws.specs.Whole.{list_of, last_or}
use Rattle.whole_laws.proofs.Tests.{above_is_not, within_is}
use Rattle.model_specs.specs.Curve.{Piece, zero_piece, piece_at}

-- pieces that start a year apart, from some year on
abbrev StartYearly : ℕ → (ℕ → Piece) → Type 0
StartYearly first pieces = (i : ℕ) → (pieces i).from ≡ 12 * (first + i)

-- the same from the next year on
later_start : (first : ℕ) (pieces : ℕ → Piece) → StartYearly first pieces
    → StartYearly (suc first) (λ i. pieces (suc i))
later_start first pieces starts i = omega (arith, starts (suc i))

-- pieces that start later do not hold
none_started : (n first month : ℕ) (pieces : ℕ → Piece) → StartYearly first pieces
    → month < 12 * first → filter (λ piece. nat_le piece.from month) (list_of n pieces) ≡ []
none_started zero first month pieces starts early = refl
none_started (suc n) first month pieces starts early =
    rw (above_is_not (pieces 0).from month (omega (arith, starts 0)))
    (none_started n (suc first) month (λ i. pieces (suc i)) (later_start first pieces starts) (omega arith))

-- what each piece has in its year, the one that holds has
holds-has : (P : Piece → Type 0) (n first month : ℕ) (pieces : ℕ → Piece) (none : Piece)
    → StartYearly first pieces → 12 * first ≤ month → month < 12 * (first + n)
    → ((i : ℕ) → i < n → 12 * (first + i) ≤ month → month < 12 * (first + i) + 12 → P (pieces i))
    → P (last_or none (filter (λ piece. nat_le piece.from month) (list_of n pieces)))
holds-has P zero first month pieces none starts from below has = absurd (omega arith)
holds-has P (suc n) first month pieces none starts from below has =
    elim (cases_lt month (12 * suc first)) [
      | inl this ↦
          rw (
            within_is (pieces 0).from month (omega (arith, starts 0)),
            none_started n (suc first) month (λ i. pieces (suc i)) (later_start first pieces starts) this,
          ) (has 0 (omega arith) (omega arith) (omega arith))
      | inr later ↦
          rw (within_is (pieces 0).from month (omega (arith, starts 0)))
          (holds-has P n (suc first) month (λ i. pieces (suc i)) (pieces 0) (later_start first pieces starts) later
          (omega arith) (λ i inside start end. has (suc i) (omega arith) (omega arith) (omega arith)))
    ]

pub yearly-has : (P : Piece → Type 0) (years month : ℕ) (pieces : ℕ → Piece) → ((i : ℕ) → (pieces i).from ≡ 12 * i)
    → month < 12 * years
    → ((i : ℕ) → i < years → 12 * i ≤ month → month < 12 * i + 12 → P (pieces i))
    → P (piece_at (list_of years pieces) month)
yearly-has P years month pieces starts below has =
    holds-has P years 0 month pieces zero_piece (λ i. omega (arith, starts i)) (omega arith) (omega arith)
    (λ i inside start end. has i inside (omega arith) (omega arith))
