-- The rules on the order and the size of a curve's pieces, piece by piece.
use Rattle.std.specs.Prelude.{◌≡◌, ℕ, zero, suc, ◌<◌, ◌≤◌, List, length, slice_index, slice_index_or}
use Rattle.model_specs.specs.Curve.{Piece, zero_piece}
use Rattle.model_specs.specs.RecordRules.{IsBounded, months_of, piece_starts}

-- a rule says something of each place; this is the least place where it is broken
pub record IsFirstBroken (Holds : ℕ → Type 0) (place : ℕ) : Type 0 where
  pub broken : ¬ Holds place
  pub before : (i : ℕ) → i < place → Holds i

-- rule 8 at a place: there is a first start and it is 0, each later one is above the one before, and each is below
-- the term
abbrev pub StartsInOrder : ℕ → List ℕ → ℕ → Type 0
StartsInOrder months starts zero =
    (1 ≤ length starts) × (slice_index starts 0 ≡ 0) × (slice_index starts 0 < months)
StartsInOrder months starts (suc i) =
    suc i < length starts
    → (slice_index starts i < slice_index starts (suc i)) × (slice_index starts (suc i) < months)

-- rule 9 at a place: |c_j| s^j is at most 10^22 for each coefficient of the piece there, which holds for s months
abbrev pub IsBoundedAt : ℕ → List Piece → ℕ → Type 0
IsBoundedAt months pieces i =
    i < length pieces → IsBounded (slice_index_or pieces i zero_piece).c (months_of months (piece_starts pieces) i)
