-- Starts in order, as the rule on a curve's pieces asks, place by place.
use Rattle.std.proofs.Common.{ℕ, zero, suc, ◌+◌, ◌<◌, ◌≤◌, List, length, get_or, arith, inl, inr}
use Rattle.std.proofs.lemmas.Bool.{cases_lt}
use Rattle.std.proofs.lemmas.List.{get_or_default, get_or_past}
use Rattle.curve_pieces.specs.BrokenRules.{StartsInOrder}

-- starts that are in order so far are at least their places
pub start-above : (starts : List ℕ) (months n k : ℕ) → ((i : ℕ) → i < n → StartsInOrder months starts i)
    → k < n → k < length starts → k ≤ get_or starts k 0
start-above starts months n zero h below inside = omega arith
start-above starts months n (suc k) h below inside =
    omega (arith, start-above starts months n k h (omega arith) (omega arith), (h (suc k) below inside).0)

-- and below the term
pub start-below : (starts : List ℕ) (months n k : ℕ) → ((i : ℕ) → i < n → StartsInOrder months starts i)
    → k < n → k < length starts → get_or starts k 0 < months
start-below starts months n zero h below inside = (h 0 below).2
start-below starts months n (suc k) h below inside = (h (suc k) below inside).1

pub place_below : (starts : List ℕ) (months k : ℕ) → ((i : ℕ) → i < suc k → StartsInOrder months starts i)
    → k < length starts → k < months
place_below starts months k h inside =
    omega (
      arith,
      start-above starts months (suc k) k h (omega arith) inside,
      start-below starts months (suc k) k h (omega arith) inside,
    )

pub next_place_fits : (starts : List ℕ) (months k : ℕ) → ((i : ℕ) → i < k + 1 → StartsInOrder months starts i)
    → k < length starts → k < months
next_place_fits starts months k h inside = place_below starts months k (λ i below. h i (omega arith)) inside

-- the month before which a piece ends
pub end_above : (starts : List ℕ) (months k : ℕ) → ((i : ℕ) → StartsInOrder months starts i) → k < length starts
    → get_or starts k 0 < get_or starts (suc k) months
end_above starts months k h inside =
    elim (cases_lt (suc k) (length starts)) [
      | inl below ↦ rw (get_or_default starts (suc k) months 0 below) ((h (suc k) below).0)
      | inr above ↦ rw (get_or_past starts (suc k) months above)
          (start-below starts months (suc k) k (λ i b. h i) (omega arith) inside)
    ]

pub end_within : (starts : List ℕ) (months k : ℕ) → ((i : ℕ) → StartsInOrder months starts i)
    → get_or starts (suc k) months ≤ months
end_within starts months k h =
    elim (cases_lt (suc k) (length starts)) [
      | inl below ↦ rw (get_or_default starts (suc k) months 0 below) (omega (arith, (h (suc k) below).1))
      | inr above ↦ rw (get_or_past starts (suc k) months above) (omega arith)
    ]
