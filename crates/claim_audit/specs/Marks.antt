-- When a claim is near an exact number and when it is far, by an interval of the exact number, and what a mark says of
-- the exact number itself. This product's own.
use Rattle.std.specs.Prelude.{◌⊎◌, ℕ, ◌^◌, ◌<◌, ℤ, pos, ◌+ℤ◌, ◌-ℤ◌, ◌≤ℤ◌, ◌<ℤ◌, unsigned_abs}
use Rattle.frac_laws.specs.Fraction.{Fraction, whole, size, ◌-ℚ◌, ◌≤ℚ◌, ◌<ℚ◌}
use Rattle.claim_audit.specs.declared.finding.Finding.{Finding}
use Rattle.claim_audit.specs.declared.finding.Finding.TheVariants as finding

-- each number between the ends is at most eps away from the claim
abbrev pub IsNear : (claim eps lo hi : ℤ) → Type 0
IsNear claim eps lo hi = ((claim -ℤ eps) ≤ℤ lo) × (hi ≤ℤ (claim +ℤ eps))

-- each number between the ends is more than eps away from the claim: all lie below, or all lie above
abbrev pub IsFar : (claim eps lo hi : ℤ) → Type 0
IsFar claim eps lo hi = (hi <ℤ (claim -ℤ eps)) ⊎ ((claim +ℤ eps) <ℤ lo)

-- numbers that fit 128 bits with room for a sum
pub record AreSmall (claim eps lo hi : ℤ) : Type 0 where
  pub claim_fits : unsigned_abs claim < 2 ^ 120
  pub eps_fits : unsigned_abs eps < 2 ^ 120
  pub lo_fits : unsigned_abs lo < 2 ^ 120
  pub hi_fits : unsigned_abs hi < 2 ^ 120

-- how far a claim is from a number
abbrev pub distance : (claim : ℤ) → Fraction → Fraction
distance claim x = size (whole claim -ℚ x)

-- what a mark says of an exact number: it is at most eps away from the claim, or more than eps away, or so far away
-- that eps differs from it by at most the tolerance
abbrev pub SaysOf : Finding → (claim eps : ℤ) → (tolerance : ℕ) → Fraction → Type 0
SaysOf finding.Yes claim eps tolerance x = distance claim x ≤ℚ whole eps
SaysOf finding.No claim eps tolerance x = whole eps <ℚ distance claim x
SaysOf finding.Undecided claim eps tolerance x = size (distance claim x -ℚ whole eps) ≤ℚ whole (pos tolerance)

-- a mark implies nearness: it is right of each number between the ends, which are no further apart than the tolerance
abbrev pub ImpliesNearness : Finding → (claim eps lo hi : ℤ) → Type 0
ImpliesNearness mark claim eps lo hi = (x : Fraction) (tolerance : ℕ) → whole lo ≤ℚ x → x ≤ℚ whole hi
    → hi ≤ℤ (lo +ℤ pos tolerance) → SaysOf mark claim eps tolerance x
