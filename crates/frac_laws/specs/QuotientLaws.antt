-- Order, equality, sum and product of fractions that are written as quotients of whole numbers, for positive
-- divisors.
use Rattle.std.specs.Prelude.{◌≡◌, ◌↔◌, ℕ, pos, ℤ, ◌+ℤ◌, ◌*ℤ◌, neg_ℤ, ◌≤ℤ◌, ◌<ℤ◌, ◌≤◌, ◌*◌}
use Rattle.frac_laws.specs.Fraction.{over, whole, opposite, ◌+ℚ◌, ◌*ℚ◌, ◌≤ℚ◌, ◌<ℚ◌}

-- one quotient is at most another exactly where the cross products compare so
abbrev pub QuotientsCompareByCross : Type 0
QuotientsCompareByCross = (n m : ℤ) (d e : ℕ) → 1 ≤ d → 1 ≤ e
    → (over n d ≤ℚ over m e) ↔ ((n *ℤ pos e) ≤ℤ (m *ℤ pos d))

-- one quotient is below another exactly where the cross products compare so
abbrev pub QuotientsAreBelowByCross : Type 0
QuotientsAreBelowByCross = (n m : ℤ) (d e : ℕ) → 1 ≤ d → 1 ≤ e
    → (over n d <ℚ over m e) ↔ ((n *ℤ pos e) <ℤ (m *ℤ pos d))

-- two quotients are equal exactly where the cross products are
abbrev pub QuotientsAreEqualByCross : Type 0
QuotientsAreEqualByCross = (n m : ℤ) (d e : ℕ) → 1 ≤ d → 1 ≤ e
    → (over n d ≡ over m e) ↔ (n *ℤ pos e ≡ m *ℤ pos d)

-- n/d + m/d = (n + m)/d
abbrev pub QuotientsAddOverOneDivisor : Type 0
QuotientsAddOverOneDivisor = (n m : ℤ) (d : ℕ) → 1 ≤ d → over n d +ℚ over m d ≡ over (n +ℤ m) d

-- n/d + m/e = (n e + m d)/(d e)
abbrev pub QuotientsAdd : Type 0
QuotientsAdd = (n m : ℤ) (d e : ℕ) → 1 ≤ d → 1 ≤ e
    → over n d +ℚ over m e ≡ over (n *ℤ pos e +ℤ m *ℤ pos d) (d * e)

-- n/d * m/e = (n m)/(d e)
abbrev pub QuotientsMultiply : Type 0
QuotientsMultiply = (n m : ℤ) (d e : ℕ) → 1 ≤ d → 1 ≤ e → over n d *ℚ over m e ≡ over (n *ℤ m) (d * e)

-- -(n/d) = (-n)/d
abbrev pub QuotientsHaveOpposites : Type 0
QuotientsHaveOpposites = (n : ℤ) (d : ℕ) → 1 ≤ d → opposite (over n d) ≡ over (neg_ℤ n) d

-- (n c)/(d c) = n/d
abbrev pub QuotientsCancel : Type 0
QuotientsCancel = (n : ℤ) (d c : ℕ) → 1 ≤ d → 1 ≤ c → over (n *ℤ pos c) (d * c) ≡ over n d

-- d * (n/d) = n
abbrev pub QuotientsTimesDivisor : Type 0
QuotientsTimesDivisor = (n : ℤ) (d : ℕ) → 1 ≤ d → whole (pos d) *ℚ over n d ≡ whole n

-- whole numbers compare as fractions as they do as whole numbers
abbrev pub WholeNumbersCompare : Type 0
WholeNumbersCompare = (n m : ℤ) → (whole n ≤ℚ whole m) ↔ (n ≤ℤ m)

-- whole numbers add as fractions as they do as whole numbers
abbrev pub WholeNumbersAdd : Type 0
WholeNumbersAdd = (n m : ℤ) → whole n +ℚ whole m ≡ whole (n +ℤ m)

-- whole numbers multiply as fractions as they do as whole numbers
abbrev pub WholeNumbersMultiply : Type 0
WholeNumbersMultiply = (n m : ℤ) → whole n *ℚ whole m ≡ whole (n *ℤ m)
