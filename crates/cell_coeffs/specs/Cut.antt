-- Fine numbers that are cut, and what is stored of them.
use Rattle.std.specs.Prelude.{◌≡◌, suc, ◌/◌, ℤ, pos, negsuc, neg_ℤ}
use Rattle.frac_laws.specs.Fraction.{Fraction, whole, size, ◌-ℚ◌, ◌≤ℚ◌}
use Rattle.linear_system.specs.StandsFor.{units}

-- a fine number in units of 2^-64, rounded towards 0
abbrev pub cut_of : ℤ → ℤ
cut_of (pos n) = pos (n / 64)
cut_of (negsuc n) = neg_ℤ (pos (suc n / 64))

-- a number of units of 2^-64 is at most two units away, and is 0 where the exact number is
pub record IsStoredCut (x : Fraction) (z : ℤ) : Type 0 where
  pub near : size (x -ℚ units z) ≤ℚ units (pos 2)
  pub none : x ≡ whole (pos 0) → z ≡ pos 0
