-- When a step may be taken: the stored system stands for a tame one, and the numbers are not too large.
use Rattle.std.specs.Prelude.{ℕ, ◌+◌, ◌^◌, ◌≤◌, ℤ, pos, List, slice_index_or, unsigned_abs, sum_by}
use Rattle.frac_laws.specs.Fraction.{Fraction}
use Rattle.frac_laws.specs.Norms.{Sup, Sum}
use Rattle.cell_laws.specs.Systems.{System}
use Rattle.cell_laws.specs.Pairs.{CoupledPair}
use Rattle.cell_laws.specs.Tame.{IsTame, IsTamePair}
use Rattle.linear_system.specs.StoredSystem.{StoredSystem}
use Rattle.linear_system.specs.StandsFor.{StandsFor, StandsForPair}

-- each number is at most so large in size
abbrev pub AreAtMost : ℕ → List ℤ → Type 0
AreAtMost most numbers = (i : ℕ) → unsigned_abs (slice_index_or numbers i (pos 0)) ≤ most

-- in Sup each number is at most 2 in size, in Sum all sizes add up to at most 4, and of a pair each number is
-- at
-- most 1 + 2^-19 in size, in units of 2^-64
pub data CanStep (s : StoredSystem) (mid : List ℤ) : Type 0 where
  in_sup : (e : System) (kappa40 : ℕ) → StandsFor s e → IsTame Sup kappa40 e → AreAtMost (2 ^ 65) mid
      → CanStep s mid
  in_sum : (e : System) (kappa40 : ℕ) → StandsFor s e → IsTame Sum kappa40 e
      → sum_by unsigned_abs mid ≤ 2 ^ 66
      → CanStep s mid
  in_pair : (half : ℕ) (p : CoupledPair) (kappa40 : ℕ) (c : Fraction) → StandsForPair s half p
      → IsTamePair kappa40 c p
      → AreAtMost (2 ^ 64 + 2 ^ 45) mid → CanStep s mid
