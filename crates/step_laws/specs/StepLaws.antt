-- What a rounded step promises: the new vector stays within its radius of the exact Taylor value.
use Rattle.std.specs.Prelude.{ℕ, pos, length, ◌+◌, ◌^◌, ◌≤◌}
use Rattle.frac_laws.specs.Fraction.{Fraction, whole, ◌*ℚ◌, ◌≤ℚ◌}
use Rattle.frac_laws.specs.Lists.{Vector}
use Rattle.frac_laws.specs.Norms.{Norm, Sup, Sum, norm_of_vector}
use Rattle.frac_laws.specs.Ledger.{grow}
use Rattle.cell_laws.specs.Systems.{System, taylor_value}
use Rattle.cell_laws.specs.Pairs.{CoupledPair, second_taylor_value}
use Rattle.cell_laws.specs.Tame.{IsTame, IsTamePair}
use Rattle.cell_laws.specs.ErrorLaws.{distance}
use Rattle.step_laws.specs.StandsFor.{units, StandsFor, PairStandsFor}
use Rattle.step_laws.specs.RoundedRuns.{IsRoundedStep, IsSecondRoundedStep, MayStop, PairMayStop}

-- the greatest dimension for which a step has a promise in a norm
abbrev pub most_numbers : Norm → ℕ
most_numbers Sup = 24
most_numbers Sum = 12

-- y is a start of at most d numbers and of at most some norm, and mid is within rad units of it, where rad is
-- at most 2^45
pub record IsStartNear (norm : Norm) (d : ℕ) (most : Fraction) (rad : ℕ) (y mid : Vector) : Type 0 where
  pub fits : length y ≤ d
  pub small : norm_of_vector norm y ≤ℚ most
  pub near : distance norm y mid ≤ℚ units rad
  pub radius : rad ≤ 2 ^ 45

-- a step of a stored system that stands for a tame one, beside a start of norm at most 2: the Taylor value of
-- each degree from that of the step on is within the grown radius of the new vector
abbrev pub StepsStayWithinTheirRadius : Type 0
StepsStayWithinTheirRadius =
    (norm : Norm) (kappa40 rad degree n : ℕ) (stored exact : System) (y mid new : Vector) (z : ℕ → Vector)
    → StandsFor stored exact → exact.dimension ≤ most_numbers norm → IsTame norm kappa40 exact
    → IsRoundedStep degree stored mid new z → MayStop degree stored z
    → IsStartNear norm exact.dimension (whole (pos 2)) rad y mid → degree ≤ n
    → distance norm (taylor_value exact y n) new ≤ℚ units (grow rad kappa40 1023)

-- a step of a stored pair: both halves have at most 12 numbers, both start from a norm of at most 1 near
-- their stored vectors, and `received` is a whole number of at least c times the first half's radius
pub record IsPairStep (kappa40 rad rad2 received degree : ℕ) (c : Fraction) (stored exact : CoupledPair)
    (y mid new y2 mid2 new2 : Vector) (w z : ℕ → Vector) : Type 0 where
  pub stands : PairStandsFor stored exact
  pub dimension : exact.first.dimension ≤ 12
  pub tame : IsTamePair kappa40 c exact
  pub first_step : IsRoundedStep degree stored.first mid new w
  pub second_step : IsSecondRoundedStep degree stored w mid2 new2 z
  pub stops : PairMayStop degree stored w z
  pub first_start : IsStartNear Sup exact.first.dimension (whole (pos 1)) rad y mid
  pub second_start : IsStartNear Sup exact.first.dimension (whole (pos 1)) rad2 y2 mid2
  pub receives : c *ℚ whole (pos rad) ≤ℚ whole (pos received)

-- the first half of a tame pair is within its grown radius
abbrev pub FirstHalvesStayWithinTheirRadius : Type 0
FirstHalvesStayWithinTheirRadius =
    (kappa40 rad rad2 received degree n : ℕ) (c : Fraction) (stored exact : CoupledPair)
    (y mid new y2 mid2 new2 : Vector) (w z : ℕ → Vector)
    → IsPairStep kappa40 rad rad2 received degree c stored exact y mid new y2 mid2 new2 w z → degree ≤ n
    → distance Sup (taylor_value exact.first y n) new ≤ℚ units (grow rad kappa40 1023)

-- and the second half within its own, which also takes c times the first half's radius
abbrev pub SecondHalvesStayWithinTheirRadius : Type 0
SecondHalvesStayWithinTheirRadius =
    (kappa40 rad rad2 received degree n : ℕ) (c : Fraction) (stored exact : CoupledPair)
    (y mid new y2 mid2 new2 : Vector) (w z : ℕ → Vector)
    → IsPairStep kappa40 rad rad2 received degree c stored exact y mid new y2 mid2 new2 w z → degree ≤ n
    → distance Sup (second_taylor_value exact y y2 n) new2 ≤ℚ units (grow rad2 kappa40 (received + 1023))
