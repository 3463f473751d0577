-- A step of stored numbers that are read by power, row and column, as a program reads them.
use Rattle.std.specs.Prelude.{◌≡◌, ℕ, suc, pos, List, length, take, drop, ◌<◌, ◌≤◌, ◌+◌, ◌-◌}
use Rattle.frac_laws.specs.Fraction.{Fraction, whole, ◌+ℚ◌, ◌*ℚ◌, ◌-ℚ◌, ◌≤ℚ◌, size}
use Rattle.frac_laws.specs.Sums.{sum_to}
use Rattle.frac_laws.specs.Lists.{Vector, Matrix, number_at, vector_at}
use Rattle.frac_laws.specs.Norms.{Norm, Sup}
use Rattle.frac_laws.specs.Ledger.{grow}
use Rattle.cell_laws.specs.Systems.{System, taylor_value}
use Rattle.cell_laws.specs.Pairs.{CoupledPair, second_taylor_value}
use Rattle.cell_laws.specs.Tame.{IsTame, IsTamePair}
use Rattle.cell_laws.specs.ErrorLaws.{distance}
use Rattle.step_laws.specs.StandsFor.{units, entry_at, MatricesFit, VectorsFit}
use Rattle.step_laws.specs.RoundedRuns.{IsRoundedDown, IsEarly, window_bound}
use Rattle.step_laws.specs.StepLaws.{most_numbers, IsStartNear}

-- numbers of matrices by power, row and column: each is at most some units away from the exact one, and all
-- beyond power 11 are 0
pub record NumbersStandFor (error d : ℕ) (numbers : (m row col : ℕ) → Fraction) (exact : List Matrix) : Type 0
  where
    pub near : (m row col : ℕ) → row < d → col < d
        → size (entry_at exact m row col -ℚ numbers m row col) ≤ℚ units error
    pub exact_fit : MatricesFit d exact
    pub no_more : (m row col : ℕ) → row < d → col < d → 12 ≤ m → numbers m row col ≡ whole (pos 0)

-- and numbers of free vectors by power and row
pub record FreeNumbersStandFor (error d : ℕ) (numbers : (m row : ℕ) → Fraction) (exact : List Vector) : Type 0
  where
    pub near : (m row : ℕ) → row < d
        → size (number_at (vector_at exact m) row -ℚ numbers m row) ≤ℚ units error
    pub exact_fit : VectorsFit d exact
    pub no_more : (m row : ℕ) → row < d → 12 ≤ m → numbers m row ≡ whole (pos 0)

-- the stored numbers of a system, by power, row and column, and the free ones by power and row
pub record StoredNumbers : Type 0 where
  pub dimension : ℕ
  pub numbers : (m row col : ℕ) → Fraction
  pub free : (m row : ℕ) → Fraction

-- they stand for an exact system
pub record StoredStandFor (s : StoredNumbers) (exact : System) : Type 0 where
  pub dimension : exact.dimension ≡ s.dimension
  pub matrices : NumbersStandFor 1 s.dimension s.numbers exact.matrices
  pub free : FreeNumbersStandFor 3 s.dimension s.free exact.free

-- they stand for an exact pair: the first half's rows and columns come first, the coupling stands in the
-- second half's rows and the first half's columns, and in the first half's rows and the second half's columns
-- all numbers are 0
pub record StoredStandForPair (s : StoredNumbers) (half : ℕ) (exact : CoupledPair) : Type 0 where
  pub halves : s.dimension ≡ half + half
  pub first_dimension : exact.first.dimension ≡ half
  pub second_dimension : exact.second.dimension ≡ half
  pub first : NumbersStandFor 1 half s.numbers exact.first.matrices
  pub first_free : FreeNumbersStandFor 3 half s.free exact.first.free
  pub second : NumbersStandFor 1 half (λ m row col. s.numbers m (half + row) (half + col))
      exact.second.matrices
  pub second_free : FreeNumbersStandFor 3 half (λ m row. s.free m (half + row)) exact.second.free
  pub coupling : NumbersStandFor 3 half (λ m row col. s.numbers m (half + row) col) exact.coupling
  pub one_way : (m row col : ℕ) → row < half → col < half → s.numbers m row (half + col) ≡ whole (pos 0)

-- at power k and a row: the sum of each stored number times the coefficient that it meets, and of the free
-- number
abbrev pub stored_sum : StoredNumbers → ((k row : ℕ) → Fraction) → (k row : ℕ) → Fraction
stored_sum s z k row =
    sum_to (suc k) (λ m. sum_to s.dimension (λ col. s.numbers m row col *ℚ z (k - m) col)) +ℚ s.free k row

-- coefficients by power and row up to a degree, each the stored sum divided by k + 1 and rounded down, and the
-- new vector, which is the sum of all
pub record IsStoredStep (degree : ℕ) (s : StoredNumbers) (mid new : Vector) (z : (k row : ℕ) → Fraction) : Type 0 where
  pub mid_fits : length mid ≤ s.dimension
  pub new_fits : length new ≤ s.dimension
  pub starts : (row : ℕ) → row < s.dimension → z 0 row ≡ number_at mid row
  pub rounded : (k row : ℕ) → k < degree → row < s.dimension
      → IsRoundedDown (stored_sum s z k row) (suc k) (z (suc k) row)
  pub total : (row : ℕ) → row < s.dimension → number_at new row ≡ sum_to (suc degree) (λ k. z k row)

-- above power d no number other than 0 is stored, and each number of the coefficient m powers before the
-- degree is at most 64 * 8^m units in size, for m up to d
pub record StoredStopsEarly (degree d : ℕ) (s : StoredNumbers) (z : (k row : ℕ) → Fraction) : Type 0 where
  pub early : IsEarly degree d
  pub numbers : (m row col : ℕ) → row < s.dimension → col < s.dimension → d < m
      → s.numbers m row col ≡ whole (pos 0)
  pub free : (m row : ℕ) → row < s.dimension → d < m → s.free m row ≡ whole (pos 0)
  pub window : (m row : ℕ) → row < s.dimension → m ≤ d → size (z (degree - m) row) ≤ℚ window_bound m

-- a run stops at degree 24, or at a degree at which it may stop early
pub data StoredMayStop (degree : ℕ) (s : StoredNumbers) (z : (k row : ℕ) → Fraction) : Type 0 where
  at_last : degree ≡ 24 → StoredMayStop degree s z
  after_window : (d : ℕ) → StoredStopsEarly degree d s z → StoredMayStop degree s z

-- the promise of a step for them
abbrev pub StoredStepsStayWithinTheirRadius : Type 0
StoredStepsStayWithinTheirRadius =
    (norm : Norm) (kappa40 rad degree n : ℕ) (s : StoredNumbers) (exact : System) (y mid new : Vector)
    (z : (k row : ℕ) → Fraction)
    → StoredStandFor s exact → s.dimension ≤ most_numbers norm → IsTame norm kappa40 exact
    → IsStoredStep degree s mid new z → StoredMayStop degree s z
    → IsStartNear norm exact.dimension (whole (pos 2)) rad y mid → degree ≤ n
    → distance norm (taylor_value exact y n) new ≤ℚ units (grow rad kappa40 1023)

-- a step of the stored numbers of a pair, whose vectors are those of the first half and then of the second;
-- `received` is a whole number of at least c times the first half's radius
pub record IsStoredPairStep (kappa40 rad rad2 received degree : ℕ) (c : Fraction) (s : StoredNumbers) (half : ℕ)
    (exact : CoupledPair) (y y2 mid new : Vector) (z : (k row : ℕ) → Fraction) : Type 0 where
  pub stands : StoredStandForPair s half exact
  pub dimension : half ≤ 12
  pub tame : IsTamePair kappa40 c exact
  pub step : IsStoredStep degree s mid new z
  pub stops : StoredMayStop degree s z
  pub first_start : IsStartNear Sup half (whole (pos 1)) rad y (take half mid)
  pub second_start : IsStartNear Sup half (whole (pos 1)) rad2 y2 (drop half mid)
  pub receives : c *ℚ whole (pos rad) ≤ℚ whole (pos received)

-- the promise of such a step for the first half
abbrev pub StoredFirstHalvesStayWithinTheirRadius : Type 0
StoredFirstHalvesStayWithinTheirRadius =
    (kappa40 rad rad2 received degree n : ℕ) (c : Fraction) (s : StoredNumbers) (half : ℕ) (exact : CoupledPair)
    (y y2 mid new : Vector) (z : (k row : ℕ) → Fraction)
    → IsStoredPairStep kappa40 rad rad2 received degree c s half exact y y2 mid new z → degree ≤ n
    → distance Sup (taylor_value exact.first y n) (take half new) ≤ℚ units (grow rad kappa40 1023)

-- and for the second half, which also takes over what it receives
abbrev pub StoredSecondHalvesStayWithinTheirRadius : Type 0
StoredSecondHalvesStayWithinTheirRadius =
    (kappa40 rad rad2 received degree n : ℕ) (c : Fraction) (s : StoredNumbers) (half : ℕ) (exact : CoupledPair)
    (y y2 mid new : Vector) (z : (k row : ℕ) → Fraction)
    → IsStoredPairStep kappa40 rad rad2 received degree c s half exact y y2 mid new z → degree ≤ n
    → distance Sup (second_taylor_value exact y y2 n) (drop half new)
    ≤ℚ units (grow rad2 kappa40 (received + 1023))
