-- A small step that meets the premises of the laws: an exact system whose numbers are no multiples of a unit,
-- the stored one, and its coefficients, which another program computed with exact fractions.
use Rattle.std.specs.Prelude.{ℕ, ℤ, pos, neg_ℤ, [], ◌∷◌, slice_index_or, ◌^◌, ◌≤◌}
use Rattle.frac_laws.specs.Fraction.{over, whole, ◌≤ℚ◌}
use Rattle.frac_laws.specs.Lists.{Vector}
use Rattle.frac_laws.specs.Norms.{Sup}
use Rattle.cell_laws.specs.Systems.{System, taylor_value}
use Rattle.cell_laws.specs.Tame.{IsTame}
use Rattle.cell_laws.specs.ErrorLaws.{distance}
use Rattle.cell_laws.specs.Samples.{plus, minus, two}
use Rattle.step_laws.specs.StandsFor.{units, StandsFor}
use Rattle.step_laws.specs.RoundedRuns.{IsRoundedStep, MayStop, HasWindow}
use Rattle.step_laws.specs.StepLaws.{IsStartNear}

-- two whole numbers of units
abbrev pub two_units : ℤ → ℤ → Vector
two_units n m = two (over n (2 ^ 64)) (over m (2 ^ 64))

-- two states with links both ways and payments, where both matrices have numbers
abbrev pub exact_system : System
exact_system = record {
  dimension = 2;
  matrices = (two (plus 1 900) (plus 1 600) ∷ two (plus 1 700) (minus 1 350) ∷ [])
      ∷ (two (plus 0 1) (plus 1 3000) ∷ two (minus 1 2300) (plus 0 1) ∷ []) ∷ [];
  free = two (plus 1 70) (minus 1 90) ∷ two (plus 0 1) (plus 1 1100) ∷ [];
}

-- each number rounded down to a unit
abbrev pub stored_system : System
stored_system = record {
  dimension = 2;
  matrices =
      (two_units (pos 20496382304121724) (pos 30744573456182586)
      ∷ two_units (pos 26352491533870788) (neg_ℤ (pos 52704983067741577)) ∷ [])
      ∷ (two_units (pos 0) (pos 6148914691236517)
      ∷ two_units (neg_ℤ (pos 8020323510308501)) (pos 0) ∷ []) ∷ [];
  free = two_units (pos 263524915338707880) (neg_ℤ (pos 204963823041217241))
      ∷ two_units (pos 0) (pos 16769767339735956) ∷ [];
}

-- the start (5/3, -6/7)
abbrev pub sample_start : Vector
sample_start = two (plus 5 3) (minus 6 7)

-- the same rounded down
abbrev pub sample_mid : Vector
sample_mid = two_units (pos 30744573456182586026) (neg_ℤ (pos 15811494920322472814))

-- the sum of its 25 coefficients
abbrev pub sample_new : Vector
sample_new = two_units (pos 31013312914999127191) (neg_ℤ (pos 15925343817427796593))

-- the coefficients, of which those past the list are not counted
abbrev pub sample_coefficients : ℕ → Vector
sample_coefficients k = slice_index_or
    (two_units (pos 30744573456182586026) (neg_ℤ (pos 15811494920322472814))
    ∷ two_units (pos 271333060978373298) (neg_ℤ (pos 115867304045749338))
    ∷ two_units (neg_ℤ (pos 2581064650659441)) (pos 2060614793946516)
    ∷ two_units (neg_ℤ (pos 12685308767950)) (neg_ℤ (pos 42515200710877))
    ∷ two_units (pos 150479535652) (pos 306388038597)
    ∷ two_units (neg_ℤ (pos 2698777472)) (pos 970985601)
    ∷ two_units (pos 16791502) (neg_ℤ (pos 12009255))
    ∷ two_units (pos 46043) (pos 175954)
    ∷ two_units (neg_ℤ (pos 458)) (neg_ℤ (pos 968))
    ∷ two_units (pos 6) (neg_ℤ (pos 2))
    ∷ two_units (neg_ℤ (pos 1)) (pos 0) ∷ two_units (neg_ℤ (pos 1)) (neg_ℤ (pos 1))
    ∷ two_units (neg_ℤ (pos 1)) (pos 0) ∷ two_units (neg_ℤ (pos 1)) (neg_ℤ (pos 1))
    ∷ two_units (neg_ℤ (pos 1)) (pos 0) ∷ two_units (neg_ℤ (pos 1)) (neg_ℤ (pos 1))
    ∷ two_units (neg_ℤ (pos 1)) (pos 0) ∷ two_units (neg_ℤ (pos 1)) (neg_ℤ (pos 1))
    ∷ two_units (neg_ℤ (pos 1)) (pos 0) ∷ two_units (neg_ℤ (pos 1)) (neg_ℤ (pos 1))
    ∷ two_units (neg_ℤ (pos 1)) (pos 0) ∷ two_units (neg_ℤ (pos 1)) (neg_ℤ (pos 1))
    ∷ two_units (neg_ℤ (pos 1)) (pos 0) ∷ two_units (neg_ℤ (pos 1)) (neg_ℤ (pos 1))
    ∷ two_units (neg_ℤ (pos 1)) (pos 0) ∷ []) k []

-- what the laws ask of a step: the stored system stands for the exact one
abbrev pub SampleStandsFor : Type 0
SampleStandsFor = StandsFor stored_system exact_system

-- the exact system is tame
abbrev pub SampleIsTame : Type 0
SampleIsTame = IsTame Sup 3249759265 exact_system

-- the coefficients and their sum are a rounded step of degree 24
abbrev pub SampleIsRounded : Type 0
SampleIsRounded = IsRoundedStep 24 stored_system sample_mid sample_new sample_coefficients

-- the rounded start is within a unit of the exact one
abbrev pub SampleStartIsNear : Type 0
SampleStartIsNear = IsStartNear Sup 2 (whole (pos 2)) 1 sample_start sample_mid

-- the sum of the first 11 coefficients: the run may stop at degree 10, since the numbers of the last one are at
-- most 64 units in size and those before at most 512, and nothing is stored above power 1
abbrev pub sample_early : Vector
sample_early = two_units (pos 31013312914999127205) (neg_ℤ (pos 15925343817427796586))

-- the run may stop at degree 10
abbrev pub SampleMayStop : Type 0
SampleMayStop = MayStop 10 stored_system sample_coefficients

-- at degree 9 it may not: a number of the coefficient before the last one is 968 units in size
abbrev pub SampleMayNotStopAtNine : Type 0
SampleMayNotStopAtNine = ¬ HasWindow 9 1 sample_coefficients

-- up to there it is a rounded step of degree 10
abbrev pub SampleIsRoundedEarly : Type 0
SampleIsRoundedEarly = IsRoundedStep 10 stored_system sample_mid sample_early sample_coefficients

-- so each Taylor value of degree 10 or more from the start is within 1025 units of that sum
abbrev pub SampleStaysNearEarly : Type 0
SampleStaysNearEarly =
    (n : ℕ) → 10 ≤ n → distance Sup (taylor_value exact_system sample_start n) sample_early ≤ℚ units 1025

-- so each Taylor value of degree 24 or more from the start is within 1025 units of the sum
abbrev pub SampleStaysNear : Type 0
SampleStaysNear =
    (n : ℕ) → 24 ≤ n → distance Sup (taylor_value exact_system sample_start n) sample_new ≤ℚ units 1025
