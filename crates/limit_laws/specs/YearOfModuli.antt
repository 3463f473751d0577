-- The moduli of an annuity of 384 a year for a year without interest or transitions. Its scale is 10, and a month adds
-- 32 * 1024 to both radii. Over the last month a cell adds to the second radius 1024 and four times the cells after it.
use Rattle.std.specs.Prelude.{◌≡◌, ℕ, pos}
use Rattle.frac_laws.specs.Fraction.{Fraction, whole}
use Rattle.model_specs.specs.Payments.{payment_plan}
use Rattle.model_laws.specs.Examples.{flat_annuity}
use Rattle.limit_laws.specs.Modulus.{reserve_modulus, second_moment_modulus, probability_modulus}

-- two numbers of a modulus: at issue, and a month before the term
abbrev pub AtIssueAndLast : (ℕ → Fraction) → (issue last : ℕ) → Type 0
AtIssueAndLast modulus issue last = (modulus 0 ≡ whole (pos issue)) × (modulus 11 ≡ whole (pos last))

-- 2^10 (12 * 32768) / 2^13, and 2^10 32768 / 2^13
abbrev pub ReserveModuli : Type 0
ReserveModuli = AtIssueAndLast (reserve_modulus flat_annuity (payment_plan flat_annuity)) 49152 4096

-- 4^10 687360 / 2^13, and 4^10 (32768 + 4 * 496) / 2^13
abbrev pub SecondMomentModuli : Type 0
SecondMomentModuli = AtIssueAndLast (second_moment_modulus flat_annuity) 87982080 4448256

-- nothing, and 11 * 32768 / 2^13
abbrev pub ProbabilityModuli : Type 0
ProbabilityModuli = AtIssueAndLast (probability_modulus flat_annuity) 0 44
