-- The fraction that a `Ratio` stands for.
use Rattle.std.specs.Prelude.{unsigned_abs}
use Rattle.frac_laws.specs.declared.ratio.Ratio.{Ratio}
use Rattle.frac_laws.specs.Fraction.{Fraction, over}

-- num / den, for a positive den
abbrev pub fraction_of : Ratio → Fraction
fraction_of r = over r.num (unsigned_abs r.den)
