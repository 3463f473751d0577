-- The three kinds of numbers of a table of moments: what they are, how they are printed, and how wide their ends may
-- be.
use Rattle.std.specs.Prelude.{ℕ, pos, ◌^◌}
use Rattle.frac_laws.specs.Fraction.{Fraction, whole, ◌-ℚ◌, ◌*ℚ◌}
use Rattle.frac_laws.specs.Ledger.{tolerance_first, tolerance_second, tolerance_variance}
use Rattle.fixed_interval.specs.Tables.{Form, millionths, whole_units}
use Rattle.model_specs.specs.Product.{Product}
use Rattle.model_specs.specs.Payments.{payment_plan}
use Rattle.model_specs.specs.Ledgers.{radius, second_radius, scale}
use Rattle.model_specs.specs.Rows.{variance}
use Rattle.model_specs.specs.Runs.{reserve, second_moment}
use Rattle.moment_equations.specs.declared.ends.Moment.{Moment}
use Rattle.moment_equations.specs.declared.ends.Moment.TheVariants.{First, Second, Variance}

-- the exact number of degree n at a date in a state
abbrev pub exact_of : Moment → Product → (n date state : ℕ) → Fraction
exact_of First product n date state = reserve product (payment_plan product) n date state
exact_of Second product n date state = second_moment product n date state
exact_of Variance product n date state = variance product n date state

-- first moments are in millionths, the others whole
abbrev pub form_of : Moment → Form
form_of First = millionths
form_of Second = whole_units
form_of Variance = whole_units

-- how far the ends may lie apart, by both radii and the scale
abbrev pub width_by : Moment → (w w2 g : ℕ) → ℕ
width_by First w w2 g = tolerance_first w g
width_by Second w w2 g = tolerance_second w2 g
width_by Variance w w2 g = tolerance_variance w2 w g

-- at a date
abbrev pub width_of : Moment → Product → ℕ → ℕ
width_of kind product date = width_by kind (radius product date) (second_radius product date)
    (scale product (payment_plan product))

-- the number itself, of a first moment y at the scale 2^g and a second one z at 4^g
abbrev pub number_of : Moment → ℕ → (y z : Fraction) → Fraction
number_of First g y z = whole (pos (2 ^ g)) *ℚ y
number_of Second g y z = whole (pos (4 ^ g)) *ℚ z
number_of Variance g y z = whole (pos (4 ^ g)) *ℚ (z -ℚ y *ℚ y)
