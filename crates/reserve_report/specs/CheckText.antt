-- The text of `check`: how exact each answer about a product will be. This product's own.
use Rattle.std.specs.Prelude.{ℕ, List, ◌++◌, codes, decimal, length}
use Rattle.frac_laws.specs.Ledger.{tolerance_first, tolerance_second, tolerance_variance}
use Rattle.model_specs.specs.Product.{Product}
use Rattle.model_specs.specs.Payments.{payment_plan, pattern_plan}
use Rattle.model_specs.specs.Ledgers.{bound1024, scale, radius, radius_forward, second_radius}
use Rattle.decimal_out.specs.Millionths.{millionths_of_size}

-- check NAME
abbrev pub name_line : Product → List ℕ
name_line p = codes "check " ++ p.name ++ codes "\n"

-- states A months M
abbrev pub states_and_months : Product → List ℕ
states_and_months p = codes "states " ++ decimal (length p.states) ++ codes " months " ++ decimal p.months

-- transitions T lumps L, and the line's end
abbrev pub transitions_and_lumps : Product → List ℕ
transitions_and_lumps p =
    codes " transitions " ++ decimal (length p.transitions) ++ codes " lumps " ++ decimal (length p.lumps) ++ codes "\n"

-- the scale of the payment plan, and its bound in 1/1024 minor units
abbrev pub scale_line : Product → List ℕ
scale_line p =
    codes "scale " ++ decimal (scale p (payment_plan p)) ++ codes " bound " ++ decimal (bound1024 p (payment_plan p))
    ++ codes "\n"

-- a line of a word and a number in millionths
abbrev pub width_line : List ℕ → ℕ → List ℕ
width_line word width = word ++ millionths_of_size width ++ codes "\n"

-- a line of a word and a whole number
abbrev pub whole_line : List ℕ → ℕ → List ℕ
whole_line word width = word ++ decimal width ++ codes "\n"

-- how wide a row may be, in millionths: of the value at date 0, and of an occupancy at the term
abbrev pub first_tolerances : Product → List ℕ
first_tolerances p =
    width_line (codes "tolerance value ") (tolerance_first (radius p 0) (scale p (payment_plan p)))
    ++ width_line (codes "tolerance occupancy ") (tolerance_first (radius_forward p p.months) 0)

-- how wide a row may be, in squared minor units: of a second moment, and of a variance, at date 0
abbrev pub second_tolerances : Product → List ℕ
second_tolerances p =
    whole_line (codes "tolerance second ") (tolerance_second (second_radius p 0) (scale p (payment_plan p)))
    ++ whole_line (codes "tolerance variance ")
    (tolerance_variance (second_radius p 0) (radius p 0) (scale p (payment_plan p)))

-- the scale of the premium pattern, and how wide a row of its value may be, in millionths
abbrev pub pattern_line : Product → List ℕ
pattern_line p =
    codes "pattern scale " ++ decimal (scale p (pattern_plan p)) ++ codes " tolerance "
    ++ millionths_of_size (tolerance_first (radius p 0) (scale p (pattern_plan p))) ++ codes "\n"

-- the whole text
abbrev pub check_text : Product → List ℕ
check_text p = name_line p ++ states_and_months p ++ transitions_and_lumps p ++ scale_line p ++ first_tolerances p
    ++ second_tolerances p ++ pattern_line p
