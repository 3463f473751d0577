-- The ledgers of a valuation: the bound of its moments, and the radii of its errors. This product's own.
use Rattle.std.specs.Prelude.{ℕ, zero, suc, ◌+◌, ◌-◌, ◌*◌, ◌^◌, ℤ, List, [], ◌∷◌, map, length, unsigned_abs}
use Rattle.std.specs.Int.{div_ceil}
use Rattle.frac_laws.specs.Ledger.{grow, scale_of_bound}
use Rattle.named_numbers.specs.Numbers.{cells_of_month, pay_unit, cell_rounding}
use Rattle.whole_laws.specs.Whole.{greatest_natural}
use Rattle.model_specs.specs.Product.{Product}
use Rattle.model_specs.specs.Payments.{Plan, lumps_at, payment_plan}
use Rattle.model_specs.specs.Growth.{kappa40, pay, greatest_sum}

-- a ledger after some cells of one month, each of which adds the same
abbrev pub grow_cells : ℕ → ℕ → ℕ → ℕ → ℕ
grow_cells kappa add w zero = w
grow_cells kappa add w (suc cells) = grow (grow_cells kappa add w cells) kappa add

-- the greatest size of a date's lumps, in minor units
abbrev pub greatest_lump : Product → Plan → ℕ → ℕ
greatest_lump product plan date =
    greatest_natural (map (λ l. unsigned_abs l.1) (lumps_at (length product.states) plan date))

-- the bound ledger some months before the term, before that date's lumps, in 1/1024 minor units
abbrev pub bound_before_term : Product → Plan → ℕ → ℕ
bound_before_term product plan zero = pay_unit * greatest_sum product plan
bound_before_term product plan (suc months) =
    let month = product.months - suc months in
    grow_cells (kappa40 product month) (pay product plan month)
    (bound_before_term product plan months + pay_unit * greatest_lump product plan (suc month)) cells_of_month

-- B: the bound of a plan's moments, at issue with the lumps of date 0
abbrev pub bound1024 : Product → Plan → ℕ
bound1024 product plan =
    bound_before_term product plan product.months + pay_unit * greatest_lump product plan 0

-- the scale g of a plan: the moments are kept divided by 2^g, the second ones by 4^g
abbrev pub scale : Product → Plan → ℕ
scale product plan = scale_of_bound (bound1024 product plan)

-- the backward radius some months before the term, in units of 2^-64
abbrev pub radius_before_term : Product → ℕ → ℕ
radius_before_term product zero = 0
radius_before_term product (suc months) =
    grow_cells (kappa40 product (product.months - suc months)) cell_rounding (radius_before_term product months)
    cells_of_month

-- W: the backward radius at a date
abbrev pub radius : Product → ℕ → ℕ
radius product date = radius_before_term product (product.months - date)

-- Wf: the forward radius at a date
abbrev pub radius_forward : Product → ℕ → ℕ
radius_forward product zero = 0
radius_forward product (suc month) =
    grow_cells (kappa40 product month) cell_rounding (radius_forward product month) cells_of_month

-- the second radius after some cells of one month, whose pay is scaled by G, from the radii before them
abbrev pub second_grow_cells : ℕ → ℕ → ℕ → ℕ → ℕ → ℕ → ℕ
second_grow_cells kappa pay1024 G w second zero = second
second_grow_cells kappa pay1024 G w second (suc cells) =
    grow (second_grow_cells kappa pay1024 G w second cells) kappa
    (div_ceil (2 * pay1024 * grow_cells kappa cell_rounding w cells) (pay_unit * G) + cell_rounding)

-- what the lumps of a date with some lumps add to the second radius: 2 l W / G rounded up, and 4
abbrev pub date_adds : List (ℕ × ℤ) → ℕ → ℕ → ℕ → ℕ
date_adds [] largest w G = 0
date_adds (lump ∷ lumps) largest w G = div_ceil (2 * largest * w) G + 4

-- the second radius some months before the term, before that date's lumps, in units of 2^-64; G is 2^g
abbrev pub second_before_term : Product → Plan → ℕ → ℕ → ℕ
second_before_term product plan G zero = 0
second_before_term product plan G (suc months) =
    let month = product.months - suc months in
    let w = radius_before_term product months in
    let lumps = lumps_at (length product.states) plan (suc month) in
    let lumps_add = date_adds lumps (greatest_lump product plan (suc month)) w G in
    second_grow_cells (kappa40 product month) (pay product plan month) G w
    (second_before_term product plan G months + lumps_add) cells_of_month

-- Ws: the second radius of the payment plan at a date, before that date's lumps
abbrev pub second_radius : Product → ℕ → ℕ
second_radius product date =
    let plan = payment_plan product in
    second_before_term product plan (2 ^ scale product plan) (product.months - date)
