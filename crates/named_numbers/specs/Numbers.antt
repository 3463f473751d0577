-- The named numbers: lengths of time, limits of a product file, units, and the degrees of a step. A number that
-- follows from others is written as what it follows from.
use Rattle.std.specs.Prelude.{ℕ, ◌+◌, ◌*◌, ◌^◌}

-- the months of a year
abbrev pub months_of_year : ℕ
months_of_year = 12

-- the cells of a month: a cell is the stretch of time of one Taylor step
abbrev pub cells_of_month : ℕ
cells_of_month = 32

-- the cells of a year: a cell is 1/384 of a year long
abbrev pub cells_of_year : ℕ
cells_of_year = months_of_year * cells_of_month

-- the cells of half a year: two cells are 1/192 of a year long
abbrev pub cells_of_half_year : ℕ
cells_of_half_year = 6 * cells_of_month

-- the cells of two years: half a cell is 1/768 of a year long
abbrev pub cells_of_two_years : ℕ
cells_of_two_years = 2 * cells_of_year

-- the longest term of a product, in months
abbrev pub most_months : ℕ
most_months = 1200

-- the cells of the longest term
abbrev pub most_cells : ℕ
most_cells = most_months * cells_of_month

-- the most states of a product
abbrev pub most_states : ℕ
most_states = 12

-- the most states of a product in the first format of files
abbrev pub most_states_of_format_1 : ℕ
most_states_of_format_1 = 8

-- the longest name of a product, in bytes
abbrev pub longest_product_name : ℕ
longest_product_name = 40

-- the longest name of a state, in bytes
abbrev pub longest_state_name : ℕ
longest_state_name = 24

-- the greatest denominator of a product's curves
abbrev pub most_denominator : ℕ
most_denominator = 10 ^ 12

-- the greatest size of a coefficient times its power of the months that it holds for
abbrev pub most_coefficient : ℕ
most_coefficient = 10 ^ 22

-- the greatest size of a Bernstein coefficient of a payment, in minor units (a year, for a sojourn)
abbrev pub most_amount : ℕ
most_amount = 10 ^ 12

-- the greatest size of a lump sum, in minor units
abbrev pub most_lump : ℕ
most_lump = 10 ^ 12

-- the greatest number of months between two dates of a premium pattern
abbrev pub most_every : ℕ
most_every = most_months

-- the longest product file, in bytes
abbrev pub most_file_bytes : ℕ
most_file_bytes = 2 ^ 20

-- the least common denominator of the weights of Bernstein coefficients of degree five over a month, per 1 / den
abbrev pub bernstein_unit : ℕ
bernstein_unit = 10 * months_of_year ^ 5

-- bounds of moments are kept in 1/1024 minor units
abbrev pub pay_unit : ℕ
pay_unit = 1024

-- how far a rounded Taylor step may be off, in units of 2^-64
abbrev pub step_rounding : ℕ
step_rounding = 1023

-- what the ledger of radii counts for a cell, in units of 2^-64: a step's rounding and one unit to spare
abbrev pub cell_rounding : ℕ
cell_rounding = step_rounding + 1

-- the least degree that a step answers
abbrev pub least_degree : ℕ
least_degree = 8

-- the highest degree that a step answers
abbrev pub highest_degree : ℕ
highest_degree = 24

-- the greatest bound of a product's moments, in 1/1024 minor units
abbrev pub most_bound : ℕ
most_bound = 2 ^ 66
