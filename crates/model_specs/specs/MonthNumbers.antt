-- The greatest intensities and interest of a month, as whole numerators over 2488320 den a year, by Bernstein
-- coefficients of degree five. This product's own.
use Rattle.std.specs.Prelude.{ℕ, suc, ◌+◌, ◌-◌, ◌*◌, ◌/◌, ◌^◌, ℤ, pos, neg_ℤ, ◌*ℤ◌, unsigned_abs, ◌==◌}
use Rattle.std.specs.Prelude.{filter, map, length, List, slice_index_or}
use Rattle.frac_laws.specs.Bernstein.{binomial}
use Rattle.named_numbers.specs.Numbers.{months_of_year, bernstein_unit}
use Rattle.whole_laws.specs.Whole.{list_of, places, whole_sum, greatest_whole, least_whole}
use Rattle.whole_laws.specs.Whole.{greatest_natural, natural_part}
use Rattle.model_specs.specs.Curve.{Piece, piece_at}
use Rattle.model_specs.specs.Product.{Product, transition_at}

-- the coefficient of t^i, 0 past the end of the list
abbrev pub coefficient_at : List ℤ → ℕ → ℤ
coefficient_at c i = slice_index_or c i (pos 0)

-- 12^5 times the coefficient of u^i in c((k + u) / 12): month k since the start of c, with u from 0 to 1
abbrev pub month_coefficient : List ℤ → ℕ → ℕ → ℤ
month_coefficient c k i = whole_sum (list_of (6 - i)
    (λ d. pos (binomial (i + d) i * k ^ d * months_of_year ^ (5 - (i + d))) *ℤ coefficient_at c (i + d)))

-- the Bernstein coefficient at j over that month, as a numerator over 2488320 = 10 * 12^5
abbrev pub bernstein_numerator : List ℤ → ℕ → ℕ → ℤ
bernstein_numerator c k j = whole_sum (list_of (suc j)
    (λ i. pos (binomial j i * (10 / binomial 5 i)) *ℤ month_coefficient c k i))

-- all six of them
abbrev pub bernstein_numerators : List ℤ → ℕ → List ℤ
bernstein_numerators c k = list_of 6 (bernstein_numerator c k)

-- those of a curve over a month of the term, over 2488320 den
abbrev pub curve_numerators : List Piece → ℕ → List ℤ
curve_numerators pieces month =
    let piece = piece_at pieces month in bernstein_numerators piece.c (month - piece.from)

-- the common denominator of the numbers of a month
abbrev pub month_unit : Product → ℕ
month_unit product = bernstein_unit * product.den

-- M_e: the greatest Bernstein coefficient of the intensity of transition e over a month
abbrev pub greatest_rate : Product → ℕ → ℕ → ℤ
greatest_rate product e month = greatest_whole (curve_numerators (transition_at product e).rate month)

-- the transitions out of a state, in the order of the file
abbrev pub exits : Product → ℕ → List ℕ
exits product state =
    filter (λ e. (transition_at product e).from == state) (places (length product.transitions))

-- rho: the greatest, over the states, of the sum of the greatest rates of the state's exits
abbrev pub rho : Product → ℕ → ℤ
rho product month = greatest_whole (list_of (length product.states)
    (λ i. whole_sum (map (λ e. greatest_rate product e month) (exits product i))))

-- iota: the greatest size of a Bernstein coefficient of the force of interest
abbrev pub iota : Product → ℕ → ℕ
iota product month = greatest_natural (map unsigned_abs (curve_numerators product.interest month))

-- nu: how far the least of them is below 0
abbrev pub nu : Product → ℕ → ℕ
nu product month = natural_part (neg_ℤ (least_whole (curve_numerators product.interest month)))
