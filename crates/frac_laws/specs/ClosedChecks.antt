-- Three closed statements, computed by hand or by another program.
use Rattle.std.specs.Prelude.{◌≡◌, ℕ, zero, suc, pos, negsuc, List, [], ◌∷◌}
use Rattle.frac_laws.specs.Fraction.{Fraction, over, whole, divided_by, ◌*ℚ◌, ◌<ℚ◌}
use Rattle.frac_laws.specs.Sums.{sum_to}
use Rattle.frac_laws.specs.ListProducts.{product_of_lists}

-- the Taylor coefficients of the solution of y' = a y from 1
abbrev pub taylor_coefficient : Fraction → ℕ → Fraction
taylor_coefficient a zero = whole (pos 1)
taylor_coefficient a (suc k) = divided_by (a *ℚ taylor_coefficient a k) (suc k)

-- 1 - 1/2 + 1/8 - 1/48 = 29/48
abbrev pub ThirdTaylorValue : Type 0
ThirdTaylorValue = sum_to 4 (taylor_coefficient (over (negsuc 0) 2)) ≡ over (pos 29) 48

-- two quotients with 20 digits above and below
abbrev pub LongQuotientsAreOrdered : Type 0
LongQuotientsAreOrdered = over (pos 12345678901234567890) 98765432109876543211
    <ℚ over (pos 12345678901234567891) 98765432109876543212

-- 1, 1/2, .., 1/10
abbrev pub harmonic : List Fraction
harmonic = over (pos 1) 1 ∷ over (pos 1) 2 ∷ over (pos 1) 3 ∷ over (pos 1) 4 ∷ over (pos 1) 5 ∷
    over (pos 1) 6 ∷ over (pos 1) 7 ∷ over (pos 1) 8 ∷ over (pos 1) 9 ∷ over (pos 1) 10 ∷ []

-- 1, -1/2, .., -1/10
abbrev pub alternating : List Fraction
alternating = over (pos 1) 1 ∷ over (negsuc 0) 2 ∷ over (pos 1) 3 ∷ over (negsuc 0) 4 ∷ over (pos 1) 5 ∷
    over (negsuc 0) 6 ∷ over (pos 1) 7 ∷ over (negsuc 0) 8 ∷ over (pos 1) 9 ∷ over (negsuc 0) 10 ∷ []

-- (1 + x/2 + .. + x^9/10) (1 - x/2 + .. - x^9/10), coefficient by coefficient
abbrev pub ProductOfTenTerms : Type 0
ProductOfTenTerms = product_of_lists harmonic alternating ≡
    over (pos 1) 1 ∷ over (pos 0) 1 ∷ over (pos 5) 12 ∷ over (pos 0) 1 ∷ over (pos 47) 180 ∷
    over (pos 0) 1 ∷ over (pos 319) 1680 ∷ over (pos 0) 1 ∷ over (pos 1879) 12600 ∷ over (pos 0) 1 ∷
    over (negsuc 892) 15120 ∷ over (pos 0) 1 ∷ over (negsuc 472) 17640 ∷ over (pos 0) 1 ∷
    over (negsuc 346) 20160 ∷ over (pos 0) 1 ∷ over (negsuc 40) 3240 ∷ over (pos 0) 1 ∷
    over (negsuc 0) 100 ∷ []
