-- The degree limit: from which power on the coefficients of the stored numbers are small enough to stop.
use Rattle.std.specs.Prelude.{◌≡◌, ℕ, zero, suc, ◌*◌, ◌-◌, ◌^◌, ℤ, pos, unsigned_abs, List, slice_index_or}
use Rattle.std.specs.Prelude.{Bool, cond, nat_eq, nat_lt}
use Rattle.frac_laws.specs.Fraction.{Fraction, over, size, is_not_negative, ◌+ℚ◌, ◌*ℚ◌, ◌-ℚ◌}
use Rattle.frac_laws.specs.Sums.{sum_to}
use Rattle.whole_laws.specs.Whole.{holds_below}
use Rattle.linear_system.specs.StoredSystem.{StoredSystem, dim_of, stored_number, stored_free}
use Rattle.linear_system.specs.StandsFor.{units}

-- nothing but 0 is stored at a power, in any row and column, the free one among them
abbrev pub is_empty_at : StoredSystem → ℕ → Bool
is_empty_at s m = holds_below (dim_of s)
    (λ row. holds_below (suc (dim_of s)) (λ col. nat_eq (unsigned_abs (stored_number s row col m)) 0))

-- the greatest power up to n at which a number other than 0 is stored, and 0 where there is none
abbrev pub greatest_power_to : StoredSystem → ℕ → ℕ
greatest_power_to s zero = 0
greatest_power_to s (suc m) = cond (is_empty_at s (suc m)) (greatest_power_to s m) (suc m)

-- the greatest power of all at which a number other than 0 is stored
abbrev pub greatest_power : StoredSystem → ℕ
greatest_power s = greatest_power_to s s.degree

-- no number other than 0 is stored above power 0, as in a cell of constant rates and payments
abbrev pub IsConstant : StoredSystem → Type 0
IsConstant s = greatest_power s ≡ 0

-- y_(k+1) at a row: A_0 y_k + .. + A_k y_0 + g_k divided by k + 1, where `back` tells the coefficients by how many
-- powers they are back from power k
abbrev pub next_coefficient : StoredSystem → (back : ℕ → ℕ → Fraction) → (k row : ℕ) → Fraction
next_coefficient s back k row = over (pos 1) (suc k) *ℚ
    (sum_to (suc k) (λ m. sum_to (dim_of s) (λ col. units (stored_number s row col m) *ℚ back m col))
    +ℚ units (stored_free s row k))

-- the coefficients of the stored numbers themselves as one exact system over all rows, from a vector in units:
-- y_(k-m) at a row, by k, m and the row
unfoldable pub exact_back : StoredSystem → List ℤ → ℕ → ℕ → ℕ → Fraction
exact_back s mid zero m row = units (slice_index_or mid row (pos 0))
exact_back s mid (suc k) zero row = next_coefficient s (exact_back s mid k) k row
exact_back s mid (suc k) (suc m) row = exact_back s mid k m row

-- y_k at a row
abbrev pub exact_coefficient : StoredSystem → List ℤ → ℕ → ℕ → Fraction
exact_coefficient s mid k row = exact_back s mid k 0 row

-- each number of y_(k-m) is at most 32 * 8^m units in size
abbrev pub is_small_back : StoredSystem → List ℤ → ℕ → ℕ → Bool
is_small_back s mid k m = holds_below (dim_of s)
    (λ row. is_not_negative (units (pos (32 * 8 ^ m)) -ℚ size (exact_coefficient s mid (k - m) row)))

-- and so for each m from 0 to the greatest power
abbrev pub is_small_at : StoredSystem → List ℤ → ℕ → Bool
is_small_at s mid k = holds_below (suc (greatest_power s)) (is_small_back s mid k)

-- the least number from k to k + more for which a test holds, and k + more where there is none
abbrev pub least_from : (ℕ → Bool) → (k more : ℕ) → ℕ
least_from test k zero = k
least_from test k (suc more) = cond (test k) k (least_from test (suc k) more)

-- the greater one of 8 and d + 1
abbrev pub least_degree : ℕ → ℕ
least_degree d = cond (nat_lt d 8) 8 (suc d)

-- the least k from the greater one of 8 and d + 1 to 24, where d is the greatest power, from which the coefficients
-- are small so far back, and 24 where there is none
abbrev pub degree_limit : StoredSystem → List ℤ → ℕ
degree_limit s mid = least_from (is_small_at s mid) (least_degree (greatest_power s))
    (24 - least_degree (greatest_power s))
