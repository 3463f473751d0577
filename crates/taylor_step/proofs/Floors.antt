-- The whole-number run is a rounded run: each floor leaves out at least 0 and less than k + 1 units.
use Rattle.std.specs.Prelude.{◌≡◌, ℕ, suc, zero, pos, ℤ, ◌+ℤ◌, ◌*ℤ◌, ◌<ℤ◌, List, [], ◌∷◌, length, refl, ◌<◌}
use Rattle.std.specs.Prelude.{◌*◌, ◌^◌, slice_index_or}
use Rattle.std.proofs.Common.{ap, sym, ◌∙◌, arith, ◌++◌}
use Rattle.std.proofs.lemmas.Int.{ints}
use mathlib.Core.Path.{ap₂}
use Rattle.frac_laws.specs.Fraction.{Fraction, whole, ◌+ℚ◌, ◌*ℚ◌, ◌-ℚ◌, opposite, ◌≤ℚ◌, ◌<ℚ◌}
use Rattle.frac_laws.specs.Rounding.{floor_of}
use Rattle.frac_laws.specs.Sums.{sum_to}
use Rattle.frac_laws.proofs.FractionTerms.{ring, terms}
use Rattle.frac_laws.proofs.Linear.{linear, linear_lt, claims, ◌⊞◌, ◌⊠◌, ◌·◌}
use Rattle.frac_laws.proofs.Order.{add_lt_le, le_of_lt}
use Rattle.frac_laws.proofs.Positive.{mul_lt, mul_positive, over_positive}
use Rattle.frac_laws.proofs.Quotients.{whole_le, whole_lt, whole_add, whole_mul, inverse}
use Rattle.frac_laws.proofs.RoundingLaws.{floor_low, floor_high}
use Rattle.fixed_num.specs.Products.{sum_of_products}
use Rattle.linear_system.specs.StoredSystem.{StoredSystem, IsSystem, row_of, dim_of}
use Rattle.linear_system.specs.StandsFor.{units}
use Rattle.taylor_step.specs.RoundedRun.{IsRoundedRun, IsRoundedValue, left_out}
use Rattle.taylor_step.specs.WholeRun.{strip, past, coefficient, value_to}
use Rattle.taylor_step.proofs.Scaled.{unit, units_is, exact_sum}

pub one_per_unit : whole (pos (2 ^ 64)) *ℚ unit ≡ whole (pos 1)
one_per_unit = inverse (2 ^ 64) (omega arith)

unit_positive : whole (pos 0) <ℚ unit *ℚ unit
unit_positive = mul_positive unit unit (over_positive 1 (2 ^ 64) (omega arith) (omega arith))
    (over_positive 1 (2 ^ 64) (omega arith) (omega arith))

-- x is a sum of products, q its floor by p w, where p units are 1
no_less_left : (x q p w u : Fraction) → q *ℚ (p *ℚ w) ≤ℚ x → p *ℚ u ≡ whole (pos 1) → whole (pos 0) ≤ℚ u *ℚ u
    → whole (pos 0) ≤ℚ x *ℚ (u *ℚ u) -ℚ w *ℚ (q *ℚ u)
no_less_left x q p w u h e k =
    linear (x ∷ q ∷ p ∷ w ∷ u ∷ []) (h ⊠ k ⊞ opposite (q *ℚ w *ℚ u) · e) (hlevel claims) refl

less_than_one_left : (x q p w u : Fraction) → x <ℚ q *ℚ (p *ℚ w) +ℚ p *ℚ w → p *ℚ u ≡ whole (pos 1)
    → whole (pos 0) <ℚ u *ℚ u → x *ℚ (u *ℚ u) -ℚ w *ℚ (q *ℚ u) <ℚ w *ℚ u
less_than_one_left x q p w u h e k =
    linear_lt (x ∷ q ∷ p ∷ w ∷ u ∷ []) (add_lt_le (mul_lt k h) ((q *ℚ w *ℚ u +ℚ w *ℚ u) · e)) (hlevel claims)
    refl

divisor : ℕ → ℕ
divisor k = 2 ^ 64 * suc k

divisor_is : (k : ℕ) → whole (pos (2 ^ 64 * suc k)) ≡ whole (pos (2 ^ 64)) *ℚ whole (pos (suc k))
divisor_is k = whole_mul (pos (2 ^ 64)) (pos (suc k))

positive : (k : ℕ) → pos 0 <ℤ pos (2 ^ 64 * suc k)
positive k = omega (arith, ints)

floor_below : (z : ℤ) (k : ℕ)
    → whole (floor_of z (pos (2 ^ 64 * suc k))) *ℚ (whole (pos (2 ^ 64)) *ℚ whole (pos (suc k))) ≤ℚ whole z
floor_below z k =
    rw (← divisor_is k, ← whole_mul (floor_of z (pos (2 ^ 64 * suc k))) (pos (2 ^ 64 * suc k)))
    (whole_le (floor_low z (pos (2 ^ 64 * suc k)) (positive k)))

floor_above : (z : ℤ) (k : ℕ)
    → whole z <ℚ whole (floor_of z (pos (2 ^ 64 * suc k))) *ℚ (whole (pos (2 ^ 64)) *ℚ whole (pos (suc k)))
    +ℚ whole (pos (2 ^ 64)) *ℚ whole (pos (suc k))
floor_above z k =
    rw (
      ← divisor_is k,
      ← whole_mul (floor_of z (pos (2 ^ 64 * suc k))) (pos (2 ^ 64 * suc k)),
      ← whole_add (floor_of z (pos (2 ^ 64 * suc k)) *ℤ pos (2 ^ 64 * suc k)) (pos (2 ^ 64 * suc k)),
    )
    (whole_lt (floor_high z (pos (2 ^ 64 * suc k)) (positive k)))

module _ (s : StoredSystem) (mid : List ℤ) (sys : IsSystem s) (long : length mid ≡ dim_of s) where
  exact : ℕ → ℕ → ℤ
  exact k i = sum_of_products (row_of s i).numbers (strip (row_of s i).columns (past s mid k) (suc s.degree))

  left_is : (k i : ℕ) → i < dim_of s → left_out s (coefficient s mid) k i
      ≡ whole (exact k i) *ℚ (unit *ℚ unit) -ℚ whole (pos (suc k)) *ℚ
      (whole (coefficient s mid (suc k) i) *ℚ unit)
  unfolding exact
  left_is k i b =
      ap₂ (λ x y. x -ℚ whole (pos (suc k)) *ℚ y)
      (sym (exact_sum s mid sys long i b ((sys.each i b).columns.distinct) k))
      (units_is (coefficient s mid (suc k) i))

  low_at : (k i : ℕ) → i < dim_of s → whole (pos 0) ≤ℚ left_out s (coefficient s mid) k i
  unfolding exact past
  low_at k i b = rw (left_is k i b) (no_less_left (whole (exact k i)) _ (whole (pos (2 ^ 64))) _ unit
      (floor_below (exact k i) k) one_per_unit (le_of_lt unit_positive))

  high_at : (k i : ℕ) → i < dim_of s → left_out s (coefficient s mid) k i <ℚ whole (pos (suc k)) *ℚ units
      (pos 1)
  unfolding exact past
  high_at k i b = rw (left_is k i b) (less_than_one_left (whole (exact k i)) _ (whole (pos (2 ^ 64))) _ unit
      (floor_above (exact k i) k) one_per_unit unit_positive)

  starts_at : (i : ℕ) → i < dim_of s → coefficient s mid 0 i ≡ slice_index_or mid i (pos 0)
  unfolding past
  starts_at i b = before_end mid i (dim_of s) long b
    where
      before_end : (l : List ℤ) (i d : ℕ) → length l ≡ d → i < d
          → slice_index_or (l ++ pos (2 ^ 64) ∷ []) i (pos 0) ≡ slice_index_or l i (pos 0)
      before_end [] i d l b = absurd (omega arith)
      before_end (x ∷ l) zero d e b = refl
      before_end (x ∷ l) (suc i) zero e b = absurd (omega arith)
      before_end (x ∷ l) (suc i) (suc d) e b = before_end l i d (omega arith) (omega arith)

  pub rounded_run : (degree : ℕ) → IsRoundedRun s mid degree (coefficient s mid)
  rounded_run degree = record {
    first = starts_at;
    low = λ k i b c. low_at k i c;
    high = λ k i b c. high_at k i c;
  }

  pub total_is : (n i : ℕ) → i < dim_of s → units (value_to s mid n i) ≡ sum_to (suc n)
      (λ k. units (coefficient s mid k i))
  unfolding value_to
  total_is zero i b = ap units (sym (starts_at i b)) ∙ ring (units (coefficient s mid 0 i) ∷ [])
      (hlevel terms) refl
  total_is (suc n) i b =
      units_is (value_to s mid n i +ℤ coefficient s mid (suc n) i)
      ∙ ap (λ x. x *ℚ unit) (whole_add (value_to s mid n i) (coefficient s mid (suc n) i))
      ∙ ring (whole (value_to s mid n i) ∷ whole (coefficient s mid (suc n) i) ∷ unit ∷ []) (hlevel terms)
      refl
      ∙ ap₂ ◌+ℚ◌ (sym (units_is (value_to s mid n i)) ∙ total_is n i b)
      (sym (units_is (coefficient s mid (suc n) i)))

  abbrev pub rounded_value : (degree : ℕ) (value : List ℤ) → length value ≡ length mid
      → ((i : ℕ) → i < dim_of s → slice_index_or value i (pos 0) ≡ value_to s mid degree i)
      → IsRoundedValue s mid degree value
  rounded_value degree value rows h = record {
    coefficients = coefficient s mid;
    run = rounded_run degree;
    rows = rows;
    total = λ i b. ap units (h i b) ∙ total_is degree i b;
  }
