-- Sums of products stay within 128 bits.
use Rattle.std.specs.Prelude.{◌≡◌, ℕ, zero, suc, pos, negsuc, ◌+◌, ◌-◌, ◌*◌, ◌^◌, ◌<◌, ◌≤◌, ℤ, ◌+ℤ◌, ◌*ℤ◌, ◌-ℤ◌}
use Rattle.std.specs.Prelude.{neg_ℤ, unsigned_abs}
use Rattle.std.specs.Prelude.{List, slice_index_or}
use Rattle.std.proofs.Common.{refl, arith, add-one, FitsSigned, ◌⊎◌, inl, inr}
use Rattle.std.specs.Int.{w128, int_shr}
use Rattle.std.proofs.Math.Nat.{mul-le-mul_left}
use Rattle.std.proofs.lemmas.Int.{ints, unsigned_abs-mul, fits_signed_from_abs}
use Rattle.cell_coeffs.specs.Products.{products_to, sizes_to}
use Rattle.whole_laws.proofs.Numbers.{size_of_sum}

pub size_of_opposite : (z : ℤ) → unsigned_abs (neg_ℤ z) ≡ unsigned_abs z
size_of_opposite z = grind (arith, ints)

pub term_size : (r s : ℤ) → unsigned_abs s ≤ 2 ^ 64 → unsigned_abs (r *ℤ s) ≤ unsigned_abs r * 2 ^ 64
term_size r s small = rw (unsigned_abs-mul r s) (mul-le-mul_left (unsigned_abs r) small)

pub sizes_mono : (rate : List ℤ) (a b : ℕ) → a ≤ b → sizes_to rate a ≤ sizes_to rate b
sizes_mono rate zero b order = omega arith
sizes_mono rate (suc a) zero order = absurd (omega arith)
sizes_mono rate (suc a) (suc b) order =
    choose (grind (arith, order)) (λ less. sizes_mono rate (suc a) b less)
  where
    choose : (a ≡ b) ⊎ (suc a ≤ b) → (suc a ≤ b → sizes_to rate (suc a) ≤ sizes_to rate b)
        → sizes_to rate (suc a) ≤ sizes_to rate (suc b)
    choose (inl same) later = rw same (omega arith)
    choose (inr less) later = omega (arith, later less)

pub products_more : (rate sum : List ℤ) (m k : ℕ) → products_to rate sum m (k + 1)
    ≡ products_to rate sum m k +ℤ (slice_index_or rate k (pos 0) *ℤ slice_index_or sum (m - k) (pos 0))
products_more rate sum m k = rw add-one refl

-- a shift by 64 places
pub shifted_size : (z : ℤ) → unsigned_abs z < 2 ^ 127 → unsigned_abs (int_shr z 64) ≤ 2 ^ 63
shifted_size (pos n) small = omega (arith, small)
shifted_size (negsuc n) small = omega (arith, small)

-- one term more
pub product_size : (rate : List ℤ) (a : ℕ) (total r s : ℤ) → r ≡ slice_index_or rate a (pos 0) → unsigned_abs s ≤ 2 ^ 64
    → unsigned_abs total ≤ sizes_to rate a * 2 ^ 64 → unsigned_abs (total +ℤ (r *ℤ s)) ≤ sizes_to rate (a + 1) * 2 ^ 64
product_size rate a total r s is small so_far =
    rw (add-one, ← is) (omega (arith, size_of_sum total (r *ℤ s), term_size r s small))

-- below 2^127
pub sum_fits_to : (n : ℕ) (rate : List ℤ) (a : ℕ) (total : ℤ) → a ≤ n → sizes_to rate n < 2 ^ 63
    → unsigned_abs total ≤ sizes_to rate a * 2 ^ 64 → FitsSigned w128 total
sum_fits_to n rate a total few small so_far =
    fits_signed_from_abs w128 total (omega (arith, sizes_mono rate a n few))

pub sum_fits : (rate : List ℤ) (a : ℕ) (total : ℤ) → a ≤ 9 → sizes_to rate 9 < 2 ^ 63
    → unsigned_abs total ≤ sizes_to rate a * 2 ^ 64 → FitsSigned w128 total
sum_fits = sum_fits_to 9

pub term_fits_to : (n : ℕ) (rate : List ℤ) (a : ℕ) (r s : ℤ) → r ≡ slice_index_or rate a (pos 0) → a < n
    → sizes_to rate n < 2 ^ 63 → unsigned_abs s ≤ 2 ^ 64 → FitsSigned w128 (r *ℤ s)
term_fits_to n rate a r s is few rates small =
    fits_signed_from_abs w128 (r *ℤ s) (omega (
      arith,
      sizes_mono rate (suc a) n (omega (arith, few)),
      term_size r s small,
      is_abs,
    ))
  where
    is_abs : unsigned_abs r ≤ sizes_to rate (suc a)
    is_abs = rw is (omega arith)

pub term_fits : (rate : List ℤ) (a : ℕ) (r s : ℤ) → r ≡ slice_index_or rate a (pos 0) → a < 9 → sizes_to rate 9 < 2 ^ 63
    → unsigned_abs s ≤ 2 ^ 64 → FitsSigned w128 (r *ℤ s)
term_fits = term_fits_to 9

pub opposite_fits : (z : ℤ) → unsigned_abs z ≤ 2 ^ 65 - 64 → FitsSigned w128 (neg_ℤ z)
opposite_fits z small = fits_signed_from_abs w128 (neg_ℤ z) (rw (size_of_opposite z) (omega arith))

pub minus_is : (z : ℤ) → pos 0 -ℤ z ≡ neg_ℤ z
minus_is (pos zero) = refl
minus_is (pos (suc n)) = omega (arith, ints)
minus_is (negsuc n) = omega (arith, ints)
