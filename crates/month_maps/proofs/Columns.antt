-- A column that is written row by row into a matrix that stands in a list.
use Rattle.std.proofs.Common.{◌≡◌, ◌≢◌, ℕ, ◌+◌, ◌*◌, ◌^◌, ◌<◌, ◌≤◌, FitsSigned, ℤ, pos, ◌-ℤ◌, List, length, set}
use Rattle.std.proofs.Common.{refl, sym, subst, ◌∙◌, arith}
use Rattle.std.proofs.Common.{inl, inr, get_or-set_other, get_or-set_same, below_more}
use Rattle.std.specs.Prelude.{slice_index_or, unsigned_abs}
use Rattle.std.specs.Int.{w128}
use Rattle.std.proofs.lemmas.Int.{ints, fits_signed_from_abs}
use Rattle.std.proofs.Math.Nat.{mul-le-mul_right}
use Rattle.std.proofs.lemmas.Bool.{cases_lt}
use Rattle.fixed_interval.specs.declared.interval.Interval.{Interval}
use Rattle.month_maps.specs.MadeMaps.{IsAround}
use Rattle.month_maps.specs.StoredMap.{interval_at, zero_interval}
use Rattle.month_maps.proofs.WrittenRows.{place_inside}

-- numbers of at most 2^65, and what two of them differ by
pub number_fits : (n : ℤ) → unsigned_abs n ≤ 2 ^ 65 → FitsSigned w128 n
number_fits n small = fits_signed_from_abs w128 n (omega arith)

pub difference_fits : (n m : ℤ) → unsigned_abs n ≤ 2 ^ 65 → unsigned_abs m ≤ 2 ^ 65 → FitsSigned w128 (n -ℤ m)
difference_fits n m first second = omega (arith, ints)

-- places of two rows are apart
rows_apart : (row next col other dim : ℕ) → row < next → col < dim → row * dim + col ≢ next * dim + other
rows_apart row next col other dim r c same =
    let rows : (row + 1) * dim ≤ next * dim = mul-le-mul_right dim (omega arith) in
    omega (arith, rows, same, c)

-- and so are those of two columns of one row
columns_apart : (row col other dim : ℕ) → other ≢ col → row * dim + other ≢ row * dim + col
columns_apart row col other dim ne same = ne (omega (arith, same))

-- the first n rows of a column are written, and all other columns are as they were
pub record HasColumn (dim : ℕ) (origin column : List ℤ) (col : ℕ) (old numbers : List Interval) (n : ℕ) : Type 0 where
  pub done : (row : ℕ) → row < n → IsAround 32
      (slice_index_or column row (pos 0) -ℤ slice_index_or origin row (pos 0))
      (interval_at numbers (row * dim + col))
  pub others : (row other : ℕ) → row < dim → other < dim → other ≢ col
      → interval_at numbers (row * dim + other) ≡ interval_at old (row * dim + other)

pub no_rows : (dim : ℕ) (origin column : List ℤ) (col : ℕ) (old : List Interval)
    → HasColumn dim origin column col old old 0
no_rows dim origin column col old = record {
  done = λ row h. absurd (omega arith);
  others = λ row other r c ne. refl;
}

pub column_more : (dim : ℕ) (origin column : List ℤ) (col : ℕ) (old numbers : List Interval) (n : ℕ) (a : Interval)
    → HasColumn dim origin column col old numbers n → col < dim → n < dim → length numbers ≡ dim * dim
    → IsAround 32 (slice_index_or column n (pos 0) -ℤ slice_index_or origin n (pos 0)) a
    → HasColumn dim origin column col old (set numbers (n * dim + col) a) (n + 1)
column_more dim origin column col old numbers n a so_far c r long is = record {
  done = below_more (λ row. IsAround 32 (slice_index_or column row (pos 0) -ℤ slice_index_or origin row (pos 0))
      (interval_at (set numbers (n * dim + col) a) (row * dim + col))) n
      (λ row h. subst (IsAround 32 (slice_index_or column row (pos 0) -ℤ slice_index_or origin row (pos 0)))
      (sym (get_or-set_other numbers (n * dim + col) (row * dim + col) a zero_interval
      (rows_apart row n col col dim h c))) (so_far.done row h))
      (subst (IsAround 32 (slice_index_or column n (pos 0) -ℤ slice_index_or origin n (pos 0)))
      (sym (get_or-set_same numbers (n * dim + col) a zero_interval
      (let place = place_inside n col dim r c in omega (arith, place, long)))) is);
  others = λ row other h o ne. get_or-set_other numbers (n * dim + col) (row * dim + other) a zero_interval
      (apart row other o ne) ∙ so_far.others row other h o ne;
}
  where
    apart : (row other : ℕ) → other < dim → other ≢ col → row * dim + other ≢ n * dim + col
    apart row other o ne = elim (cases_lt row n) [
      | inl less ↦ rows_apart row n other col dim less o
      | inr more ↦ elim (cases_lt n row) [
        | inl less ↦ λ same. rows_apart n row col other dim less c (sym same)
        | inr most ↦ let e : row ≡ n = omega (arith, more, most) in
            subst (λ k. k * dim + other ≢ n * dim + col) (sym e) (columns_apart n col other dim ne)
      ]
    ]
