-- Rows that are written number by number.
use Rattle.std.proofs.Common.{◌≡◌, ◌≢◌, ℕ, suc, zero, ◌+◌, ◌*◌, ◌<◌, ◌≤◌, ℤ, pos, ◌+ℤ◌, List, length, set}
use Rattle.std.proofs.Common.{refl, sym, ap, subst, ◌∙◌, arith, get_or-set_other, get_or-set_same, below_more}
use mathlib.Core.Path.{ap₂}
use Rattle.std.proofs.lemmas.Int.{ints}
use Rattle.std.proofs.Math.Nat.{mul-le-mul_right}
use Rattle.fixed_interval.specs.declared.interval.Interval.{Interval}
use Rattle.map_laws.specs.Maps.{IsSquareOf, total, product_lo, product_hi}
use Rattle.month_maps.specs.StoredMap.{interval_at, interval_map, zero_interval, IsProduct, IsFreeProduct}

-- a place of a square matrix
pub place_inside : (row col dim : ℕ) → row < dim → col < dim → row * dim + col < dim * dim
place_inside row col dim r c =
    let rows : (row + 1) * dim ≤ dim * dim = mul-le-mul_right dim (omega arith) in
    omega (arith, rows)

-- a place of an earlier row
place_before : (row col next dim : ℕ) → row < next → col < dim → row * dim + col < next * dim
place_before row col next dim r c =
    let rows : (row + 1) * dim ≤ next * dim = mul-le-mul_right dim (omega arith) in
    omega (arith, rows)

-- the first n numbers of a row are written, and what stands before the row is as it was
pub record HasRow (dim : ℕ) (numbers : List Interval) (row : ℕ) (old next : List Interval) (n : ℕ) : Type 0 where
  pub done : (col : ℕ) → col < n → IsProduct dim numbers row col (interval_at next (row * dim + col))
  pub before : (k : ℕ) → k < row * dim → interval_at next k ≡ interval_at old k

pub has_row-more : (dim : ℕ) (numbers : List Interval) (row : ℕ) (old next : List Interval) (n : ℕ) (a : Interval)
    → HasRow dim numbers row old next n → row * dim + n < length next → IsProduct dim numbers row n a
    → HasRow dim numbers row old (set next (row * dim + n) a) (n + 1)
has_row-more dim numbers row old next n a so_far in_range is = record {
  done = below_more _ n
      (λ col h. let ne : row * dim + col ≢ row * dim + n = omega arith in
      let P : Interval → Type 0 = λ z. IsProduct dim numbers row col z in
      subst P (sym (get_or-set_other next (row * dim + n) (row * dim + col) a zero_interval ne)) (so_far.done col h))
      (let P : Interval → Type 0 = λ z. IsProduct dim numbers row n z in
      subst P (sym (get_or-set_same next (row * dim + n) a zero_interval in_range)) is);
  before = λ k h. let ne : k ≢ row * dim + n = omega arith in
      get_or-set_other next (row * dim + n) k a zero_interval ne ∙ so_far.before k h;
}

-- one more row
pub has_rows-more : (dim : ℕ) (numbers old next : List Interval) (n : ℕ)
    → ((row col : ℕ) → row < n → col < dim → IsProduct dim numbers row col (interval_at old (row * dim + col)))
    → ((col : ℕ) → col < dim → IsProduct dim numbers n col (interval_at next (n * dim + col)))
    → ((k : ℕ) → k < n * dim → interval_at next k ≡ interval_at old k)
    → (row col : ℕ) → row < n + 1 → col < dim → IsProduct dim numbers row col (interval_at next (row * dim + col))
has_rows-more dim numbers old next n so_far here before row col r c =
    below_more (λ i. IsProduct dim numbers i col (interval_at next (i * dim + col))) n
    (λ i h. let P : Interval → Type 0 = λ z. IsProduct dim numbers i col z in
    subst P (sym (before (i * dim + col) (place_before i col n dim h c))) (so_far i col h c))
    (here col c) row r

nothing_added : (s t : ℤ) → s ≡ pos 0 → s +ℤ t ≡ t
nothing_added s t e = omega (arith, ints)

-- from a zero, a row's products are the product's number
pub product_of_zero : (dim : ℕ) (numbers : List Interval) (row col : ℕ) (zero_start a : Interval)
    → zero_start.lo ≡ pos 0 → zero_start.hi ≡ pos 0
    → a.lo ≡ zero_start.lo
    +ℤ total dim (λ l. product_lo (interval_at numbers (row * dim + l)) (interval_at numbers (l * dim + col)))
    → a.hi ≡ zero_start.hi
    +ℤ total dim (λ l. product_hi (interval_at numbers (row * dim + l)) (interval_at numbers (l * dim + col)))
    → IsProduct dim numbers row col a
product_of_zero dim numbers row col zero_start a lo_zero hi_zero lo hi = record {
  lo = lo ∙ nothing_added zero_start.lo _ lo_zero;
  hi = hi ∙ nothing_added zero_start.hi _ hi_zero;
}

-- ---- free numbers

pub total-ext : (n : ℕ) (f g : ℕ → ℤ) → ((l : ℕ) → f l ≡ g l) → total n f ≡ total n g
total-ext zero f g h = refl
total-ext (suc n) f g h = ap₂ ◌+ℤ◌ (total-ext n f g h) (h n)

one_by_one : (l : ℕ) → l * 1 + 0 ≡ l
one_by_one l = omega arith

pub free_product : (dim : ℕ) (numbers free : List Interval) (row : ℕ) (start a : Interval)
    → start ≡ interval_at free row
    → a.lo ≡ start.lo
    +ℤ total dim (λ l. product_lo (interval_at numbers (row * dim + l)) (interval_at free (l * 1 + 0)))
    → a.hi ≡ start.hi
    +ℤ total dim (λ l. product_hi (interval_at numbers (row * dim + l)) (interval_at free (l * 1 + 0)))
    → IsFreeProduct dim numbers free row a
free_product dim numbers free row start a start_is lo hi = record {
  lo = lo ∙ ap₂ ◌+ℤ◌ (ap (λ s. s.lo) start_is)
      (total-ext dim _ _ (λ l. ap (λ k. product_lo (interval_at numbers (row * dim + l)) (interval_at free k))
      (one_by_one l)));
  hi = hi ∙ ap₂ ◌+ℤ◌ (ap (λ s. s.hi) start_is)
      (total-ext dim _ _ (λ l. ap (λ k. product_hi (interval_at numbers (row * dim + l)) (interval_at free k))
      (one_by_one l)));
}

-- one more interval is written, of which something is to hold
pub intervals_more : (P : ℕ → Interval → Type 0) (next : List Interval) (n : ℕ) (a : Interval)
    → ((row : ℕ) → row < n → P row (interval_at next row)) → n < length next → P n a
    → (row : ℕ) → row < n + 1 → P row (interval_at (set next n a) row)
intervals_more P next n a so_far in_range is =
    below_more (λ i. P i (interval_at (set next n a) i)) n
    (λ i h. let ne : i ≢ n = omega arith in
    subst (P i) (sym (get_or-set_other next n i a zero_interval ne)) (so_far i h))
    (subst (P n) (sym (get_or-set_same next n a zero_interval in_range)) is)

-- written numbers make a squared map
pub squared : (d : ℕ) (numbers free next next_free : List Interval)
    → ((row col : ℕ) → row < d → col < d → IsProduct d numbers row col (interval_at next (row * d + col)))
    → ((row : ℕ) → row < d → IsFreeProduct d numbers free row (interval_at next_free row))
    → IsSquareOf d (interval_map d numbers free) (interval_map d next next_free)
squared d numbers free next next_free rows frees = record {
  at_lo = λ row col r c. (rows row col r c).lo;
  at_hi = λ row col r c. (rows row col r c).hi;
  free_lo = λ row r. (frees row r).lo;
  free_hi = λ row r. (frees row r).hi;
}

-- the same where the lists are read and written under other names
pub squared_by : (d : ℕ) (numbers numbers2 numbers3 free free2 next new next_free new_free : List Interval)
    → numbers2 ≡ numbers → numbers3 ≡ numbers → free2 ≡ free → new ≡ next → new_free ≡ next_free
    → ((row col : ℕ) → row < d → col < d → IsProduct d numbers2 row col (interval_at next (row * d + col)))
    → ((row : ℕ) → row < d → IsFreeProduct d numbers3 free2 row (interval_at next_free row))
    → IsSquareOf d (interval_map d numbers free) (interval_map d new new_free)
squared_by d numbers numbers2 numbers3 free free2 next new next_free new_free e f g h k rows frees =
    let P : List Interval → Type 0 = λ xs. (row col : ℕ) → row < d → col < d
    → IsProduct d xs row col (interval_at next (row * d + col)) in
    let Q : List Interval → Type 0 = λ xs. (row : ℕ) → row < d
    → IsFreeProduct d xs free2 row (interval_at next_free row) in
    let R : List Interval → Type 0 = λ xs. (row : ℕ) → row < d
    → IsFreeProduct d numbers xs row (interval_at next_free row) in
    let S : List Interval → Type 0 = λ xs. IsSquareOf d (interval_map d numbers free) (interval_map d xs new_free) in
    let T : List Interval → Type 0 = λ xs. IsSquareOf d (interval_map d numbers free) (interval_map d next xs) in
    subst S (sym h) (subst T (sym k)
    (squared d numbers free next next_free (subst P e rows) (subst R g (subst Q f frees))))
