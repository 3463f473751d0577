-- The greatest power at which a number is stored, from the numbers of the rows as they stand in memory.
use Rattle.std.specs.Prelude.{◌≡◌, ℕ, zero, suc, ◌+◌, ◌*◌, ◌/◌, ◌%◌, ◌<◌, ◌≤◌, ◌⊎◌, ℤ, max, pos, List, []}
use Rattle.std.specs.Prelude.{◌∷◌, refl, length, Bool, true, false, cond, nat_eq, unsigned_abs, slice_index_or}
use Rattle.std.proofs.Common.{ap, sym, ◌∙◌, arith, inl, inr}
use Rattle.std.proofs.lemmas.Int.{ints, to_z-of_z}
use Rattle.std.proofs.Common.{to_z, of_z, SFits, ◌^◌}
use mir.Syntax.{w64}
use Rattle.std.proofs.lemmas.Bool.{cases_lt}
use Rattle.std.proofs.lemmas.Nat.{mul-le}
use Rattle.std.proofs.Math.Nat.{div-mul-le_self, le-max_left, le-max_right}
use Rattle.whole_laws.specs.Whole.{holds_below}
use Rattle.whole_laws.proofs.Tests.{all_below_hold, holds_at_each}
use Rattle.linear_system.specs.StoredSystem.{StoredSystem, StoredRow, IsSystem, AreDistinct, also, dim_of, row_of}
use Rattle.linear_system.specs.StoredSystem.{place_of, number_in_row, stored_number}
use Rattle.linear_system.specs.DegreeLimit.{is_empty_at, greatest_power, greatest_power_to}
use Rattle.taylor_step.specs.Stops.{IsZeroFrom}
use Rattle.taylor_step.proofs.Scaled.{number_beyond}

-- a number other than 0 at a place is below each place from which on all is 0
pub power_of_place : (numbers : List ℤ) (columns p m : ℕ) → (slice_index_or numbers p (pos 0) ≡ pos 0 → ⊥)
    → IsZeroFrom numbers ((m + 1) * columns) → p / columns ≤ m
power_of_place numbers columns p m h zeros = elim (cases_lt m (p / columns)) [
  | inl b ↦ absurd (h (zeros p (below (p / columns) (div-mul-le_self p columns) b)))
  | inr b ↦ b
]
  where
    below : (q : ℕ) → q * columns ≤ p → m < q → (m + 1) * columns ≤ p
    below q h b = let e : (m + 1) * columns ≤ q * columns = mul-le (m + 1) columns q columns (omega arith) (omega arith)
        in omega (arith, e, h)

pub zero_longer : (numbers : List ℤ) (a b columns : ℕ) → a ≤ b → IsZeroFrom numbers ((a + 1) * columns)
    → IsZeroFrom numbers ((b + 1) * columns)
zero_longer numbers a b columns h zeros k l = zeros k
    (let e : (a + 1) * columns ≤ (b + 1) * columns = mul-le (a + 1) columns (b + 1) columns (omega arith) (omega arith)
    in omega (arith, e, l))

-- a place's column has that place
pub place_of-column : {bound : ℕ} (cs : List ℕ) (p : ℕ) → AreDistinct bound cs → p < length cs
    → place_of cs (slice_index_or cs p 0) ≡ p
place_of-column [] p d b = absurd (omega arith)
place_of-column (c ∷ cs) zero d b = here (nat_eq c c) (same c)
  where
    same : (c : ℕ) → nat_eq c c ≡ true
    same c = grind arith

    here : (t : Bool) → t ≡ true → cond t 0 (suc (place_of cs c)) ≡ 0
    here t e = rw e refl
place_of-column (c ∷ cs) (suc p) (also b1 e d) b =
    there (nat_eq c (slice_index_or cs p 0)) refl (place_of-column cs p d (omega arith))
  where
    equal : (x y : ℕ) → true ≡ nat_eq x y → x ≡ y
    equal x y h = grind arith

    there : (t : Bool) → t ≡ nat_eq c (slice_index_or cs p 0) → place_of cs (slice_index_or cs p 0) ≡ p
        → cond t 0 (suc (place_of cs (slice_index_or cs p 0))) ≡ suc p
    there true h k = absurd (let q : c ≡ slice_index_or cs p 0 = equal c (slice_index_or cs p 0) h in
        let f : place_of cs c ≡ p = ap (place_of cs) q ∙ k in omega (arith, e, f, b))
    there false h k = ap suc k

-- what is stored at a place
pub number_at_column : (r : StoredRow) (m p : ℕ) {bound : ℕ} → AreDistinct bound r.columns → p < length r.columns
    → number_in_row r (slice_index_or r.columns p 0) m
    ≡ slice_index_or r.numbers (m * length r.columns + p) (pos 0)
number_at_column r m p d b = rw (place_of-column r.columns p d b) (away (nat_eq p (length r.columns)) (differ p _ b))
  where
    differ : (p n : ℕ) → p < n → nat_eq p n ≡ false
    differ p n b = grind arith

    away : (t : Bool) → t ≡ false → cond t (pos 0) (slice_index_or r.numbers (m * length r.columns + p) (pos 0))
        ≡ slice_index_or r.numbers (m * length r.columns + p) (pos 0)
    away t e = rw e refl

-- zeros in memory above a power, and no stored number above it
pub none_above : (r : StoredRow) (t col m : ℕ) → IsZeroFrom r.numbers ((t + 1) * length r.columns) → t < m
    → number_in_row r col m ≡ pos 0
none_above r t col m zeros b = cases (nat_eq (place_of r.columns col) (length r.columns))
  where
    far : (w p : ℕ) → (t + 1) * w ≤ m * w + p
    far w p = let e : (t + 1) * w ≤ m * w = mul-le (t + 1) w m w (omega arith) (omega arith) in omega (arith, e)

    cases : (x : Bool) → cond x (pos 0)
        (slice_index_or r.numbers (m * length r.columns + place_of r.columns col) (pos 0)) ≡ pos 0
    cases true = refl
    cases false = zeros _ (far (length r.columns) (place_of r.columns col))

pub zeros_above : (r : StoredRow) (t dim : ℕ) → AreDistinct (suc dim) r.columns → 1 ≤ length r.columns
    → ((p : ℕ) → p < length r.columns → slice_index_or r.columns p 0 ≤ dim)
    → ((col m : ℕ) → col ≤ dim → t < m → number_in_row r col m ≡ pos 0)
    → IsZeroFrom r.numbers ((t + 1) * length r.columns)
zeros_above r t dim d some low none k b =
    let w = length r.columns in
    let e : k ≡ k / w * w + k % w = split k w some in
    let l : k % w < w = rest k w some in
    let g : t < k / w = above k w (k / w) (k % w) e l b in
    ap (λ i. slice_index_or r.numbers i (pos 0)) e
    ∙ sym (number_at_column r (k / w) (k % w) d l)
    ∙ none (slice_index_or r.columns (k % w) 0) (k / w) (low (k % w) l) g
  where
    split : (k w : ℕ) → 1 ≤ w → k ≡ k / w * w + k % w
    split k w h = omega arith

    rest : (k w : ℕ) → 1 ≤ w → k % w < w
    rest k w h = omega arith

    above : (k w q p : ℕ) → k ≡ q * w + p → p < w → (t + 1) * w ≤ k → t < q
    above k w q p e l h = elim (cases_lt t q) [
      | inl b ↦ b
      | inr b ↦ absurd (let f : (q + 1) * w ≤ (t + 1) * w = mul-le (q + 1) w (t + 1) w (omega arith) (omega arith) in
          let g : (q + 1) * w ≡ q * w + w = grind arith in omega (arith, e, l, h, f, g))
    ]

-- where a power is empty
module _ (s : StoredSystem) (m : ℕ) where
  pub empty_at : ((row col : ℕ) → row < dim_of s → col ≤ dim_of s → stored_number s row col m ≡ pos 0)
      → is_empty_at s m ≡ true
  empty_at h = all_below_hold (dim_of s) _ (λ row b. all_below_hold (suc (dim_of s)) _
      (λ col c. let e : stored_number s row col m ≡ pos 0 = h row col b (omega arith) in rw e refl))

  pub none_at : is_empty_at s m ≡ true → (row col : ℕ) → row < dim_of s → col ≤ dim_of s
      → stored_number s row col m ≡ pos 0
  none_at h row col b c = zero (stored_number s row col m)
      (holds_at_each (suc (dim_of s)) (λ col. nat_eq (unsigned_abs (stored_number s row col m)) 0)
      (holds_at_each (dim_of s) (λ row. holds_below (suc (dim_of s))
      (λ col. nat_eq (unsigned_abs (stored_number s row col m)) 0)) h row b) col (omega arith))
    where
      zero : (z : ℤ) → nat_eq (unsigned_abs z) 0 ≡ true → z ≡ pos 0
      zero z h = grind (arith, ints)

-- above the greatest power nothing is stored
pub empty_above_to : (s : StoredSystem) (n m : ℕ) → greatest_power_to s n < m → m ≤ n → is_empty_at s m ≡ true
empty_above_to s zero m b h = absurd (omega arith)
empty_above_to s (suc n) m b h =
    by_test (is_empty_at s (suc n)) refl (λ c d. empty_above_to s n m c d) b
  where
    by_test : (t : Bool) → t ≡ is_empty_at s (suc n)
        → (greatest_power_to s n < m → m ≤ n → is_empty_at s m ≡ true)
        → cond t (greatest_power_to s n) (suc n) < m → is_empty_at s m ≡ true
    by_test true e g b = elim (cases_lt n m) [
      | inl c ↦ (let q : m ≡ suc n = omega arith in ap (is_empty_at s) q) ∙ sym e
      | inr c ↦ g b c
    ]
    by_test false e g b = absurd (omega arith)

pub greatest_le_top : (s : StoredSystem) (n : ℕ) → greatest_power_to s n ≤ n
greatest_le_top s zero = omega arith
greatest_le_top s (suc n) = by_test (is_empty_at s (suc n)) (greatest_le_top s n)
  where
    by_test : (t : Bool) → greatest_power_to s n ≤ n → cond t (greatest_power_to s n) (suc n) ≤ suc n
    by_test true h = omega arith
    by_test false h = omega arith

greatest_le : (s : StoredSystem) (t n : ℕ) → ((m : ℕ) → t < m → is_empty_at s m ≡ true)
    → greatest_power_to s n ≤ t
greatest_le s t zero h = omega arith
greatest_le s t (suc n) h = elim (cases_lt t (suc n)) [
  | inl b ↦ rw (h (suc n) b) (greatest_le s t n h)
  | inr b ↦ let e = greatest_le_top s (suc n) in omega (arith, e, b)
]

module _ (s : StoredSystem) (sys : IsSystem s) where
  pub none_above_greatest : (row col m : ℕ) → row < dim_of s → col ≤ dim_of s → greatest_power s < m
      → stored_number s row col m ≡ pos 0
  none_above_greatest row col m b c l = elim (cases_lt s.degree m) [
    | inl h ↦ number_beyond (row_of s row) s.degree col m (sys.each row b).full (omega arith)
    | inr h ↦ none_at s m (empty_above_to s s.degree m l h) row col b c
  ]

  -- a power above which all is 0 in memory, and that is at most each other one, is the greatest power
  pub is_greatest : (t : ℕ)
      → ((row : ℕ) → row < dim_of s → IsZeroFrom (row_of s row).numbers ((t + 1) * length (row_of s row).columns))
      → ((m : ℕ) → ((row : ℕ) → row < dim_of s
      → IsZeroFrom (row_of s row).numbers ((m + 1) * length (row_of s row).columns)) → t ≤ m)
      → t ≡ greatest_power s
  is_greatest t above least = antisym t (greatest_power s)
      (least (greatest_power s) (λ row b. let r = sys.each row b in
      zeros_above (row_of s row) (greatest_power s) (dim_of s) r.columns.distinct
      (let f = r.columns.free in omega (arith, f)) (λ p l. low row b p l)
      (λ col m c l. none_above_greatest row col m b c l)))
      (greatest_le s t s.degree (λ m l. empty_at s m
      (λ row col b c. none_above (row_of s row) t col m (above row b) l)))
    where
      antisym : (a b : ℕ) → a ≤ b → b ≤ a → a ≡ b
      antisym a b h k = omega arith

      low : (row : ℕ) → row < dim_of s → (p : ℕ) → p < length (row_of s row).columns
          → slice_index_or (row_of s row).columns p 0 ≤ dim_of s
      low row b p l = (sys.each row b).columns.in_range p l

-- a greater number covers what the two covered
pub zero_of_greater : (numbers : List ℤ) (a b c columns : ℕ) → c ≡ max a b
    → (IsZeroFrom numbers ((a + 1) * columns)) ⊎ (IsZeroFrom numbers ((b + 1) * columns))
    → IsZeroFrom numbers ((c + 1) * columns)
zero_of_greater numbers a b c columns e (inl h) =
    zero_longer numbers a c columns (let l = le-max_left a b in omega (arith, e, l)) h
zero_of_greater numbers a b c columns e (inr h) =
    zero_longer numbers b c columns (let l = le-max_right a b in omega (arith, e, l)) h

pub greater_covers : (numbers : List ℤ) (i a b c : ℕ)
    → ((j : ℕ) → j < i → unsigned_abs (slice_index_or numbers j (pos 0)) ≤ a)
    → unsigned_abs (slice_index_or numbers i (pos 0)) ≤ b → c ≡ max a b
    → (j : ℕ) → j < i + 1 → unsigned_abs (slice_index_or numbers j (pos 0)) ≤ c
greater_covers numbers i a b c before here e j l = elim (cases_lt j i) [
  | inl k ↦ let m = le-max_left a b in let h = before j k in omega (arith, m, h, e)
  | inr k ↦ let q : j ≡ i = omega arith in let m = le-max_right a b in rw q (omega (arith, m, here, e))
]

-- a number that is read has its size
pub size_read : (z : ℤ) → unsigned_abs z ≤ 2 ^ 62 → unsigned_abs (to_z w64 (of_z w64 z)) ≡ unsigned_abs z
size_read z h = ap unsigned_abs (to_z-of_z w64 z (fits z h))
  where
    fits : (z : ℤ) → unsigned_abs z ≤ 2 ^ 62 → SFits w64 z
    fits z h = grind (arith, ints)
