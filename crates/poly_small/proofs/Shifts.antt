-- The rows of a shift: the columns of Pascal's triangle as weights.
use Rattle.std.proofs.Common.{◌≡◌, ℕ, suc, ◌*◌, ◌^◌, ◌<◌, ◌≤◌, ℤ, pos, List, [], ◌∷◌, length, max, zero}
use Rattle.std.proofs.Common.{take, drop, get_or, get_or-drop, arith, refl, ap, sym, subst, ◌∙◌}
use mathlib.Core.Path.{ap₂}
use Rattle.std.specs.Prelude.{unsigned_abs}
use Rattle.std.proofs.Math.Nat.{mul_assoc, mul_comm, mul-le-mul_left}
use Rattle.std.proofs.lemmas.Int.{unsigned_abs-mul}
use Rattle.frac_laws.specs.Fraction.{over, whole}
use Rattle.frac_laws.specs.Lists.{number_at}
use Rattle.frac_laws.specs.Polynomials.{all_over, shifted}
use Rattle.frac_laws.proofs.FractionTerms.{ring, terms}
use Rattle.poly_small.specs.WholePolynomials.{whole_value_at, value_of_sizes, weighted}
use Rattle.poly_small.proofs.Values.{value_of_sizes-grows, value_of_sizes-drop, whole_value-size}
use Rattle.poly_small.proofs.Sixes.{over-product, over-whole_value}
use Rattle.whole_laws.proofs.Numbers.{nat_product_le}
use Rattle.whole_laws.proofs.ShortLists.{six_are_all}

-- the coefficients from 0 on, with the column 0 of Pascal's triangle as weights
abbrev pub row-0 : List ℤ → List ℤ
row-0 p = weighted (take 6 (drop 0 p)) (pos 1 ∷ pos 1 ∷ pos 1 ∷ pos 1 ∷ pos 1 ∷ pos 1 ∷ [])

-- the coefficients from 1 on, with the column 1 of Pascal's triangle as weights
abbrev pub row-1 : List ℤ → List ℤ
row-1 p = weighted (take 5 (drop 1 p)) (pos 1 ∷ pos 2 ∷ pos 3 ∷ pos 4 ∷ pos 5 ∷ [])

-- the coefficients from 2 on, with the column 2 of Pascal's triangle as weights
abbrev pub row-2 : List ℤ → List ℤ
row-2 p = weighted (take 4 (drop 2 p)) (pos 1 ∷ pos 3 ∷ pos 6 ∷ pos 10 ∷ [])

-- the coefficients from 3 on, with the column 3 of Pascal's triangle as weights
abbrev pub row-3 : List ℤ → List ℤ
row-3 p = weighted (take 3 (drop 3 p)) (pos 1 ∷ pos 4 ∷ pos 10 ∷ [])

-- the coefficients from 4 on, with the column 4 of Pascal's triangle as weights
abbrev pub row-4 : List ℤ → List ℤ
row-4 p = weighted (take 2 (drop 4 p)) (pos 1 ∷ pos 5 ∷ [])

entry-0 : (c0 c1 c2 c3 c4 c5 : ℤ) (k d : ℕ)
    → over (whole_value_at (row-0 (c0 ∷ c1 ∷ c2 ∷ c3 ∷ c4 ∷ c5 ∷ [])) k) d
    ≡ number_at (shifted (whole (pos k)) (all_over d (c0 ∷ c1 ∷ c2 ∷ c3 ∷ c4 ∷ c5 ∷ []))) 0
entry-0 c0 c1 c2 c3 c4 c5 k d =
    over-whole_value (row-0 (c0 ∷ c1 ∷ c2 ∷ c3 ∷ c4 ∷ c5 ∷ [])) k d
    ∙ simp over-product
    (ring (over c0 d ∷ over c1 d ∷ over c2 d ∷ over c3 d ∷ over c4 d ∷ over c5 d ∷ whole (pos k) ∷ [])
    (hlevel terms) refl)

entry-1 : (c0 c1 c2 c3 c4 c5 : ℤ) (k d : ℕ)
    → over (whole_value_at (row-1 (c0 ∷ c1 ∷ c2 ∷ c3 ∷ c4 ∷ c5 ∷ [])) k) d
    ≡ number_at (shifted (whole (pos k)) (all_over d (c0 ∷ c1 ∷ c2 ∷ c3 ∷ c4 ∷ c5 ∷ []))) 1
entry-1 c0 c1 c2 c3 c4 c5 k d =
    over-whole_value (row-1 (c0 ∷ c1 ∷ c2 ∷ c3 ∷ c4 ∷ c5 ∷ [])) k d
    ∙ simp over-product
    (ring (over c0 d ∷ over c1 d ∷ over c2 d ∷ over c3 d ∷ over c4 d ∷ over c5 d ∷ whole (pos k) ∷ [])
    (hlevel terms) refl)

entry-2 : (c0 c1 c2 c3 c4 c5 : ℤ) (k d : ℕ)
    → over (whole_value_at (row-2 (c0 ∷ c1 ∷ c2 ∷ c3 ∷ c4 ∷ c5 ∷ [])) k) d
    ≡ number_at (shifted (whole (pos k)) (all_over d (c0 ∷ c1 ∷ c2 ∷ c3 ∷ c4 ∷ c5 ∷ []))) 2
entry-2 c0 c1 c2 c3 c4 c5 k d =
    over-whole_value (row-2 (c0 ∷ c1 ∷ c2 ∷ c3 ∷ c4 ∷ c5 ∷ [])) k d
    ∙ simp over-product
    (ring (over c0 d ∷ over c1 d ∷ over c2 d ∷ over c3 d ∷ over c4 d ∷ over c5 d ∷ whole (pos k) ∷ [])
    (hlevel terms) refl)

entry-3 : (c0 c1 c2 c3 c4 c5 : ℤ) (k d : ℕ)
    → over (whole_value_at (row-3 (c0 ∷ c1 ∷ c2 ∷ c3 ∷ c4 ∷ c5 ∷ [])) k) d
    ≡ number_at (shifted (whole (pos k)) (all_over d (c0 ∷ c1 ∷ c2 ∷ c3 ∷ c4 ∷ c5 ∷ []))) 3
entry-3 c0 c1 c2 c3 c4 c5 k d =
    over-whole_value (row-3 (c0 ∷ c1 ∷ c2 ∷ c3 ∷ c4 ∷ c5 ∷ [])) k d
    ∙ simp over-product
    (ring (over c0 d ∷ over c1 d ∷ over c2 d ∷ over c3 d ∷ over c4 d ∷ over c5 d ∷ whole (pos k) ∷ [])
    (hlevel terms) refl)

entry-4 : (c0 c1 c2 c3 c4 c5 : ℤ) (k d : ℕ)
    → over (whole_value_at (row-4 (c0 ∷ c1 ∷ c2 ∷ c3 ∷ c4 ∷ c5 ∷ [])) k) d
    ≡ number_at (shifted (whole (pos k)) (all_over d (c0 ∷ c1 ∷ c2 ∷ c3 ∷ c4 ∷ c5 ∷ []))) 4
entry-4 c0 c1 c2 c3 c4 c5 k d =
    over-whole_value (row-4 (c0 ∷ c1 ∷ c2 ∷ c3 ∷ c4 ∷ c5 ∷ [])) k d
    ∙ simp over-product
    (ring (over c0 d ∷ over c1 d ∷ over c2 d ∷ over c3 d ∷ over c4 d ∷ over c5 d ∷ whole (pos k) ∷ [])
    (hlevel terms) refl)

entry-5 : (c0 c1 c2 c3 c4 c5 : ℤ) (k d : ℕ)
    → over c5 d
    ≡ number_at (shifted (whole (pos k)) (all_over d (c0 ∷ c1 ∷ c2 ∷ c3 ∷ c4 ∷ c5 ∷ []))) 5
entry-5 c0 c1 c2 c3 c4 c5 k d =
    ring (over c0 d ∷ over c1 d ∷ over c2 d ∷ over c3 d ∷ over c4 d ∷ over c5 d ∷ whole (pos k) ∷ [])
    (hlevel terms) refl

entries : (c0 c1 c2 c3 c4 c5 : ℤ) (k d : ℕ)
    → all_over d
    (whole_value_at (row-0 (c0 ∷ c1 ∷ c2 ∷ c3 ∷ c4 ∷ c5 ∷ [])) k ∷
    whole_value_at (row-1 (c0 ∷ c1 ∷ c2 ∷ c3 ∷ c4 ∷ c5 ∷ [])) k ∷
    whole_value_at (row-2 (c0 ∷ c1 ∷ c2 ∷ c3 ∷ c4 ∷ c5 ∷ [])) k ∷
    whole_value_at (row-3 (c0 ∷ c1 ∷ c2 ∷ c3 ∷ c4 ∷ c5 ∷ [])) k ∷
    whole_value_at (row-4 (c0 ∷ c1 ∷ c2 ∷ c3 ∷ c4 ∷ c5 ∷ [])) k ∷ c5 ∷ [])
    ≡ shifted (whole (pos k)) (all_over d (c0 ∷ c1 ∷ c2 ∷ c3 ∷ c4 ∷ c5 ∷ []))
entries c0 c1 c2 c3 c4 c5 k d =
    ap₂ (λ z w. z ∷ w) (entry-0 c0 c1 c2 c3 c4 c5 k d)
    (ap₂ (λ z w. z ∷ w) (entry-1 c0 c1 c2 c3 c4 c5 k d)
    (ap₂ (λ z w. z ∷ w) (entry-2 c0 c1 c2 c3 c4 c5 k d)
    (ap₂ (λ z w. z ∷ w) (entry-3 c0 c1 c2 c3 c4 c5 k d)
    (ap₂ (λ z w. z ∷ w) (entry-4 c0 c1 c2 c3 c4 c5 k d)
    (ap (λ z. z ∷ []) (entry-5 c0 c1 c2 c3 c4 c5 k d))))))

-- what a shift forms of an array
abbrev pub rows_of : List ℤ → ℕ → List ℤ
rows_of p k = whole_value_at (row-0 p) k ∷ whole_value_at (row-1 p) k ∷ whole_value_at (row-2 p) k ∷
    whole_value_at (row-3 p) k ∷ whole_value_at (row-4 p) k ∷ get_or p 5 (pos 0) ∷ []

pub rows_are_shift : (p : List ℤ) (k d : ℕ) → length p ≡ 6
    → all_over d (rows_of p k) ≡ shifted (whole (pos k)) (all_over d p)
rows_are_shift p k d h =
    let P : List ℤ → Type 0 = λ q. all_over d (rows_of q k) ≡ shifted (whole (pos k)) (all_over d q) in
    subst P (sym (six_are_all p h)) (entries _ _ _ _ _ _ k d)

-- the greatest size of a weight
abbrev pub greatest_size : List ℤ → ℕ
greatest_size [] = 0
greatest_size (w ∷ weights) = max (unsigned_abs w) (greatest_size weights)

moved_factor : (x g v : ℕ) → x * (g * v) ≡ g * (x * v)
moved_factor x g v = sym (mul_assoc x g v) ∙ ap (λ z. z * v) (mul_comm x g) ∙ mul_assoc g x v

-- weights make the value of sizes at most the greatest weight times as great
pub weighted_within : (p weights : List ℤ) (g x : ℕ) → greatest_size weights ≤ g
    → value_of_sizes (weighted p weights) x ≤ g * value_of_sizes p x
weighted_within [] weights g x h = omega arith
weighted_within (c ∷ p) [] g x h = omega arith
weighted_within (c ∷ p) (w ∷ weights) g x h =
    let rest = mul-le-mul_left x (weighted_within p weights g x (omega arith)) in
    omega (
      arith,
      unsigned_abs-mul w c,
      nat_product_le (unsigned_abs w) g (unsigned_abs c) (omega arith),
      rest,
      moved_factor x g (value_of_sizes p x),
    )

pub value_of_sizes-take : (p : List ℤ) (n x : ℕ) → value_of_sizes (take n p) x ≤ value_of_sizes p x
value_of_sizes-take [] zero x = omega arith
value_of_sizes-take [] (suc n) x = omega arith
value_of_sizes-take (c ∷ p) zero x = omega arith
value_of_sizes-take (c ∷ p) (suc n) x = omega (arith, mul-le-mul_left x (value_of_sizes-take p n x))

-- a row's value of sizes
row_within : (p weights : List ℤ) (m n g k : ℕ) → greatest_size weights ≤ g
    → value_of_sizes (weighted (take n (drop m p)) weights) (max k 1) ≤ g * value_of_sizes p (max k 1)
row_within p weights m n g k h =
    let part : value_of_sizes (take n (drop m p)) (max k 1) ≤ value_of_sizes p (max k 1) =
    omega (arith, value_of_sizes-take (drop m p) n (max k 1), value_of_sizes-drop p m k) in
    omega (arith, weighted_within (take n (drop m p)) weights g (max k 1) h, mul-le-mul_left g part)

pub row_fits : (p weights : List ℤ) (m n k : ℕ) → greatest_size weights ≤ 10
    → 10 * value_of_sizes p (max k 1) < 2 ^ 126
    → value_of_sizes (weighted (take n (drop m p)) weights) (max k 1) < 2 ^ 126
row_fits p weights m n k h fits = omega (arith, row_within p weights m n 10 k h)

pub row_size : (p weights : List ℤ) (m n g k : ℕ) → greatest_size weights ≤ g
    → unsigned_abs (whole_value_at (weighted (take n (drop m p)) weights) k) ≤ g * value_of_sizes p (max k 1)
row_size p weights m n g k h =
    let row = weighted (take n (drop m p)) weights in
    omega (
      arith,
      whole_value-size row k,
      value_of_sizes-grows row k (max k 1) (omega arith),
      row_within p weights m n g k h,
    )

last_size : (p : List ℤ) (k : ℕ) → length p ≡ 6 → unsigned_abs (get_or p 5 (pos 0)) ≤ value_of_sizes p (max k 1)
last_size p k h =
    omega (arith, value_of_sizes-drop p 5 k, number_within (drop 5 p) (max k 1), ap unsigned_abs (number-drop p))
  where
    number_within : (q : List ℤ) (x : ℕ) → unsigned_abs (get_or q 0 (pos 0)) ≤ value_of_sizes q x
    number_within [] x = omega arith
    number_within (c ∷ q) x = omega arith

    number-drop : (p : List ℤ) → get_or (drop 5 p) 0 (pos 0) ≡ get_or p 5 (pos 0)
    number-drop p = get_or-drop 5 p 0 (pos 0)

-- the rows together
pub rows_within : (p : List ℤ) (k : ℕ) → length p ≡ 6
    → value_of_sizes (rows_of p k) 1 ≤ 32 * value_of_sizes p (max k 1)
rows_within p k h =
    omega (
      arith,
      row_size p (pos 1 ∷ pos 1 ∷ pos 1 ∷ pos 1 ∷ pos 1 ∷ pos 1 ∷ []) 0 6 1 k (omega arith),
      row_size p (pos 1 ∷ pos 2 ∷ pos 3 ∷ pos 4 ∷ pos 5 ∷ []) 1 5 5 k (omega arith),
      row_size p (pos 1 ∷ pos 3 ∷ pos 6 ∷ pos 10 ∷ []) 2 4 10 k (omega arith),
      row_size p (pos 1 ∷ pos 4 ∷ pos 10 ∷ []) 3 3 10 k (omega arith),
      row_size p (pos 1 ∷ pos 5 ∷ []) 4 2 5 k (omega arith),
      last_size p k h,
    )

-- five numbers are the first five rows
pub record RowsAre (p : List ℤ) (k : ℕ) (r0 r1 r2 r3 r4 : ℤ) : Type 0 where
  pub first : r0 ≡ whole_value_at (row-0 p) k
  pub second : r1 ≡ whole_value_at (row-1 p) k
  pub third : r2 ≡ whole_value_at (row-2 p) k
  pub fourth : r3 ≡ whole_value_at (row-3 p) k
  pub fifth : r4 ≡ whole_value_at (row-4 p) k

list_of_rows : (p : List ℤ) (k : ℕ) (r0 r1 r2 r3 r4 : ℤ) → RowsAre p k r0 r1 r2 r3 r4
    → r0 ∷ r1 ∷ r2 ∷ r3 ∷ r4 ∷ get_or p 5 (pos 0) ∷ [] ≡ rows_of p k
list_of_rows p k r0 r1 r2 r3 r4 rows = rw (rows.first, rows.second, rows.third, rows.fourth, rows.fifth) refl

pub given_rows_are_shift : (p : List ℤ) (k : ℕ) (r0 r1 r2 r3 r4 : ℤ) → length p ≡ 6 → RowsAre p k r0 r1 r2 r3 r4
    → (d : ℕ) → all_over d (r0 ∷ r1 ∷ r2 ∷ r3 ∷ r4 ∷ get_or p 5 (pos 0) ∷ [])
    ≡ shifted (whole (pos k)) (all_over d p)
given_rows_are_shift p k r0 r1 r2 r3 r4 h rows d =
    ap (all_over d) (list_of_rows p k r0 r1 r2 r3 r4 rows) ∙ rows_are_shift p k d h

pub given_rows_within : (p : List ℤ) (k : ℕ) (r0 r1 r2 r3 r4 : ℤ) → length p ≡ 6 → RowsAre p k r0 r1 r2 r3 r4
    → value_of_sizes (r0 ∷ r1 ∷ r2 ∷ r3 ∷ r4 ∷ get_or p 5 (pos 0) ∷ []) 1 ≤ 32 * value_of_sizes p (max k 1)
given_rows_within p k r0 r1 r2 r3 r4 h rows =
    let P : List ℤ → Type 0 = λ q. value_of_sizes q 1 ≤ 32 * value_of_sizes p (max k 1) in
    subst P (sym (list_of_rows p k r0 r1 r2 r3 r4 rows)) (rows_within p k h)

pub weighted_fits : (p weights : List ℤ) (k : ℕ) → greatest_size weights ≤ 10
    → 10 * value_of_sizes p (max k 1) < 2 ^ 126 → value_of_sizes (weighted p weights) (max k 1) < 2 ^ 126
weighted_fits p weights k h fits = omega (arith, weighted_within p weights 10 (max k 1) h)
