-- The rule on the size of a piece bounds the numbers that a cell or a month of it forms.
use Rattle.std.proofs.Common.{◌≡◌, ℕ, zero, suc, ◌+◌, ◌*◌, ◌^◌, ◌<◌, ◌≤◌, ℤ, pos, List, [], ◌∷◌, length, get_or, max}
use Rattle.std.proofs.Common.{arith, ap, sym, ◌∙◌}
use Rattle.std.specs.Prelude.{unsigned_abs}
use Rattle.std.proofs.Math.Nat.{mul_assoc, mul_comm, mul-le-mul_left, mul-le-mul_right, pow-zero, pow-suc}
use Rattle.std.proofs.lemmas.Int.{unsigned_abs-mul}
use Rattle.named_numbers.specs.Numbers.{months_of_year, cells_of_month, cells_of_year, most_coefficient}
use Rattle.model_specs.specs.RecordRules.{IsBounded}
use Rattle.poly_small.specs.WholePolynomials.{value_of_sizes, in_units_of}
use Rattle.poly_small.proofs.Values.{value_of_sizes-grows}

-- u^(n-1) + a u^(n-2) + .. + a^(n-1)
abbrev pub geometric : ℕ → ℕ → ℕ → ℕ
geometric a u zero = 0
geometric a u (suc n) = u ^ n + a * geometric a u n

moved : (t a s v : ℕ) → t * (a * s * v) ≡ a * (t * s * v)
moved t a s v =
    ap (λ z. t * z) (mul_assoc a s v) ∙ sym (mul_assoc t a (s * v)) ∙ ap (λ z. z * (s * v)) (mul_comm t a)
    ∙ mul_assoc a t (s * v) ∙ ap (λ z. a * z) (sym (mul_assoc t s v))

split : (t c w x : ℕ) → t * (c * w + x) ≡ c * t * w + t * x
split t c w x = omega (arith, ap (λ z. z * w) (mul_comm t c), mul_assoc t c w)

within_part : (t n l w : ℕ) → n * t ≤ l → n * t * w ≤ l * w
within_part t n l w h = mul-le-mul_right w h

within_rest : (a x l g : ℕ) → x ≤ l * g → a * x ≤ l * (a * g)
within_rest a x l g h = omega (arith, mul-le-mul_left a h, factors)
  where
    factors : a * (l * g) ≡ l * (a * g)
    factors = sym (mul_assoc a l g) ∙ ap (λ z. z * g) (mul_comm a l) ∙ mul_assoc l a g

-- coefficients with |p_i| s^(j + i) at most l
sizes_within : (p : List ℤ) (s u a l j : ℕ)
    → ((i : ℕ) → i < length p → unsigned_abs (get_or p i (pos 0)) * s ^ (j + i) ≤ l)
    → s ^ j * value_of_sizes (in_units_of u p) (a * s) ≤ l * geometric a u (length p)
sizes_within [] s u a l j h = omega arith
sizes_within (c ∷ p) s u a l j h =
    let v = value_of_sizes (in_units_of u p) (a * s) in
    let w = u ^ length p in
    let rest = sizes_within p s u a l (suc j) (λ i below. later i below) in
    let same : j + 0 ≡ j = omega arith in
    let first : unsigned_abs c * s ^ j ≤ l = rw same at (h 0 (omega arith)) in
    omega (
      arith,
      ap (λ z. s ^ j * (z + a * s * v)) (unsigned_abs-mul c (pos w)),
      split (s ^ j) (unsigned_abs c) w (a * s * v),
      moved (s ^ j) a s v,
      within_part (s ^ j) (unsigned_abs c) l w first,
      within_rest a (s ^ j * s * v) l (geometric a u (length p)) (rw pow-suc at rest),
    )
  where
    later : (i : ℕ) → i < length p → unsigned_abs (get_or p i (pos 0)) * s ^ (suc j + i) ≤ l
    later i below =
        let same : j + suc i ≡ suc j + i = omega arith in
        rw same at (h (suc i) (omega arith))

pub bounded_sizes : (p : List ℤ) (s u a n : ℕ) → length p ≡ n → IsBounded p s
    → value_of_sizes (in_units_of u p) (a * s) ≤ most_coefficient * geometric a u n
bounded_sizes p s u a n long bounded =
    let within = sizes_within p s u a most_coefficient 0 (λ i below. at_place i below) in
    omega (arith, rw (pow-zero s, long) at within)
  where
    at_place : (i : ℕ) → i < length p → unsigned_abs (get_or p i (pos 0)) * s ^ (0 + i) ≤ most_coefficient
    at_place i below = let same : 0 + i ≡ i = omega arith in rw same (bounded i below)

-- in cells: from a piece's start to the end of its month k there are 32 (k + 1) cells
pub cell_sizes : (p : List ℤ) (k x : ℕ) → length p ≡ 6 → IsBounded p (k + 1) → x ≤ cells_of_month * (k + 1)
    → 320 * value_of_sizes (in_units_of cells_of_year p) x < 2 ^ 126
cell_sizes p k x six bounded within =
    omega (
      arith,
      bounded_sizes p (k + 1) cells_of_year cells_of_month 6 six bounded,
      value_of_sizes-grows (in_units_of cells_of_year p) x (cells_of_month * (k + 1)) within,
    )

-- in months
pub month_sizes : (p : List ℤ) (k x : ℕ) → length p ≡ 6 → IsBounded p (k + 1) → x ≤ 1 * (k + 1)
    → 320 * value_of_sizes (in_units_of months_of_year p) x < 2 ^ 100
month_sizes p k x six bounded within =
    omega (
      arith,
      bounded_sizes p (k + 1) months_of_year 1 6 six bounded,
      value_of_sizes-grows (in_units_of months_of_year p) x (1 * (k + 1)) within,
    )

-- the numbers of a cell: the coefficients c of a piece, in units of a cell, shifted to the cell
pub record FormsCell (c q r : List ℤ) (k origin : ℕ) : Type 0 where
  pub six : length c ≡ 6
  pub bounded : IsBounded c (k + 1)
  pub origin_within : origin ≤ cells_of_month * (k + 1)
  pub units : q ≡ in_units_of cells_of_year c
  pub size : value_of_sizes r 1 ≤ 32 * value_of_sizes q (max origin 1)

pub units_fit : (c : List ℤ) (k : ℕ) → length c ≡ 6 → IsBounded c (k + 1)
    → value_of_sizes (in_units_of cells_of_year c) 1 < 2 ^ 126
units_fit c k six bounded = omega (arith, cell_sizes c k 1 six bounded (omega arith))

pub shift_fits : (c q : List ℤ) (k origin : ℕ) → length c ≡ 6 → IsBounded c (k + 1) → origin ≤ cells_of_month * (k + 1)
    → q ≡ in_units_of cells_of_year c → 10 * value_of_sizes q (max origin 1) < 2 ^ 126
shift_fits c q k origin six bounded within units =
    omega (
      arith,
      cell_sizes c k (max origin 1) six bounded (omega arith),
      ap (λ p. value_of_sizes p (max origin 1)) units,
    )

pub cell_fits : (c q r : List ℤ) (k origin : ℕ) → FormsCell c q r k origin → value_of_sizes r 1 < 2 ^ 126
cell_fits c q r k origin f =
    omega (
      arith,
      cell_sizes c k (max origin 1) f.six f.bounded (omega (arith, f.origin_within)),
      f.size,
      ap (λ p. value_of_sizes p (max origin 1)) f.units,
    )

pub month_fits : (c : List ℤ) (k : ℕ) → length c ≡ 6 → IsBounded c (k + 1)
    → 320 * value_of_sizes (in_units_of months_of_year c) (max k 1) < 2 ^ 100
month_fits c k six bounded = month_sizes c k (max k 1) six bounded (omega arith)
