-- A cell of a month is a part of it.
use Rattle.std.proofs.Common.{◌≡◌, ℕ, suc, pos, negsuc, ℤ, ◌+◌, ◌*◌, ◌<◌, ◌≤◌, ◌+ℤ◌, List, length}
use Rattle.std.proofs.Common.{refl, ap, sym, subst, ◌∙◌, arith}
use mathlib.Core.Path.{ap₂}
use Rattle.std.proofs.Math.Nat.{mul_comm}
use Rattle.std.proofs.Math.IntN.{pos-*ℤ-pos}
use Rattle.std.proofs.lemmas.Int.{ints}
use Rattle.frac_laws.specs.Fraction.{Fraction, over, whole, size, ◌+ℚ◌, ◌*ℚ◌, ◌≤ℚ◌}
use Rattle.frac_laws.specs.Lists.{number_at}
use Rattle.frac_laws.specs.Polynomials.{shifted, stretched}
use Rattle.frac_laws.proofs.Order.{le_of_equal}
use Rattle.frac_laws.proofs.Linear.{natural}
use Rattle.frac_laws.proofs.Sizes.{size_of_natural, size-opposite}
use Rattle.frac_laws.proofs.Quotients.{over_mul, over_add, over_scale, over_le_of_cross, over-opposite}
use Rattle.frac_laws.proofs.Polynomials.{shifted-stretched, shifted-shifted}
use Rattle.frac_laws.proofs.Polynomials.{stretched-stretched, length-shifted, length-stretched}
use Rattle.model_specs.specs.Cells.{Grid, Direction, Forward, Backward, cell_polynomial, sign_of, origin_of}
use Rattle.curve_laws.specs.PartLaws.{part_of, coefficient_bound, mean_of}
use Rattle.curve_laws.specs.CellLaws.{over_month, CellsHaveSmallCoefficients, CellsKeepMeans}
use Rattle.curve_laws.proofs.PartFacts.{small_coefficients, means}
use Rattle.frac_base.proofs.WholeRing.{mul_one}

-- where the cell starts, and how long it is, as parts of the month
abbrev pub start_in_month : Grid → ℕ → Fraction
start_in_month grid cell = over (pos (origin_of grid.direction cell)) grid.cells

abbrev pub length_in_month : Grid → Fraction
length_in_month grid = over (sign_of grid.direction) grid.cells

length_in_years : (z : ℤ) (n : ℕ) → 1 ≤ n → over z n *ℚ over (pos 1) 12 ≡ over z (12 * n)
length_in_years z n h = over_mul z (pos 1) n 12 h (omega arith) ∙ ap₂ over (mul_one z) (mul_comm n 12)

part_in_years : (o n : ℕ) → 1 ≤ n → over (pos 1) 12 *ℚ over (pos o) n ≡ over (pos o) (12 * n)
part_in_years o n h =
    over_mul (pos 1) (pos o) 12 n (omega arith) h
    ∙ ap (λ z. over z (12 * n)) (pos-*ℤ-pos 1 o ∙ ap pos same)
  where
    same : 1 * o ≡ o
    same = omega arith

months_in_years : (k n : ℕ) → 1 ≤ n → over (pos (k * 1 + 0)) 12 ≡ over (pos (k * n)) (12 * n)
months_in_years k n h =
    ap (λ z. over (pos z) 12) same ∙ sym (over_scale (pos k) 12 n (omega arith) h)
    ∙ ap (λ z. over z (12 * n)) (pos-*ℤ-pos k n)
  where
    same : k * 1 + 0 ≡ k
    same = omega arith

origin_moves : (direction : Direction) (k n cell : ℕ)
    → k * n + origin_of direction cell ≡ origin_of direction (k * n + cell)
origin_moves Forward k n cell = refl
origin_moves Backward k n cell = omega arith

pub cell_is_part : (grid : Grid) (p : List Fraction) (k cell : ℕ) → 1 ≤ grid.cells
    → part_of (start_in_month grid cell) (length_in_month grid) (over_month p k) ≡ cell_polynomial grid p k cell
cell_is_part grid p k cell h =
    ap (stretched d) (shifted-stretched s (over (pos 1) 12) (shifted b p)
    ∙ ap (stretched (over (pos 1) 12)) (shifted-shifted (over (pos 1) 12 *ℚ s) b p))
    ∙ stretched-stretched d (over (pos 1) 12) (shifted (b +ℚ over (pos 1) 12 *ℚ s) p)
    ∙ ap₂ (λ z w. stretched z (shifted w p)) (length_in_years (sign_of grid.direction) n h)
    (ap₂ ◌+ℚ◌ (months_in_years k n h) (part_in_years o n h)
    ∙ sym (over_add (pos (k * n)) (pos o) (12 * n))
    ∙ ap (λ z. over (pos z) (12 * n)) (origin_moves grid.direction k n cell))
  where
    n : ℕ
    n = grid.cells

    o : ℕ
    o = origin_of grid.direction cell

    s : Fraction
    s = start_in_month grid cell

    d : Fraction
    d = length_in_month grid

    b : Fraction
    b = over (pos (k * 1 + 0)) 12

-- the part lies within the month
within_one : (o n : ℕ) → 1 ≤ n → o ≤ n → over (pos o) n ≤ℚ whole (pos 1)
within_one o n h k =
    over_le_of_cross (pos o) (pos 1) n 1 h (omega arith)
    (rw (pos-*ℤ-pos o 1, pos-*ℤ-pos 1 n) (omega (arith, ints)))

origin_within : (direction : Direction) (cell n : ℕ) → cell < n → origin_of direction cell ≤ n
origin_within Forward cell n h = omega arith
origin_within Backward cell n h = omega arith

length_size : (direction : Direction) (n : ℕ) → size (over (sign_of direction) n) ≤ℚ over (pos 1) n
length_size Forward n = le_of_equal (size_of_natural (natural 1 n))
length_size Backward n =
    le_of_equal (ap size (over-opposite (pos 1) n) ∙ size-opposite (over (pos 1) n) ∙ size_of_natural (natural 1 n))

-- where the part ends
abbrev pub end_of : Direction → ℕ → ℕ
end_of Forward cell = suc cell
end_of Backward cell = cell

end_is : (direction : Direction) (cell n : ℕ)
    → over (pos (origin_of direction cell)) n +ℚ over (sign_of direction) n ≡ over (pos (end_of direction cell)) n
end_is Forward cell n = sym (over_add (pos cell) (pos 1) n) ∙ ap (λ z. over (pos z) n) same
  where
    same : cell + 1 ≡ suc cell
    same = omega arith
end_is Backward cell n = sym (over_add (pos (suc cell)) (negsuc 0) n) ∙ ap (λ z. over z n) same
  where
    same : pos (suc cell) +ℤ negsuc 0 ≡ pos cell
    same = omega (arith, ints)

end_within : (direction : Direction) (cell n : ℕ) → cell < n → end_of direction cell ≤ n
end_within Forward cell n h = omega arith
end_within Backward cell n h = omega arith

length-month : (p : List Fraction) (k : ℕ) → length p ≡ 6 → length (over_month p k) ≡ 6
length-month p k six =
    length-stretched (over (pos 1) 12) (shifted (over (pos (k * 1 + 0)) 12) p)
    ∙ length-shifted (over (pos (k * 1 + 0)) 12) p ∙ six

pub cells_are_small : CellsHaveSmallCoefficients
cells_are_small grid p k cell most apart six inside sizes spread m =
    let some : 1 ≤ grid.cells = omega arith in
    let P : List Fraction → Type 0 =
    λ q. size (number_at q m) ≤ℚ coefficient_bound 5 (over (pos 1) grid.cells) most apart m in
    subst P (cell_is_part grid p k cell some)
    (small_coefficients (over_month p k) (start_in_month grid cell) (length_in_month grid) (over (pos 1) grid.cells)
    most apart (length-month p k six) (natural (origin_of grid.direction cell) grid.cells)
    (within_one (origin_of grid.direction cell) grid.cells some (origin_within grid.direction cell grid.cells inside))
    (length_size grid.direction grid.cells) sizes spread m)

pub cell_means : CellsKeepMeans
cell_means grid p k cell low high six inside above below =
    let some : 1 ≤ grid.cells = omega arith in
    let end = end_is grid.direction cell grid.cells in
    let E : Fraction → Type 0 = λ z. whole (pos 0) ≤ℚ z in
    let F : Fraction → Type 0 = λ z. z ≤ℚ whole (pos 1) in
    let P : List Fraction → Type 0 = λ q. (low ≤ℚ mean_of q) × (mean_of q ≤ℚ high) in
    subst P (cell_is_part grid p k cell some)
    (means (over_month p k) (start_in_month grid cell) (length_in_month grid) low high
    (length-month p k six) (natural (origin_of grid.direction cell) grid.cells)
    (within_one (origin_of grid.direction cell) grid.cells some (origin_within grid.direction cell grid.cells inside))
    (subst E (sym end) (natural (end_of grid.direction cell) grid.cells))
    (subst F (sym end) (within_one (end_of grid.direction cell) grid.cells some
    (end_within grid.direction cell grid.cells inside)))
    above below)
