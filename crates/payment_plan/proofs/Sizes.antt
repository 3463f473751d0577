-- The rule on the size of a step bounds the numbers that a cell or a month of it forms.
use Rattle.std.proofs.Common.{◌≡◌, ℕ, ◌+◌, ◌*◌, ◌^◌, ◌<◌, ◌≤◌, ℤ, List, [], ◌∷◌, length, max}
use Rattle.std.proofs.Common.{◌-◌, take, arith, ap}
use Rattle.std.specs.Prelude.{unsigned_abs}
use Rattle.named_numbers.specs.Numbers.{months_of_year, cells_of_month, cells_of_year}
use Rattle.model_specs.specs.RecordRules.{IsBounded, IsBoundedStep}
use Rattle.payment_plan.specs.declared.step.StepAmount.{StepAmount}
use Rattle.poly_small.specs.WholePolynomials.{value_of_sizes, in_units_of}
use Rattle.poly_small.proofs.Values.{value_of_sizes-grows}
use Rattle.poly_small.proofs.Shifts.{value_of_sizes-take}
use Rattle.model_laws.proofs.FourCoefficients.{padded, length-padded, padded_bounded}
use Rattle.curve_pieces.proofs.Sizes.{bounded_sizes, month_fits}

-- zeros add nothing to a value of sizes
value_of_sizes-padded : (p : List ℤ) (x : ℕ) → value_of_sizes (padded p) x ≡ value_of_sizes p x
value_of_sizes-padded [] x = omega arith
value_of_sizes-padded (c ∷ p) x = ap (λ z. unsigned_abs c + x * z) (value_of_sizes-padded p x)

-- in cells: from a step's start to the end of its month k there are 32 (k + 1) cells
cell_sizes : (p : List ℤ) (k x : ℕ) → length p ≡ 4 → IsBounded p (k + 1) → x ≤ cells_of_month * (k + 1)
    → 32 * value_of_sizes (padded (in_units_of cells_of_year p)) x < 2 ^ 104
cell_sizes p k x four bounded within =
    omega (
      arith,
      bounded_sizes p (k + 1) cells_of_year cells_of_month 4 four bounded,
      value_of_sizes-grows (in_units_of cells_of_year p) x (cells_of_month * (k + 1)) within,
      value_of_sizes-padded (in_units_of cells_of_year p) x,
    )

-- in months, as any polynomial of six bounded coefficients
pub payment_month_fits : (p : List ℤ) (k : ℕ) → length p ≡ 4 → IsBounded p (k + 1)
    → 320 * value_of_sizes (in_units_of months_of_year (padded p)) (max k 1) < 2 ^ 126
payment_month_fits p k four bounded =
    omega (arith, month_fits (padded p) k (length-padded p four) (padded_bounded p (k + 1) bounded))

-- the numbers of a cell: the coefficients c of a step, in cells, shifted to the cell's end
pub record FormsCell (c q : List ℤ) (k origin : ℕ) : Type 0 where
  pub four : length c ≡ 4
  pub bounded : IsBounded c (k + 1)
  pub origin_within : origin ≤ cells_of_month * (k + 1)
  pub units : q ≡ padded (in_units_of cells_of_year c)

-- those of a step in a cell of a month
pub forms_of : (s : StepAmount) (q : List ℤ) (month cell : ℕ) → length s.c ≡ 4
    → IsBoundedStep s.c (month - s.from + 1) → cell < cells_of_month → q ≡ padded (in_units_of cells_of_year s.c)
    → FormsCell s.c q (month - s.from) ((month - s.from) * cells_of_month + cell + 1)
forms_of s q month cell four bounded within units =
    record {
      four = four;
      bounded = bounded.coefficients;
      origin_within = omega (arith, within);
      units = units;
    }

pub shift_fits : (c q : List ℤ) (k origin : ℕ) → FormsCell c q k origin
    → 32 * value_of_sizes q (max origin 1) < 2 ^ 104
shift_fits c q k origin f =
    omega (
      arith,
      cell_sizes c k (max origin 1) f.four f.bounded (omega (arith, f.origin_within)),
      ap (λ p. value_of_sizes p (max origin 1)) f.units,
    )

-- the first four numbers, where a shift gave r and turning it n
pub cell_fits : (c q r n : List ℤ) (k origin : ℕ) → FormsCell c q k origin
    → value_of_sizes r 1 ≤ 32 * value_of_sizes q (max origin 1) → value_of_sizes n 1 ≡ value_of_sizes r 1
    → value_of_sizes (take 4 n) 1 < 2 ^ 104
cell_fits c q r n k origin f shift turn =
    omega (arith, shift_fits c q k origin f, shift, turn, value_of_sizes-take n 4 1)
