-- A map doubled five times is the map of a cell applied 32 times.
use Rattle.std.proofs.Common.{◌≡◌, ℕ, zero, suc, ◌+◌, ◌^◌, ◌<◌, ◌≤◌, length, refl, sym, ap, ◌∙◌, arith}
use Rattle.frac_laws.specs.Fraction.{Fraction, ◌+ℚ◌, ◌*ℚ◌}
use Rattle.frac_laws.specs.Lists.{Vector, number_at}
use Rattle.frac_laws.proofs.Sums.{sum_to_ext}
use Rattle.cell_laws.specs.Systems.{System, KeepsDimension}
use Rattle.cell_laws.proofs.Dimensions.{taylor_values_keep_dimension}
use Rattle.map_laws.specs.Applied.{value_at}
use Rattle.map_laws.specs.CellMaps.{doubled}
use Rattle.map_laws.specs.CellOfSystem.{cell_map}
use Rattle.map_laws.specs.Maps.{AffineMap}
use Rattle.map_laws.specs.MonthOfCells.{taylor_turns}
use Rattle.map_laws.proofs.CellMaps.{twice_is_applied_twice}
use Rattle.map_laws.proofs.CellOfSystem.{taylor_values_are_affine}

-- a map applied some times
abbrev turns : ℕ → AffineMap → ℕ → (ℕ → Fraction) → ℕ → Fraction
turns d a zero y = y
turns d a (suc k) y = value_at d a (turns d a k y)

-- the value depends on the numbers of the first d places alone
value_of_same : (d : ℕ) (a : AffineMap) (x y : ℕ → Fraction) (row : ℕ) → ((col : ℕ) → col < d → x col ≡ y col)
    → value_at d a x row ≡ value_at d a y row
value_of_same d a x y row h =
    ap (λ t. a.free row +ℚ t) (sum_to_ext d (λ col b. ap (λ t. a.at row col *ℚ t) (h col b)))

turns_add : (d : ℕ) (a : AffineMap) (k l : ℕ) (y : ℕ → Fraction) (row : ℕ)
    → turns d a (k + l) y row ≡ turns d a k (turns d a l y) row
turns_add d a zero l y row = let e : 0 + l ≡ l = omega arith in ap (λ t. turns d a t y row) e
turns_add d a (suc k) l y row = let e : suc k + l ≡ suc (k + l) = omega arith in
    ap (λ t. turns d a t y row) e
    ∙ value_of_same d a (turns d a (k + l) y) (turns d a k (turns d a l y)) row (λ col b. turns_add d a k l y col)

turns_of_same : (d : ℕ) (a : AffineMap) (k : ℕ) (x y : ℕ → Fraction) → ((col : ℕ) → col < d → x col ≡ y col)
    → (row : ℕ) → row < d → turns d a k x row ≡ turns d a k y row
turns_of_same d a zero x y h row b = h row b
turns_of_same d a (suc k) x y h row b =
    value_of_same d a (turns d a k x) (turns d a k y) row (λ col c. turns_of_same d a k x y h col c)

doubled_turns : (d : ℕ) (a : AffineMap) (j : ℕ) (y : ℕ → Fraction) (row : ℕ) → row < d
    → value_at d (doubled d j a) y row ≡ turns d a (2 ^ j) y row
doubled_turns d a zero y row b = refl
doubled_turns d a (suc j) y row b = twice_is_applied_twice d (doubled d j a) y row
    ∙ doubled_turns d a j (value_at d (doubled d j a) y) row b
    ∙ turns_of_same d a (2 ^ j) (value_at d (doubled d j a) y) (turns d a (2 ^ j) y)
    (λ col c. doubled_turns d a j y col c) row b
    ∙ sym (turns_add d a (2 ^ j) (2 ^ j) y row)
    ∙ (let e : 2 ^ j + 2 ^ j ≡ 2 ^ suc j = grind arith in ap (λ t. turns d a t y row) e)

turns_fit : (e : System) (y : Vector) (n k : ℕ) → KeepsDimension e → length y ≤ e.dimension
    → length (taylor_turns k e y n) ≤ e.dimension
turns_fit e y n zero keeps fits = fits
turns_fit e y n (suc k) keeps fits =
    taylor_values_keep_dimension e (taylor_turns k e y n) n keeps (turns_fit e y n k keeps fits)

turns_are : (e : System) (y : Vector) (n k row : ℕ) → KeepsDimension e → length y ≤ e.dimension
    → turns e.dimension (cell_map e n) k (number_at y) row ≡ number_at (taylor_turns k e y n) row
turns_are e y n zero row keeps fits = refl
turns_are e y n (suc k) row keeps fits =
    value_of_same e.dimension (cell_map e n) (turns e.dimension (cell_map e n) k (number_at y))
    (number_at (taylor_turns k e y n)) row (λ col b. turns_are e y n k col keeps fits)
    ∙ sym (taylor_values_are_affine e (taylor_turns k e y n) e.dimension n row (turns_fit e y n k keeps fits))

-- so the value of the map of a month is the 32-fold Taylor value
pub month_value_is : (e : System) (y : Vector) (n row : ℕ) → KeepsDimension e → length y ≤ e.dimension
    → row < e.dimension
    → value_at e.dimension (doubled e.dimension 5 (cell_map e n)) (number_at y) row
    ≡ number_at (taylor_turns 32 e y n) row
month_value_is e y n row keeps fits b =
    doubled_turns e.dimension (cell_map e n) 5 (number_at y) row b ∙ turns_are e y n 32 row keeps fits
