-- The growth of a month in which rules 15 to 17 hold.
use Rattle.std.proofs.Common.{◌≡◌, ℕ, ◌+◌, ◌*◌, ◌^◌, ◌<◌, ◌≤◌, ℤ, pos, negsuc, neg_ℤ, ◌≤ℤ◌, arith, refl, ap}
use Rattle.std.proofs.Common.{sym, ◌∙◌, max, zero, suc, List, [], ◌∷◌}
use Rattle.std.specs.Prelude.{unsigned_abs, map}
use Rattle.std.specs.Int.{div_ceil, int_max, int_min}
use Rattle.std.proofs.lemmas.Int.{ints}
use Rattle.std.proofs.Math.Nat.{pow-suc, pow-zero}
use Rattle.whole_laws.specs.Whole.{natural_part, greatest_natural, greatest_whole, least_whole}
use Rattle.whole_laws.proofs.Numbers.{natural_part_is}
use Rattle.model_specs.specs.Product.{Product}
use Rattle.model_specs.specs.MonthNumbers.{curve_numerators, month_unit, rho, iota, nu}
use Rattle.model_specs.specs.Growth.{kappa40}
use Rattle.ledger_laws.specs.MonthLaws.{HasSmallNumbers}
use Rattle.rate_bounds.specs.declared.curves.MonthCurves.{MonthCurves}
use Rattle.rate_bounds.specs.Growths.{GrowsLittle, iota_of, nu_of, phi_of, kappa_of}
use Rattle.rate_bounds.specs.MonthTables.{AreCurves}

square_is : (phi : ℕ) → phi * phi ≡ phi ^ 2
square_is phi =
    let one : 1 * phi ≡ phi = omega arith in
    sym (pow-suc phi 1 ∙ ap (λ x. x * phi) (pow-suc phi 0 ∙ ap (λ x. x * phi) (pow-zero phi) ∙ one))

square_most : (square more : ℕ) → div_ceil (9 * square) (2 ^ 44) + more ≤ 2 ^ 28 → square ≤ 2 ^ 72
square_most square more h = omega arith

-- phi as the program forms it
pub phi_is : (curves : MonthCurves) (unit iota phi : ℕ) → GrowsLittle curves unit → iota ≡ iota_of curves
    → phi ≡ div_ceil (2 ^ 40 * (5 * unsigned_abs curves.rho + 6 * iota)) (768 * unit) → phi ≡ phi_of curves unit
unfolding phi_of
phi_is curves unit iota phi grows iota_is is =
    is ∙ ap (λ r. div_ceil (2 ^ 40 * (5 * r + 6 * iota)) (768 * unit)) (natural_part_is curves.rho grows.rho_natural)
    ∙ ap (λ i. div_ceil (2 ^ 40 * (5 * natural_part curves.rho + 6 * i)) (768 * unit)) iota_is

-- the square of phi fits
pub phi_is_small : (curves : MonthCurves) (unit phi : ℕ) → GrowsLittle curves unit → phi ≡ phi_of curves unit
    → phi * phi ≤ 2 ^ 72
unfolding kappa_of
phi_is_small curves unit phi grows is =
    let most = square_most (phi_of curves unit ^ 2) (div_ceil (2 ^ 40 * nu_of curves) (192 * unit)) grows.growth in
    rw (is, square_is (phi_of curves unit)) most

-- the two parts of kappa as the program forms them
pub kappa_by_parts : (curves : MonthCurves) (unit phi nu rates interest : ℕ) → phi ≡ phi_of curves unit
    → nu ≡ nu_of curves → rates ≡ div_ceil (9 * (phi * phi)) (2 ^ 44) → interest ≡ div_ceil (2 ^ 40 * nu) (192 * unit)
    → rates + interest ≡ kappa_of curves unit
unfolding kappa_of
kappa_by_parts curves unit phi nu rates interest phi_is nu_is rates_are interest_is =
    ap (λ n. n + interest) (rates_are ∙ ap (λ s. div_ceil (9 * s) (2 ^ 44)) (square_is phi ∙ ap (λ x. x ^ 2) phi_is))
    ∙ ap (λ n. div_ceil (9 * phi_of curves unit ^ 2) (2 ^ 44) + n)
    (interest_is ∙ ap (λ n. div_ceil (2 ^ 40 * n) (192 * unit)) nu_is)

-- how far a number is below 0
pub part_below_zero : (z : ℤ) → unsigned_abs (int_min z (pos 0)) ≡ natural_part (neg_ℤ z)
part_below_zero (pos zero) = refl
part_below_zero (pos (suc n)) = grind (arith, ints)
part_below_zero (negsuc n) = grind (arith, ints)

least_within_greatest : (x : ℤ) (xs : List ℤ) → least_whole (x ∷ xs) ≤ℤ greatest_whole (x ∷ xs)
least_within_greatest x [] = omega (arith, ints)
least_within_greatest x (y ∷ xs) =
    let within = least_within_greatest y xs in
    between x (least_whole (y ∷ xs)) (greatest_whole (y ∷ xs)) within
  where
    between : (x a b : ℤ) → a ≤ℤ b → int_min x a ≤ℤ int_max x b
    between x a b h = grind (arith, ints)

size_of_ends : (x a b : ℤ) → a ≤ℤ b
    → max (unsigned_abs x) (max (unsigned_abs b) (unsigned_abs a))
    ≡ max (unsigned_abs (int_max x b)) (unsigned_abs (int_min x a))
size_of_ends x a b h = grind (arith, ints)

-- the greatest size of some numbers is that of the greatest or of the least of them
pub greatest_size_by_ends : (xs : List ℤ)
    → greatest_natural (map unsigned_abs xs) ≡ max (unsigned_abs (greatest_whole xs)) (unsigned_abs (least_whole xs))
greatest_size_by_ends [] = refl
greatest_size_by_ends (x ∷ []) = omega arith
greatest_size_by_ends (x ∷ y ∷ xs) =
    ap (max (unsigned_abs x)) (greatest_size_by_ends (y ∷ xs))
    ∙ size_of_ends x (least_whole (y ∷ xs)) (greatest_whole (y ∷ xs)) (least_within_greatest y xs)

pub iota_is : (product : Product) (month : ℕ) (curves : MonthCurves) → AreCurves product month curves
    → iota_of curves ≡ iota product month
unfolding iota_of
iota_is product month curves are =
    ap (λ z. max (unsigned_abs z) (unsigned_abs curves.low)) are.high
    ∙ ap (λ z. max (unsigned_abs (greatest_whole (curve_numerators product.interest month))) (unsigned_abs z)) are.low
    ∙ sym (greatest_size_by_ends (curve_numerators product.interest month))

pub nu_is : (product : Product) (month : ℕ) (curves : MonthCurves) → AreCurves product month curves
    → nu_of curves ≡ nu product month
unfolding nu_of
nu_is product month curves are = ap (λ z. natural_part (neg_ℤ z)) are.low

-- the growth is that of the month
pub kappa_of_month : (product : Product) (month unit : ℕ) (curves : MonthCurves) → AreCurves product month curves
    → unit ≡ month_unit product → kappa_of curves unit ≡ kappa40 product month
unfolding kappa_of phi_of
kappa_of_month product month unit curves are unit_is =
    let kappa : ℕ → ℕ → ℕ → ℕ → ℕ = λ r i v u.
    div_ceil (9 * div_ceil (2 ^ 40 * (5 * r + 6 * i)) (768 * u) ^ 2) (2 ^ 44) + div_ceil (2 ^ 40 * v) (192 * u) in
    ap (λ r. kappa r (iota_of curves) (nu_of curves) unit) (ap natural_part are.rho)
    ∙ ap (λ i. kappa (natural_part (rho product month)) i (nu_of curves) unit) (iota_is product month curves are)
    ∙ ap (λ v. kappa (natural_part (rho product month)) (iota product month) v unit) (nu_is product month curves are)
    ∙ ap (λ u. kappa (natural_part (rho product month)) (iota product month) (nu product month) u) unit_is

-- the numbers of a month in which the rules hold grow little
pub month_grows_little : (product : Product) (month unit : ℕ) (curves : MonthCurves) → AreCurves product month curves
    → HasSmallNumbers product month → unit ≡ month_unit product → unit < 2 ^ 62 → GrowsLittle curves unit
month_grows_little product month unit curves are small unit_is unit_most = record {
  some_unit = omega (arith, unit_is, small.some_unit);
  unit_most = unit_most;
  rho_natural = rw are.rho small.rho_natural;
  rho_most = rw (are.rho, unit_is) small.rho_most;
  iota_most = omega (arith, unit_is, iota_is product month curves are, small.iota_most);
  nu_most = omega (arith, unit_is, nu_is product month curves are, small.nu_most);
  growth = omega (arith, kappa_of_month product month unit curves are unit_is, small.kappa_below);
}
