-- Payments of a cell over their denominators.
use Rattle.std.specs.Prelude.{◌≡◌, ℕ, pos, ◌*◌, ◌^◌, ◌≤◌, ◌+◌, ◌-◌, ℤ, ◌*ℤ◌, ◌<ℤ◌, List, [], ◌∷◌}
use Rattle.std.specs.Prelude.{slice_index_or}
use Rattle.std.proofs.Common.{refl, ap, sym, ◌∙◌, arith, FitsSigned, to_z, of_z}
use Rattle.std.specs.Int.{w128}
use Rattle.std.proofs.lemmas.Int.{ints, to_z-of_z, fits_signed_from_abs}
use Rattle.std.proofs.lemmas.Nat.{pow-add, pow_pos}
use Rattle.std.proofs.Math.Nat.{mul-le-mul_left}
use Rattle.frac_laws.specs.Fraction.{Fraction, over, ◌*ℚ◌}
use Rattle.frac_laws.specs.Lists.{number_at}
use Rattle.frac_laws.specs.Polynomials.{all_over}
use Rattle.frac_laws.proofs.FractionTerms.{ring, terms}
use Rattle.frac_laws.proofs.Quotients.{over_mul}
use Rattle.frac_laws.proofs.Vectors.{number_at-scale_list}
use Rattle.model_specs.specs.Cells.{per_cell, cells_of_32, Backward}
use Rattle.cell_bounds.specs.ScaledSystems.{scaling}
use Rattle.cell_coeffs.proofs.Numerators.{at-all_over}
use Rattle.frac_base.proofs.WholeRing.{mul_one}

two_pow : (g : ℕ) → g ≤ 56 → 2 ^ g ≤ 2 ^ 56
two_pow g few =
    let sum : g + (56 - g) ≡ 56 = omega arith in
    let split : 2 ^ g * 2 ^ (56 - g) ≡ 2 ^ 56 = sym (pow-add 2 g (56 - g)) ∙ ap (λ k. 2 ^ k) sum in
    omega (arith, mul-le-mul_left (2 ^ g) (pow_pos (56 - g)), split)

pub year_scale_small : (g : ℕ) → g ≤ 56 → pos (384 ^ 4 * 2 ^ g) <ℤ pos (2 ^ 95)
year_scale_small g few = omega (arith, ints, two_pow g few)

-- the denominators that the program computes
computed : (unit g : ℕ) (power : ℤ) → unit ≤ 384 ^ 4 → FitsSigned w128 power → power ≡ pos (2 ^ g) → g ≤ 56
    → FitsSigned w128 (pos (unit * 2 ^ g))
    → to_z w128 (of_z w128 (pos unit *ℤ to_z w128 (of_z w128 power))) ≡ pos (unit * 2 ^ g)
computed unit g power small fits is few product_fits =
    let again : FitsSigned w128 (pos unit *ℤ power) = rw is product_fits in
    simp to_z-of_z (rw is refl)

pub rate_scale : (g : ℕ) (power : ℤ) → FitsSigned w128 power → power ≡ pos (2 ^ g) → g ≤ 56
    → to_z w128 (of_z w128 (pos (384 ^ 4) *ℤ to_z w128 (of_z w128 power))) ≡ pos (384 ^ 4 * 2 ^ g)
rate_scale g power fits is few = computed (384 ^ 4) g power (omega arith) fits is few
    (fits_signed_from_abs w128 (pos (384 ^ 4 * 2 ^ g)) (omega (arith, two_pow g few)))

pub sum_scale : (g : ℕ) (power : ℤ) → FitsSigned w128 power → power ≡ pos (2 ^ g) → g ≤ 56
    → to_z w128 (of_z w128 (pos (384 ^ 3) *ℤ to_z w128 (of_z w128 power))) ≡ pos (384 ^ 3 * 2 ^ g)
sum_scale g power fits is few = computed (384 ^ 3) g power (omega arith) fits is few
    (fits_signed_from_abs w128 (pos (384 ^ 3 * 2 ^ g)) (omega (arith, two_pow g few)))

-- a sum and a rate
pub sum_is : (n : List ℤ) (amount : List Fraction) (g m : ℕ) → all_over (384 ^ 3) n ≡ amount
    → scaling g *ℚ number_at amount m ≡ over (slice_index_or n m (pos 0)) (384 ^ 3 * 2 ^ g)
sum_is n amount g m is =
    let z = slice_index_or n m (pos 0) in
    let here : number_at amount m ≡ over z (384 ^ 3) =
    ap (λ (p : List Fraction). number_at p m) (sym is) ∙ at-all_over (384 ^ 3) n m in
    ap (λ x. scaling g *ℚ x) here ∙ turned (scaling g) (over z (384 ^ 3))
    ∙ over_mul z (pos 1) (384 ^ 3) (2 ^ g) (omega arith) (omega (arith, pow_pos g))
    ∙ ap (λ w. over w (384 ^ 3 * 2 ^ g)) (mul_one z)
  where
    turned : (h x : Fraction) → h *ℚ x ≡ x *ℚ h
    turned h x = ring (h ∷ x ∷ []) (hlevel terms) refl

pub rate_is : (n : List ℤ) (amount : List Fraction) (g m : ℕ) → all_over (384 ^ 3) n ≡ amount
    → scaling g *ℚ number_at (per_cell (cells_of_32 Backward) amount) m
    ≡ over (slice_index_or n m (pos 0)) (384 ^ 4 * 2 ^ g)
rate_is n amount g m is =
    let z = slice_index_or n m (pos 0) in
    let here : number_at amount m ≡ over z (384 ^ 3) =
    ap (λ (p : List Fraction). number_at p m) (sym is) ∙ at-all_over (384 ^ 3) n m in
    ap (λ x. scaling g *ℚ x) (number_at-scale_list (over (pos 1) 384) amount m ∙ ap (λ x. over (pos 1) 384 *ℚ x) here)
    ∙ turned (scaling g) (over (pos 1) 384) (over z (384 ^ 3))
    ∙ ap (λ x. x *ℚ scaling g) (over_mul z (pos 1) (384 ^ 3) 384 (omega arith) (omega arith)
    ∙ ap (λ w. over w (384 ^ 4)) (mul_one z))
    ∙ over_mul z (pos 1) (384 ^ 4) (2 ^ g) (omega arith) (omega (arith, pow_pos g))
    ∙ ap (λ w. over w (384 ^ 4 * 2 ^ g)) (mul_one z)
  where
    turned : (h c x : Fraction) → h *ℚ (c *ℚ x) ≡ x *ℚ c *ℚ h
    turned h c x = ring (h ∷ c ∷ x ∷ []) (hlevel terms) refl
