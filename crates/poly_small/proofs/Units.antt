-- Coefficients in other units, and reflected ones.
use Rattle.std.proofs.Common.{◌≡◌, ℕ, zero, suc, ◌*◌, ◌^◌, ◌<◌, ◌≤◌, ℤ, pos, ◌*ℤ◌, ◌-ℤ◌, FitsSigned}
use Rattle.std.proofs.Common.{List, [], ◌∷◌, length, get_or, arith, refl, ap, sym, subst, ◌∙◌}
use mathlib.Core.Path.{ap₂}
use Rattle.std.specs.Prelude.{unsigned_abs}
use Rattle.std.specs.Int.{w128}
use Rattle.std.proofs.Math.Nat.{mul_assoc, one-le-pow, pow-le-pow_right, pow-zero, pow-suc}
use Rattle.std.proofs.lemmas.Int.{ints, unsigned_abs-mul, fits_signed_from_abs}
use Rattle.frac_laws.specs.Fraction.{over, opposite, ◌-ℚ◌, ◌*ℚ◌}
use Rattle.frac_laws.specs.Lists.{scale_list}
use Rattle.frac_laws.specs.Polynomials.{all_over, stretched, reflected}
use Rattle.frac_laws.proofs.FractionTerms.{ring, terms}
use Rattle.frac_laws.proofs.Quotients.{over_mul, over_scale, over_sub}
use Rattle.frac_laws.proofs.QuotientFacts.{over-zero}
use Rattle.poly_small.specs.WholePolynomials.{value_of_sizes, in_units_of}
use Rattle.poly_small.proofs.Values.{coefficient_within}
use Rattle.frac_base.proofs.WholeRing.{mul_one}
use Rattle.whole_laws.proofs.ShortLists.{six_are_all}

pub over-times : (n : ℤ) (d u : ℕ) → 1 ≤ d → 1 ≤ u → over n (d * u) ≡ over (pos 1) u *ℚ over n d
over-times n d u positive unit =
    ap (λ m. over m (d * u)) (sym (mul_one n)) ∙ sym (over_mul n (pos 1) d u positive unit)
    ∙ ring (over n d ∷ over (pos 1) u ∷ []) (hlevel terms) refl

pub all_over-times : (ns : List ℤ) (d u : ℕ) → 1 ≤ d → 1 ≤ u
    → all_over (d * u) ns ≡ scale_list (over (pos 1) u) (all_over d ns)
all_over-times [] d u positive unit = refl
all_over-times (n ∷ ns) d u positive unit =
    ap₂ (λ x xs. x ∷ xs) (over-times n d u positive unit) (all_over-times ns d u positive unit)

pub positive_power : (u m : ℕ) → 1 ≤ u → 1 ≤ u ^ m
positive_power u m h = one-le-pow m u h

-- in units, over unit^n times the denominator, the polynomial is stretched
pub in_units-stretched : (c : ℤ) (p : List ℤ) (d u : ℕ) → 1 ≤ d → 1 ≤ u
    → all_over (d * u ^ length p) (in_units_of u (c ∷ p)) ≡ stretched (over (pos 1) u) (all_over d (c ∷ p))
in_units-stretched c [] d u positive unit =
    ap (λ z. z ∷ []) (over_scale c d (u ^ 0) positive (positive_power u 0 unit))
in_units-stretched c (e ∷ p) d u positive unit =
    ap₂ (λ z zs. z ∷ zs) (over_scale c d (u ^ suc (length p)) positive (positive_power u (suc (length p)) unit))
    (ap (λ m. all_over m (in_units_of u (e ∷ p)))
    (ap (λ z. d * z) (pow-suc u (length p)) ∙ power_moves d (u ^ length p) u)
    ∙ all_over-times (in_units_of u (e ∷ p)) (d * u ^ length p) u
    (product_positive d (u ^ length p) positive (positive_power u (length p) unit)) unit
    ∙ ap (scale_list (over (pos 1) u)) (in_units-stretched e p d u positive unit))
  where
    power_moves : (d n u : ℕ) → d * (n * u) ≡ d * n * u
    power_moves d n u = sym (mul_assoc d n u)

    product_positive : (a b : ℕ) → 1 ≤ a → 1 ≤ b → 1 ≤ a * b
    product_positive zero b h k = absurd (omega arith)
    product_positive (suc a) zero h k = absurd (omega arith)
    product_positive (suc a) (suc b) h k = omega arith

pub in_units_polynomial : (p : List ℤ) (d u : ℕ) → length p ≡ 6 → 1 ≤ d → 1 ≤ u
    → all_over (d * u ^ 5) (in_units_of u p) ≡ stretched (over (pos 1) u) (all_over d p)
in_units_polynomial p d u h positive unit =
    let P : List ℤ → Type 0 =
    λ q. all_over (d * u ^ 5) (in_units_of u q) ≡ stretched (over (pos 1) u) (all_over d q) in
    subst P (sym (six_are_all p h))
    (in_units-stretched (get_or p 0 (pos 0)) (get_or p 1 (pos 0) ∷ get_or p 2 (pos 0) ∷ get_or p 3 (pos 0) ∷
    get_or p 4 (pos 0) ∷ get_or p 5 (pos 0) ∷ []) d u positive unit)

-- the numbers that the change of units forms
pub record UnitsFit (p : List ℤ) (u : ℕ) : Type 0 where
  pub fits-0 : unsigned_abs (get_or p 0 (pos 0)) * u ^ 5 < 2 ^ 126
  pub fits-1 : unsigned_abs (get_or p 1 (pos 0)) * u ^ 4 < 2 ^ 126
  pub fits-2 : unsigned_abs (get_or p 2 (pos 0)) * u ^ 3 < 2 ^ 126
  pub fits-3 : unsigned_abs (get_or p 3 (pos 0)) * u ^ 2 < 2 ^ 126
  pub fits-4 : unsigned_abs (get_or p 4 (pos 0)) * u ^ 1 < 2 ^ 126

six_units_fit : (c0 c1 c2 c3 c4 c5 : ℤ) (u : ℕ)
    → value_of_sizes (in_units_of u (c0 ∷ c1 ∷ c2 ∷ c3 ∷ c4 ∷ c5 ∷ [])) 1 < 2 ^ 126
    → UnitsFit (c0 ∷ c1 ∷ c2 ∷ c3 ∷ c4 ∷ c5 ∷ []) u
six_units_fit c0 c1 c2 c3 c4 c5 u h =
    record {
      fits-0 = omega (arith, unsigned_abs-mul c0 (pos (u ^ 5)));
      fits-1 = omega (arith, unsigned_abs-mul c1 (pos (u ^ 4)));
      fits-2 = omega (arith, unsigned_abs-mul c2 (pos (u ^ 3)));
      fits-3 = omega (arith, unsigned_abs-mul c3 (pos (u ^ 2)));
      fits-4 = omega (arith, unsigned_abs-mul c4 (pos (u ^ 1)));
    }

pub units_fit : (p : List ℤ) (u : ℕ) → length p ≡ 6 → value_of_sizes (in_units_of u p) 1 < 2 ^ 126 → UnitsFit p u
units_fit p u h =
    let P : List ℤ → Type 0 = λ q. value_of_sizes (in_units_of u q) 1 < 2 ^ 126 → UnitsFit q u in
    subst P (sym (six_are_all p h)) (six_units_fit
    (get_or p 0 (pos 0)) (get_or p 1 (pos 0)) (get_or p 2 (pos 0)) (get_or p 3 (pos 0)) (get_or p 4 (pos 0))
    (get_or p 5 (pos 0)) u)

-- lower powers of a unit are no greater
pub lower_power : (u m : ℕ) → 1 ≤ m → m ≤ 5 → u ^ 5 < 2 ^ 126 → u ^ m < 2 ^ 126
lower_power u zero some most fits = absurd (omega arith)
lower_power zero (suc m) some most fits = omega arith
lower_power (suc u) (suc m) some most fits = omega (arith, pow-le-pow_right {n = suc u} (omega arith) most)

-- five products and the last coefficient are the coefficients in other units
pub record ProductsAre (p : List ℤ) (u : ℕ) (r0 r1 r2 r3 r4 : ℤ) : Type 0 where
  pub first : r0 ≡ get_or p 0 (pos 0) *ℤ pos (u ^ 5)
  pub second : r1 ≡ get_or p 1 (pos 0) *ℤ pos (u ^ 4)
  pub third : r2 ≡ get_or p 2 (pos 0) *ℤ pos (u ^ 3)
  pub fourth : r3 ≡ get_or p 3 (pos 0) *ℤ pos (u ^ 2)
  pub fifth : r4 ≡ get_or p 4 (pos 0) *ℤ pos (u ^ 1)

times_no_power : (n : ℤ) (u : ℕ) → n *ℤ pos (u ^ 0) ≡ n
times_no_power n u = ap (λ z. n *ℤ pos z) (pow-zero u) ∙ mul_one n

six_products : (c0 c1 c2 c3 c4 c5 r0 r1 r2 r3 r4 : ℤ) (u : ℕ)
    → ProductsAre (c0 ∷ c1 ∷ c2 ∷ c3 ∷ c4 ∷ c5 ∷ []) u r0 r1 r2 r3 r4
    → r0 ∷ r1 ∷ r2 ∷ r3 ∷ r4 ∷ c5 ∷ [] ≡ in_units_of u (c0 ∷ c1 ∷ c2 ∷ c3 ∷ c4 ∷ c5 ∷ [])
six_products c0 c1 c2 c3 c4 c5 r0 r1 r2 r3 r4 u given =
    ap₂ (λ z w. z ∷ w) given.first
    (ap₂ (λ z w. z ∷ w) given.second
    (ap₂ (λ z w. z ∷ w) given.third
    (ap₂ (λ z w. z ∷ w) given.fourth
    (ap₂ (λ z w. z ∷ w) given.fifth (ap (λ z. z ∷ []) (sym (times_no_power c5 u)))))))

pub products_are_in_units : (p : List ℤ) (u : ℕ) (r0 r1 r2 r3 r4 : ℤ) → length p ≡ 6
    → ProductsAre p u r0 r1 r2 r3 r4
    → r0 ∷ r1 ∷ r2 ∷ r3 ∷ r4 ∷ get_or p 5 (pos 0) ∷ [] ≡ in_units_of u p
products_are_in_units p u r0 r1 r2 r3 r4 h =
    let P : List ℤ → Type 0 = λ q. ProductsAre q u r0 r1 r2 r3 r4
    → r0 ∷ r1 ∷ r2 ∷ r3 ∷ r4 ∷ get_or q 5 (pos 0) ∷ [] ≡ in_units_of u q in
    subst P (sym (six_are_all p h)) (six_products
    (get_or p 0 (pos 0)) (get_or p 1 (pos 0)) (get_or p 2 (pos 0)) (get_or p 3 (pos 0)) (get_or p 4 (pos 0))
    (get_or p 5 (pos 0)) r0 r1 r2 r3 r4 u)

-- reflection
abbrev pub turned : List ℤ → List ℤ
turned p = get_or p 0 (pos 0) ∷ (pos 0 -ℤ get_or p 1 (pos 0)) ∷ get_or p 2 (pos 0) ∷
    (pos 0 -ℤ get_or p 3 (pos 0)) ∷ get_or p 4 (pos 0) ∷ (pos 0 -ℤ get_or p 5 (pos 0)) ∷ []

over-turned : (n : ℤ) (d : ℕ) → over (pos 0 -ℤ n) d ≡ opposite (over n d)
over-turned n d = over_sub (pos 0) n d ∙ ap (λ z. z -ℚ over n d) (over-zero d)
    ∙ ring (over n d ∷ []) (hlevel terms) refl

six_turned : (c0 c1 c2 c3 c4 c5 : ℤ) (d : ℕ)
    → all_over d (turned (c0 ∷ c1 ∷ c2 ∷ c3 ∷ c4 ∷ c5 ∷ []))
    ≡ reflected (all_over d (c0 ∷ c1 ∷ c2 ∷ c3 ∷ c4 ∷ c5 ∷ []))
six_turned c0 c1 c2 c3 c4 c5 d =
    ap (λ z. over c0 d ∷ z) (ap₂ (λ z w. z ∷ w) (over-turned c1 d ∙ ring (over c1 d ∷ []) (hlevel terms) refl)
    (ap₂ (λ z w. z ∷ w) (ring (over c2 d ∷ []) (hlevel terms) refl)
    (ap₂ (λ z w. z ∷ w) (over-turned c3 d ∙ ring (over c3 d ∷ []) (hlevel terms) refl)
    (ap₂ (λ z w. z ∷ w) (ring (over c4 d ∷ []) (hlevel terms) refl)
    (ap (λ z. z ∷ []) (over-turned c5 d ∙ ring (over c5 d ∷ []) (hlevel terms) refl))))))

pub turned_is_reflected : (p : List ℤ) (d : ℕ) → length p ≡ 6
    → all_over d (turned p) ≡ reflected (all_over d p)
turned_is_reflected p d h =
    let P : List ℤ → Type 0 = λ q. all_over d (turned q) ≡ reflected (all_over d q) in
    subst P (sym (six_are_all p h)) (six_turned
    (get_or p 0 (pos 0)) (get_or p 1 (pos 0)) (get_or p 2 (pos 0)) (get_or p 3 (pos 0)) (get_or p 4 (pos 0))
    (get_or p 5 (pos 0)) d)

size_turned : (n : ℤ) → unsigned_abs (pos 0 -ℤ n) ≡ unsigned_abs n
size_turned n = omega (arith, ints)

six_sizes : (c0 c1 c2 c3 c4 c5 : ℤ) (x : ℕ)
    → value_of_sizes (turned (c0 ∷ c1 ∷ c2 ∷ c3 ∷ c4 ∷ c5 ∷ [])) x
    ≡ value_of_sizes (c0 ∷ c1 ∷ c2 ∷ c3 ∷ c4 ∷ c5 ∷ []) x
six_sizes c0 c1 c2 c3 c4 c5 x = rw (size_turned c1, size_turned c3, size_turned c5) refl

pub turned_sizes : (p : List ℤ) (x : ℕ) → length p ≡ 6 → value_of_sizes (turned p) x ≡ value_of_sizes p x
turned_sizes p x h =
    let P : List ℤ → Type 0 = λ q. value_of_sizes (turned q) x ≡ value_of_sizes q x in
    subst P (sym (six_are_all p h)) (six_sizes
    (get_or p 0 (pos 0)) (get_or p 1 (pos 0)) (get_or p 2 (pos 0)) (get_or p 3 (pos 0)) (get_or p 4 (pos 0))
    (get_or p 5 (pos 0)) x)

-- a coefficient and its opposite fit
pub turned_fits : (p : List ℤ) (i : ℕ) → i < length p → value_of_sizes p 1 < 2 ^ 126
    → FitsSigned w128 (pos 0 -ℤ get_or p i (pos 0))
turned_fits p i inside fits =
    fits_signed_from_abs w128 (pos 0 -ℤ get_or p i (pos 0))
    (omega (arith, size_turned (get_or p i (pos 0)), coefficient_within p i inside))
