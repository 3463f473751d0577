-- Values of polynomials with whole coefficients, and their sizes.
use Rattle.std.proofs.Common.{◌≡◌, ℕ, zero, suc, ◌+◌, ◌*◌, ◌^◌, ◌<◌, ◌≤◌, ℤ, pos, ◌+ℤ◌, ◌*ℤ◌, FitsSigned}
use Rattle.std.proofs.Common.{List, [], ◌∷◌, length, drop, get_or, arith, refl, ap, sym, ◌∙◌, ◌-◌, max}
use Rattle.std.specs.Prelude.{unsigned_abs}
use Rattle.std.specs.Int.{w128}
use Rattle.std.proofs.Math.Nat.{mul-le-mul_left, mul-le-mul_right}
use Rattle.std.proofs.Math.Seq.{drop-cons}
use Rattle.std.proofs.lemmas.Int.{unsigned_abs-mul, fits_signed_from_abs}
use Rattle.std.proofs.lemmas.List.{drop_all}
use Rattle.poly_small.specs.WholePolynomials.{whole_value_at, value_of_sizes, weighted}
use Rattle.whole_laws.proofs.Numbers.{size_of_sum}

products_keep_order : (a b x y : ℕ) → a ≤ b → x ≤ y → x * a ≤ y * b
products_keep_order a b x y h k = grind arith

-- a greater variable gives a greater value of sizes
pub value_of_sizes-grows : (p : List ℤ) (x y : ℕ) → x ≤ y → value_of_sizes p x ≤ value_of_sizes p y
value_of_sizes-grows [] x y h = omega arith
value_of_sizes-grows (c ∷ p) x y h =
    omega (arith, products_keep_order (value_of_sizes p x) (value_of_sizes p y) x y (value_of_sizes-grows p x y h) h)

once_at_least : (a x : ℕ) → a ≤ max x 1 * a
once_at_least a x = omega (arith, mul-le-mul_right a (at_least x))
  where
    at_least : (x : ℕ) → 1 ≤ max x 1
    at_least x = omega arith

-- the last coefficients have no greater value than all, from 1 on
pub value_of_sizes-drop : (p : List ℤ) (i x : ℕ) → value_of_sizes (drop i p) (max x 1) ≤ value_of_sizes p (max x 1)
value_of_sizes-drop [] zero x = omega arith
value_of_sizes-drop [] (suc i) x = omega arith
value_of_sizes-drop (c ∷ p) zero x = omega arith
value_of_sizes-drop (c ∷ p) (suc i) x =
    omega (arith, value_of_sizes-drop p i x, once_at_least (value_of_sizes p (max x 1)) x)

-- the value is no greater than the value of sizes
pub whole_value-size : (p : List ℤ) (x : ℕ) → unsigned_abs (whole_value_at p x) ≤ value_of_sizes p x
whole_value-size [] x = omega arith
whole_value-size (c ∷ p) x =
    omega (
      arith,
      size_of_sum c (whole_value_at p x *ℤ pos x),
      unsigned_abs-mul (whole_value_at p x) (pos x),
      mul-le-mul_left x (whole_value-size p x),
    )

-- the coefficients from the one before place i on
tail-cons : (p : List ℤ) (i : ℕ) → 0 < i → i ≤ length p → drop (i - 1) p ≡ get_or p (i - 1) (pos 0) ∷ drop i p
tail-cons p i some inside =
    let e : suc (i - 1) ≡ i = omega arith in
    drop-cons p (i - 1) (pos 0) (omega arith) ∙ ap (λ j. get_or p (i - 1) (pos 0) ∷ drop j p) e

pub tail-value : (p : List ℤ) (i x : ℕ) (sum factor : ℤ) → factor ≡ pos x → 0 < i → i ≤ length p
    → sum ≡ whole_value_at (drop i p) x
    → get_or p (i - 1) (pos 0) +ℤ (sum *ℤ factor) ≡ whole_value_at (drop (i - 1) p) x
tail-value p i x sum factor e some inside value = rw (tail-cons p i some inside, value, e) refl

tail-sizes : (p : List ℤ) (i x : ℕ) → 0 < i → i ≤ length p
    → value_of_sizes (drop (i - 1) p) x
    ≡ unsigned_abs (get_or p (i - 1) (pos 0)) + x * value_of_sizes (drop i p) x
tail-sizes p i x some inside = rw (tail-cons p i some inside) refl

grown_product : (n m x : ℕ) → n ≤ m → n * x ≤ max x 1 * m
grown_product n m x h = omega (arith, products_keep_order n m x (max x 1) h (omega arith))

pub product_fits : (p : List ℤ) (i x : ℕ) (sum factor : ℤ) → factor ≡ pos x → 0 < i → i ≤ length p
    → sum ≡ whole_value_at (drop i p) x → value_of_sizes p (max x 1) < 2 ^ 126 → FitsSigned w128 (sum *ℤ factor)
product_fits p i x sum factor e some inside value fits =
    let within : unsigned_abs sum ≤ value_of_sizes (drop i p) (max x 1) =
    rw value (omega (
      arith,
      whole_value-size (drop i p) x,
      value_of_sizes-grows (drop i p) x (max x 1) (omega arith),
    )) in
    rw e
    (fits_signed_from_abs w128 (sum *ℤ pos x)
    (omega (
      arith,
      unsigned_abs-mul sum (pos x),
      grown_product _ _ x within,
      tail-sizes p i (max x 1) some inside,
      value_of_sizes-drop p (i - 1) x,
    )))

pub tail_fits : (p : List ℤ) (i x : ℕ) (sum : ℤ) → sum ≡ whole_value_at (drop i p) x
    → value_of_sizes p (max x 1) < 2 ^ 126 → FitsSigned w128 sum
tail_fits p i x sum value fits =
    fits_signed_from_abs w128 sum
    (rw value (omega (
      arith,
      whole_value-size (drop i p) x,
      value_of_sizes-grows (drop i p) x (max x 1) (omega arith),
      value_of_sizes-drop p i x,
    )))

-- a coefficient is no greater than the value of sizes
pub number_fits : (p : List ℤ) (i x : ℕ) → i < length p → value_of_sizes p (max x 1) < 2 ^ 126
    → FitsSigned w128 (get_or p i (pos 0))
number_fits p i x inside fits =
    let next : suc i - 1 ≡ i = omega arith in
    let sizes = rw next at (tail-sizes p (suc i) (max x 1) (omega arith) inside) in
    fits_signed_from_abs w128 (get_or p i (pos 0)) (omega (arith, sizes, value_of_sizes-drop p i x))

-- weighted coefficients
pub length-weighted : (p weights : List ℤ) → length weights ≡ length p → length (weighted p weights) ≡ length p
length-weighted [] weights h = refl
length-weighted (c ∷ p) [] h = absurd (omega arith)
length-weighted (c ∷ p) (w ∷ weights) h = ap suc (length-weighted p weights (omega arith))

pub number-weighted : (p weights : List ℤ) (i : ℕ) → i < length p → length weights ≡ length p
    → get_or (weighted p weights) i (pos 0) ≡ get_or weights i (pos 0) *ℤ get_or p i (pos 0)
number-weighted [] weights i inside h = absurd (omega arith)
number-weighted (c ∷ p) [] i inside h = absurd (omega arith)
number-weighted (c ∷ p) (w ∷ weights) zero inside h = refl
number-weighted (c ∷ p) (w ∷ weights) (suc i) inside h = number-weighted p weights i (omega arith) (omega arith)

-- Horner's rule over weighted coefficients, at the coefficient before place i
pub record IsStep (p weights : List ℤ) (i x : ℕ) (sum factor : ℤ) : Type 0 where
  pub lengths : length weights ≡ length p
  pub fits : value_of_sizes (weighted p weights) (max x 1) < 2 ^ 126
  pub some : 0 < i
  pub inside : i ≤ length p
  pub factor_is : factor ≡ pos x
  pub sum_is : sum ≡ whole_value_at (drop i (weighted p weights)) x

-- the weighted coefficient before place i
abbrev pub term_before : List ℤ → List ℤ → ℕ → ℤ
term_before p weights i = get_or weights (i - 1) (pos 0) *ℤ get_or p (i - 1) (pos 0)

term_is : (p weights : List ℤ) (i x : ℕ) (sum factor : ℤ) → IsStep p weights i x sum factor
    → get_or (weighted p weights) (i - 1) (pos 0) ≡ term_before p weights i
term_is p weights i x sum factor s =
    number-weighted p weights (i - 1) (omega (arith, s.some, s.inside)) s.lengths

inside_weighted : (p weights : List ℤ) (i x : ℕ) (sum factor : ℤ) → IsStep p weights i x sum factor
    → i ≤ length (weighted p weights)
inside_weighted p weights i x sum factor s = omega (arith, length-weighted p weights s.lengths, s.inside)

pub step-term : (p weights : List ℤ) (i x : ℕ) (sum factor : ℤ) → IsStep p weights i x sum factor
    → FitsSigned w128 (term_before p weights i)
step-term p weights i x sum factor s =
    let inside = inside_weighted p weights i x sum factor s in
    rw (← term_is p weights i x sum factor s)
    (number_fits (weighted p weights) (i - 1) x (omega (arith, s.some, inside)) s.fits)

pub step-product : (p weights : List ℤ) (i x : ℕ) (sum factor : ℤ) → IsStep p weights i x sum factor
    → FitsSigned w128 (sum *ℤ factor)
step-product p weights i x sum factor s =
    product_fits (weighted p weights) i x sum factor s.factor_is s.some
    (inside_weighted p weights i x sum factor s) s.sum_is s.fits

pub step-value : (p weights : List ℤ) (i x : ℕ) (sum factor : ℤ) → IsStep p weights i x sum factor
    → term_before p weights i +ℤ (sum *ℤ factor) ≡ whole_value_at (drop (i - 1) (weighted p weights)) x
step-value p weights i x sum factor s =
    rw (← term_is p weights i x sum factor s)
    (tail-value (weighted p weights) i x sum factor s.factor_is s.some
    (inside_weighted p weights i x sum factor s) s.sum_is)

pub step-sum : (p weights : List ℤ) (i x : ℕ) (sum factor : ℤ) → IsStep p weights i x sum factor
    → FitsSigned w128 (term_before p weights i +ℤ (sum *ℤ factor))
step-sum p weights i x sum factor s =
    tail_fits (weighted p weights) (i - 1) x _ (step-value p weights i x sum factor s) s.fits

-- before the first step nothing is left
pub nothing_left : (p weights : List ℤ) (x : ℕ) → length weights ≡ length p
    → pos 0 ≡ whole_value_at (drop (length p) (weighted p weights)) x
nothing_left p weights x h =
    sym (ap (λ q. whole_value_at q x)
    (drop_all (length p) (weighted p weights) (omega (arith, length-weighted p weights h))))

-- a coefficient is no greater than the value of sizes at 1
pub coefficient_within : (p : List ℤ) (i : ℕ) → i < length p → unsigned_abs (get_or p i (pos 0)) ≤ value_of_sizes p 1
coefficient_within [] i inside = absurd (omega arith)
coefficient_within (c ∷ p) zero inside = omega arith
coefficient_within (c ∷ p) (suc i) inside = omega (arith, coefficient_within p i (omega arith))
