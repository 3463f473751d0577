-- The product of two lists: its total, and its numbers as convolutions.
use Rattle.std.specs.Prelude.{◌≡◌, ℕ, zero, suc, pos, List, [], ◌∷◌, ◌-◌, ◌<◌}
use Rattle.std.proofs.Common.{refl, ap, sym, ◌∙◌, arith}
use mathlib.Core.Path.{ap₂}
use Rattle.frac_laws.specs.Fraction.{Fraction, whole, ◌+ℚ◌, ◌*ℚ◌}
use Rattle.frac_laws.specs.Sums.{sum_to, sum_of_list}
use Rattle.frac_laws.specs.Lists.{add_lists, scale_list, number_at}
use Rattle.frac_laws.specs.ListProducts.{product_of_lists}
use Rattle.frac_laws.specs.Convolution.{convolution}
use Rattle.frac_laws.proofs.FractionTerms.{ring, terms}
use Rattle.frac_laws.proofs.Sums.{sum_to_first, sum_to_ext, sum_to_zeros}
use Rattle.frac_laws.proofs.Vectors.{number_at-add_lists, number_at-scale_list}

pub sum_of_list-add_lists : (xs ys : List Fraction)
    → sum_of_list (add_lists xs ys) ≡ sum_of_list xs +ℚ sum_of_list ys
sum_of_list-add_lists [] ys = ring (sum_of_list ys ∷ []) (hlevel terms) refl
sum_of_list-add_lists (x ∷ xs) [] = ring (x ∷ sum_of_list xs ∷ []) (hlevel terms) refl
sum_of_list-add_lists (x ∷ xs) (y ∷ ys) = rw (sum_of_list-add_lists xs ys)
    (ring (x ∷ y ∷ sum_of_list xs ∷ sum_of_list ys ∷ []) (hlevel terms) refl)

pub sum_of_list-scale_list : (c : Fraction) (xs : List Fraction)
    → sum_of_list (scale_list c xs) ≡ c *ℚ sum_of_list xs
sum_of_list-scale_list c [] = ring (c ∷ []) (hlevel terms) refl
sum_of_list-scale_list c (x ∷ xs) =
    rw (sum_of_list-scale_list c xs) (ring (c ∷ x ∷ sum_of_list xs ∷ []) (hlevel terms) refl)

-- the total of a product is the product of the totals
pub sum_of_list-product : (xs ys : List Fraction)
    → sum_of_list (product_of_lists xs ys) ≡ sum_of_list xs *ℚ sum_of_list ys
sum_of_list-product [] ys = ring (sum_of_list ys ∷ []) (hlevel terms) refl
sum_of_list-product (x ∷ xs) ys =
    rw (
      sum_of_list-add_lists (scale_list x ys) (whole (pos 0) ∷ product_of_lists xs ys),
      sum_of_list-scale_list x ys,
      sum_of_list-product xs ys,
    )
    (ring (x ∷ sum_of_list xs ∷ sum_of_list ys ∷ []) (hlevel terms) refl)

-- the numbers of a product are the convolution of the numbers
pub number_at-product : (xs ys : List Fraction) (k : ℕ)
    → number_at (product_of_lists xs ys) k ≡ convolution (number_at xs) (number_at ys) k
number_at-product [] ys k = sym (sum_to_zeros (suc k) {f = λ m. whole (pos 0) *ℚ number_at ys (k - m)}
    (λ m b. ring (number_at ys (k - m) ∷ []) (hlevel terms) refl))
number_at-product (x ∷ xs) ys zero =
    number_at-add_lists (scale_list x ys) (whole (pos 0) ∷ product_of_lists xs ys) 0
    ∙ ap (λ z. z +ℚ whole (pos 0)) (number_at-scale_list x ys 0)
    ∙ ring (x ∷ number_at ys 0 ∷ []) (hlevel terms) refl
number_at-product (x ∷ xs) ys (suc k) =
    number_at-add_lists (scale_list x ys) (whole (pos 0) ∷ product_of_lists xs ys) (suc k)
    ∙ ap₂ ◌+ℚ◌ (number_at-scale_list x ys (suc k)) (number_at-product xs ys k)
    ∙ ap (λ z. x *ℚ number_at ys (suc k) +ℚ z)
    (sum_to_ext (suc k) {f = λ m. number_at xs m *ℚ number_at ys (k - m)} later)
    ∙ ap (λ i. x *ℚ number_at ys i +ℚ sum_to (suc k)
    (λ m. number_at xs m *ℚ number_at ys (suc k - suc m))) none_before
    ∙ sym (sum_to_first (suc k) (λ m. number_at (x ∷ xs) m *ℚ number_at ys (suc k - m)))
  where
    later : (m : ℕ) → m < suc k
        → number_at xs m *ℚ number_at ys (k - m) ≡ number_at (x ∷ xs) (suc m) *ℚ number_at ys
        (suc k - suc m)
    later m b = let e : suc k - suc m ≡ k - m = omega arith in rw e refl

    none_before : suc k ≡ suc k - 0
    none_before = omega arith
