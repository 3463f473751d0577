-- Pairs in lowest terms, so that closed sums and products of a few dozen terms compute.
use Rattle.std.specs.Prelude.{◌≡◌, ℕ, zero, suc, pred, pos, negsuc, ℤ, ◌+ℤ◌, ◌*ℤ◌, neg_ℤ, ◌/◌, ◌%◌}
use Rattle.std.specs.Prelude.{Bool, true, false, nat_eq, List, [], ◌∷◌, unsigned_abs, slice_index_or}
use Rattle.std.specs.Prelude.{refl}
use Rattle.std.proofs.Common.{ap, ◌∙◌, arith}
use Rattle.std.proofs.lemmas.Int.{ints}
use mathlib.Core.Path.{ap₂}
use mathlib.Core.Quot.{mk, sound}
use Rattle.frac_base.specs.Pair.{Pair, Same, bottom, sum_of, product_of, zero_pair}
use Rattle.frac_base.proofs.WholeRing.{is_zero}
use Rattle.frac_laws.specs.Fraction.{Fraction, whole, ◌+ℚ◌, ◌*ℚ◌}
use Rattle.frac_laws.specs.Sums.{sum_of_list}
use Rattle.frac_laws.specs.Lists.{add_lists, scale_list, dot, image, number_at}
use Rattle.frac_laws.specs.ListProducts.{product_of_lists}
use Rattle.frac_laws.proofs.FractionRing.{mk-sum_of, mk-product_of}

-- the greatest common divisor, found in at most so many steps
abbrev pub divisor_within : ℕ → ℕ → ℕ → ℕ
divisor_within zero a b = 1
divisor_within (suc steps) a b = elim (nat_eq b 0) [ true ↦ a | false ↦ divisor_within steps b (a % b) ]

abbrev pub shrink : ℤ → ℕ → ℤ
shrink (pos n) g = pos (n / g)
shrink (negsuc n) g = neg_ℤ (pos (suc n / g))

-- top and bottom divided by g
abbrev pub divided_pair : Pair → ℕ → Pair
divided_pair p g = record { top = shrink p.top g; below = pred (suc p.below / g) }

-- q where it is the same number as p, otherwise p
abbrev pub checked : Pair → Pair → Pair
checked p q = elim (is_zero (q.top *ℤ bottom p +ℤ neg_ℤ (p.top *ℤ bottom q))) [ true ↦ q | false ↦ p ]

-- the same number in lowest terms
unfoldable pub reduced : Pair → Pair
reduced p = checked p (divided_pair p (divisor_within 5000 (unsigned_abs p.top) (suc p.below)))

no_gap : (n m : ℤ) → is_zero (n +ℤ neg_ℤ m) ≡ true → n ≡ m
no_gap n m h = grind (arith, ints)

same-checked : (p q : Pair) → Same (checked p q) p
same-checked p q = cases (is_zero (q.top *ℤ bottom p +ℤ neg_ℤ (p.top *ℤ bottom q))) refl
  where
    cases : (b : Bool) → is_zero (q.top *ℤ bottom p +ℤ neg_ℤ (p.top *ℤ bottom q)) ≡ b
        → Same (elim b [ true ↦ q | false ↦ p ]) p
    cases true e = no_gap _ _ e
    cases false e = refl

-- the fraction of a pair
abbrev pub value_of : Pair → Fraction
value_of p = mk p

pub value_of-reduced : (p : Pair) → value_of (reduced p) ≡ value_of p
unfolding reduced
value_of-reduced p = sound (same-checked p _)

-- sums and products that stay reduced
abbrev pub reduced_sum : Pair → Pair → Pair
reduced_sum p q = reduced (sum_of p q)

abbrev pub reduced_product : Pair → Pair → Pair
reduced_product p q = reduced (product_of p q)

pub value_of-sum : (p q : Pair) → value_of (reduced_sum p q) ≡ value_of p +ℚ value_of q
value_of-sum p q = value_of-reduced (sum_of p q) ∙ mk-sum_of p q

pub value_of-product : (p q : Pair) → value_of (reduced_product p q) ≡ value_of p *ℚ value_of q
value_of-product p q = value_of-reduced (product_of p q) ∙ mk-product_of p q

-- the numbers of a list of pairs
abbrev pub values_of : List Pair → List Fraction
values_of [] = []
values_of (p ∷ ps) = value_of p ∷ values_of ps

-- a number n / d as a pair
abbrev pub pair_over : ℤ → ℕ → Pair
pair_over n d = record { top = n; below = pred d }

-- the twins of the functions on lists, and that they have the same values
abbrev pub reduced_total : List Pair → Pair
reduced_total [] = zero_pair
reduced_total (p ∷ ps) = reduced_sum p (reduced_total ps)

pub value_of-total : (ps : List Pair) → value_of (reduced_total ps) ≡ sum_of_list (values_of ps)
value_of-total [] = refl
value_of-total (p ∷ ps) = value_of-sum p (reduced_total ps) ∙ ap (λ z. value_of p +ℚ z) (value_of-total ps)

abbrev pub pair_at : List Pair → ℕ → Pair
pair_at ps k = slice_index_or ps k zero_pair

pub value_of-at : (ps : List Pair) (k : ℕ) → value_of (pair_at ps k) ≡ number_at (values_of ps) k
value_of-at [] k = refl
value_of-at (p ∷ ps) zero = refl
value_of-at (p ∷ ps) (suc k) = value_of-at ps k

abbrev pub reduced_dot : List Pair → List Pair → Pair
reduced_dot [] qs = zero_pair
reduced_dot (p ∷ ps) [] = zero_pair
reduced_dot (p ∷ ps) (q ∷ qs) = reduced_sum (reduced_product p q) (reduced_dot ps qs)

pub value_of-dot : (ps qs : List Pair) → value_of (reduced_dot ps qs) ≡ dot (values_of ps) (values_of qs)
value_of-dot [] qs = refl
value_of-dot (p ∷ ps) [] = refl
value_of-dot (p ∷ ps) (q ∷ qs) =
    value_of-sum (reduced_product p q) (reduced_dot ps qs)
    ∙ ap₂ ◌+ℚ◌ (value_of-product p q) (value_of-dot ps qs)

abbrev pub reduced_add : List Pair → List Pair → List Pair
reduced_add [] qs = qs
reduced_add (p ∷ ps) [] = p ∷ ps
reduced_add (p ∷ ps) (q ∷ qs) = reduced_sum p q ∷ reduced_add ps qs

pub values_of-add : (ps qs : List Pair)
    → values_of (reduced_add ps qs) ≡ add_lists (values_of ps) (values_of qs)
values_of-add [] qs = refl
values_of-add (p ∷ ps) [] = refl
values_of-add (p ∷ ps) (q ∷ qs) = ap₂ (λ z zs. z ∷ zs) (value_of-sum p q) (values_of-add ps qs)

abbrev pub reduced_scale : Pair → List Pair → List Pair
reduced_scale c [] = []
reduced_scale c (p ∷ ps) = reduced_product c p ∷ reduced_scale c ps

pub values_of-scale : (c : Pair) (ps : List Pair)
    → values_of (reduced_scale c ps) ≡ scale_list (value_of c) (values_of ps)
values_of-scale c [] = refl
values_of-scale c (p ∷ ps) = ap₂ (λ z zs. z ∷ zs) (value_of-product c p) (values_of-scale c ps)

abbrev pub reduced_list_product : List Pair → List Pair → List Pair
reduced_list_product [] qs = []
reduced_list_product (p ∷ ps) qs = reduced_add (reduced_scale p qs) (zero_pair ∷ reduced_list_product ps qs)

pub values_of-list_product : (ps qs : List Pair)
    → values_of (reduced_list_product ps qs) ≡ product_of_lists (values_of ps) (values_of qs)
values_of-list_product [] qs = refl
values_of-list_product (p ∷ ps) qs =
    values_of-add (reduced_scale p qs) (zero_pair ∷ reduced_list_product ps qs)
    ∙ ap₂ add_lists (values_of-scale p qs) (ap (λ zs. whole (pos 0) ∷ zs) (values_of-list_product ps qs))

-- a matrix is the list of its rows
abbrev pub rows_of : List (List Pair) → List (List Fraction)
rows_of [] = []
rows_of (row ∷ rows) = values_of row ∷ rows_of rows

abbrev pub reduced_image : List (List Pair) → List Pair → List Pair
reduced_image [] v = []
reduced_image (row ∷ rows) v = reduced_dot row v ∷ reduced_image rows v

pub values_of-image : (rows : List (List Pair)) (v : List Pair)
    → values_of (reduced_image rows v) ≡ image (rows_of rows) (values_of v)
values_of-image [] v = refl
values_of-image (row ∷ rows) v = ap₂ (λ z zs. z ∷ zs) (value_of-dot row v) (values_of-image rows v)
