-- Shifts of polynomials with zeros behind them, and the amount in a cell.
use Rattle.std.proofs.Common.{◌≡◌, ℕ, zero, suc, ◌^◌, ℤ, pos, negsuc, ◌*ℤ◌, List, [], ◌∷◌, ◌++◌, length, get_or}
use Rattle.std.proofs.Common.{take, arith, refl, ap, sym, subst, ◌∙◌}
use mathlib.Core.Path.{ap₂}
use Rattle.std.proofs.Math.Seq.{take-append_seam}
use Rattle.frac_laws.specs.Fraction.{Fraction, over, whole, ◌+ℚ◌, ◌*ℚ◌}
use Rattle.frac_laws.specs.Lists.{add_lists, scale_list}
use Rattle.frac_laws.specs.Polynomials.{all_over, shifted, stretched, reflected, times_linear}
use Rattle.frac_laws.proofs.FractionTerms.{ring, terms}
use Rattle.frac_laws.proofs.Quotients.{over_is}
use Rattle.named_numbers.specs.Numbers.{cells_of_year}
use Rattle.frac_laws.proofs.Polynomials.{shifted-stretched, stretched-stretched, length-shifted}
use Rattle.frac_laws.proofs.Lengths.{length-all_over}
use Rattle.frac_laws.proofs.QuotientFacts.{over-zero}
use Rattle.poly_small.proofs.Units.{in_units-stretched}
use Rattle.poly_small.specs.WholePolynomials.{in_units_of}
use Rattle.model_laws.proofs.FourCoefficients.{padded}
use Rattle.model_laws.proofs.CellEntries.{cells_in_years}
use Rattle.whole_laws.proofs.ShortLists.{four_are_all}

-- a zero as the last coefficient
abbrev pub none : List Fraction
none = whole (pos 0) ∷ []

-- a product with b + x keeps it
carried : (b y : Fraction) (xs : List Fraction)
    → add_lists (scale_list b (xs ++ none)) (y ∷ (xs ++ none)) ≡ add_lists (scale_list b xs) (y ∷ xs) ++ none
carried b y [] = ap (λ z. z ∷ none) (ring (b ∷ y ∷ []) (hlevel terms) refl)
carried b y (x ∷ xs) = ap (λ z. ((b *ℚ x) +ℚ y) ∷ z) (carried b x xs)

-- and so does a constant that is added
added : (c b : Fraction) (xs : List Fraction)
    → add_lists (c ∷ []) (times_linear b xs ++ none) ≡ add_lists (c ∷ []) (times_linear b xs) ++ none
added c b [] = refl
added c b (x ∷ xs) = refl

pub shifted-none : (b : Fraction) (p : List Fraction) → shifted b (p ++ none) ≡ shifted b p ++ none
shifted-none b [] = ap (λ z. z ∷ []) (ring [] (hlevel terms) refl)
shifted-none b (c ∷ p) =
    ap (λ z. add_lists (c ∷ []) (times_linear b z)) (shifted-none b p)
    ∙ ap (add_lists (c ∷ [])) (carried b (whole (pos 0)) (shifted b p))
    ∙ added c b (shifted b p)

scale_list-take : (h : Fraction) (n : ℕ) (p : List Fraction) → take n (scale_list h p) ≡ scale_list h (take n p)
scale_list-take h zero [] = refl
scale_list-take h zero (c ∷ p) = refl
scale_list-take h (suc n) [] = refl
scale_list-take h (suc n) (c ∷ p) = ap (λ z. (h *ℚ c) ∷ z) (scale_list-take h n p)

stretched-take : (h : Fraction) (n : ℕ) (p : List Fraction) → take n (stretched h p) ≡ stretched h (take n p)
stretched-take h zero [] = refl
stretched-take h zero (c ∷ p) = refl
stretched-take h (suc n) [] = refl
stretched-take h (suc n) (c ∷ p) =
    ap (λ z. c ∷ z) (scale_list-take h n (stretched h p) ∙ ap (scale_list h) (stretched-take h n p))

all_over-take : (d n : ℕ) (p : List ℤ) → take n (all_over d p) ≡ all_over d (take n p)
all_over-take d zero [] = refl
all_over-take d zero (c ∷ p) = refl
all_over-take d (suc n) [] = refl
all_over-take d (suc n) (c ∷ p) = ap (λ z. over c d ∷ z) (all_over-take d n p)

all_over-padded : (d : ℕ) (p : List ℤ) → all_over d (padded p) ≡ all_over d p ++ none ++ none
all_over-padded d [] = ap₂ (λ z w. z ∷ w ∷ []) (over-zero d) (over-zero d)
all_over-padded d (c ∷ p) = ap (λ z. over c d ∷ z) (all_over-padded d p)

-- the first coefficients of a shift, where zeros stand behind them
first_shifted : (b : Fraction) (p : List Fraction) → take (length p) (shifted b (p ++ none ++ none)) ≡ shifted b p
first_shifted b p =
    ap (take (length p)) (shifted-none b (p ++ none) ∙ ap (λ z. z ++ none) (shifted-none b p))
    ∙ ap (λ n. take n (shifted b p ++ none ++ none)) (sym (length-shifted b p))
    ∙ ap (take (length (shifted b p))) (regroup (shifted b p))
    ∙ take-append_seam (shifted b p) (none ++ none)
  where
    regroup : (xs : List Fraction) → xs ++ none ++ none ≡ xs ++ (none ++ none)
    regroup [] = refl
    regroup (x ∷ xs) = ap (λ z. x ∷ z) (regroup xs)

-- the four products with powers of the cells of a year
pub record ProductsAre (p : List ℤ) (r0 r1 r2 r3 : ℤ) : Type 0 where
  pub first : r0 ≡ get_or p 0 (pos 0) *ℤ pos (cells_of_year ^ 3)
  pub second : r1 ≡ get_or p 1 (pos 0) *ℤ pos (cells_of_year ^ 2)
  pub third : r2 ≡ get_or p 2 (pos 0) *ℤ pos (cells_of_year ^ 1)
  pub fourth : r3 ≡ get_or p 3 (pos 0) *ℤ pos (cells_of_year ^ 0)

pub products_are_in_cells : (p : List ℤ) (r0 r1 r2 r3 : ℤ) → length p ≡ 4 → ProductsAre p r0 r1 r2 r3
    → r0 ∷ r1 ∷ r2 ∷ r3 ∷ pos 0 ∷ pos 0 ∷ [] ≡ padded (in_units_of cells_of_year p)
products_are_in_cells p r0 r1 r2 r3 h given =
    let P : List ℤ → Type 0 =
    λ q. r0 ∷ r1 ∷ r2 ∷ r3 ∷ pos 0 ∷ pos 0 ∷ [] ≡ padded (in_units_of cells_of_year q) in
    subst P (sym (four_are_all p h)) (rw (given.first, given.second, given.third, given.fourth) refl)

-- a payment in cells
in_cells : (p : List ℤ) → length p ≡ 4
    → all_over (cells_of_year ^ 3) (in_units_of cells_of_year p) ≡ stretched (over (pos 1) cells_of_year) (all_over 1 p)
in_cells p h =
    let P : List ℤ → Type 0 =
    λ q. all_over (cells_of_year ^ 3) (in_units_of cells_of_year q)
    ≡ stretched (over (pos 1) cells_of_year) (all_over 1 q) in
    subst P (sym (four_are_all p h)) (in_units-stretched (get_or p 0 (pos 0))
    (get_or p 1 (pos 0) ∷ get_or p 2 (pos 0) ∷ get_or p 3 (pos 0) ∷ []) 1 cells_of_year (omega arith) (omega arith))

-- the numbers of a cell: the coefficients c of a step, in cells, shifted to the cell's end and turned
pub record IsCell (c r n : List ℤ) (origin : ℕ) : Type 0 where
  pub four : length c ≡ 4
  pub shift : all_over (cells_of_year ^ 3) r
      ≡ shifted (whole (pos origin)) (all_over (cells_of_year ^ 3) (padded (in_units_of cells_of_year c)))
  pub turn : all_over (cells_of_year ^ 3) n ≡ reflected (all_over (cells_of_year ^ 3) r)

length-in_units : (u : ℕ) (p : List ℤ) → length (in_units_of u p) ≡ length p
length-in_units u [] = refl
length-in_units u (c ∷ p) = ap suc (length-in_units u p)

first_four : (c : List ℤ) (origin : ℕ) → length c ≡ 4
    → take 4 (shifted (whole (pos origin)) (all_over (cells_of_year ^ 3) (padded (in_units_of cells_of_year c))))
    ≡ shifted (whole (pos origin)) (stretched (over (pos 1) cells_of_year) (all_over 1 c))
first_four c origin h =
    let q = all_over (cells_of_year ^ 3) (in_units_of cells_of_year c) in
    let four : length (all_over (cells_of_year ^ 3) (in_units_of cells_of_year c)) ≡ 4 =
    length-all_over (cells_of_year ^ 3) (in_units_of cells_of_year c) ∙ length-in_units cells_of_year c ∙ h in
    ap (λ p. take 4 (shifted (whole (pos origin)) p))
    (all_over-padded (cells_of_year ^ 3) (in_units_of cells_of_year c))
    ∙ ap (λ n. take n (shifted (whole (pos origin)) (q ++ none ++ none))) (sym four)
    ∙ first_shifted (whole (pos origin)) q
    ∙ ap (shifted (whole (pos origin))) (in_cells c h)

pub cell_is_amount : (c r n : List ℤ) (origin : ℕ) → IsCell c r n origin
    → all_over (cells_of_year ^ 3) (take 4 n)
    ≡ stretched (over (negsuc 0) cells_of_year) (shifted (over (pos origin) cells_of_year) (all_over 1 c))
cell_is_amount c r n origin is =
    sym (all_over-take (cells_of_year ^ 3) 4 n)
    ∙ ap (take 4) (is.turn ∙ ap reflected is.shift)
    ∙ stretched-take (whole (negsuc 0)) 4
    (shifted (whole (pos origin)) (all_over (cells_of_year ^ 3) (padded (in_units_of cells_of_year c))))
    ∙ ap reflected (first_four c origin is.four
    ∙ shifted-stretched (whole (pos origin)) (over (pos 1) cells_of_year) (all_over 1 c))
    ∙ stretched-stretched (whole (negsuc 0)) (over (pos 1) cells_of_year)
    (shifted (over (pos 1) cells_of_year *ℚ whole (pos origin)) (all_over 1 c))
    ∙ ap₂ (λ h b. stretched h (shifted b (all_over 1 c)))
    (sym (over_is (negsuc 0) cells_of_year)) (cells_in_years (pos origin))
