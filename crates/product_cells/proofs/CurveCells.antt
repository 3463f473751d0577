-- A curve or a payment in a cell, from the whole numerators of its month.
use Rattle.std.specs.Prelude.{◌≡◌, ℕ, zero, suc, pos, ◌+◌, ◌*◌, ◌^◌, ◌<◌, ◌≤◌, ℤ, ◌≤ℤ◌, ◌-ℤ◌, neg_ℤ, unsigned_abs}
use Rattle.std.specs.Prelude.{List, [], ◌∷◌, length}
use Rattle.std.proofs.Common.{refl, ap, sym, ◌∙◌, arith, lit≤}
use Rattle.std.proofs.lemmas.Int.{ints}
use mathlib.Core.Path.{ap₂}
use Rattle.frac_laws.specs.Fraction.{Fraction, over, whole, size, opposite, ◌+ℚ◌, ◌-ℚ◌, ◌*ℚ◌, ◌≤ℚ◌}
use Rattle.frac_laws.specs.Sums.{sum_to, power}
use Rattle.frac_laws.specs.Lists.{number_at, scale_list}
use Rattle.frac_laws.specs.Polynomials.{shifted, stretched, times_linear, all_over}
use Rattle.frac_laws.specs.Bernstein.{binomial, bernstein_coefficient}
use Rattle.frac_laws.proofs.FractionTerms.{ring, terms}
use Rattle.frac_laws.proofs.Linear.{linear, claims, natural, ◌⊞◌, ◌⊠◌}
use Rattle.frac_laws.proofs.Order.{le_trans, le_of_equal}
use Rattle.frac_laws.proofs.Powers.{power_natural}
use Rattle.frac_laws.proofs.Signs.{mul_natural}
use Rattle.frac_laws.proofs.Sizes.{size_mul, size_of_natural, size_le_of_between}
use Rattle.frac_laws.proofs.Sums.{sum_to_first, sum_to_ext, sum_to_scale, sum_to_zeros}
use Rattle.frac_laws.proofs.Quotients.{over_is, whole_le, whole_mul, over_add, over_sub, over-opposite}
use Rattle.frac_laws.proofs.Quotients.{over_le_of_cross}
use Rattle.std.proofs.Math.IntN.{pos-*ℤ-pos}
use Rattle.frac_laws.proofs.Vectors.{number_at-add_lists, number_at-scale_list}
use Rattle.frac_laws.proofs.Polynomials.{length-shifted, length-stretched}
use Rattle.frac_laws.proofs.Lengths.{length-all_over}
use Rattle.model_specs.specs.MonthNumbers.{bernstein_numerator}
use Rattle.model_specs.specs.Cells.{Grid, Direction, Forward, whole_months, cells_of_32, cell_polynomial, per_cell}
use Rattle.model_laws.proofs.MonthCoefficients.{curve_numerators_stand, payment_numerators_stand}
use Rattle.curve_laws.specs.PartLaws.{coefficient_bound, weighted_mean, mean_of}
use Rattle.curve_laws.specs.CellLaws.{over_month}
use Rattle.curve_laws.proofs.CellParts.{cells_are_small, cell_means}
use Rattle.cell_bounds.specs.CellBounds.{rate_bound, interest_bound, load_bound, mean_at, of_cell}
use Rattle.cell_bounds.specs.CellBounds.{first_bound, later_bound}

-- whole numbers over one denominator keep their order
pub over_mono : (n m : ℤ) (d : ℕ) → n ≤ℤ m → over n d ≤ℚ over m d
over_mono n m d h = rw (over_is n d, over_is m d)
    (linear (whole n ∷ whole m ∷ over (pos 1) d ∷ []) (whole_le h ⊠ natural 1 d) (hlevel claims) refl)

-- a bound of the coefficients grows with what it is made of
pub bound_grows : (h most apart l a b : Fraction) → whole (pos 0) ≤ℚ h → most ≤ℚ l *ℚ a → apart ≤ℚ l *ℚ b → (m : ℕ)
    → coefficient_bound 5 h most apart m ≤ℚ l *ℚ coefficient_bound 5 h a b m
bound_grows h most apart l a b some first second zero = first
bound_grows h most apart l a b some first second (suc m) =
    let w : Fraction = whole (pos (binomial 5 (suc m) * 2 ^ m)) *ℚ power h (suc m) in
    grown w (mul_natural (natural (binomial 5 (suc m) * 2 ^ m) 1) (power_natural (suc m) some))
  where
    grown : (w : Fraction) → whole (pos 0) ≤ℚ w → w *ℚ apart ≤ℚ l *ℚ (w *ℚ b)
    grown w hw = linear (w ∷ apart ∷ l ∷ b ∷ []) (second ⊠ hw) (hlevel claims) refl

-- a mean as a sum
mean-sum : (i n : ℕ) (p : List Fraction) → length p ≤ n
    → weighted_mean i p ≡ sum_to n (λ m. over (pos 1) (suc (i + m)) *ℚ number_at p m)
mean-sum i n [] b =
    sym (sum_to_zeros n {f = λ m. over (pos 1) (suc (i + m)) *ℚ whole (pos 0)}
    (λ m c. ring (over (pos 1) (suc (i + m)) ∷ []) (hlevel terms) refl))
mean-sum i zero (x ∷ p) b = absurd (omega arith)
mean-sum i (suc n) (x ∷ p) b =
    ap₂ (λ k y. over (pos 1) (suc k) *ℚ x +ℚ y) (same i) (mean-sum (suc i) n p (omega arith)
    ∙ sum_to_ext n (λ m c. ap (λ k. over (pos 1) (suc k) *ℚ number_at p m) (moved i m)))
    ∙ sym (sum_to_first n (λ m. over (pos 1) (suc (i + m)) *ℚ number_at (x ∷ p) m))
  where
    same : (i : ℕ) → i ≡ i + 0
    same i = omega arith

    moved : (i m : ℕ) → suc i + m ≡ i + suc m
    moved i m = omega arith

pub mean-is : (p : List Fraction) → length p ≡ 6 → mean_of p ≡ mean_at (number_at p)
mean-is p six =
    mean-sum 0 6 p (omega (arith, six))
    ∙ sum_to_ext 6 (λ m b. ap (λ k. over (pos 1) (suc k) *ℚ number_at p m) (none m))
  where
    none : (m : ℕ) → 0 + m ≡ m
    none m = omega arith

-- a rate for a cell
pub per_cell-at : (direction : Direction) (p : List Fraction) (m : ℕ)
    → number_at (per_cell (cells_of_32 direction) p) m ≡ of_cell (number_at p m)
per_cell-at direction p m = number_at-scale_list (over (pos 1) 384) p m

per_cell-mean : (direction : Direction) (p : List Fraction) → length p ≡ 6
    → mean_at (number_at (per_cell (cells_of_32 direction) p)) ≡ of_cell (mean_of p)
per_cell-mean direction p six =
    sum_to_ext 6 (λ m b. ap (λ z. over (pos 1) (suc m) *ℚ z) (per_cell-at direction p m) ∙ moved m)
    ∙ sum_to_scale 6 (over (pos 1) 384) (λ m. over (pos 1) (suc m) *ℚ number_at p m)
    ∙ ap of_cell (sym (mean-is p six))
  where
    moved : (m : ℕ) → over (pos 1) (suc m) *ℚ of_cell (number_at p m)
        ≡ over (pos 1) 384 *ℚ (over (pos 1) (suc m) *ℚ number_at p m)
    moved m = ring (over (pos 1) (suc m) ∷ number_at p m ∷ []) (hlevel terms) refl

pub size-of_cell : (x y : Fraction) → size x ≤ℚ y → size (of_cell x) ≤ℚ of_cell y
size-of_cell x y h =
    le_trans (le_of_equal (size_mul (over (pos 1) 384) x ∙ ap (λ z. z *ℚ size x) (size_of_natural (natural 1 384))))
    (linear (size x ∷ y ∷ []) (h ⊠ natural 1 384) (hlevel claims) refl)

length-cell : (direction : Direction) (p : List Fraction) (k cell : ℕ)
    → length (cell_polynomial (cells_of_32 direction) p k cell) ≡ length p
length-cell direction p k cell = length-stretched _ _ ∙ length-shifted _ p

-- a curve whose Bernstein numerators over the month lie between two numbers
module _ (direction : Direction) (den k cell : ℕ) (c : List ℤ) (some : 1 ≤ den) (inside : cell < 32)
    (six : length c ≡ 6) where
  abbrev unit : ℕ
  unit = 2488320 * den

  abbrev pub curve_poly : List Fraction
  curve_poly = cell_polynomial (cells_of_32 direction) (all_over den c) k cell

  length-curve : length (all_over den c) ≡ 6
  length-curve = length-all_over den c ∙ six

  bernstein-is : (j : ℕ) → j ≤ 5
      → over (bernstein_numerator c k j) (2488320 * den) ≡ bernstein_coefficient (over_month (all_over den c) k) j
  bernstein-is j b = curve_numerators_stand den k j c some (omega arith) six

  pub curve_small : (most apart : Fraction)
      → ((j : ℕ) → j ≤ 5 → size (over (bernstein_numerator c k j) (2488320 * den)) ≤ℚ most)
      → ((i j : ℕ) → i ≤ 5 → j ≤ 5 → size (over (bernstein_numerator c k i) (2488320 * den)
      -ℚ over (bernstein_numerator c k j) (2488320 * den)) ≤ℚ apart)
      → (m : ℕ) → size (number_at curve_poly m) ≤ℚ coefficient_bound 5 (over (pos 1) 32) most apart m
  curve_small most apart sizes spread m =
      cells_are_small (cells_of_32 direction) (all_over den c) k cell most apart length-curve inside
      (λ j b. rw (← bernstein-is j b) (sizes j b))
      (λ i j b d. rw (← bernstein-is i b, ← bernstein-is j d) (spread i j b d)) m

  pub curve_mean : (low high : Fraction)
      → ((j : ℕ) → j ≤ 5 → low ≤ℚ over (bernstein_numerator c k j) (2488320 * den))
      → ((j : ℕ) → j ≤ 5 → over (bernstein_numerator c k j) (2488320 * den) ≤ℚ high)
      → (of_cell low ≤ℚ mean_at (number_at (per_cell (cells_of_32 direction) curve_poly)))
      × (mean_at (number_at (per_cell (cells_of_32 direction) curve_poly)) ≤ℚ of_cell high)
  curve_mean low high above below =
      let both = cell_means (cells_of_32 direction) (all_over den c) k cell low high length-curve inside
      (λ j b. rw (← bernstein-is j b) (above j b)) (λ j b. rw (← bernstein-is j b) (below j b)) in
      let is = per_cell-mean direction curve_poly (length-cell direction (all_over den c) k cell ∙ length-curve) in (
        rw is (linear (low ∷ mean_of curve_poly ∷ []) (both.0 ⊠ natural 1 384) (hlevel claims) refl),
        rw is (linear (high ∷ mean_of curve_poly ∷ []) (both.1 ⊠ natural 1 384) (hlevel claims) refl),
      )

  -- a rate: its numerators are from 0 to some number
  module _ (rate : ℕ) (natural_rate : (j : ℕ) → j ≤ 5 → pos 0 ≤ℤ bernstein_numerator c k j)
      (most_rate : (j : ℕ) → j ≤ 5 → bernstein_numerator c k j ≤ℤ pos rate) where
    rate_low : (j : ℕ) → j ≤ 5 → whole (pos 0) ≤ℚ over (bernstein_numerator c k j) unit
    rate_low j b = le_trans (nothing unit) (over_mono (pos 0) (bernstein_numerator c k j) unit (natural_rate j b))
      where
        nothing : (d : ℕ) → whole (pos 0) ≤ℚ over (pos 0) d
        nothing d = natural 0 d

    rate_high : (j : ℕ) → j ≤ 5 → over (bernstein_numerator c k j) unit ≤ℚ over (pos rate) unit
    rate_high j b = over_mono (bernstein_numerator c k j) (pos rate) unit (most_rate j b)

    apart_gap : (x y r : Fraction) → whole (pos 0) ≤ℚ x → x ≤ℚ r → whole (pos 0) ≤ℚ y → y ≤ℚ r → size (x -ℚ y) ≤ℚ r
    apart_gap x y r a b d e = size_le_of_between (linear (x ∷ y ∷ r ∷ []) (a ⊞ e) (hlevel claims) refl)
        (linear (x ∷ y ∷ r ∷ []) (b ⊞ d) (hlevel claims) refl)

    pub rate_small : (m : ℕ) → size (number_at (per_cell (cells_of_32 direction) curve_poly) m)
        ≤ℚ of_cell (over (pos rate) unit *ℚ rate_bound m)
    rate_small m =
        let r = over (pos rate) unit in
        rw (per_cell-at direction curve_poly m)
        (size-of_cell (number_at curve_poly m) (r *ℚ rate_bound m)
        (le_trans (curve_small r r
        (λ j b. rw (size_of_natural (rate_low j b)) (rate_high j b))
        (λ i j b d. apart_gap _ _ r (rate_low i b) (rate_high i b) (rate_low j d) (rate_high j d)) m)
        (bound_grows (over (pos 1) 32) r r r (whole (pos 1)) (whole (pos 1)) (natural 1 32)
        (le_of_equal (ring (r ∷ []) (hlevel terms) refl)) (le_of_equal (ring (r ∷ []) (hlevel terms) refl)) m)))

    pub rate_mean : (whole (pos 0) ≤ℚ mean_at (number_at (per_cell (cells_of_32 direction) curve_poly)))
        × (mean_at (number_at (per_cell (cells_of_32 direction) curve_poly)) ≤ℚ of_cell (over (pos rate) unit))
    rate_mean =
        let both = curve_mean (whole (pos 0)) (over (pos rate) unit) rate_low rate_high in
        (le_trans (le_of_equal nothing_paid) both.0, both.1)
      where
        nothing_paid : whole (pos 0) ≡ of_cell (whole (pos 0))
        nothing_paid = ring [] (hlevel terms) refl

  -- interest: its numerators are at most some number in size, and at least the opposite of another
  module _ (most least : ℕ) (sizes : (j : ℕ) → j ≤ 5 → unsigned_abs (bernstein_numerator c k j) ≤ most)
      (above : (j : ℕ) → j ≤ 5 → neg_ℤ (pos least) ≤ℤ bernstein_numerator c k j) where
    abbrev iota : Fraction
    iota = over (pos most) unit

    high : (z : ℤ) (n : ℕ) → unsigned_abs z ≤ n → z ≤ℤ pos n
    high (pos z) n h = omega (arith, ints)
    high z n h = grind (arith, ints)

    low : (z : ℤ) (n : ℕ) → unsigned_abs z ≤ n → neg_ℤ (pos n) ≤ℤ z
    low z n h = grind (arith, ints)

    interest_high : (j : ℕ) → j ≤ 5 → over (bernstein_numerator c k j) unit ≤ℚ iota
    interest_high j b = over_mono (bernstein_numerator c k j) (pos most) unit (high _ most (sizes j b))

    interest_low : (j : ℕ) → j ≤ 5 → opposite iota ≤ℚ over (bernstein_numerator c k j) unit
    interest_low j b = le_trans (le_of_equal (sym (over-opposite (pos most) unit)))
        (over_mono (neg_ℤ (pos most)) (bernstein_numerator c k j) unit (low _ most (sizes j b)))

    interest_least : (j : ℕ) → j ≤ 5 → opposite (over (pos least) unit) ≤ℚ over (bernstein_numerator c k j) unit
    interest_least j b = le_trans (le_of_equal (sym (over-opposite (pos least) unit)))
        (over_mono (neg_ℤ (pos least)) (bernstein_numerator c k j) unit (above j b))

    far_gap : (x y r : Fraction) → opposite r ≤ℚ x → x ≤ℚ r → opposite r ≤ℚ y → y ≤ℚ r
        → size (x -ℚ y) ≤ℚ whole (pos 2) *ℚ r
    far_gap x y r a b d e = size_le_of_between (linear (x ∷ y ∷ r ∷ []) (a ⊞ e) (hlevel claims) refl)
        (linear (x ∷ y ∷ r ∷ []) (b ⊞ d) (hlevel claims) refl)

    pub interest_small : (m : ℕ) → size (number_at (per_cell (cells_of_32 direction) curve_poly) m)
        ≤ℚ of_cell (iota *ℚ interest_bound m)
    interest_small m =
        rw (per_cell-at direction curve_poly m)
        (size-of_cell (number_at curve_poly m) (iota *ℚ interest_bound m)
        (le_trans (curve_small iota (whole (pos 2) *ℚ iota)
        (λ j b. size_le_of_between (interest_low j b) (interest_high j b))
        (λ i j b d. far_gap _ _ iota (interest_low i b) (interest_high i b) (interest_low j d) (interest_high j d)) m)
        (bound_grows (over (pos 1) 32) iota (whole (pos 2) *ℚ iota) iota (whole (pos 1)) (whole (pos 2)) (natural 1 32)
        (le_of_equal (ring (iota ∷ []) (hlevel terms) refl)) (le_of_equal (ring (iota ∷ []) (hlevel terms) refl)) m)))

    pub interest_mean : (of_cell (opposite (over (pos least) unit))
        ≤ℚ mean_at (number_at (per_cell (cells_of_32 direction) curve_poly)))
        × (mean_at (number_at (per_cell (cells_of_32 direction) curve_poly)) ≤ℚ of_cell iota)
    interest_mean = curve_mean (opposite (over (pos least) unit)) iota interest_least interest_high

-- a payment's four coefficients, with two zeros after them
abbrev padded : List Fraction → List Fraction
padded [] = whole (pos 0) ∷ whole (pos 0) ∷ []
padded (x ∷ p) = x ∷ padded p

number_at-padded : (p : List Fraction) (i : ℕ) → number_at (padded p) i ≡ number_at p i
number_at-padded [] zero = refl
number_at-padded [] (suc zero) = refl
number_at-padded [] (suc (suc i)) = refl
number_at-padded (x ∷ p) zero = refl
number_at-padded (x ∷ p) (suc i) = number_at-padded p i

shifted-at : (b x : Fraction) (p : List Fraction) (i : ℕ) → number_at (shifted b (x ∷ p)) i
    ≡ number_at (x ∷ []) i +ℚ (b *ℚ number_at (shifted b p) i +ℚ number_at (whole (pos 0) ∷ shifted b p) i)
shifted-at b x p i =
    number_at-add_lists (x ∷ []) (times_linear b (shifted b p)) i
    ∙ ap (λ z. number_at (x ∷ []) i +ℚ z)
    (number_at-add_lists (scale_list b (shifted b p)) (whole (pos 0) ∷ shifted b p) i
    ∙ ap (λ z. z +ℚ number_at (whole (pos 0) ∷ shifted b p) i) (number_at-scale_list b (shifted b p) i))

shifted-padded : (b : Fraction) (p : List Fraction) (i : ℕ)
    → number_at (shifted b (padded p)) i ≡ number_at (shifted b p) i
shifted-padded b [] zero = ring (b ∷ []) (hlevel terms) refl
shifted-padded b [] (suc zero) = ring (b ∷ []) (hlevel terms) refl
shifted-padded b [] (suc (suc i)) = refl
shifted-padded b (x ∷ p) zero =
    shifted-at b x (padded p) 0
    ∙ ap (λ z. x +ℚ (b *ℚ z +ℚ whole (pos 0))) (shifted-padded b p 0)
    ∙ sym (shifted-at b x p 0)
shifted-padded b (x ∷ p) (suc i) =
    shifted-at b x (padded p) (suc i)
    ∙ ap₂ (λ y z. whole (pos 0) +ℚ (b *ℚ y +ℚ z)) (shifted-padded b p (suc i)) (shifted-padded b p i)
    ∙ sym (shifted-at b x p (suc i))

stretched-same : (h : Fraction) (p q : List Fraction) → ((i : ℕ) → number_at p i ≡ number_at q i) → (i : ℕ)
    → number_at (stretched h p) i ≡ number_at (stretched h q) i
stretched-same h p q same i = stretched-at h p i ∙ ap (λ z. power h i *ℚ z) (same i) ∙ sym (stretched-at h q i)
  where
    stretched-at : (h : Fraction) (p : List Fraction) (i : ℕ)
        → number_at (stretched h p) i ≡ power h i *ℚ number_at p i
    stretched-at h [] i = ring (power h i ∷ []) (hlevel terms) refl
    stretched-at h (x ∷ p) zero = ring (x ∷ []) (hlevel terms) refl
    stretched-at h (x ∷ p) (suc i) =
        number_at-scale_list h (stretched h p) i ∙ ap (λ z. h *ℚ z) (stretched-at h p i)
        ∙ ring (h ∷ power h i ∷ number_at p i ∷ []) (hlevel terms) refl

cell-padded : (grid : Grid) (p : List Fraction) (k cell i : ℕ)
    → number_at (cell_polynomial grid (padded p) k cell) i ≡ number_at (cell_polynomial grid p k cell) i
cell-padded grid p k cell i = stretched-same _ (shifted _ (padded p)) (shifted _ p) (shifted-padded _ p) i

length-padded : (p : List Fraction) → length (padded p) ≡ 2 + length p
length-padded [] = refl
length-padded (x ∷ p) = ap (λ n. suc n) (length-padded p) ∙ next (length p)
  where
    next : (n : ℕ) → suc (2 + n) ≡ 2 + suc n
    next n = omega arith

-- a payment whose numerators are of at most a size and at most so far apart
module _ (direction : Direction) (k cell : ℕ) (c : List ℤ) (inside : cell < 32) (four : length c ≡ 4)
    (most spread load : ℕ) (sizes : (j : ℕ) → j ≤ 5 → unsigned_abs (bernstein_numerator c k j) ≤ most)
    (apart : (i j : ℕ) → i ≤ 5 → j ≤ 5
    → (bernstein_numerator c k i -ℤ bernstein_numerator c k j) ≤ℤ pos spread)
    (spread_most : spread ≤ 2 * most) (load_most : most + 4 * spread ≤ 2488320 * load) where
  abbrev pub payment_poly : List Fraction
  payment_poly = cell_polynomial (cells_of_32 direction) (all_over 1 c) k cell

  abbrev amount : ℕ → Fraction
  amount j = over (bernstein_numerator c k j) 2488320

  amount-is : (j : ℕ) → j ≤ 5 → amount j ≡ bernstein_coefficient (over_month (padded (all_over 1 c)) k) j
  amount-is j b = payment_numerators_stand k j c (omega arith) four
      ∙ sum_to_ext (suc j) (λ i d. ap (λ z. over (pos (binomial j i)) (binomial 5 i) *ℚ z)
      (sym (cell-padded (whole_months Forward) (all_over 1 c) k 0 i)))

  six-padded : length (padded (all_over 1 c)) ≡ 6
  six-padded = length-padded (all_over 1 c) ∙ ap (λ n. 2 + n) (length-all_over 1 c ∙ four)

  size-is : (n : ℤ) (d : ℕ) → size (over n d) ≤ℚ over (pos (unsigned_abs n)) d
  size-is n d = size_le_of_between
      (le_trans (le_of_equal (sym (over-opposite (pos (unsigned_abs n)) d))) (over_mono _ n d (low n)))
      (over_mono n (pos (unsigned_abs n)) d (high n))
    where
      low : (n : ℤ) → neg_ℤ (pos (unsigned_abs n)) ≤ℤ n
      low n = grind (arith, ints)

      high : (n : ℤ) → n ≤ℤ pos (unsigned_abs n)
      high n = grind (arith, ints)

  amount_size : (j : ℕ) → j ≤ 5 → size (amount j) ≤ℚ over (pos most) 2488320
  amount_size j b = le_trans (size-is (bernstein_numerator c k j) 2488320)
      (over_mono (pos (unsigned_abs (bernstein_numerator c k j))) (pos most) 2488320 (whole-order (sizes j b)))
    where
      whole-order : {n m : ℕ} → n ≤ m → pos n ≤ℤ pos m
      whole-order h = omega (arith, ints)

  amount_apart : (i j : ℕ) → i ≤ 5 → j ≤ 5 → size (amount i -ℚ amount j) ≤ℚ over (pos spread) 2488320
  amount_apart i j b d =
      let one = difference i j b d in
      let two = difference j i d b in
      size_le_of_between (linear (amount i ∷ amount j ∷ over (pos spread) 2488320 ∷ []) two (hlevel claims) refl) one
    where
      difference : (i j : ℕ) → i ≤ 5 → j ≤ 5 → amount i -ℚ amount j ≤ℚ over (pos spread) 2488320
      difference i j b d = le_trans (le_of_equal (sym (over_sub (bernstein_numerator c k i) (bernstein_numerator c k j)
          2488320))) (over_mono (bernstein_numerator c k i -ℤ bernstein_numerator c k j) (pos spread) 2488320
          (apart i j b d))

  -- the load covers the size, and two ninths of it the spread
  load-over : (n l : ℕ) → n ≤ 2488320 * l → over (pos n) 2488320 ≤ℚ whole (pos l)
  load-over n l h = over_le_of_cross (pos n) (pos l) 2488320 1 (lit≤ tt) (lit≤ tt) (omega (arith, ints, h))

  pub size_covered : over (pos most) 2488320 +ℚ whole (pos 4) *ℚ over (pos spread) 2488320 ≤ℚ whole (pos load)
  size_covered =
      let joined : over (pos (most + 4 * spread)) 2488320
      ≡ over (pos most) 2488320 +ℚ whole (pos 4) *ℚ over (pos spread) 2488320 =
      over_add (pos most) (pos (4 * spread)) 2488320
      ∙ ap (λ z. over (pos most) 2488320 +ℚ z) (four_times spread 2488320) in
      rw (← joined) (load-over (most + 4 * spread) load load_most)
    where
      four_times : (n d : ℕ) → over (pos (4 * n)) d ≡ whole (pos 4) *ℚ over (pos n) d
      four_times n d = over_is (pos (4 * n)) d
          ∙ ap (λ z. z *ℚ over (pos 1) d) (ap whole (sym (pos-*ℤ-pos 4 n)) ∙ whole_mul (pos 4) (pos n))
          ∙ ring (whole (pos n) ∷ over (pos 1) d ∷ []) (hlevel terms) refl
          ∙ ap (λ z. whole (pos 4) *ℚ z) (sym (over_is (pos n) d))

  pub spread_covered : whole (pos 9) *ℚ over (pos spread) 2488320 ≤ℚ whole (pos 2) *ℚ whole (pos load)
  spread_covered = rw (nine spread 2488320, two load) at
      (load-over (9 * spread) (2 * load) (omega (arith, load_most, spread_most)))
    where
      nine : (n d : ℕ) → over (pos (9 * n)) d ≡ whole (pos 9) *ℚ over (pos n) d
      nine n d = over_is (pos (9 * n)) d
          ∙ ap (λ z. z *ℚ over (pos 1) d) (ap whole (sym (pos-*ℤ-pos 9 n)) ∙ whole_mul (pos 9) (pos n))
          ∙ ring (whole (pos n) ∷ over (pos 1) d ∷ []) (hlevel terms) refl
          ∙ ap (λ z. whole (pos 9) *ℚ z) (sym (over_is (pos n) d))

      two : (n : ℕ) → whole (pos (2 * n)) ≡ whole (pos 2) *ℚ whole (pos n)
      two n = ap whole (sym (pos-*ℤ-pos 2 n)) ∙ whole_mul (pos 2) (pos n)

  pub payment_within : (m : ℕ) → size (number_at payment_poly m)
      ≤ℚ coefficient_bound 5 (over (pos 1) 32) (over (pos most) 2488320) (over (pos spread) 2488320) m
  payment_within m =
      let grid = cells_of_32 direction in
      le_trans (le_of_equal (ap size (sym (cell-padded grid (all_over 1 c) k cell m))))
      (cells_are_small grid (padded (all_over 1 c)) k cell (over (pos most) 2488320)
      (over (pos spread) 2488320) six-padded inside
      (λ j b. rw (← amount-is j b) (amount_size j b))
      (λ i j b d. rw (← amount-is i b, ← amount-is j d) (amount_apart i j b d)) m)

  -- the first coefficient by the size, the later ones by how far the amounts are apart
  pub payment_parts : (m : ℕ) → size (number_at payment_poly m)
      ≤ℚ over (pos most) 2488320 *ℚ first_bound m +ℚ over (pos spread) 2488320 *ℚ later_bound m
  payment_parts m = le_trans (payment_within m)
      (le_of_equal (in_parts (over (pos most) 2488320) (over (pos spread) 2488320) m))
    where
      in_parts : (x y : Fraction) (m : ℕ) → coefficient_bound 5 (over (pos 1) 32) x y m
          ≡ x *ℚ first_bound m +ℚ y *ℚ later_bound m
      in_parts x y zero = ring (x ∷ y ∷ []) (hlevel terms) refl
      in_parts x y (suc m) = by (whole (pos (binomial 5 (suc m) * 2 ^ m)) *ℚ power (over (pos 1) 32) (suc m))
        where
          by : (w : Fraction) → w *ℚ y ≡ x *ℚ whole (pos 0) +ℚ y *ℚ (w *ℚ whole (pos 1))
          by w = ring (w ∷ x ∷ y ∷ []) (hlevel terms) refl

  pub payment_small : (m : ℕ) → size (number_at payment_poly m) ≤ℚ whole (pos load) *ℚ load_bound m
  payment_small m =
      let l = whole (pos load) in
      le_trans (payment_within m)
      (bound_grows (over (pos 1) 32) (over (pos most) 2488320) (over (pos spread) 2488320) l (whole (pos 1))
      (over (pos 2) 9) (natural 1 32)
      (le_trans (load-over most load (omega (arith, load_most))) (le_of_equal (ring (l ∷ []) (hlevel terms) refl)))
      (linear (over (pos spread) 2488320 ∷ l ∷ []) (spread_covered ⊠ natural 1 9) (hlevel claims) refl) m)
