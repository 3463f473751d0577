-- The matrices of a cell whose curves are small.
use Rattle.std.specs.Prelude.{◌≡◌, ℕ, zero, suc, pos, ◌<◌, List, [], ◌∷◌}
use Rattle.std.proofs.Common.{refl, ap, sym, ◌∙◌, arith}
use mathlib.Core.Path.{ap₂}
use Rattle.frac_laws.specs.Fraction.{Fraction, over, whole, size, opposite, ◌+ℚ◌, ◌-ℚ◌, ◌*ℚ◌, ◌≤ℚ◌}
use Rattle.frac_laws.specs.Sums.{sum_to}
use Rattle.frac_laws.specs.Lists.{Matrix, matrix_at, add_matrices, scale_matrix, identity}
use Rattle.frac_laws.proofs.FractionTerms.{ring, terms}
use Rattle.frac_laws.proofs.Linear.{linear, claims, natural, ◌⊞◌, ◌⊠◌}
use Rattle.frac_laws.proofs.Order.{le_trans, le_of_equal}
use Rattle.frac_laws.proofs.Sizes.{size_add, size_mul, size_of_natural, size-opposite}
use Rattle.frac_laws.proofs.Sums.{sum_to_ext, sum_to_mono, sum_to_add, sum_to_scale, sum_to_scale_right}
use Rattle.frac_laws.proofs.Sums.{sum_to_exchange, size-sum_to}
use Rattle.cell_laws.specs.Tame.{one_factor_map}
use Rattle.whole_laws.specs.Whole.{list_of}
use Rattle.whole_laws.proofs.ListsByPlace.{list_of-agree}
use Rattle.model_specs.specs.Cells.{CellCurves}
use Rattle.model_specs.specs.Systems.{matrix_of, intensity_at, interest_at, leaving_at}
use Rattle.cell_bounds.specs.CellBounds.{rate_bound, interest_bound, mean_at, of_cell, HasSmallCurves, HasSmallMonth}
use Rattle.cell_bounds.proofs.TableNorms.{unit_at, links_row, scale-table, add-table, identity-add}
use Rattle.cell_bounds.proofs.CellConstants.{rate_natural}

pub matrix_of-ext : (n : ℕ) (f g : ℕ → ℕ → Fraction) → ((i j : ℕ) → f i j ≡ g i j) → matrix_of n f ≡ matrix_of n g
matrix_of-ext n f g h =
    list_of-agree n (λ i. list_of n (f i)) (λ i. list_of n (g i)) (λ i b. list_of-agree n (f i) (g i) (λ j c. h i j))

-- the one-factor map of tables
pub one_factor-table : (d : ℕ) (matrices : List Matrix) (f : ℕ → ℕ → ℕ → Fraction) (n : ℕ)
    → ((m : ℕ) → m < suc n → matrix_at matrices m ≡ matrix_of d (f m))
    → one_factor_map d matrices (suc n)
    ≡ matrix_of d (λ i j. unit_at i j +ℚ sum_to (suc n) (λ m. over (pos 1) (suc m) *ℚ f m i j))
one_factor-table d matrices f zero h =
    ap (λ a. add_matrices (identity d) (scale_matrix (over (pos 1) 1) a)) (h 0 (omega arith))
    ∙ ap (λ a. add_matrices (identity d) a) (scale-table d (over (pos 1) 1) (f 0))
    ∙ identity-add d (λ i j. over (pos 1) 1 *ℚ f 0 i j)
    ∙ matrix_of-ext d (λ i j. unit_at i j +ℚ over (pos 1) 1 *ℚ f 0 i j)
    (λ i j. unit_at i j +ℚ sum_to 1 (λ m. over (pos 1) (suc m) *ℚ f m i j))
    (λ i j. ring (unit_at i j ∷ f 0 i j ∷ []) (hlevel terms) refl)
one_factor-table d matrices f (suc n) h =
    ap₂ (λ a b. add_matrices a (scale_matrix (over (pos 1) (suc (suc n))) b))
    (one_factor-table d matrices f n (λ m b. h m (omega arith))) (h (suc n) (omega arith))
    ∙ ap (λ a. add_matrices (matrix_of d (before)) a) (scale-table d (over (pos 1) (suc (suc n))) (f (suc n)))
    ∙ add-table d before (λ i j. over (pos 1) (suc (suc n)) *ℚ f (suc n) i j)
    ∙ matrix_of-ext d (λ i j. before i j +ℚ over (pos 1) (suc (suc n)) *ℚ f (suc n) i j)
    (λ i j. unit_at i j +ℚ sum_to (suc (suc n)) (λ m. over (pos 1) (suc m) *ℚ f m i j))
    (λ i j. ring (unit_at i j ∷ sum_to (suc n) (λ m. over (pos 1) (suc m) *ℚ f m i j)
    ∷ over (pos 1) (suc (suc n)) ∷ f (suc n) i j ∷ []) (hlevel terms) refl)
  where
    before : ℕ → ℕ → Fraction
    before i j = unit_at i j +ℚ sum_to (suc n) (λ m. over (pos 1) (suc m) *ℚ f m i j)

-- what leads from i to j, with interest taken so many times
abbrev pub link_entry : CellCurves → Fraction → ℕ → ℕ → ℕ → Fraction
link_entry cell times m i j =
    intensity_at cell i j m +ℚ unit_at i j *ℚ opposite (times *ℚ interest_at cell m +ℚ leaving_at cell i m)

-- the mean of a sum and of a multiple
pub mean-add : (f g : ℕ → Fraction) → mean_at (λ m. f m +ℚ g m) ≡ mean_at f +ℚ mean_at g
mean-add f g =
    sum_to_ext 6 (λ m b. spread m)
    ∙ sum_to_add 6 (λ m. over (pos 1) (suc m) *ℚ f m) (λ m. over (pos 1) (suc m) *ℚ g m)
  where
    spread : (m : ℕ) → over (pos 1) (suc m) *ℚ (f m +ℚ g m) ≡ over (pos 1) (suc m) *ℚ f m +ℚ over (pos 1) (suc m) *ℚ g m
    spread m = ring (over (pos 1) (suc m) ∷ f m ∷ g m ∷ []) (hlevel terms) refl

pub mean-scale : (c : Fraction) (f : ℕ → Fraction) → mean_at (λ m. c *ℚ f m) ≡ c *ℚ mean_at f
mean-scale c f =
    sum_to_ext 6 (λ m b. moved m) ∙ sum_to_scale 6 c (λ m. over (pos 1) (suc m) *ℚ f m)
  where
    moved : (m : ℕ) → over (pos 1) (suc m) *ℚ (c *ℚ f m) ≡ c *ℚ (over (pos 1) (suc m) *ℚ f m)
    moved m = ring (over (pos 1) (suc m) ∷ c ∷ f m ∷ []) (hlevel terms) refl

pub mean-sum : (n : ℕ) (f : ℕ → ℕ → Fraction) → mean_at (λ m. sum_to n (λ j. f j m)) ≡ sum_to n (λ j. mean_at (f j))
mean-sum n f =
    sum_to_ext 6 (λ m b. sym (sum_to_scale n (over (pos 1) (suc m)) (λ j. f j m)))
    ∙ sum_to_exchange 6 n (λ m j. over (pos 1) (suc m) *ℚ f j m)

module _ (cell : CellCurves) (rates : ℕ → ℕ → Fraction) (rho iota nu times : Fraction)
    (curves : HasSmallCurves cell rates rho iota nu) (small : HasSmallMonth rho iota nu)
    (times_natural : whole (pos 0) ≤ℚ times) (times_most : times ≤ℚ whole (pos 2)) where
  -- the intensities of a state
  exits_small : (i m : ℕ) → i < cell.states
      → sum_to cell.states (λ j. size (intensity_at cell i j m)) ≤ℚ of_cell (rho *ℚ rate_bound m)
  exits_small i m b =
      le_trans (sum_to_mono cell.states (λ j c. curves.intensity i j m))
      (le_trans (le_of_equal (sum_to_scale cell.states (over (pos 1) 384) (λ j. rates i j *ℚ rate_bound m)
      ∙ ap (λ z. over (pos 1) 384 *ℚ z) (sum_to_scale_right cell.states (rate_bound m) (rates i))))
      (linear (sum_to cell.states (rates i) ∷ rho ∷ rate_bound m ∷ [])
      ((curves.exits i b ⊠ rate_natural m) ⊠ natural 1 384) (hlevel claims) refl))

  -- a row of links at one power
  pub links_norm : (i m : ℕ) → i < cell.states
      → sum_to cell.states (λ j. size (link_entry cell times m i j))
      ≤ℚ of_cell (whole (pos 2) *ℚ rho *ℚ rate_bound m +ℚ times *ℚ iota *ℚ interest_bound m)
  links_norm i m b =
      let n = cell.states in
      let r = interest_at cell m in
      let l = leaving_at cell i m in
      let mus = sum_to n (λ j. size (intensity_at cell i j m)) in
      let row = links_row n i (λ j. intensity_at cell i j m) (opposite (times *ℚ r +ℚ l)) b in
      let turned = size-opposite (times *ℚ r +ℚ l) in
      let parts = size_add (times *ℚ r) l in
      let product : size (times *ℚ r) ≡ times *ℚ size r =
      size_mul times r ∙ ap (λ z. z *ℚ size r) (size_of_natural times_natural) in
      let leaving = size-sum_to n (λ j. intensity_at cell i j m) in
      let lhs : Fraction = sum_to n (λ j. size (link_entry cell times m i j)) in
      linear (lhs ∷ mus ∷ size (opposite (times *ℚ r +ℚ l)) ∷ size (times *ℚ r +ℚ l) ∷ size (times *ℚ r) ∷ size l
      ∷ size r ∷ times ∷ rho ∷ iota ∷ rate_bound m ∷ interest_bound m ∷ [])
      (row ⊞ le_of_equal turned ⊞ parts ⊞ le_of_equal product ⊞ leaving ⊞ exits_small i m b ⊞ exits_small i m b
      ⊞ curves.interest m ⊠ times_natural) (hlevel claims) refl

  -- the mean of what leads from i to j, beside the identity
  abbrev rest : ℕ → Fraction
  rest i = whole (pos 1) -ℚ (times *ℚ mean_at (interest_at cell)
      +ℚ sum_to cell.states (λ j. mean_at (intensity_at cell i j)))

  mean_link : (i j : ℕ) → unit_at i j +ℚ sum_to 6 (λ m. over (pos 1) (suc m) *ℚ link_entry cell times m i j)
      ≡ mean_at (intensity_at cell i j) +ℚ unit_at i j *ℚ rest i
  mean_link i j =
      ap (λ z. unit_at i j +ℚ z)
      (mean-add (intensity_at cell i j)
      (λ m. unit_at i j *ℚ opposite (times *ℚ interest_at cell m +ℚ leaving_at cell i m))
      ∙ ap (λ z. mean_at (intensity_at cell i j) +ℚ z)
      (mean-scale (unit_at i j) (λ m. opposite (times *ℚ interest_at cell m +ℚ leaving_at cell i m))
      ∙ ap (λ z. unit_at i j *ℚ z) turned))
      ∙ ring (unit_at i j ∷ mean_at (intensity_at cell i j) ∷ times ∷ mean_at (interest_at cell)
      ∷ sum_to cell.states (λ j. mean_at (intensity_at cell i j)) ∷ []) (hlevel terms) refl
    where
      turn : (m : ℕ) → over (pos 1) (suc m) *ℚ opposite (times *ℚ interest_at cell m +ℚ leaving_at cell i m)
          ≡ over (pos 1) (suc m) *ℚ (opposite times *ℚ interest_at cell m
          +ℚ opposite (whole (pos 1)) *ℚ leaving_at cell i m)
      turn m = ring (over (pos 1) (suc m) ∷ times ∷ interest_at cell m ∷ leaving_at cell i m ∷ []) (hlevel terms) refl

      turned : mean_at (λ m. opposite (times *ℚ interest_at cell m +ℚ leaving_at cell i m))
          ≡ opposite (times *ℚ mean_at (interest_at cell)
          +ℚ sum_to cell.states (λ j. mean_at (intensity_at cell i j)))
      turned =
          sum_to_ext 6 (λ m b. turn m)
          ∙ mean-add (λ m. opposite times *ℚ interest_at cell m) (λ m. opposite (whole (pos 1)) *ℚ leaving_at cell i m)
          ∙ ap₂ ◌+ℚ◌ (mean-scale (opposite times) (interest_at cell))
          (mean-scale (opposite (whole (pos 1))) (leaving_at cell i)
          ∙ ap (λ z. opposite (whole (pos 1)) *ℚ z) (mean-sum cell.states (λ j m. intensity_at cell i j m)))
          ∙ ring (times ∷ mean_at (interest_at cell)
          ∷ sum_to cell.states (λ j. mean_at (intensity_at cell i j)) ∷ []) (hlevel terms) refl

  means_small : (i : ℕ) → i < cell.states
      → sum_to cell.states (λ j. mean_at (intensity_at cell i j)) ≤ℚ of_cell rho
  means_small i b =
      le_trans (sum_to_mono cell.states (λ j c. curves.means_most i j))
      (le_trans (le_of_equal (sum_to_scale cell.states (over (pos 1) 384) (rates i)))
      (linear (sum_to cell.states (rates i) ∷ rho ∷ []) (curves.exits i b ⊠ natural 1 384) (hlevel claims) refl))

  rest_natural : (i : ℕ) → i < cell.states → whole (pos 0) ≤ℚ rest i
  rest_natural i b =
      linear (times ∷ mean_at (interest_at cell) ∷ sum_to cell.states (λ j. mean_at (intensity_at cell i j))
      ∷ rho ∷ iota ∷ []) (means_small i b ⊞ curves.interest_most ⊠ times_natural
      ⊞ (times_most ⊠ small.iota_natural) ⊠ natural 1 384 ⊞ small.rho_most ⊠ natural 1 384
      ⊞ small.iota_most ⊠ natural 2 384) (hlevel claims) refl

  -- a row of the one-factor map
  pub links_mean : (i : ℕ) → i < cell.states
      → sum_to cell.states (λ j. size (unit_at i j
      +ℚ sum_to 6 (λ m. over (pos 1) (suc m) *ℚ link_entry cell times m i j)))
      ≤ℚ whole (pos 1) +ℚ times *ℚ of_cell nu
  links_mean i b =
      let n = cell.states in
      let means = sum_to n (λ j. mean_at (intensity_at cell i j)) in
      let row = links_row n i (λ j. mean_at (intensity_at cell i j)) (rest i) b in
      let same : sum_to n (λ j. size (mean_at (intensity_at cell i j))) ≡ means =
      sum_to_ext n (λ j c. size_of_natural (curves.means_natural i j)) in
      let all : sum_to n (λ j. size (unit_at i j
      +ℚ sum_to 6 (λ m. over (pos 1) (suc m) *ℚ link_entry cell times m i j)))
      ≡ sum_to n (λ j. size (mean_at (intensity_at cell i j) +ℚ unit_at i j *ℚ rest i)) =
      sum_to_ext n (λ j c. ap size (mean_link i j)) in
      let sized : size (rest i) ≡ rest i = size_of_natural (rest_natural i b) in
      le_trans (le_of_equal all) (le_trans (rw (same, sized) at row)
      (linear (means ∷ times ∷ mean_at (interest_at cell) ∷ nu ∷ [])
      (curves.interest_least ⊠ times_natural) (hlevel claims) refl))
