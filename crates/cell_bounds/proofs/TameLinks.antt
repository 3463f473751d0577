-- The matrices of a cell whose curves are small are tame, whatever is paid.
use Rattle.std.specs.Prelude.{◌≡◌, ℕ, zero, suc, pos, ◌<◌, List, [], ◌∷◌}
use Rattle.std.proofs.Common.{refl, ap, sym, ◌∙◌, inl, inr}
use mathlib.Core.Path.{ap₂}
use Rattle.std.proofs.lemmas.Bool.Decides.{eqb_tells}
use Rattle.frac_laws.specs.Fraction.{Fraction, over, whole, size, opposite, ◌+ℚ◌, ◌-ℚ◌, ◌*ℚ◌, ◌≤ℚ◌}
use Rattle.frac_laws.specs.Sums.{sum_to, power}
use Rattle.frac_laws.specs.Lists.{Matrix, matrix_at}
use Rattle.frac_laws.specs.Norms.{Sup, Sum, norm_of_matrix}
use Rattle.frac_laws.proofs.FractionTerms.{ring, terms}
use Rattle.frac_laws.proofs.Linear.{linear, claims, natural, ◌⊞◌, ◌⊠◌}
use Rattle.frac_laws.proofs.Order.{le_trans, le_of_equal}
use Rattle.frac_laws.proofs.Powers.{power_natural}
use Rattle.frac_laws.proofs.Signs.{mul_natural}
use Rattle.frac_laws.proofs.Sums.{sum_to_ext, sum_to_mono}
use Rattle.cell_laws.specs.Tame.{one_factor_map, weighted, IsGrowth}
use Rattle.model_specs.specs.Cells.{CellCurves}
use Rattle.model_specs.specs.Systems.{matrix_of, intensity_at, interest_at, leaving_at, backward_entry, where_same}
use Rattle.cell_bounds.specs.CellBounds.{rate_bound, interest_bound, of_cell, HasSmallCurves, HasSmallMonth}
use Rattle.cell_bounds.proofs.TableNorms.{unit_at, unit-other, unit-symmetric, where_same-is}
use Rattle.cell_bounds.proofs.TableNorms.{table_rows, table_columns}
use Rattle.cell_bounds.proofs.CellConstants.{rate_natural, interest_natural, rates_total, rates_weighted}
use Rattle.cell_bounds.proofs.CellConstants.{interest_total, interest_weighted}
use Rattle.cell_bounds.proofs.LinkBounds.{link_entry, links_norm, links_mean, matrix_of-ext, one_factor-table}

-- what bounds the matrix of a power
abbrev pub link_bound : Fraction → Fraction → Fraction → ℕ → Fraction
link_bound rho iota times m = of_cell (whole (pos 2) *ℚ rho *ℚ rate_bound m +ℚ times *ℚ iota *ℚ interest_bound m)

sum_of_links : (n : ℕ) (a b : Fraction) (f g : ℕ → Fraction)
    → sum_to n (λ m. of_cell (a *ℚ f m +ℚ b *ℚ g m)) ≡ of_cell (a *ℚ sum_to n f +ℚ b *ℚ sum_to n g)
sum_of_links zero a b f g = ring (a ∷ b ∷ []) (hlevel terms) refl
sum_of_links (suc n) a b f g =
    rw (sum_of_links n a b f g)
    (ring (a ∷ b ∷ f n ∷ g n ∷ sum_to n f ∷ sum_to n g ∷ []) (hlevel terms) refl)

module _ (rho iota times : Fraction) (norms : ℕ → Fraction)
    (within : (m : ℕ) → m < 6 → norms m ≤ℚ link_bound rho iota times m)
    (rho_natural : whole (pos 0) ≤ℚ rho) (iota_natural : whole (pos 0) ≤ℚ iota)
    (times_natural : whole (pos 0) ≤ℚ times) (times_most : times ≤ℚ whole (pos 2)) where
  total_gap : (k j : Fraction) → k ≤ℚ over (pos 5) 4 → j ≤ℚ over (pos 3) 2
      → of_cell (whole (pos 2) *ℚ rho *ℚ k +ℚ times *ℚ iota *ℚ j)
      ≤ℚ of_cell (over (pos 5) 2 *ℚ rho +ℚ whole (pos 3) *ℚ iota)
  total_gap k j hk hj =
      linear (rho ∷ iota ∷ times ∷ k ∷ j ∷ [])
      ((hk ⊠ rho_natural) ⊠ natural 2 384 ⊞ ((hj ⊠ iota_natural) ⊠ times_natural) ⊠ natural 1 384
      ⊞ (times_most ⊠ iota_natural) ⊠ natural 3 768)
      (hlevel claims) refl

  -- the sum of the norms
  pub total_links : sum_to 6 norms ≤ℚ of_cell (over (pos 5) 2 *ℚ rho +ℚ whole (pos 3) *ℚ iota)
  total_links =
      le_trans (sum_to_mono 6 within)
      (le_trans (le_of_equal (sum_of_links 6 (whole (pos 2) *ℚ rho) (times *ℚ iota) rate_bound interest_bound))
      (total_gap (sum_to 6 rate_bound) (sum_to 6 interest_bound) rates_total interest_total))

  weighted_link : (m : ℕ) → m < 6 → weighted norms m
      ≤ℚ of_cell ((whole (pos 2) *ℚ rho) *ℚ weighted rate_bound m +ℚ (times *ℚ iota) *ℚ weighted interest_bound m)
  weighted_link m b =
      linear (norms m ∷ power (whole (pos 8)) m ∷ rho ∷ iota ∷ times ∷ rate_bound m ∷ interest_bound m ∷ [])
      (within m b ⊠ power_natural m (natural 8 1)) (hlevel claims) refl

  weighted_gap : (k j : Fraction) → k ≤ℚ over (pos 9) 2 → j ≤ℚ whole (pos 8) → rho ≤ℚ whole (pos 2)
      → iota ≤ℚ over (pos 1) 4
      → of_cell (whole (pos 2) *ℚ rho *ℚ k +ℚ times *ℚ iota *ℚ j) ≤ℚ over (pos 1) 16
  weighted_gap k j hk hj rho_most iota_most =
      linear (rho ∷ iota ∷ times ∷ k ∷ j ∷ [])
      ((hk ⊠ rho_natural) ⊠ natural 2 384 ⊞ rho_most ⊠ natural 9 384
      ⊞ ((hj ⊠ iota_natural) ⊠ times_natural) ⊠ natural 1 384
      ⊞ (times_most ⊠ iota_natural) ⊠ natural 8 384 ⊞ iota_most ⊠ natural 16 384)
      (hlevel claims) refl

  pub weighted_links : rho ≤ℚ whole (pos 2) → iota ≤ℚ over (pos 1) 4 → sum_to 6 (weighted norms) ≤ℚ over (pos 1) 16
  weighted_links rho_most iota_most =
      le_trans (sum_to_mono 6 weighted_link)
      (le_trans (le_of_equal (sum_of_links 6 (whole (pos 2) *ℚ rho) (times *ℚ iota) (weighted rate_bound)
      (weighted interest_bound)))
      (weighted_gap (sum_to 6 (weighted rate_bound)) (sum_to 6 (weighted interest_bound)) rates_weighted
      interest_weighted rho_most iota_most))

  pub total_small : rho ≤ℚ whole (pos 2) → iota ≤ℚ over (pos 1) 4 → sum_to 6 norms ≤ℚ over (pos 1) 64
  total_small rho_most iota_most =
      linear (sum_to 6 norms ∷ rho ∷ iota ∷ [])
      (total_links ⊞ rho_most ⊠ natural 5 768 ⊞ iota_most ⊠ natural 3 384) (hlevel claims) refl

-- the growth of a cell, counted by phi and nu
pub growth_links : (f p rho iota nu times phi kappa : Fraction) → whole (pos 0) ≤ℚ f → f ≤ℚ over (pos 1) 64
    → f ≤ℚ of_cell (over (pos 5) 2 *ℚ rho +ℚ whole (pos 3) *ℚ iota)
    → of_cell (over (pos 5) 2 *ℚ rho +ℚ whole (pos 3) *ℚ iota) ≤ℚ phi
    → p ≤ℚ whole (pos 1) +ℚ times *ℚ of_cell nu → times ≤ℚ whole (pos 2) → whole (pos 0) ≤ℚ nu
    → over (pos 9) 16 *ℚ (phi *ℚ phi) +ℚ over (pos 1) 192 *ℚ nu ≤ℚ kappa
    → IsGrowth f p kappa
growth_links f p rho iota nu times phi kappa some small total ledger factor times_most nu_natural counted =
    let most : f ≤ℚ phi = le_trans total ledger in
    let one : p +ℚ over (pos 9) 16 *ℚ (phi *ℚ phi) ≤ℚ whole (pos 1) +ℚ kappa =
    linear (p ∷ times ∷ nu ∷ phi ∷ kappa ∷ []) (factor ⊞ (times_most ⊠ nu_natural) ⊠ natural 1 384 ⊞ counted)
    (hlevel claims) refl in
    let sum : whole (pos 0) ≤ℚ phi +ℚ f = linear (f ∷ phi ∷ []) (some ⊞ some ⊞ most) (hlevel claims) refl in
    let square : whole (pos 0) ≤ℚ phi *ℚ phi -ℚ f *ℚ f = linear (f ∷ phi ∷ []) (most ⊠ sum) (hlevel claims) refl in
    let all : whole (pos 0) ≤ℚ phi *ℚ phi = linear (f ∷ phi ∷ []) (square ⊞ some ⊠ some) (hlevel claims) refl in
    let below : f ≤ℚ whole (pos 1) = linear (f ∷ []) small (hlevel claims) refl in
    let ninth : whole (pos 0) ≤ℚ over (pos 1) 8 -ℚ over (pos 9) 8 *ℚ f =
    linear (f ∷ []) (small ⊠ natural 9 8) (hlevel claims) refl in
    linear (f ∷ p ∷ phi ∷ kappa ∷ [])
    ((one ⊠ below) ⊠ natural 2 1 ⊞ square ⊞ ninth ⊠ all) (hlevel claims) refl

-- the matrices of the backward systems, and of the forward system, are those of links
entry-is : (cell : CellCurves) (times m i j : ℕ)
    → backward_entry cell times m i j ≡ link_entry cell (whole (pos times)) m i j
entry-is cell times m i j = ap (λ z. intensity_at cell i j m +ℚ z) (where_same-is i j _)

pub backward-links : (cell : CellCurves) (times m : ℕ)
    → matrix_of cell.states (backward_entry cell times m)
    ≡ matrix_of cell.states (link_entry cell (whole (pos times)) m)
backward-links cell times m = matrix_of-ext cell.states _ _ (entry-is cell times m)

unit-moves : (i j : ℕ) (x : ℕ → Fraction) → unit_at j i *ℚ x j ≡ unit_at i j *ℚ x i
unit-moves i j x = elim (eqb_tells i j) [
  | inl same ↦ ap₂ (λ a b. unit_at a b *ℚ x a) (sym same.1) same.1
  | inr other ↦ rw (unit-other i j (λ e. other.1 (sym e)), unit-other j i other.1)
      (ring (x i ∷ x j ∷ []) (hlevel terms) refl)
]

pub forward-links : (cell : CellCurves) (m : ℕ)
    → matrix_of cell.states (λ j i. intensity_at cell i j m +ℚ where_same j i (opposite (leaving_at cell j m)))
    ≡ matrix_of cell.states (λ j i. link_entry cell (whole (pos 0)) m i j)
forward-links cell m = matrix_of-ext cell.states _ _ (λ j i. ap (λ z. intensity_at cell i j m +ℚ z)
    (where_same-is j i (opposite (leaving_at cell j m))
    ∙ unit-moves i j (λ k. opposite (leaving_at cell k m))
    ∙ ring (unit_at i j ∷ leaving_at cell i m ∷ interest_at cell m ∷ []) (hlevel terms) refl))

module _ (cell : CellCurves) (rates : ℕ → ℕ → Fraction) (rho iota nu times : Fraction)
    (curves : HasSmallCurves cell rates rho iota nu) (small : HasSmallMonth rho iota nu)
    (times_natural : whole (pos 0) ≤ℚ times) (times_most : times ≤ℚ whole (pos 2)) where
  bound_natural : (m : ℕ) → whole (pos 0) ≤ℚ link_bound rho iota times m
  bound_natural m =
      mul_natural (natural 1 384) (linear ((whole (pos 2) *ℚ rho *ℚ rate_bound m)
      ∷ (times *ℚ iota *ℚ interest_bound m) ∷ [])
      (mul_natural (mul_natural (natural 2 1) small.rho_natural) (rate_natural m)
      ⊞ mul_natural (mul_natural times_natural small.iota_natural) (interest_natural m)) (hlevel claims) refl)

  pub rows_norm : (m : ℕ) → norm_of_matrix Sup (matrix_of cell.states (link_entry cell times m))
      ≤ℚ link_bound rho iota times m
  rows_norm m = table_rows cell.states cell.states (link_entry cell times m) (link_bound rho iota times m)
      (bound_natural m)
      (λ i b. links_norm cell rates rho iota nu times curves small times_natural times_most i m b)

  pub columns_norm : (m : ℕ) → norm_of_matrix Sum (matrix_of cell.states (λ j i. link_entry cell times m i j))
      ≤ℚ link_bound rho iota times m
  columns_norm m = table_columns cell.states cell.states (λ j i. link_entry cell times m i j)
      (link_bound rho iota times m) (bound_natural m)
      (λ i b. links_norm cell rates rho iota nu times curves small times_natural times_most i m b)

  factor_natural : whole (pos 0) ≤ℚ whole (pos 1) +ℚ times *ℚ of_cell nu
  factor_natural = linear (times ∷ nu ∷ []) ((times_natural ⊠ small.nu_natural) ⊠ natural 1 384) (hlevel claims) refl

  pub rows_factor : (matrices : List Matrix)
      → ((m : ℕ) → m < 6 → matrix_at matrices m ≡ matrix_of cell.states (link_entry cell times m))
      → norm_of_matrix Sup (one_factor_map cell.states matrices 6) ≤ℚ whole (pos 1) +ℚ times *ℚ of_cell nu
  rows_factor matrices h =
      rw (one_factor-table cell.states matrices (λ m. link_entry cell times m) 5 h)
      (table_rows cell.states cell.states
      (λ i j. unit_at i j +ℚ sum_to 6 (λ m. over (pos 1) (suc m) *ℚ link_entry cell times m i j))
      (whole (pos 1) +ℚ times *ℚ of_cell nu) factor_natural
      (links_mean cell rates rho iota nu times curves small times_natural times_most))

  pub columns_factor : (matrices : List Matrix)
      → ((m : ℕ) → m < 6 → matrix_at matrices m ≡ matrix_of cell.states (λ j i. link_entry cell times m i j))
      → norm_of_matrix Sum (one_factor_map cell.states matrices 6) ≤ℚ whole (pos 1) +ℚ times *ℚ of_cell nu
  columns_factor matrices h =
      rw (one_factor-table cell.states matrices (λ m j i. link_entry cell times m i j) 5 h)
      (table_columns cell.states cell.states
      (λ j i. unit_at j i +ℚ sum_to 6 (λ m. over (pos 1) (suc m) *ℚ link_entry cell times m i j))
      (whole (pos 1) +ℚ times *ℚ of_cell nu) factor_natural
      (λ i b. le_trans (le_of_equal (sum_to_ext cell.states (λ j c. ap (λ u. size (u
      +ℚ sum_to 6 (λ m. over (pos 1) (suc m) *ℚ link_entry cell times m i j))) (unit-symmetric j i))))
      (links_mean cell rates rho iota nu times curves small times_natural times_most i b)))
