-- From month to month: the radius carries the distance of the two runs.
use Rattle.std.specs.Prelude.{◌≡◌, ℕ, zero, suc, pos, [], ◌∷◌, length, ◌<◌, ◌≤◌, ◌-◌, ◌*◌, ◌^◌}
use Rattle.std.proofs.Common.{refl, ap, sym, ◌∙◌, arith, lit≤}
use mathlib.Core.Path.{ap₂}
use Rattle.frac_laws.specs.Fraction.{Fraction, over, whole, ◌+ℚ◌, ◌-ℚ◌, ◌*ℚ◌, ◌≤ℚ◌}
use Rattle.frac_laws.specs.Sums.{power}
use Rattle.frac_laws.specs.Lists.{Vector, SameNumbers, number_at, add_lists, scale_list, subtract_lists}
use Rattle.frac_laws.specs.Norms.{Sup, norm_of_vector}
use Rattle.frac_laws.proofs.FractionTerms.{ring, terms}
use Rattle.frac_laws.proofs.Lengths.{add_lists_fits, scale_list_fits}
use Rattle.frac_laws.proofs.Linear.{linear, claims, natural, ◌⊞◌, ◌⊠◌, ◌·◌}
use Rattle.frac_laws.proofs.Order.{le_trans, le_of_equal}
use Rattle.frac_laws.proofs.Powers.{power_natural, power_inverse, whole_power}
use Rattle.frac_laws.proofs.Norms.{norm-same, norm-add_lists}
use Rattle.frac_laws.proofs.Vectors.{number_at-add_lists, number_at-scale_list, number_at-subtract_lists}
use Rattle.cell_laws.specs.Systems.{System, taylor_value}
use Rattle.cell_laws.specs.Tame.{IsTame}
use Rattle.cell_laws.specs.ErrorLaws.{distance}
use Rattle.step_laws.proofs.Grown.{whole_numbers_le}
use Rattle.model_specs.specs.Product.{Product}
use Rattle.model_specs.specs.Payments.{Plan, lump_at}
use Rattle.model_specs.specs.Cells.{CellCurves, Grid, Backward, cells_of_32, whole_months, cell_curves}
use Rattle.model_specs.specs.Systems.{thiele_system}
use Rattle.model_specs.specs.Growth.{kappa40}
use Rattle.model_specs.specs.Ledgers.{radius_before_term, grow_cells}
use Rattle.model_specs.specs.Runs.{first_before_term, lump_vector, month_back}
use Rattle.model_laws.specs.Equations.{IsQuintic}
use Rattle.model_laws.proofs.CellEntries.{runs_keep_states, list-length}
use Rattle.polynomial_runs.specs.PolynomialSystems.{values}
use Rattle.polynomial_runs.specs.FarDecay.{run_polynomial, HasFarWeight}
use Rattle.polynomial_runs.specs.MonthPolynomials.{IsMonth, IsMagnified}
use Rattle.cell_bounds.specs.ScaledSystems.{scaled_system}
use Rattle.month_grid.specs.CellPolynomials.{entry_polynomial, free_polynomial}
use Rattle.polynomial_runs.proofs.PowersOf12.{power_longer}
use Rattle.polynomial_runs.proofs.MonthSteps.{polynomials_follow_months, distance-same}
use Rattle.polynomial_runs.proofs.MonthValues.{months_are_values}
use Rattle.month_grid.proofs.MonthParts.{cells_of_months_move, months_are_longer}
use Rattle.month_grid.proofs.CellPolynomials.{cells_have_polynomials, moved_cells_have_polynomials}
use Rattle.month_grid.proofs.CellPolynomials.{longer_cells_are_magnified}
use Rattle.moment_laws.proofs.ScaledRuns.{taylor_values_scale}

-- a run some months before the term, with the lumps of that date
abbrev pub with_lumps : Grid → Product → Plan → (n months : ℕ) → Vector
with_lumps grid product plan n months = add_lists (first_before_term grid product plan n months)
    (lump_vector product plan (suc (product.months - suc months)))

-- what the law takes of a product and a plan, whose moments are multiplied by c: at most twelve states, curves of
-- degree five, tame cells whose last ones have small later powers, moments within the scale and a small radius
pub record HasTameMonths (product : Product) (plan : Plan) (c : Fraction) (n : ℕ) : Type 0 where
  pub few : length product.states ≤ 12
  pub quintic : (grid : Grid) (month cell : ℕ) → IsQuintic (cell_curves grid product plan month cell)
  pub tame : (month cell : ℕ) → month < product.months → cell < 32 → IsTame Sup (kappa40 product month)
      (scaled_system c (thiele_system (cell_curves (cells_of_32 Backward) product plan month cell)))
  pub far : (month : ℕ) → month < product.months
      → HasFarWeight Sup (thiele_system (cell_curves (cells_of_32 Backward) product plan month 31))
  pub sizes : (months : ℕ) → months < product.months
      → norm_of_vector Sup (scale_list c (with_lumps (cells_of_32 Backward) product plan n months)) ≤ℚ whole (pos 1)
  pub radii : (months : ℕ) → months ≤ product.months → radius_before_term product months ≤ 2 ^ 39

-- a month of a scaled system is the scaled month
months_scale : (c : Fraction) (system : ℕ → System) (n cells : ℕ) (v : Vector)
    → month_back (λ cell. scaled_system c (system cell)) n cells (scale_list c v)
    ≡ scale_list c (month_back system n cells v)
months_scale c system n zero v = refl
months_scale c system n (suc cells) v =
    ap (month_back (λ cell. scaled_system c (system cell)) n cells) (taylor_values_scale c (system cells) v n)
    ∙ months_scale c system n cells (taylor_value (system cells) v n)

-- the same lumps on both sides
distance-with_lumps : (c : Fraction) (u v l : Vector)
    → distance Sup (scale_list c (add_lists u l)) (scale_list c (add_lists v l))
    ≡ distance Sup (scale_list c u) (scale_list c v)
distance-with_lumps c u v l = norm-same Sup
    (subtract_lists (scale_list c (add_lists u l)) (scale_list c (add_lists v l)))
    (subtract_lists (scale_list c u) (scale_list c v)) (λ i.
    number_at-subtract_lists (scale_list c (add_lists u l)) (scale_list c (add_lists v l)) i
    ∙ ap₂ ◌-ℚ◌ (added u i) (added v i)
    ∙ ring (c ∷ number_at u i ∷ number_at v i ∷ number_at l i ∷ []) (hlevel terms) refl
    ∙ sym (number_at-subtract_lists (scale_list c u) (scale_list c v) i
    ∙ ap₂ ◌-ℚ◌ (number_at-scale_list c u i) (number_at-scale_list c v i)))
  where
    added : (u : Vector) (i : ℕ)
        → number_at (scale_list c (add_lists u l)) i ≡ c *ℚ (number_at u i +ℚ number_at l i)
    added u i = number_at-scale_list c (add_lists u l) i ∙ ap (λ z. c *ℚ z) (number_at-add_lists u l i)

-- |u| <= |u - v| + |v|
norm_over : (u v : Vector) → norm_of_vector Sup u ≤ℚ distance Sup u v +ℚ norm_of_vector Sup v
norm_over u v = le_trans (le_of_equal (norm-same Sup u (add_lists (subtract_lists u v) v)
    (λ i. ring (number_at u i ∷ number_at v i ∷ []) (hlevel terms) refl
    ∙ sym (number_at-add_lists (subtract_lists u v) v i
    ∙ ap (λ z. z +ℚ number_at v i) (number_at-subtract_lists u v i)))))
    (norm-add_lists Sup (subtract_lists u v) v)

module _ (product : Product) (plan : Plan) (c : Fraction) (n t : ℕ) (h : HasTameMonths product plan c n)
    (late : 544 ≤ t) (high : 7 * t ≤ n) where
  abbrev d : ℕ
  d = length product.states

  abbrev two : Fraction
  two = power (whole (pos 2)) t

  abbrev cell_of : ℕ → ℕ → CellCurves
  cell_of month cell = cell_curves (cells_of_32 Backward) product plan month cell

  abbrev month_of : ℕ → CellCurves
  month_of month = cell_curves (whole_months Backward) product plan month 0

  abbrev system : ℕ → ℕ → System
  system month cell = scaled_system c (thiele_system (cell_of month cell))

  is-month : (month : ℕ) → month < product.months → IsMonth Sup (kappa40 product month) (system month) d
      (entry_polynomial (cell_of month 31)) (free_polynomial c (cell_of month 31))
  is-month month within = record {
    last = cells_have_polynomials c (cell_of month 31) (h.quintic (cells_of_32 Backward) month 31);
    last_decays = record {
      tame = h.tame month 31 within (omega arith);
      far = h.far month within;
      short = lit≤ tt;
    };
    cells = λ cell low. moved_cells_have_polynomials c (whole (pos (31 - cell))) (cell_of month 31)
        (cell_of month cell) (h.quintic (cells_of_32 Backward) month cell)
        (cells_of_months_move product plan month cell low);
    tame = λ cell low. h.tame month cell within low;
    powers = λ cell low. lit≤ tt;
  }

  -- the start of the month's run is of norm at most 2
  start-small : (y v : Vector) (w : ℕ) → w ≤ 2 ^ 39 → two *ℚ distance Sup y v ≤ℚ whole (pos w)
      → norm_of_vector Sup v ≤ℚ whole (pos 1) → norm_of_vector Sup y ≤ℚ whole (pos 2)
  start-small y v w small near size-v = combine two (power (over (pos 1) 2) t) (norm_of_vector Sup y)
      (norm_of_vector Sup v) (distance Sup y v) (whole (pos w)) (norm_over y v) near
      (le_trans (whole_numbers_le w (2 ^ 39) small) (le_trans (le_of_equal (whole_power 2 39))
      (power_longer {x = whole (pos 2)} 39 t (linear [] (natural 1 1) (hlevel claims) refl) (omega arith))))
      size-v (power_natural {x = over (pos 1) 2} t (natural 1 2))
      (power_inverse (whole (pos 2)) (over (pos 1) 2) t (ring [] (hlevel terms) refl))
    where
      combine : (two half y v z w : Fraction) → y ≤ℚ z +ℚ v → two *ℚ z ≤ℚ w → w ≤ℚ two → v ≤ℚ whole (pos 1)
          → whole (pos 0) ≤ℚ half → two *ℚ half ≡ whole (pos 1) → y ≤ℚ whole (pos 2)
      combine two half y v z w h1 h2 h3 h4 hh e = linear (two ∷ half ∷ y ∷ v ∷ z ∷ w ∷ [])
          (h1 ⊞ h4 ⊞ (h2 ⊞ h3) ⊠ hh ⊞ (whole (pos 1) -ℚ z) · e) (hlevel claims) refl

  abbrev on_months : ℕ → Vector
  on_months months = scale_list c (first_before_term (whole_months Backward) product plan n months)

  abbrev on_cells : ℕ → Vector
  on_cells months = scale_list c (first_before_term (cells_of_32 Backward) product plan n months)

  abbrev IsNear : ℕ → Type 0
  IsNear months = two *ℚ distance Sup (on_months months) (on_cells months)
      ≤ℚ whole (pos (radius_before_term product months))

  at-term : IsNear 0
  at-term = combine two (distance Sup (on_months 0) (on_months 0))
      (le_of_equal (norm-same Sup (subtract_lists (on_months 0) (on_months 0)) []
      (λ i. number_at-subtract_lists (on_months 0) (on_months 0) i
      ∙ ring (number_at (on_months 0) i ∷ []) (hlevel terms) refl)))
      (power_natural {x = whole (pos 2)} t (natural 2 1))
    where
      combine : (two x : Fraction) → x ≤ℚ whole (pos 0) → whole (pos 0) ≤ℚ two → two *ℚ x ≤ℚ whole (pos 0)
      combine two x h k = linear (two ∷ x ∷ []) (k ⊠ h) (hlevel claims) refl

  module _ (months : ℕ) (most : suc months ≤ product.months) (so_far : IsNear months) where
    abbrev month : ℕ
    month = product.months - suc months

    within : month < product.months
    within = omega arith

    abbrev y : Vector
    y = scale_list c (with_lumps (whole_months Backward) product plan n months)

    abbrev v : Vector
    v = scale_list c (with_lumps (cells_of_32 Backward) product plan n months)

    start-near : two *ℚ distance Sup y v ≤ℚ whole (pos (radius_before_term product months))
    start-near = rw (distance-with_lumps c (first_before_term (whole_months Backward) product plan n months)
        (first_before_term (cells_of_32 Backward) product plan n months) (lump_vector product plan (suc month))) so_far

    fits : (grid : Grid) → length (scale_list c (with_lumps grid product plan n months)) ≤ d
    fits grid = scale_list_fits d c (with_lumps grid product plan n months)
        (add_lists_fits d (first_before_term grid product plan n months) (lump_vector product plan (suc month))
        (runs_keep_states grid product plan n months).0 (list-length d (λ i. whole (lump_at plan (suc month) i))))

    followed : two *ℚ distance Sup (values d (run_polynomial (system month 31) y n) (whole (pos 32)))
        (month_back (system month) n 32 v)
        ≤ℚ whole (pos (grow_cells (kappa40 product month) 1024 (radius_before_term product months) 32))
    followed = polynomials_follow_months Sup (kappa40 product month) (system month) d
        (entry_polynomial (cell_of month 31)) (free_polynomial c (cell_of month 31)) y v n t
        (radius_before_term product months) (is-month month within) h.few (fits (whole_months Backward))
        (fits (cells_of_32 Backward))
        (start-small y v (radius_before_term product months) (h.radii months (omega arith)) start-near
        (h.sizes months (omega arith))) late high start-near

    values-reached : SameNumbers (on_months (suc months))
        (values d (run_polynomial (system month 31) y n) (whole (pos 32)))
    values-reached i = ap (λ u. number_at u i) (sym (taylor_values_scale c (thiele_system (month_of month))
        (with_lumps (whole_months Backward) product plan n months) n))
        ∙ months_are_values (system month 31) (scaled_system c (thiele_system (month_of month))) d
        (entry_polynomial (cell_of month 31)) (entry_polynomial (month_of month))
        (free_polynomial c (cell_of month 31)) (free_polynomial c (month_of month)) (whole (pos 32)) y n
        (cells_have_polynomials c (cell_of month 31) (h.quintic (cells_of_32 Backward) month 31))
        (cells_have_polynomials c (month_of month) (h.quintic (whole_months Backward) month 0))
        longer.0 longer.1 (fits (whole_months Backward)) i
      where
        longer : ((i j : ℕ) → IsMagnified (whole (pos 32)) (entry_polynomial (cell_of month 31) i j)
            (entry_polynomial (month_of month) i j))
            × ((i : ℕ) → IsMagnified (whole (pos 32)) (free_polynomial c (cell_of month 31) i)
            (free_polynomial c (month_of month) i))
        longer = longer_cells_are_magnified c (whole (pos 32)) (cell_of month 31) (month_of month)
            (months_are_longer product plan month)

    next-month : IsNear (suc months)
    next-month = le_trans (le_of_equal (ap (λ z. two *ℚ z)
        (ap (distance Sup (on_months (suc months))) (sym (months_scale c (λ cell. thiele_system (cell_of month cell))
        n 32 (with_lumps (cells_of_32 Backward) product plan n months)))
        ∙ distance-same Sup (on_months (suc months)) _ (month_back (system month) n 32 v) values-reached))) followed

  near : (months : ℕ) → months ≤ product.months → IsNear months
  near zero most = at-term
  near (suc months) most = next-month months most (near months (omega arith))

-- 2^t times the scaled difference of the two runs is at most the radius, for t of at least 544 and degrees from 7 t on
pub months_are_near : (product : Product) (plan : Plan) (c : Fraction) (n t : ℕ) → HasTameMonths product plan c n
    → 544 ≤ t → 7 * t ≤ n → (months : ℕ) → months ≤ product.months
    → power (whole (pos 2)) t
    *ℚ distance Sup (scale_list c (first_before_term (whole_months Backward) product plan n months))
    (scale_list c (first_before_term (cells_of_32 Backward) product plan n months))
    ≤ℚ whole (pos (radius_before_term product months))
months_are_near product plan c n t h late high months most = near product plan c n t h late high months most
