-- The reserves by whole months are near those by cells.
use Rattle.std.specs.Prelude.{◌≡◌, ℕ, pos, [], ◌∷◌, ◌*◌, ◌^◌, ◌-◌, ◌<◌, ◌≤◌, ◌*ℤ◌}
use Rattle.std.proofs.Common.{refl, ap, sym, ◌∙◌, arith, lit≤, pow_pos}
use Rattle.std.proofs.lemmas.Int.{ints}
use Rattle.std.proofs.Math.IntN.{pos-*ℤ-pos}
use mathlib.Core.Path.{ap₂}
use Rattle.frac_laws.specs.Fraction.{Fraction, over, whole, size, ◌-ℚ◌, ◌*ℚ◌, ◌≤ℚ◌, ◌<ℚ◌}
use Rattle.frac_laws.specs.Sums.{power}
use Rattle.frac_laws.specs.Lists.{Vector, number_at, scale_list, subtract_lists}
use Rattle.frac_laws.specs.Norms.{Sup}
use Rattle.frac_laws.proofs.FractionTerms.{ring, terms}
use Rattle.frac_laws.proofs.Linear.{linear, claims, natural, ◌⊞◌, ◌⊠◌, ◌·◌}
use Rattle.frac_laws.proofs.Order.{le_trans, le_of_equal, le_lt_trans}
use Rattle.frac_laws.proofs.Powers.{power_natural, whole_power}
use Rattle.frac_laws.proofs.Quotients.{inverse, over_is, over_lt_of_cross}
use Rattle.frac_laws.proofs.Norms.{number_below_norm}
use Rattle.frac_laws.proofs.Sizes.{size_natural, size_mul_natural}
use Rattle.frac_laws.proofs.Vectors.{number_at-scale_list, number_at-subtract_lists}
use Rattle.step_laws.proofs.Grown.{whole_numbers_le}
use Rattle.cell_laws.specs.ErrorLaws.{distance}
use Rattle.model_specs.specs.Product.{Product}
use Rattle.model_specs.specs.Payments.{Plan, payment_plan, pattern_plan}
use Rattle.model_specs.specs.Cells.{Backward, cells_of_32, whole_months, cell_curves}
use Rattle.model_specs.specs.Ledgers.{scale, radius, radius_before_term}
use Rattle.model_specs.specs.Runs.{first_before_term, reserve, month_grid_reserve}
use Rattle.model_specs.specs.ValuationRules.{IsAdmissible}
use Rattle.model_laws.proofs.CellShapes.{cells_are_quintic}
use Rattle.ledger_laws.specs.GrowthLaws.{greatest_radius}
use Rattle.ledger_laws.proofs.BeforeTerm.{radius_small}
use Rattle.ledger_laws.proofs.MonthFacts.{admissible_obeys}
use Rattle.product_cells.specs.EachCell.{plan_scaling}
use Rattle.product_laws.proofs.PowerNorms.{powers_are_small}
use Rattle.product_laws.proofs.ProductTame.{thiele_cells_are_tame}
use Rattle.sweep_laws.proofs.ScaledSteps.{first_moments_step}
use Rattle.polynomial_runs.proofs.PowersOf12.{power_longer}
use Rattle.month_grid.specs.MonthGridLaws.{DiffersByRadius, DiffersByLessThanAUnit, MonthGridIsNear}
use Rattle.month_grid.specs.MonthGridLaws.{MonthGridIsWithinAUnit, MonthGridMeetsAtTheTerm}
use Rattle.month_grid.proofs.FarWeights.{far_weight}
use Rattle.month_grid.proofs.GridRuns.{HasTameMonths, months_are_near}

-- ---- an admissible product has what the months take

radii_small : (product : Product) (months : ℕ) → IsAdmissible product → months ≤ product.months
    → radius_before_term product months ≤ 2 ^ 39
radii_small product months admissible inside =
    let small : radius_before_term product months ≤ greatest_radius =
    (radius_small product admissible.well_formed (admissible_obeys product admissible)).months months inside in
    omega arith

payment_months : (product : Product) (n : ℕ) → IsAdmissible product → 6 ≤ n
    → HasTameMonths product (payment_plan product) (plan_scaling product (payment_plan product)) n
payment_months product n admissible six = record {
  few = admissible.well_formed.names.at_most_twelve;
  quintic = λ grid month cell. (cells_are_quintic grid product month cell admissible.well_formed).0;
  tame = λ month cell inside low. (thiele_cells_are_tame product month cell admissible inside low).0;
  far = λ month inside. far_weight (cell_curves (cells_of_32 Backward) product (payment_plan product) month 31)
      (powers_are_small product month 31 admissible inside (lit≤ tt)).0;
  sizes = λ months inside. ((first_moments_step product n admissible six).0 months 0 inside (lit≤ tt)).starts;
  radii = λ months inside. radii_small product months admissible inside;
}

pattern_months : (product : Product) (n : ℕ) → IsAdmissible product → 6 ≤ n
    → HasTameMonths product (pattern_plan product) (plan_scaling product (pattern_plan product)) n
pattern_months product n admissible six = record {
  few = admissible.well_formed.names.at_most_twelve;
  quintic = λ grid month cell. (cells_are_quintic grid product month cell admissible.well_formed).1;
  tame = λ month cell inside low. (thiele_cells_are_tame product month cell admissible inside low).1;
  far = λ month inside. far_weight (cell_curves (cells_of_32 Backward) product (pattern_plan product) month 31)
      (powers_are_small product month 31 admissible inside (lit≤ tt)).1;
  sizes = λ months inside. ((first_moments_step product n admissible six).1 months 0 inside (lit≤ tt)).starts;
  radii = λ months inside. radii_small product months admissible inside;
}

-- ---- each reserve

-- one number of two scaled vectors
number-apart : (c : Fraction) (u v : Vector) (i : ℕ) → whole (pos 0) ≤ℚ c
    → c *ℚ size (number_at u i -ℚ number_at v i) ≤ℚ distance Sup (scale_list c u) (scale_list c v)
number-apart c u v i hc = le_trans (le_of_equal (sym (ap size numbers ∙ size_mul_natural _ hc)))
    (number_below_norm Sup (subtract_lists (scale_list c u) (scale_list c v)) i)
  where
    numbers : number_at (subtract_lists (scale_list c u) (scale_list c v)) i
        ≡ c *ℚ (number_at u i -ℚ number_at v i)
    numbers = number_at-subtract_lists (scale_list c u) (scale_list c v) i
        ∙ ap₂ ◌-ℚ◌ (number_at-scale_list c u i) (number_at-scale_list c v i)
        ∙ ring (c ∷ number_at u i ∷ number_at v i ∷ []) (hlevel terms) refl

differs_by_radius : (product : Product) (plan : Plan) (n t : ℕ)
    → HasTameMonths product plan (plan_scaling product plan) n → 544 ≤ t → 7 * t ≤ n → DiffersByRadius t product plan n
differs_by_radius product plan n t months late high date state within =
    let G = 2 ^ scale product plan in
    divided (power (whole (pos 2)) t) (over (pos 1) G) (whole (pos G))
    (size (month_grid_reserve product plan n date state -ℚ reserve product plan n date state)) _
    (whole (pos (radius product date))) (power_natural {x = whole (pos 2)} t (natural 2 1)) (natural G 1)
    (number-apart (over (pos 1) G) (first_before_term (whole_months Backward) product plan n (product.months - date))
    (first_before_term (cells_of_32 Backward) product plan n (product.months - date)) state (natural 1 G))
    (months_are_near product plan (over (pos 1) G) n t months late high (product.months - date) (omega arith))
    (inverse G (pow_pos (scale product plan)))
  where
    divided : (two c g x z w : Fraction) → whole (pos 0) ≤ℚ two → whole (pos 0) ≤ℚ g
        → c *ℚ x ≤ℚ z → two *ℚ z ≤ℚ w → g *ℚ c ≡ whole (pos 1) → two *ℚ x ≤ℚ g *ℚ w
    divided two c g x z w some some_g at_x at_z e = linear (two ∷ c ∷ g ∷ x ∷ z ∷ w ∷ [])
        (some_g ⊠ at_z ⊞ (some ⊠ some_g) ⊠ at_x ⊞ (two *ℚ x) · sym e) (hlevel claims) refl

pub month_grid_is_near : MonthGridIsNear
month_grid_is_near product n t admissible late high = (
  differs_by_radius product (payment_plan product) n t (payment_months product n admissible (omega arith)) late high,
  differs_by_radius product (pattern_plan product) n t (pattern_months product n admissible (omega arith)) late high,
)

-- ---- less than a unit

-- half a unit
half_a_unit : (t : ℕ) (x : Fraction) (G w : ℕ) → 544 ≤ t → w ≤ 2 ^ 39 → whole (pos 0) ≤ℚ x
    → power (whole (pos 2)) t *ℚ x ≤ℚ whole (pos G) *ℚ whole (pos w) → x ≤ℚ over (pos G) (2 ^ 65)
half_a_unit t x G w late small some h = rw (over_is (pos G) (2 ^ 65))
    (divided (power (whole (pos 2)) t) x (whole (pos G)) (whole (pos w)) h
    (le_trans (le_of_equal (whole_power 2 104))
    (power_longer {x = whole (pos 2)} 104 t (linear [] (natural 1 1) (hlevel claims) refl) (omega arith)))
    some (whole_numbers_le w (2 ^ 39) small) (natural G 1))
  where
    divided : (two x g w : Fraction) → two *ℚ x ≤ℚ g *ℚ w → whole (pos (2 ^ 104)) ≤ℚ two → whole (pos 0) ≤ℚ x
        → w ≤ℚ whole (pos (2 ^ 39)) → whole (pos 0) ≤ℚ g → x ≤ℚ g *ℚ over (pos 1) (2 ^ 65)
    divided two x g w h large some small some_g = linear (two ∷ x ∷ g ∷ w ∷ [])
        (natural 1 (2 ^ 104) ⊠ h ⊞ natural 1 (2 ^ 104) ⊠ (large ⊠ some) ⊞ natural 1 (2 ^ 104) ⊠ (some_g ⊠ small))
        (hlevel claims) refl

half_is_less : (G : ℕ) → 0 < G → over (pos G) (2 ^ 65) <ℚ over (pos G) (2 ^ 64)
half_is_less G some = over_lt_of_cross (pos G) (pos G) (2 ^ 65) (2 ^ 64) (omega arith) (omega arith)
    (omega (arith, ints, pos-*ℤ-pos G (2 ^ 64), pos-*ℤ-pos G (2 ^ 65)))

differs_by_less : (product : Product) (plan : Plan) (n : ℕ) → IsAdmissible product → DiffersByRadius 544 product plan n
    → DiffersByLessThanAUnit product plan n
differs_by_less product plan n admissible differs date state within =
    le_lt_trans
    (half_a_unit 544 (size (month_grid_reserve product plan n date state -ℚ reserve product plan n date state))
    (2 ^ scale product plan) (radius product date) (lit≤ tt)
    (radii_small product (product.months - date) admissible (omega arith)) (size_natural _) (differs date state within))
    (half_is_less (2 ^ scale product plan) (pow_pos (scale product plan)))

pub month_grid_is_within_a_unit : MonthGridIsWithinAUnit
month_grid_is_within_a_unit product n admissible high =
    let near = month_grid_is_near product n 544 admissible (lit≤ tt) (omega arith) in (
      differs_by_less product (payment_plan product) n admissible near.0,
      differs_by_less product (pattern_plan product) n admissible near.1,
    )

-- ---- at the term

pub month_grid_meets_at_the_term : MonthGridMeetsAtTheTerm
month_grid_meets_at_the_term product plan n state = let e : product.months - product.months ≡ 0 = omega arith in
    ap (λ k. number_at (first_before_term (whole_months Backward) product plan n k) state) e
    ∙ sym (ap (λ k. number_at (first_before_term (cells_of_32 Backward) product plan n k) state) e)
