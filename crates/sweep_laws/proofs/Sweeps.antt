-- Sweeps stay within the radius ledger.
use Rattle.std.specs.Prelude.{◌≡◌, ℕ, zero, suc, pos, ◌-◌, ◌^◌, ◌<◌, ◌≤◌, [], ◌∷◌, length}
use Rattle.std.proofs.Common.{refl, ap, sym, ◌∙◌, arith, lit≤, inl, inr}
use Rattle.std.proofs.lemmas.Int.{ints}
use mathlib.Core.Path.{ap₂}
use Rattle.frac_laws.specs.Fraction.{Fraction, whole, ◌+ℚ◌, ◌-ℚ◌, ◌*ℚ◌, ◌≤ℚ◌}
use Rattle.frac_laws.specs.Ledger.{grow}
use Rattle.frac_laws.specs.Lists.{Vector, number_at, add_lists, scale_list, subtract_lists}
use Rattle.frac_laws.specs.Norms.{Norm, Sup, Sum, norm_of_vector}
use Rattle.frac_laws.proofs.FractionTerms.{ring, terms}
use Rattle.frac_laws.proofs.Linear.{linear, claims, natural}
use Rattle.frac_laws.proofs.Order.{le_refl, le_trans, le_of_equal}
use Rattle.frac_laws.proofs.Norms.{norm-same}
use Rattle.frac_laws.proofs.Vectors.{number_at-add_lists, number_at-scale_list, number_at-subtract_lists}
use Rattle.cell_laws.specs.Systems.{System}
use Rattle.cell_laws.specs.ErrorLaws.{distance}
use Rattle.model_specs.specs.Product.{Product}
use Rattle.model_specs.specs.Payments.{Plan, payment_plan, pattern_plan}
use Rattle.model_specs.specs.Growth.{kappa40}
use Rattle.model_specs.specs.Ledgers.{grow_cells, radius_before_term, radius_forward}
use Rattle.model_specs.specs.Runs.{first_before_term, lump_vector, probabilities}
use Rattle.model_specs.specs.Cells.{Backward, cells_of_32}
use Rattle.model_specs.specs.Systems.{thiele_system}
use Rattle.whole_laws.proofs.ListsByPlace.{at-list_of, past-list_of}
use Rattle.std.proofs.lemmas.Bool.{cases_lt}
use Rattle.model_specs.specs.ValuationRules.{IsAdmissible}
use Rattle.ledger_laws.specs.BeforeTermLaws.{radius_cells, KeepsRadiusSmall}
use Rattle.ledger_laws.proofs.MonthFacts.{admissible_obeys}
use Rattle.ledger_laws.proofs.BeforeTerm.{radius_small}
use Rattle.ledger_laws.proofs.GrowthFacts.{radii_small_inside}
use Rattle.cell_bounds.specs.ScaledSystems.{scaled_system}
use Rattle.product_cells.specs.EachCell.{plan_scaling, backward_cell}
use Rattle.moment_laws.specs.CellRuns.{first_after_cells}
use Rattle.sweep_laws.specs.ScaledSteps.{IsTameStep, scaled_first, next_cell}
use Rattle.probability_laws.specs.ProbabilityLaws.{probabilities_after}
use Rattle.sweep_laws.specs.SweepLaws.{units, AnswersCell, IsSweep, StaysNear, SweepsStayNear, IsForwardSweep}
use Rattle.sweep_laws.specs.SweepLaws.{StaysForwardNear, ForwardSweepsStayNear}
use Rattle.product_cells.proofs.CurveCells.{over_mono}
use Rattle.moment_laws.proofs.MonthCells.{months_go}
use Rattle.moment_laws.proofs.ScaledRuns.{scale-add}
use Rattle.sweep_laws.proofs.ScaledSteps.{first_moments_step, probabilities_step}

-- what is added to both sides changes no distance
pub distance-shifted : (norm : Norm) (u v l : Vector)
    → distance norm (add_lists u l) (add_lists v l) ≡ distance norm u v
distance-shifted norm u v l = norm-same norm _ _ (λ i.
    number_at-subtract_lists (add_lists u l) (add_lists v l) i
    ∙ ap₂ ◌-ℚ◌ (number_at-add_lists u l i) (number_at-add_lists v l i)
    ∙ gone (number_at u i) (number_at v i) (number_at l i)
    ∙ sym (number_at-subtract_lists u v i))
  where
    gone : (x y z : Fraction) → (x +ℚ z) -ℚ (y +ℚ z) ≡ x -ℚ y
    gone x y z = ring (x ∷ y ∷ z ∷ []) (hlevel terms) refl

distance-self : (norm : Norm) (u : Vector) → distance norm u u ≡ norm_of_vector norm []
distance-self norm u = norm-same norm (subtract_lists u u) []
    (λ i. number_at-subtract_lists u u i ∙ none (number_at u i))
  where
    none : (x : Fraction) → x -ℚ x ≡ whole (pos 0)
    none x = ring (x ∷ []) (hlevel terms) refl

pub units-order : (n m : ℕ) → n ≤ m → units n ≤ℚ units m
units-order n m h = over_mono (pos n) (pos m) (2 ^ 64) (omega (arith, ints, h))

-- a step keeps within the ledger
stepped : (norm : Norm) (kappa n radius : ℕ) (most : Fraction) (s : System) (start answer old new : Vector)
    → IsTameStep norm kappa most s n start answer → most ≤ℚ whole (pos 2) → AnswersCell norm s kappa n old new
    → distance norm start old ≤ℚ units radius → radius ≤ 2 ^ 45
    → distance norm answer new ≤ℚ units (grow radius kappa 1024)
stepped norm kappa n radius most s start answer old new step small answers near few =
    rw step.steps (le_trans (answers start radius step.fits (le_trans step.starts small) near few)
    (units-order (grow radius kappa 1023) (grow radius kappa 1024) (omega arith)))

module _ (product : Product) (plan : Plan) (n : ℕ) (dates : ℕ → Vector) (cells : ℕ → ℕ → Vector)
    (small : KeepsRadiusSmall product) (sweep : IsSweep product plan n dates cells)
    (steps : (months done : ℕ) → months < product.months → done < 32
    → let month = product.months - suc months in
    IsTameStep Sup (kappa40 product month) (whole (pos 1))
    (scaled_system (plan_scaling product plan) (thiele_system (backward_cell product plan month (next_cell done)))) n
    (scaled_first product plan n months done) (scaled_first product plan n months (suc done))) where
  abbrev h : Fraction
  h = plan_scaling product plan

  abbrev before : ℕ → Vector
  before months = first_before_term (cells_of_32 Backward) product plan n months

  near_cells : (months done : ℕ) → months < product.months → done ≤ 32
      → distance Sup (scale_list h (before months)) (dates months) ≤ℚ units (radius_before_term product months)
      → distance Sup (scaled_first product plan n months done) (cells months done)
      ≤ℚ units (radius_cells product months done)
  near_cells months zero inside few near =
      let l = lump_vector product plan (suc (product.months - suc months)) in
      le_trans (le_of_equal (ap₂ (distance Sup) (sym (scale-add h (before months) l)) (sweep.lumps months inside)
      ∙ distance-shifted Sup (scale_list h (before months)) (dates months) (scale_list h l))) near
  near_cells months (suc done) inside few near =
      let month = product.months - suc months in
      let low : done < 32 = omega (arith, few) in
      let radius = radius_cells product months done in
      let most = small.cells months done inside (omega (arith, few)) in
      stepped Sup (kappa40 product month) n radius (whole (pos 1)) _ (scaled_first product plan n months done)
      (scaled_first product plan n months (suc done)) (cells months done) (cells months (suc done))
      (steps months done inside low) (linear [] (natural 1 1) (hlevel claims) refl) (sweep.steps months done inside low)
      (near_cells months done inside (omega (arith, few)) near) (omega (arith, most))

  near_dates : (months : ℕ) → months ≤ product.months
      → distance Sup (scale_list h (before months)) (dates months) ≤ℚ units (radius_before_term product months)
  near_dates zero within =
      let zeros = norm-same Sup (subtract_lists (scale_list h (before 0)) []) [] (λ i.
      number_at-subtract_lists (scale_list h (before 0)) [] i
      ∙ ap (λ z. z -ℚ whole (pos 0)) (number_at-scale_list h (before 0) i ∙ ap (λ z. h *ℚ z) (zero_at i))
      ∙ ring (h ∷ []) (hlevel terms) refl) in
      rw sweep.term (le_trans (le_of_equal zeros) (natural 0 (2 ^ 64)))
    where
      zero_at : (i : ℕ) → number_at (before 0) i ≡ whole (pos 0)
      zero_at i = elim (cases_lt i (length product.states)) [
        | inl b ↦ at-list_of (length product.states) (λ k. whole (pos 0)) i (whole (pos 0)) b
        | inr b ↦ past-list_of (length product.states) (λ k. whole (pos 0)) i (whole (pos 0)) b
      ]
  near_dates (suc months) within =
      let inside : months < product.months = omega (arith, within) in
      let last = near_cells months 32 inside (lit≤ tt) (near_dates months (omega (arith, within))) in
      rw (
        months_go (λ cell. thiele_system (backward_cell product plan (product.months - suc months) cell)) n 32
            (first_after_cells product plan n months 0),
        sweep.months months inside,
      ) last

  pub stays_near : StaysNear product plan n dates cells
  stays_near = record {
    at_dates = near_dates;
    in_cells = λ months done inside few. near_cells months done inside few (near_dates months (omega (arith, inside)));
  }

pub sweeps_stay_near : SweepsStayNear
sweeps_stay_near product n admissible above =
    let small = radius_small product admissible.well_formed (admissible_obeys product admissible) in
    let steps = first_moments_step product n admissible above in (
      λ dates cells sweep. stays_near product (payment_plan product) n dates cells small sweep steps.0,
      λ dates cells sweep. stays_near product (pattern_plan product) n dates cells small sweep steps.1,
    )

module _ (product : Product) (n : ℕ) (admissible : IsAdmissible product) (above : 8 ≤ n) (dates : ℕ → Vector)
    (cells : ℕ → ℕ → Vector) (sweep : IsForwardSweep product n dates cells) where
  forward_cells : (month done : ℕ) → month < product.months → done ≤ 32
      → distance Sum (probabilities product n month) (dates month) ≤ℚ units (radius_forward product month)
      → distance Sum (probabilities_after product n month done) (cells month done)
      ≤ℚ units (grow_cells (kappa40 product month) 1024 (radius_forward product month) done)
  forward_cells month zero inside few near = rw (sweep.starts month inside) near
  forward_cells month (suc done) inside few near =
      let low : done < 32 = omega (arith, few) in
      let radius = grow_cells (kappa40 product month) 1024 (radius_forward product month) done in
      let most = (radii_small_inside product admissible.well_formed (admissible_obeys product admissible) month done
      inside (omega (arith, few))).forward in
      stepped Sum (kappa40 product month) n radius (whole (pos 2)) _ (probabilities_after product n month done)
      (probabilities_after product n month (suc done)) (cells month done) (cells month (suc done))
      (probabilities_step product n month done admissible above inside low) (le_refl (whole (pos 2)))
      (sweep.steps month done inside low)
      (forward_cells month done inside (omega (arith, few)) near) (omega (arith, most))

  forward_dates : (month : ℕ) → month ≤ product.months
      → distance Sum (probabilities product n month) (dates month) ≤ℚ units (radius_forward product month)
  forward_dates zero within =
      rw sweep.issue (le_trans (le_of_equal (distance-self Sum (probabilities product n 0))) (natural 0 (2 ^ 64)))
  forward_dates (suc month) within =
      let inside : month < product.months = omega (arith, within) in
      rw (sweep.months month inside)
      (forward_cells month 32 inside (lit≤ tt) (forward_dates month (omega (arith, within))))

  pub stays_forward : StaysForwardNear product n dates cells
  stays_forward = record {
    at_dates = forward_dates;
    in_cells = λ month done inside few. forward_cells month done inside few
        (forward_dates month (omega (arith, inside)));
  }

pub forward_sweeps_stay_near : ForwardSweepsStayNear
forward_sweeps_stay_near product n admissible above dates cells sweep =
    stays_forward product n admissible above dates cells sweep
