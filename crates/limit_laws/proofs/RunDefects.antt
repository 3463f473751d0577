-- In each cell the runs leave small defects of the written equations.
use Rattle.std.specs.Prelude.{◌≡◌, ℕ, suc, pos, [], ◌∷◌, ◌-◌, ◌≤◌}
use Rattle.std.proofs.Common.{refl, sym, subst, ◌∙◌, arith}
use mathlib.Core.Path.{ap₂}
use Rattle.frac_laws.specs.Fraction.{Fraction, whole, ◌+ℚ◌, ◌-ℚ◌, ◌*ℚ◌, ◌≤ℚ◌}
use Rattle.frac_laws.specs.Lists.{Vector, number_at, scale_list}
use Rattle.frac_laws.specs.Norms.{Sup, Sum, norm_of_vector}
use Rattle.frac_laws.proofs.FractionTerms.{ring, terms}
use Rattle.frac_laws.proofs.Linear.{linear, claims, natural}
use Rattle.frac_laws.proofs.Order.{le_trans}
use Rattle.cell_laws.specs.Systems.{coefficient}
use Rattle.cell_laws.specs.Pairs.{second_coefficient}
use Rattle.cell_laws.specs.Tame.{IsTame, IsTamePair}
use Rattle.cell_laws.specs.DecayLaws.{StartsWithin}
use Rattle.model_specs.specs.Product.{Product}
use Rattle.model_specs.specs.Payments.{Plan, payment_plan, pattern_plan}
use Rattle.model_specs.specs.Growth.{kappa40}
use Rattle.model_specs.specs.Cells.{CellCurves, Forward, Backward, cells_of_32}
use Rattle.model_specs.specs.Systems.{thiele_system, norberg_pair, kolmogorov_system}
use Rattle.model_laws.specs.Equations.{IsQuintic}
use Rattle.model_laws.proofs.CellShapes.{cells_are_quintic}
use Rattle.cell_bounds.specs.ScaledSystems.{scaled_system, scaled_pair}
use Rattle.product_cells.specs.EachCell.{plan_scaling, forward_cell}
use Rattle.product_laws.specs.TameCells.{coupling_of}
use Rattle.probability_laws.specs.ProbabilityLaws.{probabilities_after}
use Rattle.moment_laws.specs.CellRuns.{first_after_cells}
use Rattle.moment_laws.specs.SecondMomentLaws.{moments_after_cells}
use Rattle.sweep_laws.specs.ScaledSteps.{next_cell}
use Rattle.sweep_laws.proofs.ScaledSteps.{first_moments_step, both_moments_step, probabilities_step}
use Rattle.limit_laws.specs.WrittenEquations.{Polynomial, ◌·ₚ◌, with_payments_times}
use Rattle.limit_laws.specs.WrittenEquations.{thiele_defect, norberg_defect, kolmogorov_defect}
use Rattle.limit_laws.specs.Defect.{run_polynomial, cell_after, second_run, probability_run, IsSmallDefect}
use Rattle.limit_laws.specs.Defect.{NearlySolvesThiele, PlanDefectsAreSmall}
use Rattle.limit_laws.specs.Defect.{PatternDefectsAreSmall, NorbergDefectsAreSmall, KolmogorovDefectsAreSmall}
use Rattle.limit_laws.proofs.CutRuns.{cut, number_at-run_polynomial}
use Rattle.limit_laws.proofs.ScaledCoefficients.{first_numbers, second_numbers}
use Rattle.limit_laws.proofs.CellRows.{backward_sums, forward_sums, coupling_sums, first_free, second_free}
use Rattle.limit_laws.proofs.SmallDefects.{system_defect_is_small, pair_defect_is_small}
use Rattle.limit_laws.proofs.EquationNumbers.{thiele_number, norberg_number, kolmogorov_number}
use Rattle.limit_laws.proofs.FirstMoments.{first_moments_inside}
use Rattle.limit_laws.proofs.ReserveModulus.{StepsOf}

-- Thiele's equation in one cell, scaled by c
thiele_cell_defect : (cell : CellCurves) (c : Fraction) (kappa : ℕ) (v : Vector) (n : ℕ) → IsQuintic cell
    → IsTame Sup kappa (scaled_system c (thiele_system cell)) → norm_of_vector Sup (scale_list c v) ≤ℚ whole (pos 1)
    → IsSmallDefect Sup cell.states n (thiele_defect (with_payments_times c cell)
    (λ i. c ·ₚ run_polynomial (coefficient (thiele_system cell) v) n i))
thiele_cell_defect cell c kappa v n quintic tame start =
    let s = scaled_system c (thiele_system cell) in
    let u = scale_list c v in
    let V : ℕ → Polynomial = λ i. c ·ₚ run_polynomial (coefficient (thiele_system cell) v) n i in
    let x = cut (coefficient s u) n in
    let same : (i m : ℕ) → number_at (V i) m ≡ number_at (x m) i = first_numbers c (thiele_system cell) v n in
    system_defect_is_small Sup kappa s u n tame (le_trans start (linear [] (natural 1 1) (hlevel claims) refl))
    cell.states (thiele_defect (with_payments_times c cell) V)
    (λ k i low. thiele_number cell c V i k
    ∙ ap₂ (λ y z. whole (pos (suc k)) *ℚ y -ℚ z) (same i (suc k))
    (ap₂ ◌+ℚ◌ (sym (backward_sums cell quintic 1 x (λ j. number_at (V j)) k i low same))
    (sym (first_free cell quintic c k i low))))

-- and in each cell of a plan
thiele_plan : (product : Product) (plan : Plan)
    → ((months done : ℕ) → IsQuintic (cell_after product plan months done))
    → ((n : ℕ) → 8 ≤ n → StepsOf product plan n) → NearlySolvesThiele product plan
thiele_plan product plan quintic steps n months done above inside few =
    let step = steps n above months done inside few in
    thiele_cell_defect (cell_after product plan months done) (plan_scaling product plan)
    (kappa40 product (product.months - suc months)) (first_after_cells product plan n months done) n
    (quintic months done) step.tame step.starts

pub plan_defects_are_small : PlanDefectsAreSmall
plan_defects_are_small product admissible = thiele_plan product (payment_plan product)
    (λ months done. (cells_are_quintic (cells_of_32 Backward) product (product.months - suc months) (next_cell done)
    admissible.well_formed).0)
    (λ n above. (first_moments_step product n admissible (omega (arith, above))).0)

pub pattern_defects_are_small : PatternDefectsAreSmall
pattern_defects_are_small product admissible = thiele_plan product (pattern_plan product)
    (λ months done. (cells_are_quintic (cells_of_32 Backward) product (product.months - suc months) (next_cell done)
    admissible.well_formed).1)
    (λ n above. (first_moments_step product n admissible (omega (arith, above))).1)

-- Norberg's equation in one cell, scaled by c
norberg_cell_defect : (cell : CellCurves) (c coupling : Fraction) (kappa : ℕ) (v z : Vector) (n : ℕ) → IsQuintic cell
    → IsTamePair kappa coupling (scaled_pair c (norberg_pair cell))
    → StartsWithin (whole (pos 1)) (scale_list c v) (scale_list (c *ℚ c) z)
    → IsSmallDefect Sup cell.states n (norberg_defect (with_payments_times c cell)
    (λ i. c ·ₚ run_polynomial (coefficient (thiele_system cell) v) n i)
    (λ i. (c *ℚ c) ·ₚ run_polynomial (second_coefficient (norberg_pair cell) v z) n i))
norberg_cell_defect cell c coupling kappa v z n quintic tame starts =
    let p = scaled_pair c (norberg_pair cell) in
    let w = scale_list c v in
    let y = scale_list (c *ℚ c) z in
    let V : ℕ → Polynomial = λ i. c ·ₚ run_polynomial (coefficient (thiele_system cell) v) n i in
    let Z : ℕ → Polynomial = λ i. (c *ℚ c) ·ₚ run_polynomial (second_coefficient (norberg_pair cell) v z) n i in
    let first = cut (coefficient p.first w) n in
    let second = cut (second_coefficient p w y) n in
    let same : (i m : ℕ) → number_at (V i) m ≡ number_at (first m) i = first_numbers c (thiele_system cell) v n in
    let same_too : (i m : ℕ) → number_at (Z i) m ≡ number_at (second m) i =
    second_numbers c (norberg_pair cell) v z n in
    pair_defect_is_small kappa coupling p w y n tame starts cell.states
    (norberg_defect (with_payments_times c cell) V Z)
    (λ k i low. norberg_number cell c V Z i k
    ∙ ap₂ (λ a b. whole (pos (suc k)) *ℚ a -ℚ b) (same_too i (suc k))
    (ap₂ ◌+ℚ◌ (sym (backward_sums cell quintic 2 second (λ j. number_at (Z j)) k i low same_too))
    (ap₂ ◌+ℚ◌ (sym (coupling_sums cell quintic c first (λ j. number_at (V j)) k i low same))
    (sym (second_free cell quintic (c *ℚ c) k i low)))))

pub norberg_defects_are_small : NorbergDefectsAreSmall
norberg_defects_are_small product admissible n months done above inside few =
    let plan = payment_plan product in
    let month = product.months - suc months in
    let cell = cell_after product plan months done in
    let c = plan_scaling product plan in
    let v = moments_after_cells product plan n months done in
    let step = both_moments_step product n months done admissible (omega (arith, above)) inside few in
    subst (λ u. IsSmallDefect Sup cell.states n (norberg_defect (with_payments_times c cell)
    (λ i. c ·ₚ run_polynomial (coefficient (thiele_system cell) u) n i) (second_run product n months done)))
    (first_moments_inside product plan n months done)
    (norberg_cell_defect cell c (coupling_of product plan month) (kappa40 product month) v.first v.second n
    (cells_are_quintic (cells_of_32 Backward) product month (next_cell done) admissible.well_formed).0
    step.tame (step.first_starts, step.second_starts))

pub kolmogorov_defects_are_small : KolmogorovDefectsAreSmall
kolmogorov_defects_are_small product admissible n month cells above inside few =
    let cell = forward_cell product month cells in
    let s = kolmogorov_system cell in
    let u = probabilities_after product n month cells in
    let p = probability_run product n month cells in
    let step = probabilities_step product n month cells admissible above inside few in
    let quintic = (cells_are_quintic (cells_of_32 Forward) product month cells admissible.well_formed).0 in
    let x = cut (coefficient s u) n in
    let same : (i m : ℕ) → number_at (p i) m ≡ number_at (x m) i = number_at-run_polynomial (coefficient s u) n in
    system_defect_is_small Sum (kappa40 product month) s u n step.tame step.starts cell.states
    (kolmogorov_defect cell p)
    (λ k j low. kolmogorov_number cell p j k
    ∙ ap₂ (λ y z. whole (pos (suc k)) *ℚ y -ℚ z) (same j (suc k))
    (sym (forward_sums cell quintic x (λ i. number_at (p i)) k j low same) ∙ plus_none _))
  where
    plus_none : (a : Fraction) → a ≡ a +ℚ whole (pos 0)
    plus_none a = ring (a ∷ []) (hlevel terms) refl
