use Rattle.std.proofs.Common.{◌≡◌, ◌-◌, pos, length, FitsSigned, arith, rules, ap, ◌∙◌, sym, subst}
use Rattle.std.specs.Int.{w128}
use Rattle.std.proofs.lemmas.Int.{to_z-of_z}
use Rattle.payment_plan.specs.Loads.{AreWithin, load_of_numerators}
use Rattle.model_laws.proofs.FourCoefficients.{payment_numerators_are}
use Rattle.payment_plan.proofs.Sizes.{payment_month_fits}
use Rattle.payment_plan.proofs.load.amount_load.Goals as goal

pub month_bernstein-numerators-requires : goal.month_bernstein-numerators-requires
month_bernstein-numerators-requires c =
    let four : length c.args.s.now.c ≡ 4 = search rules in
    rw c.in_years.ensures
    (payment_month_fits c.args.s.now.c (c.args.month - c.args.s.now.from) four c.requires.bounded.coefficients)

pub load_of-requires : goal.load_of-requires
load_of-requires c =
    let four : length c.args.s.now.c ≡ 4 = search rules in
    let numerators = payment_numerators_are c.args.s.now.c c.in_years.result.c c.month_bernstein-numerators.result
    (c.args.month - c.args.s.now.from) four c.in_years.ensures
    (c.month_bernstein-numerators.ensures.polynomial 1 (omega arith)) in
    subst AreWithin (sym numerators) (c.requires.bounded.amounts (c.args.month - c.args.s.now.from) (omega arith))

pub returns-clause-value : goal.returns-clause-value
returns-clause-value c =
    let four : length c.args.s.now.c ≡ 4 = search rules in
    let wide : FitsSigned w128 c.load_of.result = search rules in
    let numerators = payment_numerators_are c.args.s.now.c c.in_years.result.c c.month_bernstein-numerators.result
    (c.args.month - c.args.s.now.from) four c.in_years.ensures
    (c.month_bernstein-numerators.ensures.polynomial 1 (omega arith)) in
    simp to_z-of_z (c.load_of.ensures.value ∙ ap (λ b. pos (load_of_numerators b)) numerators)

pub returns-clause-most : goal.returns-clause-most
returns-clause-most c =
    let four : length c.args.s.now.c ≡ 4 = search rules in
    let numerators = payment_numerators_are c.args.s.now.c c.in_years.result.c c.month_bernstein-numerators.result
    (c.args.month - c.args.s.now.from) four c.in_years.ensures
    (c.month_bernstein-numerators.ensures.polynomial 1 (omega arith)) in
    omega (arith, ap load_of_numerators numerators, c.load_of.ensures.most)
