use Rattle.std.proofs.Common.{◌∙◌, sym, subst, arith}
use Rattle.named_numbers.specs.Numbers.{cells_of_month, least_degree}
use Rattle.rate_bounds.specs.MonthPay.{plan_named}
use Rattle.thiele_backward.specs.MonthRuns.{StaysNearWithSpare}
use Rattle.thiele_backward.proofs.CellSteps.{numbers_fit, begins_near}
use Rattle.thiele_backward.proofs.ConstantMonths.{near_by_map}
use Rattle.thiele_backward.proofs.LumpedNumbers.{encloses_month}
use Rattle.thiele_backward.proofs.month.month_by_map.Goals as goal

pub apply-requires-clause-dim : goal.apply-requires-clause-dim
apply-requires-clause-dim c =
    c.add_lumps.auto.mid ∙ c.requires.mid ∙ c.requires.map.map.stands.dimension ∙ sym c.requires.map.map.made.made.dim

pub apply-requires-clause-mid : goal.apply-requires-clause-mid
apply-requires-clause-mid c =
    let product = c.args.adm.now in
    numbers_fit c.args.which product c.args.month 0 c.add_lumps.ensures.admissible c.requires.month (omega arith)
    least_degree (omega arith) c.add_lumps.new.mid c.add_lumps.new.mid
    (begins_near product (plan_named c.args.which product) c.args.month least_degree c.add_lumps.new.mid)
    c.add_lumps.ensures.some

pub apply-requires-clause-numbers : goal.apply-requires-clause-numbers
apply-requires-clause-numbers c = c.requires.map.map.made.small

pub apply-requires-clause-free : goal.apply-requires-clause-free
apply-requires-clause-free c = c.requires.map.map.made.free_small

pub returns-clause-degree : goal.returns-clause-degree
returns-clause-degree c = c.degree.ensures ∙ c.requires.map.map.made.made.degree

pub returns-clause-near : goal.returns-clause-near
returns-clause-near c =
    let product = c.args.adm.now in
    let plan = plan_named c.args.which product in
    let long = c.add_lumps.auto.mid ∙ c.requires.mid in
    encloses_month product plan c.args.month c.degree.result c.args.mid.now c.add_lumps.new.mid c.apply.new.mid
    c.requires.month c.add_lumps.ensures.lumped
    (subst (λ k. StaysNearWithSpare product plan c.args.month k cells_of_month c.add_lumps.new.mid c.apply.new.mid)
    (sym c.degree.ensures)
    (near_by_map c.args.which product c.args.month c.add_lumps.ensures.admissible c.requires.month
    c.requires.map.constant c.add_lumps.new.mid c.apply.new.mid c.args.map.now c.requires.map.map long
    (c.apply.auto.mid ∙ long) c.apply.ensures.near))
