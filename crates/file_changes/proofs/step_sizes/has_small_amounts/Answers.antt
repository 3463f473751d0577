use Rattle.std.proofs.Common.{below_more, ap, sym, ◌∙◌, arith}
use Rattle.model_specs.specs.MonthNumbers.{bernstein_numerators}
use Rattle.product_file.specs.PaymentRules.{are_small}
use Rattle.file_checks.proofs.SizeLemmas.{all_of, all_of-fails}
use Rattle.file_changes.proofs.step_sizes.has_small_amounts.Goals as goal

pub returns-then-not-are_small : goal.returns-then-not-are_small
returns-then-not-are_small c =
    all_of-fails (λ k. are_small (bernstein_numerators c.args.c.now k)) c.args.months c.loop-month.month (λ k. k)
    (omega arith)
    (ap are_small (sym c.month_numerators.ensures) ∙ sym c.are_small.ensures ∙ c.if-not-are_small.true)

pub loop-month-preserved : goal.loop-month-preserved
loop-month-preserved c =
    below_more _ _ c.loop-month.invariant
    (ap are_small (sym c.month_numerators.ensures) ∙ sym c.are_small.ensures ∙ c.if-not-are_small.false)

pub returns : goal.returns
returns c =
    all_of (λ k. are_small (bernstein_numerators c.args.c.now k)) c.args.months (λ k. k)
    (λ k below. c.loop-month.invariant k (omega arith))
