use Rattle.std.proofs.Common.{length, ap, sym, ◌∙◌, arith}
use Rattle.toml.specs.View.{table_view}
use Rattle.product_file.specs.Checks.{first_failed}
use Rattle.product_file.specs.PatternRules.{payer_items, is_good_payer}
use Rattle.file_checks.proofs.Checks.{first_of_some-at, first_of_some-none}
use Rattle.file_checks.proofs.PayerLemmas.{few_payers, payer_checks-some}
use Rattle.file_checks.proofs.pattern.first_bad_payer.Goals as goal

pub overflow_cast-result : goal.overflow_cast-result
overflow_cast-result c =
    omega (
      arith,
      few_payers (table_view c.args.tree.now) c.loop-i.i c.requires
          (omega (arith, c.payers-count.ensures.count)) c.loop-i.invariant,
    )

pub returns-then-not-is_good_payer-clause-value : goal.returns-then-not-is_good_payer-clause-value
returns-then-not-is_good_payer-clause-value c =
    let tree = table_view c.args.tree.now in
    first_of_some-at (length (payer_items tree)) c.loop-i.i (is_good_payer tree) (omega arith) c.loop-i.invariant
    (sym c.is_good_payer.ensures ∙ c.if-not-is_good_payer.true)
    ∙ ap first_failed (sym (payer_checks-some tree (length (payer_items tree))))

pub returns-then-not-is_good_payer-clause-small : goal.returns-then-not-is_good_payer-clause-small
returns-then-not-is_good_payer-clause-small c =
    omega (
      arith,
      few_payers (table_view c.args.tree.now) c.loop-i.i c.requires
          (omega (arith, c.payers-count.ensures.count)) c.loop-i.invariant,
    )

pub returns-clause-value : goal.returns-clause-value
returns-clause-value c =
    let tree = table_view c.args.tree.now in
    first_of_some-none (length (payer_items tree)) (is_good_payer tree) (omega arith)
    (λ k below. c.loop-i.invariant k (omega arith))
    ∙ ap first_failed (sym (payer_checks-some tree (length (payer_items tree))))
