use Rattle.std.proofs.Common.{◌≡◌, sym, subst}
use Rattle.std.specs.Prelude.{IfOk}
use Rattle.toml.specs.View.{table_view}
use Rattle.payment_plan.specs.Payments.{IsAllowed}
use Rattle.product_file.specs.Reads.{product_of}
use Rattle.product_reader.proofs.Wholes.{payments_are_good, payments_by_parts}
use Rattle.product_reader.proofs.payments.plan_from.Goals as goal

pub new-requires : goal.new-requires
new-requires c =
    subst IsAllowed (sym (payments_by_parts (table_view c.args.tree.now) _ _ _ _ _ _ c.requires.states c.requires.months
    c.in_ok-sums_from.ensures c.in_ok-sojourns_from.ensures c.in_ok-lumps_from.ensures c.in_ok-pattern_from.ensures))
    (payments_are_good (product_of (table_view c.args.tree.now)) c.requires.well_formed)

pub returns : goal.returns
returns c =
    subst (λ p. IfOk c.new.result (λ plan. plan ≡ p))
    (payments_by_parts (table_view c.args.tree.now) _ _ _ _ _ _ c.requires.states c.requires.months
    c.in_ok-sums_from.ensures c.in_ok-sojourns_from.ensures c.in_ok-lumps_from.ensures c.in_ok-pattern_from.ensures)
    c.new.ensures
