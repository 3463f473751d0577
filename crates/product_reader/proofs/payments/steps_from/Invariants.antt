use Rattle.std.proofs.Common.{◌≡◌, map, take}
use Rattle.toml.specs.View.{view, table_view}
use Rattle.payment_plan.specs.Records.{steps_of}
use Rattle.product_file.specs.PaymentRules.{step_of}
use Rattle.product_reader.proofs.payments.steps_from.Given as goal

abbrev pub invariant-loop-i : goal.invariant-loop-i
invariant-loop-i l =
    steps_of l.steps.items ≡ map (step_of (table_view l.tree)) (take l.i (map view l.values))
