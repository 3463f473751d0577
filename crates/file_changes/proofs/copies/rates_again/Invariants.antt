use Rattle.std.proofs.Common.{◌≡◌, map, take}
use Rattle.product_model.specs.Views.{curve_of}
use Rattle.file_changes.proofs.copies.rates_again.Given as goal

abbrev pub invariant-loop-transition : goal.invariant-loop-transition
invariant-loop-transition l =
    l.rates.items ≡ map (λ t. curve_of l.product t.rate) (take l.transition l.product.transitions)
