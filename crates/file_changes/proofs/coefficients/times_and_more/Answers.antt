use Rattle.std.proofs.Common.{◌≡◌, ℤ, ◌+ℤ◌, ◌*ℤ◌, ap, ◌∙◌, arith, rules, subst, FitsSigned}
use Rattle.std.specs.Prelude.{SomeIff}
use Rattle.std.specs.Int.{w64, w128}
use Rattle.std.proofs.lemmas.Int.{to_z-of_z}
use Rattle.std.proofs.lemmas.Grind.{common_steps}
use Rattle.file_changes.proofs.Words.{product_is_too_large, sum_is_too_large}
use Rattle.file_changes.proofs.coefficients.times_and_more.Goals as goal

pub returns-in_err-product : goal.returns-in_err-product
returns-in_err-product c =
    let factor : FitsSigned w128 c.args.factor = c.ranges.factor in
    let number : FitsSigned w128 c.from-2.result = search rules in
    let number_is = c.from-2.ensures ∙ to_z-of_z w64 c.args.c c.ranges.c in
    let wide = simp to_z-of_z at c.in_err-product.ensures in
    rw c.from_residual-in_err-product.ensures
    (product_is_too_large c.args.factor c.args.c c.args.units c.args.den c.requires c.ranges.c
    (subst (λ (x : ℤ). ¬ FitsSigned w128 (c.args.factor *ℤ x)) number_is wide))

pub returns-in_err-sum : goal.returns-in_err-sum
returns-in_err-sum c =
    let factor : FitsSigned w128 c.args.factor = c.ranges.factor in
    let units : FitsSigned w128 c.args.units = c.ranges.units in
    let number : FitsSigned w128 c.from-2.result = search rules in
    let number_is = c.from-2.ensures ∙ to_z-of_z w64 c.args.c c.ranges.c in
    let den : FitsSigned w128 c.from.result = search rules in
    let den_is = c.from.ensures ∙ to_z-of_z w64 c.args.den c.ranges.den in
    let product : FitsSigned w128 c.in_ok-product.product = search rules in
    let more : FitsSigned w128 c.in_ok-more.more = search rules in
    let wide = simp to_z-of_z at c.in_err-sum.ensures in
    let product_is = simp to_z-of_z at c.in_ok-product.ensures.1 in
    let more_is = simp to_z-of_z at c.in_ok-more.ensures.1 in
    let sum_is : c.in_ok-product.product +ℤ c.in_ok-more.more ≡ c.args.factor *ℤ c.args.c +ℤ c.args.units *ℤ c.args.den
    =
    ap (λ p. p +ℤ c.in_ok-more.more) (product_is ∙ ap (λ x. c.args.factor *ℤ x) number_is)
    ∙ ap (λ m. c.args.factor *ℤ c.args.c +ℤ m) (more_is ∙ ap (λ x. c.args.units *ℤ x) den_is) in
    rw c.from_residual-in_err-sum.ensures
    (sum_is_too_large _ (subst (λ (x : ℤ). ¬ FitsSigned w128 x) sum_is wide))

pub returns : goal.returns
returns c =
    let factor : FitsSigned w128 c.args.factor = c.ranges.factor in
    let units : FitsSigned w128 c.args.units = c.ranges.units in
    let number : FitsSigned w128 c.from-2.result = search rules in
    let number_is = c.from-2.ensures ∙ to_z-of_z w64 c.args.c c.ranges.c in
    let den : FitsSigned w128 c.from.result = search rules in
    let den_is = c.from.ensures ∙ to_z-of_z w64 c.args.den c.ranges.den in
    let product : FitsSigned w128 c.in_ok-product.product = search rules in
    let more : FitsSigned w128 c.in_ok-more.more = search rules in
    let sum : FitsSigned w128 c.in_ok-sum.sum = search rules in
    let product_is = simp to_z-of_z at c.in_ok-product.ensures.1 in
    let more_is = simp to_z-of_z at c.in_ok-more.ensures.1 in
    let sum_is = simp to_z-of_z at c.in_ok-sum.ensures.1
    ∙ ap (λ p. p +ℤ c.in_ok-more.more) (product_is ∙ ap (λ x. c.args.factor *ℤ x) number_is)
    ∙ ap (λ m. c.args.factor *ℤ c.args.c +ℤ m) (more_is ∙ ap (λ x. c.args.units *ℤ x) den_is) in
    let narrow : SomeIff c.ok.result (FitsSigned w64 c.in_ok-sum.sum) c.in_ok-sum.sum =
    grind (arith, common_steps, to_z-of_z) in
    subst (λ (z : ℤ). SomeIff c.ok.result (FitsSigned w64 z) z) sum_is narrow
