use Rattle.std.proofs.Common.{ap, ◌∙◌, FitsSigned, rules}
use Rattle.std.specs.Prelude.{unsigned_abs}
use Rattle.std.specs.Int.{w128}
use Rattle.std.proofs.lemmas.Int.{to_z-of_z}
use Rattle.rate_bounds.specs.Growths.{nu_of}
use Rattle.rate_bounds.proofs.SmallGrowth.{part_below_zero}
use Rattle.rate_bounds.proofs.growth.nu.Goals as goal

pub returns : goal.returns
unfolding nu_of
returns c =
    let fits : FitsSigned w128 c.args.curves.low = search rules in
    let wide : FitsSigned w128 c.min.result = search rules in
    let least = simp to_z-of_z at c.min.ensures.value in
    let size = simp to_z-of_z at c.unsigned_abs.ensures.value in
    size ∙ ap unsigned_abs least ∙ part_below_zero c.args.curves.low
