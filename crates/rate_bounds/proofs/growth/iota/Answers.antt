use Rattle.std.proofs.Common.{FitsSigned, rules, ◌∙◌, ap₂, max}
use Rattle.std.specs.Int.{w128}
use Rattle.std.proofs.lemmas.Int.{to_z-of_z}
use Rattle.rate_bounds.specs.Growths.{iota_of}
use Rattle.rate_bounds.proofs.growth.iota.Goals as goal

pub returns : goal.returns
unfolding iota_of
returns c =
    let fits_high : FitsSigned w128 c.args.curves.high = search rules in
    let fits_low : FitsSigned w128 c.args.curves.low = search rules in
    c.max.ensures
    ∙ ap₂ max (simp to_z-of_z at c.unsigned_abs.ensures.value) (simp to_z-of_z at c.unsigned_abs-2.ensures.value)
