use Rattle.std.proofs.Common.{map, ℤ, pos, unwrap_or, FitsSigned, false, sym, ap, ◌∙◌, rules}
use Rattle.std.specs.Int.{w64}
use Rattle.std.proofs.Math.ListN.{get_or-map}
use Rattle.std.proofs.lemmas.Int.{to_z-of_z}
use Rattle.toml.specs.Data.{Data, boolean, as_integer}
use Rattle.toml.specs.View.{view}
use Rattle.file_tree.proofs.within.coefficient_at.Goals as goal

pub returns-then-i-values : goal.returns-then-i-values
returns-then-i-values c =
    let whole : Data → ℤ = λ d. unwrap_or (as_integer d) (pos 0) in
    let fits : FitsSigned w64 c.unwrap_or.result = search rules in
    simp to_z-of_z
    (c.unwrap_or.ensures ∙ ap (λ o. unwrap_or o (pos 0)) c.as_integer.ensures ∙ ap whole c.item.ensures
    ∙ sym (get_or-map whole (map view c.args.values.now) c.args.i (boolean false)))
