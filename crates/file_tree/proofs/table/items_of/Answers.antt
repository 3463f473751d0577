use Rattle.std.proofs.Common.{map, length, sym, ap, ◌∙◌, unwrap_or}
use Rattle.std.proofs.lemmas.List.{length-map}
use Rattle.toml.specs.Data.{no_items}
use Rattle.toml.specs.View.{view}
use Rattle.product_file.specs.Members.{listed}
use Rattle.file_tree.proofs.TreeViews.{listed-items}
use Rattle.file_tree.proofs.table.items_of.Goals as goal

pub returns-in-Some-clause-items : goal.returns-in-Some-clause-items
returns-in-Some-clause-items c =
    ap (map view) c.deref.ensures.value ∙ sym (listed-items (map view c.in-Some.items.now.items))
    ∙ ap (λ o. listed (unwrap_or o no_items)) c.in-Some.ensures

pub returns-in-Some-clause-count : goal.returns-in-Some-clause-count
returns-in-Some-clause-count c =
    sym (length-map c.deref.result.now view) ∙ ap (λ vs. length (map view vs)) c.deref.ensures.value
    ∙ ap length (sym (listed-items (map view c.in-Some.items.now.items)))
    ∙ ap (λ o. length (listed (unwrap_or o no_items))) c.in-Some.ensures
