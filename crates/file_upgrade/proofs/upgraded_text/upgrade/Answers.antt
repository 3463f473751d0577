use Rattle.std.proofs.Common.{◌≡◌, ◌≤◌, Some, ap, ◌∙◌}
use Rattle.std.proofs.lemmas.Str.{IsUtf8-string_bytes}
use Rattle.toml.specs.Data.{members_depth}
use Rattle.toml.specs.View.{table_view}
use Rattle.product_file.specs.Verdict.{ReadsAs}
use Rattle.file_upgrade.specs.FileTree.{file_tree}
use Rattle.file_upgrade.proofs.Depths.{file_tree_depth}
use Rattle.file_upgrade.proofs.ReadTrees.{file_trees_read}
use Rattle.file_upgrade.proofs.Trees.{is_tree_of}
use Rattle.file_upgrade.proofs.upgraded_text.upgrade.Goals as goal

pub returns-in-Ok : goal.returns-in-Ok
returns-in-Ok c =
    let p = c.args.adm.now in
    let tree_is : table_view c.in_ok-file_tree.field-0 ≡ file_tree p =
    c.in_ok-file_tree.ensures ∙ ap file_tree c.product-product.ensures.product in
    let shallow : members_depth (table_view c.in_ok-file_tree.field-0) ≤ 80 = rw tree_is (file_tree_depth p) in
    let reads : ReadsAs c.into_bytes.result.items (file_tree p) =
    rw c.into_bytes.ensures.value (record {
      text = IsUtf8-string_bytes c.in-Ok.text;
      document = c.in-Ok.ensures.reads_back shallow ∙ ap Some tree_is;
    }) in
    let admissible = c.product-product.ensures.admissible in
    record {
      verdict = record {
        reads = record {
          tree = file_tree p;
          reads_as = reads;
          gives = file_trees_read p admissible.well_formed;
        };
        valued = admissible.valuation;
      };
      format = record { tree = file_tree p; reads_as = reads; format = (is_tree_of p).format_at };
    }
