use Rattle.std.proofs.Common.{refl}
use Rattle.toml.specs.View.{table_view}
use Rattle.product_file.specs.Reads.{broken_in_tree, product_of}
use Rattle.product_reader.proofs.ReadAnswers.{reads_product, reads_break, unbroken_of, broken_of}
use Rattle.product_reader.proofs.read.read_tree.Goals as goal

pub product_from-requires : goal.product_from-requires
product_from-requires c =
    let tree = table_view c.args.tree.now in
    c.read_products_are_well_formed.ensures tree (product_of tree)
    (reads_product tree (product_of tree)
    (unbroken_of (broken_in_tree tree) c.in-Ok-None.field-0 c.in-Ok-None.ensures.first c.in-Ok-None.field-0-is) refl)

pub returns-in-Ok-Some : goal.returns-in-Ok-Some
returns-in-Ok-Some c =
    reads_break (table_view c.args.tree.now) _
    (broken_of (broken_in_tree (table_view c.args.tree.now)) c.in-Ok-Some.field-0 c.in-Ok-Some.found
    c.in-Ok-Some.ensures.first
    c.in-Ok-Some.field-0-is)

pub returns-in-Ok : goal.returns-in-Ok
returns-in-Ok c =
    reads_product (table_view c.args.tree.now) c.in-Ok.product
    (unbroken_of (broken_in_tree (table_view c.args.tree.now)) c.in-Ok-None.field-0 c.in-Ok-None.ensures.first
    c.in-Ok-None.field-0-is)
    c.in-Ok.ensures
