use Rattle.thiele_backward.proofs.CellSteps.{constant_named}
use Rattle.thiele_backward.proofs.ConstantMonths.{stands_for_month, can_make_month}
use Rattle.thiele_backward.proofs.stretch_maps.map_of_month.Goals as goal

pub make-requires-clause-can : goal.make-requires-clause-can
make-requires-clause-can g c =
    let stands = stands_for_month c.args.which c.args.adm.now c.args.month c.scale.result c.fill.new.out
    c.scale.ensures.value (rw c.product.ensures.product at c.fill.ensures.stands) in
    can_make_month c.args.which c.args.adm.now c.args.month c.product.ensures.admissible c.requires.month
    c.requires.constant c.fill.new.out
    (c.fill.ensures.constant (constant_named c.args.which c.args.adm.now _ c.args.month c.product.ensures.product
    c.requires.constant))
    stands

pub returns-clause-map : goal.returns-clause-map
returns-clause-map g c = record {
  system = c.fill.new.out;
  made = c.in_ok-map.ensures.made;
  stands = stands_for_month c.args.which c.args.adm.now c.args.month c.scale.result c.fill.new.out
      c.scale.ensures.value (rw c.product.ensures.product at c.fill.ensures.stands);
}
