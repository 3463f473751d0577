use Rattle.file_tree.proofs.TreeViews.{item_at-view}
use Rattle.file_tree.proofs.table.item.Goals as goal

pub returns : goal.returns
returns c = item_at-view c.args.items.now c.args.i c.index-items-i.result c.requires c.index-items-i.is
