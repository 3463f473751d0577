use Rattle.std.proofs.Common.{ap, sym, ◌∙◌}
use Rattle.curve_pieces.proofs.ItemStarts.{start-at}
use Rattle.curve_pieces.proofs.search.start_at.Goals as goal

pub returns : goal.returns
returns g c =
    c.start.ensures
    ∙ ap (λ item. (g.T.Starts.as_piece item).from) c.index-items-i.is
    ∙ sym (start-at g.T.Starts.as_piece c.args.items.now c.args.i c.index-items-i.result c.requires)
