use Rattle.std.proofs.Common.{ap, sym, subst, ◌∙◌}
use Rattle.std.specs.Prelude.{IsUtf8, slice_index_or, []}
use Rattle.state_graph.specs.StateGraphs.{StateGraph}
use Rattle.file_upgrade.specs.FileTree.{state_name}
use Rattle.file_upgrade.proofs.GoodNames.{name_is_text}
use Rattle.file_upgrade.proofs.head.state.Goals as goal

pub text-requires : goal.text-requires
text-requires c =
    let p = c.args.product.now in
    subst IsUtf8 (sym (c.name.ensures ∙ ap (λ (graph : StateGraph). slice_index_or graph.names c.args.state [])
    c.graph.ensures.graph))
    (name_is_text 24 (state_name p c.args.state) (c.graph.ensures.lawful.names.states c.args.state [] c.requires))
