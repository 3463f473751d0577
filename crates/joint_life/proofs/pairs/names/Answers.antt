use Rattle.std.proofs.Common.{[], ◌∷◌, ◌++◌, ◌/◌, ◌%◌, sym, ap, ◌∙◌}
use Rattle.std.specs.Prelude.{Vec}
use Rattle.std.specs.declared.alloc.Global.{Global}
use Rattle.std.proofs.lemmas.List.{map-append}
use Rattle.whole_laws.specs.Whole.{list_of}
use Rattle.whole_laws.proofs.ListsByPlace.{list_of-next}
use Rattle.state_graph.specs.StateGraphs.{texts_of}
use Rattle.joint_life.specs.JointRecord.{pair_name}
use Rattle.joint_life.proofs.pairs.names.Goals as goal

pub loop-pair-preserved : goal.loop-pair-preserved
loop-pair-preserved c =
    let seconds = c.args.seconds in
    let pair = c.loop-pair.pair in
    let name = pair_name (pair / seconds) (pair % seconds) in
    ap texts_of c.in_ok-push.ensures.items
    ∙ map-append (λ (text : Vec _ Global). text.items) c.loop-pair.names.items (c.in_ok-pair_name.field-0 ∷ [])
    ∙ ap (λ texts. texts ++ c.in_ok-pair_name.field-0.items ∷ []) c.loop-pair.invariant
    ∙ ap (λ text. list_of pair (λ k. pair_name (k / seconds) (k % seconds)) ++ text ∷ []) c.in_ok-pair_name.ensures
    ∙ sym (list_of-next pair (λ k. pair_name (k / seconds) (k % seconds)))
