use Rattle.std.proofs.Common.{◌≡◌, sym, subst, ap, ◌∙◌, arith}
use Rattle.std.specs.Prelude.{All, flat_map}
use Rattle.whole_laws.specs.Whole.{places}
use Rattle.joint_life.specs.JointRecord.{pair_count}
use Rattle.joint_life.specs.Moves.{IsMove, moves_from}
use Rattle.joint_life.proofs.MoveLists.{pair_more, moves_are}
use Rattle.joint_life.proofs.moves.moves_of.Goals as goal

pub loop-pair-preserved : goal.loop-pair-preserved
loop-pair-preserved c = c.in_ok-push_moves.ensures ∙ pair_more c.args.a.now c.args.b.now c.loop-pair.pair _
    c.loop-pair.invariant

pub returns-clause-are_moves : goal.returns-clause-are_moves
returns-clause-are_moves c =
    let a = c.args.a.now in
    let b = c.args.b.now in
    let all : c.loop-pair.pair ≡ pair_count a b = omega (arith, c.requires) in
    subst (All (IsMove a b)) (sym (c.loop-pair.invariant ∙ ap (λ n. flat_map (moves_from a b) (places n)) all))
    (moves_are a b)
