use Rattle.std.proofs.Common.{◌≡◌, false, rules, arith}
use Rattle.basis_compare.specs.Bases.{is_named_alike}
use Rattle.basis_compare.proofs.FirstDifferences.{named_otherwise, named_alike}
use Rattle.basis_compare.proofs.differing.differing_names.Goals as goal

pub returns-then-ne : goal.returns-then-ne
returns-then-ne c =
    let other : is_named_alike c.args.a.now.names c.args.b.now.names c.loop-state.state ≡ false = search rules in
    named_otherwise c.args.part c.args.a.now.names c.args.b.now.names c.loop-state.state (omega arith) other
    c.loop-state.invariant

pub returns : goal.returns
returns c =
    named_alike c.args.part c.args.a.now.names c.args.b.now.names c.loop-state.state (omega arith)
    c.loop-state.invariant
