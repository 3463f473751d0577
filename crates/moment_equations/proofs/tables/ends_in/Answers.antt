use Rattle.std.proofs.Common.{◌≡◌, ◌+◌, ◌^◌, ◌≤◌, pos, arith, FitsSigned, rules, length, slice_index_or}
use Rattle.std.specs.Prelude.{unsigned_abs}
use Rattle.std.specs.Int.{w128}
use Rattle.std.proofs.lemmas.Int.{to_z-of_z}
use Rattle.moment_equations.proofs.DateNumbers.{first_most, second_most, ends_given}
use Rattle.moment_equations.proofs.tables.ends_in.Goals as goal

pub ends_of-requires-clause-first : goal.ends_of-requires-clause-first
ends_of-requires-clause-first c =
    let most = first_most c.args.kind c.args.adm.now c.args.date c.args.state c.args.mid.now
    c.product.ensures.admissible c.requires.date c.requires.state c.requires.mid c.requires.near in
    let fits : FitsSigned w128 (slice_index_or c.args.mid.now c.args.state (pos 0)) = search rules in
    simp to_z-of_z (rw c.radius.ensures.value most)

pub ends_of-requires-clause-second : goal.ends_of-requires-clause-second
ends_of-requires-clause-second c =
    let most = second_most c.args.kind c.args.adm.now c.args.date c.args.state c.args.mid.now
    c.product.ensures.admissible c.requires.date c.requires.state c.requires.mid c.requires.near in
    let states : c.states-states.result ≡ length c.args.adm.now.states = search rules in
    let fits : FitsSigned w128 (slice_index_or c.args.mid.now (c.states-states.result + c.args.state) (pos 0)) =
    search rules in
    let small : unsigned_abs (slice_index_or c.args.mid.now (length c.args.adm.now.states + c.args.state) (pos 0))
    ≤ 2 ^ 65 = omega (arith, most, c.radius_second.ensures.value, c.radius_second.ensures.most) in
    simp to_z-of_z (rw states small)

pub returns : goal.returns
returns c degree least near =
    let states : c.states-states.result ≡ length c.args.adm.now.states = search rules in
    let first_fits : FitsSigned w128 (slice_index_or c.args.mid.now c.args.state (pos 0)) = search rules in
    let second_fits : FitsSigned w128 (slice_index_or c.args.mid.now (c.states-states.result + c.args.state) (pos 0)) =
    search rules in
    ends_given c.args.kind c.args.adm.now c.args.date c.args.state c.args.mid.now c.product.ensures.admissible
    c.requires.date c.requires.state c.requires.mid degree c.ends_of.result least near c.states-states.result
    c.radius.result c.radius_second.result c.scale.result states c.radius.ensures.value c.radius_second.ensures.value
    c.scale.ensures.value c.ends_of.ensures.ordered c.ends_of.ensures.narrow c.ends_of.ensures.small
    (simp to_z-of_z at c.ends_of.ensures.holds)
