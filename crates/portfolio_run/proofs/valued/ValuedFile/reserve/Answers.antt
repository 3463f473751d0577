use Rattle.std.proofs.Common.{◌≡◌, ◌≤◌, ◌<◌, ◌∙◌, length, ap, subst, arith, rules, FitsSigned}
use Rattle.std.specs.Int.{w128}
use Rattle.std.proofs.lemmas.Int.{to_z-of_z}
use Rattle.state_graph.specs.StateGraphs.{texts_of}
use Rattle.portfolio_run.specs.declared.valued.Reserve.{Reserve}
use Rattle.portfolio_run.specs.Names.{place_in}
use Rattle.portfolio_run.specs.Values.{IsReserve}
use Rattle.portfolio_run.proofs.KeptTables.{cell_is_there, kept_reserve, tolerance_is_there}
use Rattle.portfolio_run.proofs.valued.ValuedFile.reserve.Goals as goal

pub overflow_add-month : goal.overflow_add-month
overflow_add-month c =
    let file = c.self.inside in
    let early : c.args.month ≤ c.self.inside.months = omega arith in
    let there : c.place_in-place.result < length c.self.inside.states.items = grind arith in
    let inside = cell_is_there file.product.value file.months file.states.items file.table file.tolerances.items
    c.args.month c.place_in-place.result c.self.invariant early there in
    grind (arith, inside)

pub index-ends-requires : goal.index-ends-requires
index-ends-requires c =
    let file = c.self.inside in
    let early : c.args.month ≤ c.self.inside.months = omega arith in
    let there : c.place_in-place.result < length c.self.inside.states.items = grind arith in
    rw c.self.inside.table.cells.ok.0
    (cell_is_there file.product.value file.months file.states.items file.table file.tolerances.items
    c.args.month c.place_in-place.result c.self.invariant early there)

pub index-tol-requires : goal.index-tol-requires
index-tol-requires c =
    let file = c.self.inside in
    let early : c.args.month ≤ c.self.inside.months = omega arith in
    rw c.self.inside.tolerances.ok.0
    (tolerance_is_there file.product.value file.months file.states.items file.table file.tolerances.items c.args.month
    c.self.invariant early)

pub returns-clause-ok : goal.returns-clause-ok
returns-clause-ok c =
    let file = c.self.inside in
    let early : c.args.month ≤ c.self.inside.months = omega arith in
    let there : c.place_in-place.result < length c.self.inside.states.items = grind arith in
    let place : c.place_in-place.result ≡ place_in (texts_of c.self.inside.states.items) c.args.state.now =
    c.place_in-place.ensures.value ∙ ap (λ names. place_in (texts_of names) c.args.state.now) c.deref.ensures.value in
    let lo_fits : FitsSigned w128 c.index-ends.result.now.lo = search rules in
    let hi_fits : FitsSigned w128 c.index-ends.result.now.hi = search rules in
    let kept = kept_reserve file.product.value file.months file.states.items file.table file.tolerances.items
    c.args.month c.place_in-place.result c.args.state.now c.index-ends.result.now c.index-tol.result.now
    c.self.invariant early place there c.index-ends.ensures c.index-tol.ensures in
    let reserve : Reserve = record {
      lo = c.index-ends.result.now.lo;
      hi = c.index-ends.result.now.hi;
      tol = c.index-tol.result.now;
    } in
    let at_self = subst (λ valued. IsReserve valued c.args.month c.args.state.now reserve) c.self.view_is kept in
    simp to_z-of_z at_self
