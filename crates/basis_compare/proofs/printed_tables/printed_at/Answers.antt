use Rattle.std.proofs.Common.{◌≡◌, ◌*◌, ◌/◌, ◌%◌, ◌<◌, ◌≤◌, ◌∙◌, sym, subst, FitsSigned, rules, arith}
use Rattle.std.specs.Int.{w128}
use Rattle.std.proofs.lemmas.Int.{to_z-of_z}
use Rattle.std.proofs.lemmas.List.{get_or_default}
use Rattle.fixed_interval.specs.Printing.{AreSmallEnds}
use Rattle.basis_compare.specs.Differences.{ends_in}
use Rattle.basis_compare.proofs.Listed.{is_place, month_in_term, date_in_months, ends_are_right}
use Rattle.basis_compare.proofs.printed_tables.printed_at.Goals as goal

pub overflow_cast-month : goal.overflow_cast-month
overflow_cast-month c =
    let t = c.args.t.now in
    let at = is_place c.args.adm.now t.every t c.args.place c.requires.table c.requires.place in
    let head = c.product-product.ensures.admissible.well_formed.head in
    let early : c.args.place / t.states ≤ c.args.adm.now.months =
    date_in_months c.args.adm.now t.every t c.args.place c.requires.every at in
    let few = head.at_most_a_century in
    omega (arith, early, few)

pub overflow_mul-month : goal.overflow_mul-month
overflow_mul-month c =
    let t = c.args.t.now in
    let at = is_place c.args.adm.now t.every t c.args.place c.requires.table c.requires.place in
    let head = c.product-product.ensures.admissible.well_formed.head in
    let early : c.args.place / t.states * t.every ≤ c.args.adm.now.months =
    month_in_term c.args.adm.now t.every t c.args.place at in
    let few = head.at_most_a_century in
    omega (arith, early, few)

pub overflow_cast-result : goal.overflow_cast-result
overflow_cast-result c =
    let t = c.args.t.now in
    let at = is_place c.args.adm.now t.every t c.args.place c.requires.table c.requires.place in
    let names = c.product-product.ensures.admissible.well_formed.names in
    let known : c.args.place % t.states < t.states = at.state in
    let few = names.at_most_twelve in
    omega (arith, known, few, c.requires.table.states_is)

pub returns-clause-small : goal.returns-clause-small
returns-clause-small c =
    let t = c.args.t.now in
    let found = ends_are_right c.args.adm.now t.every t c.args.place c.requires.table c.requires.place in
    let same : ends_in c.args.t.now c.args.place ≡ c.index-ends.result.now =
    get_or_default c.args.t.now.cells.items c.args.place _ c.index-ends.result.now c.requires.place
    ∙ sym c.index-ends.ensures in
    let small : AreSmallEnds c.index-ends.result.now = subst AreSmallEnds same found.small in
    let lo_fits : FitsSigned w128 c.index-ends.result.now.lo = search rules in
    let hi_fits : FitsSigned w128 c.index-ends.result.now.hi = search rules in
    record {
      lo = rw (to_z-of_z w128 c.index-ends.result.now.lo lo_fits) small.lo;
      hi = rw (to_z-of_z w128 c.index-ends.result.now.hi hi_fits) small.hi;
      tol = c.tolerance_first.ensures.size;
    }
