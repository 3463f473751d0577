use Rattle.std.proofs.Common.{◌≡◌, sym, subst, ◌∙◌, length, rules}
use Rattle.std.proofs.lemmas.List.{with_items_is}
use Rattle.fixed_interval.specs.Tables.{IsAnsweredDegree}
use Rattle.moment_equations.specs.declared.ends.Moment.TheVariants.{First, Second, Variance}
use Rattle.moment_equations.specs.Dates.{HasDatesFrom}
use Rattle.moment_equations.proofs.WrittenDates.{table_for}
use Rattle.moment_equations.proofs.valuation.moments.Goals as goal

pub returns-clause-moments : goal.returns-clause-moments
returns-clause-moments g c =
    let states : c.states-states.result ≡ length c.args.adm.now.states = search rules in
    let answered : IsAnsweredDegree c.sweep-degree.result = record {
      least = c.sweep-degree.ensures.least;
      highest = c.sweep-degree.ensures.highest;
    } in
    let first_is : c.table.result.cells.items ≡ c.sweep-degree.new.first =
    c.table.ensures.cells ∙ with_items_is c.in_ok-first.first c.sweep-degree.new.first
    (c.sweep-degree.auto.first ∙ c.deref_mut-2.ensures.len) in
    let second_is : c.table-2.result.cells.items ≡ c.sweep-degree.new.second =
    c.table-2.ensures.cells ∙ with_items_is c.in_ok-second.second c.sweep-degree.new.second
    (c.sweep-degree.auto.second ∙ c.deref_mut-3.ensures.len) in
    let variance_is : c.table-3.result.cells.items ≡ c.sweep-degree.new.variance =
    c.table-3.ensures.cells ∙ with_items_is c.in_ok-variance.variance c.sweep-degree.new.variance
    (c.sweep-degree.auto.variance ∙ c.deref_mut-4.ensures.len) in
    record {
      first = table_for First c.args.adm.now c.args.every c.sweep-degree.result c.table.result answered
          c.table.ensures.degree c.table.ensures.every (c.table.ensures.states ∙ states)
          (subst (λ cells. HasDatesFrom First c.args.adm.now c.args.every 0 c.sweep-degree.result cells)
          (sym first_is) c.sweep-degree.ensures.dates.firsts);
      second = table_for Second c.args.adm.now c.args.every c.sweep-degree.result c.table-2.result answered
          c.table-2.ensures.degree c.table-2.ensures.every (c.table-2.ensures.states ∙ states)
          (subst (λ cells. HasDatesFrom Second c.args.adm.now c.args.every 0 c.sweep-degree.result cells)
          (sym second_is) c.sweep-degree.ensures.dates.seconds);
      variance = table_for Variance c.args.adm.now c.args.every c.sweep-degree.result c.table-3.result answered
          c.table-3.ensures.degree c.table-3.ensures.every (c.table-3.ensures.states ∙ states)
          (subst (λ cells. HasDatesFrom Variance c.args.adm.now c.args.every 0 c.sweep-degree.result cells)
          (sym variance_is) c.sweep-degree.ensures.dates.variances);
      second_degree = c.table-2.ensures.degree ∙ sym c.table.ensures.degree;
      variance_degree = c.table-3.ensures.degree ∙ sym c.table.ensures.degree;
    }
