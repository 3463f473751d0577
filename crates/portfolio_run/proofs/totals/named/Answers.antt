use Rattle.std.proofs.Common.{◌≡◌, ◌<◌, ◌+◌, ◌∷◌, ◌++◌, [], length, take, refl, sym, ap, subst, ◌∙◌, arith, rules}
use Rattle.std.proofs.Common.{FitsSigned}
use Rattle.std.specs.Int.{w128}
use Rattle.std.proofs.lemmas.Int.{to_z-of_z}
use Rattle.std.proofs.lemmas.List.{length_push, length-map}
use Rattle.state_graph.specs.StateGraphs.{texts_of}
use Rattle.portfolio_run.specs.declared.totals.Total.{Total}
use Rattle.portfolio_run.specs.Named.{AreNamed}
use Rattle.portfolio_run.specs.Stored.{name_at}
use Rattle.portfolio_run.specs.Sums.{sum_at}
use Rattle.portfolio_run.proofs.NamedSums.{named_more}
use Rattle.portfolio_run.proofs.NotedNames.{text_at}
use Rattle.portfolio_run.proofs.totals.named.Goals as goal

pub loop-i-preserved : goal.loop-i-preserved
loop-i-preserved c =
    let within : c.loop-i.i < length c.args.names.now = omega arith in
    let lo_fits : FitsSigned w128 (sum_at c.args.sums.now c.loop-i.i).lo = search rules in
    let hi_fits : FitsSigned w128 (sum_at c.args.sums.now c.loop-i.i).hi = search rules in
    let total : Total = record {
      name = c.in_ok-to_vec.field-0;
      lo = (sum_at c.args.sums.now c.loop-i.i).lo;
      hi = (sum_at c.args.sums.now c.loop-i.i).hi;
      tol = (sum_at c.args.sums.now c.loop-i.i).tol;
    } in
    let items : c.push.new.self.items ≡ c.loop-i.totals.items ++ total ∷ [] =
    simp to_z-of_z at c.in_ok-push.ensures.items in
    let name : c.in_ok-to_vec.field-0.items ≡ name_at (texts_of c.args.names.now) c.loop-i.i =
    c.in_ok-to_vec.ensures.items_if_clones_equal (λ x y same. same) ∙ c.as_slice.ensures.value
    ∙ sym (text_at (λ n. n.items) c.args.names.now c.loop-i.i c.index-names-i.result within c.index-names-i.is) in
    let longer : length c.push.new.self.items ≡ length c.loop-i.totals.items + 1 =
    ap length items ∙ length_push c.loop-i.totals.items total in
    record {
      count = omega (arith, longer, c.loop-i.invariant.count);
      named = subst (AreNamed (take (c.loop-i.i + 1) (texts_of c.args.names.now)) c.args.sums.now) (sym items)
          (named_more (texts_of c.args.names.now) c.args.sums.now c.loop-i.totals.items c.loop-i.i total
          c.loop-i.invariant.count (rw (length-map c.args.names.now (λ n. n.items)) within) c.loop-i.invariant.named
          name (record { lo_is = refl; hi_is = refl; tol_is = refl }));
    }
