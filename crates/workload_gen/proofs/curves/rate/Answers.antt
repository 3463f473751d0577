use Rattle.std.proofs.Common.{◌≡◌, ◌+◌, ◌*◌, map, refl, ap, ◌∙◌, arith}
use Rattle.toml.specs.Data.{array}
use Rattle.toml.specs.View.{view, items_of}
use Rattle.whole_laws.specs.Whole.{list_of}
use Rattle.workload_gen.specs.Draws.{state_after}
use Rattle.workload_gen.specs.Tree.{piece, coefficients, rate, year_piece}
use Rattle.workload_gen.proofs.DrawSteps.{state_after-more}
use Rattle.workload_gen.proofs.TableViews.{one_place_more}
use Rattle.workload_gen.proofs.curves.rate.Goals as goal

pub loop-year-init : goal.loop-year-init
unfolding state_after
loop-year-init c = record { pieces = ap (map view) c.new-pieces.ensures.items; state = refl }

pub loop-year-preserved : goal.loop-year-preserved
loop-year-preserved c =
    let x = c.args.draws.now.state in
    let year = c.loop-year.year in
    let t = c.args.transition in
    let more : 4 * c.loop-year.year + 4 ≡ 4 * (c.loop-year.year + 1) = omega arith in
    record {
      pieces = rw c.in_ok-push.ensures.items (one_place_more view (year_piece t x) year c.loop-year.pieces.items _
          c.loop-year.invariant.pieces (c.in_ok-piece.ensures ∙ ap (piece (12 * year))
          (c.coefficients-c.ensures.drawn ∙ ap (coefficients t year) c.loop-year.invariant.state)));
      state = c.coefficients-c.ensures.state ∙ ap (λ s. state_after s 4) c.loop-year.invariant.state
          ∙ state_after-more x (4 * year) 4 ∙ ap (state_after x) more;
    }

pub returns-clause-pieces : goal.returns-clause-pieces
unfolding rate
returns-clause-pieces c =
    let all : c.loop-year.year ≡ 65 = omega arith in
    c.from.ensures ∙ ap (λ ds. array (items_of ds)) (c.loop-year.invariant.pieces
    ∙ ap (λ n. list_of n (year_piece c.args.transition c.args.draws.now.state)) all)
