use Rattle.std.proofs.Common.{◌≡◌, ap, ◌∙◌, arith}
use Rattle.toml.specs.Data.{array}
use Rattle.toml.specs.View.{view, items_of}
use Rattle.whole_laws.specs.Whole.{list_of}
use Rattle.workload_gen.specs.Tree.{lump, lumps}
use Rattle.workload_gen.proofs.TableViews.{one_place_more}
use Rattle.workload_gen.proofs.generate.lumps.Goals as goal

pub loop-month-preserved : goal.loop-month-preserved
loop-month-preserved c = rw c.in_ok-push.ensures.items (one_place_more view (lump c.args.amount) c.loop-month.month
    c.loop-month.items.items _ c.loop-month.invariant c.in_ok-lump.ensures)

pub returns : goal.returns
unfolding lumps
returns c =
    let all : c.loop-month.month ≡ 780 = omega arith in
    c.from.ensures ∙ ap (λ ds. array (items_of ds)) (c.loop-month.invariant
    ∙ ap (λ n. list_of n (lump c.args.amount)) all)
