use Rattle.std.proofs.Common.{refl, sym, subst, ◌∙◌}
use Rattle.thiele_backward.specs.Results.{AreReserves}
use Rattle.portfolio_run.proofs.valued.ValuedFile.value.Goals as goal

pub returns-clause-valued : goal.returns-clause-valued
returns-clause-valued g c = record {
  table = c.in_ok-table.table;
  reserves = subst (λ product. AreReserves product 1 c.in_ok-table.table)
      (sym (c.of.ensures ∙ c.product-product.ensures.product)) c.in_ok-table.ensures.reserves;
  degree_is = refl;
}
