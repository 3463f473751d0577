use Rattle.std.proofs.Common.{◌≡◌, ◌≤◌, ◌^◌}
use Rattle.std.specs.Prelude.{All}
use Rattle.whole_laws.specs.Whole.{list_of}
use Rattle.claim_audit.specs.Audits.{tolerance_at}
use Rattle.portfolio_run.proofs.valued.tolerances_of.Given as goal

abbrev pub invariant-loop-month : goal.invariant-loop-month
invariant-loop-month l = record {
  values : l.all.items ≡ list_of l.month (tolerance_at l.adm);
  small : All (λ tolerance. tolerance ≤ 2 ^ 58) l.all.items;
}
