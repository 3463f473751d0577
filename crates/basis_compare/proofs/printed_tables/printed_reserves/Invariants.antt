use Rattle.std.proofs.Common.{◌≡◌}
use Rattle.std.specs.Prelude.{All}
use Rattle.whole_laws.specs.Whole.{list_of}
use Rattle.basis_compare.specs.Differences.{IsSmall, printed_at}
use Rattle.basis_compare.proofs.printed_tables.printed_reserves.Given as goal

abbrev pub invariant-loop-place : goal.invariant-loop-place
invariant-loop-place l = record {
  values : l.reserves.items ≡ list_of l.place (printed_at l.adm l.t);
  small : All IsSmall l.reserves.items;
}
