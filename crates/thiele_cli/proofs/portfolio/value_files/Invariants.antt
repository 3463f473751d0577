use Rattle.std.proofs.Common.{◌≡◌, ◌≤◌, length}
use Rattle.portfolio_run.specs.Readings.{files_of}
use Rattle.thiele_cli.specs.PortfolioFiles.{AreValued}
use Rattle.thiele_cli.proofs.portfolio.value_files.Given as goal

abbrev pub invariant-loop-file : goal.invariant-loop-file
invariant-loop-file g l = record {
  holdings : l.policies.holdings ≡ l.fn.policies.holdings;
  count : length l.policies.valued ≡ l.file;
  within : l.file ≤ length (files_of l.fn.policies.holdings);
  valued : AreValued (g.H.Shelf.files l.fn.shelf) l.policies;
  failed : g.H.Shelf.failed l.shelf ≡ g.H.Shelf.failed l.fn.shelf;
  files : g.H.Shelf.files l.shelf ≡ g.H.Shelf.files l.fn.shelf;
}
