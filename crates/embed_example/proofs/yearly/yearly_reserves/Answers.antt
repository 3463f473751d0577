use Rattle.embed_example.proofs.yearly.yearly_reserves.Goals as goal

pub returns : goal.returns
returns c = record {
  product = c.in_ok-admitted.admitted;
  report = c.in_ok-report.report;
  valid = c.in_ok-admitted.ensures;
  right = c.in_ok-report.ensures.report;
  written = c.in_ok-text.ensures;
}
