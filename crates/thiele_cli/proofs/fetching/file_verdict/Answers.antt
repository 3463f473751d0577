use Rattle.thiele_cli.proofs.Answered.{verdict_of_file}
use Rattle.thiele_cli.specs.Fetches.{IsFetched}
use Rattle.std.proofs.Common.{subst}
use Rattle.thiele_cli.proofs.fetching.file_verdict.Goals as goal

pub returns-in_ok-verdict_on-in-Bytes-clause-verdict : goal.returns-in_ok-verdict_on-in-Bytes-clause-verdict
returns-in_ok-verdict_on-in-Bytes-clause-verdict g c =
    let files = g.H.Shelf.files c.args.shelf.now in
    verdict_of_file files c.args.name.now c.in-Bytes.bytes.items c.in_ok-verdict_on-in-Bytes.field-0
    (subst (IsFetched files c.args.name.now) c.in-Bytes.is c.in_ok-bytes.ensures.fetched)
    c.in_ok-verdict_on-in-Bytes.ensures
