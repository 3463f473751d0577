use Rattle.std.proofs.Common.{subst}
use Rattle.thiele_cli.specs.Fetches.{IsFetched}
use Rattle.thiele_cli.proofs.AuditedClaims.{long_fault}
use Rattle.thiele_cli.proofs.Merges.{answered_shards, long_shards}
use Rattle.thiele_cli.proofs.merging.shards_answer.Goals as goal

pub returns-in_ok-merged_answer-in-Bytes-clause-answer : goal.returns-in_ok-merged_answer-in-Bytes-clause-answer
returns-in_ok-merged_answer-in-Bytes-clause-answer g c =
    let files = g.H.Shelf.files c.args.shelf.now in
    answered_shards files c.args.csv.now c.in-Bytes.text.items c.in_ok-merged_answer-in-Bytes.field-0
    (subst (IsFetched files c.args.csv.now) c.in-Bytes.is c.in_ok-text.ensures.fetched)
    c.in_ok-merged_answer-in-Bytes.ensures.answer

pub returns-in-TooLong-clause-answer : goal.returns-in-TooLong-clause-answer
returns-in-TooLong-clause-answer g c =
    let files = g.H.Shelf.files c.args.shelf.now in
    long_shards files c.args.csv.now c.in-TooLong.seen c.too_long.result c.first_refused.result
    (long_fault files c.args.csv.now c.in-TooLong.seen
    (subst (IsFetched files c.args.csv.now) c.in-TooLong.is c.in_ok-text.ensures.fetched))
    c.too_long.ensures c.first_refused.ensures.refused
