use Rattle.std.proofs.Common.{map, arith}
use Rattle.std.proofs.lemmas.List.{length-map}
use Rattle.csv.specs.Records.{fields_of}
use Rattle.portfolio_run.proofs.RecordCounts.{records_are_few}
use Rattle.portfolio_run.proofs.reading.read_policies.Goals as goal

pub policies_of-requires : goal.policies_of-requires
policies_of-requires c =
    let few = records_are_few c.args.csv.now (map fields_of c.in-Ok.records.items) c.in-Ok.ensures in
    let count = length-map c.in-Ok.records.items fields_of in
    record { few = rw c.deref.ensures.value (omega (arith, few, count, c.requires.most)) }
