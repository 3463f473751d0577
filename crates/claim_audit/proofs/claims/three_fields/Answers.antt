use Rattle.std.proofs.Common.{◌≡◌, length, arith}
use Rattle.csv.specs.Records.{fields_of}
use Rattle.claim_audit.proofs.ThreeFields.{three_are, first_is_there, second_is_there, third_is_there}
use Rattle.claim_audit.proofs.claims.three_fields.Goals as goal
use Rattle.claim_audit.proofs.claims.three_fields.Goals.{in_default-via-in-Some+in-Some+in_default}
use Rattle.claim_audit.proofs.claims.three_fields.Goals.{in_default-via-in-Some+in_default, in_default-via-in_default}

pub returns-in-Some-Some-Some-clause-some : goal.returns-in-Some-Some-Some-clause-some
returns-in-Some-Some-Some-clause-some c =
    let count : length (fields_of c.args.row.now) ≡ 3 = grind arith in
    three_are (fields_of c.args.row.now) c.in-Some-Some-Some.first.now c.in-Some-Some-Some.second.now
    c.in-Some-Some-Some.third.now count c.in-Some-Some-Some.ensures.value c.in-Some-Some-Some.ensures'.value
    c.in-Some-Some-Some.ensures''.value

pub returns-in_default-clause-none : goal.returns-in_default-clause-none
returns-in_default-clause-none c count =
    elim c.in_default.branch [
      | in_default-via-in-Some+in-Some+in_default w ↦
          third_is_there (fields_of c.args.row.now) count (rw w.in_default.is-2 at c.get-3.ensures.value)
      | in_default-via-in-Some+in_default w ↦
          second_is_there (fields_of c.args.row.now) count (rw w.in_default.is-1 at c.get-2.ensures.value)
      | in_default-via-in_default w ↦
          first_is_there (fields_of c.args.row.now) count (rw w.in_default.is-0 at c.get.ensures.value)
    ]
