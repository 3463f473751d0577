use Rattle.std.proofs.Common.{◌≡◌, length, arith}
use Rattle.csv.specs.Records.{fields_of}
use Rattle.portfolio_run.proofs.FiveFields.{five_are, field_is_there}
use Rattle.portfolio_run.proofs.fields.five_fields.Goals as goal
use Rattle.portfolio_run.proofs.fields.five_fields.Goals.{in_default-via-in-Some+in-Some+in-Some+in-Some+in_default}
use Rattle.portfolio_run.proofs.fields.five_fields.Goals.{in_default-via-in-Some+in-Some+in-Some+in_default}
use Rattle.portfolio_run.proofs.fields.five_fields.Goals.{in_default-via-in-Some+in-Some+in_default}
use Rattle.portfolio_run.proofs.fields.five_fields.Goals.{in_default-via-in-Some+in_default, in_default-via-in_default}

pub returns-in-Some-Some-Some-Some-Some-clause-some : goal.returns-in-Some-Some-Some-Some-Some-clause-some
returns-in-Some-Some-Some-Some-Some-clause-some c =
    let found = c.in-Some-Some-Some-Some-Some in
    let count : length (fields_of c.args.row.now) ≡ 5 = grind arith in
    five_are (fields_of c.args.row.now) found.file.now found.group.now found.month.now found.state.now found.count.now
    count found.ensures.value found.ensures'.value found.ensures''.value found.ensures'''.value
    found.ensures''''.value

pub returns-in_default-clause-none : goal.returns-in_default-clause-none
returns-in_default-clause-none c count =
    let there = field_is_there (fields_of c.args.row.now) in
    elim c.in_default.branch [
      | in_default-via-in-Some+in-Some+in-Some+in-Some+in_default w ↦
          there 4 (omega (arith, count)) (rw w.in_default.is-4 at c.get-5.ensures.value)
      | in_default-via-in-Some+in-Some+in-Some+in_default w ↦
          there 3 (omega (arith, count)) (rw w.in_default.is-3 at c.get-4.ensures.value)
      | in_default-via-in-Some+in-Some+in_default w ↦
          there 2 (omega (arith, count)) (rw w.in_default.is-2 at c.get-3.ensures.value)
      | in_default-via-in-Some+in_default w ↦
          there 1 (omega (arith, count)) (rw w.in_default.is-1 at c.get-2.ensures.value)
      | in_default-via-in_default w ↦
          there 0 (omega (arith, count)) (rw w.in_default.is-0 at c.get.ensures.value)
    ]
