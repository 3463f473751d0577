use Rattle.std.proofs.Common.{◌≡◌, length, arith}
use Rattle.csv.specs.Records.{fields_of}
use Rattle.portfolio_run.proofs.FiveFields.{field_is_there}
use Rattle.total_merge.proofs.FourFields.{four_are}
use Rattle.total_merge.proofs.fields.four_fields.Goals as goal
use Rattle.total_merge.proofs.fields.four_fields.Goals.{in_default-via-in-Some+in-Some+in-Some+in_default}
use Rattle.total_merge.proofs.fields.four_fields.Goals.{in_default-via-in-Some+in-Some+in_default}
use Rattle.total_merge.proofs.fields.four_fields.Goals.{in_default-via-in-Some+in_default, in_default-via-in_default}

pub returns-in-Some-Some-Some-Some-clause-some : goal.returns-in-Some-Some-Some-Some-clause-some
returns-in-Some-Some-Some-Some-clause-some c =
    let found = c.in-Some-Some-Some-Some in
    let count : length (fields_of c.args.row.now) ≡ 4 = grind arith in
    four_are (fields_of c.args.row.now) found.group.now found.lo.now found.hi.now found.tolerance.now count
    found.ensures.value found.ensures'.value found.ensures''.value found.ensures'''.value

pub returns-in_default-clause-none : goal.returns-in_default-clause-none
returns-in_default-clause-none c count =
    let there = field_is_there (fields_of c.args.row.now) in
    elim c.in_default.branch [
      | in_default-via-in-Some+in-Some+in-Some+in_default w ↦
          there 3 (omega (arith, count)) (rw w.in_default.is-3 at c.get-4.ensures.value)
      | in_default-via-in-Some+in-Some+in_default w ↦
          there 2 (omega (arith, count)) (rw w.in_default.is-2 at c.get-3.ensures.value)
      | in_default-via-in-Some+in_default w ↦
          there 1 (omega (arith, count)) (rw w.in_default.is-1 at c.get-2.ensures.value)
      | in_default-via-in_default w ↦
          there 0 (omega (arith, count)) (rw w.in_default.is-0 at c.get.ensures.value)
    ]
