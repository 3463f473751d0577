use Rattle.std.proofs.Common.{◌≡◌, suc, ◌+◌, length, arith, ap, ◌∙◌, add-one}
use Rattle.std.proofs.lemmas.List.{with_items_is}
use Rattle.whole_laws.specs.Whole.{list_of}
use Rattle.whole_laws.proofs.ListsByPlace.{list_of-agree}
use Rattle.payment_plan.specs.Records.{lumps_of}
use Rattle.payment_plan.specs.Tables.{row_at, dated_lumps}
use Rattle.payment_plan.proofs.TableRows.{IsTable, row_is}
use Rattle.payment_plan.proofs.dates.lumps_by_date.Goals as goal

pub returns : goal.returns
returns c =
    let long : length c.write.new.table ≡ c.in_ok-table.table.len = omega arith in
    let items : c.deref.result.now ≡ c.write.new.table =
    c.deref.ensures.value ∙ with_items_is c.in_ok-table.table c.write.new.table long in
    let table : IsTable c.write.new.table c.args.states c.args.months c.args.lumps.now =
    record {
      long = omega (arith, c.in_ok-table.ensures.len);
      amounts = λ month state below within. c.write.ensures month state below (omega arith);
    } in
    let same : list_of (c.args.months + 1) (row_at c.deref.result.now c.args.states)
    ≡ list_of (suc c.args.months) (dated_lumps c.args.states (lumps_of c.args.lumps.now)) =
    ap (λ t. list_of (c.args.months + 1) (row_at t c.args.states)) items
    ∙ list_of-agree (c.args.months + 1) _ _
    (row_is c.write.new.table c.args.states c.args.months c.args.lumps.now table)
    ∙ ap (λ n. list_of n (dated_lumps c.args.states (lumps_of c.args.lumps.now))) (add-one c.args.months) in
    rw same at c.rows.ensures
