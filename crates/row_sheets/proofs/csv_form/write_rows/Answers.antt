use Rattle.std.proofs.Common.{◌++◌, ◌∙◌, ap, sym, map, subst, take}
use Rattle.std.proofs.lemmas.List.{take_all}
use Rattle.csv.specs.Writing.{default_writer, row_text}
use Rattle.row_sheets.specs.CsvText.{HasWritten, records_text, row_fields}
use Rattle.row_sheets.specs.Sheets.{cells_of, rows_of}
use Rattle.row_sheets.proofs.Grown.{records_more}
use Rattle.row_sheets.proofs.csv_form.write_rows.Goals as goal

pub write-requires : goal.write-requires
write-requires c = (_, c.loop-i.invariant c.requires.0 c.requires.1)

pub loop-i-preserved : goal.loop-i-preserved
loop-i-preserved c so_far written =
    let step = c.in_ok-write.ensures _ (c.loop-i.invariant so_far written) in
    let row = c.index-rows-i.result in
    let before = so_far ++ records_text (map row_fields (rows_of (take c.loop-i.i c.args.rows.now))) in
    let fields = c.in_ok-row_record.ensures ∙ ap (λ items. row_fields (cells_of items)) c.deref.ensures.value
    ∙ ap (λ row. row_fields (cells_of row.items)) c.index-rows-i.is in
    let more = records_more c.args.rows.now c.loop-i.i row so_far c.loop-i-test.true in
    let text = ap (λ fields. before ++ row_text default_writer fields) fields ∙ sym more in
    subst (HasWritten c.write-in-loop-i.new.writer) text step

pub returns : goal.returns
returns c so_far written =
    rw (take_all c.loop-i.i c.args.rows.now c.loop-i-test.false) at (c.loop-i.invariant so_far written)
