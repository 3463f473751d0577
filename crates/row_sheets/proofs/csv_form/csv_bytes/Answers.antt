use Rattle.std.proofs.Common.{rules, sym, subst}
use Rattle.csv.specs.Reading.{default_config, strip_bom, AreRecords}
use Rattle.csv.specs.declared.parser.State.TheVariants as st
use Rattle.row_sheets.specs.CsvText.{records_of}
use Rattle.row_sheets.proofs.Records.{sheet_is_read}
use Rattle.row_sheets.proofs.csv_form.csv_bytes.Goals as goal

pub returns-in-Ok-clause-text : goal.returns-in-Ok-clause-text
returns-in-Ok-clause-text c = search rules

pub returns-in-Ok-clause-reads : goal.returns-in-Ok-clause-reads
returns-in-Ok-clause-reads c =
    let text = returns-in-Ok-clause-text c in
    subst (λ text. AreRecords default_config st.StartRecord (strip_bom text) (records_of c.args.sheet.now)) (sym text)
    (sheet_is_read c.args.sheet.now c.head.ensures.lawful)
