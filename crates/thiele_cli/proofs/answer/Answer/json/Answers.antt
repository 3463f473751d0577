use Rattle.std.proofs.Common.{◌≡◌, refl, sym, ◌∙◌}
use Rattle.std.specs.Prelude.{Some}
use Rattle.std.proofs.lemmas.Result.{IfOk-weaker}
use Rattle.command_words.specs.Readings.{words_of}
use Rattle.io_ports.specs.Given.{evidence_of}
use Rattle.row_sheets.specs.declared.about.About.{About}
use Rattle.row_sheets.specs.JsonText.{json_text}
use Rattle.thiele_cli.proofs.Forms.{Tells, json_told, none_as_json}
use Rattle.thiele_cli.proofs.answer.Answer.json.Goals as goal

pub returns-in-Some : goal.returns-in-Some
returns-in-Some g c =
    let about : About = record {
      words = c.rest.result;
      files = c.args.files;
      degree = c.degree.result;
      scale = c.scale.result;
    } in
    let tells : Tells about (words_of c.args.words.now) (evidence_of c.args.files.now) c.args.self.now = record {
      words_are = c.rest.ensures;
      files_are = refl;
      degree_is = c.degree.ensures;
      scale_is = c.scale.ensures;
    } in
    IfOk-weaker c.json_bytes.result (λ bytes. bytes.items ≡ json_text about c.in-Some.sheet) _
    (λ bytes told. json_told about (words_of c.args.words.now) (evidence_of c.args.files.now) c.args.self.now _
    (Some c.in-Some.sheet) bytes.items tells (sym c.in-Some.is ∙ c.in_ok-sheet.ensures) told)
    c.json_bytes.ensures.text

pub returns-in-None : goal.returns-in-None
returns-in-None g c =
    let about : About = record {
      words = c.rest.result;
      files = c.args.files;
      degree = c.degree.result;
      scale = c.scale.result;
    } in
    let tells : Tells about (words_of c.args.words.now) (evidence_of c.args.files.now) c.args.self.now = record {
      words_are = c.rest.ensures;
      files_are = refl;
      degree_is = c.degree.ensures;
      scale_is = c.scale.ensures;
    } in
    none_as_json about (words_of c.args.words.now) (evidence_of c.args.files.now) c.args.self.now _ c.text.result tells
    (sym c.in-None.is ∙ c.in_ok-sheet.ensures) c.text.ensures
