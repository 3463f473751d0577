use Rattle.std.proofs.Common.{inl, inr, ap, subst, sym, Err}
use Rattle.std.proofs.KnownBytes.{Keeps-refl}
use Rattle.command_words.specs.Commands.{request_of}
use Rattle.command_words.specs.Readings.{words_of}
use Rattle.io_ports.specs.Counts.{Rose}
use Rattle.thiele_cli.specs.declared.answer.Answer.TheVariants as answer
use Rattle.thiele_cli.specs.declared.refusal.Refusal.TheVariants as refusal
use Rattle.thiele_cli.specs.Cases.{form_of_none}
use Rattle.thiele_cli.specs.Forms.{IsTextIn}
use Rattle.thiele_cli.proofs.Answered.{request_answers, no_reading_answers}
use Rattle.thiele_cli.proofs.Causes.{comes_by, reported, has_extra, completes}
use Rattle.thiele_cli.proofs.Forms.{none_is_told, read_in_form}
use Rattle.thiele_cli.proofs.NoFiles.{no_file_ends, no_file_read, no_file_asked}
use Rattle.thiele_cli.proofs.run.run.Goals as goal

pub command_answer-requires : goal.command_answer-requires
command_answer-requires g c =
    read_in_form _ c.in-Some.reading.form (request_of c.in-Some.reading.command) c.in-Some.ensures.some

pub returns-in_default-clause-written : goal.returns-in_default-clause-written
returns-in_default-clause-written g c = inr (record {
  form = form_of_none (words_of c.args.words.now);
  given = answer.Refused refusal.Words;
  text = c.no_reading_text.result.now;
  is_answer = no_reading_answers _ _ c.in_default.ensures.none;
  report_is = c.deliver.ensures.report;
  extra_is = c.deliver.ensures.extra;
  is_text = subst (IsTextIn (form_of_none (words_of c.args.words.now)) (words_of c.args.words.now) _ _ _)
      (sym c.no_reading_text.ensures) (none_is_told (words_of c.args.words.now) _ _);
  delivers = c.deliver.ensures.delivers;
})

pub returns-in_default-clause-causes : goal.returns-in_default-clause-causes
returns-in_default-clause-causes g c own sound =
    comes_by _ _ _ _ (form_of_none (words_of c.args.words.now)) (answer.Refused refusal.Words) c.deliver.result.end own
    (no_reading_answers _ _ c.in_default.ensures.none) c.deliver.ensures.ends sound

pub returns-in_default-clause-reported : goal.returns-in_default-clause-reported
returns-in_default-clause-reported g c cause told fault =
    reported _ _ (form_of_none (words_of c.args.words.now)) (answer.Refused refusal.Words) c.deliver.result.report
    (no_reading_answers _ _ c.in_default.ensures.none) c.deliver.ensures.report cause told

pub returns-in_default-clause-extra : goal.returns-in_default-clause-extra
returns-in_default-clause-extra g c cause told fault =
    has_extra _ _ (form_of_none (words_of c.args.words.now)) (answer.Refused refusal.Words) c.deliver.result.extra
    (no_reading_answers _ _ c.in_default.ensures.none) c.deliver.ensures.extra cause told

pub returns-in_default-clause-complete : goal.returns-in_default-clause-complete
returns-in_default-clause-complete g c own cause told same calm =
    completes _ _ (form_of_none (words_of c.args.words.now)) (answer.Refused refusal.Words) c.deliver.result.end own
    (Rose (g.K.Sink.faults c.args.sink.now) (g.K.Sink.faults c.deliver.new.sink))
    (no_reading_answers _ _ c.in_default.ensures.none) c.deliver.ensures.ends cause told
    c.deliver.ensures.write_fault calm

pub returns-in-Err-Fetch-clause-written : goal.returns-in-Err-Fetch-clause-written
returns-in-Err-Fetch-clause-written g c =
    let file = c.in-Err-Fetch.ensures.not_fetched (ap (λ e. Err e) c.in-Err-Fetch.field-0-is) in
    inl (
      inl (
        c.of.ensures.end,
        file.0,
        (c.in-Some.reading.form, request_of c.in-Some.reading.command, c.in-Some.ensures.some, file.1),
      ),
      c.of.ensures.report,
      c.of.ensures.extra,
      Keeps-refl (g.K.Sink.written c.args.sink.now),
    )

pub returns-in-Ok-text_in-clause-causes : goal.returns-in-Ok-text_in-clause-causes
returns-in-Ok-text_in-clause-causes g c own sound =
    comes_by _ _ _ _ c.in-Some.reading.form c.in-Ok.answer c.deliver-in-Ok-text_in.result.end own
    (request_answers _ _ c.in-Some.reading.form (request_of c.in-Some.reading.command) c.in-Ok.answer
    c.in-Some.ensures.some c.in-Ok.ensures.answer)
    c.deliver-in-Ok-text_in.ensures.ends sound

pub returns-in-Ok-text_in-clause-reported : goal.returns-in-Ok-text_in-clause-reported
returns-in-Ok-text_in-clause-reported g c cause told fault =
    reported _ _ c.in-Some.reading.form c.in-Ok.answer c.deliver-in-Ok-text_in.result.report
    (request_answers _ _ c.in-Some.reading.form (request_of c.in-Some.reading.command) c.in-Ok.answer
    c.in-Some.ensures.some c.in-Ok.ensures.answer)
    c.deliver-in-Ok-text_in.ensures.report cause told

pub returns-in-Ok-text_in-clause-extra : goal.returns-in-Ok-text_in-clause-extra
returns-in-Ok-text_in-clause-extra g c cause told fault =
    has_extra _ _ c.in-Some.reading.form c.in-Ok.answer c.deliver-in-Ok-text_in.result.extra
    (request_answers _ _ c.in-Some.reading.form (request_of c.in-Some.reading.command) c.in-Ok.answer
    c.in-Some.ensures.some c.in-Ok.ensures.answer)
    c.deliver-in-Ok-text_in.ensures.extra cause told

pub returns-in-Ok-text_in-clause-complete : goal.returns-in-Ok-text_in-clause-complete
returns-in-Ok-text_in-clause-complete g c own cause told same calm =
    completes _ _ c.in-Some.reading.form c.in-Ok.answer c.deliver-in-Ok-text_in.result.end own
    (Rose (g.K.Sink.faults c.args.sink.now) (g.K.Sink.faults c.deliver-in-Ok-text_in.new.sink))
    (request_answers _ _ c.in-Some.reading.form (request_of c.in-Some.reading.command) c.in-Ok.answer
    c.in-Some.ensures.some c.in-Ok.ensures.answer)
    c.deliver-in-Ok-text_in.ensures.ends cause told c.deliver-in-Ok-text_in.ensures.write_fault calm

pub returns-clause-written : goal.returns-clause-written
returns-clause-written g c = inl (
  inr c.of-in-Err.ensures.end,
  c.of-in-Err.ensures.report,
  c.of-in-Err.ensures.extra,
  Keeps-refl (g.K.Sink.written c.args.sink.now),
)

pub returns-in_default-clause-no_file : goal.returns-in_default-clause-no_file
returns-in_default-clause-no_file g c none = absurd (c.in_default.ensures.none (no_file_read _ none))

pub returns-in-Err-Fetch-clause-no_file : goal.returns-in-Err-Fetch-clause-no_file
returns-in-Err-Fetch-clause-no_file g c none =
    let file = c.in-Err-Fetch.ensures.not_fetched (ap (λ e. Err e) c.in-Err-Fetch.field-0-is) in
    absurd (no_file_asked _ _ c.in-Some.reading.form (request_of c.in-Some.reading.command) file.0
    c.in-Some.ensures.some file.1 none)

pub returns-in-Ok-text_in-clause-no_file : goal.returns-in-Ok-text_in-clause-no_file
returns-in-Ok-text_in-clause-no_file g c none =
    no_file_ends _ _ c.in-Some.reading.form c.in-Ok.answer c.deliver-in-Ok-text_in.result.end none
    (request_answers _ _ c.in-Some.reading.form (request_of c.in-Some.reading.command) c.in-Ok.answer
    c.in-Some.ensures.some c.in-Ok.ensures.answer)
    c.deliver-in-Ok-text_in.ensures.ends
