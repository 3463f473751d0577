use Rattle.std.proofs.Common.{◌≡◌, ap, subst, sym, ◌∙◌, true}
use Rattle.std.proofs.lemmas.Bool.{true≢false}
use Rattle.command_words.specs.Commands.{request_of}
use Rattle.command_words.specs.Forms.{AreReadIn, behind_form, can_be_in, form_of}
use Rattle.command_words.specs.Readings.{AreReadAs, words_of}
use Rattle.command_words.proofs.Forms.{command_of_reading, reading_of_command}
use Rattle.command_words.proofs.Readings.{commands_are_one}
use Rattle.command_words.proofs.reading.read_words.Goals as goal

pub returns-then-fits-clause-some : goal.returns-then-fits-clause-some
returns-then-fits-clause-some c =
    let words = words_of c.args.words.now in
    let command = request_of c.in_ok-command.command in
    let form : c.form_in-form.result ≡ form_of words = c.form_in-form.ensures in
    let reads : AreReadAs (behind_form (form_of words) words) command =
    subst (λ ws. AreReadAs ws command) (c.words_behind.ensures ∙ ap (λ f. behind_form f words) form)
    c.in_ok-command.ensures.some in
    let can : can_be_in (form_of words) command ≡ true =
    ap (λ f. can_be_in f command) (sym form) ∙ sym c.fits.ensures ∙ c.if-fits.true in
    subst (λ f. AreReadIn words f command) (sym form) (reading_of_command words command reads can)

pub returns-else-fits-clause-none : goal.returns-else-fits-clause-none
returns-else-fits-clause-none c read =
    let words = words_of c.args.words.now in
    let command = request_of c.in_ok-command.command in
    let form : c.form_in-form.result ≡ form_of words = c.form_in-form.ensures in
    let reads : AreReadAs (behind_form (form_of words) words) command =
    subst (λ ws. AreReadAs ws command) (c.words_behind.ensures ∙ ap (λ f. behind_form f words) form)
    c.in_ok-command.ensures.some in
    let found = command_of_reading words read in
    let one : found.0 ≡ command =
    commands_are_one (behind_form (form_of words) words) found.0 command found.1 reads in
    true≢false (sym found.2 ∙ ap (can_be_in (form_of words)) one ∙ ap (λ f. can_be_in f command) (sym form)
    ∙ sym c.fits.ensures ∙ c.if-fits.false)
