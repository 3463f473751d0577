use Rattle.std.proofs.Common.{◌≡◌, sym, ◌∙◌}
use Rattle.std.proofs.lemmas.Bool.{true≢false}
use Rattle.std.proofs.lemmas.Slice.Eq.{bytes_eq-Decides}
use Rattle.std.proofs.lemmas.Fmt.{parse-decimal}
use Rattle.command_words.proofs.number.number_of.Goals as goal

pub returns-in_default-clause-none : goal.returns-in_default-clause-none
returns-in_default-clause-none c number fits same =
    let read = parse-decimal 64 number c.args.word.now c.parse.result fits fits same c.parse.ensures.value.0 in
    cc (read, c.in_default.is)

pub returns-else-eq-clause-none : goal.returns-else-eq-clause-none
returns-else-eq-clause-none c number fits same =
    let read = parse-decimal 64 number c.args.word.now c.parse.result fits fits same c.parse.ensures.value.0 in
    let one : c.in-Ok.number ≡ number = cc (read, c.in-Ok.is) in
    let text : c.format.result.now ≡ c.args.word.now = cc (c.format.ensures.text, one, same) in
    true≢false (sym ((bytes_eq-Decides c.format.result.now c.args.word.now).1 text) ∙ sym c.eq.ensures ∙ c.if-eq.false)
