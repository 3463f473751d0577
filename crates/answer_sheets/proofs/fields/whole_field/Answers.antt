use Rattle.std.proofs.Common.{◌≡◌, ◌++◌, ◌∙◌, ap, Fits, decimal, rules, arith, subst, sym}
use Rattle.std.specs.Int.{w128}
use Rattle.std.specs.Prelude.{IsAscii}
use Rattle.answer_sheets.proofs.Ascii.{whole_is_ascii}
use Rattle.answer_sheets.proofs.fields.whole_field.Goals as goal

pub ascii_field-requires : goal.ascii_field-requires
ascii_field-requires c =
    let fits : Fits w128 c.args.number = search rules in
    let text = decimal c.args.number in
    let written : c.push_whole.new.out.items ≡ text =
    c.in_ok-push_whole.ensures.ok ∙ ap (λ start. start ++ text) c.new-bytes.ensures.items in
    subst IsAscii (sym (c.deref.ensures.value ∙ written)) (whole_is_ascii c.args.number (omega (arith, fits)))
