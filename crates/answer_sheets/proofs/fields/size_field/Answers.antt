use Rattle.std.proofs.Common.{◌≡◌, ◌++◌, ◌∙◌, ap, Fits, rules, arith, subst, sym}
use Rattle.std.specs.Int.{w128}
use Rattle.std.specs.Prelude.{IsAscii}
use Rattle.decimal_out.specs.Millionths.{millionths_of_size}
use Rattle.answer_sheets.proofs.Ascii.{size_is_ascii}
use Rattle.answer_sheets.proofs.fields.size_field.Goals as goal

pub ascii_field-requires : goal.ascii_field-requires
ascii_field-requires c =
    let fits : Fits w128 c.args.number = search rules in
    let text = millionths_of_size c.args.number in
    let written : c.push_size.new.out.items ≡ text =
    c.in_ok-push_size.ensures.ok ∙ ap (λ start. start ++ text) c.new-bytes.ensures.items in
    subst IsAscii (sym (c.deref.ensures.value ∙ written)) (size_is_ascii c.args.number (omega (arith, fits)))
