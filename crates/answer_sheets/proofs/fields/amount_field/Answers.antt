use Rattle.std.proofs.Common.{◌≡◌, ◌++◌, ◌∙◌, ap, FitsSigned, rules, subst, sym}
use Rattle.std.specs.Int.{w128}
use Rattle.std.specs.Prelude.{IsAscii}
use Rattle.std.proofs.lemmas.Int.{to_z-of_z}
use Rattle.decimal_out.specs.Millionths.{millionths}
use Rattle.answer_sheets.proofs.Ascii.{below_2_128, millionths_are_ascii}
use Rattle.answer_sheets.proofs.fields.amount_field.Goals as goal

pub ascii_field-requires : goal.ascii_field-requires
ascii_field-requires c =
    let fits : FitsSigned w128 c.args.number = search rules in
    let text = millionths c.args.number in
    let written : c.push_millionths.new.out.items ≡ text =
    simp to_z-of_z at c.in_ok-push_millionths.ensures.ok ∙ ap (λ start. start ++ text) c.new-bytes.ensures.items in
    subst IsAscii (sym (c.deref.ensures.value ∙ written))
    (millionths_are_ascii c.args.number (below_2_128 c.args.number fits))
