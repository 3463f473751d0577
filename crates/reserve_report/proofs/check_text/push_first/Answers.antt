use Rattle.std.proofs.Common.{◌≡◌, ◌++◌, ap, ◌∙◌, codes}
use Rattle.frac_laws.specs.Ledger.{tolerance_first}
use Rattle.model_specs.specs.Payments.{payment_plan}
use Rattle.model_specs.specs.Ledgers.{radius, radius_forward, scale}
use Rattle.reserve_report.specs.CheckText.{width_line}
use Rattle.reserve_report.proofs.TwoLines.{two_lines}
use Rattle.reserve_report.proofs.check_text.push_first.Goals as goal

pub returns : goal.returns
returns c =
    let p = c.args.product.now in
    let value : c.tolerance_first-value.result ≡ tolerance_first (radius p 0) (scale p (payment_plan p)) =
    cc (c.tolerance_first-value.ensures.value, c.requires.radius_is, c.requires.scale_is) in
    let occupancy : c.tolerance_first-occupancy.result ≡ tolerance_first (radius_forward p p.months) 0 =
    cc (c.tolerance_first-occupancy.ensures.value, c.requires.forward_is) in
    two_lines c.args.out.now.items (width_line (codes "tolerance value ")
    (tolerance_first (radius p 0) (scale p (payment_plan p))))
    (width_line (codes "tolerance occupancy ") (tolerance_first (radius_forward p p.months) 0)) _ _
    (c.in_ok-push_width_line.ensures ∙ ap (λ v. c.args.out.now.items ++ width_line (codes "tolerance value ") v) value)
    (c.in_ok-push_width_line-2.ensures ∙ ap (λ v. c.push_width_line.new.out.items ++ width_line
    (codes "tolerance occupancy ") v) occupancy)
