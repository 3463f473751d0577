use Rattle.curve_pieces.proofs.LawfulCurves.{curve_is_lawful}
use Rattle.curve_pieces.proofs.curve.Curve.months.Goals as goal

pub returns-clause-rule_8 : goal.returns-clause-rule_8
returns-clause-rule_8 c = rw (← c.self.view_is) (curve_is_lawful _ c.self.invariant)
