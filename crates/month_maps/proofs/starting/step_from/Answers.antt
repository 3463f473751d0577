use Rattle.std.proofs.Common.{◌∙◌}
use Rattle.month_maps.proofs.Starts as starts
use Rattle.month_maps.proofs.starting.step_from.Goals as goal

pub step-requires-clause-can : goal.step-requires-clause-can
step-requires-clause-can g c = starts.can_step_from c.args.sys.now c.args.place c.write_unit.new.mid c.requires.can
    (starts.written c.args.place c.args.mid.now c.write_unit.new.mid c.write_unit.auto.mid c.write_unit.ensures)

pub returns-clause-degree : goal.returns-clause-degree
returns-clause-degree g c = starts.eight c.args.sys.now c.args.place c.write_unit.new.mid c.step.result c.requires.can
    (starts.written c.args.place c.args.mid.now c.write_unit.new.mid c.write_unit.auto.mid c.write_unit.ensures)
    c.step.ensures.constant_in_sup

pub returns-clause-from : goal.returns-clause-from
returns-clause-from g c =
    let unit = starts.written c.args.place c.args.mid.now c.write_unit.new.mid c.write_unit.auto.mid
    c.write_unit.ensures in
    let eight = starts.eight c.args.sys.now c.args.place c.write_unit.new.mid c.step.result c.requires.can unit
    c.step.ensures.constant_in_sup in
    starts.step_from c.args.sys.now c.args.place c.write_unit.new.mid c.step.new.mid c.step.result
    c.degree-degree.ensures.system c.requires.can (c.write_unit.auto.mid ∙ c.requires.mid) unit eight
    (λ e kappa40 cell. c.step.ensures.constant_near e kappa40 (starts.is_constant c.args.sys.now c.requires.can)
    cell.constant cell.stands cell.tame (starts.one_number c.args.place c.write_unit.new.mid unit))
