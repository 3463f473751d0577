use Rattle.joint_life.proofs.MoveLists.{rate_is_curve, rate_is_bounded}
use Rattle.joint_life.proofs.rates.rate.Goals as goal

pub curve-requires-clause-rule_8 : goal.curve-requires-clause-rule_8
curve-requires-clause-rule_8 c = rw (c.in_ok-rate_pieces.ensures, c.months.ensures.value)
    (rate_is_curve c.args.a.now c.args.b.now c.requires.lives c.args.at c.requires.at)

pub curve-requires-clause-rule_9 : goal.curve-requires-clause-rule_9
curve-requires-clause-rule_9 c = rw (c.in_ok-rate_pieces.ensures, c.months.ensures.value)
    (rate_is_bounded c.args.a.now c.args.b.now c.requires.lives c.args.at c.requires.at)
