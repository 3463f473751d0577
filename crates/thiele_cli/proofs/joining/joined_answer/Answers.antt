use Rattle.thiele_cli.proofs.JointFiles.{no_joint_file, are_joined}
use Rattle.thiele_cli.proofs.joining.joined_answer.Goals as goal

pub returns-in-Err-Rule-clause-answer : goal.returns-in-Err-Rule-clause-answer
returns-in-Err-Rule-clause-answer c =
    rw c.in-Err-Rule.field-0-is (no_joint_file c.args.old c.args.new c.in-Ok.product c.in-Err-Rule.found
    c.in-Ok.ensures.ok c.in-Ok.ensures.can_join
    (c.admit.ensures.rule c.in-Err-Rule.found (cc (c.in-Err-Rule.is, c.in-Err-Rule.field-0-is))))

pub returns-clause-answer : goal.returns-clause-answer
returns-clause-answer c =
    are_joined c.args.old c.args.new c.in-Ok.product c.in-Ok-admit.joint c.in_ok-text.text c.in-Ok-admit.ensures.ok
    c.in-Ok.ensures.ok c.in-Ok.ensures.can_join c.in_ok-text.ensures.verdict c.in_ok-text.ensures.format
    c.in-Ok.ensures.marginals
