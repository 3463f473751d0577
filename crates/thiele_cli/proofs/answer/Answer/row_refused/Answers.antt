use Rattle.std.proofs.Common.{refl}
use Rattle.thiele_cli.proofs.answer.Answer.row_refused.Goals as goal

pub returns-clause-refused : goal.returns-clause-refused
returns-clause-refused c = record { kept = c.args.text; answers = refl; text_is = refl }
