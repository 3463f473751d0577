use Rattle.command_words.proofs.Forms.{readings_are_one}
use Rattle.command_words.proofs.laws.readings_are_one.Goals as goal

pub returns : goal.returns
returns c = readings_are_one
