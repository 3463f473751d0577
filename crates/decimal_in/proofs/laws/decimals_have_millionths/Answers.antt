use Rattle.decimal_in.proofs.PlacesLaws.{decimals_have_millionths}
use Rattle.decimal_in.proofs.laws.decimals_have_millionths.Goals as goal

pub returns : goal.returns
returns c = decimals_have_millionths
