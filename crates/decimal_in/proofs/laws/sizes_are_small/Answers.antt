use Rattle.decimal_in.proofs.SmallSizes.{sizes_are_small}
use Rattle.decimal_in.proofs.laws.sizes_are_small.Goals as goal

pub returns : goal.returns
returns c = sizes_are_small
