use Rattle.refusal_words.proofs.PlaceLaws.{places_are_told}
use Rattle.refusal_words.proofs.laws.places_are_told.Goals as goal

pub returns : goal.returns
returns c = places_are_told
