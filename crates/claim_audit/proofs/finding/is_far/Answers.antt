use Rattle.std.proofs.Common.{arith, inl, inr}
use Rattle.std.proofs.lemmas.Int.{ints}
use Rattle.claim_audit.proofs.finding.is_far.Goals as goal

pub returns-else-hi-claim : goal.returns-else-hi-claim
returns-else-hi-claim c = (
  λ above. inr (grind (arith, ints)),
  λ far. elim far [ inl below ↦ grind (arith, ints) | inr above ↦ grind (arith, ints) ],
)
