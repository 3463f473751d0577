use Rattle.std.proofs.Common.{take}
use Rattle.std.specs.Prelude.{All}
use Rattle.payment_plan.specs.Records.{steps_of}
use Rattle.file_changes.specs.ContinuousAsks.{AreWords}
use Rattle.file_changes.proofs.charged_sojourns.have_words.Given as goal

-- the steps that were read have words
abbrev pub invariant-loop-i : goal.invariant-loop-i
invariant-loop-i l = All (λ s. AreWords s.c) (take l.i (steps_of l.steps))
