use Rattle.std.proofs.Common.{ap, sym, subst}
use Rattle.model_specs.specs.Product.{Sojourn}
use Rattle.file_changes.specs.ContinuousAsks.{AreSmallSteps}
use Rattle.file_changes.proofs.charged_sojourns.charged_sojourn.Goals as goal

pub returns-in_ok-sojourn-clause-small : goal.returns-in_ok-sojourn-clause-small
returns-in_ok-sojourn-clause-small c =
    let words = rw c.deref-else-pays.ensures.value at c.have_words.ensures in
    subst (AreSmallSteps c.args.months) (sym (ap (λ (s : Sojourn). s.steps) c.in_ok-sojourn.ensures))
    (record { words = words; bounded = c.requires.bounded })
