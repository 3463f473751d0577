use Rattle.std.proofs.Common.{◌<◌, sym, subst, ap, ◌∙◌}
use Rattle.std.proofs.lemmas.List.{get_or-map, length-map}
use Rattle.payment_plan.specs.Records.{sojourn_of, sojourns_of}
use Rattle.file_changes.proofs.Lists.{one_again}
use Rattle.file_changes.proofs.copies.sojourns.Goals as goal

pub loop-i-preserved : goal.loop-i-preserved
loop-i-preserved c =
    let paid = c.sojourns-paid.result.now in
    rw c.in_ok-push.ensures.items (one_again sojourn_of (sojourns_of paid) c.loop-i.i
    (sojourn_of c.index-paid-i.result) c.loop-i.sojourns.items _ c.loop-i.invariant
    (c.in_ok-sojourn.ensures ∙ ap sojourn_of c.index-paid-i.is
    ∙ sym (get_or-map sojourn_of paid c.loop-i.i c.index-paid-i.result (sojourn_of c.index-paid-i.result)
    c.loop-i-test.true))
    (subst (λ n. c.loop-i.i < n) (sym (length-map paid sojourn_of)) c.loop-i-test.true))
