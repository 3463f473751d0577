use Rattle.std.proofs.Common.{◌<◌, ◌≤◌}
use Rattle.payment_plan.specs.Records.{lump_of}
use Rattle.payment_plan.proofs.Dated.{All-made}
use Rattle.payment_plan.proofs.plan.Plan.new.Goals as goal

pub lumps_by_date-requires-clause-states : goal.lumps_by_date-requires-clause-states
lumps_by_date-requires-clause-states c =
    rw c.deref.ensures.value
    (All-made (λ l. l.state < c.args.states) lump_of c.args.lumps.items c.requires.lumps.states)

pub lumps_by_date-requires-clause-dates : goal.lumps_by_date-requires-clause-dates
lumps_by_date-requires-clause-dates c =
    rw c.deref.ensures.value
    (All-made (λ l. l.month ≤ c.args.months) lump_of c.args.lumps.items c.requires.lumps.dates)

pub invariant_of-result : goal.invariant_of-result
invariant_of-result c =
    record {
      allowed = c.requires;
      dates_are = rw c.deref.ensures.value at c.in_ok-dated.ensures;
      payers_are = rw c.deref-2.ensures.value at c.in_ok-payers.ensures;
    }
