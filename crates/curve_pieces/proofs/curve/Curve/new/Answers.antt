use Rattle.std.proofs.Common.{◌≡◌, ℕ}
use Rattle.curve_pieces.specs.Records.{records_of, starts_of}
use Rattle.curve_pieces.specs.BrokenRules.{StartsInOrder, IsBoundedAt}
use Rattle.curve_pieces.proofs.Causes.{first_broken_is_one, cause_at}
use Rattle.curve_pieces.proofs.curve.Curve.new.Goals as goal

pub returns-in-Some-clause-rule_9 : goal.returns-in-Some-clause-rule_9
returns-in-Some-clause-rule_9 c =
    let first = rw c.deref.ensures.value at c.in-Some.ensures.some in
    λ i. (λ e. cc, λ h. absurd (first.broken (h.0 c.in-Some.index)))

pub returns-in-Some-first_unbounded-clause-rule_9 :
    goal.returns-in-Some-first_unbounded-clause-rule_9
returns-in-Some-first_unbounded-clause-rule_9 c =
    let in_order = rw c.deref.ensures.value at c.in_default.ensures.none in
    let first = rw c.deref-2.ensures.value at c.in-Some-first_unbounded.ensures.some in
    λ i. (
      λ e.
          let same : c.in-Some-first_unbounded.index ≡ i = cc in
          cause_at (IsBoundedAt c.args.months (records_of c.args.pieces.items))
          ((k : ℕ) → StartsInOrder c.args.months (starts_of c.args.pieces.items) k) _ i in_order first same,
      λ h.
          let same = first_broken_is_one (IsBoundedAt c.args.months (records_of c.args.pieces.items)) _ i first h.1 in
          cc,
    )
