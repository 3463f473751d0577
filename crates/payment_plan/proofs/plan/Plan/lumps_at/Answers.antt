use Rattle.std.proofs.Common.{arith, ap, sym, ◌∙◌, ◌≡◌, ◌≤◌, cond, true, false, []}
use Rattle.model_specs.specs.Payments.{lumps_at}
use Rattle.payment_plan.specs.Payments.{benefits_of}
use Rattle.payment_plan.specs.Tables.{payers_in_order, pays_at_date}
use Rattle.payment_plan.proofs.Dated.{kept_dates, kept_date}
use Rattle.payment_plan.proofs.PatternDates.{pattern_lumps}
use Rattle.payment_plan.proofs.plan.Plan.lumps_at.Goals as goal

pub index-requires : goal.index-requires
index-requires c =
    omega (
      arith,
      kept_dates _ c.self.inside.dated.items _ c.self.invariant,
      ap (λ p. p.months) c.self.view_is,
      c.self.inside.dated.ok.0,
      c.requires,
    )

pub returns-in-Benefits : goal.returns-in-Benefits
returns-in-Benefits c =
    let within : c.args.month ≤ c.self.inside.months = omega (arith, ap (λ p. p.months) c.self.view_is, c.requires) in
    rw c.in-Benefits.is
    (c.deref.ensures.value
    ∙ kept_date _ c.self.inside.dated.items _ c.args.month c.index.result.now c.self.invariant within c.index.ensures
    ∙ ap (λ p. lumps_at p.states (benefits_of p) c.args.month) c.self.view_is)

pub returns-in-Pattern : goal.returns-in-Pattern
returns-in-Pattern c =
    let pays : pays_at_date c.args.self.now.pattern c.args.month ≡ true =
    ap (λ p. pays_at_date p.pattern c.args.month) (sym c.self.view_is) ∙ sym c.pays_at.ensures ∙ c.if-pays_at.true in
    rw c.in-Pattern.is
    (c.deref-in-Pattern.ensures.value ∙ c.self.invariant.payers_are
    ∙ ap (λ p. payers_in_order p.states p.pattern.payers) c.self.view_is
    ∙ ap (λ b. cond b (payers_in_order c.args.self.now.states c.args.self.now.pattern.payers) []) (sym pays)
    ∙ sym (pattern_lumps c.args.self.now c.args.month))

pub returns-in-Pattern-2 : goal.returns-in-Pattern-2
returns-in-Pattern-2 c =
    let pays : pays_at_date c.args.self.now.pattern c.args.month ≡ false =
    ap (λ p. pays_at_date p.pattern c.args.month) (sym c.self.view_is) ∙ sym c.pays_at.ensures ∙ c.if-pays_at.false in
    rw c.in-Pattern-2.is
    (ap (λ b. cond b (payers_in_order c.args.self.now.states c.args.self.now.pattern.payers) []) (sym pays)
    ∙ sym (pattern_lumps c.args.self.now c.args.month))
