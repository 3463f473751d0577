use Rattle.std.proofs.Common.{◌≡◌, ◌≤◌, length, refl, sym, ap, subst, ◌∙◌}
use Rattle.std.proofs.lemmas.List.{length-map}
use Rattle.std.proofs.lemmas.Result.{IfErr-weaker, IfOk-weaker}
use Rattle.state_graph.specs.StateGraphs.{texts_of}
use Rattle.portfolio_run.specs.Named.{AreTotalsOf}
use Rattle.portfolio_run.specs.Readings.{groups_of}
use Rattle.portfolio_run.specs.Stored.{Portfolio, holding_of, kept_holdings}
use Rattle.portfolio_run.specs.Sums.{TellsMissing}
use Rattle.portfolio_run.specs.Totals.{AreTotals, TellsUncovered}
use Rattle.portfolio_run.specs.TotalsText.{HaveText}
use Rattle.portfolio_run.proofs.FileNames.{groups_are_few}
use Rattle.portfolio_run.proofs.KeptTotals.{IsKept, kept_missing, kept_totals}
use Rattle.portfolio_run.proofs.PrintedTotals.{have_text}
use Rattle.portfolio_run.proofs.policies.Policies.totals.Goals as goal

pub returns-clause-ok : goal.returns-clause-ok
returns-clause-ok c =
    let kept = c.self.inside in
    let is = subst (λ p. IsKept p kept.files kept.groups kept.policies.items) c.self.view_is
    (record { holdings_are = refl; kept = c.self.invariant.0 }) in
    let valued : c.deref-2.result.now ≡ c.args.self.now.valued =
    c.deref-2.ensures.value ∙ ap (λ (p : Portfolio). p.valued) c.self.view_is in
    IfOk-weaker c.totals_of.result
    (AreTotalsOf (texts_of c.as_slice.result.now) c.deref.result.now c.deref-2.result.now)
    (AreTotals c.args.self.now)
    (λ totals of. kept_totals c.args.self.now kept.files kept.groups kept.policies.items totals is
    (subst (λ all. AreTotalsOf kept.groups kept.policies.items all totals) valued
    (subst (λ policies. AreTotalsOf kept.groups policies c.deref-2.result.now totals) c.deref.ensures.value
    (subst (λ names. AreTotalsOf names c.deref.result.now c.deref-2.result.now totals) c.as_slice.ensures of))))
    c.totals_of.ensures.ok

pub returns-clause-err : goal.returns-clause-err
returns-clause-err c =
    let kept = c.self.inside in
    let is = subst (λ p. IsKept p kept.files kept.groups kept.policies.items) c.self.view_is
    (record { holdings_are = refl; kept = c.self.invariant.0 }) in
    let valued : c.deref-2.result.now ≡ c.args.self.now.valued =
    c.deref-2.ensures.value ∙ ap (λ (p : Portfolio). p.valued) c.self.view_is in
    IfErr-weaker c.totals_of.result (TellsMissing c.deref-2.result.now c.deref.result.now)
    (TellsUncovered c.args.self.now)
    (λ why tells. kept_missing c.args.self.now kept.files kept.groups kept.policies.items why is
    (subst (λ all. TellsMissing all kept.policies.items why) valued
    (subst (λ policies. TellsMissing c.deref-2.result.now policies why) c.deref.ensures.value tells)))
    c.totals_of.ensures.err

pub returns-clause-text : goal.returns-clause-text
returns-clause-text c =
    let kept = c.self.inside in
    let groups : length kept.groups ≤ length kept.policies.items =
    subst (λ names. length names ≤ length kept.policies.items) (sym c.self.invariant.0.groups_are)
    (subst (λ n. length (groups_of (kept_holdings kept.files kept.groups kept.policies.items)) ≤ n)
    (length-map kept.policies.items (holding_of kept.files kept.groups))
    (groups_are_few (kept_holdings kept.files kept.groups kept.policies.items))) in
    IfOk-weaker c.totals_of.result
    (AreTotalsOf (texts_of c.as_slice.result.now) c.deref.result.now c.deref-2.result.now) HaveText
    (λ totals of. have_text kept.groups kept.policies.items c.deref-2.result.now totals
    (subst (λ policies. AreTotalsOf kept.groups policies c.deref-2.result.now totals) c.deref.ensures.value
    (subst (λ names. AreTotalsOf names c.deref.result.now c.deref-2.result.now totals) c.as_slice.ensures of))
    c.self.invariant.1 groups)
    c.totals_of.ensures.ok
