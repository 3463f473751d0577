use Rattle.std.proofs.Common.{refl, sym, subst, FitsSigned, rules}
use Rattle.std.specs.Int.{w128}
use Rattle.std.proofs.lemmas.Int.{to_z-of_z}
use Rattle.std.specs.Prelude.{All}
use Rattle.claim_audit.specs.Findings.{HasNumber, AreFound}
use Rattle.claim_audit.specs.Readings.{AreClaimsIn}
use Rattle.claim_audit.proofs.Numbers.{claims_have_numbers}
use Rattle.claim_audit.proofs.RightMarks.{claims_are_right}
use Rattle.claim_audit.proofs.auditing.audit.Goals as goal

pub findings_of-requires-clause-numbers : goal.findings_of-requires-clause-numbers
findings_of-requires-clause-numbers g c =
    let p = c.args.adm.now in
    let text = c.args.csv.now in
    let claimed = c.in-Ok.claimed.items in
    let by_months = subst (λ m. AreClaimsIn m c.graph.result.now.names text claimed) c.months.ensures.value
    c.in-Ok.ensures.ok in
    let by_graph = subst (λ graph. AreClaimsIn c.product-product.result.now.months graph.names text claimed)
    c.graph.ensures.graph by_months in
    let read = subst (λ product. AreClaimsIn product.months product.states text claimed)
    c.product-product.ensures.product by_graph in
    subst (All (HasNumber c.in-Ok-reserves.table)) (sym c.deref.ensures.value)
    (claims_have_numbers _ _ p.months p.states text claimed c.in-Ok-reserves.table
    c.in-Ok-reserves.ensures.reserves read)

pub returns-clause-ok : goal.returns-clause-ok
returns-clause-ok g c =
    let text = c.args.csv.now in
    let claimed = c.in-Ok.claimed.items in
    let by_months = subst (λ m. AreClaimsIn m c.graph.result.now.names text claimed) c.months.ensures.value
    c.in-Ok.ensures.ok in
    let by_graph = subst (λ graph. AreClaimsIn c.product-product.result.now.months graph.names text claimed)
    c.graph.ensures.graph by_months in
    let fits : FitsSigned w128 c.args.eps = search rules in
    let read = subst (λ product. AreClaimsIn product.months product.states text claimed)
    c.product-product.ensures.product by_graph in
    let found = subst (λ claims. AreFound c.in-Ok-reserves.table c.args.eps claims c.in-Ok-findings_of.claims.items)
    c.deref.ensures.value (simp to_z-of_z at c.in-Ok-findings_of.ensures) in
    record {
      claimed = claimed;
      read = read;
      table = c.in-Ok-reserves.table;
      reserves = c.in-Ok-reserves.ensures.reserves;
      degree_is = refl;
      found = found;
      right = claims_are_right c.args.adm.now text c.args.eps claimed c.in-Ok-reserves.table
          c.in-Ok-findings_of.claims.items c.in-Ok-reserves.ensures.reserves read found;
    }
