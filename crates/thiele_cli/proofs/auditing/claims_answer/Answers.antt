use Rattle.std.proofs.Common.{◌≡◌, refl, ap, subst, sym, inr, ◌∙◌, ◌++◌, [], ◌∷◌, FitsSigned, rules}
use Rattle.std.specs.Int.{w128}
use Rattle.std.specs.Prelude.{Err}
use Rattle.std.proofs.lemmas.Int.{to_z-of_z}
use Rattle.std.proofs.lemmas.Result.{err_from_is_err_and}
use Rattle.thiele_cli.specs.declared.fault.Fault.TheVariants.{Fetch}
use Rattle.thiele_cli.specs.FileFaults.{fault_in}
use Rattle.thiele_cli.proofs.Answered.{product_of, fault_of}
use Rattle.thiele_cli.proofs.AuditedClaims.{refused_product, refused_claims, answered_claims, bytes_told, long_told}
use Rattle.thiele_cli.proofs.auditing.claims_answer.Goals as goal

pub returns-in-Refused-clause-answer : goal.returns-in-Refused-clause-answer
returns-in-Refused-clause-answer g c =
    let files = g.H.Shelf.files c.args.shelf.now in
    refused_product files c.args.name.now c.args.claims.now c.args.eps (fault_in c.in-Refused.refused)
    c.first_refused.result
    (fault_of files files c.args.name.now c.in_ok-product.field-0 c.in-Refused.refused refl c.in-Refused.is
    c.in_ok-product.ensures.verdict) c.first_refused.ensures.refused

pub returns-in_ok-audit_answer-in-Bytes-clause-answer : goal.returns-in_ok-audit_answer-in-Bytes-clause-answer
returns-in_ok-audit_answer-in-Bytes-clause-answer g c =
    let files = g.H.Shelf.files c.args.shelf.now in
    let fits : FitsSigned w128 c.args.eps = search rules in
    answered_claims files c.args.name.now c.args.claims.now c.args.eps c.in-Admitted.product c.in-Bytes.text.items
    c.in_ok-audit_answer-in-Bytes.field-0
    (product_of files files c.args.name.now c.in_ok-product.field-0 c.in-Admitted.product refl c.in-Admitted.is
    c.in_ok-product.ensures.verdict)
    (bytes_told (g.H.Shelf.files c.file_verdict.new.shelf) files c.args.claims.now c.in_ok-text.field-0 c.in-Bytes.text
    c.file_verdict.ensures.files c.in-Bytes.is c.in_ok-text.ensures.fetched)
    (simp to_z-of_z at c.in_ok-audit_answer-in-Bytes.ensures.answer)

pub returns-in-TooLong-clause-answer : goal.returns-in-TooLong-clause-answer
returns-in-TooLong-clause-answer g c =
    let files = g.H.Shelf.files c.args.shelf.now in
    refused_claims files c.args.name.now c.args.claims.now c.args.eps c.in-Admitted.product c.in-TooLong.seen
    c.too_long.result c.second_refused.result
    (product_of files files c.args.name.now c.in_ok-product.field-0 c.in-Admitted.product refl c.in-Admitted.is
    c.in_ok-product.ensures.verdict)
    (long_told (g.H.Shelf.files c.file_verdict.new.shelf) files c.args.claims.now c.in_ok-text.field-0
    c.in-TooLong.seen c.file_verdict.ensures.files c.in-TooLong.is c.in_ok-text.ensures.fetched)
    c.too_long.ensures c.second_refused.ensures.refused

pub returns-in_err-text-clause-not_fetched : goal.returns-in_err-text-clause-not_fetched
returns-in_err-text-clause-not_fetched g c fetch =
    let p = err_from_is_err_and c.from_residual-in_err-text.result c.from_residual-in_err-text.ensures.1 in
    let one : p.0 ≡ Fetch = cc (p.1, fetch) in (
      c.args.claims.now,
      inr refl,
      subst (λ failed. g.H.Shelf.failed c.fetch_file.new.shelf ≡ failed ++ c.args.claims.now ∷ [])
          c.in_ok-product.ensures.none_failed (c.in_err-text.ensures.not_fetched (ap (λ e. Err e) (sym p.2 ∙ one))),
    )
