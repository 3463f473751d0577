use Rattle.std.proofs.Common.{◌≡◌, ◌∙◌, [], length, refl, sym, subst}
use Rattle.std.specs.Prelude.{IsUtf8}
use Rattle.thiele_cli.specs.Cases.{HasFault, HasProduct}
use Rattle.thiele_cli.specs.FileFaults.{fault_in}
use Rattle.thiele_cli.specs.PortfolioFiles.{next_name}
use Rattle.thiele_cli.proofs.Answered.{fault_of, product_of}
use Rattle.thiele_cli.proofs.Portfolios.{next_name_is}
use Rattle.thiele_cli.proofs.portfolio.next_file.Goals as goal

pub unreachable-requires : goal.unreachable-requires
unreachable-requires g c =
    let name : next_name c.args.policies.now ≡ c.deref.result.now =
    next_name_is c.args.policies.now c.files.result.now c.valued-place.result c.index-files-place.result
    c.files.ensures.names c.valued-place.ensures c.requires.left c.files.ensures.count c.index-files-place.is
    ∙ sym c.deref.ensures.value in
    c.in_default.ensures.cases.0
    (subst IsUtf8 name (c.requires.texts (length c.args.policies.now.valued) [] c.requires.left))

pub returns-in_ok-value_file-in-Admitted-clause-next : goal.returns-in_ok-value_file-in-Admitted-clause-next
returns-in_ok-value_file-in-Admitted-clause-next g c =
    let files = g.H.Shelf.files c.args.shelf.now in
    let name : next_name c.args.policies.now ≡ c.deref.result.now =
    next_name_is c.args.policies.now c.files.result.now c.valued-place.result c.index-files-place.result
    c.files.ensures.names c.valued-place.ensures c.requires.left c.files.ensures.count c.index-files-place.is
    ∙ sym c.deref.ensures.value in (
      c.in-Admitted.product,
      subst (λ n. HasProduct files n c.in-Admitted.product) (c.in-Ok.ensures.cases.0 ∙ sym name)
          (product_of files files c.in-Ok.name.now c.in_ok-product.field-0 c.in-Admitted.product refl c.in-Admitted.is
          c.in_ok-product.ensures.verdict),
      c.in_ok-value_file-in-Admitted.ensures,
    )

pub returns-in-Refused-clause-next : goal.returns-in-Refused-clause-next
returns-in-Refused-clause-next g c =
    let files = g.H.Shelf.files c.args.shelf.now in
    let name : next_name c.args.policies.now ≡ c.deref.result.now =
    next_name_is c.args.policies.now c.files.result.now c.valued-place.result c.index-files-place.result
    c.files.ensures.names c.valued-place.ensures c.requires.left c.files.ensures.count c.index-files-place.is
    ∙ sym c.deref.ensures.value in
    subst (λ n. HasFault files n (fault_in c.in-Refused.refused)) (c.in-Ok.ensures.cases.0 ∙ sym name)
    (fault_of files files c.in-Ok.name.now c.in_ok-product.field-0 c.in-Refused.refused refl c.in-Refused.is
    c.in_ok-product.ensures.verdict)
