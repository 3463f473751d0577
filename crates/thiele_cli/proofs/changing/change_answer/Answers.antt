use Rattle.std.proofs.Common.{refl}
use Rattle.thiele_cli.specs.FileFaults.{fault_in}
use Rattle.thiele_cli.specs.Inquiries.{change_of}
use Rattle.thiele_cli.proofs.Answered.{product_of, fault_of}
use Rattle.thiele_cli.proofs.ChangedFiles.{answered_change, refused_to_change}
use Rattle.thiele_cli.proofs.changing.change_answer.Goals as goal

pub returns-in_ok-changed_answer-in-Admitted-clause-answer : goal.returns-in_ok-changed_answer-in-Admitted-clause-answer
returns-in_ok-changed_answer-in-Admitted-clause-answer g c =
    let files = g.H.Shelf.files c.args.shelf.now in
    answered_change files c.args.name.now (change_of c.args.change) c.in-Admitted.product
    c.in_ok-changed_answer-in-Admitted.field-0
    (product_of files files c.args.name.now c.in_ok-product.field-0 c.in-Admitted.product refl c.in-Admitted.is
    c.in_ok-product.ensures.verdict) c.in_ok-changed_answer-in-Admitted.ensures.answer

pub returns-in-Refused-clause-answer : goal.returns-in-Refused-clause-answer
returns-in-Refused-clause-answer g c =
    let files = g.H.Shelf.files c.args.shelf.now in
    refused_to_change files c.args.name.now (change_of c.args.change) (fault_in c.in-Refused.refused)
    c.first_refused.result
    (fault_of files files c.args.name.now c.in_ok-product.field-0 c.in-Refused.refused refl c.in-Refused.is
    c.in_ok-product.ensures.verdict) c.first_refused.ensures.refused
