use Rattle.std.proofs.Common.{refl}
use Rattle.thiele_cli.specs.FileFaults.{fault_in}
use Rattle.thiele_cli.proofs.Answered.{product_of, fault_of, refused_first, refused_second, answered_pair}
use Rattle.thiele_cli.proofs.command_answer.two_named_answer.Goals as goal

pub returns-in-Refused-clause-answer : goal.returns-in-Refused-clause-answer
returns-in-Refused-clause-answer g c =
    let files = g.H.Shelf.files c.args.shelf.now in
    refused_first files c.args.question c.args.first.now c.args.second.now (fault_in c.in-Refused.refused)
    c.first_refused.result
    (fault_of files files c.args.first.now c.in_ok-product.field-0 c.in-Refused.refused refl c.in-Refused.is
    c.in_ok-product.ensures.verdict) c.first_refused.ensures.refused

pub returns-in_ok-pair_answer-in-Admitted-2-clause-answer : goal.returns-in_ok-pair_answer-in-Admitted-2-clause-answer
returns-in_ok-pair_answer-in-Admitted-2-clause-answer g c =
    let files = g.H.Shelf.files c.args.shelf.now in
    answered_pair files c.args.question c.args.first.now c.args.second.now c.in-Admitted.product c.in-Admitted-2.new
    c.in_ok-pair_answer-in-Admitted-2.field-0
    (product_of files files c.args.first.now c.in_ok-product.field-0 c.in-Admitted.product refl c.in-Admitted.is
    c.in_ok-product.ensures.verdict)
    (product_of (g.H.Shelf.files c.file_verdict.new.shelf) files c.args.second.now c.in_ok-new.field-0
    c.in-Admitted-2.new c.file_verdict.ensures.files c.in-Admitted-2.is c.in_ok-new.ensures.verdict)
    c.in_ok-pair_answer-in-Admitted-2.ensures.answer

pub returns-in-Refused-2-clause-answer : goal.returns-in-Refused-2-clause-answer
returns-in-Refused-2-clause-answer g c =
    let files = g.H.Shelf.files c.args.shelf.now in
    refused_second files c.args.question c.args.first.now c.args.second.now c.in-Admitted.product
    (fault_in c.in-Refused-2.refused) c.second_refused.result
    (product_of files files c.args.first.now c.in_ok-product.field-0 c.in-Admitted.product refl c.in-Admitted.is
    c.in_ok-product.ensures.verdict)
    (fault_of (g.H.Shelf.files c.file_verdict.new.shelf) files c.args.second.now c.in_ok-new.field-0
    c.in-Refused-2.refused c.file_verdict.ensures.files c.in-Refused-2.is c.in_ok-new.ensures.verdict)
    c.second_refused.ensures.refused
