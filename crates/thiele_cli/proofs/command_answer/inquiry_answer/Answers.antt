use Rattle.std.proofs.Common.{ap, refl, subst, sym}
use Rattle.thiele_cli.specs.Inquiries.{asked_by}
use Rattle.thiele_cli.specs.declared.answer.Answer.TheVariants as answer
use Rattle.thiele_cli.specs.AskedAnswers.{AnswersAsked}
use Rattle.thiele_cli.specs.Cases.{Told}
use Rattle.thiele_cli.proofs.Answered.{seed_answers, load_answers}
use Rattle.thiele_cli.proofs.command_answer.inquiry_answer.Goals as goal

pub returns-in_ok-seed_answer-in-OfSeed-clause-answer : goal.returns-in_ok-seed_answer-in-OfSeed-clause-answer
returns-in_ok-seed_answer-in-OfSeed-clause-answer g c =
    let files = g.H.Shelf.files c.args.shelf.now in
    subst (λ asked. AnswersAsked files asked c.in_ok-seed_answer-in-OfSeed.field-0)
    (sym (ap asked_by c.in-OfSeed.is))
    (seed_answers files c.in-OfSeed.seed c.in_ok-seed_answer-in-OfSeed.field-0
    c.in_ok-seed_answer-in-OfSeed.ensures.answer)

pub returns-in_ok-loaded_answer-in-LoadOf-clause-answer : goal.returns-in_ok-loaded_answer-in-LoadOf-clause-answer
returns-in_ok-loaded_answer-in-LoadOf-clause-answer g c =
    let files = g.H.Shelf.files c.args.shelf.now in
    subst (λ asked. AnswersAsked files asked c.in_ok-loaded_answer-in-LoadOf.field-0)
    (sym (ap asked_by c.in-LoadOf.is))
    (load_answers files c.in-LoadOf.seed c.in_ok-loaded_answer-in-LoadOf.field-0
    c.in_ok-loaded_answer-in-LoadOf.ensures.answer)

pub returns-in-OfPage-clause-answer : goal.returns-in-OfPage-clause-answer
returns-in-OfPage-clause-answer g c =
    let files = g.H.Shelf.files c.args.shelf.now in
    subst (λ asked. AnswersAsked files asked (answer.Told c.in-OfPage.page)) (sym (ap asked_by c.in-OfPage.is))
    (record { case = Told c.in-OfPage.page; holds = refl; says = refl })
