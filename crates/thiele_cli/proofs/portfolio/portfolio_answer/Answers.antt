use Rattle.std.proofs.Common.{refl, subst}
use Rattle.std.proofs.lemmas.Result.{IfOk-weaker}
use Rattle.thiele_cli.specs.AskedAnswers.{AnswersAsked}
use Rattle.thiele_cli.specs.Fetches.{IsFetched}
use Rattle.thiele_cli.specs.PortfolioFiles.{AnswersText}
use Rattle.thiele_cli.specs.Questions.{OfPortfolio}
use Rattle.thiele_cli.proofs.Portfolios.{long_portfolio, text_is_asked}
use Rattle.thiele_cli.proofs.AuditedClaims.{long_fault}
use Rattle.thiele_cli.proofs.portfolio.portfolio_answer.Goals as goal

pub returns-in-Bytes-clause-answer : goal.returns-in-Bytes-clause-answer
returns-in-Bytes-clause-answer g c =
    let files = g.H.Shelf.files c.args.shelf.now in
    let given = g.H.Shelf.files c.fetch_file.new.shelf in
    IfOk-weaker c.text_answer.result (AnswersText given c.in-Bytes.text.items)
    (AnswersAsked files (OfPortfolio c.args.name.now))
    (λ answer says. text_is_asked given files c.args.name.now c.in-Bytes.text.items c.in-Bytes.text.items answer
    c.fetch_file.ensures.files refl
    (subst (IsFetched files c.args.name.now) c.in-Bytes.is c.in_ok-text.ensures.fetched) says)
    c.text_answer.ensures.answer

pub returns-in-TooLong-clause-answer : goal.returns-in-TooLong-clause-answer
returns-in-TooLong-clause-answer g c =
    let files = g.H.Shelf.files c.args.shelf.now in
    long_portfolio files c.args.name.now c.in-TooLong.seen c.too_long.result c.first_refused.result
    (long_fault files c.args.name.now c.in-TooLong.seen
    (subst (IsFetched files c.args.name.now) c.in-TooLong.is c.in_ok-text.ensures.fetched))
    c.too_long.ensures c.first_refused.ensures.refused
