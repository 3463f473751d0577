-- What a request is answered by, before the words are looked at again.
use Rattle.thiele_cli.specs.declared.answer.Answer.{Answer}
use Rattle.thiele_cli.specs.Questions.{Asked}
use Rattle.thiele_cli.specs.Cases.{Files, Case, IsAskedCase}
use Rattle.thiele_cli.specs.Replies.{Answers}

-- the answer to a request that asks this
pub record AnswersAsked (files : Files) (asked : Asked) (given : Answer) : Type 0 where
  pub case : Case
  pub holds : IsAskedCase files asked case
  pub says : Answers case given
