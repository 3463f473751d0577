-- Answers that keep the text by which they refuse.
use Rattle.std.specs.Prelude.{◌≡◌, ℕ, List, Vec}
use Rattle.std.specs.declared.alloc.Global.{Global}
use Rattle.thiele_cli.specs.declared.answer.Answer.{Answer}
use Rattle.thiele_cli.specs.declared.answer.Answer.TheVariants as answer
use Rattle.thiele_cli.specs.declared.refusal.Refusal.{Refusal}

-- a text is refused, and it is kept
pub record IsRefusedText (why : Refusal) (text : List ℕ) (given : Answer) : Type 0 where
  pub kept : Vec ℕ Global
  pub answers : given ≡ answer.RefusedText why kept
  pub text_is : kept.items ≡ text
