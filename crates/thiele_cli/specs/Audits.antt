-- What a request to audit claims is answered by.
use Rattle.std.specs.Prelude.{◌≡◌, ◌⊎◌, ℕ, ◌^◌, ◌<◌, ℤ, pos, ◌≤ℤ◌, List, unsigned_abs}
use Rattle.rule_breaks.specs.declared.breaks.RowBreak.{RowBreak}
use Rattle.model_specs.specs.Product.{Product}
use Rattle.claim_audit.specs.declared.auditing.Audited.{Audited}
use Rattle.claim_audit.specs.Audits.{IsAudit}
use Rattle.claim_audit.specs.Readings.{IsFirstWrongIn}
use Rattle.refusal_words.specs.declared.row_texts.CsvTable.TheVariants as table
use Rattle.thiele_cli.specs.declared.answer.Answer.{Answer}
use Rattle.thiele_cli.specs.declared.answer.Answer.TheVariants as answer
use Rattle.thiele_cli.specs.declared.refusal.Refusal.TheVariants as refusal
use Rattle.thiele_cli.specs.RefusedTexts.{IsRefusedText}

-- a number of millionths that words can ask for as a distance
pub record IsDistance (eps : ℤ) : Type 0 where
  pub least : pos 0 ≤ℤ eps
  pub small : unsigned_abs eps < 10 ^ 24

-- a text with a wrong row is refused by the first such row and its first wrong part, and it is kept
pub record HasWrongRow (product : Product) (text : List ℕ) (given : Answer) : Type 0 where
  pub broken : RowBreak
  pub answers : IsRefusedText (refusal.Row table.Claims broken) text given
  pub first : IsFirstWrongIn product.months product.states text broken.row broken.part

-- the claims of all others are audited, in their order, and each mark implies nearness to the exact reserve
pub record AreAudited (eps : ℤ) (product : Product) (text : List ℕ) (given : Answer) : Type 0 where
  pub audited : Audited
  pub answers : given ≡ answer.Audit product eps audited
  pub right : IsAudit product text eps audited

-- the answer to `audit`
abbrev pub AnswersAudit : ℤ → Product → (text : List ℕ) → Answer → Type 0
AnswersAudit eps product text given = HasWrongRow product text given ⊎ AreAudited eps product text given
