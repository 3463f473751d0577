-- The product files of a portfolio, one after the other, and the answer to its text.
use Rattle.std.specs.Prelude.{◌≡◌, ℕ, List, All, length, take, Option, Some, None}
use Rattle.model_specs.specs.Product.{Product}
use Rattle.portfolio_run.specs.Readings.{files_of}
use Rattle.portfolio_run.specs.Stored.{AddsValued, Portfolio, name_at}
use Rattle.portfolio_run.specs.Values.{IsValued}
use Rattle.thiele_cli.specs.declared.answer.Answer.{Answer}
use Rattle.thiele_cli.specs.declared.file_break.FileRefusal.{FileRefusal}
use Rattle.thiele_cli.specs.declared.policy_break.PolicyRefusal.{PolicyRefusal}
use Rattle.thiele_cli.specs.FileFaults.{fault_in}
use Rattle.thiele_cli.specs.Cases.{Files, HasFault, HasProduct, Case, IsPoliciesCase}
use Rattle.thiele_cli.specs.Portfolios.{AreProductsOf, ComeTo, IsFirstRefused}
use Rattle.thiele_cli.specs.Replies.{Answers}

-- the name of the first file of a portfolio that is not valued yet
abbrev pub next_name : Portfolio → List ℕ
next_name portfolio = name_at (files_of portfolio.holdings) (length portfolio.valued)

-- the first files of a portfolio have products, and are valued by them
pub record AreValued (files : Files) (portfolio : Portfolio) : Type 0 where
  pub products : List Product
  pub come_to : ComeTo (HasProduct files) (take (length portfolio.valued) (files_of portfolio.holdings)) products
  pub products_are : AreProductsOf portfolio.valued products
  pub tables : All IsValued portfolio.valued

-- the next file of a portfolio has a product and is valued by it, or it is refused
abbrev pub IsNext : Files → (old new : Portfolio) → Option FileRefusal → Type 0
IsNext files old new None =
    (product : Product) × HasProduct files (next_name old) product × AddsValued product old new
IsNext files old new (Some refused) = HasFault files (next_name old) (fault_in refused)

-- all files of a portfolio are valued
pub record AreAllValued (files : Files) (old new : Portfolio) : Type 0 where
  pub holdings : new.holdings ≡ old.holdings
  pub all : length new.valued ≡ length (files_of new.holdings)
  pub valued : AreValued files new

-- all files of a portfolio are valued, or one is the first that is refused
abbrev pub IsLast : Files → (old new : Portfolio) → Option PolicyRefusal → Type 0
IsLast files old new None = AreAllValued files old new
IsLast files old new (Some refused) =
    IsFirstRefused (HasProduct files) (HasFault files) (files_of old.holdings) refused.file (fault_in refused.refused)

-- the answer to the text of a portfolio
abbrev pub AnswersText : Files → (text : List ℕ) → Answer → Type 0
AnswersText files text given = (case : Case) × IsPoliciesCase files text case × Answers case given
