-- What a portfolio comes to: wrong rows, the products of its files, and its totals.
use Rattle.std.specs.Prelude.{◌≡◌, ℕ, zero, suc, List, [], ◌∷◌, All, Contains, map, ⊤}
use Rattle.model_specs.specs.Product.{Product}
use Rattle.rule_breaks.specs.declared.breaks.RowBreak.{RowBreak}
use Rattle.portfolio_run.specs.declared.reading.PolicyError.TheVariants as error
use Rattle.portfolio_run.specs.declared.totals.Totals.{Totals}
use Rattle.portfolio_run.specs.Holdings.{Holding}
use Rattle.portfolio_run.specs.Readings.{AreHoldingsIn, TellsWrongIn, files_of}
use Rattle.portfolio_run.specs.Stored.{portfolio_of}
use Rattle.portfolio_run.specs.Totals.{AreTotals, HasItsReserve, TellsUncovered}
use Rattle.portfolio_run.specs.Values.{IsValued, ValuedProduct}
use Rattle.thiele_cli.specs.declared.answer.Answer.{Answer}
use Rattle.thiele_cli.specs.declared.answer.Answer.TheVariants as answer
use Rattle.thiele_cli.specs.FileFaults.{FileFault}

-- names come to these products, each to its own, in their order
abbrev pub ComeTo : (HasProduct : List ℕ → Product → Type 0) → List (List ℕ) → List Product → Type 0
ComeTo HasProduct [] [] = ⊤
ComeTo HasProduct [] (product ∷ products) = ⊥
ComeTo HasProduct (name ∷ names) [] = ⊥
ComeTo HasProduct (name ∷ names) (product ∷ products) = HasProduct name product × ComeTo HasProduct names products

-- the file at this place has this fault, and each one before it has a product
abbrev pub IsFirstRefused : (HasProduct : List ℕ → Product → Type 0) → (HasFault : List ℕ → FileFault → Type 0)
    → List (List ℕ) → (place : ℕ) → FileFault → Type 0
IsFirstRefused HasProduct HasFault [] place fault = ⊥
IsFirstRefused HasProduct HasFault (name ∷ names) zero fault = HasFault name fault
IsFirstRefused HasProduct HasFault (name ∷ names) (suc place) fault =
    ((product : Product) × HasProduct name product) × IsFirstRefused HasProduct HasFault names place fault

-- this row of a text is the first that is wrong by itself, and this its first part that is
abbrev pub IsWrongRow : (text : List ℕ) → RowBreak → Type 0
IsWrongRow text broken = TellsWrongIn text (error.Row broken)

-- a holding of the text of a portfolio names this file
abbrev pub NamesFile : (text name : List ℕ) → Type 0
NamesFile text name = (holdings : List Holding) × AreHoldingsIn text holdings × Contains (files_of holdings) name

-- products as they were valued
abbrev pub AreProductsOf : List ValuedProduct → List Product → Type 0
AreProductsOf valued products = map (λ v. v.product) valued ≡ products

-- the product of each holding's file has its date and its state; the different files have these products
pub record AreCovered (holdings : List Holding) (products : List Product) : Type 0 where
  pub valued : List ValuedProduct
  pub products_are : AreProductsOf valued products
  pub covered : All (HasItsReserve (portfolio_of holdings valued)) holdings

-- or this is the first row whose product has not, and this the part that it has not
pub record IsUncoveredRow (holdings : List Holding) (products : List Product) (broken : RowBreak) : Type 0 where
  pub valued : List ValuedProduct
  pub products_are : AreProductsOf valued products
  pub tells : TellsUncovered (portfolio_of holdings valued) (error.Row broken)

-- the answer is the totals of the holdings by group, by the products of their different files: each valued by a table
-- of the reserves of every month
pub record AreSummedUp (holdings : List Holding) (products : List Product) (given : Answer) : Type 0 where
  pub totals : Totals
  pub answers : given ≡ answer.Portfolio totals
  pub valued : List ValuedProduct
  pub products_are : AreProductsOf valued products
  pub tables : All IsValued valued
  pub right : AreTotals (portfolio_of holdings valued) totals
