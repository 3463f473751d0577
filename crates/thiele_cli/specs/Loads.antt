-- What a request to load the product of a seed is answered by.
use Rattle.std.specs.Prelude.{◌≡◌, ℕ}
use Rattle.model_specs.specs.Product.{Product}
use Rattle.workload_gen.specs.Laws.{generated_product}
use Rattle.reserve_report.specs.declared.report.Report.{Report}
use Rattle.thiele_cli.specs.declared.answer.Answer.{Answer}
use Rattle.thiele_cli.specs.declared.answer.Answer.TheVariants as answer
use Rattle.thiele_cli.specs.MonthGrids.{IsReserveReport}

-- the months between the dates of its reserves
abbrev pub months_between_loads : ℕ
months_between_loads = 12

-- the answer sums up a report of the reserves of a product at each year
pub record SumsUp (product : Product) (given : Answer) : Type 0 where
  pub report : Report
  pub answers : given ≡ answer.Load product report
  pub right : IsReserveReport product months_between_loads report

-- of the product of a seed
abbrev pub IsLoaded : (seed : ℕ) → Answer → Type 0
IsLoaded seed given = SumsUp (generated_product seed) given
