-- What is answered of the bytes of a file.
use Rattle.std.specs.Prelude.{◌≡◌, ℕ, List, [], Result, Ok, Err, Vec, ⊤}
use Rattle.std.specs.declared.alloc.Global.{Global}
use Rattle.named_numbers.specs.Numbers.{months_of_year}
use Rattle.model_specs.specs.Product.{Product}
use Rattle.product_file.specs.Verdict.{Breaks, IsNotToml, IsValid}
use Rattle.reserve_report.specs.declared.report.Kind.TheVariants as kind
use Rattle.reserve_report.specs.declared.report.Report.{Report}
use Rattle.reserve_report.specs.Reports.{IsReport}
use Rattle.reserve_report.specs.ReportText.{report_text}
use Rattle.rule_breaks.specs.Breaks.{break_of}
use Rattle.embed_example.specs.declared.yearly.Refusal.{Refusal}
use Rattle.embed_example.specs.declared.yearly.Refusal.TheVariants.{NotToml, Rule, Memory}

-- the file has a product that breaks no rule, and the text is that of a right report of its reserves each year
pub record AreYearlyReserves (file text : List ℕ) : Type 0 where
  pub product : Product
  pub report : Report
  pub valid : IsValid file product
  pub right : IsReport product kind.Reserves months_of_year report
  pub written : text ≡ report_text product report []

-- why the file has no product
abbrev pub IsCauseOf : List ℕ → Refusal → Type 0
IsCauseOf file NotToml = IsNotToml file
IsCauseOf file (Rule found) = Breaks file (break_of found)
IsCauseOf file Memory = ⊤

-- the file has this product, which breaks no rule; or there is a cause
abbrev pub IsAdmissionOf : List ℕ → Result Product Refusal → Type 0
IsAdmissionOf file (Ok product) = IsValid file product
IsAdmissionOf file (Err refusal) = IsCauseOf file refusal

-- the file has these yearly reserves; or there is a cause
abbrev pub IsAnswerOn : List ℕ → Result (Vec ℕ Global) Refusal → Type 0
IsAnswerOn file (Ok text) = AreYearlyReserves file text.items
IsAnswerOn file (Err refusal) = IsCauseOf file refusal
