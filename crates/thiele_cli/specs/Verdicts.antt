-- The verdict on a product file, as the program keeps it.
use Rattle.std.specs.Prelude.{◌≡◌, ℕ, List}
use Rattle.rule_breaks.specs.Breaks.{break_of}
use Rattle.product_file.specs.Verdict.{IsNotToml, IsValid, Breaks}
use Rattle.thiele_cli.specs.declared.file_break.FileBreak.{FileBreak}
use Rattle.thiele_cli.specs.declared.file_break.FileBreak.TheVariants as file
use Rattle.thiele_cli.specs.declared.verdict.Verdict.{Verdict}
use Rattle.thiele_cli.specs.declared.verdict.Verdict.TheVariants as verdict
use Rattle.thiele_cli.specs.FileFaults.{fault_in}
use Rattle.thiele_cli.specs.Cases.{Files, HasFault, HasProduct}

-- bytes that are not too many are refused by this cause: they are no TOML, or they break this rule first
abbrev pub AreRefusedBy : List ℕ → FileBreak → Type 0
AreRefusedBy bytes (file.TooLong seen) = ⊥
AreRefusedBy bytes file.NotToml = IsNotToml bytes
AreRefusedBy bytes (file.Rule found) = Breaks bytes (break_of found)

-- they have this product, which breaks no rule, or they are refused, and kept
abbrev pub IsVerdictOn : List ℕ → Verdict → Type 0
IsVerdictOn bytes (verdict.Admitted product) = IsValid bytes product
IsVerdictOn bytes (verdict.Refused refused) = (refused.text.items ≡ bytes) × AreRefusedBy bytes refused.cause

-- the file of that name has this product, or it is refused by this cause, and its text is kept
abbrev pub IsVerdictOnFile : Files → List ℕ → Verdict → Type 0
IsVerdictOnFile files name (verdict.Admitted product) = HasProduct files name product
IsVerdictOnFile files name (verdict.Refused refused) = HasFault files name (fault_in refused)
