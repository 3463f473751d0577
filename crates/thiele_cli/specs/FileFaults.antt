-- Why a file is refused, with what is known of its text.
use Rattle.std.specs.Prelude.{ℕ, List, []}
use Rattle.thiele_cli.specs.declared.file_break.FileBreak.{FileBreak}
use Rattle.thiele_cli.specs.declared.file_break.FileBreak.TheVariants as file
use Rattle.thiele_cli.specs.declared.file_break.FileRefusal.{FileRefusal}

-- why a file is refused, and its text, of which nothing is told where it is too long
pub record FileFault : Type 0 where
  pub cause : FileBreak
  pub text : List ℕ

-- what the program keeps of it
abbrev pub fault_in : FileRefusal → FileFault
fault_in refused = record { cause = refused.cause; text = refused.text.items }

-- a file is too long, and so many of its bytes were taken
abbrev pub too_long : ℕ → FileFault
too_long seen = record { cause = file.TooLong seen; text = [] }
