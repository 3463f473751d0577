-- How a refusal ends a run, and the line that tells it. This product's own.
use Rattle.std.specs.Prelude.{ℕ, ◌^◌, ℤ, pos, ◌*ℤ◌, List, ◌++◌, codes, decimal}
use Rattle.decimal_out.specs.Millionths.{millionths}
use Rattle.frac_laws.specs.Rounding.{floor_of}
use Rattle.rule_breaks.specs.declared.breaks.RowBreak.{RowBreak}
use Rattle.rule_breaks.specs.declared.breaks.RuleBreak.{RuleBreak}
use Rattle.thiele_cli.specs.declared.end.End.{End}
use Rattle.thiele_cli.specs.declared.end.End.TheVariants as end
use Rattle.thiele_cli.specs.declared.file_break.FileBreak.{FileBreak}
use Rattle.thiele_cli.specs.declared.file_break.FileBreak.TheVariants as file
use Rattle.thiele_cli.specs.declared.policy_break.PolicyBreak.{PolicyBreak}
use Rattle.thiele_cli.specs.declared.refusal.Refusal.{Refusal}
use Rattle.thiele_cli.specs.declared.refusal.Refusal.TheVariants as refusal

-- the end of a run whose first file is refused
abbrev pub file_end : FileBreak → End
file_end (file.TooLong seen) = end.TooLong seen
file_end file.NotToml = end.NotToml
file_end (file.Rule found) = end.Rule found

-- the end of a run that is refused
abbrev pub refused_end : Refusal → End
refused_end refusal.Words = end.BadWords
refused_end (refusal.First cause) = file_end cause
refused_end (refusal.Second cause) = end.Second cause
refused_end (refusal.Premium low) = end.NoPremium low
refused_end (refusal.Join broken) = end.Join broken
refused_end (refusal.Derived found) = end.Derived found
refused_end (refusal.Compare broken) = end.Compare broken
refused_end (refusal.Row table broken) = end.Row broken
refused_end (refusal.Policy broken) = end.Policy broken
refused_end (refusal.Change broken) = end.Change broken

-- rule K place P
abbrev pub rule_words : RuleBreak → List ℕ
rule_words found = codes "rule " ++ decimal found.rule ++ codes " place " ++ decimal found.place

-- length SEEN, or toml, or rule K place P
abbrev pub file_words : FileBreak → List ℕ
file_words (file.TooLong seen) = codes "length " ++ decimal seen
file_words file.NotToml = codes "toml"
file_words (file.Rule found) = rule_words found

-- refused premium low X, where X is the lower end, in units of 2^-64, rounded down to millionths
abbrev pub premium_line : ℤ → List ℕ
premium_line low =
    codes "refused premium low " ++ millionths (floor_of (low *ℤ pos (10 ^ 6)) (pos (2 ^ 64))) ++ codes "\n"

-- refused row R part K
abbrev pub row_line : RowBreak → List ℕ
row_line broken = codes "refused row " ++ decimal broken.row ++ codes " part " ++ decimal broken.part ++ codes "\n"

-- refused policy file F, and the words that tell the cause
abbrev pub policy_line : PolicyBreak → List ℕ
policy_line broken =
    codes "refused policy file " ++ decimal broken.file ++ codes " " ++ file_words broken.cause ++ codes "\n"

-- the line of a refusal
abbrev pub line_of : Refusal → List ℕ
line_of refusal.Words = codes "refused words\n"
line_of (refusal.First cause) = codes "refused " ++ file_words cause ++ codes "\n"
line_of (refusal.Second cause) = codes "refused second " ++ file_words cause ++ codes "\n"
line_of (refusal.Premium low) = premium_line low
line_of (refusal.Join broken) = codes "refused join part " ++ decimal broken.part ++ codes "\n"
line_of (refusal.Derived found) = codes "refused derived " ++ rule_words found ++ codes "\n"
line_of (refusal.Compare broken) = codes "refused compare part " ++ decimal broken.part ++ codes "\n"
line_of (refusal.Row table broken) = row_line broken
line_of (refusal.Policy broken) = policy_line broken
line_of (refusal.Change broken) = codes "refused change part " ++ decimal broken.part ++ codes "\n"
