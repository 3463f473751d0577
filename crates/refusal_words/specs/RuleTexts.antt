-- The lines under a broken rule.
use Rattle.std.specs.Prelude.{ℕ, List, [], ◌++◌, Option, Some, None, codes}
use Rattle.toml.specs.Data.{Members}
use Rattle.rule_breaks.specs.declared.breaks.RuleBreak.{RuleBreak}
use Rattle.refusal_words.specs.declared.places.Place.{Place}
use Rattle.refusal_words.specs.declared.rules.Rule.{Rule}
use Rattle.refusal_words.specs.Findings.{finding_lines, finding_of}
use Rattle.refusal_words.specs.Places.{place_of}
use Rattle.refusal_words.specs.PlaceTexts.{curve_in_month, file_place, plain_place}
use Rattle.refusal_words.specs.Rules.{rule_of, sentence_of}

-- rule: what it demands
unfoldable pub rule_line : List ℕ → List ℕ
rule_line sentence = codes "rule: " ++ sentence ++ codes "\n"

-- at: a place
unfoldable pub at_line : List ℕ → List ℕ
at_line words = codes "at: " ++ words ++ codes "\n"

-- the lines of a rule that a file breaks at a place
unfoldable pub file_lines : Members → Rule → Place → List ℕ
file_lines tree rule place =
    rule_line (sentence_of rule) ++ at_line (file_place tree place ++ curve_in_month tree rule place)
    ++ finding_lines tree (finding_of tree rule place)

-- the lines of a rule that a product without a file breaks at a place
unfoldable pub plain_lines : Rule → Place → List ℕ
plain_lines rule place = rule_line (sentence_of rule) ++ at_line (plain_place place)

-- the lines of a broken rule of the file with this tree: none for a number that is no rule's
unfoldable pub rule_text_of : Members → Option Rule → ℕ → List ℕ
rule_text_of tree None number = []
rule_text_of tree (Some rule) number = file_lines tree rule (place_of rule number)

-- the same without a file
unfoldable pub derived_text_of : Option Rule → ℕ → List ℕ
derived_text_of None number = []
derived_text_of (Some rule) number = plain_lines rule (place_of rule number)

-- the lines of a broken rule of the file with this tree
abbrev pub rule_text : Members → RuleBreak → List ℕ
rule_text tree found = rule_text_of tree (rule_of found.rule) found.place

-- the lines of a broken rule of a product that was made of files
abbrev pub derived_text : RuleBreak → List ℕ
derived_text found = derived_text_of (rule_of found.rule) found.place
