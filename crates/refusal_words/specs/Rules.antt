-- The rules of a product file by their numbers, and what each demands, in words.
use Rattle.std.specs.Prelude.{ℕ, ◌-◌, ◌==◌, List, [], ◌∷◌, ◌++◌, Option, None, slice_get, codes, if◌then◌else◌}
use Rattle.refusal_words.specs.declared.rules.Rule.{Rule}
use Rattle.refusal_words.specs.declared.rules.Rule.TheVariants as rule

-- the rules in their order, from rule 1 on
abbrev pub rules : List Rule
rules = rule.Keys ∷ rule.Format ∷ rule.Names ∷ rule.Term ∷ rule.Denominator ∷ rule.Start ∷ rule.Transitions
    ∷ rule.Pieces ∷ rule.Coefficients ∷ rule.Steps ∷ rule.Amounts ∷ rule.Lumps ∷ rule.Payers ∷ rule.Pattern
    ∷ rule.Interest ∷ rule.Intensities ∷ rule.Exits ∷ rule.Bound ∷ []

-- the rule with a number, if there is one
abbrev pub rule_of : ℕ → Option Rule
rule_of number = if number == 0 then None else slice_get rules (number - 1)

-- what a rule demands
abbrev pub sentence_of : Rule → List ℕ
sentence_of rule.Keys = codes "the file has the keys of a product, each with its type, and no other key"
sentence_of rule.Format = codes "format is 1 or 2"
sentence_of rule.Names = codes "there are 1 to 8 states, in format 2 up to 12, no two alike; the name has 1 to 40 "
    ++ codes "bytes and each state's 1 to 24, all of them letters, digits, '.', '_' and '-'"
sentence_of rule.Term = codes "months is from 1 to 1200"
sentence_of rule.Denominator = codes "den is from 1 to 1000000000000"
sentence_of rule.Start = codes "start is the name of a state"
sentence_of rule.Transitions = codes "a transition has from, to and rate, perhaps sum, and no other key; it leads "
    ++ codes "from a state to another one, and no earlier one does so"
sentence_of rule.Pieces = codes "the pieces of a curve start at month 0, each later one after the one before, "
    ++ codes "all below months"
sentence_of rule.Coefficients =
    codes "in a piece of s months each coefficient c_i times s^i is at most 10^22 in size"
sentence_of rule.Steps = codes "a sojourn has state and steps, and no other one has its state; steps start at month 0, "
    ++ codes "each later one after the one before, all below months"
sentence_of rule.Amounts = codes "an amount is at most 1000000000000 in size, in each month"
sentence_of rule.Lumps = codes "a lump has month, state and amount; the month is from 0 to months, the amount at most "
    ++ codes "1000000000000 in size, and no earlier lump has the same month and state"
sentence_of rule.Payers =
    codes "premium has payers, until and every; there is a payer, each names a state, and no two the same"
sentence_of rule.Pattern = codes "until is from 1 to months, and every from 0 to 1200"
sentence_of rule.Interest = codes "the force of interest is from -0.02 to 0.25 a year"
sentence_of rule.Intensities = codes "an intensity is not negative"
sentence_of rule.Exits = codes "the greatest intensities of a month out of one state add up to at most 2 a year"
sentence_of rule.Bound = codes "the bound on all reserves is at most 2^66 units of 1/1024 minor units"
