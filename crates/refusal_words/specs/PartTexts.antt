-- The lines under a refusal by its first wrong part, and under those that have one cause.
use Rattle.std.specs.Prelude.{ℕ, nat_lt, List, [], ◌∷◌, ◌++◌, length, slice_index_or, codes, if◌then◌else◌}
use Rattle.refusal_words.specs.RuleTexts.{rule_line, at_line}

-- what each part of `join` demands, from part 1 on
abbrev pub join_demands : List (List ℕ)
join_demands = [] ∷ codes "the term of the second file is as long as that of the first, or longer"
    ∷ codes "both files have the same den"
    ∷ codes "there are at most 12 pairs of a state of the first file and a state of the second" ∷ []

-- what each part of `compare` demands, from part 1 on
abbrev pub compare_demands : List (List ℕ)
compare_demands = [] ∷ codes "both files have the same term" ∷ codes "both files have the same den"
    ∷ codes "both files have the same number of states"
    ∷ codes "both files have states of the same names, in the same order" ∷ []

-- what each part of a change demands, from part 1 on
abbrev pub change_demands : List (List ℕ)
change_demands = [] ∷ codes "the changed den is at most 1000000000000"
    ∷ codes "the changed coefficients are whole numbers of 64 bits that keep the limits of a product file"
    ∷ codes "the file has a transition between these two states" ∷ codes "the file has a premium table"
    ∷ codes "the changed lumps and steps are whole numbers of 64 bits that keep the limits of a product file"
    ∷ codes "each payer's payments go on in whole coefficients where the premium ends" ∷ []

-- where the parts of `join` are found
abbrev pub join_keys : List (List ℕ)
join_keys = [] ∷ codes "months" ∷ codes "den" ∷ codes "states" ∷ []

-- where the parts of `compare` are found
abbrev pub compare_keys : List (List ℕ)
compare_keys = [] ∷ codes "months" ∷ codes "den" ∷ codes "states" ∷ codes "states" ∷ []

-- where the parts of a change are found
abbrev pub change_keys : List (List ℕ)
change_keys = [] ∷ codes "den" ∷ codes "interest and rates" ∷ codes "transition" ∷ codes "premium"
    ∷ codes "lumps and steps" ∷ codes "steps" ∷ []

-- a demand and where it is broken: no lines where there is no demand
unfoldable pub demand_lines : (demand words : List ℕ) → List ℕ
demand_lines demand words = if nat_lt 0 (length demand) then rule_line demand ++ at_line words else []

-- the lines of a part of `join`
abbrev pub join_text : ℕ → List ℕ
join_text part = demand_lines (slice_index_or join_demands part []) (slice_index_or join_keys part [])

-- the lines of a part of `compare`
abbrev pub compare_text : ℕ → List ℕ
compare_text part = demand_lines (slice_index_or compare_demands part []) (slice_index_or compare_keys part [])

-- the lines of a part of a change
abbrev pub change_text : ℕ → List ℕ
change_text part = demand_lines (slice_index_or change_demands part []) (slice_index_or change_keys part [])

-- the line of a file that is too long
abbrev pub length_text : List ℕ
length_text = codes "rule: a file has at most 1048576 bytes\n"

-- the line of a premium that cannot be told
abbrev pub premium_text : List ℕ
premium_text =
    codes "rule: the file has a premium table whose pattern is worth at least 1/32 at issue, by the lower end of its "
    ++ codes "interval\n"

-- the lines of words without a reading
abbrev pub words_text : List ℕ
words_text =
    codes "rule: the words are a command of help, with its files and numbers; csv and json stand before commands "
    ++ codes "with rows, explain before all but help and version\nwanted: EVERY is 1 to 1200, RATE is like 0.01 or "
    ++ codes "-0.01, FACTOR and EPS are like 0.01\n"
