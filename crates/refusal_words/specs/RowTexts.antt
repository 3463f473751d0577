-- The lines under a refusal by the first wrong row of a table.
use Rattle.std.specs.Prelude.{ℕ, List, [], ◌∷◌, ◌++◌, slice_index_or, codes, decimal}
use Rattle.rule_breaks.specs.declared.breaks.RowBreak.{RowBreak}
use Rattle.refusal_words.specs.declared.row_texts.CsvTable.{CsvTable}
use Rattle.refusal_words.specs.declared.row_texts.CsvTable.TheVariants as table
use Rattle.refusal_words.specs.PartTexts.{demand_lines}
use Rattle.refusal_words.specs.RowFindings.{row_found}

-- what each part of a claim demands
abbrev pub claim_demands : List (List ℕ)
claim_demands = codes "the first record is month,state,reserve" ∷ codes "a claim has three fields"
    ∷ codes "month is 0, or 1 to 4 digits without a leading zero, and at most the term"
    ∷ codes "state is the name of a state of the product"
    ∷ codes "reserve is 1 to 18 digits, no needless zero, perhaps a point and 1 to 6 digits, perhaps - before them" ∷ []

-- what each part of a holding demands
abbrev pub holding_demands : List (List ℕ)
holding_demands = codes "the first record is file,group,month,state,count" ∷ codes "a holding has five fields"
    ∷ codes "file is the name of a file, and there are at most 16 different ones"
    ∷ codes "group is 1 to 24 letters, digits, '.', '_' and '-'"
    ∷ codes "month is 0, or 1 to 4 digits without a leading zero, and at most 1200"
    ∷ codes "count is 1 to 7 digits without a leading zero, from 1 to 1000000"
    ∷ codes "month is at most the term of the product" ∷ codes "state is the name of a state of the product" ∷ []

-- what each part of an entry of totals demands
abbrev pub total_demands : List (List ℕ)
total_demands = codes "the first record is group,lo,hi,tolerance" ∷ codes "an entry has four fields"
    ∷ codes "group is 1 to 24 letters, digits, '.', '_' and '-'"
    ∷ codes "lo is 1 to 18 digits, no needless zero, perhaps a point and 1 to 6 digits, perhaps - before them"
    ∷ codes "hi is such a number too, and not below lo"
    ∷ codes "tolerance is such a number without a sign, and at least hi less lo" ∷ []

-- the field of each part of a claim
abbrev pub claim_fields : List (List ℕ)
claim_fields = [] ∷ [] ∷ codes ", month" ∷ codes ", state" ∷ codes ", reserve" ∷ []

-- the field of each part of a holding
abbrev pub holding_fields : List (List ℕ)
holding_fields = [] ∷ [] ∷ codes ", file" ∷ codes ", group" ∷ codes ", month" ∷ codes ", count" ∷ codes ", month"
    ∷ codes ", state" ∷ []

-- the field of each part of an entry of totals
abbrev pub total_fields : List (List ℕ)
total_fields = [] ∷ [] ∷ codes ", group" ∷ codes ", lo" ∷ codes ", hi" ∷ codes ", tolerance" ∷ []

-- what a part of a table demands
abbrev pub demand_of : CsvTable → ℕ → List ℕ
demand_of table.Claims part = slice_index_or claim_demands part []
demand_of table.Holdings part = slice_index_or holding_demands part []
demand_of table.Totals part = slice_index_or total_demands part []

-- the field of a part of a table
abbrev pub field_of : CsvTable → ℕ → List ℕ
field_of table.Claims part = slice_index_or claim_fields part []
field_of table.Holdings part = slice_index_or holding_fields part []
field_of table.Totals part = slice_index_or total_fields part []

-- a record, counted from the header, which is 0, and a field
unfoldable pub record_words : (row : ℕ) → (field : List ℕ) → List ℕ
record_words row field = codes "record " ++ decimal row ++ field

-- the lines of a row that is wrong, by all records of the table: none for a part that the table has not
abbrev pub row_text : CsvTable → RowBreak → (records : List (List (List ℕ))) → List ℕ
row_text table broken records =
    demand_lines (demand_of table broken.part) (record_words broken.row (field_of table broken.part))
    ++ row_found table broken records
