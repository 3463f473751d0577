-- What small files read as, from their text on.
use Rattle.std.specs.Prelude.{◌≡◌, ℕ, pos, negsuc, codes, List, [], ◌∷◌, ◌++◌, Option, Some, option_map}
use Rattle.std.specs.Prelude.{Result, Ok, Err}
use Rattle.toml.specs.Parse.{parse_document}
use Rattle.model_specs.specs.Product.{Product}
use Rattle.model_specs.specs.ValuationRules.{RuleBreak}
use Rattle.product_file.specs.Reads.{reads}

-- what a text reads as, where it is TOML
abbrev pub reads_text : List ℕ → Option (Result Product RuleBreak)
reads_text text = option_map reads (parse_document text)

-- an insurance for two months, in format 1: one intensity, the sum at death, a lump and a premium pattern
abbrev pub term_insurance : List ℕ
term_insurance =
    codes "format = 1\nname = \"t\"\nmonths = 2\nden = 50\nstart = \"on\"\nstates = [\"off\", \"on\"]\n"
    ++ codes "interest = [{ from = 0, c = [-1] }, { from = 1, c = [0, 2] }]\n"
    ++ codes "transition = [{ from = \"on\", to = \"off\", rate = [{ from = 0, c = [3] }], "
    ++ codes "sum = [{ from = 0, amount = 7 }] }]\nlump = [{ month = 2, state = \"on\", amount = 5 }]\n"
    ++ codes "premium = { payers = [\"on\"], until = 2, every = 1 }\n"

-- it reads as this product
abbrev pub TermInsuranceReads : Type 0
TermInsuranceReads = reads_text term_insurance ≡ Some (Ok (record {
  name = codes "t";
  states = codes "off" ∷ codes "on" ∷ [];
  start = 1;
  months = 2;
  den = 50;
  interest = (record { from = 0; c = negsuc 0 ∷ pos 0 ∷ pos 0 ∷ pos 0 ∷ pos 0 ∷ pos 0 ∷ [] })
      ∷ (record { from = 1; c = pos 0 ∷ pos 2 ∷ pos 0 ∷ pos 0 ∷ pos 0 ∷ pos 0 ∷ [] }) ∷ [];
  transitions = (record {
    from = 1;
    to = 0;
    rate = (record { from = 0; c = pos 3 ∷ pos 0 ∷ pos 0 ∷ pos 0 ∷ pos 0 ∷ pos 0 ∷ [] }) ∷ [];
    sum = (record { from = 0; c = pos 7 ∷ pos 0 ∷ pos 0 ∷ pos 0 ∷ [] }) ∷ [];
  }) ∷ [];
  sojourns = [];
  lumps = (record { month = 2; state = 1; amount = pos 5 }) ∷ [];
  pattern = record { payers = 1 ∷ []; until = 2; every = 1 };
}))

-- a file of two months and two states with some further lines
abbrev pub two_states : List ℕ → List ℕ
two_states lines =
    codes "format = 1\nname = \"t\"\nmonths = 2\nden = 1\nstart = \"a\"\nstates = [\"a\", \"b\"]\n" ++ lines

-- the force of interest of such a file
abbrev pub no_interest : List ℕ
no_interest = codes "interest = [{ from = 0, c = [0] }]\n"

-- a transition from one of the states to the other, with its intensity and, after it, further members
abbrev pub from_a_to_b : List ℕ → List ℕ → List ℕ
from_a_to_b rate more =
    codes "[[transition]]\nfrom = \"a\"\nto = \"b\"\nrate = [" ++ rate ++ codes "]\n" ++ more

-- a sojourn in a state, with its steps
abbrev pub sojourn_in_a : List ℕ → List ℕ
sojourn_in_a steps = codes "[[sojourn]]\nstate = \"a\"\nsteps = [" ++ steps ++ codes "]\n"

-- a file of one state and so many months, the text of which starts with its format, with some further lines
abbrev pub one_state : List ℕ → List ℕ → List ℕ
one_state months lines =
    codes "format = 1\nname = \"t\"\nden = 1\nstart = \"x\"\nmonths = " ++ months ++ codes "\n" ++ lines

-- a premium pattern of one payer, with `every`
abbrev pub pattern : List ℕ → List ℕ → List ℕ
pattern payers every =
    codes "[premium]\nuntil = 1\npayers = [" ++ payers ++ codes "]\nevery = " ++ every

-- the text breaks this rule first, at this place
abbrev pub Breaks : List ℕ → ℕ → ℕ → Type 0
Breaks text rule place = reads_text text ≡ Some (Err (record { rule = rule; place = place }))

-- a key without its type, a missing key, an unknown one, and an array for a table
pub record KeysBreak : Type 0 where
  pub no_whole : Breaks (codes "format = true") 1 0
  pub missing : Breaks (two_states []) 1 6
  pub unknown : Breaks (two_states (no_interest ++ codes "x = 1")) 1 11
  pub other_type : Breaks (two_states (no_interest ++ codes "premium = []")) 1 10

-- the same state twice, and a start that is no state
pub record StatesBreak : Type 0 where
  pub twice : Breaks (one_state (codes "1") (codes "states = [\"a\", \"a\"]\ninterest = []")) 3 3
  pub start : Breaks (one_state (codes "1") (codes "states = [\"a\"]\ninterest = []")) 6 0

-- a transition from a state to itself; a piece that starts at the term; a curve whose fault is of rule 8 stands before
-- one whose fault is of rule 9; a piece that is too large
pub record CurvesBreak : Type 0 where
  pub itself : Breaks (two_states (no_interest ++ codes "transition = [{ from = \"a\", to = \"a\", rate = [] }]")) 7 0
  pub at_the_term : Breaks (two_states (codes "interest = [{ from = 0, c = [0] }, { from = 2, c = [0] }]")) 8 1
  pub rule_8_first : Breaks (two_states (codes "interest = [{ from = 0, c = [0, 0, 0, 9000000000000000000] }]\n"
      ++ from_a_to_b (codes "{ from = 1, c = [0] }") [])) 8 4096
  pub too_large : Breaks (one_state (codes "1200")
      (codes "states = [\"x\"]\ninterest = [{ from = 0, c = [0, 9000000000000000000] }]")) 9 0

-- a sum without a step, a sojourn named twice, an amount above 10^12, a lump named twice
pub record PaymentsBreak : Type 0 where
  pub no_step : Breaks (two_states (no_interest ++ from_a_to_b (codes "{ from = 0, c = [0] }") (codes "sum = []"))) 10 0
  pub twice : Breaks (two_states (no_interest ++ sojourn_in_a (codes "{ from = 0, amount = 1 }")
      ++ sojourn_in_a (codes "{ from = 0, amount = 1 }"))) 10 4096
  pub too_large : Breaks (two_states (no_interest
      ++ sojourn_in_a (codes "{ from = 0, amount = 1 }, { from = 1, amount = 1000000000001 }"))) 11 1
  pub lump_twice : Breaks (two_states (no_interest
      ++ codes "lump = [{ month = 2, state = \"b\", amount = 0 }, { month = 2, state = \"b\", amount = 1 }]")) 12 1

-- a premium table without its keys, no payer, a payer that is no state, and `every` above 1200
pub record PatternBreaks : Type 0 where
  pub no_key : Breaks (two_states (no_interest ++ codes "[premium]")) 13 0
  pub no_payer : Breaks (two_states (no_interest ++ pattern [] (codes "0"))) 13 1
  pub no_state : Breaks (two_states (no_interest ++ pattern (codes "\"b\", \"c\"") (codes "0"))) 13 2
  pub every : Breaks (two_states (no_interest ++ pattern (codes "\"b\"") (codes "1201"))) 14 1
