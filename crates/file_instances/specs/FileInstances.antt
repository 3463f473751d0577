-- What some texts read as: a whole product, the largest number of states of each format, and an amount that grows.
use Rattle.std.specs.Prelude.{◌≡◌, ℕ, pos, codes, List, [], ◌∷◌, ◌++◌, Some, Ok}
use Rattle.model_specs.specs.Product.{no_pattern}
use Rattle.model_laws.specs.Examples.{constant_curve}
use Rattle.product_file.specs.ReadInstances.{reads_text, Breaks}
use Rattle.product_instances.specs.Further.{further}

-- three months of three states, curves and sums that vary, and lumps
abbrev pub further_text : List ℕ
further_text =
    codes "format = 2\nname = \"further\"\nmonths = 3\nden = 20\nstart = \"well\"\n"
    ++ codes "states = [\"dead\", \"well\", \"ill\"]\n"
    ++ codes "interest = [{ from = 0, c = [1] }, { from = 2, c = [2, -12] }]\nlump = [\n"
    ++ codes "  { month = 3, state = \"well\", amount = 100 },\n  { month = 2, state = \"dead\", amount = 70 },\n"
    ++ codes "  { month = 2, state = \"well\", amount = -50 },\n  { month = 1, state = \"ill\", amount = 40 },\n"
    ++ codes "  { month = 0, state = \"well\", amount = 5 },\n  { month = 0, state = \"dead\", amount = 9 },\n]\n\n"
    ++ codes "[[transition]]\nfrom = \"well\"\nto = \"dead\"\n"
    ++ codes "rate = [{ from = 0, c = [2, -12] }, { from = 2, c = [1, 12] }]\nsum = [{ from = 0, c = [100, -48] }]\n\n"
    ++ codes "[[transition]]\nfrom = \"well\"\nto = \"ill\"\n"
    ++ codes "rate = [{ from = 0, c = [3] }, { from = 1, c = [1, 12] }]\n"
    ++ codes "sum = [{ from = 0, c = [50] }, { from = 2, c = [20, 24] }]\n\n"
    ++ codes "[[sojourn]]\nstate = \"well\"\nsteps = [{ from = 0, c = [120, 24] }, { from = 1, c = [60, -12] }]\n\n"
    ++ codes "[[sojourn]]\nstate = \"ill\"\nsteps = [{ from = 0, c = [36] }]\n"

-- it reads as this product
abbrev pub FurtherReads : Type 0
FurtherReads = reads_text further_text ≡ Some (Ok further)

-- nine states, in a format
abbrev pub nine_states : List ℕ → List ℕ
nine_states format = codes "format = " ++ format ++ codes "\nname = \"t\"\nmonths = 1\nden = 1\nstart = \"a\"\n"
    ++ codes "states = [\"a\", \"b\", \"c\", \"d\", \"e\", \"f\", \"g\", \"h\", \"i\"]\n"
    ++ codes "interest = [{ from = 0, c = [0] }]\n"

-- format 1 has at most eight states, and format 2 has more
pub record NineStates : Type 0 where
  pub format_1 : Breaks (nine_states (codes "1")) 3 1
  pub format_2 : reads_text (nine_states (codes "2")) ≡ Some (Ok (record {
    name = codes "t";
    states = codes "a" ∷ codes "b" ∷ codes "c" ∷ codes "d" ∷ codes "e" ∷ codes "f" ∷ codes "g" ∷ codes "h"
        ∷ codes "i" ∷ [];
    start = 0;
    months = 1;
    den = 1;
    interest = constant_curve (pos 0);
    transitions = [];
    sojourns = [];
    lumps = [];
    pattern = no_pattern;
  }))

-- a rate of 7 10^12 t a year is within 10^12 in the first month of a year, and not in the others
abbrev pub growing_amount : List ℕ
growing_amount = codes "format = 2\nname = \"t\"\nmonths = 12\nden = 1\nstart = \"a\"\nstates = [\"a\"]\n"
    ++ codes "interest = [{ from = 0, c = [0] }]\n[[sojourn]]\nstate = \"a\"\n"
    ++ codes "steps = [{ from = 0, c = [0, 7000000000000] }]\n"

-- so it breaks rule 11
abbrev pub GrowingAmountBreaks : Type 0
GrowingAmountBreaks = Breaks growing_amount 11 0
