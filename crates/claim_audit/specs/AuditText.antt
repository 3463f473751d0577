-- The text of an audit, this product's own. Each line ends with a line feed, and fields are parted by one space.
use Rattle.std.specs.Prelude.{ℕ, ◌<◌, ℤ, Bool, true, false, List, [], ◌∷◌, ◌++◌, All, codes, decimal, length, count_by}
use Rattle.std.specs.Prelude.{slice_index_or}
use Rattle.decimal_out.specs.Millionths.{millionths}
use Rattle.model_specs.specs.Product.{Product}
use Rattle.claim_audit.specs.declared.auditing.Audited.{Audited}
use Rattle.claim_audit.specs.declared.finding.Finding.{Finding}
use Rattle.claim_audit.specs.declared.finding.Finding.TheVariants.{Yes, No, Undecided}
use Rattle.claim_audit.specs.declared.findings.Claim.{Claim}

-- each claim is about a state of the product
abbrev pub AreAboutStates : Product → Audited → Type 0
AreAboutStates product audited = All (λ claim. claim.state < length product.states) audited.claims.items

-- the word of a mark
abbrev pub mark_word : Finding → List ℕ
mark_word Yes = codes "yes"
mark_word No = codes "no"
mark_word Undecided = codes "undecided"

-- two marks are the same
abbrev pub are_same : (mark other : Finding) → Bool
are_same Yes Yes = true
are_same No No = true
are_same Undecided Undecided = true
are_same mark other = false

-- how many claims have this mark
abbrev pub marked : Finding → List Claim → ℕ
marked mark claims = count_by (λ claim. are_same claim.mark mark) claims

-- MONTH STATE, and a space
abbrev pub claim_subject : Product → Claim → List ℕ
claim_subject product claim =
    decimal claim.month ++ codes " " ++ slice_index_or product.states claim.state [] ++ codes " "

-- a number of millionths, and a space
abbrev pub number_field : ℤ → List ℕ
number_field number = millionths number ++ codes " "

-- CLAIM LO HI, and a space
abbrev pub claim_numbers : Claim → List ℕ
claim_numbers claim = number_field claim.claim ++ number_field claim.lo ++ number_field claim.hi

-- MONTH STATE CLAIM LO HI MARK
abbrev pub claim_line : Product → Claim → List ℕ
claim_line product claim =
    claim_subject product claim ++ claim_numbers claim ++ mark_word claim.mark ++ codes "\n"

-- the lines of the claims, in their order
abbrev pub claim_lines : Product → List Claim → List ℕ
claim_lines product [] = []
claim_lines product (claim ∷ claims) = claim_line product claim ++ claim_lines product claims

-- audit NAME
abbrev pub name_line : Product → List ℕ
name_line product = codes "audit " ++ product.name ++ codes "\n"

-- degree N eps E
abbrev pub degree_line : (degree : ℕ) → (eps : ℤ) → List ℕ
degree_line degree eps = codes "degree " ++ decimal degree ++ codes " eps " ++ millionths eps ++ codes "\n"

-- end yes Y no X undecided U
abbrev pub end_line : List Claim → List ℕ
end_line claims =
    codes "end yes " ++ decimal (marked Yes claims) ++ codes " no " ++ decimal (marked No claims)
    ++ codes " undecided " ++ decimal (marked Undecided claims) ++ codes "\n"

-- the whole text
abbrev pub audit_text : Product → (eps : ℤ) → Audited → List ℕ
audit_text product eps audited =
    name_line product ++ degree_line audited.degree eps ++ claim_lines product audited.claims.items
    ++ end_line audited.claims.items
