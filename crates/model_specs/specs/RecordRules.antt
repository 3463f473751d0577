-- Rules 3 to 14 of a product file, as far as the record of a product can break them. This product's own.
use Rattle.std.specs.Prelude.{◌≡◌, ◌≢◌, ℕ, suc, ◌-◌, ◌*◌, ◌^◌, ◌<◌, ◌≤◌, ℤ, pos, unsigned_abs, All, map, Bool}
use Rattle.std.specs.Prelude.{List, [], length, slice_index, slice_index_or, nat_le}
use Rattle.std.specs.List.{list_all}
use Rattle.named_numbers.specs.Numbers.{most_months, most_states, most_denominator, most_every}
use Rattle.named_numbers.specs.Numbers.{longest_product_name, longest_state_name}
use Rattle.named_numbers.specs.Numbers.{most_coefficient, most_amount, most_lump, bernstein_unit}
use Rattle.model_specs.specs.Curve.{Piece, zero_piece}
use Rattle.model_specs.specs.Product.{Product, Step}
use Rattle.model_specs.specs.Payments.{constant_step}
use Rattle.model_specs.specs.MonthNumbers.{coefficient_at, bernstein_numerators}
use Rattle.model_specs.specs.Names.{IsGoodName}
use Rattle.whole_laws.specs.Whole.{places}

-- the members of a list differ from each other
abbrev pub AreDistinct : {A : Type 0} → A → List A → Type 0
AreDistinct none xs = (i j : ℕ) → i < j → j < length xs → slice_index_or xs i none ≢ slice_index_or xs j none

-- rule 3: the product and its 1 to 12 states have good names, and no two states have the same
pub record HasGoodNames (product : Product) : Type 0 where
  pub name : IsGoodName longest_product_name product.name
  pub some_state : 1 ≤ length product.states
  pub at_most_twelve : length product.states ≤ most_states
  pub states : All (IsGoodName longest_state_name) product.states
  pub distinct : AreDistinct [] product.states

-- rules 4 to 6: a term of 1 to 1200 months, a denominator from 1 to 10^12, a start that is a state
pub record HasGoodHead (product : Product) : Type 0 where
  pub some_month : 1 ≤ product.months
  pub at_most_a_century : product.months ≤ most_months
  pub some_denominator : 1 ≤ product.den
  pub largest_denominator : product.den ≤ most_denominator
  pub start : product.start < length product.states

-- rule 7: each transition leads from a state to another one, and no two have the same pair of states
pub record HasGoodTransitions (product : Product) : Type 0 where
  pub from : All (λ t. t.from < length product.states) product.transitions
  pub to : All (λ t. t.to < length product.states) product.transitions
  pub different : All (λ t. t.from ≢ t.to) product.transitions
  pub distinct : AreDistinct {A = ℕ × ℕ} (0, 0) (map (λ t. (t.from, t.to)) product.transitions)

-- the first of some starts is 0, each later one is above the one before, and all are below the term
pub record StartsRise (months : ℕ) (starts : List ℕ) : Type 0 where
  pub some : 1 ≤ length starts
  pub first : slice_index starts 0 ≡ 0
  pub rising : (k : ℕ) → suc k < length starts → slice_index starts k < slice_index starts (suc k)
  pub below : (k : ℕ) → k < length starts → slice_index starts k < months

-- for how many months the part at a place holds: to the next one's start, or to the term
abbrev pub months_of : ℕ → List ℕ → ℕ → ℕ
months_of months starts k = slice_index_or starts (suc k) months - slice_index starts k

-- |c_i| s^i is at most 10^22 for each coefficient of a part that holds for s months
abbrev pub IsBounded : List ℤ → ℕ → Type 0
IsBounded c s = (i : ℕ) → i < length c → unsigned_abs (coefficient_at c i) * s ^ i ≤ most_coefficient

-- the starts of the pieces of a curve
abbrev pub piece_starts : List Piece → List ℕ
piece_starts pieces = map (λ piece. piece.from) pieces

-- rule 8 of a curve: its pieces have six coefficients and starts in order
pub record IsCurve (months : ℕ) (pieces : List Piece) : Type 0 where
  pub six : All (λ piece. length piece.c ≡ 6) pieces
  pub starts : StartsRise months (piece_starts pieces)

-- rule 9 of a curve: its pieces are bounded
abbrev pub IsBoundedCurve : ℕ → List Piece → Type 0
IsBoundedCurve months pieces = (k : ℕ) → k < length pieces →
    IsBounded (slice_index_or pieces k zero_piece).c (months_of months (piece_starts pieces) k)

-- the starts of the steps of a payment
abbrev pub step_starts : List Step → List ℕ
step_starts steps = map (λ step. step.from) steps

-- rule 10 of a list of steps: they have four coefficients and starts in order
pub record IsPayment (months : ℕ) (steps : List Step) : Type 0 where
  pub four : All (λ step. length step.c ≡ 4) steps
  pub starts : StartsRise months (step_starts steps)

-- rule 11 of a step of s months: it is bounded, and so is each Bernstein coefficient of its amount in
-- each month, by 10^12 minor units
pub record IsBoundedStep (c : List ℤ) (s : ℕ) : Type 0 where
  pub coefficients : IsBounded c s
  pub amounts : (k : ℕ) → k < s →
      All (λ b. unsigned_abs b ≤ most_amount * bernstein_unit) (bernstein_numerators c k)

-- rule 11 of a list of steps
abbrev pub IsBoundedPayment : ℕ → List Step → Type 0
IsBoundedPayment months steps = (k : ℕ) → k < length steps →
    IsBoundedStep (slice_index_or steps k (constant_step 0 (pos 0))).c
    (months_of months (step_starts steps) k)

-- rules 8 and 9 of all curves
pub record HasGoodCurves (product : Product) : Type 0 where
  pub interest : IsCurve product.months product.interest
  pub rates : All (λ t. IsCurve product.months t.rate) product.transitions
  pub bounded_interest : IsBoundedCurve product.months product.interest
  pub bounded_rates : All (λ t. IsBoundedCurve product.months t.rate) product.transitions

-- rules 10 and 11: each sojourn names a state of its own; a transition with no steps has no sum
pub record HasGoodPayments (product : Product) : Type 0 where
  pub states : All (λ s. s.state < length product.states) product.sojourns
  pub distinct : AreDistinct 0 (map (λ s. s.state) product.sojourns)
  pub sojourns : All (λ s. IsPayment product.months s.steps) product.sojourns
  pub sums : All (λ t. 1 ≤ length t.sum → IsPayment product.months t.sum) product.transitions
  pub bounded_sojourns : All (λ s. IsBoundedPayment product.months s.steps) product.sojourns
  pub bounded_sums : All (λ t. IsBoundedPayment product.months t.sum) product.transitions

-- rule 12: each lump has a date of the term, a state and an amount of at most 10^12, and no two have the
-- same date and state
pub record HasGoodLumps (product : Product) : Type 0 where
  pub dates : All (λ l. l.month ≤ product.months) product.lumps
  pub states : All (λ l. l.state < length product.states) product.lumps
  pub amounts : All (λ l. unsigned_abs l.amount ≤ most_lump) product.lumps
  pub distinct : AreDistinct {A = ℕ × ℕ} (0, 0) (map (λ l. (l.month, l.state)) product.lumps)

-- rules 13 and 14: the payers are states and differ; a pattern that pays ends within the term, at a date
-- above 0, and one without payers is the pattern that never pays
pub record HasGoodPattern (product : Product) : Type 0 where
  pub payers : All (λ i. i < length product.states) product.pattern.payers
  pub distinct : AreDistinct 0 product.pattern.payers
  pub until_above_0 : 1 ≤ length product.pattern.payers → 1 ≤ product.pattern.until
  pub until_within : product.pattern.until ≤ product.months
  pub every : product.pattern.every ≤ most_every
  pub never_until : product.pattern.payers ≡ [] → product.pattern.until ≡ 0
  pub never_every : product.pattern.payers ≡ [] → product.pattern.every ≡ 0

-- rules 3 to 14
pub record IsWellFormed (product : Product) : Type 0 where
  pub names : HasGoodNames product
  pub head : HasGoodHead product
  pub transitions : HasGoodTransitions product
  pub curves : HasGoodCurves product
  pub payments : HasGoodPayments product
  pub lumps : HasGoodLumps product
  pub pattern : HasGoodPattern product

-- |c_i| s^i is not too large for each coefficient of a part that holds for s months
abbrev pub is_bounded : List ℤ → ℕ → Bool
is_bounded c s =
    list_all (λ i. nat_le (unsigned_abs (coefficient_at c i) * s ^ i) most_coefficient) (places (length c))
