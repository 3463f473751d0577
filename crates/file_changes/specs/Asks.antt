-- What a change asks of a product and of itself, by numbered parts. This product's own.
use Rattle.std.specs.Prelude.{◌≡◌, ℕ, zero, suc, ◌≤◌, ℤ, All, IsTrue, unsigned_abs, List, length}
use Rattle.std.specs.List.{list_any}
use Rattle.named_numbers.specs.Numbers.{most_denominator, most_lump}
use Rattle.model_specs.specs.Curve.{Piece}
use Rattle.model_specs.specs.Product.{Product, Lump}
use Rattle.model_specs.specs.RecordRules.{IsBoundedCurve}
use Rattle.file_changes.specs.BasisChanges.{finer, leads, shifted, multiplied}
use Rattle.file_changes.specs.Charges.{charged_lumps}
use Rattle.file_changes.specs.ContinuousAsks.{AreWords, AreSmallSojourns, PayersGoOnWhole}
use Rattle.file_changes.specs.ContinuousCharges.{charged_sojourns}

-- the coefficients of all pieces of a curve are numbers of 64 bits
abbrev pub HaveWords : List Piece → Type 0
HaveWords pieces = All (λ piece. AreWords piece.c) pieces

-- the coefficients of a curve are numbers of 64 bits, and obey rule 9
pub record IsSmallCurve (months : ℕ) (pieces : List Piece) : Type 0 where
  pub words : HaveWords pieces
  pub bounded : IsBoundedCurve months pieces

-- so do those of all curves of a product
pub record HasSmallCurves (product : Product) : Type 0 where
  pub interest : IsSmallCurve product.months product.interest
  pub rates : All (λ t. IsSmallCurve product.months t.rate) product.transitions

-- there is a transition between the named states
abbrev pub HasTransition : (from to : List ℕ) → Product → Type 0
HasTransition from to product = IsTrue (list_any (leads product from to) product.transitions)

-- what the parts of a change of the basis ask, by their numbers: 1, a denominator that is not too large; 2, small
-- curves; 3, a transition
abbrev pub BasisAsks : (den : ℕ) → (Curves Transition : Type 0) → (part : ℕ) → Type 0
BasisAsks den Curves Transition (suc zero) = den ≤ most_denominator
BasisAsks den Curves Transition (suc (suc zero)) = Curves
BasisAsks den Curves Transition (suc (suc (suc zero))) = Transition
BasisAsks den Curves Transition part = Unit

-- those of a shift of the force of interest
abbrev pub ShiftAsks : (units : ℤ) → (places : ℕ) → Product → (part : ℕ) → Type 0
ShiftAsks units places product =
    BasisAsks (finer places product) (HasSmallCurves (shifted units places product)) Unit

-- those of an intensity that is multiplied
abbrev pub MultiplyAsks : (from to : List ℕ) → (units : ℤ) → (places : ℕ) → Product → (part : ℕ) → Type 0
MultiplyAsks from to units places product = BasisAsks (finer places product)
    (HasSmallCurves (multiplied from to units places product)) (HasTransition from to product)

-- lumps of at most 10^12
abbrev pub AreSmallLumps : List Lump → Type 0
AreSmallLumps lumps = All (λ l. unsigned_abs l.amount ≤ most_lump) lumps

-- the payments that are charged are small: sojourn payments that obey rule 11, or lumps of at most 10^12
pub record AreSmallPayments (amount : ℤ) (product : Product) : Type 0 where
  pub continuous : product.pattern.every ≡ 0 → AreSmallSojourns product.months (charged_sojourns amount product)
  pub dated : 1 ≤ product.pattern.every → AreSmallLumps (charged_lumps amount product)

-- what the parts of a charge ask, by their numbers: 4, a premium table; 5, small payments; 6, of a continuous premium,
-- payments that go on in whole numbers at its end
abbrev pub ChargeAsks : (amount : ℤ) → Product → (part : ℕ) → Type 0
ChargeAsks amount product (suc (suc (suc (suc zero)))) = 1 ≤ length product.pattern.payers
ChargeAsks amount product (suc (suc (suc (suc (suc zero))))) = AreSmallPayments amount product
ChargeAsks amount product (suc (suc (suc (suc (suc (suc zero)))))) =
    product.pattern.every ≡ 0 → PayersGoOnWhole product
ChargeAsks amount product part = Unit
