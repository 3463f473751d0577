-- What a request to change a product is answered by.
use Rattle.std.specs.Prelude.{◌≡◌, ◌⊎◌, ℕ, Vec, Some}
use Rattle.std.specs.declared.alloc.Global.{Global}
use Rattle.curve_pieces.specs.BrokenRules.{IsFirstBroken}
use Rattle.rule_breaks.specs.Breaks.{break_of}
use Rattle.rule_breaks.specs.declared.breaks.RuleBreak.{RuleBreak}
use Rattle.model_specs.specs.Product.{Product}
use Rattle.model_specs.specs.ValuationRules.{first_broken}
use Rattle.product_file.specs.Verdict.{IsValid}
use Rattle.file_changes.specs.Asks.{ShiftAsks, MultiplyAsks, ChargeAsks}
use Rattle.file_changes.specs.BasisChanges.{shifted, multiplied}
use Rattle.file_changes.specs.Charges.{charged}
use Rattle.file_changes.specs.declared.breaks.ChangeBreak.{ChangeBreak}
use Rattle.file_upgrade.specs.Upgraded.{IsOfFormat2}
use Rattle.thiele_cli.specs.declared.answer.Answer.{Answer}
use Rattle.thiele_cli.specs.declared.answer.Answer.TheVariants as answer
use Rattle.thiele_cli.specs.declared.refusal.Refusal.TheVariants as refusal
use Rattle.thiele_cli.specs.Questions.{Change, Shifted, Multiplied, Charged}

-- the record of a product that is changed
abbrev pub changed_by : Change → Product → Product
changed_by (Shifted rate) product = shifted rate.units rate.places product
changed_by (Multiplied from to factor) product = multiplied from to factor.units factor.places product
changed_by (Charged amount) product = charged amount product

-- what the parts of the change ask of the product, by their numbers
abbrev pub ChangeAsks : Change → Product → (part : ℕ) → Type 0
ChangeAsks (Shifted rate) product = ShiftAsks rate.units rate.places product
ChangeAsks (Multiplied from to factor) product = MultiplyAsks from to factor.units factor.places product
ChangeAsks (Charged amount) product = ChargeAsks amount product

-- a product that cannot be changed so is refused by the first part that is broken
pub record IsNotChanged (change : Change) (product : Product) (given : Answer) : Type 0 where
  pub broken : ChangeBreak
  pub answers : given ≡ answer.Refused (refusal.Change broken)
  pub first : IsFirstBroken (ChangeAsks change product) broken.part

-- one that can is refused where the changed record breaks a rule of valuation
pub record HasNoChangedFile (change : Change) (product : Product) (given : Answer) : Type 0 where
  pub found : RuleBreak
  pub answers : given ≡ answer.Refused (refusal.Derived found)
  pub keeps : (part : ℕ) → ChangeAsks change product part
  pub broken : first_broken (changed_by change product) ≡ Some (break_of found)

-- all others have a text of format 2, whose product is the changed record and breaks no rule
pub record IsChanged (change : Change) (product : Product) (given : Answer) : Type 0 where
  pub text : Vec ℕ Global
  pub answers : given ≡ answer.File text
  pub keeps : (part : ℕ) → ChangeAsks change product part
  pub valid : IsValid text.items (changed_by change product)
  pub format : IsOfFormat2 text.items

-- the answer to `shift`, `multiply` and `charge`
abbrev pub AnswersChange : Change → Product → Answer → Type 0
AnswersChange change product given =
    IsNotChanged change product given ⊎ HasNoChangedFile change product given ⊎ IsChanged change product given
