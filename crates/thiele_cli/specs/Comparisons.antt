-- What a comparison of two bases is answered by.
use Rattle.std.specs.Prelude.{◌≡◌, ◌⊎◌, ℕ, Some, None}
use Rattle.rule_breaks.specs.Breaks.{break_of}
use Rattle.rule_breaks.specs.declared.breaks.RuleBreak.{RuleBreak}
use Rattle.model_specs.specs.Product.{Product}
use Rattle.model_specs.specs.ValuationRules.{first_broken}
use Rattle.basis_compare.specs.declared.change_rows.Changes.{Changes}
use Rattle.basis_compare.specs.declared.differing.CompareBreak.{CompareBreak}
use Rattle.basis_compare.specs.Bases.{hybrid_of, first_difference}
use Rattle.basis_compare.specs.Changes.{AreChanges}
use Rattle.thiele_cli.specs.declared.answer.Answer.{Answer}
use Rattle.thiele_cli.specs.declared.answer.Answer.TheVariants as answer
use Rattle.thiele_cli.specs.declared.refusal.Refusal.TheVariants as refusal

-- bases that differ in a part are refused by the first such part
pub record AreRefused (old new : Product) (given : Answer) : Type 0 where
  pub broken : CompareBreak
  pub answers : given ≡ answer.Refused (refusal.Compare broken)
  pub first : first_difference old new ≡ Some broken

-- bases that don't are refused where their hybrid breaks a rule, which is then rule 18
pub record HaveNoHybrid (old new : Product) (given : Answer) : Type 0 where
  pub found : RuleBreak
  pub answers : given ≡ answer.Refused (refusal.Derived found)
  pub alike : first_difference old new ≡ None
  pub broken : first_broken (hybrid_of old new) ≡ Some (break_of found)
  pub last_rule : found.rule ≡ 18

-- all others have changes, each of which encloses the exact one and says its sign where it is proved
pub record HaveChanges (old new : Product) (every : ℕ) (given : Answer) : Type 0 where
  pub changes : Changes
  pub answers : given ≡ answer.Changes old new changes
  pub alike : first_difference old new ≡ None
  pub valued : first_broken (hybrid_of old new) ≡ None
  pub right : AreChanges old new every changes

-- the answer to `compare`
abbrev pub AnswersComparison : (old new : Product) → (every : ℕ) → Answer → Type 0
AnswersComparison old new every given =
    AreRefused old new given ⊎ HaveNoHybrid old new given ⊎ HaveChanges old new every given
