-- The basis between two others, by way of which they are compared.
use Rattle.std.specs.Prelude.{◌≡◌, ◌⊎◌, None}
use Rattle.model_specs.specs.Product.{Product}
use Rattle.model_specs.specs.ValuationRules.{IsAdmissible}
use Rattle.basis_compare.specs.Bases.{hybrid_of, first_difference}
use Rattle.thiele_cli.specs.declared.answer.Answer.TheVariants as answer
use Rattle.thiele_cli.specs.declared.comparison.Between.{Between}
use Rattle.thiele_cli.specs.declared.comparison.Between.TheVariants as between
use Rattle.thiele_cli.specs.declared.refusal.Refusal.{Refusal}
use Rattle.thiele_cli.specs.Comparisons.{AreRefused, HaveNoHybrid}
use Rattle.thiele_cli.specs.Replies.{HasLine}

-- the hybrid of two bases that can be compared, where it breaks no rule
pub record IsBetween (old new between : Product) : Type 0 where
  pub alike : first_difference old new ≡ None
  pub hybrid : between ≡ hybrid_of old new
  pub admissible : IsAdmissible between

-- the bases are refused, with a line that says why
pub record HaveNone (old new : Product) (why : Refusal) : Type 0 where
  pub refused : AreRefused old new (answer.Refused why) ⊎ HaveNoHybrid old new (answer.Refused why)
  pub line : HasLine why

-- what is told of it is so
abbrev pub TellsBetween : (old new : Product) → Between → Type 0
TellsBetween old new (between.Admitted basis) = IsBetween old new basis
TellsBetween old new (between.Refused why) = HaveNone old new why
