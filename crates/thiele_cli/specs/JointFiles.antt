-- What a request to join two lives is answered by.
use Rattle.std.specs.Prelude.{◌≡◌, ◌⊎◌, ℕ, Vec, Some, None}
use Rattle.std.specs.declared.alloc.Global.{Global}
use Rattle.rule_breaks.specs.Breaks.{break_of}
use Rattle.rule_breaks.specs.declared.breaks.RuleBreak.{RuleBreak}
use Rattle.model_specs.specs.Product.{Product}
use Rattle.model_specs.specs.ValuationRules.{first_broken}
use Rattle.product_file.specs.Verdict.{IsValid}
use Rattle.file_upgrade.specs.Upgraded.{IsOfFormat2}
use Rattle.joint_life.specs.declared.breaks.JoinBreak.{JoinBreak}
use Rattle.joint_life.specs.Breaks.{first_break}
use Rattle.joint_life.specs.JointRecord.{joint_of}
use Rattle.joint_life.specs.Marginals.{HasMarginals}
use Rattle.thiele_cli.specs.declared.answer.Answer.{Answer}
use Rattle.thiele_cli.specs.declared.answer.Answer.TheVariants as answer
use Rattle.thiele_cli.specs.declared.refusal.Refusal.TheVariants as refusal

-- lives that cannot be joined are refused by the first part that is broken
pub record AreNotJoined (old new : Product) (given : Answer) : Type 0 where
  pub broken : JoinBreak
  pub answers : given ≡ answer.Refused (refusal.Join broken)
  pub first : first_break old new ≡ Some broken

-- those that can are refused where their joint record breaks a rule of valuation
pub record HaveNoJointFile (old new : Product) (given : Answer) : Type 0 where
  pub found : RuleBreak
  pub answers : given ≡ answer.Refused (refusal.Derived found)
  pub joined : first_break old new ≡ None
  pub broken : first_broken (joint_of old new) ≡ Some (break_of found)

-- all others have a text of format 2, whose product is the joint record and breaks no rule; in every degree, looked at
-- for one life alone, its probabilities are exactly that life's
pub record AreJoined (old new : Product) (given : Answer) : Type 0 where
  pub text : Vec ℕ Global
  pub answers : given ≡ answer.File text
  pub joined : first_break old new ≡ None
  pub valid : IsValid text.items (joint_of old new)
  pub format : IsOfFormat2 text.items
  pub marginals : HasMarginals (joint_of old new) old new

-- the answer to `join`
abbrev pub AnswersJoin : (old new : Product) → Answer → Type 0
AnswersJoin old new given = AreNotJoined old new given ⊎ HaveNoJointFile old new given ⊎ AreJoined old new given
